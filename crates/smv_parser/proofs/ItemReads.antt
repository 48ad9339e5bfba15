-- Declarations, assignments and definitions are read exactly.
use Rattle.std.proofs.Common.{◌≡◌, ℕ, zero, suc, ◌+◌, ◌≤◌, cond, Bool, true, false, ◌⊎◌, inl, inr, List, [], ◌∷◌, ◌++◌, max, Option, Some, None, refl, sym, ◌∙◌, ap, subst, arith, append_assoc}
use Rattle.reader_laws.specs.Reading.{Reading, ◌>>=◌, accept, after_first, enclosed, headed, both, switch, first_is}
use Rattle.reader_laws.proofs.Readers.{Reads, EachOf, EachFits, ManyEnds}
use Rattle.reader_laws.proofs.More.{Headed, Enclosed, Both, BothFit, AnyOf, Alternative, map_reads, renamed_reads, headed_reads, enclosed_reads, both_reads, reads_alternative, no_alternative, switch_reads, all_end}
use Rattle.smv_lexer.specs.declared.keyword.Keyword.{Keyword}
use Rattle.smv_lexer.specs.declared.sign.Sign.{Sign}
use Rattle.smv_lexer.specs.Text.{Kind, Placed}
use Rattle.smv_lexer.specs.Text.Kind.{word, key, mark}
use Rattle.smv_parser.specs.declared.program.LeftKind.{LeftKind}
use Rattle.smv_parser.specs.Tree.{Tree, PathTree, PathTail, path_on, depth, path_depth, parts_depth}
use Rattle.smv_parser.specs.Words.{Is, BeginsOn}
use Rattle.smv_parser.specs.Grammar.{DerivesPath}
use Rattle.smv_parser.specs.Program.{Lined, TypeForm, Declaration, Left, Assignment, Definition, type_depth, assignment_depth}
use Rattle.smv_parser.specs.Programs.{DerivesAssignment, DerivesDeclaration, DerivesDefinition, DerivesLeft, DerivesName, DerivesType, Expression, OnLine}
use Rattle.smv_parser.specs.Tests.{is_sign, sign_is, sign_number}
use Rattle.smv_parser.specs.Openings.{begins_left, begins_name, formal_of, kind_is_word, kind_left, left_of, some_is}
use Rattle.smv_parser.specs.Reading.{begins_part, path_line, read}
use Rattle.smv_parser.specs.ProgramReading.{lined, path_within, left_tail, left_by, read_left, read_type, read_declaration, read_assignment, read_definition}
use Rattle.smv_parser.proofs.TokenTests.{sign_is-kind}
use Rattle.smv_parser.proofs.Follow.{Ends, PathEnds, BeginsOn-append}
use Rattle.smv_parser.proofs.Operators.{some_name}
use Rattle.smv_parser.proofs.Operands.{sign_token, open_alternative, ends_at_sign}
use Rattle.smv_parser.proofs.Shapes.{is_it, sign_of}
use Rattle.smv_parser.proofs.Whole.{expression_reads, path_reads}
use Rattle.smv_parser.proofs.Starts.{LeftIs, left_is, line_of_first}
use Rattle.smv_parser.proofs.TokenReads.{AnyFits, Free, decide_depth, formal_reads, same_first_line}
use Rattle.smv_parser.proofs.TypeReads.{typed_reads}

-- an expression and the semicolon after it
module _ (b : ℕ) (pos : 1 ≤ b) where
  pub closed_reads : Reads (Enclosed (is_sign Sign.Semicolon) Expression) (λ e. depth e ≤ b) Free (enclosed (is_sign Sign.Semicolon) (read b 1))
  unfolding sign_number
  closed_reads = enclosed_reads (is_sign Sign.Semicolon) (sign_token Sign.Semicolon) refl Expression (λ e. depth e ≤ b) (Ends 1) (read b 1) (expression_reads b pos 1)
      (λ e c r h. ends_at_sign Sign.Semicolon (refl, refl) e c r h) (λ e. decide_depth (depth e) b)

-- declarations

abbrev DeclarationIs : List Placed → Lined (List ℕ) × Lined TypeForm → Type 0
DeclarationIs = Both (Enclosed (is_sign Sign.Colon) (OnLine DerivesName)) (Enclosed (is_sign Sign.Semicolon) (OnLine DerivesType))

abbrev declared : Lined (List ℕ) × Lined TypeForm → Lined Declaration
declared x = lined x.0.line (record { name = x.0.form; form = x.1 })

declaration_to : (ts : List Placed) (x : Lined (List ℕ) × Lined TypeForm) → DeclarationIs ts x → OnLine DerivesDeclaration ts (declared x)
declaration_to ts x (l, r, q, (c, g, q', h, ((t, q'', k), ln)), (s, a, q3, h', d)) =
    let whole : ts ≡ t ∷ c ∷ (a ++ s ∷ []) = q ∙ ap (λ (z : List Placed). z ++ r) (q' ∙ ap (λ (z : List Placed). z ++ c ∷ []) q'') ∙ ap (λ (z : List Placed). t ∷ c ∷ z) q3 in
    ((t, c, s, a, whole, k, sign_of Sign.Colon c h, sign_of Sign.Semicolon s h', d), subst (BeginsOn x.0.line) (sym whole) (line_of_first x.0.line g t [] q'' ln))

declaration_from : (ts : List Placed) (y : Lined Declaration) → OnLine DerivesDeclaration ts y → (x : Lined (List ℕ) × Lined TypeForm) × (y ≡ declared x) × DeclarationIs ts x
declaration_from ts y ((t, c, s, a, q, i, j, k, d), ln) = (
  (lined y.line y.form.name, y.form.form),
  refl,
  (
    t ∷ c ∷ [],
    a ++ s ∷ [],
    q,
    (c, t ∷ [], refl, is_it Sign.Colon c j, ((t, refl, i), line_of_first y.line ts t (c ∷ (a ++ s ∷ [])) q ln)),
    (s, a, refl, is_it Sign.Semicolon s k, d),
  ),
)

pub declaration_begins : (ts : List Placed) (y : Lined Declaration) → OnLine DerivesDeclaration ts y → (t : Placed) × (u : List Placed) × (ts ≡ t ∷ u) × (begins_name t ≡ true)
declaration_begins ts y ((t, c, s, a, q, i, j, k, d), ln) = (t, c ∷ (a ++ s ∷ []), q, ap kind_is_word i)

module _ (b : ℕ) (pos : 1 ≤ b) where
  pub declaration_reads : Reads (OnLine DerivesDeclaration) (λ d. type_depth d.form.form ≤ b) Free (read_declaration b)
  unfolding read_declaration sign_number
  declaration_reads = map_reads DeclarationIs (BothFit AnyFits (λ x. type_depth x ≤ b)) Free (both (enclosed (is_sign Sign.Colon) (accept formal_of)) (enclosed (is_sign Sign.Semicolon) (read_type b)))
      (both_reads (Enclosed (is_sign Sign.Colon) (OnLine DerivesName)) AnyFits Free (enclosed (is_sign Sign.Colon) (accept formal_of))
      (enclosed_reads (is_sign Sign.Colon) (sign_token Sign.Colon) refl (OnLine DerivesName) AnyFits Free (accept formal_of) formal_reads (λ x t r h. tt) (λ x. inl tt))
      (Enclosed (is_sign Sign.Semicolon) (OnLine DerivesType)) (λ x. type_depth x ≤ b) Free (enclosed (is_sign Sign.Semicolon) (read_type b)) (typed_reads b pos)
      Free (λ x b y r d e1 e2. tt) (λ x b y r d e. tt) (λ x b y r d e. tt) (λ x. inl tt))
      declared (OnLine DerivesDeclaration) (λ d. type_depth d.form.form ≤ b) Free
      declaration_to declaration_from (λ x h. h.1) (λ x h. (tt, h)) (λ a x r d e. tt) (λ a x r d e. tt)

-- definitions

abbrev DefinitionIs : List Placed → Lined (List ℕ) × Tree → Type 0
DefinitionIs = Both (Enclosed (is_sign Sign.Becomes) (OnLine DerivesName)) (Enclosed (is_sign Sign.Semicolon) Expression)

abbrev defined : Lined (List ℕ) × Tree → Lined Definition
defined x = lined x.0.line (record { name = x.0.form; right = x.1 })

definition_to : (ts : List Placed) (x : Lined (List ℕ) × Tree) → DefinitionIs ts x → OnLine DerivesDefinition ts (defined x)
definition_to ts x (l, r, q, (c, g, q', h, ((t, q'', k), ln)), (s, a, q3, h', d)) =
    let whole : ts ≡ t ∷ c ∷ (a ++ s ∷ []) = q ∙ ap (λ (z : List Placed). z ++ r) (q' ∙ ap (λ (z : List Placed). z ++ c ∷ []) q'') ∙ ap (λ (z : List Placed). t ∷ c ∷ z) q3 in
    ((t, c, s, a, whole, k, sign_of Sign.Becomes c h, sign_of Sign.Semicolon s h', d), subst (BeginsOn x.0.line) (sym whole) (line_of_first x.0.line g t [] q'' ln))

definition_from : (ts : List Placed) (y : Lined Definition) → OnLine DerivesDefinition ts y → (x : Lined (List ℕ) × Tree) × (y ≡ defined x) × DefinitionIs ts x
definition_from ts y ((t, c, s, a, q, i, j, k, d), ln) = (
  (lined y.line y.form.name, y.form.right),
  refl,
  (
    t ∷ c ∷ [],
    a ++ s ∷ [],
    q,
    (c, t ∷ [], refl, is_it Sign.Becomes c j, ((t, refl, i), line_of_first y.line ts t (c ∷ (a ++ s ∷ [])) q ln)),
    (s, a, refl, is_it Sign.Semicolon s k, d),
  ),
)

pub definition_begins : (ts : List Placed) (y : Lined Definition) → OnLine DerivesDefinition ts y → (t : Placed) × (u : List Placed) × (ts ≡ t ∷ u) × (begins_name t ≡ true)
definition_begins ts y ((t, c, s, a, q, i, j, k, d), ln) = (t, c ∷ (a ++ s ∷ []), q, ap kind_is_word i)

module _ (b : ℕ) (pos : 1 ≤ b) where
  pub definition_reads : Reads (OnLine DerivesDefinition) (λ d. depth d.form.right ≤ b) Free (read_definition b)
  unfolding read_definition sign_number
  definition_reads = map_reads DefinitionIs (BothFit AnyFits (λ e. depth e ≤ b)) Free (both (enclosed (is_sign Sign.Becomes) (accept formal_of)) (enclosed (is_sign Sign.Semicolon) (read b 1)))
      (both_reads (Enclosed (is_sign Sign.Becomes) (OnLine DerivesName)) AnyFits Free (enclosed (is_sign Sign.Becomes) (accept formal_of))
      (enclosed_reads (is_sign Sign.Becomes) (sign_token Sign.Becomes) refl (OnLine DerivesName) AnyFits Free (accept formal_of) formal_reads (λ x t r h. tt) (λ x. inl tt))
      (Enclosed (is_sign Sign.Semicolon) Expression) (λ e. depth e ≤ b) Free (enclosed (is_sign Sign.Semicolon) (read b 1)) (closed_reads b pos)
      Free (λ x b y r d e1 e2. tt) (λ x b y r d e. tt) (λ x b y r d e. tt) (λ x. inl tt))
      defined (OnLine DerivesDefinition) (λ d. depth d.form.right ≤ b) Free
      definition_to definition_from (λ x h. h.1) (λ x h. (tt, h)) (λ a x r d e. tt) (λ a x r d e. tt)

-- paths

path_begins : (ts : List Placed) (p : PathTree) → DerivesPath ts p → BeginsOn (path_line p) ts
path_begins ts (path_on line first parts) (t, a, q, i, ln, d) = subst (BeginsOn line) (sym q) ln

path_reading : (b : ℕ) → 1 ≤ b → Reads DerivesPath (λ p. path_depth p ≤ b) PathEnds (path_within b)
unfolding path_within
path_reading zero h = absurd (omega arith)
path_reading (suc b) h = path_reads b

-- left sides

unfoldable pub LeftTail : Option LeftKind → Placed → List Placed → Lined Left → Type 0
LeftTail None t u x = ⊥
LeftTail (Some LeftKind.Current) t u x = (p : PathTree) × (x ≡ lined (path_line p) (record { kind = LeftKind.Current; path = p })) × DerivesPath (t ∷ u) p
LeftTail (Some LeftKind.Init) t u x = (p : PathTree) × (x ≡ lined t.line (record { kind = LeftKind.Init; path = p })) × Headed (is_sign Sign.OpenParen) (Enclosed (is_sign Sign.CloseParen) DerivesPath) u p
LeftTail (Some LeftKind.Next) t u x = (p : PathTree) × (x ≡ lined t.line (record { kind = LeftKind.Next; path = p })) × Headed (is_sign Sign.OpenParen) (Enclosed (is_sign Sign.CloseParen) DerivesPath) u p

abbrev LeftLed : Option LeftKind → List Placed → Lined Left → Type 0
LeftLed i ts x = (t : Placed) × (u : List Placed) × (ts ≡ t ∷ u) × (left_of t ≡ i) × LeftTail i t u x

abbrev EndsBy : LeftKind → List Placed → Type 0
EndsBy LeftKind.Current r = first_is begins_part r ≡ false
EndsBy LeftKind.Init r = Unit {0}
EndsBy LeftKind.Next r = Unit {0}

-- a left side without parentheses ends as its path does
abbrev pub LeftEnds : Lined Left → List Placed → Type 0
LeftEnds x r = EndsBy x.form.kind r

path_first : (ts : List Placed) (p : PathTree) → DerivesPath ts p → (t : Placed) × (u : List Placed) × (ts ≡ t ∷ u) × (left_of t ≡ Some LeftKind.Current)
path_first ts (path_on line first parts) (t, a, q, i, ln, d) = (t, a, q, ap kind_left i)

ends_part : (s : Sign) → (cond (sign_is Sign.Dot (mark s)) true (sign_is Sign.OpenBracket (mark s)) ≡ false) → (c : Placed) → is_sign s c ≡ true → begins_part c ≡ false
ends_part s e c h = subst (λ (k : Kind). cond (sign_is Sign.Dot k) true (sign_is Sign.OpenBracket k) ≡ false) (sym (sign_is-kind s c.kind h)) e

some_left : AnyOf LeftLed (some_name ∷ []) (lined 0 (record { kind = LeftKind.Current; path = path_on 0 [] PathTail.no_parts }))
unfolding LeftTail
some_left = (Some LeftKind.Current, (some_name, [], refl, refl, (path_on 0 [] PathTail.no_parts, refl, (some_name, [], refl, refl, refl, refl))))

module _ (b : ℕ) (pos : 1 ≤ b) where
  abbrev LeftFits : Lined Left → Type 0
  LeftFits x = path_depth x.form.path ≤ b

  in_parens : Reads (Headed (is_sign Sign.OpenParen) (Enclosed (is_sign Sign.CloseParen) DerivesPath)) (λ p. path_depth p ≤ b) Free (headed (is_sign Sign.OpenParen) (enclosed (is_sign Sign.CloseParen) (path_within b)))
  unfolding sign_number
  in_parens = headed_reads (is_sign Sign.OpenParen) (sign_token Sign.OpenParen) refl (Enclosed (is_sign Sign.CloseParen) DerivesPath) (λ p. path_depth p ≤ b) Free (enclosed (is_sign Sign.CloseParen) (path_within b))
      (enclosed_reads (is_sign Sign.CloseParen) (sign_token Sign.CloseParen) refl DerivesPath (λ p. path_depth p ≤ b) PathEnds (path_within b) (path_reading b pos)
      (λ p c r h. ends_part Sign.CloseParen refl c h) (λ p. decide_depth (path_depth p) b))

  current_reads : Reads (LeftLed (Some LeftKind.Current)) LeftFits LeftEnds (left_by b (Some LeftKind.Current))
  unfolding left_by LeftTail
  current_reads = map_reads DerivesPath (λ p. path_depth p ≤ b) PathEnds (path_within b) (path_reading b pos)
      (λ p. lined (path_line p) (record { kind = LeftKind.Current; path = p })) (LeftLed (Some LeftKind.Current)) LeftFits LeftEnds
      (λ a p d. let w = path_first a p d in (w.0, w.1, w.2, w.3, (p, refl, subst (λ (l : List Placed). DerivesPath l p) w.2 d)))
      (λ a x d. (d.4.0, d.4.1, subst (λ (l : List Placed). DerivesPath l d.4.0) (sym d.2) d.4.2))
      (λ p h. h) (λ p h. h) (λ a p r d e. e) (λ a p r d e. e)

  init_reads : (t : Placed) → Reads (LeftTail (Some LeftKind.Init) t) LeftFits LeftEnds (left_tail b LeftKind.Init t.line)
  unfolding left_tail LeftTail
  init_reads t = map_reads (Headed (is_sign Sign.OpenParen) (Enclosed (is_sign Sign.CloseParen) DerivesPath)) (λ p. path_depth p ≤ b) Free (headed (is_sign Sign.OpenParen) (enclosed (is_sign Sign.CloseParen) (path_within b))) in_parens
      (λ p. lined t.line (record { kind = LeftKind.Init; path = p })) (LeftTail (Some LeftKind.Init) t) LeftFits LeftEnds
      (λ a p d. (p, refl, d)) (λ a x d. d) (λ p h. h) (λ p h. h) (λ a p r d e. tt) (λ a p r d e. tt)

  next_reads : (t : Placed) → Reads (LeftTail (Some LeftKind.Next) t) LeftFits LeftEnds (left_tail b LeftKind.Next t.line)
  unfolding left_tail LeftTail
  next_reads t = map_reads (Headed (is_sign Sign.OpenParen) (Enclosed (is_sign Sign.CloseParen) DerivesPath)) (λ p. path_depth p ≤ b) Free (headed (is_sign Sign.OpenParen) (enclosed (is_sign Sign.CloseParen) (path_within b))) in_parens
      (λ p. lined t.line (record { kind = LeftKind.Next; path = p })) (LeftTail (Some LeftKind.Next) t) LeftFits LeftEnds
      (λ a p d. (p, refl, d)) (λ a x d. d) (λ p h. h) (λ p h. h) (λ a p r d e. tt) (λ a p r d e. tt)

  left_alternative : (i : Option LeftKind) → Alternative left_of LeftLed LeftFits LeftEnds (left_by b) i
  unfolding left_by LeftTail
  left_alternative None = no_alternative left_of LeftLed LeftFits LeftEnds (left_by b) (some_name ∷ [], lined 0 (record { kind = LeftKind.Current; path = path_on 0 [] PathTail.no_parts }), some_left, pos)
      None (λ a x d. d.4) (λ s. refl)
  left_alternative (Some LeftKind.Current) = reads_alternative left_of LeftLed LeftFits LeftEnds (left_by b) (some_name ∷ [], lined 0 (record { kind = LeftKind.Current; path = path_on 0 [] PathTail.no_parts }), some_left, pos)
      (Some LeftKind.Current) (λ a x d. (d.0, d.1, d.2, d.3)) current_reads
  left_alternative (Some LeftKind.Init) = open_alternative b left_of LeftTail LeftFits LeftEnds (left_by b) (some_name ∷ [], lined 0 (record { kind = LeftKind.Current; path = path_on 0 [] PathTail.no_parts }), some_left, pos)
      (Some LeftKind.Init) (λ t. left_tail b LeftKind.Init t.line) init_reads (λ s. refl)
  left_alternative (Some LeftKind.Next) = open_alternative b left_of LeftTail LeftFits LeftEnds (left_by b) (some_name ∷ [], lined 0 (record { kind = LeftKind.Current; path = path_on 0 [] PathTail.no_parts }), some_left, pos)
      (Some LeftKind.Next) (λ t. left_tail b LeftKind.Next t.line) next_reads (λ s. refl)

left_word : (t : Placed) (o : Option LeftKind) → left_of t ≡ o → LeftIs t.kind o
left_word t o h = subst (LeftIs t.kind) h (left_is t.kind)

left_to : (ts : List Placed) (x : Lined Left) → AnyOf LeftLed ts x → OnLine DerivesLeft ts x
unfolding LeftTail
left_to ts x (None, (t, u, q, h, d)) = absurd d
left_to ts x (Some LeftKind.Current, (t, u, q, h, (p, e, d))) =
    let d' : DerivesPath ts p = subst (λ (l : List Placed). DerivesPath l p) (sym q) d in
    subst (OnLine DerivesLeft ts) (sym e) (d', path_begins ts p d')
left_to ts x (Some LeftKind.Init, (t, u, q, h, (p, e, (o, v, q', i, (c, w, q'', j, d))))) =
    subst (OnLine DerivesLeft ts) (sym e) (
      (t, o, c, w, q ∙ ap (λ (l : List Placed). t ∷ l) (q' ∙ ap (λ (l : List Placed). o ∷ l) q''), left_word t (Some LeftKind.Init) h, sign_of Sign.OpenParen o i, sign_of Sign.CloseParen c j, d),
      subst (BeginsOn t.line) (sym q) refl,
    )
left_to ts x (Some LeftKind.Next, (t, u, q, h, (p, e, (o, v, q', i, (c, w, q'', j, d))))) =
    subst (OnLine DerivesLeft ts) (sym e) (
      (t, o, c, w, q ∙ ap (λ (l : List Placed). t ∷ l) (q' ∙ ap (λ (l : List Placed). o ∷ l) q''), left_word t (Some LeftKind.Next) h, sign_of Sign.OpenParen o i, sign_of Sign.CloseParen c j, d),
      subst (BeginsOn t.line) (sym q) refl,
    )

left_from_parts : (ts : List Placed) (l : ℕ) (kind : LeftKind) (p : PathTree) → DerivesLeft ts (record { kind = kind; path = p }) → BeginsOn l ts → AnyOf LeftLed ts (lined l (record { kind = kind; path = p }))
unfolding LeftTail
left_from_parts ts l LeftKind.Current p d begins =
    let w = path_first ts p d in (
      Some LeftKind.Current,
      (
        w.0,
        w.1,
        w.2,
        w.3,
        (
          p,
          ap (λ (n : ℕ). lined n (record { kind = LeftKind.Current; path = p })) (same_first_line l (path_line p) ts begins (path_begins ts p d)),
          subst (λ (s : List Placed). DerivesPath s p) w.2 d,
        ),
      ),
    )
left_from_parts ts l LeftKind.Init p (t, o, c, a, q, k, i, j, d) begins = (
  Some LeftKind.Init,
  (
    t,
    o ∷ (a ++ c ∷ []),
    q,
    ap kind_left k,
    (
      p,
      ap (λ (n : ℕ). lined n (record { kind = LeftKind.Init; path = p })) (sym (line_of_first l ts t (o ∷ (a ++ c ∷ [])) q begins)),
      (o, a ++ c ∷ [], refl, is_it Sign.OpenParen o i, (c, a, refl, is_it Sign.CloseParen c j, d)),
    ),
  ),
)
left_from_parts ts l LeftKind.Next p (t, o, c, a, q, k, i, j, d) begins = (
  Some LeftKind.Next,
  (
    t,
    o ∷ (a ++ c ∷ []),
    q,
    ap kind_left k,
    (
      p,
      ap (λ (n : ℕ). lined n (record { kind = LeftKind.Next; path = p })) (sym (line_of_first l ts t (o ∷ (a ++ c ∷ [])) q begins)),
      (o, a ++ c ∷ [], refl, is_it Sign.OpenParen o i, (c, a, refl, is_it Sign.CloseParen c j, d)),
    ),
  ),
)

left_from : (ts : List Placed) (x : Lined Left) → OnLine DerivesLeft ts x → AnyOf LeftLed ts x
left_from ts x d = left_from_parts ts x.line x.form.kind x.form.path d.0 d.1

left_first : (ts : List Placed) (x : Lined Left) → AnyOf LeftLed ts x → (t : Placed) × (u : List Placed) × (ts ≡ t ∷ u) × (begins_left t ≡ true)
unfolding LeftTail
left_first ts x (None, (t, u, q, h, d)) = absurd d
left_first ts x (Some k, (t, u, q, h, d)) = (t, u, q, ap some_is h)

-- assignments

abbrev AssignmentIs : List Placed → Lined Left × Tree → Type 0
AssignmentIs = Both (Enclosed (is_sign Sign.Becomes) (OnLine DerivesLeft)) (Enclosed (is_sign Sign.Semicolon) Expression)

abbrev assigned : Lined Left × Tree → Lined Assignment
assigned x = lined x.0.line (record { left = x.0; right = x.1 })

assignment_to : (ts : List Placed) (x : Lined Left × Tree) → AssignmentIs ts x → OnLine DerivesAssignment ts (assigned x)
assignment_to ts x (l, r, q, (c, g, q', h, d), (s, a, q3, h', d')) =
    let whole : ts ≡ g ++ (c ∷ a ++ s ∷ []) = q ∙ ap (λ (z : List Placed). z ++ r) q' ∙ append_assoc g (c ∷ []) r ∙ ap (λ (z : List Placed). g ++ (c ∷ z)) q3 in
    ((c, s, g, a, whole, sign_of Sign.Becomes c h, sign_of Sign.Semicolon s h', d, d'), subst (BeginsOn x.0.line) (sym whole) (BeginsOn-append x.0.line g (c ∷ a ++ s ∷ []) d.1))

assignment_from : (ts : List Placed) (y : Lined Assignment) → OnLine DerivesAssignment ts y → (x : Lined Left × Tree) × (y ≡ assigned x) × AssignmentIs ts x
assignment_from ts y ((c, s, g, a, q, i, j, d, d'), ln) = (
  (y.form.left, y.form.right),
  ap (λ (n : ℕ). lined n y.form) (same_first_line y.line y.form.left.line ts ln (subst (BeginsOn y.form.left.line) (sym q) (BeginsOn-append y.form.left.line g (c ∷ a ++ s ∷ []) d.1))),
  (
    g ++ c ∷ [],
    a ++ s ∷ [],
    q ∙ sym (append_assoc g (c ∷ []) (a ++ s ∷ [])),
    (c, g, refl, is_it Sign.Becomes c i, d),
    (s, a, refl, is_it Sign.Semicolon s j, d'),
  ),
)

pub assignment_begins : (ts : List Placed) (y : Lined Assignment) → OnLine DerivesAssignment ts y → (t : Placed) × (u : List Placed) × (ts ≡ t ∷ u) × (begins_left t ≡ true)
assignment_begins ts y ((c, s, g, a, q, i, j, d, d'), ln) =
    let w = left_first g y.form.left (left_from g y.form.left d) in
    (w.0, w.1 ++ (c ∷ a ++ s ∷ []), q ∙ ap (λ (z : List Placed). z ++ (c ∷ a ++ s ∷ [])) w.2, w.3)

becomes_ends : (x : Lined Left) (c : Placed) (r : List Placed) → is_sign Sign.Becomes c ≡ true → LeftEnds x (c ∷ r)
unfolding sign_number
becomes_ends x c r h = by_kind x.form.kind
  where
    by_kind : (k : LeftKind) → EndsBy k (c ∷ r)
    by_kind LeftKind.Current = ends_part Sign.Becomes refl c h
    by_kind LeftKind.Init = tt
    by_kind LeftKind.Next = tt

module _ (b : ℕ) (pos : 1 ≤ b) where
  left_reads : Reads (OnLine DerivesLeft) (λ x. path_depth x.form.path ≤ b) LeftEnds (read_left b)
  unfolding read_left
  left_reads = renamed_reads (AnyOf LeftLed) (λ x. path_depth x.form.path ≤ b) LeftEnds (switch left_of (left_by b))
      (switch_reads left_of LeftLed (λ x. path_depth x.form.path ≤ b) LeftEnds (left_by b) (some_name ∷ [], lined 0 (record { kind = LeftKind.Current; path = path_on 0 [] PathTail.no_parts }), some_left, pos) (left_alternative b pos))
      (OnLine DerivesLeft) LeftEnds left_to left_from (λ a x r d e. e) (λ a x r d e. e)

  pub assignment_reads : Reads (OnLine DerivesAssignment) (λ x. assignment_depth x ≤ b) Free (read_assignment b)
  unfolding read_assignment sign_number
  assignment_reads = map_reads AssignmentIs (BothFit (λ x. path_depth x.form.path ≤ b) (λ e. depth e ≤ b)) Free (both (enclosed (is_sign Sign.Becomes) (read_left b)) (enclosed (is_sign Sign.Semicolon) (read b 1)))
      (both_reads (Enclosed (is_sign Sign.Becomes) (OnLine DerivesLeft)) (λ x. path_depth x.form.path ≤ b) Free (enclosed (is_sign Sign.Becomes) (read_left b))
      (enclosed_reads (is_sign Sign.Becomes) (sign_token Sign.Becomes) refl (OnLine DerivesLeft) (λ x. path_depth x.form.path ≤ b) LeftEnds (read_left b) left_reads becomes_ends (λ x. decide_depth (path_depth x.form.path) b))
      (Enclosed (is_sign Sign.Semicolon) Expression) (λ e. depth e ≤ b) Free (enclosed (is_sign Sign.Semicolon) (read b 1)) (closed_reads b pos)
      Free (λ x b y r d e1 e2. tt) (λ x b y r d e. tt) (λ x b y r d e. tt) (λ x. decide_depth (path_depth x.form.path) b))
      assigned (OnLine DerivesAssignment) (λ x. assignment_depth x ≤ b) Free
      assignment_to assignment_from (λ x h. omega (arith, h.0, h.1)) (λ x h. (omega arith, omega arith)) (λ a x r d e. tt) (λ a x r d e. tt)
