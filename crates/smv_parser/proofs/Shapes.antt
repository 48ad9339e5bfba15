-- The grammar's operands are those that are read after their first token.
use Rattle.std.proofs.Common.{◌≡◌, ℕ, suc, pos, ◌≤◌, cond, Bool, true, false, List, [], ◌∷◌, ◌++◌, Some, refl, sym, ◌∙◌, ap, subst, arith, append_assoc}
use Rattle.reader_laws.proofs.Readers.{EachOf, Reads}
use Rattle.reader_laws.proofs.More.{AnyOf, Headed, renamed_reads}
use Rattle.reader_laws.specs.Reading.{Reading}
use Rattle.smv_lexer.specs.declared.keyword.Keyword.{Keyword}
use Rattle.smv_lexer.specs.declared.sign.Sign.{Sign}
use Rattle.smv_lexer.specs.Text.{Kind, Placed}
use Rattle.smv_lexer.specs.Text.Kind.{word, key, mark}
use Rattle.smv_parser.specs.declared.expressions.BinaryOperator.{BinaryOperator}
use Rattle.smv_parser.specs.declared.tokens.Lead.{Lead}
use Rattle.smv_parser.specs.Tree.{Tree, Form, PathTree, path_depth, Trees, Arms, PathTail, on_line, path_on, no_parts, no_trees, no_arms, depth, trees_of, Part, field_part, index_part, parts_of, arms_of}
use Rattle.smv_parser.specs.Words.{level_of, prefix_word, quantifier_word, truth_word, Is, BeginsOn}
use Rattle.smv_parser.specs.Tests.{is_sign, sign_is, sign_number, word_in, number_in, kind_lead, lead_of}
use Rattle.smv_parser.specs.Grammar.{Derives, DerivesPath, DerivesParts, DerivesOthers, DerivesArms}
use Rattle.smv_parser.specs.Reading.{front_line, read_path, text_of, value_of, some_or, PartLead, dot, bracket, neither, part_lead, is_dot, is_bracket, operand}
use Rattle.smv_parser.proofs.TokenTests.{sign_is-kind, key_is-kind, kind_is-sign, kind_is-key, word_in-kind, lead_is, LeadIs, prefix_lead, truth_lead, quantifier_lead}
use Rattle.smv_parser.proofs.Follow.{Follows, Ends, PathEnds}
use Rattle.smv_parser.proofs.Operands.{PartTail, PartIs, PathIs, path_reads, ArmIs, Tail, LedBy, led_reads}

pub is_it : (s : Sign) (t : Placed) → Is (mark s) t → is_sign s t ≡ true
is_it s t h = kind_is-sign s t.kind h

pub sign_of : (s : Sign) (t : Placed) → is_sign s t ≡ true → Is (mark s) t
sign_of s t h = sign_is-kind s t.kind h

-- parts of a path

dot_lead : (t : Placed) → Is (mark Sign.Dot) t → part_lead t ≡ dot
unfolding sign_number
dot_lead t h = subst (λ (k : Kind). cond (sign_is Sign.Dot k) dot (cond (sign_is Sign.OpenBracket k) bracket neither) ≡ dot) (sym h) refl

bracket_lead : (t : Placed) → Is (mark Sign.OpenBracket) t → part_lead t ≡ bracket
unfolding sign_number
bracket_lead t h = subst (λ (k : Kind). cond (sign_is Sign.Dot k) dot (cond (sign_is Sign.OpenBracket k) bracket neither) ≡ bracket) (sym h) refl

abbrev LeadTells : Bool → Bool → PartLead → Type 0
LeadTells x y dot = x ≡ true
LeadTells x y bracket = y ≡ true
LeadTells x y neither = Unit {0}

lead_tells : (x y : Bool) → LeadTells x y (cond x dot (cond y bracket neither))
lead_tells true y = refl
lead_tells false true = refl
lead_tells false false = tt

pub parts_to : (u : List Placed) (ps : PathTail) → DerivesParts u ps → (l : List Part) × (ps ≡ parts_of l) × EachOf (AnyOf PartIs) u l
unfolding PartTail
parts_to u no_parts d = ([], refl, d)
parts_to u (PathTail.field n ps) (d, t, a, q, i, j, rest) =
    let w = parts_to a ps rest in (
      field_part n ∷ w.0,
      ap (PathTail.field n) w.1,
      (d ∷ t ∷ [], a, q, (dot, (d, t ∷ [], refl, dot_lead d i, (n, refl, (t, refl, ap word_in j)))), w.2),
    )
parts_to u (PathTail.index e ps) (o, c, x, y, q, i, j, d, rest) =
    let w = parts_to y ps rest in (
      index_part e ∷ w.0,
      ap (PathTail.index e) w.1,
      (
        o ∷ (x ++ c ∷ []),
        y,
        q ∙ ap (λ (z : List Placed). o ∷ z) (sym (append_assoc x (c ∷ []) y)),
        (bracket, (o, x ++ c ∷ [], refl, bracket_lead o i, (e, refl, (c, x, refl, is_it Sign.CloseBracket c j, d)))),
        w.2,
      ),
    )

same_field : (n m : List ℕ) → field_part n ≡ field_part m → n ≡ m
same_field n m h = cc

same_index : (e f : Tree) → index_part e ≡ index_part f → e ≡ f
same_index e f h = cc

pub parts_from : (u : List Placed) (l : List Part) → EachOf (AnyOf PartIs) u l → DerivesParts u (parts_of l)
unfolding PartTail
parts_from u [] d = d
parts_from u (field_part n ∷ l) (x, y, q, (dot, (t, v, q', h, (m, p, (w, r, k)))), rest) = (
  t,
  w,
  y,
  q ∙ ap (λ (z : List Placed). z ++ y) (q' ∙ ap (λ (z : List Placed). t ∷ z) r),
  sign_of Sign.Dot t (subst (LeadTells (is_dot t) (is_bracket t)) h (lead_tells (is_dot t) (is_bracket t))),
  word_in-kind w.kind n (k ∙ ap Some (sym (same_field n m p))),
  parts_from y l rest,
)
parts_from u (field_part n ∷ l) (x, y, q, (bracket, (t, v, q', h, (e, p, d))), rest) = absurd cc
parts_from u (field_part n ∷ l) (x, y, q, (neither, (t, v, q', h, d)), rest) = absurd d
parts_from u (index_part e ∷ l) (x, y, q, (dot, (t, v, q', h, (m, p, k))), rest) = absurd cc
parts_from u (index_part e ∷ l) (x, y, q, (bracket, (t, v, q', h, (f, p, (c, z, r, j, d)))), rest) = (
  t,
  c,
  z,
  y,
  q ∙ ap (λ (s : List Placed). s ++ y) (q' ∙ ap (λ (s : List Placed). t ∷ s) r) ∙ ap (λ (s : List Placed). t ∷ s) (append_assoc z (c ∷ []) y),
  sign_of Sign.OpenBracket t (subst (LeadTells (is_dot t) (is_bracket t)) h (lead_tells (is_dot t) (is_bracket t))),
  sign_of Sign.CloseBracket c j,
  subst (Derives false 1 z) (sym (same_index e f p)) d,
  parts_from y l rest,
)
parts_from u (index_part e ∷ l) (x, y, q, (neither, (t, v, q', h, d)), rest) = absurd d

-- paths

pub path_to : (ts : List Placed) (p : PathTree) → DerivesPath ts p → PathIs ts p
path_to ts (path_on l n ps) (t, a, q, i, j, d) =
    let w = parts_to a ps d in (
      (n, w.0),
      ap (λ (k : ℕ). path_on k n ps) (sym j ∙ sym (ap front_line q)) ∙ ap (path_on (front_line ts) n) w.1,
      (t ∷ [], a, q, (t, refl, ap word_in i), w.2),
    )

pub path_from : (ts : List Placed) (p : PathTree) → PathIs ts p → DerivesPath ts p
path_from ts p (x, e, (a, u, q, (t, r, k), d)) =
    let whole : ts ≡ t ∷ u = q ∙ ap (λ (s : List Placed). s ++ u) r in
    subst (DerivesPath ts) (sym e) (t, u, whole, word_in-kind t.kind x.0 k, sym (ap front_line whole), parts_from u x.1 d)

-- lists of expressions

pub others_to : (u : List Placed) (es : Trees) → DerivesOthers u es → (l : List Tree) × (es ≡ trees_of l) × EachOf (Headed (is_sign Sign.Comma) (Derives false 1)) u l
others_to u no_trees d = ([], refl, d)
others_to u (Trees.tree e es) (c, x, y, q, i, d, rest) =
    let w = others_to y es rest in (e ∷ w.0, ap (Trees.tree e) w.1, (c ∷ x, y, q, (c, x, refl, is_it Sign.Comma c i, d), w.2))

pub others_from : (u : List Placed) (l : List Tree) → EachOf (Headed (is_sign Sign.Comma) (Derives false 1)) u l → DerivesOthers u (trees_of l)
others_from u [] d = d
others_from u (e ∷ l) (x, y, q, (c, z, r, i, d), rest) = (c, z, y, q ∙ ap (λ (s : List Placed). s ++ y) r, sign_of Sign.Comma c i, d, others_from y l rest)

-- arms

same_line : (l m : ℕ) (a : List Placed) → BeginsOn l a → BeginsOn m a → l ≡ m
same_line l m [] h i = absurd h
same_line l m (t ∷ a) h i = sym h ∙ i

arm_split : (a b c : List Placed) (colon semicolon : Placed) → a ++ (colon ∷ b ++ (semicolon ∷ c)) ≡ ((a ++ colon ∷ []) ++ (b ++ semicolon ∷ [])) ++ c
arm_split a b c colon semicolon = simp append_assoc

pub arms_to : (u : List Placed) (arms : Arms) → DerivesArms u arms → (l : List (Tree × Tree)) × (arms ≡ arms_of l) × EachOf ArmIs u l
arms_to u no_arms d = ([], refl, d)
arms_to u (Arms.arm g r arms) (colon, semicolon, x, y, z, q, i, j, d, d', rest) =
    let w = arms_to z arms rest in (
      (g, r) ∷ w.0,
      ap (Arms.arm g r) w.1,
      (
        (x ++ colon ∷ []) ++ (y ++ semicolon ∷ []),
        z,
        q ∙ arm_split x y z colon semicolon,
        (x ++ colon ∷ [], y ++ semicolon ∷ [], refl, (colon, x, refl, is_it Sign.Colon colon i, d), (semicolon, y, refl, is_it Sign.Semicolon semicolon j, d')),
        w.2,
      ),
    )

pub arms_from : (u : List Placed) (l : List (Tree × Tree)) → EachOf ArmIs u l → DerivesArms u (arms_of l)
arms_from u [] d = d
arms_from u (a ∷ l) (x, y, q, (m, n, q', (colon, g, r, i, d), (semicolon, v, r', j, d')), rest) =
    let whole : u ≡ ((g ++ colon ∷ []) ++ (v ++ semicolon ∷ [])) ++ y = q ∙ ap (λ (s : List Placed). s ++ y) (q' ∙ ap (λ (s : List Placed). s ++ n) r ∙ ap (λ (s : List Placed). (g ++ colon ∷ []) ++ s) r') in
    (colon, semicolon, g, v, y, whole ∙ sym (arm_split g v y colon semicolon), sign_of Sign.Colon colon i, sign_of Sign.Semicolon semicolon j, d, d', arms_from y l rest)

-- operands

some_word : (t : Placed) (w : List ℕ) → Is (word w) t → w ≡ text_of t
some_word t w h = sym (ap (λ (k : Kind). some_or [] (word_in k)) h)

some_number : (t : Placed) (n : ℕ) → Is (Kind.number (pos n)) t → n ≡ value_of t
some_number t n h = sym (ap (λ (k : Kind). some_or 0 (number_in k)) h)

lead : (t : Placed) (k : Kind) (i : Lead) → Is k t → kind_lead k ≡ i → lead_of t ≡ i
lead t k i h j = ap kind_lead h ∙ j

lined : (l : ℕ) (f f' : Form) (t : Placed) → t.line ≡ l → f ≡ f' → on_line l f ≡ on_line t.line f'
lined l f f' t h i = ap (λ (n : ℕ). on_line n f) (sym h) ∙ ap (on_line t.line) i

first : (l : ℕ) (ts : List Placed) (t : Placed) (u : List Placed) → BeginsOn l ts → ts ≡ t ∷ u → t.line ≡ l
first l ts t u h q = subst (BeginsOn l) q h

pub shape : (ts : List Placed) (e : Tree) → Derives false 11 ts e → AnyOf LedBy ts e
unfolding Tail
shape ts (on_line l (Form.number n)) (b, (t, q, i)) =
    (Lead.Number, (t, [], q, lead t (Kind.number (pos n)) Lead.Number i refl, (refl, lined l (Form.number n) (Form.number (value_of t)) t (first l ts t [] b q) (ap Form.number (some_number t n i)))))
shape ts (on_line l (Form.truth v)) (b, (t, q, i)) =
    (Lead.Truth v, (t, [], q, lead t (truth_word v) (Lead.Truth v) i (truth_lead v), (refl, lined l (Form.truth v) (Form.truth v) t (first l ts t [] b q) refl)))
shape ts (on_line l Form.running) (b, (t, q, i)) =
    (Lead.Running, (t, [], q, lead t (key Keyword.Running) Lead.Running i refl, (refl, lined l Form.running Form.running t (first l ts t [] b q) refl)))
shape ts (on_line l (Form.path (path_on m n ps))) (b, (t, u, q, i, j, d)) =
    let w = parts_to u ps d in (
      Lead.Name,
      (
        t,
        u,
        q,
        lead t (word n) Lead.Name i refl,
        (
          w.0,
          lined l (Form.path (path_on m n ps)) (Form.path (path_on t.line (text_of t) (parts_of w.0))) t (first l ts t u b q)
              (ap (λ (k : ℕ). Form.path (path_on k n ps)) (sym j) ∙ ap (λ (k : List ℕ). Form.path (path_on t.line k ps)) (some_word t n i) ∙ ap (λ (k : PathTail). Form.path (path_on t.line (text_of t) k)) w.1),
          w.2,
        ),
      ),
    )
shape ts (on_line l (Form.next e)) (b, (t, o, c, x, q, i, j, k, d)) = (
  Lead.Next,
  (
    t,
    o ∷ (x ++ c ∷ []),
    q,
    lead t (key Keyword.Next) Lead.Next i refl,
    (
      e,
      lined l (Form.next e) (Form.next e) t (first l ts t (o ∷ (x ++ c ∷ [])) b q) refl,
      (o, x ++ c ∷ [], refl, is_it Sign.OpenParen o j, (c, x, refl, is_it Sign.CloseParen c k, d)),
    ),
  ),
)
shape ts (on_line l (Form.parens e)) (b, (o, c, x, q, i, j, d)) = (
  Lead.Parens,
  (
    o,
    x ++ c ∷ [],
    q,
    lead o (mark Sign.OpenParen) Lead.Parens i refl,
    (
      e,
      lined l (Form.parens e) (Form.parens e) o (first l ts o (x ++ c ∷ []) b q) refl,
      (c, x, refl, is_it Sign.CloseParen c j, d),
    ),
  ),
)
shape ts (on_line l (Form.braces no_trees)) (b, (o, c, x, q, i, j, d)) = absurd d
shape ts (on_line l (Form.braces (Trees.tree e es))) (b, (o, c, x, q, i, j, (y, z, r, d, rest))) =
    let w = others_to z es rest in (
      Lead.Braces,
      (
        o,
        x ++ c ∷ [],
        q,
        lead o (mark Sign.OpenBrace) Lead.Braces i refl,
        (
          (e, w.0),
          lined l (Form.braces (Trees.tree e es)) (Form.braces (trees_of (e ∷ w.0))) o (first l ts o (x ++ c ∷ []) b q) (ap (λ (k : Trees). Form.braces (Trees.tree e k)) w.1),
          (c, x, refl, is_it Sign.CloseBrace c j, (y, z, r, d, w.2)),
        ),
      ),
    )
shape ts (on_line l (Form.cases arms)) (b, (t, c, x, q, i, j, some, d)) =
    let w = arms_to x arms d in by_list w.0 w.1 w.2
  where
    by_list : (list : List (Tree × Tree)) → arms ≡ arms_of list → EachOf ArmIs x list → AnyOf LedBy ts (on_line l (Form.cases arms))
    by_list [] p rel = absurd (some p)
    by_list (a ∷ list) p (y, z, r, armed, rest) = (
      Lead.Case,
      (
        t,
        x ++ c ∷ [],
        q,
        lead t (key Keyword.Case) Lead.Case i refl,
        (
          (a, list),
          lined l (Form.cases arms) (Form.cases (arms_of (a ∷ list))) t (first l ts t (x ++ c ∷ []) b q) (ap Form.cases p),
          (c, x, refl, kind_is-key Keyword.Esac c.kind j, (y, z, r, armed, rest)),
        ),
      ),
    )
shape ts (on_line l (Form.until w e f)) (b, (t, o, u, c, x, y, q, i, j, k, m, d, d')) =
    let tail : List Placed = x ++ (u ∷ (y ++ c ∷ [])) in (
      Lead.Until w,
      (
        t,
        o ∷ tail,
        q,
        lead t (quantifier_word w) (Lead.Until w) i (quantifier_lead w),
        (
          (e, f),
          lined l (Form.until w e f) (Form.until w e f) t (first l ts t (o ∷ tail) b q) refl,
          (o, tail, refl, is_it Sign.OpenBracket o j, (x ++ u ∷ [], y ++ c ∷ [], sym (append_assoc x (u ∷ []) (y ++ c ∷ [])), (u, x, refl, kind_is-key Keyword.Until u.kind k, d), (c, y, refl, is_it Sign.CloseBracket c m, d'))),
        ),
      ),
    )
shape ts (on_line l (Form.prefix o e)) (b, (t, x, q, i, loose, d)) =
    (Lead.Prefix o, (t, x, q, lead t (prefix_word o) (Lead.Prefix o) i (prefix_lead o), (e, lined l (Form.prefix o e) (Form.prefix o e) t (first l ts t x b q) refl, d)))
shape ts (on_line l (Form.binary o e f)) (b, (t, x, y, q, i, j, d, d')) = absurd (above o j)
  where
    above : (o : BinaryOperator) → 11 ≤ level_of o → ⊥
    above BinaryOperator.Implies h = omega arith
    above _ h = omega arith

unshape_at : (t : Placed) (u : List Placed) (e : Tree) (i : Lead) → LeadIs t.kind i → Tail i t u e → Derives false 11 (t ∷ u) e
unfolding Tail
unshape_at t u e Lead.Name (n, k) (ps, q, d) =
    subst (Derives false 11 (t ∷ u)) (sym q) (refl, (t, u, refl, subst (λ (w : List ℕ). t.kind ≡ word w) (some_word t n k) k, refl, parts_from u ps d))
unshape_at t u e Lead.Number (n, k) (z, q) =
    subst (Derives false 11 (t ∷ u)) (sym q) (refl, (t, ap (λ (s : List Placed). t ∷ s) z, subst (λ (w : ℕ). t.kind ≡ Kind.number (pos w)) (some_number t n k) k))
unshape_at t u e (Lead.Truth v) k (z, q) = subst (Derives false 11 (t ∷ u)) (sym q) (refl, (t, ap (λ (s : List Placed). t ∷ s) z, k))
unshape_at t u e Lead.Running k (z, q) = subst (Derives false 11 (t ∷ u)) (sym q) (refl, (t, ap (λ (s : List Placed). t ∷ s) z, k))
unshape_at t u e Lead.Next k (x, q, (o, y, r, i, (c, z, r', j, d))) =
    subst (Derives false 11 (t ∷ u)) (sym q) (refl, (t, o, c, z, ap (λ (s : List Placed). t ∷ s) (r ∙ ap (λ (s : List Placed). o ∷ s) r'), k, sign_of Sign.OpenParen o i, sign_of Sign.CloseParen c j, d))
unshape_at t u e Lead.Parens k (x, q, (c, z, r, j, d)) =
    subst (Derives false 11 (t ∷ u)) (sym q) (refl, (t, c, z, ap (λ (s : List Placed). t ∷ s) r, k, sign_of Sign.CloseParen c j, d))
unshape_at t u e Lead.Braces k (x, q, (c, z, r, j, (m, n, p, d, rest))) =
    subst (Derives false 11 (t ∷ u)) (sym q) (refl, (t, c, z, ap (λ (s : List Placed). t ∷ s) r, k, sign_of Sign.CloseBrace c j, (m, n, p, d, others_from n x.1 rest)))
unshape_at t u e Lead.Case k (x, q, (c, z, r, j, (m, n, p, armed, rest))) =
    subst (Derives false 11 (t ∷ u)) (sym q) (refl, (t, c, z, ap (λ (s : List Placed). t ∷ s) r, k, key_is-kind Keyword.Esac c.kind j, (λ h. absurd cc), arms_from z (x.0 ∷ x.1) (m, n, p, armed, rest)))
unshape_at t u e (Lead.Until w) k (x, q, (o, y, r, i, (m, n, p, (v, g, r', j, d), (c, z, r'', j', d')))) =
    subst (Derives false 11 (t ∷ u)) (sym q) (
      refl,
      (
        t,
        o,
        v,
        c,
        g,
        z,
        ap (λ (s : List Placed). t ∷ s) (r ∙ ap (λ (s : List Placed). o ∷ s) (p ∙ ap (λ (s : List Placed). s ++ n) r' ∙ append_assoc g (v ∷ []) n ∙ ap (λ (s : List Placed). g ++ (v ∷ s)) r'')),
        k,
        sign_of Sign.OpenBracket o i,
        key_is-kind Keyword.Until v.kind j,
        sign_of Sign.CloseBracket c j',
        d,
        d',
      ),
    )
unshape_at t u e (Lead.Prefix o) k (x, q, d) = subst (Derives false 11 (t ∷ u)) (sym q) (refl, (t, u, refl, k, refl, d))
unshape_at t u e Lead.Other k d = absurd d

pub unshape : (ts : List Placed) (e : Tree) → AnyOf LedBy ts e → Derives false 11 ts e
unshape ts e (i, (t, u, q, h, d)) = subst (λ (s : List Placed). Derives false 11 s e) (sym q) (unshape_at t u e i (subst (LeadIs t.kind) h (lead_is t.kind)) d)

module _ (reader : ℕ → List Placed → Reading Placed Tree) (b : ℕ) (parts : 1 ≤ b → (k : ℕ) → Reads (Derives false k) (λ e. depth e ≤ b) (Ends k) (reader k)) where
  pub operand_reads : Reads (Derives false 11) (λ e. depth e ≤ suc b) Follows (operand reader b)
  operand_reads = renamed_reads (AnyOf LedBy) (λ e. depth e ≤ suc b) Follows (operand reader b) (led_reads reader b parts) (Derives false 11) Follows unshape shape (λ a x r d e. e) (λ a x r d e. e)

  pub path_derives : Reads DerivesPath (λ p. path_depth p ≤ suc b) PathEnds (read_path reader b)
  path_derives = renamed_reads PathIs (λ p. path_depth p ≤ suc b) PathEnds (read_path reader b) (path_reads reader b parts) DerivesPath PathEnds path_from path_to (λ a x r d e. e) (λ a x r d e. e)
