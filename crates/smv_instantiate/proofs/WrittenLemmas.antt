-- What is derived from the tokens of a text is written.
use Rattle.std.proofs.Common.{◌≡◌, refl, sym, subst, ℕ, zero, suc, ◌<◌, ◌≤◌, ◌+◌, arith, List, [], ◌∷◌, ◌++◌, length, Bool, false, Some, None, Option, ◌⊎◌, inl, inr}
use Rattle.std.specs.Prelude.{map, All, ℤ, pos, negsuc, neg_ℤ, unsigned_abs}
use Rattle.kripke_model.specs.Names.{IsAtom}
use Rattle.smv_lexer.specs.Text.{Kind, Placed, Piece, Spells, Cuts, IsSmall, AllSmall, tokens_of, placed, line_feeds, Lexes}
use Rattle.smv_parser.specs.declared.expressions.PrefixOperator.{PrefixOperator}
use Rattle.smv_parser.specs.declared.program.Condition.{Condition}
use Rattle.smv_parser.specs.declared.program.LeftKind.{LeftKind}
use Rattle.smv_parser.specs.Tree as tree
use Rattle.smv_parser.specs.Program as parsed
use Rattle.smv_parser.specs.Words.{Is, Lone}
use Rattle.smv_parser.specs.Grammar.{Derives, Forms, DerivesPath, DerivesParts, DerivesSome, DerivesOthers, DerivesArms}
use Rattle.smv_parser.specs.Programs as grammar
use Rattle.smv_parser.specs.Programs.{OnLine, Commas, AfterComma, Parameters, DerivesName, DerivesConstant, DerivesRange, DerivesEnd, DerivesEnds, DerivesPlain, PlainForms, DerivesType, DerivesDeclaration, DerivesLeft, DerivesAssignment, DerivesDefinition, DerivesCondition, DerivesSection, DerivesModule, DerivesProgram}
use Rattle.smv_instances.specs.Abstract as plain
use Rattle.smv_instances.specs.Program.{Name, Expr, Path}
use Rattle.smv_instantiate.specs.Written.{IsWrittenNumber, IsWrittenEnd, IsWrittenExpr, AreWritten, AreWrittenArms, IsWrittenPath, IsWrittenConstant, IsWrittenType, IsWrittenForm, IsWrittenDeclaration, IsWrittenDefinition, IsWrittenAssignment, IsWrittenSection, IsWrittenModule, IsWritten}
use Rattle.smv_instantiate.proofs.Members.{Each, In, each_map, all_of_each, in_left, in_right, in_split}

-- ---- tokens

-- a word is an atom, and a number no larger than the greatest
abbrev IsFineKind : Kind → Type 0
IsFineKind (Kind.word w) = IsAtom w
IsFineKind (Kind.number n) = unsigned_abs n ≤ 2147483647
IsFineKind (Kind.key k) = Unit {0}
IsFineKind (Kind.mark s) = Unit {0}

abbrev AreFine : List Placed → Type 0
AreFine ts = (t : Placed) → In t ts → IsFineKind t.kind

same_fine : {a b : List Placed} → a ≡ b → AreFine a → AreFine b
same_fine e f = subst AreFine e f

first_fine : (x : Placed) (a : List Placed) → AreFine (x ∷ a) → IsFineKind x.kind
first_fine x a f = f x In.first

tail_fine : (x : Placed) (a : List Placed) → AreFine (x ∷ a) → AreFine a
tail_fine x a f t i = f t (In.later i)

left_fine : (a b : List Placed) → AreFine (a ++ b) → AreFine a
left_fine a b f t i = f t (in_left a b i)

right_fine : (a b : List Placed) → AreFine (a ++ b) → AreFine b
right_fine a b f t i = f t (in_right a b i)

word_atom : (n : Name) (t : Placed) → Is (Kind.word n) t → IsFineKind t.kind → IsAtom n
word_atom n t is f = subst IsFineKind is f

number_small : (n : ℕ) (t : Placed) → Is (Kind.number (pos n)) t → IsFineKind t.kind → IsWrittenNumber n
number_small n t is f = subst IsFineKind is f

lone_atom : (n : Name) (ts : List Placed) → Lone (Kind.word n) ts → AreFine ts → IsAtom n
lone_atom n ts d f = word_atom n d.0 d.2 (first_fine d.0 [] (same_fine d.1 f))

lone_small : (n : ℕ) (ts : List Placed) → Lone (Kind.number (pos n)) ts → AreFine ts → IsWrittenNumber n
lone_small n ts d f = number_small n d.0 d.2 (first_fine d.0 [] (same_fine d.1 f))

-- ---- expressions

prefixed_written : (op : PrefixOperator) (e : Expr) → IsWrittenExpr e → IsWrittenExpr (plain.prefixed op e)
prefixed_written PrefixOperator.Not e w = w
prefixed_written PrefixOperator.ExistsNext e w = w
prefixed_written PrefixOperator.AllNext e w = w
prefixed_written PrefixOperator.ExistsFinally e w = w
prefixed_written PrefixOperator.AllFinally e w = w
prefixed_written PrefixOperator.ExistsGlobally e w = w
prefixed_written PrefixOperator.AllGlobally e w = w

mutual
  expr_written : (tight : Bool) (level : ℕ) (ts : List Placed) (e : tree.Tree) → Derives tight level ts e → AreFine ts → IsWrittenExpr (plain.expr e)
  expr_written tight level ts (tree.Tree.on_line line form) d f = form_written tight level ts form d.1 f

  form_written : (tight : Bool) (level : ℕ) (ts : List Placed) (form : tree.Form) → Forms tight level ts form → AreFine ts → IsWrittenExpr (plain.form_expr form)
  form_written tight level ts (tree.Form.number n) d f = lone_small n ts d f
  form_written tight level ts (tree.Form.truth b) d f = tt
  form_written tight level ts tree.Form.running d f = tt
  form_written tight level ts (tree.Form.path p) d f = path_written ts p d f
  form_written tight level ts (tree.Form.next e) d f = expr_written false 1 d.3 e d.8 (left_fine d.3 _ (tail_fine d.1 _ (tail_fine d.0 _ (same_fine d.4 f))))
  form_written tight level ts (tree.Form.parens e) d f = expr_written false 1 d.2 e d.6 (left_fine d.2 _ (tail_fine d.0 _ (same_fine d.3 f)))
  form_written tight level ts (tree.Form.braces es) d f = braces_written d.2 es d.6 (left_fine d.2 _ (tail_fine d.0 _ (same_fine d.3 f)))
  form_written tight level ts (tree.Form.cases arms) d f = case_written d.2 arms d.6 d.7 (left_fine d.2 _ (tail_fine d.0 _ (same_fine d.3 f)))
  form_written tight level ts (tree.Form.until q a b) d f =
      let inside : AreFine (d.4 ++ (d.2 ∷ d.5 ++ d.3 ∷ [])) = tail_fine d.1 _ (tail_fine d.0 _ (same_fine d.6 f)) in
      (expr_written false 1 d.4 a d.11 (left_fine d.4 _ inside), expr_written false 1 d.5 b d.12 (left_fine d.5 _ (tail_fine d.2 _ (right_fine d.4 _ inside))))
  form_written tight level ts (tree.Form.prefix op e) d f = prefixed_written op (plain.expr e) (expr_written false _ d.1 e d.5 (tail_fine d.0 _ (same_fine d.2 f)))
  form_written tight level ts (tree.Form.binary op a b) d f =
      (expr_written _ _ d.1 a d.6 (left_fine d.1 _ (same_fine d.3 f)), expr_written _ _ d.2 b d.7 (tail_fine d.0 _ (right_fine d.1 _ (same_fine d.3 f))))

  path_written : (ts : List Placed) (p : tree.PathTree) → DerivesPath ts p → AreFine ts → IsWrittenPath (plain.path p)
  path_written ts (tree.PathTree.path_on line first parts) d f =
      let fine : AreFine (d.0 ∷ d.1) = same_fine d.2 f in
      parts_written d.1 parts (Path.Here line first) d.5 (tail_fine d.0 d.1 fine) (word_atom first d.0 d.3 (first_fine d.0 d.1 fine))

  parts_written : (ts : List Placed) (parts : tree.PathTail) (q : Path) → DerivesParts ts parts → AreFine ts → IsWrittenPath q → IsWrittenPath (plain.followed q parts)
  parts_written ts tree.PathTail.no_parts q d f w = w
  parts_written ts (tree.PathTail.field x parts) q d f w =
      let fine : AreFine (d.1 ∷ d.2) = tail_fine d.0 _ (same_fine d.3 f) in
      parts_written d.2 parts (Path.Field q x) d.6 (tail_fine d.1 d.2 fine) (w, word_atom x d.1 d.5 (first_fine d.1 d.2 fine))
  parts_written ts (tree.PathTail.index e parts) q d f w =
      let fine : AreFine (d.2 ++ (d.1 ∷ d.3)) = tail_fine d.0 _ (same_fine d.4 f) in
      parts_written d.3 parts (Path.Index q (plain.expr e)) d.8 (tail_fine d.1 d.3 (right_fine d.2 _ fine)) (w, expr_written false 1 d.2 e d.7 (left_fine d.2 _ fine))

  braces_written : (ts : List Placed) (es : tree.Trees) → DerivesSome ts es → AreFine ts → IsWrittenExpr (Expr.Braces (plain.exprs es))
  braces_written ts tree.Trees.no_trees d f = absurd d
  braces_written ts (tree.Trees.tree e es) d f = (expr_written false 1 d.0 e d.3 (left_fine d.0 d.1 (same_fine d.2 f)), others_written d.1 es d.4 (right_fine d.0 d.1 (same_fine d.2 f)))

  others_written : (ts : List Placed) (es : tree.Trees) → DerivesOthers ts es → AreFine ts → AreWritten (plain.exprs es)
  others_written ts tree.Trees.no_trees d f = tt
  others_written ts (tree.Trees.tree e es) d f =
      let fine : AreFine (d.1 ++ d.2) = tail_fine d.0 _ (same_fine d.3 f) in
      (expr_written false 1 d.1 e d.5 (left_fine d.1 d.2 fine), others_written d.2 es d.6 (right_fine d.1 d.2 fine))

  case_written : (ts : List Placed) (arms : tree.Arms) → (arms ≡ tree.Arms.no_arms → ⊥) → DerivesArms ts arms → AreFine ts → IsWrittenExpr (Expr.Case (plain.arms arms))
  case_written ts tree.Arms.no_arms some d f = absurd (some refl)
  case_written ts (tree.Arms.arm guard right rest) some d f =
      let fine : AreFine (d.2 ++ (d.0 ∷ d.3 ++ (d.1 ∷ d.4))) = same_fine d.5 f in
      let after : AreFine (d.3 ++ (d.1 ∷ d.4)) = tail_fine d.0 _ (right_fine d.2 _ fine) in
      (expr_written false 1 d.2 guard d.8 (left_fine d.2 _ fine), expr_written false 1 d.3 right d.9 (left_fine d.3 _ after), arms_written d.4 rest d.10 (tail_fine d.1 d.4 (right_fine d.3 _ after)))

  arms_written : (ts : List Placed) (arms : tree.Arms) → DerivesArms ts arms → AreFine ts → AreWrittenArms (plain.arms arms)
  arms_written ts tree.Arms.no_arms d f = tt
  arms_written ts (tree.Arms.arm guard right rest) d f =
      let fine : AreFine (d.2 ++ (d.0 ∷ d.3 ++ (d.1 ∷ d.4))) = same_fine d.5 f in
      let after : AreFine (d.3 ++ (d.1 ∷ d.4)) = tail_fine d.0 _ (right_fine d.2 _ fine) in
      (expr_written false 1 d.2 guard d.8 (left_fine d.2 _ fine), expr_written false 1 d.3 right d.9 (left_fine d.3 _ after), arms_written d.4 rest d.10 (tail_fine d.1 d.4 (right_fine d.3 _ after)))

-- ---- lists

module _ {A : Type 0} (D : List Placed → A → Type 0) (P : A → Type 0) (one : (ts : List Placed) (x : A) → D ts x → AreFine ts → P x) where
  each_written : (ts : List Placed) (xs : List A) → grammar.Each D ts xs → AreFine ts → Each P xs
  each_written ts [] d f = tt
  each_written ts (x ∷ xs) d f = (one d.0 x d.3 (left_fine d.0 d.1 (same_fine d.2 f)), each_written d.1 xs d.4 (right_fine d.0 d.1 (same_fine d.2 f)))

  after_comma : (ts : List Placed) (xs : List A) → grammar.Each (AfterComma D) ts xs → AreFine ts → Each P xs
  after_comma ts [] d f = tt
  after_comma ts (x ∷ xs) d f =
      let here : AreFine (d.3.0 ∷ d.3.1) = same_fine d.3.2 (left_fine d.0 d.1 (same_fine d.2 f)) in
      (one d.3.1 x d.3.4 (tail_fine d.3.0 d.3.1 here), after_comma d.1 xs d.4 (right_fine d.0 d.1 (same_fine d.2 f)))

  commas_written : (ts : List Placed) (xs : List A) → Commas D ts xs → AreFine ts → (0 < length xs) × Each P xs
  commas_written ts [] d f = absurd d
  commas_written ts (x ∷ xs) d f = (omega arith, (one d.0 x d.3 (left_fine d.0 d.1 (same_fine d.2 f)), after_comma d.1 xs d.4 (right_fine d.0 d.1 (same_fine d.2 f))))

  no_members : (xs : List A) → xs ≡ [] → Each P xs
  no_members xs e = subst (Each P) (sym e) tt

  parameters_written : (ts : List Placed) (xs : List A) → Parameters D ts xs → AreFine ts → Each P xs
  parameters_written ts xs (inl none) f = no_members xs none.1
  parameters_written ts xs (inr d) f = by d.6
    where
      by : ((d.2 ≡ []) × (xs ≡ [])) ⊎ Commas D d.2 xs → Each P xs
      by (inl none) = no_members xs none.1
      by (inr some) = (commas_written d.2 xs some (left_fine d.2 _ (tail_fine d.0 _ (same_fine d.3 f)))).1

mapped : {A B : Type 0} (P : B → Type 0) (g : A → B) (xs : List A) → Each (λ x. P (g x)) xs → All P (map g xs)
mapped P g xs h = all_of_each P (map g xs) (each_map P g xs h)

-- ---- types

constant_written : (ts : List Placed) (c : parsed.Lined parsed.Constant) → OnLine DerivesConstant ts c → AreFine ts → IsWrittenConstant (plain.constant c)
constant_written ts c d f = by c.form c.line d.0
  where
    by : (form : parsed.Constant) (line : ℕ) → DerivesConstant ts form → IsWrittenConstant (plain.constant (record { form = form; line = line }))
    by (parsed.Constant.name n) line e = lone_atom n ts e f
    by (parsed.Constant.number n) line e = lone_small n ts e f
    by (parsed.Constant.truth b) line e = tt

range_written : (ts : List Placed) (low high : ℕ) → DerivesRange ts low high → AreFine ts → IsWrittenNumber low × IsWrittenNumber high
range_written ts low high d f =
    let fine : AreFine (d.0 ∷ d.1 ∷ d.2 ∷ []) = same_fine d.3 f in
    (number_small low d.0 d.4 (fine d.0 In.first), number_small high d.2 d.6 (fine d.2 (In.later (In.later In.first))))

end_written : (ts : List Placed) (e : ℤ) → DerivesEnd ts e → AreFine ts → IsWrittenEnd e
end_written ts e (inl d) f = subst IsWrittenEnd (sym d.1) (lone_small d.0 ts d.2 f)
end_written ts e (inr d) f =
    let fine : AreFine (d.2 ∷ d.3 ∷ []) = same_fine d.4 f in
    subst IsWrittenEnd (sym d.1) (opposite_small d.0 (number_small d.0 d.3 d.6 (fine d.3 (In.later In.first))))
  where
    opposite_small : (n : ℕ) → IsWrittenNumber n → IsWrittenEnd (neg_ℤ (pos n))
    opposite_small zero h = h
    opposite_small (suc n) h = h

ends_written : (ts : List Placed) (low high : ℤ) → DerivesEnds ts low high → AreFine ts → IsWrittenEnd low × IsWrittenEnd high
ends_written ts low high d f =
    let fine : AreFine (d.1 ++ (d.0 ∷ d.2)) = same_fine d.3 f in
    (end_written d.1 low d.4 (left_fine d.1 _ fine), end_written d.2 high d.6 (tail_fine d.0 d.2 (right_fine d.1 _ fine)))

length_mapped : {A B : Type 0} (g : A → B) (xs : List A) → 0 < length xs → 0 < length (map g xs)
length_mapped g [] h = absurd (omega (arith, h))
length_mapped g (x ∷ xs) h = omega arith

mutual
  plain_written : (ts : List Placed) (p : parsed.Plain) → DerivesPlain ts p → AreFine ts → IsWrittenType (plain.plain p)
  plain_written ts (parsed.Plain.plain_on line form) d f = plain_form_written ts form d.1 f

  plain_form_written : (ts : List Placed) (form : parsed.PlainForm) → PlainForms ts form → AreFine ts → IsWrittenType (plain.plain_form form)
  plain_form_written ts parsed.PlainForm.boolean d f = tt
  plain_form_written ts (parsed.PlainForm.enumeration constants) d f =
      let h = commas_written (OnLine DerivesConstant) (λ c. IsWrittenConstant (plain.constant c)) constant_written d.2 constants d.6 (left_fine d.2 _ (tail_fine d.0 _ (same_fine d.3 f))) in
      (length_mapped plain.constant constants h.0, mapped IsWrittenConstant plain.constant constants h.1)
  plain_form_written ts (parsed.PlainForm.range low high) d f = ends_written ts low high d f
  plain_form_written ts (parsed.PlainForm.array low high element) d f =
      let fine : AreFine (d.2 ++ (d.1 ∷ d.3)) = tail_fine d.0 _ (same_fine d.4 f) in
      let bounds = range_written d.2 low high d.7 (left_fine d.2 _ fine) in
      (bounds.0, bounds.1, plain_written d.3 element d.8 (tail_fine d.1 d.3 (right_fine d.2 _ fine)))

type_written : (ts : List Placed) (t : parsed.TypeForm) → DerivesType ts t → AreFine ts → IsWrittenForm (plain.form t)
type_written ts (parsed.TypeForm.plain p) d f = plain_written ts p d f
type_written ts (parsed.TypeForm.instance process x actuals) d f =
    let after : AreFine (d.0 ∷ d.2) = right_fine d.1 _ (same_fine d.3 f) in (
      word_atom x d.0 d.5 (first_fine d.0 d.2 after),
      mapped IsWrittenExpr plain.expr actuals (parameters_written grammar.Expression (λ e. IsWrittenExpr (plain.expr e)) (λ us e h g. expr_written false 1 us e h g) d.2 actuals d.6 (tail_fine d.0 d.2 after)),
    )

-- ---- modules

declaration_written : (ts : List Placed) (x : parsed.Lined parsed.Declaration) → OnLine DerivesDeclaration ts x → AreFine ts → IsWrittenDeclaration (plain.declaration x)
declaration_written ts x d f =
    let fine : AreFine (d.0.0 ∷ d.0.1 ∷ (d.0.3 ++ d.0.2 ∷ [])) = same_fine d.0.4 f in
    record {
      name = word_atom x.form.name d.0.0 d.0.5 (fine d.0.0 In.first);
      form = type_written d.0.3 x.form.form.form d.0.8.0 (left_fine d.0.3 _ (tail_fine d.0.1 _ (tail_fine d.0.0 _ fine)));
    }

left_written : (ts : List Placed) (kind : LeftKind) (path : tree.PathTree) → DerivesLeft ts (record { kind = kind; path = path }) → AreFine ts → IsWrittenPath (plain.path path)
left_written ts LeftKind.Current path d f = path_written ts path d f
left_written ts LeftKind.Init path d f = path_written d.3 path d.8 (left_fine d.3 _ (tail_fine d.1 _ (tail_fine d.0 _ (same_fine d.4 f))))
left_written ts LeftKind.Next path d f = path_written d.3 path d.8 (left_fine d.3 _ (tail_fine d.1 _ (tail_fine d.0 _ (same_fine d.4 f))))

assignment_written : (ts : List Placed) (x : parsed.Lined parsed.Assignment) → OnLine DerivesAssignment ts x → AreFine ts → IsWrittenAssignment (plain.assigned x)
assignment_written ts x d f =
    let fine : AreFine (d.0.2 ++ (d.0.0 ∷ d.0.3 ++ d.0.1 ∷ [])) = same_fine d.0.4 f in
    record {
      left = left_written d.0.2 x.form.left.form.kind x.form.left.form.path d.0.7.0 (left_fine d.0.2 _ fine);
      right = expr_written false 1 d.0.3 x.form.right d.0.8 (left_fine d.0.3 _ (tail_fine d.0.0 _ (right_fine d.0.2 _ fine)));
    }

definition_written : (ts : List Placed) (x : parsed.Lined parsed.Definition) → OnLine DerivesDefinition ts x → AreFine ts → IsWrittenDefinition (plain.definition x)
definition_written ts x d f =
    let fine : AreFine (d.0.0 ∷ d.0.1 ∷ (d.0.3 ++ d.0.2 ∷ [])) = same_fine d.0.4 f in
    record {
      name = word_atom x.form.name d.0.0 d.0.5 (fine d.0.0 In.first);
      body = expr_written false 1 d.0.3 x.form.right d.0.8 (left_fine d.0.3 _ (tail_fine d.0.1 _ (tail_fine d.0.0 _ fine)));
    }

stated_written : (c : Condition) (line : ℕ) (e : tree.Tree) → IsWrittenExpr (plain.expr e) → IsWrittenExpr (plain.stated c line e).expr
stated_written Condition.Init line e w = w
stated_written Condition.Invar line e w = w
stated_written Condition.Trans line e w = w
stated_written Condition.Spec line e w = w
stated_written Condition.Fairness line e w = w

section_written : (ts : List Placed) (x : parsed.Lined parsed.Section) → OnLine DerivesSection ts x → AreFine ts → IsWrittenSection (plain.section x)
section_written ts x d f = by x.form x.line d.0
  where
    by : (form : parsed.Section) (line : ℕ) → DerivesSection ts form → IsWrittenSection (plain.section (record { form = form; line = line }))
    by (parsed.Section.variables ds) line e = mapped IsWrittenDeclaration plain.declaration ds (each_written (OnLine DerivesDeclaration) (λ y. IsWrittenDeclaration (plain.declaration y)) declaration_written e.1 ds e.4 (tail_fine e.0 e.1 (same_fine e.2 f)))
    by (parsed.Section.assignments items) line e = mapped IsWrittenAssignment plain.assigned items (each_written (OnLine DerivesAssignment) (λ y. IsWrittenAssignment (plain.assigned y)) assignment_written e.1 items e.4 (tail_fine e.0 e.1 (same_fine e.2 f)))
    by (parsed.Section.definitions ds) line e = mapped IsWrittenDefinition plain.definition ds (each_written (OnLine DerivesDefinition) (λ y. IsWrittenDefinition (plain.definition y)) definition_written e.1 ds e.4 (tail_fine e.0 e.1 (same_fine e.2 f)))
    by (parsed.Section.condition c body) line e = stated_written c line body (expr_written false 1 e.4.0 body e.4.3 (left_fine e.4.0 e.4.1 (same_fine e.4.2 (tail_fine e.0 e.1 (same_fine e.2 f)))))

formal_written : (ts : List Placed) (x : parsed.Lined (List ℕ)) → OnLine DerivesName ts x → AreFine ts → IsAtom x.form
formal_written ts x d f = lone_atom x.form ts d.0 f

module_written : (ts : List Placed) (x : parsed.Lined parsed.Module) → OnLine DerivesModule ts x → AreFine ts → IsWrittenModule (plain.module_of x)
module_written ts x d f =
    let fine : AreFine (d.0.0 ∷ d.0.1 ∷ (d.0.2 ++ d.0.3)) = same_fine d.0.4 f in
    let inside : AreFine (d.0.2 ++ d.0.3) = tail_fine d.0.1 _ (tail_fine d.0.0 _ fine) in
    record {
      name = word_atom x.form.name d.0.1 d.0.6 (fine d.0.1 (In.later In.first));
      formals = mapped (λ y. IsAtom y.name) plain.formal x.form.formals (parameters_written (OnLine DerivesName) (λ y. IsAtom y.form) formal_written d.0.2 x.form.formals d.0.7 (left_fine d.0.2 d.0.3 inside));
      sections = mapped IsWrittenSection plain.section x.form.sections (each_written (OnLine DerivesSection) (λ y. IsWrittenSection (plain.section y)) section_written d.0.3 x.form.sections d.0.8 (right_fine d.0.2 d.0.3 inside));
    }

program_written : (ts : List Placed) (p : parsed.Program) → DerivesProgram ts p → AreFine ts → IsWritten (plain.program p)
program_written ts p d f = mapped IsWrittenModule plain.module_of p (each_written (OnLine DerivesModule) (λ m. IsWrittenModule (plain.module_of m)) module_written ts p d f)

-- ---- the tokens of a text

piece_fine : (text : List ℕ) (kind : Option Kind) (at end line : ℕ) → Spells text kind → IsSmall kind → AreFine (placed at end line kind)
piece_fine text None at end line s small t i = elim i [ ]
piece_fine text (Some (Kind.word w)) at end line s small t In.first = subst IsAtom s.0 s.1
piece_fine text (Some (Kind.word w)) at end line s small t (In.later i) = elim i [ ]
piece_fine text (Some (Kind.number (pos n))) at end line s small t In.first = small
piece_fine text (Some (Kind.number (pos n))) at end line s small t (In.later i) = elim i [ ]
piece_fine text (Some (Kind.number (negsuc n))) at end line s small t i = absurd s
piece_fine text (Some (Kind.key k)) at end line s small t In.first = tt
piece_fine text (Some (Kind.key k)) at end line s small t (In.later i) = elim i [ ]
piece_fine text (Some (Kind.mark k)) at end line s small t In.first = tt
piece_fine text (Some (Kind.mark k)) at end line s small t (In.later i) = elim i [ ]

tokens_fine : (bytes rest : List ℕ) (ps : List Piece) (at line : ℕ) → Cuts bytes ps rest → AllSmall ps → AreFine (tokens_of at line ps)
tokens_fine bytes rest [] at line c small t i = elim i [ ]
tokens_fine bytes rest (p ∷ ps) at line c small t i = by (in_split (placed at (at + length p.text) line p.kind) _ i) (tokens_fine c.0 rest ps (at + length p.text) (line + line_feeds p.text) c.4 small.1 t)
  where
    by : In t (placed at (at + length p.text) line p.kind) ⊎ In t (tokens_of (at + length p.text) (line + line_feeds p.text) ps) → (In t (tokens_of (at + length p.text) (line + line_feeds p.text) ps) → IsFineKind t.kind) → IsFineKind t.kind
    by (inl here) later = piece_fine p.text p.kind at (at + length p.text) line c.2 small.0 t here
    by (inr there) later = later there

pub written : (bytes : List ℕ) (tokens : List Placed) (p : parsed.Program) → Lexes bytes tokens → DerivesProgram tokens p → IsWritten (plain.program p)
written bytes tokens p lexes derives = program_written tokens p derives (same_fine (sym lexes.3) (tokens_fine bytes [] lexes.0 0 1 lexes.1 lexes.2))
