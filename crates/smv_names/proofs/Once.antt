-- A path denotes one target at most, and an expression stands for one term at most.
use Rattle.std.proofs.Common.{◌≡◌, refl, sym, ◌∙◌, ap, subst, ℕ, List, [], ◌∷◌, Bool, true, false, Some, None, Option}
use Rattle.std.specs.Prelude.{cond, pos, is_some, Ok}
use Rattle.kripke_model.specs.declared.expressions.Value.{Value}
use Rattle.kripke_model.specs.declared.expressions.Value.TheVariants.{Number, Symbol}
use Rattle.kripke_model.specs.Term.{Term, Terms, Arms}
use Rattle.kripke_model.specs.Evaluation.{Checked}
use Rattle.smv_instances.specs.Program.{Name, Expr, Exprs, Path, Plain, Module, Program}
use Rattle.smv_instances.specs.Program
use Rattle.smv_instances.specs.Instances.{Scope, place_of, variable_names, symbols, spelled}
use Rattle.smv_names.specs.Denotes.{Target, Bracket, Denotes, Finds, meaning, Meaning}
use Rattle.smv_names.specs.Expands.{HasValue, element_name, Expands, ExpandElements, ExpandArms, Selects, IsIndex, AreIndexes}

not_true : false ≡ true → ⊥
not_true e = subst (λ b. cond b ⊥ (Unit {0})) e tt

not_some : {A : Type 0} {a : A} → None ≡ Some a → ⊥
not_some e = not_true (ap is_some e)

both : {A B C : Type 0} (f : A → B → C) {a a' : A} {b b' : B} → a ≡ a' → b ≡ b' → f a b ≡ f a' b'
both f {a'} {b} p q = ap (λ z. f z b) p ∙ ap (f a') q

-- ---- paths

abbrev target_or : Target → Option Meaning → Target
target_or t (Some (Meaning.Direct u)) = u
target_or t other = t

abbrev is_direct : Option Meaning → Bool
is_direct (Some (Meaning.Direct t)) = true
is_direct other = false

abbrev around_or : Scope → Option Meaning → Scope
around_or s (Some (Meaning.Passed around q)) = around
around_or s other = s

abbrev path_or : Path → Option Meaning → Path
path_or q (Some (Meaning.Passed around r)) = r
path_or q other = q

abbrev instance_or : Scope → Target → Scope
instance_or s (Target.Instance i) = i
instance_or s other = s

-- what is left after one more index
abbrev one_index : Scope → Expr → Target → Target
one_index s e (Target.Stored home x (Plain.Array low high element) indexes) = Target.Stored home x element (record { low = low; high = high; scope = s; index = e } ∷ indexes)
one_index s e other = other

finds_something : {p : Program} {s : Scope} {x : Name} {t : Target} → Finds p s x t → meaning p s x ≡ None → ⊥
finds_something (Finds.direct e) none = not_some (sym none ∙ e)
finds_something (Finds.passed_on e d) none = not_some (sym none ∙ e)

not_both : {s : Scope} {q : Path} {t : Target} {m : Option Meaning} → m ≡ Some (Meaning.Direct t) → m ≡ Some (Meaning.Passed s q) → ⊥
not_both e f = not_true (sym (ap is_direct f) ∙ ap is_direct e)

mutual
  finds_one : {p : Program} {s : Scope} {x : Name} {t u : Target} → Finds p s x t → Finds p s x u → t ≡ u
  finds_one {t} (Finds.direct e) (Finds.direct f) = ap (target_or t) (sym e ∙ f)
  finds_one (Finds.direct e) (Finds.passed_on f d) = absurd (not_both e f)
  finds_one (Finds.passed_on e d) (Finds.direct f) = absurd (not_both f e)
  finds_one {p} {u} (Finds.passed_on {around = a} {q = q} e d) (Finds.passed_on {around = b} {q = r} f c) =
      denotes_one d (subst (λ z. Denotes p z q u) (ap (around_or a) (sym f ∙ e)) (subst (λ z. Denotes p b z u) (ap (path_or q) (sym f ∙ e)) c))

  pub denotes_one : {p : Program} {s : Scope} {q : Path} {t u : Target} → Denotes p s q t → Denotes p s q u → t ≡ u
  denotes_one (Denotes.here f) (Denotes.here g) = finds_one f g
  denotes_one (Denotes.here f) (Denotes.constant none is) = absurd (finds_something f none)
  denotes_one (Denotes.constant none is) (Denotes.here g) = absurd (finds_something g none)
  denotes_one (Denotes.constant none is) (Denotes.constant none' is') = refl
  denotes_one {p} {u} (Denotes.field {i = i} {x = x} d f) (Denotes.field {i = j} c g) = finds_one f (subst (λ z. Finds p z x u) (ap (instance_or i) (sym (denotes_one d c))) g)
  denotes_one {s} (Denotes.index {e = e} d) (Denotes.index c) = ap (one_index s e) (denotes_one d c)

-- ---- expressions

-- which kind of target it is
abbrev is_stored : Target → Bool
is_stored (Target.Stored home x type indexes) = true
is_stored other = false

abbrev is_reading : Target → Bool
is_reading (Target.Reading home e) = true
is_reading other = false

abbrev home_or : Scope → Target → Scope
home_or s (Target.Reading home e) = home
home_or s (Target.Stored home x type indexes) = home
home_or s other = s

abbrev expr_or : Expr → Target → Expr
expr_or d (Target.Reading home e) = e
expr_or d other = d

abbrev name_or : Name → Target → Name
name_or d (Target.Stored home x type indexes) = x
name_or d (Target.Constant x) = x
name_or d other = d

abbrev indexes_or : List Bracket → Target → List Bracket
indexes_or d (Target.Stored home x type indexes) = indexes
indexes_or d other = d

not_stored_reading : {p : Program} {s : Scope} {q : Path} {h : Scope} {e : Expr} {k : ℕ} → Selects p s q k → Denotes p s q (Target.Reading h e) → ⊥
not_stored_reading (Selects.cell d array indexes) c = not_true (ap is_stored (denotes_one c d))

not_stored_constant : {p : Program} {s : Scope} {q : Path} {x : Name} {k : ℕ} → Selects p s q k → Denotes p s q (Target.Constant x) → ⊥
not_stored_constant (Selects.cell d array indexes) c = not_true (ap is_stored (denotes_one c d))

not_constant_reading : {p : Program} {s : Scope} {q : Path} {x : Name} {h : Scope} {e : Expr} → Denotes p s q (Target.Constant x) → Denotes p s q (Target.Reading h e) → ⊥
not_constant_reading c d = not_true (ap is_reading (denotes_one c d))

number_in : Checked (List Value) → ℕ
number_in (Ok (Number (pos n) ∷ [])) = n
number_in other = 0

one_value : {t u : Term} {n m : ℕ} → t ≡ u → HasValue t n → HasValue u m → n ≡ m
unfolding number_in
one_value {t} {n} {m} same has has' = ap number_in (sym has ∙ subst (λ z. HasValue z m) (sym same) has')

mutual
  pub expands_one : {p : Program} {s : Scope} {e : Expr} {t u : Term} → Expands p s e t → Expands p s e u → t ≡ u
  expands_one Expands.number Expands.number = refl
  expands_one Expands.truth Expands.truth = refl
  expands_one Expands.running Expands.running = refl
  expands_one (Expands.variable v) (Expands.variable w) = ap Term.Var (selects_one v w)
  expands_one (Expands.variable v) (Expands.constant c) = absurd (not_stored_constant v c)
  expands_one (Expands.variable v) (Expands.read d r) = absurd (not_stored_reading v d)
  expands_one (Expands.constant c) (Expands.variable v) = absurd (not_stored_constant v c)
  expands_one {p} (Expands.constant {x = x} c) (Expands.constant d) = ap (λ z. Term.Const (Symbol (place_of (symbols p) (name_or x z)))) (denotes_one c d)
  expands_one (Expands.constant c) (Expands.read d r) = absurd (not_constant_reading c d)
  expands_one (Expands.read d r) (Expands.variable v) = absurd (not_stored_reading v d)
  expands_one (Expands.read d r) (Expands.constant c) = absurd (not_constant_reading c d)
  expands_one {p} {u} (Expands.read {home = h} {e = e} d r) (Expands.read {home = g} c q) =
      expands_one r (subst (λ z. Expands p z e u) (ap (home_or h) (sym (denotes_one d c))) (subst (λ z. Expands p g z u) (ap (expr_or e) (sym (denotes_one d c))) q))
  expands_one (Expands.next a) (Expands.next b) = ap Term.Next (expands_one a b)
  expands_one (Expands.parens a) (Expands.parens b) = expands_one a b
  expands_one (Expands.braces a) (Expands.braces b) = ap Term.Braces (elements_one a b)
  expands_one (Expands.cases a) (Expands.cases b) = ap Term.Case (arms_one a b)
  expands_one (Expands.negation a) (Expands.negation b) = ap Term.Not (expands_one a b)
  expands_one (Expands.binary {op = op} a b) (Expands.binary c d) = both (Term.Binary op) (expands_one a c) (expands_one b d)
  expands_one (Expands.quantified {op = op} a) (Expands.quantified b) = ap (Term.Quant op) (expands_one a b)
  expands_one (Expands.until {all = all} a b) (Expands.until c d) = both (Term.Until all) (expands_one a c) (expands_one b d)

  elements_one : {p : Program} {s : Scope} {es : Exprs} {ts us : Terms} → ExpandElements p s es ts → ExpandElements p s es us → ts ≡ us
  elements_one ExpandElements.last_element ExpandElements.last_element = refl
  elements_one (ExpandElements.element a as') (ExpandElements.element b bs) = both Terms.more (expands_one a b) (elements_one as' bs)

  arms_one : {p : Program} {s : Scope} {arms : Program.Arms} {ts us : Arms} → ExpandArms p s arms ts → ExpandArms p s arms us → ts ≡ us
  arms_one ExpandArms.last_arm ExpandArms.last_arm = refl
  arms_one (ExpandArms.arm a b rest) (ExpandArms.arm c d rest') = both (λ (f : Arms → Arms) z. f z) (both (λ g r z. Arms.arm g r z) (expands_one a c) (expands_one b d)) (arms_one rest rest')

  pub selects_one : {p : Program} {s : Scope} {q : Path} {x y : ℕ} → Selects p s q x → Selects p s q y → x ≡ y
  selects_one {p} (Selects.cell {home = h} {x = x} {indexes = is} {ns = ns} d array ks) (Selects.cell {ns = ms} c array' ls) =
      both (λ (z : Target) (z' : List ℕ). place_of (variable_names p) (element_name (spelled (home_or h z) (name_or x z)) z')) (denotes_one d c)
      (indexes_one ks (subst (λ z. AreIndexes p z ms) (ap (indexes_or is) (sym (denotes_one d c))) ls))

  index_one : {p : Program} {i : Bracket} {n m : ℕ} → IsIndex p i n → IsIndex p i m → n ≡ m
  index_one (IsIndex.value a arithmetic has low high) (IsIndex.value b arithmetic' has' low' high') = one_value (expands_one a b) has has'

  indexes_one : {p : Program} {is : List Bracket} {ns ms : List ℕ} → AreIndexes p is ns → AreIndexes p is ms → ns ≡ ms
  indexes_one AreIndexes.last_index AreIndexes.last_index = refl
  indexes_one (AreIndexes.index a as') (AreIndexes.index b bs) = both ◌∷◌ (index_one a b) (indexes_one as' bs)
