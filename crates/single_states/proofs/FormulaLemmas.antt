-- The formula of an expression is a leaf where no path operator stands in it, and nowhere else.
use Rattle.std.proofs.Common.{◌≡◌, ◌<◌, List, All, get_or, map, Bool, true, false, refl, sym, ap, subst}
use Rattle.std.specs.Prelude.{not, cond, IsTrue, IsFalse}
use Rattle.std.proofs.lemmas.List.{get_or-map, length-map}
use Rattle.std.proofs.lemmas.List.Elements.{All-map}
use Rattle.kripke_model.specs.declared.expressions.BinOp.{BinOp}
use Rattle.kripke_model.specs.declared.expressions.Formula.{Formula}
use Rattle.kripke_model.specs.declared.refusals.StaticRefusal.{StaticRefusal}
use Rattle.kripke_model.specs.Term.{Term, has_path_operator}
use Rattle.kripke_model.specs.Ctl.{Ctl, formula_of}
use Rattle.kripke_model.specs.Evaluable.{IsEvaluable}
use Rattle.kripke_model.specs.Leaves.{HasLeafConstraints, is_leaf}
use Rattle.kripke_model.specs.Static.{KeepsRules, is_formula}
use Rattle.kripke_model.specs.System.{System, Condition}
use Rattle.kripke_model.specs.WellFormed.{ctl_of}
use Rattle.kripke_model.proofs.FairLemmas.{evaluable_leaf}
use Rattle.kripke_model.proofs.RuledLemmas.{silent_first, silent_second, never_in}

differ : false ≡ true → ⊥
differ e = subst (λ (b : Bool). cond b ⊥ (Unit {0})) e tt

denied : (b : Bool) → not b ≡ true → b ≡ false
denied false h = refl
denied true h = absurd (differ h)

not_false : (b : Bool) → (IsFalse b → ⊥) → b ≡ true
not_false true never = refl
not_false false never = absurd (never refl)

leaf_or_other : (b : Bool) (e : Term) (f : Ctl) → is_leaf f ≡ false → is_leaf (cond b f (Ctl.Leaf e)) ≡ true → b ≡ false
leaf_or_other false e f other leaf = refl
leaf_or_other true e f other leaf = absurd (differ (subst (λ (b : Bool). b ≡ true) other leaf))

leaf_clear : (e : Term) → is_formula e ≡ true → is_leaf (formula_of e) ≡ true → has_path_operator e ≡ false
leaf_clear (Term.Const v) f leaf = refl
leaf_clear (Term.Var x) f leaf = refl
leaf_clear (Term.Running p) f leaf = refl
leaf_clear (Term.Next e) f leaf = denied (has_path_operator e) f
leaf_clear (Term.Braces es) f leaf = denied (has_path_operator (Term.Braces es)) f
leaf_clear (Term.Case arms) f leaf = denied (has_path_operator (Term.Case arms)) f
leaf_clear (Term.Not e) f leaf = leaf_or_other (has_path_operator (Term.Not e)) (Term.Not e) (Ctl.Not (formula_of e)) refl leaf
leaf_clear (Term.Binary BinOp.And a b) f leaf = leaf_or_other (has_path_operator (Term.Binary BinOp.And a b)) (Term.Binary BinOp.And a b) (Ctl.And (formula_of a) (formula_of b)) refl leaf
leaf_clear (Term.Binary BinOp.Or a b) f leaf = leaf_or_other (has_path_operator (Term.Binary BinOp.Or a b)) (Term.Binary BinOp.Or a b) (Ctl.Or (formula_of a) (formula_of b)) refl leaf
leaf_clear (Term.Binary BinOp.Implies a b) f leaf = leaf_or_other (has_path_operator (Term.Binary BinOp.Implies a b)) (Term.Binary BinOp.Implies a b) (Ctl.Implies (formula_of a) (formula_of b)) refl leaf
leaf_clear (Term.Binary BinOp.Iff a b) f leaf = leaf_or_other (has_path_operator (Term.Binary BinOp.Iff a b)) (Term.Binary BinOp.Iff a b) (Ctl.Iff (formula_of a) (formula_of b)) refl leaf
leaf_clear (Term.Binary op a b) f leaf = denied (has_path_operator (Term.Binary op a b)) f
leaf_clear (Term.Quant op e) f leaf = absurd (differ leaf)
leaf_clear (Term.Until all a b) f leaf = absurd (differ leaf)

-- what is so of the results of one list is so of another one's, which are the same
moved : {A B C : Type 0} (f : A → C) (g : B → C) (P : C → Type 0) (xs : List A) (ys : List B) → map f xs ≡ map g ys → All (λ x. P (f x)) xs → All (λ y. P (g y)) ys
moved f g P xs ys same h = λ k d lt.
    subst P (get_or-map g ys k d (g d) lt)
    (subst (All P) same (All-map P f xs h) k (g d) (subst (λ n. k < n) (sym (length-map ys g)) lt))

module _ (m : System) (fs : List Formula) (same : map ctl_of fs ≡ map (λ c. formula_of c.expr) m.constraints) where
  constraint_formulas : KeepsRules m → All (λ c. is_formula c.expr ≡ true) m.constraints
  constraint_formulas rules k d below =
      not_false (is_formula (get_or m.constraints k d).expr)
      (never_in (λ (c : Condition). StaticRefusal.FormulaNotAllowed c.line) (λ (c : Condition). IsFalse (is_formula c.expr)) m.constraints
      (silent_first (silent_second (silent_second (silent_second (silent_second (silent_second (silent_second (silent_second (silent_second rules))))))))) k d below)

  pub leaf_constraints : KeepsRules m → All (λ f. IsTrue (is_leaf (ctl_of f))) fs → HasLeafConstraints m
  leaf_constraints rules leaves k d below =
      leaf_clear (get_or m.constraints k d).expr (constraint_formulas rules k d below)
      (moved ctl_of (λ (c : Condition). formula_of c.expr) (λ f. IsTrue (is_leaf f)) fs m.constraints same leaves k d below)

  pub constraint_leaves : All (λ c. has_path_operator c.expr ≡ false → IsEvaluable m c.expr) m.constraints → HasLeafConstraints m → All (λ f. IsTrue (is_leaf (ctl_of f))) fs
  constraint_leaves known clear =
      moved (λ (c : Condition). formula_of c.expr) ctl_of (λ f. IsTrue (is_leaf f)) m.constraints fs (sym same)
      (λ k d below. sym (ap is_leaf (sym (evaluable_leaf m (get_or m.constraints k d).expr (known k d below (clear k d below))))))
