-- The leaves of an accepted model's formulas have values.
use Rattle.std.proofs.Common.{◌≡◌, refl, sym, subst, List, Bool, true, false, inl, inr, get_or}
use Rattle.std.specs.Prelude.{not, cond, if◌then◌else◌, All, Any, IsFalse}
use Rattle.std.proofs.lemmas.Bool.{and_parts}
use Rattle.kripke_model.specs.declared.expressions.BinOp.{BinOp}
use Rattle.kripke_model.specs.declared.refusals.StaticRefusal.{StaticRefusal}
use Rattle.kripke_model.specs.Term.{Term, has_path_operator}
use Rattle.kripke_model.specs.Ctl.{Ctl, leaf_or, formula_of}
use Rattle.kripke_model.specs.System.{System, Condition}
use Rattle.kripke_model.specs.Evaluable.{IsEvaluable}
use Rattle.kripke_model.specs.Flat.{IsFlat, IsSound}
use Rattle.kripke_model.specs.Leaves.{IsLeafOf, IsModelLeaf}
use Rattle.kripke_model.specs.Refusing.{Silent}
use Rattle.kripke_model.specs.Static.{is_formula, formula_not_allowed, refused_condition}
use Rattle.kripke_model.proofs.SoundLemmas.{evaluable}
use Rattle.kripke_model.proofs.RuledLemmas.{silent_first, silent_second, never_in, constraints_sound, specs_sound}

-- a leaf of `leaf_or e f` is e, where that has no path operator, or one of f
either_leaf : (m : System) (t e : Term) (f : Ctl) → IsSound m e → (IsLeafOf t f → IsEvaluable m t) → IsLeafOf t (leaf_or e f) → IsEvaluable m t
either_leaf m t e f sound below h = by (has_path_operator e) refl h
  where
    by : (b : Bool) → has_path_operator e ≡ b → IsLeafOf t (if b then f else Ctl.Leaf e) → IsEvaluable m t
    by true clear k = below k
    by false clear k = subst (λ u. IsEvaluable m u) (sym k) (evaluable m e sound clear)

unnegated : (b : Bool) → not b ≡ true → b ≡ false
unnegated false h = refl
unnegated true h = absurd (subst (λ (b : Bool). cond b ⊥ (Unit {0})) h tt)

whole_leaf : (m : System) (t e : Term) → IsSound m e → not (has_path_operator e) ≡ true → t ≡ e → IsEvaluable m t
whole_leaf m t e sound allowed h = subst (λ u. IsEvaluable m u) (sym h) (evaluable m e sound (unnegated (has_path_operator e) allowed))

-- a leaf of a formula
pub leaf_known : (m : System) (t e : Term) → IsSound m e → is_formula e ≡ true → IsLeafOf t (formula_of e) → IsEvaluable m t
leaf_known m t (Term.Const v) sound allowed h = whole_leaf m t (Term.Const v) sound allowed h
leaf_known m t (Term.Var x) sound allowed h = whole_leaf m t (Term.Var x) sound allowed h
leaf_known m t (Term.Running p) sound allowed h = whole_leaf m t (Term.Running p) sound allowed h
leaf_known m t (Term.Next e) sound allowed h = whole_leaf m t (Term.Next e) sound allowed h
leaf_known m t (Term.Braces es) sound allowed h = whole_leaf m t (Term.Braces es) sound allowed h
leaf_known m t (Term.Case arms) sound allowed h = whole_leaf m t (Term.Case arms) sound allowed h
leaf_known m t (Term.Not e) sound allowed h = either_leaf m t (Term.Not e) (Ctl.Not (formula_of e)) sound (leaf_known m t e sound allowed) h
leaf_known m t (Term.Binary BinOp.And a b) sound allowed h =
    let p = and_parts (is_formula a) (is_formula b) allowed in
    either_leaf m t (Term.Binary BinOp.And a b) (Ctl.And (formula_of a) (formula_of b)) sound
    (λ k. elim k [ inl x ↦ leaf_known m t a sound.0 p.0 x | inr y ↦ leaf_known m t b sound.1 p.1 y ]) h
leaf_known m t (Term.Binary BinOp.Or a b) sound allowed h =
    let p = and_parts (is_formula a) (is_formula b) allowed in
    either_leaf m t (Term.Binary BinOp.Or a b) (Ctl.Or (formula_of a) (formula_of b)) sound
    (λ k. elim k [ inl x ↦ leaf_known m t a sound.0 p.0 x | inr y ↦ leaf_known m t b sound.1 p.1 y ]) h
leaf_known m t (Term.Binary BinOp.Implies a b) sound allowed h =
    let p = and_parts (is_formula a) (is_formula b) allowed in
    either_leaf m t (Term.Binary BinOp.Implies a b) (Ctl.Implies (formula_of a) (formula_of b)) sound
    (λ k. elim k [ inl x ↦ leaf_known m t a sound.0 p.0 x | inr y ↦ leaf_known m t b sound.1 p.1 y ]) h
leaf_known m t (Term.Binary BinOp.Iff a b) sound allowed h =
    let p = and_parts (is_formula a) (is_formula b) allowed in
    either_leaf m t (Term.Binary BinOp.Iff a b) (Ctl.Iff (formula_of a) (formula_of b)) sound
    (λ k. elim k [ inl x ↦ leaf_known m t a sound.0 p.0 x | inr y ↦ leaf_known m t b sound.1 p.1 y ]) h
leaf_known m t (Term.Binary BinOp.Mul a b) sound allowed h = whole_leaf m t (Term.Binary BinOp.Mul a b) sound allowed h
leaf_known m t (Term.Binary BinOp.Div a b) sound allowed h = whole_leaf m t (Term.Binary BinOp.Div a b) sound allowed h
leaf_known m t (Term.Binary BinOp.Add a b) sound allowed h = whole_leaf m t (Term.Binary BinOp.Add a b) sound allowed h
leaf_known m t (Term.Binary BinOp.Sub a b) sound allowed h = whole_leaf m t (Term.Binary BinOp.Sub a b) sound allowed h
leaf_known m t (Term.Binary BinOp.Mod a b) sound allowed h = whole_leaf m t (Term.Binary BinOp.Mod a b) sound allowed h
leaf_known m t (Term.Binary BinOp.Union a b) sound allowed h = whole_leaf m t (Term.Binary BinOp.Union a b) sound allowed h
leaf_known m t (Term.Binary BinOp.Member a b) sound allowed h = whole_leaf m t (Term.Binary BinOp.Member a b) sound allowed h
leaf_known m t (Term.Binary BinOp.Eq a b) sound allowed h = whole_leaf m t (Term.Binary BinOp.Eq a b) sound allowed h
leaf_known m t (Term.Binary BinOp.Lt a b) sound allowed h = whole_leaf m t (Term.Binary BinOp.Lt a b) sound allowed h
leaf_known m t (Term.Binary BinOp.Gt a b) sound allowed h = whole_leaf m t (Term.Binary BinOp.Gt a b) sound allowed h
leaf_known m t (Term.Binary BinOp.Le a b) sound allowed h = whole_leaf m t (Term.Binary BinOp.Le a b) sound allowed h
leaf_known m t (Term.Binary BinOp.Ge a b) sound allowed h = whole_leaf m t (Term.Binary BinOp.Ge a b) sound allowed h
leaf_known m t (Term.Quant op e) sound allowed h = leaf_known m t e sound allowed h
leaf_known m t (Term.Until all a b) sound allowed h =
    let p = and_parts (is_formula a) (is_formula b) allowed in
    elim h [ inl x ↦ leaf_known m t a sound.0 p.0 x | inr y ↦ leaf_known m t b sound.1 p.1 y ]

not_false : (b : Bool) → (IsFalse b → ⊥) → b ≡ true
not_false true never = refl
not_false false never = absurd (never refl)

module _ (m : System) (flat : IsFlat m) (allowed : Silent (formula_not_allowed m)) where
  in_formula : (cs : List Condition) → All (λ c. IsSound m c.expr) cs → Silent (refused_condition StaticRefusal.FormulaNotAllowed (λ e. IsFalse (is_formula e)) cs)
      → (t : Term) → Any (λ c. IsLeafOf t (formula_of c.expr)) cs → IsEvaluable m t
  in_formula cs sound silent t h =
      let formula = not_false (is_formula (get_or cs h.0 h.1).expr) (never_in (λ (c : Condition). StaticRefusal.FormulaNotAllowed c.line) (λ (c : Condition). IsFalse (is_formula c.expr)) cs silent h.0 h.1 h.2) in
      leaf_known m t (get_or cs h.0 h.1).expr (sound h.0 h.1 h.2) formula (subst (λ (c : Condition). IsLeafOf t (formula_of c.expr)) (sym h.3) h.4)

  pub leaf_evaluable : (t : Term) → IsModelLeaf m t → IsEvaluable m t
  leaf_evaluable t (inl h) = in_formula m.constraints (constraints_sound m flat) (silent_first (silent_second (silent_second (silent_second (silent_second allowed))))) t h
  leaf_evaluable t (inr h) = in_formula m.specs (specs_sound m flat) (silent_second (silent_second (silent_second (silent_second (silent_second allowed))))) t h
