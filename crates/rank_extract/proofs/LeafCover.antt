-- Constraints without path operators are claimed by their values alone.
use Rattle.std.proofs.Common.{◌≡◌, inl, inr, ℕ, ◌<◌, true, false, not, length, get_or, refl, sym, ap, subst}
use Rattle.std.proofs.lemmas.Bool.{cases_Bool}
use Rattle.kripke_model.specs.Ctl.{Ctl, formula_of}
use Rattle.kripke_model.specs.Evaluation.{Holds, eval}
use Rattle.kripke_model.specs.Leaves.{HasLeafConstraints}
use Rattle.kripke_model.specs.System.{System, State, Condition}
use Rattle.kripke_model.specs.Term.{Term}
use Rattle.kripke_model.specs.Truth.{FreeSat}
use Rattle.path_laws.specs.StateSet.{◌∈◌}
use Rattle.fair_rules.specs.Claims.{Proof, claimed, is_one}
use Rattle.fair_rules.proofs.ClaimsSound.{one_is}
use Rattle.fair_rules.proofs.LeafSets.{formula_is_leaf}

module _ (m : System) (p : Proof) where
  pub leaf_true : (e : Term) (s : State) → Holds m e s s → s ∈ claimed m p (Ctl.Leaf e) 1 true
  leaf_true e s h = subst (λ c. is_one c ≡ true) (sym h) refl

  pub leaf_false : (e : Term) (s : State) → (Holds m e s s → ⊥) → s ∈ claimed m p (Ctl.Leaf e) 1 false
  leaf_false e s none = elim (cases_Bool (is_one (eval m e s s))) [
    | inl one ↦ absurd (none (one_is (eval m e s s) one))
    | inr out ↦ ap not out
  ]

  module _ (leaves : HasLeafConstraints m) (k : ℕ) (c : Condition) (lt : k < length m.constraints) (s : State) where
    is_leaf : formula_of (get_or m.constraints k c).expr ≡ Ctl.Leaf (get_or m.constraints k c).expr
    is_leaf = formula_is_leaf (get_or m.constraints k c).expr (leaves k c lt)

    pub constraint_true : FreeSat m (formula_of (get_or m.constraints k c).expr) s → s ∈ claimed m p (formula_of (get_or m.constraints k c).expr) 1 true
    constraint_true = subst (λ f. FreeSat m f s → s ∈ claimed m p f 1 true) (sym is_leaf) (leaf_true (get_or m.constraints k c).expr s)

    pub constraint_false : (FreeSat m (formula_of (get_or m.constraints k c).expr) s → ⊥) → s ∈ claimed m p (formula_of (get_or m.constraints k c).expr) 1 false
    constraint_false = subst (λ f. (FreeSat m f s → ⊥) → s ∈ claimed m p f 1 false) (sym is_leaf) (leaf_false (get_or m.constraints k c).expr s)
