-- Whether an expression holds is decidable.
use Rattle.std.proofs.Common.{◌≡◌, ◌⊎◌, inl, inr, zero, suc, List, [], ◌∷◌, pos, refl}
use Rattle.std.specs.Prelude.{Ok}
use Rattle.kripke_model.specs.declared.expressions.Value.{Value}
use Rattle.kripke_model.specs.declared.expressions.Value.TheVariants.{Number}
use Rattle.kripke_model.specs.Term.{Term}
use Rattle.kripke_model.specs.System.{System, State}
use Rattle.kripke_model.specs.Evaluation.{Checked, eval, Holds}

one_or_not : (c : Checked (List Value)) → (c ≡ Ok (Number (pos 1) ∷ [])) ⊎ (c ≡ Ok (Number (pos 1) ∷ []) → ⊥)
one_or_not (Ok (Number (pos (suc zero)) ∷ [])) = inl refl
one_or_not _ = inr (λ e. absurd cc)

pub holds_or_not : (m : System) (e : Term) (s t : State) → Holds m e s t ⊎ (Holds m e s t → ⊥)
holds_or_not m e s t = one_or_not (eval m e s t)
