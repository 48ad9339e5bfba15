use Rattle.std.proofs.Common.{◌≡◌, ℕ, ◌<◌, get_or}
use Rattle.kripke_model.specs.declared.models.Part.{Part}
use Rattle.kripke_model.specs.System.{Assignment, value_in}
use Rattle.kripke_model.specs.Step.{IsDriven}
use Rattle.single_states.proofs.steps.all_kept.Given as goal

-- the variables so far are kept
abbrev pub invariant-loop-a : goal.invariant-loop-a
invariant-loop-a l = (k : ℕ) → k < l.a-index → (d : Assignment) → (get_or l.assigns k d).part ≡ Part.Next → (IsDriven l.model l.s (get_or l.assigns k d).var → ⊥) → value_in l.t (get_or l.assigns k d).var ≡ value_in l.s (get_or l.assigns k d).var
