use Rattle.std.proofs.Common.{◌≡◌, ℕ, ◌<◌, get_or, IsTrue}
use Rattle.kripke_model.specs.declared.models.Part.{Part}
use Rattle.kripke_model.specs.System.{Assignment}
use Rattle.kripke_model.specs.Evaluation.{runs}
use Rattle.single_states.proofs.steps.is_driven.Given as goal

-- none so far
abbrev pub invariant-loop-a : goal.invariant-loop-a
invariant-loop-a l = (k : ℕ) → k < l.a-index → (d : Assignment) → ((get_or l.assigns k d).part ≡ Part.Next) × ((get_or l.assigns k d).var ≡ l.x) × IsTrue (runs l.model l.s (get_or l.assigns k d).process) → ⊥
