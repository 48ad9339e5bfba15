use Rattle.std.proofs.Common.{◌≡◌, ℕ, ◌<◌, get_or, IsTrue}
use Rattle.kripke_model.specs.declared.models.Part.{Part}
use Rattle.kripke_model.specs.System.{Assignment, value_in}
use Rattle.kripke_model.specs.Evaluation.{runs}
use Rattle.kripke_model.specs.Step.{IsValueOf}
use Rattle.single_states.proofs.steps.all_next_met.Given as goal

-- the assignments so far hold
abbrev pub invariant-loop-a : goal.invariant-loop-a
invariant-loop-a l = (k : ℕ) → k < l.a-index → (d : Assignment) → (get_or l.assigns k d).part ≡ Part.Next → IsTrue (runs l.model l.s (get_or l.assigns k d).process) → IsValueOf l.model (get_or l.assigns k d).right l.s l.t (value_in l.t (get_or l.assigns k d).var)
