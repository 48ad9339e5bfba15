use Rattle.std.proofs.Common.{◌≡◌, ℕ, ◌<◌, get_or}
use Rattle.kripke_model.specs.System.{Assignment, value_in}
use Rattle.kripke_model.specs.Step.{IsValueOf}
use Rattle.single_states.proofs.steps.all_met.Given as goal

-- the assignments so far hold
abbrev pub invariant-loop-a : goal.invariant-loop-a
invariant-loop-a l = (k : ℕ) → k < l.a-index → (d : Assignment) → (get_or l.assigns k d).part ≡ l.part → IsValueOf l.model (get_or l.assigns k d).right l.s l.s (value_in l.s (get_or l.assigns k d).var)
