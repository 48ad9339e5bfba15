use Rattle.std.proofs.Common.{ℕ, ◌<◌, get_or}
use Rattle.kripke_model.specs.System.{Assignment}
use Rattle.smv_static.specs.Sections.{IsWrongIn}
use Rattle.smv_static.proofs.sections.refuse_assigns.Given as goal

-- none so far is refused
abbrev pub invariant-loop-assign : goal.invariant-loop-assign
invariant-loop-assign l = (k : ℕ) → k < l.assign-index → (d : Assignment) → IsWrongIn l.rule (get_or l.assigns k d) → ⊥
