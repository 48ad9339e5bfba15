use Rattle.std.proofs.Common.{◌≡◌, ℕ, ◌<◌}
use Rattle.std.specs.List.{slice_index_or}
use Rattle.kripke_model.specs.declared.models.Part.{Part}
use Rattle.kripke_model.specs.System.{Assignment}
use Rattle.smv_static.specs.Sides.{IsFlagged}
use Rattle.smv_static.proofs.assignments.refuse_beside.Given as goal

-- none so far is a current value of a flagged variable
abbrev pub invariant-loop-assign : goal.invariant-loop-assign
invariant-loop-assign l = (k : ℕ) → k < l.assign-index → (d : Assignment) → (slice_index_or l.assigns k d).part ≡ Part.Now × IsFlagged l.others (slice_index_or l.assigns k d) → ⊥
