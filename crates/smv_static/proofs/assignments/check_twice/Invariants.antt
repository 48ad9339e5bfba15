use Rattle.std.proofs.Common.{◌≡◌, ℕ, ◌<◌, ◌+◌, ◌*◌, length, false, take, Any}
use Rattle.std.specs.Prelude.{IsTrue}
use Rattle.std.specs.List.{slice_index_or}
use Rattle.kripke_model.specs.System.{Assignment}
use Rattle.kripke_model.specs.Static.{AssignsAgain}
use Rattle.smv_static.specs.Sides.{cell_of}
use Rattle.smv_static.proofs.assignments.check_twice.Given as goal

-- the cells so far are flagged, and none so far stands after one that it repeats
abbrev pub invariant-loop-assign : goal.invariant-loop-assign
invariant-loop-assign l = record {
  count : length l.given.items ≡ (l.processes + 2) * l.variables;
  sound : (z : ℕ) → IsTrue (slice_index_or l.given.items z false) → (k : ℕ) × (k < l.assign-index) × ((d : Assignment) → z ≡ cell_of l.processes l.variables (slice_index_or l.assigns k d));
  complete : (k : ℕ) → k < l.assign-index → (d : Assignment) → IsTrue (slice_index_or l.given.items (cell_of l.processes l.variables (slice_index_or l.assigns k d)) false);
  none : (k : ℕ) → k < l.assign-index → (d : Assignment) → Any (AssignsAgain (slice_index_or l.assigns k d)) (take k l.assigns) → ⊥;
}
