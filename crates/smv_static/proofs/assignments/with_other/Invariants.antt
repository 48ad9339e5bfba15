use Rattle.std.proofs.Common.{◌≡◌, ◌≢◌, ℕ, ◌<◌, length, false}
use Rattle.std.specs.Prelude.{IsTrue}
use Rattle.std.specs.List.{slice_index_or}
use Rattle.kripke_model.specs.declared.models.Part.{Part}
use Rattle.kripke_model.specs.System.{Assignment}
use Rattle.smv_static.specs.Sides.{HasOther, IsFlagged}
use Rattle.smv_static.proofs.assignments.with_other.Given as goal

-- the variables so far
abbrev pub invariant-loop-assign : goal.invariant-loop-assign
invariant-loop-assign l = record {
  count : length l.flags.items ≡ l.variables;
  sound : (x : ℕ) → IsTrue (slice_index_or l.flags.items x false) → HasOther l.assigns x;
  complete : (k : ℕ) → k < l.assign-index → (d : Assignment) → (slice_index_or l.assigns k d).part ≢ Part.Now → IsFlagged l.flags.items (slice_index_or l.assigns k d);
}
