use Rattle.std.proofs.Common.{◌≡◌, ℕ, ◌<◌, length}
use Rattle.std.specs.Prelude.{Contains, slice_index}
use Rattle.std.specs.List.{slice_index_or}
use Rattle.kripke_model.specs.System.{Assignment}
use Rattle.smv_static.specs.Targets.{targets_of}
use Rattle.smv_static.specs.Numbers.{row}
use Rattle.smv_static.proofs.groups.table.Given as goal

-- the rows have what the assignments so far depend on
abbrev pub invariant-loop-k : goal.invariant-loop-k
invariant-loop-k l = record {
  len : length l.rows.items ≡ l.variables;
  sound : (x y : ℕ) → Contains (row l.rows.items x) y → (j : ℕ) × Contains l.places j
      × ((d : Assignment) → (slice_index_or l.assigns j d).var ≡ x) × ((d : Assignment) → Contains (targets_of (slice_index_or l.assigns j d)) y);
  complete : (i : ℕ) → i < l.k-index → (y : ℕ) (d : Assignment) → Contains (targets_of (slice_index_or l.assigns (slice_index l.places i) d)) y
      → Contains (row l.rows.items (slice_index_or l.assigns (slice_index l.places i) d).var) y;
}
