use Rattle.std.proofs.Common.{◌≡◌, ℕ, ◌+◌, ◌<◌, length}
use Rattle.std.specs.Prelude.{Contains}
use Rattle.std.specs.List.{slice_index_or}
use Rattle.kripke_model.specs.System.{Assignment}
use Rattle.smv_static.specs.Groups.{group_of}
use Rattle.smv_static.specs.Numbers.{row}
use Rattle.smv_static.proofs.groups.grouped.Given as goal

-- the rows have the places so far
abbrev pub invariant-loop-k : goal.invariant-loop-k
invariant-loop-k l = record {
  len : length l.rows.items ≡ l.processes + 2;
  known : (g j : ℕ) → Contains (row l.rows.items g) j → j < l.k;
  sound : (g j : ℕ) (d : Assignment) → Contains (row l.rows.items g) j → group_of l.processes (slice_index_or l.assigns j d) ≡ g;
  complete : (j : ℕ) → j < l.k → (d : Assignment) → Contains (row l.rows.items (group_of l.processes (slice_index_or l.assigns j d))) j;
}
