use Rattle.std.proofs.Common.{ℕ, ◌<◌, ◌≤◌, length}
use Rattle.kripke_model.specs.Static.{Graph}
use Rattle.smv_static.specs.Circles.{IsFound, IsClear}
use Rattle.smv_static.proofs.cycles.first_circular.Given as goal

-- the least of the initial graph and of those of the processes so far
abbrev pub invariant-loop-p : goal.invariant-loop-p
invariant-loop-p l = record {
  at_most : l.least ≤ length l.flat.assigns;
  found : IsFound l.flat (length l.flat.assigns) l.least;
  start : IsClear l.flat Graph.AtStart l.least;
  passed : (q : ℕ) → q < l.p → IsClear l.flat (Graph.InProcess q) l.least;
}
