use Rattle.std.proofs.Common.{ℕ, ◌<◌, ◌≤◌, [], get_or}
use Rattle.region_sets.specs.Sets.{In}
use Rattle.delay_bounds.proofs.ways.avoids_from.Given as goal

-- none of those so far is in the set
abbrev pub invariant-loop-j : goal.invariant-loop-j
invariant-loop-j g l = (k : ℕ) → l.start ≤ k → k < l.j → In (g.S.StateSets.seen l.sets) l.set.slot (get_or l.way k []) → ⊥
