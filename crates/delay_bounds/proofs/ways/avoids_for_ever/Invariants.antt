use Rattle.std.proofs.Common.{ℕ, ◌<◌, ◌≤◌, min, length}
use Rattle.kripke_model.specs.Path.{at}
use Rattle.region_sets.specs.Sets.{In}
use Rattle.delay_bounds.proofs.ways.avoids_for_ever.Given as goal

-- none of the members so far is in the set
abbrev pub invariant-loop-n : goal.invariant-loop-n
invariant-loop-n g l = (k : ℕ) → min l.start (length l.lasso.stem) ≤ k → k < l.n → In (g.S.StateSets.seen l.sets) l.set.slot (at l.lasso k) → ⊥
