use Rattle.std.proofs.Common.{◌≡◌, ℕ, List, ◌++◌}
use Rattle.region_sets.specs.Sets.{Adds}
use Rattle.claim_sets.specs.Claimed.{claims_slots}
use Rattle.claim_sets.proofs.claims.release_claims.Given as goal

-- some slots are released, and the others are left
abbrev pub invariant-loop-claim : goal.invariant-loop-claim
invariant-loop-claim g l = (gone : List ℕ)
    × (claims_slots l.initial.claims.items ≡ claims_slots l.claims.items ++ gone)
    × Adds (g.S.StateSets.seen l.sets) (g.S.StateSets.seen l.initial.sets) gone
    × ((g.S.StateSets.seen l.sets).fulls ≡ (g.S.StateSets.seen l.initial.sets).fulls)
    × (g.S.StateSets.products l.sets ≡ g.S.StateSets.products l.initial.sets)

abbrev pub decreases-loop-claim : goal.decreases-loop-claim
decreases-loop-claim g l = goal.left-loop-claim g l
