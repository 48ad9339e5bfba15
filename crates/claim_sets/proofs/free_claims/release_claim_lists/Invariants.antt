use Rattle.std.proofs.Common.{◌≡◌, ℕ, List, ◌++◌}
use Rattle.region_sets.specs.Sets.{Adds}
use Rattle.claim_sets.specs.ConstraintClaims.{lists_claims_slots}
use Rattle.claim_sets.proofs.free_claims.release_claim_lists.Given as goal

-- some slots are released, and the others are left
abbrev pub invariant-loop-list : goal.invariant-loop-list
invariant-loop-list g l = (gone : List ℕ)
    × (lists_claims_slots l.initial.lists.items ≡ lists_claims_slots l.lists.items ++ gone)
    × Adds (g.S.StateSets.seen l.sets) (g.S.StateSets.seen l.initial.sets) gone
    × ((g.S.StateSets.seen l.sets).fulls ≡ (g.S.StateSets.seen l.initial.sets).fulls)
    × (g.S.StateSets.products l.sets ≡ g.S.StateSets.products l.initial.sets)

abbrev pub decreases-loop-list : goal.decreases-loop-list
decreases-loop-list g l = goal.left-loop-list g l
