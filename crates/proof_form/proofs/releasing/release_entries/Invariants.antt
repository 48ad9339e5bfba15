use Rattle.std.proofs.Common.{◌≡◌, ℕ, List, ◌++◌}
use Rattle.region_sets.specs.Sets.{Adds}
use Rattle.region_sets.specs.Ranks.{slots}
use Rattle.proof_form.specs.Form.{entries_sets}
use Rattle.proof_form.proofs.releasing.release_entries.Given as goal

-- some slots are released, and the others are left
abbrev pub invariant-loop-entry : goal.invariant-loop-entry
invariant-loop-entry g l = (gone : List ℕ)
    × (slots (entries_sets l.initial.entries.items) ≡ slots (entries_sets l.entries.items) ++ gone)
    × Adds (g.S.StateSets.seen l.sets) (g.S.StateSets.seen l.initial.sets) gone
    × ((g.S.StateSets.seen l.sets).fulls ≡ (g.S.StateSets.seen l.initial.sets).fulls)

abbrev pub decreases-loop-entry : goal.decreases-loop-entry
decreases-loop-entry g l = goal.left-loop-entry g l
