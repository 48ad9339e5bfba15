use Rattle.std.proofs.Common.{◌≡◌, ℕ, List, ◌++◌, map}
use Rattle.region_sets.specs.Sets.{Adds}
use Rattle.region_sets.specs.Ranks.{slots}
use Rattle.proof_form.specs.Form.{entries_sets}
use Rattle.proof_form.proofs.releasing.release_free_entries.Given as goal

-- some slots are released, and the others are left
abbrev pub invariant-loop-free : goal.invariant-loop-free
invariant-loop-free g l = (gone : List ℕ)
    × (slots (entries_sets (map (λ e. e.entry) l.initial.entries.items)) ≡ slots (entries_sets (map (λ e. e.entry) l.entries.items)) ++ gone)
    × Adds (g.S.StateSets.seen l.sets) (g.S.StateSets.seen l.initial.sets) gone
    × ((g.S.StateSets.seen l.sets).fulls ≡ (g.S.StateSets.seen l.initial.sets).fulls)

abbrev pub decreases-loop-free : goal.decreases-loop-free
decreases-loop-free g l = goal.left-loop-free g l
