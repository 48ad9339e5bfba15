use Rattle.std.proofs.Common.{◌≡◌, ℕ, List, ◌++◌}
use Rattle.region_sets.specs.Sets.{Adds}
use Rattle.region_sets.specs.Ranks.{slots}
use Rattle.proof_form.specs.Form.{layer_sets}
use Rattle.proof_form.proofs.releasing.release_layers.Given as goal

-- some slots are released, and the others are left
abbrev pub invariant-loop-layer : goal.invariant-loop-layer
invariant-loop-layer g l = (gone : List ℕ)
    × (slots (layer_sets l.initial.layers.items) ≡ slots (layer_sets l.layers.items) ++ gone)
    × Adds (g.S.StateSets.seen l.sets) (g.S.StateSets.seen l.initial.sets) gone
    × ((g.S.StateSets.seen l.sets).fulls ≡ (g.S.StateSets.seen l.initial.sets).fulls)

abbrev pub decreases-loop-layer : goal.decreases-loop-layer
decreases-loop-layer g l = goal.left-loop-layer g l
