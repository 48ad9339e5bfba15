use Rattle.std.proofs.Common.{◌≡◌, length}
use Rattle.region_sets.specs.Ranks.{slots}
use Rattle.proof_form.specs.Form.{entries_sets}
use Rattle.proof_cases.specs.LetGo.{Lessens}
use Rattle.proof_cases.proofs.bare.strip_entries.Given as goal

abbrev pub invariant-loop-k : goal.invariant-loop-k
invariant-loop-k g l = Lessens (g.S.StateSets.seen l.fn.sets) (g.S.StateSets.seen l.sets) (slots (entries_sets l.fn.entries.items)) (slots (entries_sets l.entries.items))
    × (length l.entries.items ≡ length l.fn.entries.items)
