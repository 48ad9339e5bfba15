use Rattle.std.proofs.Common.{map, take, Ok}
use Rattle.kripke_model.specs.WellFormed.{ctl_of}
use Rattle.region_sets.specs.Ranks.{regions}
use Rattle.region_sets.specs.Sets.{region}
use Rattle.fair_rules.specs.FreePart.{path_nodes_of}
use Rattle.rank_extract.specs.FreeMade.{AreFormulasAdded, formulas_hold}
use Rattle.rank_extract.proofs.free_part.add_formulas.Given as goal

-- the formulas before have their entries
abbrev pub invariant-loop-k : goal.invariant-loop-k
invariant-loop-k g l =
    let s0 = g.S.StateSets.seen l.fn.sets in
    let fs = map ctl_of l.formulas in
    AreFormulasAdded {T = Unit {0}} (formulas_hold s0.over (path_nodes_of fs)) s0.over (regions s0 l.visits) (region s0 l.fn.within) (region s0 l.fn.fair) s0 (g.S.StateSets.seen l.sets) 1 (take l.k fs) l.fn.entries.items l.entries.items (Ok tt)
