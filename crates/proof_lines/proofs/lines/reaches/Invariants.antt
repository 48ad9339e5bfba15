use Rattle.region_sets.specs.Ranks.{list_regions}
use Rattle.region_sets.specs.Sets.{region}
use Rattle.claim_sets.specs.ConstraintClaims.{constraint_list}
use Rattle.std.proofs.Common.{length, ◌+◌, ◌≤◌, take, true}
use Rattle.std.specs.List.{sum_by}
use Rattle.proof_lines.proofs.ReachLines.{IsReaching}
use Rattle.proof_lines.proofs.lines.reaches.Given as goal

abbrev pub invariant-loop-k : goal.invariant-loop-k
invariant-loop-k g l =
    let start = g.S.StateSets.seen l.fn.sets in record {
      reaching : IsReaching start (g.S.StateSets.seen l.sets) (region start l.fn.set) (constraint_list start l.constraints true) (list_regions start l.lists) l.fn.line l.k l.line;
      products : g.S.StateSets.products l.sets ≤ g.S.StateSets.products l.fn.sets + sum_by (λ list. length list.items) (take l.k l.lists);
    }
