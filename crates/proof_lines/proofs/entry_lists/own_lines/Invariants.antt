use Rattle.std.proofs.Common.{◌+◌, ◌≤◌, take}
use Rattle.std.specs.List.{sum_by}
use Rattle.proof_lines.specs.LineCounts.{rule_line_count}
use Rattle.proof_lines.proofs.EntryLoops.{IsGone, IsOwn, own_list}
use Rattle.proof_lines.proofs.entry_lists.own_lines.Given as goal

abbrev pub invariant-loop-k : goal.invariant-loop-k
invariant-loop-k g l =
    let start = g.S.StateSets.seen l.fn.sets in record {
      gone : IsGone start (g.S.StateSets.seen l.sets) (IsOwn start l.frame l.claims) (own_list start l.frame l.claims) l.entries l.fn.line l.k l.line;
      products : g.S.StateSets.products l.sets ≤ g.S.StateSets.products l.fn.sets + sum_by (λ e. rule_line_count e.rule) (take l.k l.entries);
    }
