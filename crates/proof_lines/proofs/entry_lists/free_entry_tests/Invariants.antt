use Rattle.std.proofs.Common.{◌+◌, ◌≤◌, take}
use Rattle.std.specs.List.{sum_by}
use Rattle.proof_lines.specs.LineCounts.{rule_line_count}
use Rattle.proof_lines.proofs.EntryLoops.{IsGone, IsFree, free_list}
use Rattle.proof_lines.proofs.entry_lists.free_entry_tests.Given as goal

abbrev pub invariant-loop-at : goal.invariant-loop-at
invariant-loop-at g l =
    let start = g.S.StateSets.seen l.fn.sets in record {
      gone : IsGone start (g.S.StateSets.seen l.sets) (IsFree start l.frame l.lists) (free_list start l.frame l.lists) l.entries l.fn.line l.at l.line;
      products : g.S.StateSets.products l.sets ≤ g.S.StateSets.products l.fn.sets + sum_by (λ e. rule_line_count e.entry.rule) (take l.at l.entries);
    }
