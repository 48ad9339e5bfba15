use Rattle.std.proofs.Common.{◌+◌, ◌≤◌}
use Rattle.fair_rules.specs.SetLists.{nothing}
use Rattle.proof_form.specs.Pinned.{layers_over}
use Rattle.proof_lines.proofs.Passing.{IsGoing}
use Rattle.proof_lines.proofs.LayerLines.{lines_by}
use Rattle.proof_lines.proofs.lines.layers.Given as goal

abbrev pub invariant-loop-k : goal.invariant-loop-k
invariant-loop-k g l = record {
  going : IsGoing 6 (g.S.StateSets.seen l.fn.sets) (g.S.StateSets.seen l.sets) (lines_by (g.S.StateSets.seen l.fn.sets) l.constraints l.fn.f l.fn.out) nothing
      (layers_over (g.S.StateSets.seen l.fn.sets) l.layers) l.fn.line l.k l.line l.earlier;
  products : g.S.StateSets.products l.sets ≤ g.S.StateSets.products l.fn.sets + l.k;
}
