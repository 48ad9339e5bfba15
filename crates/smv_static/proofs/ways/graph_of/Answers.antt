use Rattle.std.proofs.Common.{◌≡◌, ℕ, ◌+◌, List, [], ◌∷◌, ◌++◌, length, ◌∙◌, ap, subst, arith}
use Rattle.smv_static.specs.Numbers.{row}
use Rattle.smv_static.specs.Ways.{HasRows}
use Rattle.smv_static.proofs.EdgeLemmas.{rows_more, rows_same}
use Rattle.smv_static.proofs.ways.graph_of.Goals as goal

pub loop-x-preserved : goal.loop-x-preserved
loop-x-preserved c =
    let i = c.loop-x.invariant in
    let base : List (List ℕ) = c.args.base.now in
    let extra : List (List ℕ) = c.args.extra.now in
    let old : List ℕ = c.loop-x.graph.targets.items in
    let added : List ℕ = row base c.loop-x.x ++ row extra c.loop-x.x in
    let targets : c.add_node.new.graph.targets.items ≡ old ++ added =
    c.in_ok-add_node.ensures.targets ∙ (λ k. old ++ (c.row_at.ensures k ++ c.row_at-in-loop-x.ensures k)) in
    let firsts : c.add_node.new.graph.firsts.items ≡ c.loop-x.graph.firsts.items ++ length (old ++ added) ∷ [] =
    c.in_ok-add_node.ensures.firsts ∙ ap (λ (ts : List ℕ). c.loop-x.graph.firsts.items ++ length ts ∷ []) targets in
    record {
      started = c.in_ok-add_node.ensures.started;
      rows = rows_same base extra c.args.variables (c.loop-x.x + 1) firsts targets (rows_more base extra c.args.variables c.loop-x.x c.loop-x.graph.firsts.items old i.started c.requires.base c.requires.extra i.rows);
    }

pub returns-clause-rows : goal.returns-clause-rows
returns-clause-rows c =
    let last : c.loop-x.x ≡ c.args.variables = omega (arith, c.loop-x-test.false, c.loop-x.auto.x-end) in
    subst (λ (n : ℕ). HasRows c.args.base.now c.args.extra.now c.args.variables n c.loop-x.graph.firsts.items c.loop-x.graph.targets.items) last c.loop-x.invariant.rows
