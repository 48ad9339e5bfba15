use Rattle.std.proofs.Common.{◌+◌, ◌<◌, [], Ok, sym, subst, arith}
use Rattle.std.proofs.lemmas.Result.{err_from_is_err_and}
use Rattle.proof_text.specs.FileParts.{FitsNode, one_node}
use Rattle.proof_text.specs.Lines.{line_text}
use Rattle.proof_text.specs.Spells.{IsGoodLine}
use Rattle.proof_text.proofs.FoundNodes.{some_node, node_known}
use Rattle.text_lines.specs.Formats.{FitMany, lines_of_many}
use Rattle.text_lines.specs.Found.{IsFound}
use Rattle.text_lines.proofs.FoundMany.{many_more, many_fault}
use Rattle.proof_text.proofs.node_reading.read_nodes.Goals as goal

pub returns-in_err-read_node : goal.returns-in_err-read_node
returns-in_err-read_node c =
    let p = err_from_is_err_and c.from_residual.result c.from_residual.ensures.1 in
    let less : c.loop-i._i < c.args.count = omega (arith, c.loop-i-test.true) in
    rw (p.1, p.2) (many_fault FitsNode one_node some_node (node_known c.args.levels) less c.loop-i.invariant c.in_err-read_node.ensures.found)

pub loop-i-preserved : goal.loop-i-preserved
loop-i-preserved c =
    subst (λ ks. IsFound line_text (IsGoodLine c.args.levels) (FitMany FitsNode (c.loop-i._i + 1) []) (lines_of_many one_node []) c.args.cursor.now (Ok ks) c.read_node.new.cursor)
    (sym c.in_ok-read_node.ensures.table) (many_more FitsNode one_node c.loop-i._i c.loop-i.invariant c.in_ok-read_node.ensures.found)
