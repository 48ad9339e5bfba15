use Rattle.std.proofs.Common.{◌≡◌, length, arith}
use Rattle.std.proofs.lemmas.Result.{err_from_is_err_and}
use Rattle.proof_text.proofs.BlockForms.{rest_join, most_is, first_over, last_over, both_over}
use Rattle.proof_text.proofs.FewNodes.{few_nodes}
use Rattle.proof_text.proofs.block_reading.read_rest.Goals as goal

pub returns-in_err-nodes : goal.returns-in_err-nodes
returns-in_err-nodes c =
    let p = err_from_is_err_and c.from_residual.result c.from_residual.ensures.1 in
    rw (p.1, p.2) (first_over (rest_join _ c.rules_law.ensures.flat _ (few_nodes _ c.rules_law.ensures.flat c.requires.spec.0 _ c.requires.spec.1) _) c.in_err-nodes.ensures)

pub read_proof-requires-clause-few : goal.read_proof-requires-clause-few
read_proof-requires-clause-few c = few_nodes _ c.rules_law.ensures.flat c.requires.spec.0 _ c.requires.spec.1

pub returns-in_err-proof : goal.returns-in_err-proof
returns-in_err-proof c =
    let many : c.len.result ≡ length c.in_ok-nodes.nodes.items = omega (arith, c.len.ensures, c.in_ok-nodes.nodes.ok) in
    let p = err_from_is_err_and c.from_residual-in_err-proof.result c.from_residual-in_err-proof.ensures.1 in
    rw (p.1, p.2) (last_over (rest_join _ c.rules_law.ensures.flat _ (few_nodes _ c.rules_law.ensures.flat c.requires.spec.0 _ c.requires.spec.1) _) c.in_ok-nodes.ensures (most_is _ c.rules_law.ensures.flat _ (few_nodes _ c.rules_law.ensures.flat c.requires.spec.0 _ c.requires.spec.1) _ c.args.levels _ _ many _ _ _ (c.in_err-proof.ensures c.args.levels)))

pub returns : goal.returns
returns c =
    let many : c.len.result ≡ length c.in_ok-nodes.nodes.items = omega (arith, c.len.ensures, c.in_ok-nodes.nodes.ok) in
    both_over (rest_join _ c.rules_law.ensures.flat _ (few_nodes _ c.rules_law.ensures.flat c.requires.spec.0 _ c.requires.spec.1) _) c.in_ok-nodes.ensures (most_is _ c.rules_law.ensures.flat _ (few_nodes _ c.rules_law.ensures.flat c.requires.spec.0 _ c.requires.spec.1) _ c.args.levels _ _ many _ _ _ (c.in_ok-proof.ensures c.args.levels))
