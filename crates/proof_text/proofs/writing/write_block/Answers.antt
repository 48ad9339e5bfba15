use Rattle.std.proofs.Common.{◌∙◌, ap, [], ◌∷◌, ◌++◌, codes, decimal}
use Rattle.proof_text.specs.Lines.{Words, text_of, claim_word}
use Rattle.proof_text.proofs.WrittenLines.{block_is}
use Rattle.proof_text.proofs.writing.write_block.Goals as goal

pub returns : goal.returns
returns c =
    let first = c.in_ok-push_claim.ensures
    ∙ ap (λ b. c.new-text.result ++ text_of (Words (codes "spec" ∷ decimal c.args.spec ∷ claim_word b ∷ []) ∷ [])) (λ i. (c.proof.view_is i).claim) in
    c.into_bytes.ensures
    ∙ block_is c.args.model.now (record { spec = c.args.spec; nodes = c.args.nodes.now; proof = c.args.proof.now; first = 0 }) _ _ _ _ _ c.new-text.ensures first
    c.in_ok-push_counted.ensures c.in_ok-push_nodes.ensures c.in_ok-push_proof.ensures
