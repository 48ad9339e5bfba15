use Rattle.proof_export.proofs.Listed.{written_over}
use Rattle.proof_export.proofs.writing.text_over.Goals as goal

pub returns : goal.returns
returns c =
    written_over c.args.model.now c.args.spec c.args.proof.now c.args.list.now
    c.in_ok-numbered.numbered c.deref.result.now c.deref-2.result.now c.write_block.result
    c.in_ok-numbered.ensures c.deref.ensures.value c.deref-2.ensures.value c.write_block.ensures
