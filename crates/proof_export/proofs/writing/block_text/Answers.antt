use Rattle.diagram_sets.specs.Kept.{diagram_sets}
use Rattle.proof_export.proofs.Listed.{block_over}
use Rattle.proof_export.proofs.writing.block_text.Goals as goal

pub returns-clause-block : goal.returns-clause-block
returns-clause-block c =
    let old = c.args.sets.now in
    block_over c.args.model.now (diagram_sets old.parts old.pins old.fulls) c.args.spec
    c.args.proof.now c.in_ok-list.list c.in_ok-text.text.items c.requires.over c.requires.order
    c.requires.proves c.in_ok-list.ensures.sets c.in_ok-text.ensures
