use Rattle.diagram_sets.specs.Kept.{diagram_sets}
use Rattle.smv_session.proofs.Ready.{ready_new}
use Rattle.smv_session.proofs.compassion.find_for.Goals as goal

pub find_named-requires-clause-ready : goal.find_named-requires-clause-ready
find_named-requires-clause-ready c =
    let x = c.new-sets.result in
    ready_new c.args.model.now c.args.limit c.args.parts (diagram_sets x.parts x.pins x.fulls)
    c.requires.parts c.new-sets.ensures.over c.new-sets.ensures.gauge c.new-sets.ensures.live
    c.new-sets.ensures.room c.new-sets.ensures.fulls
