use Rattle.diagram_sets.specs.Kept.{diagram_sets}
use Rattle.smv_session.proofs.Ready.{ready_new}
use Rattle.smv_session.proofs.decision.try_all.Goals as goal

pub find_each-requires : goal.find_each-requires
find_each-requires c =
    let x = c.new-sets.result in
    record {
      ready =
          ready_new c.args.model.now c.args.limit c.args.parts (diagram_sets x.parts x.pins x.fulls) c.requires
          c.new-sets.ensures.over c.new-sets.ensures.gauge c.new-sets.ensures.live
          c.new-sets.ensures.room c.new-sets.ensures.fulls;
    }
