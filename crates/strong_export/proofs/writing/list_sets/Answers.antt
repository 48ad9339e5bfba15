use Rattle.std.proofs.Common.{sym, subst}
use Rattle.std.specs.Prelude.{All}
use Rattle.diagram_sets.specs.Exports.{coding_in}
use Rattle.diagram_sets.specs.Kept.{diagram_sets}
use Rattle.diagram_sets.proofs.LiveLemmas.{each_live}
use Rattle.region_sets.specs.Sets.{IsLive, Sets}
use Rattle.region_sets.specs.declared.pins.Pin.{Pin}
use Rattle.strong_export.proofs.Listed.{sets_listed}
use Rattle.strong_export.proofs.writing.list_sets.Goals as goal

pub export_pins-list-requires : goal.export_pins-list-requires
export_pins-list-requires c =
    let old = c.args.sets.now in
    let sets : Sets = diagram_sets old.parts old.pins old.fulls in
    subst (λ ps. All (λ (pin : Pin). IsLive sets pin.slot) ps) (sym c.deref.ensures.value)
    (each_live sets c.args.pins.items c.requires.live)

pub returns-clause-listed : goal.returns-clause-listed
returns-clause-listed c =
    let old = c.args.sets.now in
    sets_listed (diagram_sets old.parts old.pins old.fulls) c.args.pins.items c.deref.result.now
    (coding_in old) c.export_pins-list.result c.deref.ensures.value c.coding_law.ensures
    c.export_pins-list.ensures.good c.export_pins-list.ensures.roots
    c.export_pins-list.ensures.states
