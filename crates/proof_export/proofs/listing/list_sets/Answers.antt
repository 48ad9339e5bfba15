use Rattle.std.proofs.Common.{sym, ◌∙◌, ap, length, subst}
use Rattle.std.specs.Prelude.{All}
use Rattle.region_sets.specs.declared.pins.Pin.{Pin}
use Rattle.region_sets.specs.Sets.{IsLive, Sets}
use Rattle.region_sets.specs.Ranks.{slots}
use Rattle.diagram_sets.specs.Exports.{HaveStates, coding_in}
use Rattle.diagram_sets.specs.Kept.{diagram_sets}
use Rattle.diagram_sets.proofs.LiveLemmas.{each_live}
use Rattle.proof_export.proofs.Listed.{copies_gone, copies_listed}
use Rattle.proof_export.proofs.listing.list_sets.Goals as goal

pub export_pins-list-requires : goal.export_pins-list-requires
export_pins-list-requires c =
    let now = c.gather.new.sets in
    let sets : Sets = diagram_sets now.parts now.pins now.fulls in
    subst (λ ps. All (λ (pin : Pin). IsLive sets pin.slot) ps) (sym c.deref.ensures.value)
    (each_live sets c.in_ok-copies.copies.items c.in_ok-copies.ensures.call.pins.there)

pub release_all-requires-clause-live : goal.release_all-requires-clause-live
release_all-requires-clause-live c = c.in_ok-copies.ensures.call.pins.there

pub release_all-requires-clause-once : goal.release_all-requires-clause-once
release_all-requires-clause-once c = c.in_ok-copies.ensures.call.pins.once

pub returns-clause-call : goal.returns-clause-call
returns-clause-call c =
    copies_gone c.in_ok-list.field-0 c.in_ok-copies.ensures.call c.release_all.ensures.pins
    c.release_all.ensures.fulls

pub returns-clause-sets : goal.returns-clause-sets
returns-clause-sets c =
    let old = c.args.sets.now in
    let now = c.gather.new.sets in
    let sets : Sets = diagram_sets now.parts now.pins now.fulls in
    let pins = c.deref.ensures.value in
    copies_listed (diagram_sets old.parts old.pins old.fulls) sets
    c.in_ok-copies.ensures.call.pins.over c.in_ok-copies.ensures.call.pins.gauge
    (coding_in now) c.coding_law.ensures c.args.proof.now c.in_ok-copies.copies.items
    c.in_ok-copies.ensures.copies c.in_ok-list.field-0
    c.in_ok-list.ensures.good (c.in_ok-list.ensures.roots ∙ ap length pins)
    (subst (λ ps. HaveStates sets (coding_in now) (slots ps) c.in_ok-list.field-0) pins
    c.in_ok-list.ensures.states)
