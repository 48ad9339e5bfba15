use Rattle.std.proofs.Common.{◌∙◌, ap, map, slice_index}
use Rattle.region_sets.specs.Ranks.{slots}
use Rattle.proof_checker.proofs.Placed.{places_imported}
use Rattle.proof_checker.proofs.importing.import_list.Goals as goal

pub returns-in-Ok-clause-states : goal.returns-in-Ok-clause-states
returns-in-Ok-clause-states c =
    places_imported c.import_pins.new.self c.args.list.now c.args.places.now c.in_ok-pins.pins.items c.in-Ok.table.items c.in_ok-pins.ensures.roots c.in_ok-pins.ensures.call.pins.there c.in_ok-pins.ensures.states
    (c.in-Ok.ensures ∙ ap (λ ps. map (λ place. slice_index (slots ps) place) c.args.places.now) c.deref.ensures.value)
