use Rattle.std.proofs.Common.{List, sym, subst}
use Rattle.std.specs.Global.{Vec}
use Rattle.region_sets.specs.declared.pins.Pin.{Pin}
use Rattle.region_sets.specs.Ranks.{slots}
use Rattle.proof_form.specs.Filling.{lists_of}
use Rattle.proof_form.specs.Form.{FairPart, fair_sets}
use Rattle.proof_cases.specs.LetGo.{HasPins, Lessens}
use Rattle.proof_cases.proofs.Stripped.{lists_held, lists_less}
use Rattle.proof_cases.proofs.wrong.without_reaches.Goals as goal

pub release_lists-requires-clause-live : goal.release_lists-requires-clause-live
release_lists-requires-clause-live g c =
    (lists_held c.fair.inside.inside c.fair.inside.reach.items (g.S.StateSets.seen c.args.sets.now)
    (subst (λ (f : FairPart Pin). HasPins (g.S.StateSets.seen c.args.sets.now) (slots (fair_sets f))) (sym c.fair.view_is) c.requires)).live

pub release_lists-requires-clause-once : goal.release_lists-requires-clause-once
release_lists-requires-clause-once g c =
    (lists_held c.fair.inside.inside c.fair.inside.reach.items (g.S.StateSets.seen c.args.sets.now)
    (subst (λ (f : FairPart Pin). HasPins (g.S.StateSets.seen c.args.sets.now) (slots (fair_sets f))) (sym c.fair.view_is) c.requires)).once

pub returns : goal.returns
returns g c =
    let a = g.S.StateSets.seen c.args.sets.now in
    let z = g.S.StateSets.seen c.release_lists.new.sets in
    subst (λ (f : FairPart Pin). Lessens a z (slots (fair_sets f)) (slots (fair_sets (record { inside = c.fair.inside.inside; reach = lists_of c.new.result.items })))) c.fair.view_is
    (subst (λ (ls : List (Vec Pin)). Lessens a z (slots (fair_sets (record { inside = c.fair.inside.inside; reach = lists_of c.fair.inside.reach.items }))) (slots (fair_sets (record { inside = c.fair.inside.inside; reach = lists_of ls }))))
    (sym c.new.ensures.items)
    (lists_less c.fair.inside.inside c.fair.inside.reach.items c.release_lists.ensures.pins))
