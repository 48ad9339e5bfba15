use Rattle.std.proofs.Common.{[], ◌∷◌, ◌∙◌, ap, subst}
use Rattle.region_sets.specs.declared.pins.Pin.{Pin}
use Rattle.region_sets.specs.Sets.{Adds}
use Rattle.rank_extract.proofs.Adding.{one_released}
use Rattle.rank_extract.proofs.Holders.{layer_kind}
use Rattle.rank_extract.proofs.copying.add_layer.Goals as goal

pub returns-in-Err : goal.returns-in-Err
returns-in-Err g c =
    one_released layer_kind (record { avoid = c.args.layer.now.avoid; set = c.in_ok-set.set }) c.args.copies.now.items c.push.new.self.items c.in_ok-set.ensures.call
    (subst (λ (p : Pin). Adds (g.S.StateSets.seen c.release.new.self) (g.S.StateSets.seen c.copy.new.self) (p.slot ∷ [])) (ap (λ l. l.set) c.value.view_is ∙ ap (λ l. l.set) c.in-Err.ensures.value_returned) c.release.ensures.pins)
    c.release.ensures.fulls c.in-Err.ensures.items
