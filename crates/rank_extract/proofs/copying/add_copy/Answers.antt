use Rattle.std.proofs.Common.{[], ◌∷◌, subst}
use Rattle.region_sets.specs.declared.pins.Pin.{Pin}
use Rattle.region_sets.specs.Sets.{Adds}
use Rattle.rank_extract.proofs.Adding.{one_released}
use Rattle.rank_extract.proofs.Holders.{pin_kind}
use Rattle.rank_extract.proofs.copying.add_copy.Goals as goal

pub returns-in-Err : goal.returns-in-Err
returns-in-Err g c =
    one_released pin_kind c.in_ok-copy.copy c.args.copies.now.items c.push.new.self.items c.in_ok-copy.ensures.call
    (subst (λ (p : Pin). Adds (g.S.StateSets.seen c.release.new.self) (g.S.StateSets.seen c.copy.new.self) (p.slot ∷ [])) c.in-Err.ensures.value_returned c.release.ensures.pins)
    c.release.ensures.fulls c.in-Err.ensures.items
