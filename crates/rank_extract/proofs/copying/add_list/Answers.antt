use Rattle.std.proofs.Common.{subst}
use Rattle.std.specs.Global.{Vec}
use Rattle.region_sets.specs.declared.pins.Pin.{Pin}
use Rattle.region_sets.specs.Sets.{Adds}
use Rattle.region_sets.specs.Ranks.{slots}
use Rattle.std.proofs.lemmas.Result.{err_from_is_err_and}
use Rattle.rank_extract.proofs.Adding.{one_added, one_refused, one_released}
use Rattle.rank_extract.proofs.Holders.{list_kind}
use Rattle.rank_extract.proofs.copying.add_list.Goals as goal

pub returns-in_err-copy : goal.returns-in_err-copy
returns-in_err-copy g c =
    let p = err_from_is_err_and c.from_residual.result c.from_residual.ensures.1 in
    rw (p.1, p.2) (one_refused list_kind c.in_err-copy.field-0.0 c.args.copies.now.items c.in_err-copy.ensures.call)

pub returns-in-Ok : goal.returns-in-Ok
returns-in-Ok g c = one_added list_kind c.in_ok-copy.copy c.args.copies.now.items c.push.new.self.items tt c.in_ok-copy.ensures.call c.in_ok-copy.ensures.view c.in-Ok.ensures.items

pub returns-in-Err : goal.returns-in-Err
returns-in-Err g c =
    one_released list_kind c.in_ok-copy.copy c.args.copies.now.items c.push.new.self.items c.in_ok-copy.ensures.call
    (subst (λ (v : Vec Pin). Adds (g.S.StateSets.seen c.release_all.new.sets) (g.S.StateSets.seen c.copy_list.new.sets) (slots v.items)) c.in-Err.ensures.value_returned c.release_all.ensures.pins)
    c.release_all.ensures.fulls c.in-Err.ensures.items
