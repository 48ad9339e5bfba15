use Rattle.std.proofs.Common.{subst}
use Rattle.std.proofs.lemmas.Result.{err_from_is_err_and}
use Rattle.region_sets.specs.declared.pins.Pin.{Pin}
use Rattle.region_sets.specs.Sets.{Adds}
use Rattle.region_sets.specs.Ranks.{slots}
use Rattle.proof_form.specs.Form.{Entry, rule_sets}
use Rattle.rank_extract.proofs.EntryParts.{sign_refused, sign_released}
use Rattle.rank_extract.proofs.entries.add_entry.Goals as goal

pub returns-in_err-rule : goal.returns-in_err-rule
returns-in_err-rule g c =
    let p = err_from_is_err_and c.from_residual.result c.from_residual.ensures.1 in
    rw (p.1, p.2) (sign_refused c.args.fair.now c.args.node.now c.args.number c.args.some c.args.plus c.is_some_there.result c.is_some_there.ensures c.args.entries.now.items c.in_err-rule.ensures)

pub returns-in-Err : goal.returns-in-Err
returns-in-Err g c =
    sign_released c.args.fair.now c.args.node.now c.args.number c.args.some c.args.plus c.is_some_there.result c.is_some_there.ensures c.in_ok-rule.rule c.args.entries.now.items c.push.new.self.items c.in_ok-rule.ensures
    (subst (λ (e : Entry Pin). Adds (g.S.StateSets.seen c.release.new.sets) (g.S.StateSets.seen c.node_rule.new.sets) (slots (rule_sets e.rule))) c.in-Err.ensures.value_returned c.release.ensures.pins)
    c.release.ensures.fulls c.in-Err.ensures.items
