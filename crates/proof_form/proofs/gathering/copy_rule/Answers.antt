use Rattle.std.proofs.Common.{◌++◌, sym, ◌∙◌, ap}
use Rattle.std.proofs.lemmas.Result.{err_from_is_err_and}
use Rattle.proof_form.specs.Form.{fair_sets, rule_sets}
use Rattle.proof_form.specs.Seen.{seen_rule}
use Rattle.proof_form.proofs.Copied.{first_live, second_live, first_refused, both_copied}
use Rattle.proof_form.proofs.gathering.copy_rule.Goals as goal

pub copy_fair-requires : goal.copy_fair-requires
copy_fair-requires g c =
    first_live (g.S.StateSets.seen c.args.sets.now) (rule_sets (seen_rule c.args.rule.now)) (fair_sets c.in-ER.fair) c.in-ER.untils.items (ap (λ r. rule_sets (seen_rule r)) c.in-ER.is) c.requires

pub returns-in_err-copy_fair-in-ER : goal.returns-in_err-copy_fair-in-ER
returns-in_err-copy_fair-in-ER g c =
    let p = err_from_is_err_and c.from_residual.result c.from_residual.ensures.1 in
    rw (p.1, p.2) (first_refused (g.S.StateSets.seen c.args.sets.now) (rule_sets (seen_rule c.args.rule.now)) (fair_sets c.in-ER.fair) c.in-ER.untils.items (ap (λ r. rule_sets (seen_rule r)) c.in-ER.is) c.requires
    c.in_err-copy_fair-in-ER.field-0.0 c.in_err-copy_fair-in-ER.ensures)

pub copy_list-requires-in-ER : goal.copy_list-requires-in-ER
copy_list-requires-in-ER g c =
    second_live (g.S.StateSets.seen c.args.sets.now) (rule_sets (seen_rule c.args.rule.now)) (fair_sets c.in-ER.fair) c.deref-in-ER.result.now (ap (λ r. rule_sets (seen_rule r)) c.in-ER.is ∙ ap (λ us. fair_sets c.in-ER.fair ++ us) (sym c.deref-in-ER.ensures.value)) c.requires c.in_ok-copy_fair-in-ER.ensures

pub returns-in_ok-copy_fair-in-ER : goal.returns-in_ok-copy_fair-in-ER
returns-in_ok-copy_fair-in-ER g c =
    both_copied (g.S.StateSets.seen c.args.sets.now) (rule_sets (seen_rule c.args.rule.now)) (fair_sets c.in-ER.fair) c.deref-in-ER.result.now (ap (λ r. rule_sets (seen_rule r)) c.in-ER.is ∙ ap (λ us. fair_sets c.in-ER.fair ++ us) (sym c.deref-in-ER.ensures.value)) c.requires c.in_ok-copy_fair-in-ER.ensures c.copy_list-in-ER.ensures
