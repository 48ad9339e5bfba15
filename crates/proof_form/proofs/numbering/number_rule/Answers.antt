use Rattle.std.proofs.Common.{◌++◌, sym, ◌∙◌, ap}
use Rattle.proof_form.specs.Form.{fair_sets, rule_sets}
use Rattle.proof_form.specs.Seen.{seen_rule}
use Rattle.proof_form.proofs.Taken.{fair_size, first_room, second_room}
use Rattle.proof_form.proofs.numbering.number_rule.Goals as goal

pub number_fair-requires : goal.number_fair-requires
number_fair-requires c = first_room c.args.numbers.now c.args.next.now (rule_sets (seen_rule c.args.rule.now)) (fair_sets c.in-ER.fair) c.in-ER.untils.items (ap (λ r. rule_sets (seen_rule r)) c.in-ER.is) c.requires

pub number_list-requires-in-ER : goal.number_list-requires-in-ER
number_list-requires-in-ER c =
    second_room c.args.numbers.now c.args.next.now (rule_sets (seen_rule c.args.rule.now)) (fair_sets c.in-ER.fair) c.deref-in-ER.result.now (ap (λ r. rule_sets (seen_rule r)) c.in-ER.is ∙ ap (λ us. fair_sets c.in-ER.fair ++ us) (sym c.deref-in-ER.ensures.value)) c.requires c.in_ok-fair-in-ER.ensures.numbers (fair_size c.in-ER.fair c.in_ok-fair-in-ER.fair c.in_ok-fair-in-ER.ensures.form)
