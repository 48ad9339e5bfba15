use Rattle.std.proofs.Common.{◌++◌, sym, ◌∙◌, ap}
use Rattle.proof_form.specs.Form.{fair_sets, rule_sets}
use Rattle.proof_form.specs.Seen.{seen_rule}
use Rattle.block_proofs.proofs.Marked.{marked_parts}
use Rattle.block_proofs.proofs.marking.mark_rule.Goals as goal

pub returns-in-ER : goal.returns-in-ER
returns-in-ER c =
    marked_parts (rule_sets (seen_rule c.args.rule.now)) (ap (λ r. rule_sets (seen_rule r)) c.in-ER.is ∙ ap (λ us. fair_sets c.in-ER.fair ++ us) (sym c.deref-in-ER.ensures.value))
    c.mark_fair.ensures c.mark_list-in-ER.ensures
