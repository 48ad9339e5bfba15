use Rattle.std.proofs.Common.{sym, ◌∙◌, ap, subst, length}
use Rattle.region_sets.specs.declared.pins.Pin.{Pin}
use Rattle.proof_form.specs.Form.{Entry, rule_sets}
use Rattle.proof_form.specs.Filling.{entry_form}
use Rattle.std.specs.Prelude.{◌+◌, ◌≤◌}
use Rattle.proof_form.proofs.numbering.number_entry.Goals as goal

pub number_rule-requires : goal.number_rule-requires
number_rule-requires c = subst (λ (e : Entry Pin). c.args.next.now + length (rule_sets e.rule) ≤ length c.args.numbers.now) (sym c.entry.view_is) c.requires

pub returns-clause-form : goal.returns-clause-form
returns-clause-form c =
    ap (λ r. record { node = c.entry.inside.node; plus = c.entry.inside.plus; rule = r }) c.in_ok-rule.ensures.form ∙ ap entry_form c.entry.view_is
