use Rattle.std.proofs.Common.{sym, subst}
use Rattle.region_sets.specs.declared.pins.Pin.{Pin}
use Rattle.region_sets.specs.Ranks.{slots, AreLive}
use Rattle.proof_form.specs.Copying.{AreCopied}
use Rattle.proof_form.specs.Form.{Entry, rule_sets}
use Rattle.proof_form.proofs.gathering.copy_entry.Goals as goal

pub copy_rule-requires : goal.copy_rule-requires
copy_rule-requires g c = subst (λ (e : Entry Pin). AreLive (g.S.StateSets.seen c.args.sets.now) (slots (rule_sets e.rule))) (sym c.entry.view_is) c.requires

pub returns : goal.returns
returns g c =
    subst (λ (e : Entry Pin). AreCopied {T = Unit {0}} (g.S.StateSets.seen c.args.sets.now) (g.S.StateSets.seen c.copy_rule.new.sets) (rule_sets e.rule) c.args.copies.now.items c.copy_rule.new.copies.items c.copy_rule.result) c.entry.view_is c.copy_rule.ensures
