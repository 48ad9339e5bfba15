use Rattle.std.proofs.Common.{ℕ, subst}
use Rattle.proof_form.specs.Form.{Entry, rule_sets}
use Rattle.block_proofs.specs.Marks.{AreMarked}
use Rattle.block_proofs.proofs.marking.mark_entry.Goals as goal

pub returns : goal.returns
returns c = subst (λ (e : Entry ℕ). AreMarked (rule_sets e.rule) c.args.marks.now c.mark_rule.new.marks) c.entry.view_is c.mark_rule.ensures
