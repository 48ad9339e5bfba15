use Rattle.std.proofs.Common.{arith, List, ◌∙◌, ap, subst}
use Rattle.kripke_model.specs.declared.refusals.StaticRefusal.{StaticRefusal}
use Rattle.kripke_model.specs.System.{Condition}
use Rattle.kripke_model.specs.Refusing.{refuse, RefusalRule}
use Rattle.kripke_model.proofs.FirstLemmas.{silent_refuse, silent_list, first_in_list}
use Rattle.smv_static.specs.declared.sections.ItemRule.{ItemRule}
use Rattle.smv_static.specs.declared.sections.Section.{Section}
use Rattle.smv_static.specs.Sections.{IsWrong, refusal}
use Rattle.smv_static.proofs.sections.refuse_items.Goals as goal

-- the rule of one item
abbrev rule : ItemRule → Section → Condition → RefusalRule StaticRefusal
rule r s c = refuse (refusal r c.line) (IsWrong r s c.expr)

pub returns-then-is_wrong-clause-err : goal.returns-then-is_wrong-clause-err
returns-then-is_wrong-clause-err c =
    let xs : List Condition = c.args.items.now in
    let r = c.args.rule in
    let s = c.args.section in
    first_in_list (rule r s) xs c.loop-item.item-index c.item-item.result _ c.loop-item-test.true
    (λ j d under. silent_refuse (c.loop-item.invariant j under d))
    (subst (λ (x : Condition). rule r s x c.refusal.result) c.item-item.is (c.refusal.ensures ∙ ap (refusal r) c.line_of.ensures, c.is_wrong.ensures.0 c.if-is_wrong.true))

pub returns-clause-ok : goal.returns-clause-ok
returns-clause-ok c = silent_list (rule c.args.rule c.args.section) c.args.items.now (λ k d below. silent_refuse (c.loop-item.invariant k (omega arith) d))
