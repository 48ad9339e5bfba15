use Rattle.std.proofs.Common.{arith, List, ◌∙◌, ap, subst}
use Rattle.kripke_model.specs.declared.refusals.StaticRefusal.{StaticRefusal}
use Rattle.kripke_model.specs.System.{Assignment}
use Rattle.kripke_model.specs.Refusing.{refuse, RefusalRule}
use Rattle.kripke_model.proofs.FirstLemmas.{silent_refuse, silent_list, first_in_list}
use Rattle.smv_static.specs.declared.sections.ItemRule.{ItemRule}
use Rattle.smv_static.specs.Sections.{IsWrongIn, refusal}
use Rattle.smv_static.proofs.sections.refuse_assigns.Goals as goal

-- the rule of one assignment
abbrev rule : ItemRule → Assignment → RefusalRule StaticRefusal
rule r a = refuse (refusal r a.line) (IsWrongIn r a)

pub returns-then-is_wrong_in-clause-err : goal.returns-then-is_wrong_in-clause-err
returns-then-is_wrong_in-clause-err c =
    let xs : List Assignment = c.args.assigns.now in
    let r = c.args.rule in
    first_in_list (rule r) xs c.loop-assign.assign-index c.assign-item.result _ c.loop-assign-test.true
    (λ j d under. silent_refuse (c.loop-assign.invariant j under d))
    (subst (λ (x : Assignment). rule r x c.refusal.result) c.assign-item.is (c.refusal.ensures ∙ ap (refusal r) c.line_of_assign.ensures, c.is_wrong_in.ensures.0 c.if-is_wrong_in.true))

pub returns-clause-ok : goal.returns-clause-ok
returns-clause-ok c = silent_list (rule c.args.rule) c.args.assigns.now (λ k d below. silent_refuse (c.loop-assign.invariant k (omega arith) d))
