use Rattle.std.proofs.Common.{◌∙◌, ap, length, subst, sym}
use Rattle.proof_text.proofs.DeclaredOrder.{declared_is}
use Rattle.proof_checker.specs.Ready.{IsKept}
use Rattle.proof_text.specs.File.{File}
use Rattle.smv_session.proofs.rechecking.test_all.Goals as goal

pub over-kept-requires-clause-declared : goal.over-kept-requires-clause-declared
over-kept-requires-clause-declared c = c.requires.parts.order_is ∙ sym (declared_is (length c.args.model.now.vars))

pub test_over-requires-clause-kept : goal.test_over-requires-clause-kept
test_over-requires-clause-kept c =
    subst (λ order. IsKept c.args.model.now order c.args.limit c.over-kept.result) (c.deref.ensures.value ∙ ap (λ (f : File). f.order) c.file.view_is)
    (c.over-kept.ensures c.args.limit c.requires.parts.limit_is)
