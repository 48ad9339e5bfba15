use Rattle.std.proofs.Common.{true, false, sym, ◌∙◌}
use Rattle.std.proofs.lemmas.Bool.{false≢true}
use Rattle.kripke_model.specs.WellFormed.{ctl_of}
use Rattle.proof_lines.proofs.WholeTests.{out_of_shape, verdict_result}
use Rattle.proof_lines.proofs.testing.proves.Goals as goal

pub returns-then-not-branch-clause-answer : goal.returns-then-not-branch-clause-answer
returns-then-not-branch-clause-answer g c = (
  λ e. absurd (false≢true e),
  λ h. absurd (out_of_shape c.args.model.now (ctl_of c.args.formula.now) (g.S.StateSets.seen c.args.sets.now) c.args.proof.now (λ shape. false≢true (sym c.if-not-branch.true ∙ c.in_ok-is_in_shape.ensures.1 shape)) h),
)

pub test_lines-requires-clause-shape : goal.test_lines-requires-clause-shape
test_lines-requires-clause-shape g c = c.in_ok-is_in_shape.ensures.0 c.if-not-branch.false

pub returns-clause-answer : goal.returns-clause-answer
returns-clause-answer g c =
    verdict_result c.args.model.now (ctl_of c.args.formula.now) (g.S.StateSets.seen c.args.sets.now) c.args.proof.now (c.in_ok-is_in_shape.ensures.0 c.if-not-branch.false)
    c.test_lines.result _ c.test_lines.new.line c.test_lines.ensures.tested
