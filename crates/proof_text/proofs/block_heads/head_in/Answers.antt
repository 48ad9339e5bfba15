use Rattle.std.proofs.Common.{length, ap, arith}
use Rattle.proof_text.proofs.BlockForms.{other_head, spec_within, spec_there}
use Rattle.proof_text.proofs.block_heads.head_in.Goals as goal

pub returns-then-head-last : goal.returns-then-head-last
returns-then-head-last c =
    other_head _ c.rules_law.ensures.flat _ _ c.in_ok-head.head c.in_ok-head.ensures.some.0 c.in_ok-head.ensures.some.1 (λ some less. omega (arith, c.if-head-last.true, less))

pub returns-then-head-specs : goal.returns-then-head-specs
returns-then-head-specs c =
    other_head _ c.rules_law.ensures.flat _ _ c.in_ok-head.head c.in_ok-head.ensures.some.0 c.in_ok-head.ensures.some.1 (λ some less. omega (arith, ap length c.specs.ensures, c.if-head-specs.true, (spec_within c.args.model.now c.in_ok-head.head.spec some).1))

pub returns : goal.returns
returns c =
    ((spec_there c.args.model.now c.in_ok-head.head.spec (omega (arith, c.if-head-last.false)) (omega (arith, ap length c.specs.ensures, c.if-head-specs.false)), omega (arith, c.if-head-last.false)), c.in_ok-head.ensures.some.1)
