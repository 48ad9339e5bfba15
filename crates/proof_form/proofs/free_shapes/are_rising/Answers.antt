use Rattle.std.proofs.Common.{refl, arith}
use Rattle.proof_form.specs.Shape.{StandsBefore}
use Rattle.proof_form.proofs.Rising.{one_more, rises, stand_so}
use Rattle.proof_form.proofs.ShapeOrder.{stands_through}
use Rattle.proof_form.proofs.ShapeTests.{refuted}
use Rattle.proof_form.proofs.free_shapes.are_rising.Goals as goal

pub returns-then-not-stands_before : goal.returns-then-not-stands_before
returns-then-not-stands_before g c =
    refuted c.stands_before.result c.if-not-stands_before.true c.stands_before.ensures.1
    (stand_so StandsBefore c.args.entries.now c.loop-i.i c.index-entries-i.result c.index-entries-i-in-loop-i.result (omega (arith, c.loop-i.auto.i)) (omega (arith, c.loop-i-test.true)) c.index-entries-i.is c.index-entries-i-in-loop-i.is)

pub loop-i-preserved : goal.loop-i-preserved
loop-i-preserved g c =
    one_more StandsBefore c.args.entries.now c.loop-i.i c.index-entries-i.result c.index-entries-i-in-loop-i.result (omega (arith, c.loop-i.auto.i)) (omega (arith, c.loop-i-test.true)) c.index-entries-i.is c.index-entries-i-in-loop-i.is
    (c.stands_before.ensures.0 c.if-not-stands_before.false) c.loop-i.invariant

pub returns : goal.returns
returns g c = (λ h. rises StandsBefore c.args.entries.now (λ x y z. stands_through x y z) c.loop-i.i (omega (arith, c.loop-i-test.false)) c.loop-i.invariant, λ h. refl)
