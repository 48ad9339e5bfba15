use Rattle.std.proofs.Common.{arith}
use Rattle.proof_text.proofs.NodeTables.{constant_level, found_level, missing_level}
use Rattle.proof_text.proofs.node_tests.level_of.Goals as goal

pub returns-then-number-lt2 : goal.returns-then-number-lt2
returns-then-number-lt2 c = constant_level c.args.levels c.args.nodes.now c.args.number (omega (arith, c.if-number-lt2.true))

pub returns-in-Some : goal.returns-in-Some
returns-in-Some c =
    found_level c.args.levels c.args.nodes.now c.args.number c.in-Some.node.now (omega (arith, c.if-number-lt2.false)) c.in-Some.ensures.lookup.3.0 c.in-Some.ensures.lookup.1

pub returns-in-None : goal.returns-in-None
returns-in-None c = missing_level c.args.levels c.args.nodes.now c.args.number (omega (arith, c.if-number-lt2.false)) c.in-None.ensures.lookup.3
