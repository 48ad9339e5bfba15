use Rattle.std.proofs.Common.{sym, subst, arith}
use Rattle.kripke_model.specs.Step.{IsState}
use Rattle.delay_bounds.proofs.ways.avoids_from.Goals as goal

pub has-requires-clause-state : goal.has-requires-clause-state
has-requires-clause-state g c =
    subst (IsState (g.S.StateSets.seen c.args.sets.now).over) (sym c.state_at.ensures) (c.requires.run.states c.loop-j.j (omega (arith, c.loop-j-test.true, c.loop-j.auto.j-end)))
