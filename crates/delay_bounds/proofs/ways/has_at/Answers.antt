use Rattle.std.proofs.Common.{sym, subst}
use Rattle.kripke_model.specs.Step.{IsState}
use Rattle.delay_bounds.proofs.ways.has_at.Goals as goal

pub has-requires-clause-state : goal.has-requires-clause-state
has-requires-clause-state g c =
    subst (IsState (g.S.StateSets.seen c.args.sets.now).over) (sym c.state_at.ensures) (c.requires.run.states c.args.place (c.is_there.ensures.0 c.if-is_there.true))
