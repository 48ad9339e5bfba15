use Rattle.std.proofs.Common.{◌-◌, ◌<◌, length, sym, subst, arith}
use Rattle.kripke_model.specs.Step.{IsState}
use Rattle.delay_bounds.proofs.ways.ends_in.Goals as goal

pub has-requires-clause-state : goal.has-requires-clause-state
has-requires-clause-state g c =
    subst (IsState (g.S.StateSets.seen c.args.sets.now).over) (sym c.state_at.ensures)
    (c.requires.run.states (length c.args.way.now - 1) (let b : 0 < length c.args.way.now = c.requires.run.begins in omega (arith, b)))
