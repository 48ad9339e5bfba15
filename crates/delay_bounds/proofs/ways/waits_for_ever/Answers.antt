use Rattle.std.proofs.Common.{sym, subst}
use Rattle.kripke_model.specs.Path.{at}
use Rattle.kripke_model.specs.Step.{IsState}
use Rattle.kripke_model.proofs.Lassos.{all_states}
use Rattle.delay_bounds.proofs.ways.waits_for_ever.Goals as goal

pub has-requires-clause-state : goal.has-requires-clause-state
has-requires-clause-state g c =
    subst (IsState (g.S.StateSets.seen c.args.sets.now).over) (sym c.at-then-is_initial.ensures)
    (subst (λ m. IsState m (at c.args.lasso.now c.args.start)) c.requires.model (all_states (c.is_path.ensures.0 c.if-not-is_path.false) c.args.start))
