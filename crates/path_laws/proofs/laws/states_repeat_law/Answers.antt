use Rattle.path_laws.proofs.States.{state_repeats}
use Rattle.path_laws.proofs.laws.states_repeat_law.Goals as goal

pub returns : goal.returns
returns c = record { repeat = state_repeats c.args.model.now }
