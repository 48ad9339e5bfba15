use Rattle.bit_encode.proofs.StateLemmas.{states_agree_to, states_agree_from}
use Rattle.bit_encode.proofs.laws.states_law.Goals as goal

pub returns : goal.returns
returns c = λ s. (states_agree_to c.args.model.now s, states_agree_from c.args.model.now s)
