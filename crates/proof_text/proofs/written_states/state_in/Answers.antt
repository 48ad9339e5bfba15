use Rattle.std.proofs.Common.{refl}
use Rattle.proof_text.proofs.ReadStates.{other_first}
use Rattle.proof_text.proofs.WordsOf.{state_text}
use Rattle.proof_text.proofs.written_states.state_in.Goals as goal

pub returns-then-not-takes_word : goal.returns-then-not-takes_word
returns-then-not-takes_word c = other_first c.args.model.now c.rules_law.ensures.flat c.args.text.now _ c.of-words.ensures (λ others e. let yes = c.if-not-takes_word.ensures.no others e in cc)

pub returns : goal.returns
returns c =
    state_text c.args.model.now c.rules_law.ensures.flat c.args.text.now _ _ c.of-words.ensures (c.if-not-takes_word.ensures.yes refl) c.state_written.result c.state_written.ensures
