use Rattle.std.proofs.Common.{map, refl}
use Rattle.kripke_model.specs.System.{variable_name}
use Rattle.proof_text.proofs.WordsOf.{order_words, order_text}
use Rattle.proof_text.proofs.order_reading.order_in.Goals as goal

pub returns-then-not-takes_word : goal.returns-then-not-takes_word
returns-then-not-takes_word c = λ order fits e.
    let yes = c.if-not-takes_word.ensures.no (map (variable_name c.args.model.now) order) (order_words c.args.model.now c.rules_law.ensures.flat order c.args.text.now _ c.of-words.ensures e) in
    cc

pub returns : goal.returns
returns c = order_text c.args.model.now c.rules_law.ensures.flat c.args.text.now _ _ c.of-words.ensures (c.if-not-takes_word.ensures.yes refl) _ c.order_named.ensures
