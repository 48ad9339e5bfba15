use Rattle.text_lines.proofs.Spaced.{words_unique}
use Rattle.proof_text.proofs.line_words.number_behind.Goals as goal

pub returns-clause-none : goal.returns-clause-none
returns-clause-none c = λ none n small is. c.number_left.ensures.none none n small (words_unique _ _ _ c.of.ensures is)
