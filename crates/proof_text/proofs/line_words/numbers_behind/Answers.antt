use Rattle.text_lines.proofs.Spaced.{words_unique}
use Rattle.proof_text.proofs.line_words.numbers_behind.Goals as goal

pub returns-clause-none : goal.returns-clause-none
returns-clause-none c = λ none n k small few is. c.numbers_left.ensures.none none n k small few (words_unique _ _ _ c.of.ensures is)
