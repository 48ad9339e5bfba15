use Rattle.text_lines.proofs.Spaced.{words_are}
use Rattle.text_lines.proofs.words.Words.of.Goals as goal

pub returns : goal.returns
returns c = words_are _
