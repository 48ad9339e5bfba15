use Rattle.std.proofs.Common.{◌≡◌, List, [], ℕ, Option, Some, Bor, ap, sym, ◌∙◌}
use Rattle.std.specs.Option.{option_copied, option_map_or}
use Rattle.text_lines.specs.Words.{words_in}
use Rattle.text_lines.proofs.Spaced.{word_first, word_alone}
use Rattle.text_lines.proofs.words.Words.next.Goals as goal

abbrev words_left : Option (Bor (List ℕ)) → List (List ℕ)
words_left left = option_map_or words_in (option_copied left) []

pub returns-in-Some : goal.returns-in-Some
returns-in-Some c =
    let parted = c.in-Some.ensures in
    let first = ap words_in parted.whole ∙ word_first _ _ parted.first in
    let here : c.self.inside.left ≡ Some c.in_ok-text.text = c.in_ok-text.was in
    let view : words_left c.self.inside.left ≡ c.args.self.now = c.self.view_is in
    sym view ∙ ap words_left here ∙ first

pub returns-in-None : goal.returns-in-None
returns-in-None c =
    let here : c.self.inside.left ≡ Some c.in_ok-text.text = c.in_ok-text.was in
    let view : words_left c.self.inside.left ≡ c.args.self.now = c.self.view_is in
    sym view ∙ ap words_left here ∙ word_alone c.in_ok-text.text.now c.in-None.ensures
