use Rattle.std.proofs.Common.{ℕ, List, sym, ◌∙◌, ap}
use Rattle.text_lines.specs.WholeLines.{lines_in}
use Rattle.proof_text.proofs.FirstWord.{order_iff}
use Rattle.proof_text.proofs.text_refusals.has_order_line.Goals as goal

pub returns : goal.returns
returns c =
    order_iff _ _ _ (ap (λ (bs : List ℕ). lines_in bs) (sym c.new-cursor.ensures.left) ∙ c.in-Some.ensures.lines) _ c.in-Some-peek.ensures.0 c.in-Some-peek.ensures.1 _ c.of-words.ensures c.takes_word.result _
    c.takes_word.ensures.yes c.takes_word.ensures.no
