use Rattle.text_lines.proofs.Spaced.{words_unique}
use Rattle.proof_text.proofs.block_heads.claimed_in.Goals as goal

pub returns-then-not-takes_word-clause-none : goal.returns-then-not-takes_word-clause-none
returns-then-not-takes_word-clause-none c = λ _ h small is.
    let yes = c.takes_word.ensures.no _ (words_unique _ _ _ c.of-words.ensures is) in cc

pub returns-clause-none : goal.returns-clause-none
returns-clause-none c = λ none h small is.
    let first = c.takes_word.ensures.yes cc in
    let all = words_unique _ _ _ c.of-words.ensures is in
    c.takes_claimed.ensures.none none h small cc
