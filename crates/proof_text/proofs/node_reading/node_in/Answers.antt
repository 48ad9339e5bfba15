use Rattle.std.proofs.Common.{refl}
use Rattle.proof_text.proofs.FoundNodes.{other_word, no_level, no_low, no_high, too_long}
use Rattle.proof_text.proofs.node_reading.node_in.Goals as goal

pub returns-then-not-takes_word : goal.returns-then-not-takes_word
returns-then-not-takes_word c = other_word _ _ c.of-words.ensures (λ others e. let yes = c.if-not-takes_word.ensures.no others e in cc)

pub returns-in_err-level : goal.returns-in_err-level
returns-in_err-level c = rw c.from_residual.ensures (no_level _ _ c.of-words.ensures _ (c.if-not-takes_word.ensures.yes refl) (λ n others small e. c.in_err-level.ensures.none refl n small others e))

pub returns-in_err-low : goal.returns-in_err-low
returns-in_err-low c = rw c.from_residual-in_err-low.ensures (no_low _ _ c.of-words.ensures _ (c.if-not-takes_word.ensures.yes refl) _ _ c.in_ok-level.ensures.some (λ n others small e. c.in_err-low.ensures.none refl n small others e))

pub returns-in_err-high : goal.returns-in_err-high
returns-in_err-high c =
    rw c.from_residual-in_err-high.ensures (no_high _ _ c.of-words.ensures _ (c.if-not-takes_word.ensures.yes refl) _ _ c.in_ok-level.ensures.some _ _ c.in_ok-low.ensures.some (λ n others small e. c.in_err-high.ensures.none refl n small others e))

pub returns-then-not-takes_end : goal.returns-then-not-takes_end
returns-then-not-takes_end c =
    too_long _ _ c.of-words.ensures _ (c.if-not-takes_word.ensures.yes refl) _ _ c.in_ok-level.ensures.some _ _ c.in_ok-low.ensures.some _ _ c.in_ok-high.ensures.some
    (λ e. let f = c.if-not-takes_end.ensures.1 e in cc)
