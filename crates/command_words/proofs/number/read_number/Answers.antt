use Rattle.std.proofs.Common.{arith, refl}
use Rattle.command_words.proofs.Numbers.{other_start, unread, read}
use Rattle.command_words.proofs.number.read_number.Goals as goal

pub returns-then-not-begins_with_nonzero : goal.returns-then-not-begins_with_nonzero
returns-then-not-begins_with_nonzero c = other_start _ c.ranges.most.fits _ (λ begins. let e = c.if-not-begins_with_nonzero.ensures.1 begins in cc)

pub returns-then-number-most : goal.returns-then-number-most
returns-then-number-most c = read _ c.ranges.most.fits _ _ (c.if-not-begins_with_nonzero.ensures.0 refl) c.in-Ok.ensures.value.0.0 c.in-Ok.ensures.value.0.1 (omega arith)

pub returns-in_default : goal.returns-in_default
returns-in_default c = unread _ c.ranges.most.fits _ (c.if-not-begins_with_nonzero.ensures.0 refl) c.in_default.ensures.value.0
