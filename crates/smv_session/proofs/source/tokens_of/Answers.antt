use Rattle.smv_session.proofs.SourceLemmas.{bad_within, large_within}
use Rattle.smv_session.proofs.source.tokens_of.Goals as goal

pub line_at-requires-clause-within : goal.line_at-requires-clause-within
line_at-requires-clause-within c =
    let refused = rw c.in-Err-BadByte.field-0-is at c.in-Err-BadByte.ensures.refused in
    bad_within c.args.text.now c.in-Err-BadByte.at refused.0

pub line_at-requires-in-Err-NumberTooLarge-clause-within :
    goal.line_at-requires-in-Err-NumberTooLarge-clause-within
line_at-requires-in-Err-NumberTooLarge-clause-within c =
    let refused = rw c.in-Err-NumberTooLarge.field-0-is at c.in-Err-NumberTooLarge.ensures.refused in
    large_within c.args.text.now c.in-Err-NumberTooLarge.at refused.0
