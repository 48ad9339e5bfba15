use Rattle.std.proofs.Common.{refl}
use Rattle.text_lines.proofs.Numerals.{other_start, no_text, unread, read}
use Rattle.text_lines.proofs.numbers.number.Goals as goal

pub returns-then-not-has_plain_start-clause-none : goal.returns-then-not-has_plain_start-clause-none
returns-then-not-has_plain_start-clause-none c = λ _. other_start _ (λ start. let e = c.if-not-has_plain_start.ensures.1 start in cc)

pub returns-in_default-clause-none : goal.returns-in_default-clause-none
returns-in_default-clause-none c = λ _. no_text _ c.in_default.ensures.cases.0

pub returns-in_default-parse-clause-none : goal.returns-in_default-parse-clause-none
returns-in_default-parse-clause-none c =
    λ _. unread _ _ c.in-Ok.ensures.cases.0 (c.if-not-has_plain_start.ensures.0 refl) c.in_default-parse.ensures.value.0

pub returns-clause-some : goal.returns-clause-some
returns-clause-some c =
    let found = c.in-Ok-parse.ensures.value.0 in
    read _ _ _ c.in-Ok.ensures.cases.0 (c.if-not-has_plain_start.ensures.0 refl) found.0 found.1
