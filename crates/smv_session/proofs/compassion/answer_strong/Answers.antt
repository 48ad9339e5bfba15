use Rattle.command_words.specs.Listed.{pairs_in}
use Rattle.std.proofs.Common.{◌≤◌, Some, arith, ap}
use Rattle.bit_encode.specs.Code.{state_bits}
use Rattle.command_words.specs.Asked.{job_asked, work_asked}
use Rattle.smv_texts.specs.Refusals.{NoLeaf, TooManyBits}
use Rattle.smv_session.proofs.Heard.{refused_reply}
use Rattle.smv_session.proofs.Numbers.{names_pairs, other_in_pairs}
use Rattle.smv_session.proofs.compassion.answer_strong.Goals as goal

pub returns-then-bits-gt-MAX_STATE_BITS : goal.returns-then-bits-gt-MAX_STATE_BITS
returns-then-bits-gt-MAX_STATE_BITS c = λ contents bytes ruled.
    refused_reply (work_asked c.args.work) contents bytes (Some (TooManyBits c.state_bits-bits.result))
    c.refuse.result
    (c.args.model.now, ruled, omega (arith, c.state_bits-bits.ensures, c.if-bits-gt-MAX_STATE_BITS.true), c.state_bits-bits.ensures)
    c.refuse.ensures

pub returns-in-Some : goal.returns-in-Some
returns-in-Some c = λ contents bytes ruled.
    let few : state_bits c.args.model.now ≤ 128 = omega (arith, c.state_bits-bits.ensures, c.if-bits-gt-MAX_STATE_BITS.false) in
    let first = other_in_pairs (work_asked c.args.work).job c.args.model.now (pairs_in c.args.pairs.now)
    (ap job_asked c.requires.job) c.in-Some.spec c.in-Some.ensures in
    refused_reply (work_asked c.args.work) contents bytes (Some (NoLeaf c.in-Some.spec))
    c.refuse-in-Some.result (c.args.model.now, record { ruled = ruled; few = few }, first)
    c.refuse-in-Some.ensures

pub answer_named-requires-clause-names : goal.answer_named-requires-clause-names
answer_named-requires-clause-names c =
    names_pairs (work_asked c.args.work).job c.args.model.now (pairs_in c.args.pairs.now)
    (ap job_asked c.requires.job) c.in-None.ensures
