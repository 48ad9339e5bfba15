use Rattle.std.proofs.Common.{◌≡◌, ◌+◌, arith}
use Rattle.std.proofs.lemmas.Bool.Decides.{not_from_Decides}
use Rattle.kripke_model.specs.Path.{at, member_count}
use Rattle.kripke_model.specs.Reading.{term_of}
use Rattle.trace_loop.proofs.MemberPlaces.{within_turn}
use Rattle.trace_loop.proofs.Suffixes.{same_back, same_later, same_then, same_at, holds_same}
use Rattle.trace_loop.proofs.Walks.{passed_more, broken, never_met}
use Rattle.trace_loop.proofs.falsifying.met_after.Goals as goal

pub returns-then-holds_at : goal.returns-then-holds_at
returns-then-holds_at c =
    let m = c.args.model.now in
    let w = at c.args.lasso.now in
    let n = c.loop-step.step in (
      holds_same m w (term_of c.args.e.now) c.loop-step.place (c.args.i + n) (same_back w (c.args.i + n) c.loop-step.place c.loop-step.invariant.same) (c.holds_at.ensures.0 c.if-holds_at.true),
      λ k lt. (c.loop-step.invariant.passed k lt).1,
    )

pub returns-then-not-holds_at : goal.returns-then-not-holds_at
returns-then-not-holds_at c =
    let m = c.args.model.now in
    let w = at c.args.lasso.now in
    let d = term_of c.args.d.now in
    let e = term_of c.args.e.now in
    let n = c.loop-step.step in
    let same = c.loop-step.invariant.same in
    broken m w d e c.args.i n c.loop-step.invariant.passed
    (λ h. not_from_Decides c.holds_at.result c.holds_at.ensures c.if-holds_at.false (holds_same m w e (c.args.i + n) c.loop-step.place same h))
    (λ h. not_from_Decides c.holds_at-in-loop-step.result c.holds_at-in-loop-step.ensures c.if-not-holds_at.true (holds_same m w d (c.args.i + n) c.loop-step.place same h))

pub loop-step-preserved : goal.loop-step-preserved
loop-step-preserved c =
    let m = c.args.model.now in
    let w = at c.args.lasso.now in
    let d = term_of c.args.d.now in
    let e = term_of c.args.e.now in
    let n = c.loop-step.step in
    let place = c.loop-step.place in
    let same = c.loop-step.invariant.same in record {
      member = c.next_place-place.ensures.member;
      same = same_then w (c.args.i + (n + 1)) (place + 1) c.next_place-place.result
          (same_at w (c.args.i + n + 1) (place + 1) (c.args.i + (n + 1)) (omega arith) (same_later w (c.args.i + n) place 1 same)) c.next_place-place.ensures.same;
      passed = passed_more m w d e c.args.i n c.loop-step.invariant.passed
          (λ h. not_from_Decides c.holds_at.result c.holds_at.ensures c.if-holds_at.false (holds_same m w e (c.args.i + n) place same h))
          (holds_same m w d place (c.args.i + n) (same_back w (c.args.i + n) place same) (c.holds_at-in-loop-step.ensures.0 c.if-not-holds_at.false));
    }

pub returns : goal.returns
returns c =
    let m = c.args.model.now in
    let w = at c.args.lasso.now in
    let count : c.loop-step.step ≡ member_count c.args.lasso.now = omega arith in
    never_met m w (term_of c.args.d.now) (term_of c.args.e.now) c.args.i (member_count c.args.lasso.now)
    (rw (← count) c.loop-step.invariant.passed) (within_turn c.args.lasso.now c.requires.loops c.args.i)
