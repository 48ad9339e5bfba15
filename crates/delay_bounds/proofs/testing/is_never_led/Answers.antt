use Rattle.std.proofs.Common.{refl}
use Rattle.std.proofs.lemmas.Result.{IfOk-weaker}
use Rattle.region_sets.proofs.Changes.{adds_after}
use Rattle.region_sets.proofs.Calls.{In-at}
use Rattle.delay_bounds.proofs.TestCalls.{all_before}
use Rattle.delay_bounds.proofs.testing.is_never_led.Goals as goal

pub returns-clause-answer : goal.returns-clause-answer
returns-clause-answer g c =
    let s0 = g.S.StateSets.seen c.args.sets.now in
    let s1 = g.S.StateSets.seen c.keeps_out.new.sets in
    let s2 = g.S.StateSets.seen c.subset.new.self in
    let p1 = c.in_ok-keeps_out.ensures.call.pins in
    let to = c.args.to.now.slot in
    let back = c.args.back.now.slot in
    IfOk-weaker c.has_all_before.result _ _
    (λ b answer.
    let last = all_before s0 s2 (adds_after p1 c.in_ok-subset.ensures.call.pins) b c.args.back.now answer in (
      (λ e. (
        c.in_ok-keeps_out.ensures.answer.0 c.if-not-branch.false,
        (λ s is_state h. (In-at s0 s1 back s (p1.kept back refl)).0 (c.in_ok-subset.ensures.answer.0 c.if-not-branch-2.false s ((In-at s0 s1 to s (p1.kept to refl)).1 h))),
        last.0 e,
      )),
      (λ h. last.1 h.2),
    ))
    c.has_all_before.ensures.answer
