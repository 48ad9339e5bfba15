use Rattle.std.proofs.Common.{◌-◌, ◌<◌, length, sym, ◌∙◌, subst, arith}
use Rattle.std.specs.Prelude.{IsTrue, ◌↔◌}
use Rattle.std.proofs.lemmas.Result.{IfOk-weaker}
use Rattle.region_sets.specs.Sets.{In, region}
use Rattle.delay_bounds.specs.declared.proof.Longest.{Longest}
use Rattle.delay_bounds.specs.Pinned.{over_longest}
use Rattle.delay_bounds.specs.Seen.{seen_longest}
use Rattle.state_reach.specs.Covers.{Always, Keeps}
use Rattle.delay_bounds.specs.Shows.{ShowsLongest}
use Rattle.delay_bounds.proofs.Parts.{longer_shown, some_of}
use Rattle.delay_bounds.proofs.testing.longest_holds.Goals as goal

pub returns-in-NoStart-clause-answer : goal.returns-in-NoStart-clause-answer
returns-in-NoStart-clause-answer g c =
    let now = g.S.StateSets.seen c.args.sets.now in
    let P = In now c.args.from.now.slot in
    IfOk-weaker c.no_start_holds.result _ _
    (λ b answer. subst (λ (x : Longest). IsTrue b ↔ ShowsLongest c.args.model.now P (In now c.args.to.now.slot) (over_longest now (seen_longest x))) (sym c.in-NoStart.is)
    (subst (λ m. IsTrue b ↔ Keeps m P (region now c.in-NoStart.inside) Always) c.requires.over answer))
    c.no_start_holds.ensures.answer

pub returns-else-not-waits_from-clause-answer : goal.returns-else-not-waits_from-clause-answer
returns-else-not-waits_from-clause-answer g c =
    let now = g.S.StateSets.seen c.args.sets.now in
    let P = In now c.args.from.now.slot in
    let stay = c.in-Steps.stay in
    let some : 0 < length stay.items = omega (arith, some_of _ (sym c.is_empty.ensures ∙ c.if-is_empty.false), stay.ok.0) in
    IfOk-weaker c.is_met.result _ _
    (λ b answer. subst (λ (x : Longest). IsTrue b ↔ ShowsLongest c.args.model.now P (In now c.args.to.now.slot) (over_longest now (seen_longest x))) (sym c.in-Steps.is)
    (longer_shown c.args.model.now now c.requires.over c.args.from.now c.args.to.now c.in-Steps.inside b stay.items c.deref-in-Steps.result.now c.in-Steps.way.items c.deref.result.now c.in-Steps.start (c.len.result - 1)
    some c.deref-in-Steps.ensures.value c.deref.ensures.value (omega (arith, c.len.ensures, stay.ok.0)) (c.waits_from.ensures.0 c.if-not-waits_from.false) answer))
    c.is_met.ensures.answer
