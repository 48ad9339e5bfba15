use Rattle.std.proofs.Common.{sym, subst}
use Rattle.std.specs.Prelude.{IsTrue, ◌↔◌}
use Rattle.std.proofs.lemmas.Result.{IfOk-weaker}
use Rattle.region_sets.specs.Sets.{In, region}
use Rattle.delay_bounds.specs.declared.proof.Shortest.{Shortest}
use Rattle.delay_bounds.specs.Pinned.{over_shortest}
use Rattle.delay_bounds.specs.Seen.{seen_shortest}
use Rattle.state_reach.specs.Covers.{Always, Keeps}
use Rattle.delay_bounds.specs.Shows.{ShowsShortest}
use Rattle.delay_bounds.proofs.Parts.{never_shown}
use Rattle.delay_bounds.proofs.testing.shortest_holds.Goals as goal

pub returns-in-NoStart-clause-answer : goal.returns-in-NoStart-clause-answer
returns-in-NoStart-clause-answer g c =
    let now = g.S.StateSets.seen c.args.sets.now in
    let P = In now c.args.from.now.slot in
    IfOk-weaker c.no_start_holds.result _ _
    (λ b answer. subst (λ (x : Shortest). IsTrue b ↔ ShowsShortest c.args.model.now P (In now c.args.to.now.slot) (over_shortest now (seen_shortest x))) (sym c.in-NoStart.is)
    (subst (λ m. IsTrue b ↔ Keeps m P (region now c.in-NoStart.inside) Always) c.requires.over answer))
    c.no_start_holds.ensures.answer

pub returns-else-not-comes-clause-answer : goal.returns-else-not-comes-clause-answer
returns-else-not-comes-clause-answer g c =
    let now = g.S.StateSets.seen c.args.sets.now in
    let P = In now c.args.from.now.slot in
    IfOk-weaker c.is_never_led.result _ _
    (λ b answer. subst (λ (x : Shortest). IsTrue b ↔ ShowsShortest c.args.model.now P (In now c.args.to.now.slot) (over_shortest now (seen_shortest x))) (sym c.in-Never.is)
    (never_shown c.args.model.now now c.requires.over c.args.from.now c.args.to.now c.in-Never.inside b c.in-Never.back c.in-Never.way.items c.deref.result.now c.deref-in-Never.result.now c.last_place.result
    c.deref.ensures.value c.deref-in-Never.ensures.value c.last_place.ensures (c.comes.ensures.0 c.if-not-comes.false) answer))
    c.is_never_led.ensures.answer
