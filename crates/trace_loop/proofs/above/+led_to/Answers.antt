use Rattle.std.proofs.Common.{◌+◌, false, refl, sym, subst}
use Rattle.std.proofs.lemmas.Bool.Decides.{not_from_Decides}
use Rattle.kripke_model.specs.Path.{at}
use Rattle.kripke_model.specs.Reading.{term_of}
use Rattle.trace_loop.specs.Above.{IsLed, IsLedTo, place_after}
use Rattle.trace_loop.specs.declared.above.Above.{Above}
use Rattle.trace_loop.proofs.Suffixes.{holds_same, same_back, same_later, same_then}
use Rattle.trace_loop.proofs.above.+led_to.Goals as goal

pub returns-in-Some : goal.returns-in-Some
returns-in-Some t c =
    let m = c.args.model.now in
    let w = at c.args.lasso.now in
    let e = term_of c.in-Where.expr.now in
    let j = c.in-Some.j in
    let to = c.in-Some.ensures in
    subst (λ (a : Above). IsLedTo m c.args.lasso.now a c.args.i j) (sym c.in-Where.is) (
      (to.0, holds_same m w e j (place_after c.in-Where.up.now c.args.i) (same_back w (place_after c.in-Where.up.now c.args.i) j to.2) (c.holds_at.ensures.0 c.if-holds_at.true)),
      to.1,
      to.2,
    )

pub returns-in_default : goal.returns-in_default
returns-in_default t c led =
    let m = c.args.model.now in
    let w = at c.args.lasso.now in
    let e = term_of c.in-Where.expr.now in
    let passed = subst (λ (a : Above). IsLed m w a c.args.i) c.in-Where.is led in
    not_from_Decides c.holds_at.result c.holds_at.ensures c.if-holds_at.false
    (holds_same m w e (place_after c.in-Where.up.now c.args.i) c.in-Some.j c.in-Some.ensures.2 passed.1)

pub returns-in-Some-led_to : goal.returns-in-Some-led_to
returns-in-Some-led_to t c =
    let m = c.args.model.now in
    let w = at c.args.lasso.now in
    let e = term_of c.in-Unless.expr.now in
    let j = c.in-Some-led_to.j in
    let to = c.in-Some-led_to.ensures in
    subst (λ (a : Above). IsLedTo m c.args.lasso.now a c.args.i j) (sym c.in-Unless.is) (
      (to.0, λ h. not_from_Decides false c.if-not-holds_at.ensures refl (holds_same m w e (place_after c.in-Unless.up.now c.args.i) j to.2 h)),
      to.1,
      to.2,
    )

pub returns-in_default-led_to : goal.returns-in_default-led_to
returns-in_default-led_to t c led =
    let m = c.args.model.now in
    let w = at c.args.lasso.now in
    let e = term_of c.in-Unless.expr.now in
    let j = c.in-Some-led_to.j in
    let place = place_after c.in-Unless.up.now c.args.i in
    let passed = subst (λ (a : Above). IsLed m w a c.args.i) c.in-Unless.is led in
    passed.1 (holds_same m w e j place (same_back w place j c.in-Some-led_to.ensures.2) (c.if-not-holds_at.ensures.0 refl))

pub returns-in-Some-led_to-2 : goal.returns-in-Some-led_to-2
returns-in-Some-led_to-2 t c =
    let m = c.args.model.now in
    let w = at c.args.lasso.now in
    let j = c.in-Some-led_to-2.j in
    let n = c.next_place.result in
    let to = c.in-Some-led_to-2.ensures in
    let place = place_after c.in-Next.up.now c.args.i in
    subst (λ (a : Above). IsLedTo m c.args.lasso.now a c.args.i n) (sym c.in-Next.is)
    (to.0, c.next_place.ensures.member, same_then w (place + 1) (j + 1) n (same_later w place j 1 to.2) c.next_place.ensures.same)
