use Rattle.std.proofs.Common.{◌≡◌, sym, ap, subst}
use Rattle.std.specs.Prelude.{IsTrue, ◌↔◌}
use Rattle.std.proofs.lemmas.Bool.Decides.{Decides-like}
use Rattle.kripke_model.specs.declared.expressions.PathOp.{PathOp}
use Rattle.kripke_model.specs.Ctl.{Ctl}
use Rattle.kripke_model.specs.Path.{at}
use Rattle.kripke_model.specs.WellFormed.{ctl_of}
use Rattle.trace_loop.specs.Above.{FalsifiesAmong}
use Rattle.trace_loop.proofs.Leading.{always_among}
use Rattle.trace_loop.proofs.falsifying.+fails_among.Goals as goal

pub returns-in-Some-first_led : goal.returns-in-Some-first_led
returns-in-Some-first_led t c =
    let m = c.args.model.now in
    let p = c.args.lasso.now in
    let above = c.args.above.now in
    let f = ctl_of c.deref-in-Some-first_led.result.now in
    let first = c.args.starts.first in
    let end = c.args.starts.end in
    let is : ctl_of c.args.formula.now ≡ Ctl.Quant PathOp.AG f = cc (ap ctl_of c.in-Quant.is) in
    let led = c.in-Some-first_led.ensures in
    let same = always_among m p above first end led.0 c.in-Some-first_led.j c.behind.result.first led.1 led.2 led.3 c.behind.ensures.first f led.4 in
    subst (λ (g : Ctl). IsTrue c.fails_among-in-Some-first_led.result ↔ FalsifiesAmong m (at p) above g first end) (sym is)
    (Decides-like c.fails_among-in-Some-first_led.result same.0 same.1 (rw (← c.behind.ensures.end) c.fails_among-in-Some-first_led.ensures))
