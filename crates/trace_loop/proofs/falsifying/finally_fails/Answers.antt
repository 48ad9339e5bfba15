use Rattle.std.specs.Prelude.{not}
use Rattle.std.proofs.lemmas.Bool.Decides.{Decides-not, Decides-like}
use Rattle.kripke_model.specs.Reading.{term_of}
use Rattle.trace_loop.proofs.Leading.{finally_among}
use Rattle.trace_loop.proofs.falsifying.finally_fails.Goals as goal

pub returns-in-Some : goal.returns-in-Some
returns-in-Some c =
    let led = c.in-Some.ensures in
    let same = finally_among c.args.model.now c.args.lasso.now c.args.above.now c.args.starts.first c.args.starts.end led.0 c.in-Some.j c.first_place.result led.1 led.2 led.3 c.first_place.ensures (term_of c.args.expr.now) led.4 in
    Decides-like (not c.some_holds.result) same.0 same.1 (Decides-not c.some_holds.result c.some_holds.ensures)
