use Rattle.std.specs.Prelude.{not}
use Rattle.std.proofs.lemmas.Bool.Decides.{Decides-not, Decides-like}
use Rattle.kripke_model.specs.Ctl.{Ctl}
use Rattle.kripke_model.specs.Reading.{term_of}
use Rattle.trace_loop.proofs.Leading.{below_there}
use Rattle.trace_loop.proofs.falsifying.leaf_fails_below.Goals as goal

pub returns-in-Some : goal.returns-in-Some
returns-in-Some c =
    let same = below_there c.args.model.now c.args.lasso.now c.args.above.now c.args.i c.in-Some.j c.in-Some.ensures (Ctl.Leaf (term_of c.args.expr.now)) in
    Decides-like (not c.holds_at.result) same.0 same.1 (Decides-not c.holds_at.result c.holds_at.ensures)
