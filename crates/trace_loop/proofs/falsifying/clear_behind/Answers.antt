use Rattle.kripke_model.specs.Reading.{term_of}
use Rattle.trace_loop.proofs.Leading.{met_below}
use Rattle.trace_loop.proofs.falsifying.clear_behind.Goals as goal

pub returns-in-Some : goal.returns-in-Some
returns-in-Some c = met_below c.args.model.now c.args.lasso.now c.args.above.now c.args.i c.in-Some.j c.in-Some.ensures (term_of c.args.d.now) (term_of c.args.e.now) c.met_after.result c.met_after.ensures
