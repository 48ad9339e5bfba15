use Rattle.std.proofs.Common.{Ok, Err, length, ap, subst, arith}
use Rattle.std.proofs.lemmas.Result.{err_from_is_err_and}
use Rattle.trace_files.specs.Parts.{Finds, FitsLoop, one_loop}
use Rattle.trace_files.proofs.FoundStates.{few_later, loop_fault, ending_found}
use Rattle.trace_files.proofs.Prints.{prints_apart}
use Rattle.trace_files.proofs.path_reading.read_ending.Goals as goal

pub read_loop-requires-clause-few : goal.read_loop-requires-clause-few
read_loop-requires-clause-few c = omega (arith, few_later c.args.model.now c.in_ok-states.ensures.all.0 c.requires.room, ap length c.deref.ensures.value)

pub returns-in_err-place : goal.returns-in_err-place
returns-in_err-place c =
    let m = c.args.model.now in
    let p = err_from_is_err_and c.from_residual-in_err-place.result c.from_residual-in_err-place.ensures.1 in
    rw (p.1, p.2) (loop_fault m c.rules_law.ensures.flat (prints_apart m c.rules_law.ensures.flat c.requires.small) c.in_ok-states.ensures.all.0 c.in_ok-states.ensures.all.1
    (subst (λ ss. Finds (FitsLoop ss) (one_loop ss) c.read_later.new.cursor (Err c.in_err-place.field-0.0) c.read_loop.new.cursor) c.deref.ensures.value c.in_err-place.ensures))

pub returns : goal.returns
returns c =
    let m = c.args.model.now in
    ending_found m c.rules_law.ensures.flat (prints_apart m c.rules_law.ensures.flat c.requires.small) c.in_ok-states.ensures.all.0
    (subst (λ ss. Finds (FitsLoop ss) (one_loop ss) c.read_later.new.cursor (Ok c.in_ok-place.place) c.read_loop.new.cursor) c.deref.ensures.value c.in_ok-place.ensures)
