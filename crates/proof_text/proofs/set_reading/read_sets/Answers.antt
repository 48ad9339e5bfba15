use Rattle.std.proofs.Common.{◌≡◌, map, Ok, subst, arith}
use Rattle.std.proofs.lemmas.Result.{err_from_is_err_and}
use Rattle.proof_text.specs.Lines.{set_line}
use Rattle.proof_text.specs.SetParts.{AreSets, Finds}
use Rattle.proof_text.proofs.Joined.{memory_found, room_of, next_found, row_fault}
use Rattle.proof_text.proofs.SetForms.{set_row}
use Rattle.proof_text.proofs.set_reading.read_sets.Goals as goal

pub read_set-requires-clause-room : goal.read_set-requires-clause-room
read_set-requires-clause-room c = omega (arith, c.requires.room, room_of c.loop.invariant.found)

pub returns-in_err-set : goal.returns-in_err-set
returns-in_err-set c =
    let p = err_from_is_err_and c.from_residual.result c.from_residual.ensures.1 in
    rw (p.1, p.2) (row_fault (set_row _ c.requires.some) c.loop-test.true c.loop.invariant.found c.in_err-set.ensures)

pub returns-in_default : goal.returns-in_default
returns-in_default c = memory_found (omega (arith, room_of c.loop.invariant.found, room_of c.in_ok-set.ensures))

pub loop-preserved : goal.loop-preserved
loop-preserved c = record {
  within = omega (arith, c.loop-test.true);
  found = rw c.in-Ok.ensures.items (next_found (set_row _ c.requires.some) c.loop.counter c.loop.invariant.found c.in_ok-set.ensures);
}

pub returns : goal.returns
returns c =
    let all : c.loop.counter ≡ c.args.n = omega (arith, c.loop.invariant.within, c.loop-test.false) in
    subst (λ i. Finds (AreSets c.args.most i) (map set_line) c.args.cursor.now (Ok c.loop.sets.items) c.loop.cursor) all c.loop.invariant.found
