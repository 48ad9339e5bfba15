use Rattle.std.proofs.Common.{◌≡◌, ℕ, map, Ok, subst, arith}
use Rattle.std.specs.Global.{Vec}
use Rattle.std.proofs.lemmas.Result.{err_from_is_err_and}
use Rattle.proof_text.specs.Lines.{reach_lines}
use Rattle.proof_text.specs.SetParts.{AreLists, Finds}
use Rattle.proof_text.proofs.Joined.{memory_found, room_of}
use Rattle.proof_text.proofs.SetForms.{next_list, list_fault, more_lists}
use Rattle.proof_text.proofs.fair_reading.read_reaches.Goals as goal

pub read_reach-requires-clause-room : goal.read_reach-requires-clause-room
read_reach-requires-clause-room c = omega (arith, c.requires.room, room_of c.loop-k.invariant.found)

pub returns-in_err-sets : goal.returns-in_err-sets
returns-in_err-sets c =
    let p = err_from_is_err_and c.from_residual.result c.from_residual.ensures.1 in
    rw (p.1, p.2) (list_fault c.args.most c.requires.some c.loop-k-test.true c.loop-k.invariant.found c.in_err-sets.ensures)

pub returns-in_default : goal.returns-in_default
returns-in_default c = memory_found (omega (arith, room_of c.loop-k.invariant.found, room_of c.in_ok-sets.ensures))

pub loop-k-preserved : goal.loop-k-preserved
loop-k-preserved c = record {
  within = omega (arith, c.loop-k-test.true);
  found = rw (more_lists _ _ _ c.in-Ok.ensures.items) (next_list c.args.most c.requires.some c.loop-k.invariant.found c.in_ok-sets.ensures);
}

pub returns : goal.returns
returns c =
    let all : c.loop-k.k ≡ c.args.count = omega (arith, c.loop-k.invariant.within, c.loop-k-test.false) in
    subst (λ i. Finds (AreLists c.args.most i) (reach_lines 1) c.args.cursor.now (Ok (map (λ (xs : Vec ℕ). xs.items) c.loop-k.lists.items)) c.loop-k.cursor) all c.loop-k.invariant.found
