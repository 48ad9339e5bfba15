use Rattle.std.proofs.Common.{◌≡◌, map, Ok, subst, arith}
use Rattle.std.proofs.lemmas.Result.{err_from_is_err_and}
use Rattle.proof_text.specs.Lines.{layer_line}
use Rattle.proof_text.specs.SetParts.{AreLayers, Finds}
use Rattle.proof_text.proofs.Joined.{memory_found, room_of, next_found, row_fault}
use Rattle.proof_text.proofs.SetForms.{layer_row}
use Rattle.proof_text.proofs.layer_reading.read_layers.Goals as goal

pub read_layer-requires-clause-room : goal.read_layer-requires-clause-room
read_layer-requires-clause-room c = omega (arith, c.requires.room, room_of c.loop.invariant.found)

pub returns-in_err-layer : goal.returns-in_err-layer
returns-in_err-layer c =
    let p = err_from_is_err_and c.from_residual.result c.from_residual.ensures.1 in
    rw (p.1, p.2) (row_fault (layer_row _ _ c.requires.few c.requires.one c.requires.some) c.loop-test.true c.loop.invariant.found c.in_err-layer.ensures)

pub returns-in_default : goal.returns-in_default
returns-in_default c = memory_found (omega (arith, room_of c.loop.invariant.found, room_of c.in_ok-layer.ensures))

pub loop-preserved : goal.loop-preserved
loop-preserved c = record {
  within = omega (arith, c.loop-test.true);
  found = rw c.in-Ok.ensures.items (next_found (layer_row _ _ c.requires.few c.requires.one c.requires.some) c.loop.counter c.loop.invariant.found c.in_ok-layer.ensures);
}

pub returns : goal.returns
returns c =
    let all : c.loop.counter ≡ c.args.n = omega (arith, c.loop.invariant.within, c.loop-test.false) in
    subst (λ i. Finds (AreLayers c.args.count c.args.most i) (map layer_line) c.args.cursor.now (Ok c.loop.layers.items) c.loop.cursor) all c.loop.invariant.found
