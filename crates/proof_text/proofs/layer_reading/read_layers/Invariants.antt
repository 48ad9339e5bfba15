use Rattle.std.proofs.Common.{◌≤◌, map, Ok}
use Rattle.proof_text.specs.Lines.{layer_line}
use Rattle.proof_text.specs.SetParts.{AreLayers, Finds}
use Rattle.proof_text.proofs.layer_reading.read_layers.Given as goal

-- so many are read
abbrev pub invariant-loop : goal.invariant-loop
invariant-loop l = record {
  within : l.counter ≤ l.n;
  found : Finds (AreLayers l.count l.most l.counter) (map layer_line) l.initial.cursor (Ok l.layers.items) l.cursor;
}
