use Rattle.std.proofs.Common.{◌≤◌, map, Ok}
use Rattle.proof_text.specs.Lines.{set_line}
use Rattle.proof_text.specs.SetParts.{AreSets, Finds}
use Rattle.proof_text.proofs.set_reading.read_sets.Given as goal

-- so many are read
abbrev pub invariant-loop : goal.invariant-loop
invariant-loop l = record {
  within : l.counter ≤ l.n;
  found : Finds (AreSets l.most l.counter) (map set_line) l.initial.cursor (Ok l.sets.items) l.cursor;
}
