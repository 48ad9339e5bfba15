use Rattle.std.proofs.Common.{◌≤◌, ℕ, map, Ok}
use Rattle.std.specs.Global.{Vec}
use Rattle.proof_text.specs.Lines.{reach_lines}
use Rattle.proof_text.specs.SetParts.{AreLists, Finds}
use Rattle.proof_text.proofs.fair_reading.read_reaches.Given as goal

-- the lists of so many constraints are read
abbrev pub invariant-loop-k : goal.invariant-loop-k
invariant-loop-k l = record {
  within : l.k ≤ l.count;
  found : Finds (AreLists l.most l.k) (reach_lines 1) l.initial.cursor (Ok (map (λ (xs : Vec ℕ). xs.items) l.lists.items)) l.cursor;
}
