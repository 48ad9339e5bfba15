-- Pins in the place of numbers.
use Rattle.std.specs.Prelude.{ℕ, List, slice_index}
use Rattle.region_sets.specs.declared.pins.Pin.{Pin}
use Rattle.proof_form.specs.Form.{Proof, map_proof}

-- the pin of a number, by a table of slots
abbrev pub pin_for : List ℕ → ℕ → Pin
pin_for table number = record { slot = slice_index table number }

-- the same proof over the pins of its numbers
abbrev pub pinned : List ℕ → Proof ℕ → Proof Pin
pinned table p = map_proof (pin_for table) p
