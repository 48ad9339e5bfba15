-- What contracts see of a table's cells, and the keys by which their readings are found.
use Rattle.std.specs.Prelude.{ℕ, zero, suc, ◌+◌, ◌^◌, unsigned_abs, List, [], ◌∷◌, map, Ok, Err}
use Rattle.kripke_model.specs.declared.expressions.Value.{Value}
use Rattle.kripke_model.specs.declared.expressions.Value.TheVariants.{Number, Symbol}
use Rattle.kripke_model.specs.Evaluation.{Checked}
use Rattle.value_tables.specs.declared.cells.Cell.{Cell}
use Rattle.value_tables.specs.declared.cell_lists.Key.{Key}
use Rattle.value_tables.specs.Cells.{fault_number}

pub record CellItems : Type 0 where
  pub items : List Cell

-- the key of a reading
abbrev pub key_of : Checked Value → Key
key_of (Ok (Number i)) = Key.Number i
key_of (Ok (Symbol c)) = Key.Symbol c
key_of (Err kind) = Key.Fault (fault_number kind)

-- a number by which a key is hashed
abbrev pub key_number : Key → ℕ
key_number (Key.Number i) = unsigned_abs i
key_number (Key.Symbol c) = 2 ^ 32 + c
key_number (Key.Fault k) = 2 ^ 33 + k

abbrev pub keys_of : List Cell → List Key
keys_of cells = map (λ (c : Cell). key_of c.reading) cells

-- the cells with another region at one place
abbrev pub with_region : List Cell → ℕ → ℕ → List Cell
with_region [] i r = []
with_region (c ∷ cells) zero r = record { reading = c.reading; region = r } ∷ cells
with_region (c ∷ cells) (suc i) r = c ∷ with_region cells i r
