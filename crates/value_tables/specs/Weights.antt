-- For how many lists of bits regions have value 1.
use Rattle.std.specs.Prelude.{ℕ, zero, suc, ◌+◌, ◌≤◌, Bool, true, false, ◌&&◌, if◌then◌else◌, List, [], ◌∷◌, sum_by}
use Rattle.bdd_nodes.specs.declared.store.Store.{Store}
use Rattle.bdd_nodes.specs.Store.{levels_of, value_of}
use Rattle.kripke_model.specs.declared.expressions.Value.{Value}
use Rattle.kripke_model.specs.Evaluation.{Checked}
use Rattle.value_tables.specs.declared.cells.Cell.{Cell}
use Rattle.value_tables.specs.Tables.{count_on, IsOperand}

-- the sum over all lists of n bits
unfoldable pub sum_over : ℕ → (List Bool → ℕ) → ℕ
sum_over zero f = f []
sum_over (suc n) f = sum_over n (λ bits. f (false ∷ bits)) + sum_over n (λ bits. f (true ∷ bits))

-- for how many lists of the levels' bits a region has value 1
abbrev pub weight : Store → ℕ → ℕ
weight s r = sum_over (levels_of s) (λ bits. if value_of s r bits then 1 else 0)

abbrev pub weights : Store → List Cell → ℕ
weights s cells = sum_by (λ (c : Cell). weight s c.region) cells

-- for how many of them two regions both have value 1
abbrev pub overlap : Store → ℕ → ℕ → ℕ
overlap s q r
    = sum_over (levels_of s) (λ bits. if value_of s q bits && value_of s r bits then 1 else 0)

abbrev pub overlaps : Store → List Cell → ℕ → ℕ
overlaps s cells r = sum_by (λ (c : Cell). overlap s c.region r) cells

-- no two of the cells have value 1 at one list of bits
pub record AreApart (s : Store) (cells : List Cell) : Type 0 where
  pub each : (bits : List Bool) → count_on (λ r. value_of s r bits) cells ≤ 1

-- the cells are those of an operand
pub record AreOperands (s : Store) (cells : List Cell) (single : Bool) : Type 0 where
  pub result : (bits : List Bool) → (c : Checked (List Value))
      × IsOperand (λ r. value_of s r bits) cells single c
