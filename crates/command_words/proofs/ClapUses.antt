-- The arguments of a command as clap builds them, and one use of each.
use Rattle.std.proofs.Common.{◌≡◌, ◌+◌, ℕ, Bool, true, false, List, [], ◌∷◌, min, Option, Some}
use Rattle.std.proofs.Common.{None, refl}
use Rattle.clap.specs.Lexer.{usize_max}
use Rattle.clap.specs.Walk.{Row, Rule, Text, arg_by_id, arg_by_index, has_row}
use Rattle.clap.specs.Simple.{filled}
use Rattle.clap.specs.Faults.{use_fault}
use Rattle.command_words.specs.Given.{flag_rule, option_rule}
use Rattle.command_words.proofs.ClapFaults.{IsFault}

-- an argument that has a value: an option with its long name, or an operand with its place
abbrev pub valued : (name : Text) → (long : Option Text) → (place : Option ℕ) → (is_required : Bool)
    → Rule
valued name long place is_required =
    record (filled (option_rule name)) { long = long; index = place; required = is_required }

abbrev pub option_built : Text → Rule
option_built name = valued name (Some name) None false

abbrev pub operand_at : ℕ → Text → (is_required : Bool) → Rule
operand_at place name is_required = valued name None (Some place) is_required

abbrev pub operand_built : ℕ → Text → Rule
operand_built place name = operand_at place name true

abbrev pub optional_built : ℕ → Text → Rule
optional_built place name = operand_at place name false

abbrev pub flag_built : Text → Rule
flag_built name = filled (flag_rule name)

-- the argument of this name has a value
pub record Takes (rules : List Rule) (name : Text) : Type 0 where
  pub long : Option Text
  pub place : Option ℕ
  pub is_required : Bool
  pub is : arg_by_id rules name ≡ Some (valued name long place is_required)

-- from this place on there are the operands of these names, and no others
abbrev pub IsPlaced : List Rule → ℕ → List Text → Type 0
IsPlaced rules place [] = arg_by_index rules place ≡ None
IsPlaced rules place (name ∷ names) =
    (is_required : Bool) × (arg_by_index rules place ≡ Some (operand_at place name is_required))
    × (arg_by_id rules name ≡ Some (operand_at place name is_required))
    × IsPlaced rules (min (place + 1) usize_max) names

-- a first use passes, and no second one
module _ (name : Text) (long : Option Text) (place : Option ℕ) (is_required : Bool)
    (rows : List Row) where
  pub use_first : (word : Text) → has_row name rows ≡ false
      → use_fault false (valued name long place is_required) (word ∷ []) rows ≡ []
  use_first word new = rw new refl

  pub use_again : (word : Text) → has_row name rows ≡ true
      → IsFault (use_fault false (valued name long place is_required) (word ∷ []) rows)
  use_again word there = rw there tt

  -- no use passes without a value
  pub use_without : IsFault (use_fault false (valued name long place is_required) [] rows)
  use_without = tt

module _ (name : Text) (rows : List Row) where
  pub flag_first : has_row name rows ≡ false → use_fault false (flag_built name) [] rows ≡ []
  flag_first new = rw new refl

  pub flag_again : has_row name rows ≡ true → IsFault (use_fault false (flag_built name) [] rows)
  flag_again there = rw there tt
