-- What is kept of the parts of words: one value of each argument at most.
use Rattle.std.proofs.Common.{◌≡◌, ℕ, Bool, true, false, ◌||◌, not, List, [], ◌∷◌, Option, Some}
use Rattle.std.proofs.Common.{None, is_some, refl, if◌then◌else◌, codes, bytes_eq}
use Rattle.std.specs.Option.{option_and_then}
use Rattle.command_words.specs.Given.{Values}
use Rattle.command_words.specs.Parts.{Part, Operand, Nodes, Proof, Check, before}

abbrev pub nothing : Values
nothing name = None

-- with this value of this argument
abbrev pub put : (name value : List ℕ) → Values → Values
put name value values other = if bytes_eq name other then Some value else values other

-- the operands of `check` and of `gen`
abbrev pub model_name : List (List ℕ)
model_name = codes "model" ∷ []

abbrev pub number_name : List (List ℕ)
number_name = codes "number" ∷ []

-- what is kept of a flag
abbrev pub flag_value : Bool → Option (List ℕ)
flag_value false = None
flag_value true = Some (codes "true")

-- the names of the operands that are still to come, and what is kept
pub record Kept : Type 0 where
  pub free : List (List ℕ)
  pub values : Values

-- a value more, by what its argument had before
abbrev pub put_new : List (List ℕ) → Values → (name value : List ℕ) → Option (List ℕ) → Option Kept
put_new free values name value None = Some (record { free = free; values = put name value values })
put_new free values name value (Some first) = None

abbrev pub keep_as : List (List ℕ) → Values → (name value : List ℕ) → Option Kept
keep_as free values name value = put_new free values name value (values name)

abbrev pub keep_operand : List (List ℕ) → Values → List ℕ → Option Kept
keep_operand [] values word = None
keep_operand (name ∷ free) values word = keep_as free values name word

-- with one part more; None where its argument has a value, or no operand is still to come
abbrev pub keep : List (List ℕ) → Values → Part → Option Kept
keep free values (Operand word) = keep_operand free values word
keep free values (Nodes value) = keep_as free values (codes "nodes") value
keep free values (Proof name) = keep_as free values (codes "proof") name
keep free values Check = keep_as free values (codes "check") (codes "true")

-- the part is kept as this value of this argument
abbrev pub KeepsAs : Part → (name value : List ℕ) → Type 0
KeepsAs part name value =
    (free : List (List ℕ)) (values : Values)
    → keep free values part ≡ keep_as free values name value

-- with all of these parts
abbrev pub keep_all : List (List ℕ) → Values → List Part → Option Kept
keep_all free values [] = Some (record { free = free; values = values })
keep_all free values (part ∷ others) =
    option_and_then (λ more. keep_all more.free more.values others) (keep free values part)

-- with these parts, where they are parts
abbrev pub keep_parts : List (List ℕ) → Values → Option (List Part) → Option Kept
keep_parts free values = option_and_then (keep_all free values)

-- with the parts of the words behind
abbrev pub then_keep : Option (List Part) → Option Kept → Option Kept
then_keep parts = option_and_then (λ more. keep_parts more.free more.values parts)

pub keep_before : (free : List (List ℕ)) (values : Values) (part : Part)
    (parts : Option (List Part))
    → keep_parts free values (before part parts) ≡ then_keep parts (keep free values part)
keep_before free values part (Some parts) = refl
keep_before free values part None = go (keep free values part)
  where
    go : (more : Option Kept)
        → ◌≡◌ {A = Option Kept} None (option_and_then {T = Kept} {U = Kept} (λ m. None) more)
    go None = refl
    go (Some m) = refl

-- one of these operands has no word
abbrev pub wants : List (List ℕ) → Values → Bool
wants [] values = false
wants (name ∷ names) values = not (is_some (values name)) || wants names values
