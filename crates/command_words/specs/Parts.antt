-- The parts of the words behind a command: operands, and options with their values.
use Rattle.std.specs.Prelude.{ℕ, ◌+◌, Bool, false, List, [], ◌∷◌, ◌++◌, Option, Some, None}
use Rattle.std.specs.Prelude.{if◌then◌else◌, ◌==◌, bytes_eq, nat_eq, codes, map, drop, length}
use Rattle.std.specs.List.{starts_with}
use Rattle.std.specs.Option.{option_map}

pub data Part : Type 0 where
  Operand : List ℕ → Part
  -- the option `--nodes` with its value
  Nodes : List ℕ → Part
  -- the option `--proof` with its value
  Proof : List ℕ → Part
  -- the option `--check`, which takes none
  Check : Part

-- What an option word of a command is.
pub data Form : Type 0 where
  -- no option of the command
  Unknown : Form
  -- a part by itself
  Whole : Part → Form
  -- an option whose value is the next word
  Valued : (List ℕ → Part) → Form

-- The option word is this option alone, whose value is the next word, or it has the value behind
-- `=`; or else it is one of the others.
abbrev pub option_or : (option : List ℕ) → (List ℕ → Part) → (others : Form) → (word : List ℕ)
    → Form
option_or option part others word =
    if bytes_eq word option then Valued part
    else if starts_with nat_eq word (option ++ codes "=")
    then Whole (part (drop (length option + 1) word))
    else others

-- The options of `check`: `--nodes N` and `--nodes=N`, `--proof FILE` and `--proof=FILE`.
abbrev pub check_form : List ℕ → Form
check_form word =
    option_or (codes "--nodes") Nodes (option_or (codes "--proof") Proof Unknown word) word

-- The options of `recheck`, `delay`, `replay` and `strong`: `--nodes N` and `--nodes=N`.
abbrev pub limit_form : List ℕ → Form
limit_form word = option_or (codes "--nodes") Nodes Unknown word

-- The options of `gen`: `--check`.
abbrev pub gen_form : List ℕ → Form
gen_form word = if bytes_eq word (codes "--check") then Whole Check else Unknown

-- An option word begins with a dash and is longer than it.
abbrev pub is_option : List ℕ → Bool
is_option (byte ∷ next ∷ rest) = byte == 45
is_option word = false

-- A part before the others, if these are parts.
abbrev pub before : Part → Option (List Part) → Option (List Part)
before part = option_map (λ others. part ∷ others)

-- What an option word of this form comes to, by the parts of the words behind it and by those where the first of them is its value.
abbrev pub by_form : Form → Option (List Part) → ((List ℕ → Part) → Option (List Part))
    → Option (List Part)
by_form Unknown parts valued = None
by_form (Whole part) parts valued = before part parts
by_form (Valued part) parts valued = valued part

-- The parts of the words; None where an option word is no option of the command, or has no value where it takes one.
abbrev mutual
  pub parts_of : (List ℕ → Form) → List (List ℕ) → Option (List Part)
  parts_of form [] = Some []
  parts_of form (word ∷ words) =
      if bytes_eq word (codes "--") then Some (map Operand words)
      else if is_option word
      then by_form (form word) (parts_of form words) (parts_valued form words)
      else before (Operand word) (parts_of form words)

  -- the same, where the first word is the value of an option
  pub parts_valued : (List ℕ → Form) → List (List ℕ) → (List ℕ → Part) → Option (List Part)
  parts_valued form [] part = None
  parts_valued form (value ∷ words) part =
      if is_option value then None else before (part value) (parts_of form words)

abbrev pub operands : List Part → List (List ℕ)
operands [] = []
operands (Operand word ∷ parts) = word ∷ operands parts
operands (Nodes value ∷ parts) = operands parts
operands (Proof name ∷ parts) = operands parts
operands (Check ∷ parts) = operands parts

-- the values of `--nodes`
abbrev pub limits : List Part → List (List ℕ)
limits [] = []
limits (Operand word ∷ parts) = limits parts
limits (Nodes value ∷ parts) = value ∷ limits parts
limits (Proof name ∷ parts) = limits parts
limits (Check ∷ parts) = limits parts

-- the values of `--proof`
abbrev pub proofs : List Part → List (List ℕ)
proofs [] = []
proofs (Operand word ∷ parts) = proofs parts
proofs (Nodes value ∷ parts) = proofs parts
proofs (Proof name ∷ parts) = name ∷ proofs parts
proofs (Check ∷ parts) = proofs parts

-- how often `--check` stands
abbrev pub checks : List Part → ℕ
checks [] = 0
checks (Operand word ∷ parts) = checks parts
checks (Nodes value ∷ parts) = checks parts
checks (Proof name ∷ parts) = checks parts
checks (Check ∷ parts) = checks parts + 1
