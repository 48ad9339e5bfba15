-- What a model's text is: its tokens, its program and its flat model, each where no refusal stands
-- in the way; and the texts that are accepted.
use Rattle.std.specs.Prelude.{ℕ, ◌+◌, ◌≤◌, List, [], ◌∷◌, length, take, drop}
use Rattle.smv_lexer.specs.Text.{Placed, Lexes, line_feeds, most_bytes}
use Rattle.smv_parser.specs.Program.{Program, program_depth}
use Rattle.smv_parser.specs.Programs.{DerivesProgram, greatest_depth}
use Rattle.smv_instances.specs.Abstract as plain
use Rattle.smv_instantiate.specs.Flattens.{Flattens}
use Rattle.smv_instantiate.specs.Refuses as flattening
use Rattle.kripke_model.specs.Faults.{IsFaultless}
use Rattle.kripke_model.specs.Refusing.{Silent}
use Rattle.kripke_model.specs.Static.{KeepsRules}
use Rattle.kripke_model.specs.System.{System}
use Rattle.bit_encode.specs.Code.{state_bits}

-- ---- lines

-- the line of the byte at this place, one more than the line feeds before it
abbrev pub line_at : List ℕ → ℕ → ℕ
line_at bytes at = 1 + line_feeds (take at bytes)

-- the line of the first token that is left; where none is, one more than all line feeds
abbrev pub line_of_first : List ℕ → List Placed → ℕ
line_of_first bytes [] = 1 + line_feeds bytes
line_of_first bytes (t ∷ ts) = t.line

-- the line of the token after so many tokens, or of the end
abbrev pub token_line : List ℕ → List Placed → ℕ → ℕ
token_line bytes ts at = line_of_first bytes (drop at ts)

-- ---- what the text is

-- the text is not too long, and has these tokens
pub record HasTokens (bytes : List ℕ) (ts : List Placed) : Type 0 where
  pub few : length bytes ≤ most_bytes
  pub lexed : Lexes bytes ts

-- its tokens are this program, within the depth
pub record HasProgram (bytes : List ℕ) (p : Program) : Type 0 where
  pub tokens : List Placed
  pub has : HasTokens bytes tokens
  pub derived : DerivesProgram tokens p
  pub within : program_depth p ≤ greatest_depth

-- its program is not refused, and m is the program's flat model
pub record HasFlat (bytes : List ℕ) (m : System) : Type 0 where
  pub program : Program
  pub has : HasProgram bytes program
  pub kept : Silent (flattening.Refuses (plain.program program))
  pub flattens : Flattens (plain.program program) m

-- its flat model m breaks no static rule
pub record HasRuled (bytes : List ℕ) (m : System) : Type 0 where
  pub flat : HasFlat bytes m
  pub rules : KeepsRules m

abbrev pub most_state_bits : ℕ
most_state_bits = 128

-- the states of its flat model m have few enough bits: nothing that can be read off the text stands
-- in the way
pub record HasModel (bytes : List ℕ) (m : System) : Type 0 where
  pub ruled : HasRuled bytes m
  pub few : state_bits m ≤ most_state_bits

-- The text is accepted, and m is its model: no item of m faults at any pair of states, reachable or
-- not.
pub record IsAccepted (bytes : List ℕ) (m : System) : Type 0 where
  pub has : HasModel bytes m
  pub faultless : IsFaultless m
