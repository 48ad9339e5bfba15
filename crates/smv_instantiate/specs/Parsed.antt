-- The programs that the parser gives for what the lexer gave.
use Rattle.std.specs.Prelude.{ℕ, ◌≤◌, List, length}
use Rattle.smv_lexer.specs.Text.{Placed, Lexes, most_bytes}
use Rattle.smv_parser.specs.Program.{Program, program_depth}
use Rattle.smv_parser.specs.Programs.{DerivesProgram, greatest_depth}

-- it is derived within the depth from the tokens of a text that is not too long
pub record IsParsed (p : Program) : Type 0 where
  pub bytes : List ℕ
  pub tokens : List Placed
  pub few : length bytes ≤ most_bytes
  pub lexed : Lexes bytes tokens
  pub derived : DerivesProgram tokens p
  pub within : program_depth p ≤ greatest_depth
