-- The parts of a trace file in the order in which they are read, and what a reader finds of one.
use Rattle.std.specs.Prelude.{ℕ, ◌+◌, ◌≤◌, List, [], ◌∷◌, length, codes, Contains, pos, Result, Ok, Err}
use Rattle.std.specs.Global.{Vec}
use Rattle.std.specs.List.{slice_index_or}
use Rattle.kripke_model.specs.declared.expressions.Value.{Value}
use Rattle.kripke_model.specs.declared.expressions.Value.TheVariants.{Number}
use Rattle.kripke_model.specs.Step.{IsState}
use Rattle.kripke_model.specs.System.{System, State, Variable}
use Rattle.text_lines.specs.Cursor.{Place, BeginsWith}
use Rattle.text_lines.specs.Formats.{FitEach, FitUntil, lines_of_many, lines_until}
use Rattle.text_lines.specs.Found.{IsFound}
use Rattle.text_lines.specs.declared.faults.Fault.{Fault}
use Rattle.trace_files.specs.Trace.{value_line, state_lines, loop_line}

-- a line is its text, and there are no rules that a line of a trace could break
abbrev pub Finds : {X : Type 0} → (X → Type 0) → (X → List (List ℕ)) → Place → Result X Fault
    → Place → Type 0
Finds Fits lines old result new
    = IsFound (λ (l : List ℕ). l) (λ l. Unit {0}) Fits lines old result new

-- ---- the values of a state

-- a variable with one value, which stands for those behind the last one
abbrev pub lone : Variable
lone = record { name = []; values = Number (pos 0) ∷ []; line = 0 }

-- a value of the variable that comes after those of the earlier values
abbrev pub FitsValue : System → List Value → Value → Type 0
FitsValue m earlier v = Contains (slice_index_or m.vars (length earlier) lone).values v

abbrev pub one_value : System → List Value → Value → List (List ℕ)
one_value m earlier v = value_line m (length earlier) v ∷ []

-- ---- the states behind the first one, and the line that closes the path

-- a state behind the first one and the earlier ones
abbrev pub later_state : System → List State → State → List (List ℕ)
later_state m earlier s = state_lines m (length earlier + 1) s

-- the path goes on at the first state, or at one of these
abbrev pub FitsLoop : List State → ℕ → Type 0
FitsLoop others i = i ≤ length others

abbrev pub one_loop : List State → ℕ → List (List ℕ)
one_loop others i = loop_line i ∷ []

abbrev pub FitsEnding : System → List State × ℕ → Type 0
FitsEnding m p = FitUntil (λ _. IsState m) FitsLoop [] p.0 p.1

abbrev pub ending_lines : System → List State × ℕ → List (List ℕ)
ending_lines m p = lines_until (later_state m) one_loop [] p.0 p.1

-- these states stand there, and the line behind them begins none
abbrev pub AreAllLater : System → Place → List State → Place → Type 0
AreAllLater m old states new
    = Finds (FitEach (λ _. IsState m) []) (lines_of_many (later_state m) []) old (Ok states) new
    × ¬ BeginsWith (codes "state ") new

-- what is read of them
abbrev pub in_ending : Result (Vec State × ℕ) Fault → Result (List State × ℕ) Fault
in_ending (Ok p) = Ok (p.0.items, p.1)
in_ending (Err fault) = Err fault
