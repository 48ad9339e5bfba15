-- A trace file, and its lines.
use Rattle.std.specs.Prelude.{ℕ, ◌+◌, List, [], ◌∷◌, ◌++◌, length, codes, decimal}
use Rattle.kripke_model.specs.declared.expressions.Value.{Value}
use Rattle.kripke_model.specs.Path.{Lasso}
use Rattle.kripke_model.specs.Shown.{value_text}
use Rattle.kripke_model.specs.System.{System, State, variable_name}

-- a looping path, which is to falsify a specification, counted from 1
pub record Trace : Type 0 where
  pub spec : ℕ
  pub lasso : Lasso

-- the states of the stem and then those of the cycle
abbrev pub members : Lasso → List State
members p = p.stem ++ p.cycle

-- ---- lines, without their line feeds; those of states are the lines of a report

abbrev pub spec_line : ℕ → List ℕ
spec_line j = codes "trace " ++ decimal j

-- a value of variable x
abbrev pub value_line : System → ℕ → Value → List ℕ
value_line m x v = codes "  " ++ (variable_name m x ++ (codes " = " ++ value_text m x v))

-- a line for each value, from variable x on
abbrev pub value_lines : System → ℕ → State → List (List ℕ)
value_lines m x [] = []
value_lines m x (v ∷ s) = value_line m x v ∷ value_lines m (x + 1) s

abbrev pub state_line : ℕ → List ℕ
state_line k = codes "state " ++ decimal k

abbrev pub state_lines : System → ℕ → State → List (List ℕ)
state_lines m k s = state_line k ∷ value_lines m 0 s

-- the states from number k on
abbrev pub states_lines : System → ℕ → List State → List (List ℕ)
states_lines m k [] = []
states_lines m k (s ∷ states) = state_lines m k s ++ states_lines m (k + 1) states

-- after the last state the path goes on at this one
abbrev pub loop_line : ℕ → List ℕ
loop_line i = codes "loop " ++ decimal i

-- it goes on at the cycle's first
abbrev pub lasso_lines : System → Lasso → List (List ℕ)
lasso_lines m p = states_lines m 0 (members p) ++ loop_line (length p.stem) ∷ []

abbrev pub trace_lines : System → Trace → List (List ℕ)
trace_lines m t = spec_line t.spec ∷ lasso_lines m t.lasso
