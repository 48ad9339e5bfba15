-- The report of a check, line by line.
use Rattle.std.specs.Prelude.{ℕ, ◌+◌, Bool, true, false, List, [], ◌∷◌, ◌++◌, length, drop, Option, Some, None, codes, decimal, count_by}
use Rattle.std.specs.List.{slice_index_or}
use Rattle.kripke_model.specs.Term.{Term}
use Rattle.kripke_model.specs.System.{System, State, Variable, value_in}
use Rattle.kripke_model.specs.Path.{Lasso}
use Rattle.kripke_model.specs.Shown.{value_text}
use Rattle.smv_texts.specs.Texts.{line}

-- what is found of a specification
pub data Outcome : Type 0 where
  True : Outcome
  -- a failing initial state, and perhaps a path that begins there
  False : (state : State) → (path : Option Lasso) → Outcome
  -- the node limit that was met
  Unknown : (limit : ℕ) → Outcome

-- and the length that the proof file would have with its proof, where that was left out
pub record Finding : Type 0 where
  pub outcome : Outcome
  pub left_out : Option ℕ

-- the texts of the members with their numbers, from k on
abbrev pub numbered : {A : Type 0} → (ℕ → A → List ℕ) → ℕ → List A → List ℕ
numbered text k [] = []
numbered text k (x ∷ xs) = text k x ++ numbered text (k + 1) xs

-- ---- values and states

abbrev pub variable_line : System → State → ℕ → Variable → List ℕ
variable_line m s x v = line (codes "  " ++ v.name ++ codes " = " ++ value_text m x (value_in s x))

abbrev pub state_lines : System → ℕ → State → List ℕ
state_lines m k s = line (codes "state " ++ decimal k) ++ numbered (variable_line m s) 0 m.vars

-- the state at which a path goes on after the last
abbrev pub loop_line : Lasso → List ℕ
loop_line p = line (codes "loop " ++ decimal (length p.stem))

-- all states of a path, from state 0 on
abbrev pub lasso_lines : System → Lasso → List ℕ
lasso_lines m p = numbered (state_lines m) 0 (p.stem ++ p.cycle) ++ loop_line p

-- the further states of a path, and the one at which it goes on after the last
abbrev pub path_lines : System → Option Lasso → List ℕ
path_lines m None = []
path_lines m (Some p) = numbered (state_lines m) 1 (drop 1 (p.stem ++ p.cycle)) ++ loop_line p

-- ---- specifications

abbrev pub verdict_text : Outcome → List ℕ
verdict_text True = codes "true"
verdict_text (False s path) = codes "false"
verdict_text (Unknown limit) = codes "unknown: node limit " ++ decimal limit

-- what stands below a false verdict
abbrev pub witness_lines : System → Outcome → List ℕ
witness_lines m True = []
witness_lines m (False s path) = state_lines m 0 s ++ path_lines m path
witness_lines m (Unknown limit) = []

abbrev pub left_out_lines : ℕ → Option ℕ → List ℕ
left_out_lines j None = []
left_out_lines j (Some size)
    = line (codes "proof " ++ decimal j ++ codes " left out: length " ++ decimal size)

-- the line on which specification j stands
abbrev pub line_of : System → ℕ → ℕ
line_of m j = (slice_index_or m.specs j (record { expr = Term.Var 0; line = 0 })).line

-- the number and the line of specification j, which is printed as j + 1
abbrev pub spec_text : System → ℕ → List ℕ
spec_text m j
    = codes "spec " ++ decimal (j + 1) ++ codes " line " ++ decimal (line_of m j) ++ codes " "

abbrev pub finding_lines : System → ℕ → Finding → List ℕ
finding_lines m j f
    = line (spec_text m j ++ verdict_text f.outcome) ++ witness_lines m f.outcome ++ left_out_lines
    (j + 1) f.left_out

-- ---- the whole

abbrev pub is_true : Finding → Bool
is_true f = is_true_outcome f.outcome
  where
    is_true_outcome : Outcome → Bool
    is_true_outcome True = true
    is_true_outcome (False s path) = false
    is_true_outcome (Unknown limit) = false

abbrev pub is_false : Finding → Bool
is_false f = is_false_outcome f.outcome
  where
    is_false_outcome : Outcome → Bool
    is_false_outcome True = false
    is_false_outcome (False s path) = true
    is_false_outcome (Unknown limit) = false

abbrev pub is_unknown : Finding → Bool
is_unknown f = is_unknown_outcome f.outcome
  where
    is_unknown_outcome : Outcome → Bool
    is_unknown_outcome True = false
    is_unknown_outcome (False s path) = false
    is_unknown_outcome (Unknown limit) = true

abbrev pub total_line : List Finding → List ℕ
total_line fs
    = line (codes "total " ++ decimal (length fs) ++ codes " true " ++ decimal (count_by is_true fs)
    ++ codes " false " ++ decimal (count_by is_false fs) ++ codes " unknown " ++ decimal
    (count_by is_unknown fs))

-- the report of one finding for each specification, in order
abbrev pub report : System → List Finding → List ℕ
report m fs = numbered (finding_lines m) 0 fs ++ total_line fs
