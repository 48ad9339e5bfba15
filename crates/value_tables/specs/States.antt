-- The states that a list of bits shows: those of a variable's code in the current and in the next state alternate.
use Rattle.std.specs.Prelude.{ℕ, zero, suc, ◌+◌, ◌-◌, Bool, List, [], ◌∷◌, length, min, pos}
use Rattle.std.specs.List.{slice_index_or}
use Rattle.kripke_model.specs.declared.expressions.Value.{Value}
use Rattle.kripke_model.specs.declared.expressions.Value.TheVariants.{Number}
use Rattle.kripke_model.specs.Term.{Term, Terms, Arms}
use Rattle.kripke_model.specs.System.{System, State}
use Rattle.kripke_model.specs.Evaluation.{Checked, eval, eval_elements, eval_arms}
use Rattle.bit_encode.specs.Code.{Coding, values_of, code}
use Rattle.variable_codes.specs.Levels.{spelled_by}

-- the number that the bits of variable x spell
unfoldable pub code_shown : Coding → Bool → List Bool → ℕ → ℕ
code_shown c next bits x = spelled_by c next bits x

-- the value of variable x; a code past the last value stands for the last value
abbrev pub value_shown : Coding → Bool → List Bool → ℕ → Value
value_shown c next bits x
    = slice_index_or (values_of c.types x)
    (min (code_shown c next bits x) (length (values_of c.types x) - 1)) (Number (pos 0))

abbrev pub values_shown : Coding → Bool → List Bool → ℕ → ℕ → State
values_shown c next bits x zero = []
values_shown c next bits x (suc m) = value_shown c next bits x ∷ values_shown c next bits (x + 1) m

abbrev pub state_shown : Coding → Bool → List Bool → State
state_shown c next bits = values_shown c next bits 0 (length c.types)

-- what the expression comes to at the states that the bits show, read in the next one alone where that is said
abbrev pub meaning_of : Coding → System → Bool → Term → List Bool → Checked (List Value)
meaning_of c m next e bits = eval m e (state_shown c next bits) (state_shown c Bool.true bits)

-- two lists in turn
abbrev pub alternated : List Bool → List Bool → List Bool
alternated [] bs = []
alternated (a ∷ xs) [] = []
alternated (a ∷ xs) (b ∷ bs) = a ∷ b ∷ alternated xs bs

-- the bits of a pair of states: at even levels those of the first one, at odd levels those of the second one
abbrev pub pair_code : Coding → State → State → List Bool
pair_code c s t = alternated (code c s) (code c t)

abbrev pub elements_meaning : Coding → System → Bool → Terms → List Bool → Checked (List Value)
elements_meaning c m next es bits
    = eval_elements m es (state_shown c next bits) (state_shown c Bool.true bits)

abbrev pub arms_meaning : Coding → System → Bool → Arms → List Bool → Checked (List Value)
arms_meaning c m next arms bits
    = eval_arms m arms (state_shown c next bits) (state_shown c Bool.true bits)
