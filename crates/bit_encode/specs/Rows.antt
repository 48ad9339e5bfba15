-- Two small models, of which the tests speak.
use Rattle.std.specs.Prelude.{ℕ, false, List, [], ◌∷◌, pos}
use Rattle.kripke_model.specs.declared.expressions.Value.{Value}
use Rattle.kripke_model.specs.declared.expressions.Value.TheVariants.{Number, Symbol}
use Rattle.kripke_model.specs.System.{System, Variable}
use Rattle.kripke_model.specs.Flat.{main_name}

abbrev pub variable : List ℕ → List Value → Variable
variable name values = record { name = name; values = values; line = 2 }

-- the model of these variables alone
abbrev pub model_with : List (List ℕ) → List Variable → System
model_with symbols vars = record {
  symbols = symbols;
  vars = vars;
  selector = false;
  processes = main_name ∷ [];
  assigns = [];
  inits = [];
  invars = [];
  trans = [];
  constraints = [];
  specs = [];
}

-- x : {a, b, c} has a code that is unused, and y : {only} has no bits
abbrev pub unused_model : System
unused_model = model_with ((97 ∷ []) ∷ (98 ∷ []) ∷ (99 ∷ []) ∷ (111 ∷ 110 ∷ 108 ∷ 121 ∷ []) ∷ [])
    (variable (120 ∷ []) (Symbol 0 ∷ Symbol 1 ∷ Symbol 2 ∷ []) ∷ variable (121 ∷ []) (Symbol 3 ∷ [])
    ∷ [])

-- a boolean, a range 3..7 and a variable of one value
abbrev pub mixed_model : System
mixed_model = model_with ((111 ∷ 110 ∷ 108 ∷ 121 ∷ []) ∷ [])
    (variable (102 ∷ 108 ∷ 97 ∷ 103 ∷ []) (Number (pos 0) ∷ Number (pos 1) ∷ [])
    ∷ variable (99 ∷ 111 ∷ 117 ∷ 110 ∷ 116 ∷ [])
    (Number (pos 3) ∷ Number (pos 4) ∷ Number (pos 5) ∷ Number (pos 6) ∷ Number (pos 7) ∷ [])
    ∷ variable (121 ∷ []) (Symbol 0 ∷ []) ∷ [])
