-- A small model, of which the tests speak.
use Rattle.std.specs.Prelude.{[], ◌∷◌, pos}
use Rattle.kripke_model.specs.declared.expressions.Value.TheVariants.{Number}
use Rattle.kripke_model.specs.System.{System}
use Rattle.bit_encode.specs.Rows.{variable, model_with}

-- low and high are booleans
abbrev pub counter_model : System
counter_model
    = model_with []
    (variable (108 ∷ 111 ∷ 119 ∷ []) (Number (pos 0) ∷ Number (pos 1) ∷ [])
    ∷ variable (104 ∷ 105 ∷ 103 ∷ 104 ∷ []) (Number (pos 0) ∷ Number (pos 1) ∷ []) ∷ [])
