-- A model of two variables with the same numbers.
use Rattle.std.specs.Prelude.{ℕ, zero, suc, List, [], ◌∷◌, ◌++◌, pos}
use Rattle.kripke_model.specs.declared.expressions.Value.{Value}
use Rattle.kripke_model.specs.declared.expressions.Value.TheVariants.{Number}
use Rattle.kripke_model.specs.System.{System}
use Rattle.bit_encode.specs.Rows.{variable, model_with}

-- the numbers below n, in order
unfoldable pub numbers : ℕ → List Value
numbers zero = []
numbers (suc n) = numbers n ++ Number (pos n) ∷ []

-- x : 0..n-1; y : 0..n-1
abbrev pub range_model : ℕ → System
range_model n
    = model_with [] (variable (120 ∷ []) (numbers n) ∷ variable (121 ∷ []) (numbers n) ∷ [])
