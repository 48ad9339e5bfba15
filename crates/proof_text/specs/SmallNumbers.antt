-- Models whose numbers are those of a program.
use Rattle.std.specs.Prelude.{◌≤◌, All, pos, negsuc}
use Rattle.kripke_model.specs.declared.expressions.Value.{Value}
use Rattle.kripke_model.specs.declared.expressions.Value.TheVariants.{Number, Symbol}
use Rattle.kripke_model.specs.System.{System}

-- from -2147483648 to 2147483647
abbrev pub IsSmallValue : Value → Type 0
IsSmallValue (Number (pos n)) = n ≤ 2147483647
IsSmallValue (Number (negsuc n)) = n ≤ 2147483647
IsSmallValue (Symbol c) = Unit {0}

-- each number that a variable may have is one of 32 bits
abbrev pub HasSmallNumbers : System → Type 0
HasSmallNumbers m = All (λ v. All IsSmallValue v.values) m.vars
