-- The constants of types, and the names that they need.
use Rattle.std.specs.Prelude.{ℕ, List, map, IsTrue, All}
use Rattle.std.specs.List.{list_any}
use Rattle.std.specs.Str.{bytes_eq}
use Rattle.kripke_model.specs.declared.expressions.Value.{Value}
use Rattle.kripke_model.specs.System.{Variable}
use Rattle.smv_instances.specs.Program.{Name, Constant, Plain}

-- the names have the constant, if it is an atom
abbrev pub IsNamed : List Name → Constant → Type 0
IsNamed names (Constant.Atom x) = IsTrue (list_any (bytes_eq x) names)
IsNamed names (Constant.Digits n) = Unit {0}
IsNamed names (Constant.Truth b) = Unit {0}

-- they have those of the type, or of an array's elements
abbrev pub AreNamed : List Name → Plain → Type 0
AreNamed names Plain.Boolean = Unit {0}
AreNamed names (Plain.Enumeration constants) = All (IsNamed names) constants
AreNamed names (Plain.Range low high) = Unit {0}
AreNamed names (Plain.Array low high element) = AreNamed names element

-- a variable of each name, all with the same values and line
abbrev pub variables_named : List Name → List Value → ℕ → List Variable
variables_named names values line
    = map (λ x. record { name = x; values = values; line = line }) names
