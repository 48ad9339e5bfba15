-- What is found of a list of lines.
use Rattle.std.specs.Prelude.{ℕ, false, List, Option, Some, None}
use Rattle.kripke_model.specs.System.{System}
use Rattle.fair_rules.specs.Checks.{Check, AllHold}
use Rattle.proof_lines.specs.Tested.{AreTested}

-- none where all lines hold, else the count of those before the first that fails
abbrev pub IsFound : System → List (List Check) → Option ℕ → Type 0
IsFound m lines None = AllHold m lines
IsFound m lines (Some count) = AreTested m lines 0 false count
