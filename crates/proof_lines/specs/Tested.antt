-- Lines that are tested in turn, while those that hold are counted.
use Rattle.std.specs.Prelude.{◌≡◌, ℕ, zero, suc, ◌+◌, Bool, true, false, List, [], ◌∷◌, length, min}
use Rattle.kripke_model.specs.System.{System}
use Rattle.path_laws.specs.StateSet.{StateSet}
use Rattle.fair_rules.specs.SetLists.{nothing, set_at}
use Rattle.fair_rules.specs.Rules.{Layer}
use Rattle.fair_rules.specs.Claims.{both, either, join}
use Rattle.fair_rules.specs.Checks.{Check, AllHold, IsFirstBad, step_lines}

-- the count after one more; it stands still at the last number of 64 bits
abbrev pub next_count : ℕ → ℕ
next_count count = min (count + 1) 18446744073709551615

-- the count after so many more
abbrev pub counted : ℕ → ℕ → ℕ
counted count zero = count
counted count (suc more) = counted (next_count count) more

-- all lines hold, and were counted; or those before the first that fails were
abbrev pub AreTested : System → List (List Check) → ℕ → Bool → ℕ → Type 0
AreTested m lines before true after = AllHold m lines × (after ≡ counted before (length lines))
AreTested m lines before false after = (n : ℕ) × IsFirstBad m lines n × (after ≡ counted before n)

-- ---- one line of a list, where `earlier` has the states of the sets before

abbrev pub layer_line : List StateSet → StateSet → StateSet → StateSet → Layer → List Check
layer_line avoided f out earlier l =
    Check.Inside l.states f
    ∷ Check.Keeps l.states (either out (either earlier (both l.states (set_at avoided l.avoided))))
    ∷ []

abbrev pub step_line : StateSet → StateSet → StateSet → StateSet → List Check
step_line f first earlier set = Check.Inside set f ∷ Check.Leads set (either first earlier) ∷ []

-- the lines of one constraint's reach sets
abbrev pub reach_part : StateSet → StateSet → List StateSet → List (List Check)
reach_part set visit sets
    = (Check.Inside set (join sets) ∷ []) ∷ step_lines set (both set visit) nothing sets
