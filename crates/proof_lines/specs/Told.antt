-- What a test tells of the sets, and the lines that two tests share.
use Rattle.std.specs.Prelude.{◌↔◌, Bool, true, List, [], ◌∷◌, All, IsTrue, map}
use Rattle.kripke_model.specs.System.{System}
use Rattle.region_sets.specs.declared.pins.Pin.{Pin}
use Rattle.region_sets.specs.Sets.{Sets, region}
use Rattle.region_sets.specs.Ranks.{regions}
use Rattle.fair_rules.specs.Checks.{Check, IsMet, reach_lines, until_lines}
use Rattle.fair_rules.specs.Claims.{both}
use Rattle.proof_form.specs.Form.{FairPart}
use Rattle.claim_sets.specs.declared.constraint_pins.Constraints.{Constraints}
use Rattle.claim_sets.specs.ConstraintClaims.{constraint_list}

-- whether the check is met
abbrev pub Tells : System → Check → Bool → Type 0
Tells m check good = IsTrue good ↔ IsMet m check

-- whether each of them is
abbrev pub TellsAll : System → List Check → Bool → Type 0
TellsAll m checks good = IsTrue good ↔ All (IsMet m) checks

-- ---- the two parts of a release, each with its first line

-- its fair set lies in `last`, and leads to each constraint
abbrev pub fair_lines : Sets → Constraints → Pin → FairPart Pin → List (List Check)
fair_lines sets constraints last fair =
    [] ∷ (Check.Inside (region sets fair.inside) (region sets last) ∷ [])
    ∷ reach_lines (region sets fair.inside) (constraint_list sets constraints true)
    (map (map (region sets)) fair.reach)

-- its other sets lead through `last` to where `first` holds too and a fair path begins
abbrev pub release_lines : Sets → Pin → Pin → Pin → List Pin → List (List Check)
release_lines sets fair first last list =
    [] ∷ until_lines (region sets last)
    (both (region sets first) (both (region sets last) (region sets fair))) (regions sets list)
