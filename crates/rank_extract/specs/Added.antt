-- What the calls that write entries add to a list, by the pins and the nodes of a run.
use Rattle.std.specs.Prelude.{ℕ, Bool, List, Result}
use Rattle.kripke_model.specs.Ctl.{Ctl}
use Rattle.path_laws.specs.StateSet.{StateSet}
use Rattle.region_sets.specs.declared.pins.Pin.{Pin}
use Rattle.region_sets.specs.declared.pins.SetRefusal.{SetRefusal}
use Rattle.region_sets.specs.Sets.{Sets, region}
use Rattle.fair_fixpoint.specs.SatSets.{node_of}
use Rattle.fair_fixpoint.specs.declared.runs.NodeRun.{NodeRun}
use Rattle.proof_form.specs.Form.{Entry}
use Rattle.rank_extract.specs.Given.{wanted}
use Rattle.rank_extract.specs.Made.{AreAdded, entry_own, entry_seen, entry_size}

-- so many entries were added
abbrev pub AddsEntries : {T : Type 0} → Sets → Sets → List (Entry StateSet)
    → List (Entry Pin) → List (Entry Pin) → Result T SetRefusal → Type 0
AddsEntries before after vs old new result =
    AreAdded entry_own entry_seen entry_size before after vs old new result

-- the entries that are wanted of a formula, as the pins stand
abbrev pub wanted_of : Sets → Pin → List NodeRun → Ctl → ℕ → Bool → Bool → List (Entry StateSet)
wanted_of sets fair nodes f n plus minus =
    wanted (region sets fair) (node_of sets nodes) f n plus minus
