-- The parts of a proof that is made of a run, and what holds their pins.
use Rattle.std.specs.Prelude.{ℕ, ◌+◌, List, ◌++◌, length, Option, None, is_none, is_some}
use Rattle.kripke_model.specs.Ctl.{Ctl}
use Rattle.kripke_model.specs.System.{State}
use Rattle.path_laws.specs.StateSet.{StateSet}
use Rattle.region_sets.specs.declared.pins.Pin.{Pin}
use Rattle.region_sets.specs.Sets.{Sets, region}
use Rattle.region_sets.specs.Ranks.{slots, list_regions}
use Rattle.fair_fixpoint.specs.declared.runs.Run.{Run}
use Rattle.fair_fixpoint.specs.SatSets.{node_of}
use Rattle.proof_form.specs.Form.{FairPart, Entry, Proof, layer_sets, fair_sets, entries_sets, sets_of}
use Rattle.rank_extract.specs.declared.written.Behind.{Behind}
use Rattle.rank_extract.specs.declared.written.MainPart.{MainPart}
use Rattle.rank_extract.specs.Given.{wanted}
use Rattle.rank_extract.specs.Made.{total, fair_of, fair_seen, fair_size, layers_seen, entries_seen, entry_size}

-- ---- the fair part and the entries

abbrev pub behind_sets : Behind → List Pin
behind_sets behind = fair_sets behind.fair ++ entries_sets behind.entries.items

abbrev pub behind_own : Behind → List ℕ
behind_own behind = slots (behind_sets behind)

abbrev pub behind_seen : Sets → Behind → FairPart StateSet × List (Entry StateSet)
behind_seen sets behind = (fair_seen sets behind.fair, entries_seen sets behind.entries)

abbrev pub behind_size : FairPart StateSet × List (Entry StateSet) → ℕ
behind_size v = fair_size v.0 + total entry_size v.1

-- as they are written of a run
abbrev pub run_behind : Ctl → Sets → Run → Option State → FairPart StateSet × List (Entry StateSet)
run_behind f now run st = (
  fair_of (region now run.fair) (list_regions now run.reach.items),
  wanted (region now run.fair) (node_of now run.nodes.items) f 1 (is_none st) (is_some st),
)

-- ---- with the layers

abbrev pub main_sets : MainPart → List Pin
main_sets main
    = layer_sets main.nonfair.items ++ (fair_sets main.fair ++ entries_sets main.entries.items)

abbrev pub main_own : MainPart → List ℕ
main_own main = slots (main_sets main)

-- the proof without a free part, of the claim at the state
abbrev pub main_seen : Option State → Sets → MainPart → Proof StateSet
main_seen st sets main = record {
  claim = is_none st;
  free = None;
  nonfair = layers_seen sets main.nonfair;
  fair = fair_seen sets main.fair;
  entries = entries_seen sets main.entries;
  at = st;
}

abbrev pub main_size : Proof StateSet → ℕ
main_size p = length (sets_of p)
