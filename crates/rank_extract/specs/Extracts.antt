-- The sets of a formula, and what they show of the initial states.
use Rattle.std.specs.Prelude.{Option}
use Rattle.kripke_model.specs.Ctl.{Ctl}
use Rattle.kripke_model.specs.System.{System, State}
use Rattle.kripke_model.specs.Step.{IsState, Initial}
use Rattle.path_laws.specs.StateSet.{StateSet, ◌∈◌}
use Rattle.fair_rules.specs.Fixpoints.{IsClosed}
use Rattle.region_sets.specs.Sets.{Sets, region}
use Rattle.region_sets.specs.Ranks.{AreLive, list_regions}
use Rattle.fair_fixpoint.specs.declared.runs.Run.{Run}
use Rattle.fair_fixpoint.specs.Runs.{layer_views, run_slots}
use Rattle.fair_fixpoint.specs.SatSets.{IsRun, node_of}
use Rattle.proof_form.specs.Form.{FreePart, Proof}
use Rattle.rank_extract.specs.Given.{ShowsSets, written_proof}

-- the run is of the formula, in a set that no step leaves and that has the initial states, and its pins are live
pub record IsLiveRun (m : System) (f : Ctl) (now : Sets) (run : Run) : Type 0 where
  pub within : StateSet
  pub closed : IsClosed m within
  pub starts : (s : State) → IsState m s → Initial m s → s ∈ within
  pub run_of : IsRun m within f now run
  pub live : AreLive now (run_slots run)

-- without a state, every initial state is in the first node's positive set; a state is an initial one in its negative set
abbrev pub Shows : System → Sets → Run → Option State → Type 0
Shows m now run at = ShowsSets m (node_of now run.nodes.items 1) at

-- the proof that is written of a run
abbrev pub run_proof : Ctl → Sets → Run → Option State → Option (FreePart StateSet) → Proof StateSet
run_proof f now run st free
    = written_proof f (region now run.fair) (layer_views now run.nonfair.items)
    (list_regions now run.reach.items) (node_of now run.nodes.items) st free
