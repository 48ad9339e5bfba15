-- What is written of a run proves what the run shows.
use Rattle.std.specs.Prelude.{ℕ, ◌<◌, true, false, List, length, map, slice_index_or, Option, None, Some}
use Rattle.kripke_model.specs.Ctl.{Ctl, formula_of}
use Rattle.kripke_model.specs.Leaves.{HasLeafConstraints}
use Rattle.kripke_model.specs.Step.{IsState}
use Rattle.kripke_model.specs.System.{System, State, Condition}
use Rattle.kripke_model.specs.Truth.{FreeSat}
use Rattle.path_laws.specs.StateSet.{StateSet, ◌∈◌}
use Rattle.region_sets.specs.Sets.{Sets}
use Rattle.fair_rules.specs.Claims.{claimed}
use Rattle.fair_rules.specs.Checks.{AllHold}
use Rattle.fair_fixpoint.specs.declared.runs.Run.{Run}
use Rattle.fair_fixpoint.specs.ConstraintSets.{IsWhole}
use Rattle.fair_fixpoint.specs.Pruned.{IsPrunedTo}
use Rattle.fair_fixpoint.specs.Runs.{LayerView}
use Rattle.proof_form.specs.Form.{Entry, FreePart}
use Rattle.proof_form.specs.Meaning.{free_lines, free_proof, IsProofOf}
use Rattle.proof_form.specs.Shape.{FitsFreely}
use Rattle.rank_extract.specs.FreeMade.{AreWrittenFor, written_free}
use Rattle.rank_extract.specs.Extracts.{IsLiveRun, Shows, run_proof}

-- the free part shows what it has to, and claims each constraint true wherever it is true over all paths, and false
-- wherever it is false
pub record IsWholeFree (m : System) (free : Option (FreePart StateSet)) : Type 0 where
  pub fits : FitsFreely m free
  pub lines : AllHold m (free_lines m free)
  pub true_there : (k : ℕ) (c : Condition) → k < length m.constraints → (s : State) → IsState m s
      → FreeSat m (formula_of (slice_index_or m.constraints k c).expr) s
      → s ∈ claimed m (free_proof free k)
      (formula_of (slice_index_or m.constraints k c).expr) 1 true
  pub false_there : (k : ℕ) (c : Condition) → k < length m.constraints → (s : State) → IsState m s
      → (FreeSat m (formula_of (slice_index_or m.constraints k c).expr) s → ⊥)
      → s ∈ claimed m (free_proof free k)
      (formula_of (slice_index_or m.constraints k c).expr) 1 false

-- with such a free part, what is written of a run is a proof of what the run shows
abbrev pub RunsProve : System → Type 0
RunsProve m = (f : Ctl) (now : Sets) (run : Run) → IsLiveRun m f now run → (st : Option State)
    → Shows m now run st
    → (free : Option (FreePart StateSet)) → IsWholeFree m free
    → IsProofOf m f (run_proof f now run st free)

-- and without one where the constraints hold no path operators
abbrev pub LeafRunsProve : System → Type 0
LeafRunsProve m
    = HasLeafConstraints m → (f : Ctl) (now : Sets) (run : Run) → IsLiveRun m f now run
    → (st : Option State)
    → Shows m now run st → IsProofOf m f (run_proof f now run st None)

-- what is written for the constraints' formulas, where all states are looked at and one constraint is visited, which each
-- state meets, is such a free part
abbrev pub FreePartsProve : System → Type 0
FreePartsProve m
    = (HasLeafConstraints m → ⊥) → (visited : List StateSet) → IsWhole m visited
    → (Z fair : StateSet) (layers : List LayerView) (reaches : List (List StateSet))
    → ((s : State) → IsState m s → s ∈ Z) → IsPrunedTo m visited Z layers fair reaches
    → (parts : List (List (Entry StateSet)))
    → AreWrittenFor m visited Z fair (map (λ c. formula_of c.expr) m.constraints) parts
    → IsWholeFree m (Some (written_free fair layers reaches parts))
