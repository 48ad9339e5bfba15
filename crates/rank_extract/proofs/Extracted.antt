-- A run gives a proof of what it shows.
use Rattle.std.proofs.Common.{ℕ, ◌<◌, true, false, Option, None, length, get_or}
use Rattle.kripke_model.specs.Ctl.{Ctl, formula_of}
use Rattle.kripke_model.specs.Leaves.{HasLeafConstraints}
use Rattle.kripke_model.specs.Step.{IsState}
use Rattle.kripke_model.specs.System.{System, State, Condition}
use Rattle.kripke_model.specs.Truth.{FreeSat}
use Rattle.path_laws.specs.StateSet.{StateSet, ◌∈◌}
use Rattle.region_sets.specs.Sets.{Sets, region}
use Rattle.region_sets.specs.Ranks.{list_regions}
use Rattle.fair_rules.specs.Claims.{claimed}
use Rattle.fair_rules.specs.Checks.{AllHold}
use Rattle.fair_fixpoint.specs.declared.runs.Run.{Run}
use Rattle.fair_fixpoint.specs.Runs.{layer_views}
use Rattle.fair_fixpoint.specs.SatSets.{node_of}
use Rattle.proof_form.specs.Form.{FreePart}
use Rattle.proof_form.specs.Meaning.{free_proof, free_lines, IsProofOf}
use Rattle.proof_form.specs.Shape.{FitsFreely}
use Rattle.rank_extract.specs.Extracts.{IsLiveRun, Shows, run_proof}
use Rattle.rank_extract.proofs.ConstraintCover.{no_more, visits_covered, avoids_covered}
use Rattle.rank_extract.proofs.LeafCover.{constraint_true, constraint_false}
use Rattle.rank_extract.proofs.Lines.{no_lines}
use Rattle.rank_extract.proofs.Proves.{written_proves}

module _ (m : System) (f : Ctl) (now : Sets) (run : Run) (live : IsLiveRun m f now run) (st : Option State) (shown : Shows m now run st) where
  -- by a free part whose lines hold, and which claims each constraint's formula true where it is true, and false where it is false
  pub free_proves : (free : Option (FreePart StateSet)) → FitsFreely m free → AllHold m (free_lines m free)
      → ((k : ℕ) (c : Condition) → k < length m.constraints → (s : State) → IsState m s
      → FreeSat m (formula_of (get_or m.constraints k c).expr) s → s ∈ claimed m (free_proof free k) (formula_of (get_or m.constraints k c).expr) 1 true)
      → ((k : ℕ) (c : Condition) → k < length m.constraints → (s : State) → IsState m s
      → (FreeSat m (formula_of (get_or m.constraints k c).expr) s → ⊥) → s ∈ claimed m (free_proof free k) (formula_of (get_or m.constraints k c).expr) 1 false)
      → IsProofOf m f (run_proof f now run st free)
  free_proves free fits hold true_there false_there =
      let r = live.run_of in
      written_proves m f r.visited live.within (region now run.fair) (layer_views now run.nonfair.items) (list_regions now run.reach.items) (node_of now run.nodes.items)
      r.constraints live.closed r.over.parted r.over.nodes.computed st free
      (no_more m (free_proof free) r.visited r.constraints true_there false_there)
      (visits_covered m (free_proof free) r.visited r.constraints true_there false_there)
      (avoids_covered m (free_proof free) r.visited r.constraints true_there false_there)
      fits hold shown

  -- without one where the constraints hold no path operators
  pub leaf_proves : HasLeafConstraints m → IsProofOf m f (run_proof f now run st None)
  leaf_proves leaves = free_proves None leaves (no_lines m)
      (λ k c lt s is_state h. constraint_true m (free_proof None k) leaves k c lt s h)
      (λ k c lt s is_state h. constraint_false m (free_proof None k) leaves k c lt s h)
