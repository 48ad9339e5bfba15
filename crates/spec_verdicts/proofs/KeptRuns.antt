-- The sets of a formula over pins that stand for what they stood for, and how many pins are held.
use Rattle.std.proofs.Common.{◌≡◌, ℕ, ◌+◌, ◌*◌, ◌≤◌, true, arith}
use Rattle.std.proofs.Math.Nat.{mul_assoc}
use Rattle.std.proofs.lemmas.Nat.{mul-le}
use Rattle.kripke_model.specs.Ctl.{Ctl}
use Rattle.kripke_model.specs.System.{System, constraint_count}
use Rattle.region_sets.specs.Sets.{Sets, is_one_of, region}
use Rattle.fair_fixpoint.specs.declared.runs.Run.{Run}
use Rattle.fair_fixpoint.specs.Runs.{layer_views, run_slots}
use Rattle.fair_fixpoint.specs.SatSets.{IsRunBy, IsWholeRun, pin_bound}
use Rattle.fair_fixpoint.proofs.FairStates.{fair_states_are}
use Rattle.fair_fixpoint.proofs.FreeTruth.{all_closed}
use Rattle.fair_fixpoint.proofs.Satisfied.{run_kept}
use Rattle.region_sets.specs.Ranks.{list_regions}

pub whole_kept : (m : System) (f : Ctl) (a b : Sets) (run : Run) → ((k : ℕ) → is_one_of k (run_slots run) ≡ true → b.pins k ≡ a.pins k) → IsWholeRun m f a run → IsWholeRun m f b run
whole_kept m f a b run kept whole =
    let h = whole.2 in
    let over : IsRunBy m h.visited whole.0 f b run = run_kept m h.visited whole.0 f a b run kept h.over in (
      whole.0,
      whole.1,
      record {
        visited = h.visited;
        constraints = h.constraints;
        fair = fair_states_are m h.visited whole.0 (layer_views b run.nonfair.items) (region b run.fair) (list_regions b run.reach.items) h.constraints (all_closed m whole.0 whole.1) over.parted;
        over = over;
      },
    )

-- more nodes have more pins
pub pin_bound-more : (m : System) (n k states : ℕ) → pin_bound m n states ≤ pin_bound m (n + k) states
pin_bound-more m n k states =
    let width = (constraint_count m + 2) * states in
    omega (
      arith,
      mul_assoc (4 * (n + 2)) (constraint_count m + 2) states,
      mul_assoc (4 * (n + k + 2)) (constraint_count m + 2) states,
      mul-le (4 * (n + 2)) width (4 * (n + k + 2)) width (omega arith) (omega arith),
    )
