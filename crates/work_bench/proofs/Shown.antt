-- What the least initial state of a formula's negative set shows.
use Rattle.std.proofs.Common.{◌≡◌, inl, inr, ℕ, ◌≤◌, List, [], ◌∷◌, length, Option, Some, None, IsSomeAnd, refl, sym, subst, arith}
use Rattle.std.specs.List.{slice_index_or}
use Rattle.kripke_model.specs.Ctl.{Ctl}
use Rattle.kripke_model.specs.Order.{IsLeast}
use Rattle.kripke_model.specs.Step.{IsState, Initial}
use Rattle.kripke_model.specs.System.{System, State}
use Rattle.kripke_model.specs.Truth.{Sat}
use Rattle.fair_rules.specs.SetLists.{everything}
use Rattle.fair_rules.specs.Split.{IsSplit}
use Rattle.region_sets.specs.declared.pins.Pin.{Pin}
use Rattle.region_sets.specs.Sets.{Sets, In, region}
use Rattle.region_sets.specs.Ranks.{AreLive}
use Rattle.region_sets.proofs.Calls.{In-at}
use Rattle.fair_fixpoint.specs.declared.runs.NodeRun.{NodeRun}
use Rattle.fair_fixpoint.specs.declared.runs.Run.{Run}
use Rattle.fair_fixpoint.specs.Runs.{run_slots}
use Rattle.fair_fixpoint.specs.SatSets.{IsDecided, IsWholeRun, node_of}
use Rattle.spec_verdicts.proofs.KeptRuns.{whole_kept}
use Rattle.rank_extract.specs.Extracts.{IsLiveRun, Shows}
use Rattle.rank_extract.specs.Given.{ShowsSets}

-- a run at all states is one in a set that no step leaves
pub live_run : (m : System) (f : Ctl) (a b : Sets) (run : Run) → ((k : ℕ) → b.pins k ≡ a.pins k) → IsWholeRun m f a run → AreLive b (run_slots run) → IsLiveRun m f b run
live_run m f a b run same whole live =
    let kept = whole_kept m f a b run (λ k e. same k) whole in record {
      within = kept.0;
      closed = λ s is inside t next step. kept.1 t next;
      starts = λ s is initial. kept.1 s is;
      run_of = kept.2;
      live = live;
    }

-- the same of the first node
first_shown : (m : System) (f : Ctl) (a b : Sets) (nodes : List NodeRun) (pin : Pin) (o : Option State) → ((k : ℕ) → b.pins k ≡ a.pins k)
    → ((d : NodeRun) → pin ≡ (slice_index_or nodes 0 d).minus) → 1 ≤ length nodes
    → ((d : NodeRun) → IsSplit m everything (region a (slice_index_or nodes 0 d).plus) (region a (slice_index_or nodes 0 d).minus) (Sat m f))
    → IsLeast m (λ s. (IsState m s × Initial m s) × In a pin.slot s) o → ShowsSets m (node_of b nodes 1) o
first_shown m f a b [] pin o same is some split least = absurd (omega (arith, some))
first_shown m f a b (node ∷ nodes) pin None same is some split least = λ s state initial. elim ((split node).covers s state refl) [
  | inl in_plus ↦ (In-at a b node.plus.slot s (same node.plus.slot)).1 in_plus
  | inr in_minus ↦ absurd (least s ((state, initial), subst (λ (q : Pin). In a q.slot s) (sym (is node)) in_minus))
]
first_shown m f a b (node ∷ nodes) pin (Some s) same is some split least =
    (least.0.0.0, least.0.0.1, (In-at a b node.minus.slot s (same node.minus.slot)).1 (subst (λ (q : Pin). In a q.slot s) (is node) least.0.1))

-- the least initial state where a formula is false is shown, and where there is none its positive set has each initial state
pub shown : (m : System) (f : Ctl) (a b : Sets) (run : Run) (pin : Pin) (o : Option State) → m ≡ a.over → ((k : ℕ) → b.pins k ≡ a.pins k)
    → ((d : NodeRun) → pin ≡ (slice_index_or run.nodes.items 0 d).minus) → 1 ≤ length run.nodes.items → IsDecided m everything f a run
    → IsLeast a.over (λ s. (IsState a.over s × Initial a.over s) × In a pin.slot s) o → Shows m b run o
shown m f a b run pin o over same is some decided least =
    first_shown m f a b run.nodes.items pin o same is some (λ d. decided d)
    (subst (λ x. IsLeast x (λ s. (IsState x s × Initial x s) × In a pin.slot s) o) (sym over) least)

pub on_some : {A : Type 0} (P : A → Type 0) (o : Option A) (x : A) → o ≡ Some x → P x → IsSomeAnd o P
on_some P o x is p = subst (λ q. IsSomeAnd q P) (sym is) p
