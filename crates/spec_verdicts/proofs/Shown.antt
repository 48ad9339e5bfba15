-- What an outcome shows of the sets that decided it.
use Rattle.std.proofs.Common.{◌≡◌, inl, inr, ℕ, ◌≤◌, List, [], ◌∷◌, length, Option, Some, is_none, IsSomeAnd, refl, sym, subst, arith}
use Rattle.std.specs.Prelude.{IsSome}
use Rattle.std.specs.List.{slice_index_or}
use Rattle.kripke_model.specs.Ctl.{Ctl}
use Rattle.kripke_model.specs.System.{System}
use Rattle.kripke_model.specs.Truth.{Sat}
use Rattle.path_laws.specs.StateSet.{StateSet}
use Rattle.fair_rules.specs.SetLists.{everything}
use Rattle.fair_rules.specs.Split.{IsSplit}
use Rattle.region_sets.specs.Sets.{Sets, region}
use Rattle.region_sets.specs.Ranks.{AreLive}
use Rattle.region_sets.proofs.Calls.{In-at}
use Rattle.fair_fixpoint.specs.declared.runs.NodeRun.{NodeRun}
use Rattle.fair_fixpoint.specs.declared.runs.Run.{Run}
use Rattle.fair_fixpoint.specs.Runs.{run_slots}
use Rattle.fair_fixpoint.specs.SatSets.{IsDecided as IsParted, IsWholeRun, node_of}
use Rattle.proof_form.specs.Form.{Proof}
use Rattle.rank_extract.specs.Extracts.{IsLiveRun, Shows}
use Rattle.rank_extract.specs.Given.{ShowsSets}
use Rattle.smv_texts.specs.Report.{Outcome, True, False, Unknown}
use Rattle.spec_verdicts.specs.Exports.{ClaimsOutcome}
use Rattle.spec_verdicts.specs.Proved.{fails_at}
use Rattle.spec_verdicts.specs.Verdicts.{IsDecided}
use Rattle.spec_verdicts.proofs.KeptRuns.{whole_kept}

-- a run at all states is one in a set that no step leaves
pub live_run : (m : System) (f : Ctl) (a b : Sets) (run : Run) → ((k : ℕ) → b.pins k ≡ a.pins k) → IsWholeRun m f a run → AreLive b (run_slots run) → IsLiveRun m f b run
live_run m f a b run same whole live =
    let kept = whole_kept m f a b run (λ k e. same k) whole in record {
      within = kept.0;
      closed = λ s is inside t next step. kept.1 t next;
      starts = λ s is initial. kept.1 s is;
      run_of = kept.2;
      live = live;
    }

pub all_live : (a b : Sets) (xs : List ℕ) → ((k : ℕ) → b.pins k ≡ a.pins k) → AreLive a xs → AreLive b xs
all_live a b xs same live = λ k e. subst (λ (o : Option StateSet). IsSome o) (sym (same k)) (live k e)

-- the sets of the first node show it
first_shown : (m : System) (f : Ctl) (a b : Sets) (nodes : List NodeRun) (o : Outcome) → ((k : ℕ) → b.pins k ≡ a.pins k) → 1 ≤ length nodes
    → ((d : NodeRun) → IsSplit m everything (region a (slice_index_or nodes 0 d).plus) (region a (slice_index_or nodes 0 d).minus) (Sat m f))
    → IsDecided m f o → ShowsSets m (node_of b nodes 1) (fails_at o)
first_shown m f a b [] o same some split decided = absurd (omega (arith, some))
first_shown m f a b (node ∷ nodes) True same some split decided = λ s state initial. elim ((split node).covers s state refl) [
  | inl in_plus ↦ (In-at a b node.plus.slot s (same node.plus.slot)).1 in_plus
  | inr in_minus ↦ absurd ((split node).negative s state in_minus (decided s state initial))
]
first_shown m f a b (node ∷ nodes) (False s path) same some split decided =
    let fails = decided.0.0 in (
      fails.0,
      fails.1,
      elim ((split node).covers s fails.0 refl) [
        | inl in_plus ↦ absurd (fails.2 ((split node).positive s fails.0 in_plus))
        | inr in_minus ↦ (In-at a b node.minus.slot s (same node.minus.slot)).1 in_minus
      ],
    )
first_shown m f a b (node ∷ nodes) (Unknown limit) same some split decided = absurd decided

pub shown : (m : System) (f : Ctl) (a b : Sets) (run : Run) (o : Outcome) → ((k : ℕ) → b.pins k ≡ a.pins k) → 1 ≤ length run.nodes.items → IsParted m everything f a run
    → IsDecided m f o → Shows m b run (fails_at o)
shown m f a b run o same some parted decided = first_shown m f a b run.nodes.items o same some (λ d. parted d) decided

-- a proof at the state that is shown claims the outcome
pub claims : {A : Type 0} (m : System) (f : Ctl) (o : Outcome) (p : Proof A) → IsDecided m f o → p.claim ≡ is_none (fails_at o) → p.at ≡ fails_at o → ClaimsOutcome o p
claims m f True p decided claim at = claim
claims m f (False s path) p decided claim at = (claim, at)
claims m f (Unknown limit) p decided claim at = absurd decided

pub on_some : {A : Type 0} (P : A → Type 0) (o : Option A) (x : A) → o ≡ Some x → P x → IsSomeAnd o P
on_some P o x is p = subst (λ q. IsSomeAnd q P) (sym is) p
