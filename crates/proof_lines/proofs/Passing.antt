-- Lists of sets whose lines are tested in turn, each with the states of those before it.
use Rattle.std.proofs.Common.{◌≡◌, ℕ, suc, ◌+◌, ◌<◌, ◌≤◌, Bool, true, false, List, [], ◌∷◌, length, get_or, drop, Result, Ok, refl, sym, ◌∙◌, ap, subst, arith}
use Rattle.std.specs.Prelude.{All, ◌⊎◌}
use Rattle.kripke_model.specs.System.{System}
use Rattle.path_laws.specs.StateSet.{StateSet}
use Rattle.region_sets.specs.declared.pins.Pin.{Pin}
use Rattle.region_sets.specs.declared.pins.SetRefusal.{SetRefusal}
use Rattle.region_sets.specs.Sets.{Sets, Adds, In, IsCall, IsLive, Stands, has_state, region}
use Rattle.region_sets.proofs.Changes.{adds_after}
use Rattle.region_sets.proofs.Calls.{holds_more, let_go, reorders, then_call}
use Rattle.fair_rules.specs.Claims.{either}
use Rattle.fair_rules.specs.Checks.{Check, IsMet}
use Rattle.proof_lines.specs.Tested.{AreTested, next_count}
use Rattle.proof_lines.proofs.Counting.{none_tested, one_holds, one_fails}
use Rattle.claim_sets.proofs.Joined.{drop_at, drop_all, joined_call, joined_region}

-- how the lines of a list are made: each item has one, by the states of those before it
pub record AreLinesBy {X : Type 0} (set : X → StateSet) (line : StateSet → X → List Check) (lines : StateSet → List X → List (List Check)) : Type 0 where
  pub no_items : (e : StateSet) → lines e [] ≡ []
  pub one_more : (e : StateSet) (x : X) (xs : List X) → lines e (x ∷ xs) ≡ line e x ∷ lines (either e (set x)) xs

-- what is left to be tested tells of the whole list; `earlier` has the states that were gone through
pub record IsPassing {X : Type 0} (m : System) (lines : StateSet → List X → List (List Check)) (begun : StateSet) (items : List X) (first k now : ℕ) (earlier : StateSet) : Type 0 where
  pub rest : (good : Bool) (after : ℕ) → AreTested m (lines earlier (drop k items)) now good after → AreTested m (lines begun items) first good after

module _ {X : Type 0} (m : System) (set : X → StateSet) (line : StateSet → X → List Check) (lines : StateSet → List X → List (List Check)) (by : AreLinesBy set line lines) where
  pub passing_none : (begun : StateSet) (items : List X) (now : ℕ) (earlier : StateSet) → earlier ≡ begun → IsPassing m lines begun items now 0 now earlier
  passing_none begun items now earlier e = record { rest = λ good after t. subst (λ F. AreTested m (lines F items) now good after) e t }

  cut : (items : List X) (k : ℕ) (d : X) (e : StateSet) → k < length items → lines e (drop k items) ≡ line e (get_or items k d) ∷ lines (either e (set (get_or items k d))) (drop (suc k) items)
  cut items k d e less = ap (lines e) (drop_at items k d less) ∙ by.one_more e (get_or items k d) (drop (suc k) items)

  pub passing_more : (begun : StateSet) (items : List X) (first k now next : ℕ) (d : X) (earlier more : StateSet) → k < length items → IsPassing m lines begun items first k now earlier
      → All (IsMet m) (line earlier (get_or items k d)) → next ≡ next_count now → more ≡ either earlier (set (get_or items k d))
      → IsPassing m lines begun items first (k + 1) next more
  passing_more begun items first k now next d earlier more less h holds counts grown = record {
    rest = λ good after t. h.rest good after (subst (λ (ls : List (List Check)). AreTested m ls now good after) (sym (cut items k d earlier less))
        (one_holds m (line earlier (get_or items k d)) (lines (either earlier (set (get_or items k d))) (drop (suc k) items)) now next good after holds counts
        (subst (λ F. AreTested m (lines F (drop (suc k) items)) next good after) grown (subst (λ n. AreTested m (lines more (drop n items)) next good after) at t))));
  }
    where
      at : k + 1 ≡ suc k
      at = omega arith

  pub passing_fails : (begun : StateSet) (items : List X) (first k now : ℕ) (d : X) (earlier : StateSet) → k < length items → IsPassing m lines begun items first k now earlier
      → (All (IsMet m) (line earlier (get_or items k d)) → ⊥) → AreTested m (lines begun items) first false now
  passing_fails begun items first k now d earlier less h fails =
      h.rest false now (subst (λ (ls : List (List Check)). AreTested m ls now false now) (sym (cut items k d earlier less))
      (one_fails m (line earlier (get_or items k d)) (lines (either earlier (set (get_or items k d))) (drop (suc k) items)) now fails))

  pub passing_all : (begun : StateSet) (items : List X) (first k now : ℕ) (earlier : StateSet) → length items ≤ k → IsPassing m lines begun items first k now earlier
      → AreTested m (lines begun items) first true now
  passing_all begun items first k now earlier end h =
      h.rest true now (subst (λ (ls : List (List Check)). AreTested m ls now true now) (sym (ap (lines earlier) (drop_all items k end) ∙ by.no_items earlier)) (none_tested m now))

-- ---- in a loop that keeps the states that were gone through in a pin

pub record IsGoing {X : Type 0} (h : ℕ) (start now : Sets) (lines : StateSet → List X → List (List Check)) (begun : StateSet) (items : List X) (first k line : ℕ) (earlier : Pin) : Type 0 where
  pub call : IsCall h start now (earlier.slot ∷ []) (Ok earlier)
  pub passing : IsPassing start.over lines begun items first k line (region now earlier)

module _ {X : Type 0} (h : ℕ) (start : Sets) (set : X → StateSet) (line : StateSet → X → List Check) (lines : StateSet → List X → List (List Check)) (by : AreLinesBy set line lines)
    (begun : StateSet) (items : List X) (first : ℕ) where
  pub going_none : (now : Sets) (earlier : Pin) → 1 ≤ h → IsCall 1 start now (earlier.slot ∷ []) (Ok earlier) → region now earlier ≡ begun → IsGoing h start now lines begun items first 0 first earlier
  going_none now earlier big call e = record {
    call = holds_more h big call;
    passing = passing_none start.over set line lines by begun items first (region now earlier) e;
  }

  pub going_more : (now tested after last : Sets) (k counted next : ℕ) (d : X) (earlier p more : Pin) → 2 ≤ h → k < length items → IsGoing h start now lines begun items first k counted earlier
      → Adds now tested [] → IsCall h start tested (earlier.slot ∷ []) (Ok earlier)
      → All (IsMet start.over) (line (region now earlier) (get_or items k d)) → next ≡ next_count counted
      → IsLive start p.slot → region start p ≡ set (get_or items k d)
      → IsCall 1 tested after (more.slot ∷ []) (Ok more) → Stands after more.slot (λ s. In tested earlier.slot s ⊎ In tested p.slot s) → Adds last after (earlier.slot ∷ []) → last.fulls ≡ after.fulls
      → IsGoing h start last lines begun items first (k + 1) next more
  going_more now tested after last k counted next d earlier p more big less go same call holds counts live is join stands gone fulls =
      let grown : region last more ≡ either (region now earlier) (set (get_or items k d)) =
      joined_region h start tested after last earlier p more call live join stands gone
      ∙ (λ i. either (has_state (same.kept earlier.slot refl i)) (is i)) in
      record {
        call = joined_call h start tested after last earlier (Ok more) (Ok earlier) big call join gone fulls;
        passing = passing_more start.over set line lines by begun items first k counted next d (region now earlier) (region last more) less go.passing holds counts grown;
      }

  -- how such a loop ends before its time, and at its end
  pub going_stops : {T : Type 0} (now tested last : Sets) (k counted : ℕ) (earlier : Pin) (r : Result T SetRefusal) → IsGoing h start now lines begun items first k counted earlier
      → IsCall h start tested (earlier.slot ∷ []) r → Adds last tested (earlier.slot ∷ []) → last.fulls ≡ tested.fulls → IsCall h start last [] r
  going_stops now tested last k counted earlier r go call gone fulls = let_go call gone fulls

  pub going_fails : (now : Sets) (k counted : ℕ) (d : X) (earlier : Pin) → k < length items → IsGoing h start now lines begun items first k counted earlier
      → (All (IsMet start.over) (line (region now earlier) (get_or items k d)) → ⊥) → AreTested start.over (lines begun items) first false counted
  going_fails now k counted d earlier less go fails = passing_fails start.over set line lines by begun items first k counted d (region now earlier) less go.passing fails

  pub going_all : (now : Sets) (k counted : ℕ) (earlier : Pin) → length items ≤ k → IsGoing h start now lines begun items first k counted earlier → AreTested start.over (lines begun items) first true counted
  going_all now k counted earlier end go = passing_all start.over set line lines by begun items first k counted (region now earlier) end go.passing

-- a test within the loop, which leaves no pin
pub going_call : {T U : Type 0} (h n : ℕ) (start now tested : Sets) (earlier : Pin) (q : Result T SetRefusal) (r : Result U SetRefusal) → n + 1 ≤ h
    → IsCall h start now (earlier.slot ∷ []) q → IsCall n now tested [] r → IsCall h start tested (earlier.slot ∷ []) r
going_call h n start now tested earlier q r big call test = reorders (then_call h call test (omega (arith, big)) (omega (arith, big))) (adds_after call.pins test.pins)

pub to_ok : {T U : Type 0} {h : ℕ} {a b : Sets} {xs : List ℕ} {r : Result T SetRefusal} (x : U) → IsCall h a b xs r → IsCall h {T = U} a b xs (Ok x)
to_ok x call = record { pins = call.pins; refusal = tt; fulls = call.fulls; spare = call.spare }
