-- What a proof of delays shows with the sets of two expressions.
use Rattle.std.proofs.Common.{◌≡◌, ℕ, ◌-◌, Bool, true, refl, sym, ap, subst}
use Rattle.std.specs.Prelude.{IsTrue, ◌↔◌}
use Rattle.kripke_model.specs.Term.{Term}
use Rattle.kripke_model.specs.Evaluation.{Holds}
use Rattle.kripke_model.specs.System.{System, State}
use Rattle.kripke_model.specs.Step.{IsState}
use Rattle.region_sets.specs.declared.pins.Pin.{Pin}
use Rattle.region_sets.specs.Sets.{Sets, In, Stands, is_one_of, region}
use Rattle.region_sets.specs.Ranks.{slots}
use Rattle.region_sets.proofs.Slots.{is_one_of-left, is_one_of-right}
use Rattle.region_sets.proofs.Released.{slots-append}
use Rattle.region_sets.proofs.Calls.{In-at}
use Rattle.std.proofs.lemmas.List.{length-map}
use Rattle.delay_bounds.specs.Delays as delays
use Rattle.state_reach.specs.States.{HoldsAt}
use Rattle.delay_bounds.specs.Form.{Shortest, Longest, DelayProof, longest_delay, longest_sets, shortest_delay, shortest_sets}
use Rattle.delay_bounds.specs.Pinned.{over_longest, over_shortest, proof_slots}
use Rattle.delay_bounds.specs.Shows.{ShowsLongest, ShowsShortest}
use Rattle.delay_bounds.proofs.Alike.{AreAlike, alike_back, longest_alike, shortest_alike}
use Rattle.delay_bounds.proofs.Later.{over_longest_same, over_shortest_same}

-- both delays are shown
abbrev pub AreShown : System → (State → Type 0) → (State → Type 0) → Sets → DelayProof Pin → Type 0
AreShown m P Q now x = ShowsShortest m P Q (over_shortest now x.shortest) × ShowsLongest m P Q (over_longest now x.longest)

-- the slots of the two parts are those of the proof
pub of_shortest : (x : DelayProof Pin) (k : ℕ) → is_one_of k (slots (shortest_sets x.shortest)) ≡ true → is_one_of k (proof_slots x) ≡ true
of_shortest x k e = subst (λ ks. is_one_of k ks ≡ true) (sym (slots-append (shortest_sets x.shortest) (longest_sets x.longest))) (is_one_of-left k (slots (shortest_sets x.shortest)) (slots (longest_sets x.longest)) e)

pub of_longest : (x : DelayProof Pin) (k : ℕ) → is_one_of k (slots (longest_sets x.longest)) ≡ true → is_one_of k (proof_slots x) ≡ true
of_longest x k e = subst (λ ks. is_one_of k ks ≡ true) (sym (slots-append (shortest_sets x.shortest) (longest_sets x.longest))) (is_one_of-right k (slots (shortest_sets x.shortest)) (slots (longest_sets x.longest)) e)

-- of properties that are the same, by pins that stand for the same
pub shown_alike : (m : System) (P P' Q Q' : State → Type 0) → AreAlike m P P' → AreAlike m Q Q' → (a b : Sets) (x : DelayProof Pin) → ((k : ℕ) → is_one_of k (proof_slots x) ≡ true → b.pins k ≡ a.pins k)
    → AreShown m P Q b x → AreShown m P' Q' a x
shown_alike m P P' Q Q' starts goals a b x same h = (
  subst (ShowsShortest m P' Q') (over_shortest_same a b x.shortest (λ k e. same k (of_shortest x k e))) (shortest_alike m P P' Q Q' starts goals (over_shortest b x.shortest) h.0),
  subst (ShowsLongest m P' Q') (over_longest_same a b x.longest (λ k e. same k (of_longest x k e))) (longest_alike m P P' Q Q' starts goals (over_longest b x.longest) h.1),
)

pub shown_answer : (m : System) (P P' Q Q' : State → Type 0) → AreAlike m P P' → AreAlike m Q Q' → (a b : Sets) (x : DelayProof Pin) (truth : Bool) → ((k : ℕ) → is_one_of k (proof_slots x) ≡ true → b.pins k ≡ a.pins k)
    → IsTrue truth ↔ AreShown m P Q b x → IsTrue truth ↔ AreShown m P' Q' a x
shown_answer m P P' Q Q' starts goals a b x truth same answer = (
  λ e. shown_alike m P P' Q Q' starts goals a b x same (answer.0 e),
  λ h. answer.1 (shown_alike m P' P Q' Q (alike_back m P P' starts) (alike_back m Q Q' goals) b a x (λ k e. sym (same k e)) h),
)

-- a pin of the states where an expression is 1
pub leaf_alike : (m : System) (s0 s1 : Sets) (k : ℕ) (e : Term) → s0.over ≡ m → Stands s1 k (λ s. IsState s0.over s × Holds s0.over e s s) → AreAlike m (In s1 k) (HoldsAt m e)
leaf_alike m s0 s1 k e over g s is_state =
    let here : In s1 k s ↔ (IsState m s × Holds m e s s) = subst (λ n. In s1 k s ↔ (IsState n s × Holds n e s s)) over (g s) in (
      λ h. (here.0 h).1,
      λ h. here.1 (is_state, h),
    )

-- a pin that stands for what it stood for
pub pin_alike : (m : System) (a b : Sets) (k : ℕ) → b.pins k ≡ a.pins k → AreAlike m (In b k) (In a k)
pin_alike m a b k same s is_state = In-at a b k s same

-- the delays that are claimed are the same
pub claims_shortest : (now : Sets) (x : Shortest Pin) → shortest_delay (over_shortest now x) ≡ shortest_delay x
claims_shortest now (Shortest.NoStart inside) = refl
claims_shortest now (Shortest.Never inside back way) = refl
claims_shortest now (Shortest.Steps inside back way start) = ap delays.Steps (length-map back (region now))

pub claims_longest : (now : Sets) (x : Longest Pin) → longest_delay (over_longest now x) ≡ longest_delay x
claims_longest now (Longest.NoStart inside) = refl
claims_longest now (Longest.Endless lasso start) = refl
claims_longest now (Longest.Steps inside stay way start) = ap (λ n. delays.Steps (n - 1)) (length-map stay (region now))
