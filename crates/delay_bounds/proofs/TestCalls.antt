-- What the tests of the parts of a proof give.
use Rattle.std.proofs.Common.{◌≡◌, ℕ, zero, suc, ◌-◌, ◌<◌, Bool, true, Option, List, [], ◌∷◌, map, length, refl, sym, ◌∙◌, ap, subst, arith}
use Rattle.std.specs.Prelude.{IsTrue, ◌↔◌}
use Rattle.kripke_model.specs.System.{System, State}
use Rattle.kripke_model.specs.Step.{IsState}
use Rattle.path_laws.specs.StateSet.{StateSet, ◌∈◌}
use Rattle.region_sets.specs.declared.pins.Pin.{Pin}
use Rattle.region_sets.specs.Sets.{Sets, Adds, In, IsLive, Stands, has_state, region}
use Rattle.region_sets.specs.Ranks.{slots, regions, AreLive}
use Rattle.region_sets.proofs.Changes.{stays}
use Rattle.region_sets.proofs.Calls.{In-at, regions-same}
use Rattle.fair_rules.specs.SetLists.{set_at}
use Rattle.delay_bounds.specs.Form.{Longest}
use Rattle.delay_bounds.specs.Pinned.{over_longest}
use Rattle.state_reach.specs.Covers.{Always, AreSpread, Has, InSome, Keeps, Not, StepsInto}
use Rattle.delay_bounds.specs.Shows.{ShowsLongest}
use Rattle.delay_bounds.proofs.Alike.{AreAlike, alike_back, longest_alike, spread_alike}
use Rattle.delay_bounds.proofs.Later.{over_longest_same}
use Rattle.delay_bounds.specs.Tests.{last_pin}
use Rattle.state_reach.proofs.LoopCalls.{same_pins}
use Rattle.fair_fixpoint.proofs.Lists.{region_among}
use Rattle.std.proofs.lemmas.List.{length-map}

-- ---- one bad set

one_some : (F : StateSet) (s : State) → InSome (F ∷ []) s ↔ (s ∈ F)
one_some F s = (λ (i, l, here). at_first i l here, λ here. (0, omega arith, here))
  where
    at_first : (i : ℕ) → i < 1 → s ∈ set_at (F ∷ []) i → s ∈ F
    at_first zero l here = here
    at_first (suc i) l here = absurd (omega arith)

keeps_like : (m : System) (P : State → Type 0) (inside : StateSet) (Bad Worse : State → Type 0) → ((s : State) → P s → Worse s → Bad s) → Keeps m P inside Bad → Keeps m P inside Worse
keeps_like m P inside Bad Worse more k = record { closed = k.closed; apart = λ s is_state here start bad. k.apart s is_state here start (more s start bad) }

-- a list of one bad set
pub keeps_one : (m : System) (now : Sets) (from inside bad : Pin) (list : List Pin) (truth : Bool) → now.over ≡ m → list ≡ bad ∷ []
    → IsTrue truth ↔ Keeps now.over (In now from.slot) (region now inside) (InSome (regions now list)) → IsTrue truth ↔ Keeps m (In now from.slot) (region now inside) (λ s. s ∈ region now bad)
keeps_one m now from inside bad list truth over is answer =
    let here : IsTrue truth ↔ Keeps m (In now from.slot) (region now inside) (InSome (region now bad ∷ [])) =
    subst (λ n. IsTrue truth ↔ Keeps n (In now from.slot) (region now inside) (InSome (region now bad ∷ []))) over
    (subst (λ ps. IsTrue truth ↔ Keeps now.over (In now from.slot) (region now inside) (InSome (regions now ps))) is answer) in (
      λ e. keeps_like m (In now from.slot) (region now inside) (InSome (region now bad ∷ [])) (λ s. s ∈ region now bad) (λ s start bad'. (one_some (region now bad) s).1 bad') (here.0 e),
      λ h. here.1 (keeps_like m (In now from.slot) (region now inside) (λ s. s ∈ region now bad) (InSome (region now bad ∷ [])) (λ s start bad'. (one_some (region now bad) s).0 bad') h),
    )

-- where each start is bad
pub keeps_none : (m : System) (now : Sets) (from inside : Pin) (list : List Pin) (truth : Bool) → now.over ≡ m → list ≡ from ∷ []
    → IsTrue truth ↔ Keeps now.over (In now from.slot) (region now inside) (InSome (regions now list)) → IsTrue truth ↔ Keeps m (In now from.slot) (region now inside) Always
keeps_none m now from inside list truth over is answer =
    let here = keeps_one m now from inside from list truth over is answer in (
      λ e. keeps_like m (In now from.slot) (region now inside) (λ s. s ∈ region now from) Always (λ s start _. start) (here.0 e),
      λ h. here.1 (keeps_like m (In now from.slot) (region now inside) Always (λ s. s ∈ region now from) (λ s start _. tt) h),
    )

-- ---- steps back from all states, and from those outside

module _ (s0 s1 : Sets) (k : ℕ) (p : Adds s0 s1 (k ∷ [])) where
  pub full_alike : Stands s1 k (λ s. IsState s0.over s) → AreAlike s0.over (In s1 k) Always
  full_alike g s is_state = (λ h. tt, λ h. (g s).1 is_state)

  pub apart_alike : (to : ℕ) → Stands s1 k (λ s. IsState s0.over s × ¬ In s0 to s) → AreAlike s0.over (In s1 k) (Not (In s0 to))
  apart_alike to g s is_state = (λ h. ((g s).0 h).1, λ h. (g s).1 (is_state, h))

  pub live_alike : (to : ℕ) → IsLive s0 to → AreAlike s0.over (In s1 to) (In s0 to)
  live_alike to live s is_state = In-at s0 s1 to s (stays p to live)

  pub spread_answer : (P P' R R' : State → Type 0) (list : List Pin) (truth : Bool) → AreAlike s0.over P P' → AreAlike s0.over R R' → AreLive s0 (slots list)
      → IsTrue truth ↔ AreSpread s1.over P R (regions s1 list) → IsTrue truth ↔ AreSpread s0.over P' R' (regions s0 list)
  spread_answer P P' R R' list truth firsts laters live answer =
      let same : regions s1 list ≡ regions s0 list = regions-same s0 s1 list (λ k e. stays p k (live k e)) in
      let here : IsTrue truth ↔ AreSpread s0.over P R (regions s0 list) =
      subst (λ rs. IsTrue truth ↔ AreSpread s0.over P R rs) same (subst (λ m. IsTrue truth ↔ AreSpread m P R (regions s1 list)) p.over answer) in (
        λ e. spread_alike s0.over P P' R R' firsts laters (regions s0 list) (here.0 e),
        λ h. here.1 (spread_alike s0.over P' P R' R (alike_back s0.over P P' firsts) (alike_back s0.over R R' laters) (regions s0 list) h),
      )

  pub all_before_answer : (back : Pin) (truth : Bool) → Stands s1 k (λ s. IsState s0.over s) → IsLive s0 back.slot
      → IsTrue truth ↔ Has s1.over (StepsInto s1.over (In s1 k) (region s1 back)) (region s1 back)
      → IsTrue truth ↔ Has s0.over (StepsInto s0.over Always (region s0 back)) (region s0 back)
  all_before_answer back truth g live answer =
      let same : region s1 back ≡ region s0 back = ap has_state (stays p back.slot live) in
      let here : IsTrue truth ↔ Has s0.over (StepsInto s0.over (In s1 k) (region s0 back)) (region s0 back) =
      subst (λ F. IsTrue truth ↔ Has s0.over (StepsInto s0.over (In s1 k) F) F) same
      (subst (λ m. IsTrue truth ↔ Has m (StepsInto m (In s1 k) (region s1 back)) (region s1 back)) p.over answer) in (
        λ e s is_state into. here.0 e s is_state ((g s).1 is_state, into.1),
        λ h. here.1 (λ s is_state into. h s is_state (tt, into.1)),
      )

-- ---- the second part, behind the first

pub longest_behind : (m : System) (s0 s1 : Sets) (from to : ℕ) (x : Longest Pin) (truth : Bool) {A : Type 0} → Adds s0 s1 [] → A
    → IsTrue truth ↔ ShowsLongest m (In s1 from) (In s1 to) (over_longest s1 x) → IsTrue truth ↔ (A × ShowsLongest m (In s0 from) (In s0 to) (over_longest s0 x))
longest_behind m s0 s1 from to x truth {A} p first answer =
    let same = over_longest_same s0 s1 x (λ k e. p.kept k refl) in
    let starts : AreAlike m (In s1 from) (In s0 from) = λ s is_state. In-at s0 s1 from s (p.kept from refl) in
    let goals : AreAlike m (In s1 to) (In s0 to) = λ s is_state. In-at s0 s1 to s (p.kept to refl) in (
      λ e. (first, subst (ShowsLongest m (In s0 from) (In s0 to)) same (longest_alike m (In s1 from) (In s0 from) (In s1 to) (In s0 to) starts goals (over_longest s1 x) (answer.0 e))),
      λ h. answer.1 (longest_alike m (In s0 from) (In s1 from) (In s0 to) (In s1 to) (alike_back m (In s1 from) (In s0 from) starts) (alike_back m (In s1 to) (In s0 to) goals) (over_longest s1 x)
          (subst (ShowsLongest m (In s0 from) (In s0 to)) (sym same) h.1)),
    )

-- ---- parts of a test, one after another, where no pin came

pub with_first : {A B : Type 0} (b : Bool) → A → IsTrue b ↔ B → IsTrue b ↔ (A × B)
with_first b first answer = (λ e. (first, answer.0 e), λ h. answer.1 h.1)

module _ (s0 s1 : Sets) (p : Adds s0 s1 []) (b : Bool) where
  pub spread_back : (to : Pin) (list : List Pin) → IsTrue b ↔ AreSpread s1.over (In s1 to.slot) Always (regions s1 list) → IsTrue b ↔ AreSpread s0.over (In s0 to.slot) Always (regions s0 list)
  spread_back to list answer =
      subst (λ (pins : ℕ → Option StateSet). IsTrue b ↔ AreSpread s0.over (λ s. has_state (pins to.slot) s ≡ true) Always (map (λ (q : Pin). has_state (pins q.slot)) list)) (same_pins s0 s1 p)
      (subst (λ m. IsTrue b ↔ AreSpread m (In s1 to.slot) Always (regions s1 list)) p.over answer)

  pub spread_apart : (to : Pin) (list : List Pin) → IsTrue b ↔ AreSpread s1.over (Not (In s1 to.slot)) (Not (In s1 to.slot)) (regions s1 list) → IsTrue b ↔ AreSpread s0.over (Not (In s0 to.slot)) (Not (In s0 to.slot)) (regions s0 list)
  spread_apart to list answer =
      subst (λ (pins : ℕ → Option StateSet). IsTrue b ↔ AreSpread s0.over (Not (λ s. has_state (pins to.slot) s ≡ true)) (Not (λ s. has_state (pins to.slot) s ≡ true)) (map (λ (q : Pin). has_state (pins q.slot)) list)) (same_pins s0 s1 p)
      (subst (λ m. IsTrue b ↔ AreSpread m (Not (In s1 to.slot)) (Not (In s1 to.slot)) (regions s1 list)) p.over answer)

  pub all_before : (back : Pin) → IsTrue b ↔ Has s1.over (StepsInto s1.over Always (region s1 back)) (region s1 back) → IsTrue b ↔ Has s0.over (StepsInto s0.over Always (region s0 back)) (region s0 back)
  all_before back answer =
      subst (λ (pins : ℕ → Option StateSet). IsTrue b ↔ Has s0.over (StepsInto s0.over Always (has_state (pins back.slot))) (has_state (pins back.slot))) (same_pins s0 s1 p)
      (subst (λ m. IsTrue b ↔ Has m (StepsInto m Always (region s1 back)) (region s1 back)) p.over answer)

-- the last of a list of pins
pub last_region : (a : Sets) (pins : List Pin) (p : Pin) → 0 < length pins → p ≡ last_pin pins → set_at (regions a pins) (length (regions a pins) - 1) ≡ region a p
last_region a pins p l is =
    let count : length (regions a pins) ≡ length pins = length-map pins (λ (q : Pin). has_state (a.pins q.slot)) in
    ap (set_at (regions a pins)) (let e : length (regions a pins) - 1 ≡ length pins - 1 = omega (arith, count) in e) ∙ region_among a pins (length pins - 1) (record { slot = 0 }) (omega arith) ∙ ap (region a) (sym is)
