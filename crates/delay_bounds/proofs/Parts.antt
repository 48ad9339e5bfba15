-- The parts of a proof of delays, by their tests.
use Rattle.std.proofs.Common.{◌≡◌, ℕ, zero, suc, ◌-◌, ◌<◌, ◌==◌, Bool, false, List, length, ◌∙◌, ap, subst, arith}
use Rattle.std.specs.Prelude.{IsTrue, ◌↔◌}
use Rattle.std.proofs.lemmas.List.{length-map}
use Rattle.kripke_model.specs.System.{System, State}
use Rattle.path_laws.specs.StateSet.{◌∈◌}
use Rattle.region_sets.specs.declared.pins.Pin.{Pin}
use Rattle.region_sets.specs.Sets.{Sets, In, has_state, region}
use Rattle.region_sets.specs.Ranks.{regions}
use Rattle.fair_rules.specs.SetLists.{set_at}
use Rattle.delay_bounds.specs.Form.{Longest, Shortest}
use Rattle.delay_bounds.specs.Pinned.{over_longest, over_shortest}
use Rattle.state_reach.specs.Covers.{Always, AreSpread, Comes, Has, Keeps, Not, StepsInto}
use Rattle.delay_bounds.specs.Shows.{ShowsLongest, ShowsShortest, Waits}
use Rattle.delay_bounds.specs.Tests.{IsMet, IsNeverLed}

pub some_of : (n : ℕ) → (n == 0) ≡ false → 0 < n
some_of zero e = absurd cc
some_of (suc n) e = omega arith

module _ (m : System) (now : Sets) (over : now.over ≡ m) (from to inside : Pin) (b : Bool) where
  pub never_shown : (back : Pin) (way first second : List State) (place : ℕ) → first ≡ way → second ≡ way → place ≡ length second - 1 → Comes m (In now from.slot) first place
      → IsTrue b ↔ IsNeverLed now from to inside back → IsTrue b ↔ ShowsShortest m (In now from.slot) (In now to.slot) (over_shortest now (Shortest.Never inside back way))
  never_shown back way first second place first_is second_is place_is comes answer =
      let here : IsTrue b ↔ (Keeps m (In now from.slot) (region now inside) (In now back.slot) × Has m (In now to.slot) (region now back) × Has m (StepsInto m Always (region now back)) (region now back)) =
      subst (λ n. IsTrue b ↔ (Keeps n (In now from.slot) (region now inside) (In now back.slot) × Has n (In now to.slot) (region now back) × Has n (StepsInto n Always (region now back)) (region now back))) over answer in
      let there : Comes m (In now from.slot) way (length way - 1) =
      subst (λ n. Comes m (In now from.slot) way n) (place_is ∙ ap (λ (l : List State). length l - 1) second_is) (subst (λ l. Comes m (In now from.slot) l place) first_is comes) in (
        λ e. let w = here.0 e in (w.0, w.1, w.2, there),
        λ h. here.1 (h.0, h.1, h.2),
      )

  pub longer_shown : (stay list : List Pin) (way first : List State) (start steps : ℕ) → 0 < length stay → list ≡ stay → first ≡ way → steps ≡ length stay - 1
      → Comes m (In now from.slot) first start × Waits (In now to.slot) first start steps
      → IsTrue b ↔ IsMet now from to inside list → IsTrue b ↔ ShowsLongest m (In now from.slot) (In now to.slot) (over_longest now (Longest.Steps inside stay way start))
  longer_shown stay list way first start steps some list_is first_is steps_is path answer =
      let count : length (regions now stay) ≡ length stay = length-map stay (λ (q : Pin). has_state (now.pins q.slot)) in
      let here : IsTrue b ↔ (Keeps m (In now from.slot) (region now inside) (λ s. s ∈ set_at (regions now stay) (length (regions now stay) - 1)) × AreSpread m (Not (In now to.slot)) (Not (In now to.slot)) (regions now stay)) =
      subst (λ n. IsTrue b ↔ (Keeps n (In now from.slot) (region now inside) (λ s. s ∈ set_at (regions now stay) (length (regions now stay) - 1)) × AreSpread n (Not (In now to.slot)) (Not (In now to.slot)) (regions now stay))) over
      (subst (λ l. IsTrue b ↔ IsMet now from to inside l) list_is answer) in
      let comes : Comes m (In now from.slot) way start = subst (λ l. Comes m (In now from.slot) l start) first_is path.0 in
      let waits : Waits (In now to.slot) way start (length (regions now stay) - 1) =
      subst (λ n. Waits (In now to.slot) way start n) (let e : steps ≡ length (regions now stay) - 1 = omega (arith, steps_is, count) in e) (subst (λ l. Waits (In now to.slot) l start steps) first_is path.1) in (
        λ e. let w = here.0 e in (omega (arith, some, count), w.0, w.1, comes, waits),
        λ h. here.1 (h.1, h.2),
      )
