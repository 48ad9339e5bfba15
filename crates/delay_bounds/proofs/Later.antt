-- A proof of delays stands for the same where its pins do.
use Rattle.std.proofs.Common.{◌≡◌, ℕ, true, List, [], ◌∷◌, refl, ap}
use Rattle.std.proofs.lemmas.Bool.{or_right}
use Rattle.std.specs.Prelude.{◌==◌}
use Rattle.region_sets.specs.declared.pins.Pin.{Pin}
use Rattle.region_sets.specs.Sets.{Sets, has_state, is_one_of, region}
use Rattle.region_sets.specs.Ranks.{slots, regions}
use Rattle.region_sets.proofs.Slots.{is_one_of-first}
use Rattle.region_sets.proofs.Calls.{regions-same}
use Rattle.delay_bounds.specs.Form.{Shortest, Longest, shortest_sets, longest_sets}
use Rattle.delay_bounds.specs.Pinned.{over_shortest, over_longest}

module _ (a b : Sets) where
  Same : List ℕ → Type 0
  Same ks = (k : ℕ) → is_one_of k ks ≡ true → b.pins k ≡ a.pins k

  first_same : (p : Pin) (pins : List Pin) → Same (slots (p ∷ pins)) → region b p ≡ region a p
  unfolding Same
  first_same p pins h = ap has_state (h p.slot (is_one_of-first p.slot (slots pins)))

  rest_same : (p : Pin) (pins : List Pin) → Same (slots (p ∷ pins)) → regions b pins ≡ regions a pins
  unfolding Same
  rest_same p pins h = regions-same a b pins (λ k e. h k (or_right (k == p.slot) (is_one_of k (slots pins)) e))

  pub over_shortest_same : (x : Shortest Pin) → ((k : ℕ) → is_one_of k (slots (shortest_sets x)) ≡ true → b.pins k ≡ a.pins k) → over_shortest b x ≡ over_shortest a x
  unfolding Same
  over_shortest_same (Shortest.NoStart inside) h = ap Shortest.NoStart (first_same inside [] h)
  over_shortest_same (Shortest.Never inside back way) h =
      let f = first_same inside (back ∷ []) h in
      let r = first_same back [] (λ k e. h k (or_right (k == inside.slot) (is_one_of k (back.slot ∷ [])) e)) in
      λ i. Shortest.Never (f i) (r i) way
  over_shortest_same (Shortest.Steps inside back way start) h =
      let f = first_same inside back h in
      let r = rest_same inside back h in
      λ i. Shortest.Steps (f i) (r i) way start

  pub over_longest_same : (x : Longest Pin) → ((k : ℕ) → is_one_of k (slots (longest_sets x)) ≡ true → b.pins k ≡ a.pins k) → over_longest b x ≡ over_longest a x
  unfolding Same
  over_longest_same (Longest.NoStart inside) h = ap Longest.NoStart (first_same inside [] h)
  over_longest_same (Longest.Endless lasso start) h = refl
  over_longest_same (Longest.Steps inside stay way start) h =
      let f = first_same inside stay h in
      let r = rest_same inside stay h in
      λ i. Longest.Steps (f i) (r i) way start
