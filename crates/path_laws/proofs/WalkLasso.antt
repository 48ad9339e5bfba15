-- A fair walk has a fair lasso of its own states, which agrees with it as far as one likes.
use Rattle.std.proofs.Common.{◌≡◌, inl, inr, ℕ, zero, suc, ◌+◌, ◌-◌, ◌<◌, ◌≤◌, max, sym, ap, subst, arith, Any, add-zero, add-suc}
use Rattle.std.proofs.lemmas.Bool.{cases_eq}
use Rattle.kripke_model.specs.System.{System, State}
use Rattle.kripke_model.specs.Path.{Lasso, at}
use Rattle.path_laws.specs.Fairness.{IsFairOver, IsWalkOver}
use Rattle.path_laws.specs.StateCount.{Collision, state_count}
use Rattle.path_laws.proofs.States.{state_repeats}
use Rattle.path_laws.proofs.Walks.{closed, closed_agrees, closed_member, closed_visited, closed_path}

-- the lasso agrees with the walk up to place n, and each of its states stands in the walk, no later, with the same states before it
pub record Follows (p : Lasso) (w : ℕ → State) (n : ℕ) : Type 0 where
  pub agrees : (i : ℕ) → i ≤ n → at p i ≡ w i
  pub member : (i : ℕ) → (k : ℕ) × (k ≤ i) × (at p i ≡ w k) × ((j : ℕ) → j ≤ k → at p j ≡ w j)

module _ (m : System) (n : ℕ) (C : ℕ → State → Type 0) (w : ℕ → State) (fair : IsWalkOver m n C w) where
  -- constraint k is true from a up to b
  abbrev MetBetween : ℕ → ℕ → ℕ → Type 0
  MetBetween a b k = (x : ℕ) × (a ≤ x) × (x < b) × C k (w x)

  -- the first j constraints
  abbrev FirstMet : ℕ → ℕ → ℕ → Type 0
  FirstMet j a b = (k : ℕ) → k < j → MetBetween a b k

  first_met : (j : ℕ) → j ≤ n → (a : ℕ) → (b : ℕ) × (a < b) × FirstMet j a b
  first_met zero h a = (a + 1, omega arith, λ k l. absurd (omega arith))
  first_met (suc j) h a = go (first_met j (omega arith) a) (fair.met j (omega arith) a)
    where
      go : (b : ℕ) × (a < b) × FirstMet j a b → (x : ℕ) × (a ≤ x) × C j (w x) → (b : ℕ) × (a < b) × FirstMet (suc j) a b
      go (b, l, old) (x, g, true_at) = (max b (x + 1), omega arith, met)
        where
          met : FirstMet (suc j) a (max b (x + 1))
          met k l' = elim (cases_eq k j) [
            | inl e ↦ subst (λ y. MetBetween a (max b (x + 1)) y) (sym e) (x, g, omega arith, true_at)
            | inr apart ↦ (let o : MetBetween a b k = old k (omega arith) in (o.0, o.1, omega (arith, o.2), o.3))
          ]

  -- a place up to which all constraints were true since a
  round : ℕ → ℕ
  round a = (first_met n (omega arith) a).0

  round_later : (a : ℕ) → a < round a
  unfolding round
  round_later a = (first_met n (omega arith) a).1

  round_met : (a : ℕ) → FirstMet n a (round a)
  unfolding round
  round_met a = (first_met n (omega arith) a).2

  abbrev rounds : ℕ → ℕ → ℕ
  rounds start zero = start
  rounds start (suc i) = round (rounds start i)

  rounds_rise : (start i d : ℕ) → rounds start i + d ≤ rounds start (i + d)
  rounds_rise start i zero = omega (arith, ap (rounds start) (add-zero i))
  rounds_rise start i (suc d) =
      omega (arith, rounds_rise start i d, round_later (rounds start (i + d)), ap (rounds start) (add-suc i d))

  rounds_reach : (start i j : ℕ) → i ≤ j → rounds start i + (j - i) ≤ rounds start j
  rounds_reach start i j h = subst (λ k. rounds start i + (j - i) ≤ rounds start k) (omega arith) (rounds_rise start i (j - i))

  pub walk_lasso : (far : ℕ) → (p : Lasso) × IsFairOver m n C p × Follows p w far
  walk_lasso far = go (state_repeats m (λ i. w (rounds far i)) (λ i h. fair.states (rounds far i)))
    where
      go : Collision (λ i. w (rounds far i)) (state_count m) → (p : Lasso) × IsFairOver m n C p × Follows p w far
      go (i, j, l, bound, same) = (closed w a b, is_fair, follows)
        where
          a : ℕ
          a = rounds far i

          b : ℕ
          b = rounds far j

          later : a < b
          later = omega (arith, rounds_reach far i j (omega arith))

          past : far ≤ a
          past = omega (arith, rounds_reach far 0 i (omega arith))

          whole : round a ≤ b
          whole = omega (arith, rounds_reach far (suc i) j (omega arith))

          met : (k : ℕ) → k < n → Any (C k) (closed w a b).cycle
          met k h =
              let r : MetBetween a (round a) k = round_met a k h in
              closed_visited w a b later same (C k) r.0 r.1 (omega (arith, r.2, whole)) r.3

          is_fair : IsFairOver m n C (closed w a b)
          is_fair = record { path = closed_path w a b later same m fair.states fair.steps; met = met }

          follows : Follows (closed w a b) w far
          follows = record {
            agrees = λ x h. closed_agrees w a b later same x (omega (arith, past, later));
            member = λ x. let k : (k : ℕ) × (k ≤ x) × (k < b) × (at (closed w a b) x ≡ w k) = closed_member w a b later same x in
                (k.0, k.1, k.3, λ y h. closed_agrees w a b later same y (omega (arith, k.2, h)));
          }
