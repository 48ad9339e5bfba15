-- No strongly fair sequence stays in what the rows of a certificate take away.
use Rattle.std.proofs.Common.{◌≡◌, ℕ, zero, suc, ◌+◌, ◌-◌, ◌≤◌, max, List, [], ◌∷◌, subst, arith, add-one}
use Rattle.std.specs.Prelude.{All, IfSome, IsSomeAnd, MatchOption, Option, None, Some, slice_get}
use Rattle.kripke_model.specs.Ctl.{formula_of}
use Rattle.kripke_model.specs.System.{System, State, Condition}
use Rattle.kripke_model.specs.Step.{Step}
use Rattle.kripke_model.specs.Truth.{FreeSat}
use Rattle.path_laws.specs.StateSet.{StateSet, ◌∈◌}
use Rattle.fair_fixpoint.specs.Fairness.{IsTrueAt}
use Rattle.state_reach.specs.States.{HoldsAt}
use Rattle.strong_fair.specs.declared.certificate.Reason.{Reason}
use Rattle.strong_fair.specs.declared.certificate.Reason.TheVariants as reasons
use Rattle.strong_fair.specs.Strong.{Pair, Recurs, IsStrongWalk}
use Rattle.strong_fair.specs.Form.{Row, Certificate}
use Rattle.strong_fair.specs.Shows.{Left, pair_at, InRow, HasNone, Stays, RowShows, Behind, RowsShow, IsCertificate}
use Rattle.strong_fair.proofs.Pairs.{some_of_all}

module _ (m : System) (pairs : List Pair) (w : ℕ → State) (strong : IsStrongWalk m pairs w) where
  -- from place n on the walk stays in W
  abbrev From : Left → ℕ → Type 0
  From W n = (k : ℕ) → n ≤ k → W (w k)

  abbrev Found : ℕ → Option Condition → Type 0
  Found n o = (j : ℕ) × (n ≤ j) × MatchOption o (Unit {0}) (λ c. FreeSat m (formula_of c.expr) (w j))

  -- constraint k is met again and again
  met_again : (k n : ℕ) → (j : ℕ) × (n ≤ j) × IsTrueAt m (k - 1) (w j)
  met_again k n = go m.constraints (k - 1) (λ i d l. strong.fair.met i d l n)
    where
      go : (cs : List Condition) (i : ℕ) → All (λ c. (j : ℕ) × (n ≤ j) × FreeSat m (formula_of c.expr) (w j)) cs → Found n (slice_get cs i)
      go [] i h = (n, omega arith, tt)
      go (c ∷ cs) zero h = h 0 c (omega arith)
      go (c ∷ cs) (suc i) h = go cs i (λ j d l. h (suc j) d (omega arith))

  -- where the walk stays in W it stays in a set that is closed in W
  stays_on : (W T : Left) (n : ℕ) → From W n → Stays m T W → (k : ℕ) → n ≤ k → T (w k) → (d : ℕ) → T (w (k + d))
  stays_on W T n left stays k g here zero = subst (λ i. T (w i)) (omega arith) here
  stays_on W T n left stays k g here (suc d) =
      subst (λ i. T (w i)) (let e : k + d + 1 ≡ k + suc d = omega arith in e)
      (stays (w (k + d)) (w (k + d + 1)) (strong.fair.states (k + d)) (strong.fair.states (k + d + 1)) (stays_on W T n left stays k g here d) (strong.fair.steps (k + d)) (left (k + d + 1) (omega arith)))

  stays_later : (W T : Left) (n : ℕ) → From W n → Stays m T W → (k : ℕ) → n ≤ k → T (w k) → (j : ℕ) → k ≤ j → T (w j)
  stays_later W T n left stays k g here j h = subst (λ i. T (w i)) (let e : k + (j - k) ≡ j = omega arith in e) (stays_on W T n left stays k g here (j - k))

  -- what no state of a closed set has doesn't come any more
  never_more : (W T : Left) (P : State → Type 0) (n : ℕ) → From W n → Stays m T W → HasNone m T P → (k : ℕ) → n ≤ k → T (w k) → (j : ℕ) → k ≤ j → P (w j) → ⊥
  never_more W T P n left stays none k g here j h p = none (w j) (strong.fair.states j) (stays_later W T n left stays k g here j h) p

  recurs_pair : (i : ℕ) → IfSome (pair_at pairs i) (λ pair. Recurs (HoldsAt m pair.p) w → Recurs (HoldsAt m pair.q) w)
  recurs_pair zero = tt
  recurs_pair (suc i) = some_of_all (λ pair. Recurs (HoldsAt m pair.p) w → Recurs (HoldsAt m pair.q) w) pairs i strong.compassionate

  abbrev TakesBy : Left → Option Pair → Left
  TakesBy T o s = T s × IsSomeAnd o (λ pair. HoldsAt m pair.p s)

  -- a pair takes states away to which the walk doesn't come back
  by_pair : (W T : Left) (o : Option Pair) → Stays m T W → IsSomeAnd o (λ pair. HasNone m T (HoldsAt m pair.q))
      → IfSome o (λ pair. Recurs (HoldsAt m pair.p) w → Recurs (HoldsAt m pair.q) w)
      → (n : ℕ) → From W n → ((i : ℕ) → From (λ s. W s × (TakesBy T o s → ⊥)) i → ⊥) → ⊥
  by_pair W T None stays none compassion n left rest = absurd none
  by_pair W T (Some pair) stays none compassion n left rest = rest n (λ k g. (left k g, λ (here, p). gone k g here))
    where
      -- else p would stop
      recurs_p : Recurs (HoldsAt m pair.p) w
      recurs_p i never = rest (max n i) (λ k g. (left k (omega arith), λ (here, p). never k (omega arith) p))

      gone : (k : ℕ) → n ≤ k → T (w k) → ⊥
      gone k g here = compassion recurs_p k (never_more W T (HoldsAt m pair.q) n left stays none k g here)

  by_row : (W T : Left) (reason : Reason) → RowShows m pairs W T reason → (n : ℕ) → From W n
      → ((i : ℕ) → From (Behind m pairs W T reason) i → ⊥) → ⊥
  by_row W T reasons.Dead shows n left rest =
      rest n (λ k g. (left k g, λ here. shows (w k) (w (k + 1)) (strong.fair.states k) (strong.fair.states (k + 1)) here (strong.fair.steps k) (left (k + 1) (omega arith))))
  by_row W T (reasons.Avoid c) (known, stays, none) n left rest =
      rest n (λ k g. (left k g, λ here. let x = met_again c k in never_more W T (IsTrueAt m (c - 1)) n left stays none k g here x.0 x.1 x.2))
  by_row W T (reasons.Pair i) (stays, none) n left rest = by_pair W T (pair_at pairs i) stays none (recurs_pair i) n left rest

  no_stay : (rows : List (Row StateSet)) (W : Left) → RowsShow m pairs W rows → (n : ℕ) → From W n → ⊥
  no_stay [] W shows n left = shows (w n) (strong.fair.states n) (left n (omega arith))
  no_stay (row ∷ rows) W (here, behind) n left =
      by_row W (InRow row.set W) row.reason here n left (no_stay rows (Behind m pairs W (InRow row.set W) row.reason) behind)

  -- the walk stays inside
  inside : (c : Certificate StateSet) → IsCertificate m pairs c → (n : ℕ) → w n ∈ c.inside
  inside c shows zero = shows.closed.initials (w 0) (strong.fair.states 0) strong.initial
  inside c shows (suc n) =
      shows.closed.nexts (w n) (strong.fair.states n) (inside c shows n) (w (suc n)) (strong.fair.states (suc n)) (subst (λ k. Step m (w n) (w k)) (add-one n) (strong.fair.steps n))

  pub no_certificate : (c : Certificate StateSet) → IsCertificate m pairs c → ⊥
  no_certificate c shows = no_stay c.rows (λ s. s ∈ c.inside) shows.rows 0 (λ n g. inside c shows n)
