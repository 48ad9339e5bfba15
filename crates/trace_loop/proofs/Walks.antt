-- A walk along a sequence, which falsifies `A[d U e]` where d isn't 1 before e is.
use Rattle.std.proofs.Common.{inl, inr, ℕ, ◌+◌, ◌-◌, ◌<◌, ◌≤◌, true, arith, below_more}
use Rattle.kripke_model.specs.Ctl.{Ctl}
use Rattle.kripke_model.specs.Falsifies.{FalsifiesFrom}
use Rattle.kripke_model.specs.System.{System, State}
use Rattle.kripke_model.specs.Term.{Term}
use Rattle.trace_loop.specs.Places.{SameFrom}
use Rattle.trace_loop.proofs.Suffixes.{HoldsAt, holds_moved, holds_same, le_or_lt}

module _ (m : System) (w : ℕ → State) (d e : Term) (i : ℕ) where
  -- d is 1 at place k, and e isn't
  abbrev pub Goes : ℕ → Type 0
  Goes k = (HoldsAt m w e k → ⊥) × HoldsAt m w d k

  -- so it is at each of the first n places from i on
  abbrev pub Passed : ℕ → Type 0
  Passed n = (k : ℕ) → k < n → Goes (i + k)

  abbrev pub Fails : Type 0
  Fails = FalsifiesFrom m w (Ctl.Until true (Ctl.Leaf d) (Ctl.Leaf e)) i

  pub passed_more : (n : ℕ) → Passed n → (HoldsAt m w e (i + n) → ⊥) → HoldsAt m w d (i + n) → Passed (n + 1)
  passed_more n passed not_e is_d = below_more (λ k. Goes (i + k)) n passed (not_e, is_d)

  -- e is 1 there, after places at which d is
  pub met : (n : ℕ) → Passed n → HoldsAt m w e (i + n) → Fails → ⊥
  met n passed is_e fails =
      let r = fails (i + n) (omega arith) is_e in
      r.3 (holds_moved m w d (i + (r.0 - i)) r.0 (omega (arith, r.1)) (passed (r.0 - i) (omega (arith, r.1, r.2))).1)

  -- neither is 1 there, and e wasn't before
  pub broken : (n : ℕ) → Passed n → (HoldsAt m w e (i + n) → ⊥) → (HoldsAt m w d (i + n) → ⊥) → Fails
  broken n passed not_e not_d j le is_e = elim (le_or_lt (j - i) n) [
    | inl h ↦ absurd (before h)
    | inr h ↦ (i + n, omega arith, omega arith, not_d)
  ]
    where
      before : j - i ≤ n → ⊥
      before h = elim (le_or_lt n (j - i)) [
        | inl h' ↦ not_e (holds_moved m w e j (i + n) (omega arith) is_e)
        | inr h' ↦ (passed (j - i) h').0 (holds_moved m w e j (i + (j - i)) (omega arith) is_e)
      ]

  -- all places from i on are as one of the first n
  pub never_met : (n : ℕ) → Passed n → ((j : ℕ) → i ≤ j → (k : ℕ) × (k < n) × SameFrom w j (i + k)) → Fails
  never_met n passed places j le is_e =
      let k = places j le in absurd ((passed k.0 k.1).0 (holds_same m w e j (i + k.0) k.2 is_e))
