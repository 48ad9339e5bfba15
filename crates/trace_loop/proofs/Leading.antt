-- Where the operators around a part of a formula lead, and what is falsified there.
use Rattle.std.proofs.Common.{◌≡◌, Option, None, Some, inl, inr, ℕ, ◌+◌, ◌-◌, ◌<◌, ◌≤◌, true, refl, ◌∙◌, ap, arith}
use Rattle.std.specs.Prelude.{◌↔◌, MatchOption}
use Rattle.kripke_model.specs.declared.expressions.PathOp.{PathOp}
use Rattle.kripke_model.specs.Ctl.{Ctl}
use Rattle.kripke_model.specs.Evaluation.{Holds}
use Rattle.kripke_model.specs.Falsifies.{FalsifiesFrom}
use Rattle.kripke_model.specs.Path.{Lasso, at, member_count}
use Rattle.kripke_model.specs.System.{System, State}
use Rattle.kripke_model.specs.Term.{Term}
use Rattle.trace_loop.specs.Above.{FalsifiesAmong, FalsifiesBelow, IsLedTo, IsMetAfter, IsNoneLed, place_after}
use Rattle.trace_loop.specs.Places.{SameFrom, IsFirst}
use Rattle.trace_loop.specs.declared.above.Above.{Above, Nothing, Where', Unless', Next'}
use Rattle.trace_loop.proofs.Falsified.{globally_falsified, finally_falsified}
use Rattle.trace_loop.proofs.Suffixes.{falsified_same, holds_moved, holds_same, le_or_lt, same_back, same_later}

-- n places further on they lead n places further on
pub place_later : (above : Above) (i n : ℕ) → place_after above (i + n) ≡ place_after above i + n
place_later Nothing i n = refl
place_later (Where' e p up) i n = place_later up i n
place_later (Unless' e p up) i n = place_later up i n
place_later (Next' p up) i n = ap (λ (k : ℕ). k + 1) (place_later up i n) ∙ omega arith

pub place_kept : (above : Above) (i j : ℕ) → i ≤ j → place_after above j ≡ place_after above i + (j - i)
place_kept above i j le = ap (place_after above) (omega (arith, le)) ∙ place_later above i (j - i)

pub place_grows : (above : Above) (i j : ℕ) → i ≤ j → place_after above i ≤ place_after above j
place_grows above i j le = omega (arith, place_kept above i j le)

module _ (m : System) (w : ℕ → State) (above : Above) where
  -- e is 1 after n places, and d before: `A[d U e]` isn't falsified from where they lead from any of the places to there
  pub met_clear : (d e : Term) (i n : ℕ) → IsMetAfter m w d e (place_after above i) n
      → (k : ℕ) → i ≤ k → k ≤ i + n → FalsifiesBelow m w above (Ctl.Until true (Ctl.Leaf d) (Ctl.Leaf e)) k → ⊥
  met_clear d e i n met k le le' h =
      let x = place_after above i in
      let is = place_kept above i k le in
      let r = h.1 (x + n) (omega (arith, is, le')) met.0 in
      r.3 (holds_moved m w d (x + (r.0 - x)) r.0 (omega (arith, r.1, is)) (met.1 (r.0 - x) (omega (arith, r.1, r.2, is))))

module _ (m : System) (p : Lasso) (above : Above) (i j : ℕ) (led : IsLedTo m p above i j) where
  back : SameFrom (at p) j (place_after above i)
  back = same_back (at p) (place_after above i) j led.2

  -- what is falsified from j is from where they lead from i, and the other way round
  pub below_there : (f : Ctl) → FalsifiesFrom m (at p) f j ↔ FalsifiesBelow m (at p) above f i
  below_there f = (
    (λ h. (led.0, falsified_same m (at p) f j (place_after above i) back h)),
    (λ h. falsified_same m (at p) f (place_after above i) j led.2 h.1),
  )

  met_there : (d e : Term) (n : ℕ) → IsMetAfter m (at p) d e j n → IsMetAfter m (at p) d e (place_after above i) n
  met_there d e n met = (
    holds_same m (at p) e (j + n) (place_after above i + n) (same_later (at p) j (place_after above i) n back) met.0,
    λ k lt. holds_same m (at p) d (j + k) (place_after above i + k) (same_later (at p) j (place_after above i) k back) (met.1 k lt),
  )

  -- so `A[d U e]` is falsified from where they lead, or from none of as many places as are passed until e is 1
  pub met_below : (d e : Term) (after : Option ℕ) → MatchOption after (FalsifiesFrom m (at p) (Ctl.Until true (Ctl.Leaf d) (Ctl.Leaf e)) j) (IsMetAfter m (at p) d e j)
      → MatchOption after (FalsifiesBelow m (at p) above (Ctl.Until true (Ctl.Leaf d) (Ctl.Leaf e)) i)
      (λ n. (k : ℕ) → i ≤ k → k ≤ i + n → FalsifiesBelow m (at p) above (Ctl.Until true (Ctl.Leaf d) (Ctl.Leaf e)) k → ⊥)
  met_below d e None fails = (below_there (Ctl.Until true (Ctl.Leaf d) (Ctl.Leaf e))).0 fails
  met_below d e (Some n) met = met_clear m (at p) above d e i n (met_there d e n met)

module _ (m : System) (p : Lasso) (above : Above) (first end i j start : ℕ) (from : first ≤ i) (below : i < end) (led : IsLedTo m p above i j) (stands : IsFirst (at p) (member_count p) j start) where
  -- i is the first from which they lead anywhere
  pub always_among : (f : Ctl) → IsNoneLed m (at p) above first i
      → FalsifiesAmong m (at p) Nothing f start (member_count p) ↔ FalsifiesAmong m (at p) above (Ctl.Quant PathOp.AG f) first end
  always_among f none =
      let same = globally_falsified m (at p) (member_count p) j start stands f in (
        (λ h. (i, from, below, (below_there m p above i j led (Ctl.Quant PathOp.AG f)).0 (same.0 (h.0, h.1, h.2, h.3.1)))),
        (λ h.
            let fails = h.3.1 in
            let behind : i ≤ h.0 = elim (le_or_lt i h.0) [
              | inl le ↦ le
              | inr lt ↦ absurd (none h.0 h.1 lt h.3.0)
            ] in
            let earlier : FalsifiesBelow m (at p) above (Ctl.Quant PathOp.AG f) i = (led.0, (fails.0, omega (arith, fails.1, place_grows above i h.0 behind), fails.2)) in
            let k = same.1 ((below_there m p above i j led (Ctl.Quant PathOp.AG f)).1 earlier) in
            (k.0, k.1, k.2, (tt, k.3))),
      )

  -- i is the last one
  pub finally_among : (e : Term) → IsNoneLed m (at p) above (i + 1) end
      → (((k : ℕ) × (start ≤ k) × (k < member_count p) × Holds m e (at p k) (at p k)) → ⊥) ↔ FalsifiesAmong m (at p) above (Ctl.Quant PathOp.AF (Ctl.Leaf e)) first end
  finally_among e none =
      let f = Ctl.Quant PathOp.AF (Ctl.Leaf e) in
      let same = finally_falsified m (at p) (member_count p) j start stands e in (
        (λ never. (i, from, below, (below_there m p above i j led f).0 (same.0 never))),
        (λ h.
            let upto : h.0 ≤ i = elim (le_or_lt h.0 i) [
              | inl le ↦ le
              | inr lt ↦ absurd (none h.0 (omega (arith, lt)) h.2 h.3.0)
            ] in
            let later : FalsifiesBelow m (at p) above f i = (led.0, λ k le. h.3.1 k (omega (arith, le, place_grows above h.0 i upto))) in
            same.1 ((below_there m p above i j led f).1 later)),
      )
