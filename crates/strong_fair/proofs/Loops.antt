-- The sequence of a strong path is a strongly fair one.
use Rattle.std.proofs.Common.{◌⊎◌, inl, inr, ℕ, zero, suc, ◌-◌, ◌%◌, ◌<◌, List, [], length, get_or, subst, arith, mod-lt}
use Rattle.std.specs.Prelude.{Any}
use Rattle.std.proofs.lemmas.Bool.{cases_eq}
use Rattle.std.proofs.lemmas.List.{get_or_default}
use Rattle.kripke_model.specs.Term.{Term}
use Rattle.kripke_model.specs.System.{System}
use Rattle.kripke_model.specs.Path.{Lasso, at, IsPath}
use Rattle.kripke_model.proofs.Lassos.{at_cycle}
use Rattle.kripke_model.proofs.WalkLemmas.{fair_walk}
use Rattle.path_laws.specs.Fairness.{IsFairOver}
use Rattle.path_laws.proofs.HoldsLemmas.{holds_or_not}
use Rattle.fair_rules.proofs.LassoWalk.{walk_over}
use Rattle.state_reach.specs.States.{HoldsAt}
use Rattle.strong_fair.specs.Strong.{Pair, Recurs, IsStrongPath, IsStrongWalk}

module _ (m : System) (p : Lasso) (path : IsPath m p) where
  -- e holds somewhere on the cycle, or nowhere
  module _ (e : Term) where
    abbrev FirstHere : ℕ → Type 0
    FirstHere b = ((i : ℕ) × (i < b) × HoldsAt m e (get_or p.cycle i [])) ⊎ ((i : ℕ) → i < b → HoldsAt m e (get_or p.cycle i []) → ⊥)

    first_here : (b : ℕ) → FirstHere b
    first_here zero = inr (λ i h. absurd (omega arith))
    first_here (suc b) = go (first_here b) (holds_or_not m e (get_or p.cycle b []) (get_or p.cycle b []))
      where
        go : FirstHere b → HoldsAt m e (get_or p.cycle b []) ⊎ (HoldsAt m e (get_or p.cycle b []) → ⊥) → FirstHere (suc b)
        go (inl (i, l, h)) c = inl (i, omega arith, h)
        go (inr none) (inl h) = inl (b, omega arith, h)
        go (inr none) (inr not) = inr (λ i l h. elim (cases_eq i b) [
          | inl same ↦ not (subst (λ k. HoldsAt m e (get_or p.cycle k [])) same h)
          | inr apart ↦ none i (omega arith) h
        ])

    -- what holds on the cycle holds again and again
    recurs : Any (HoldsAt m e) p.cycle → Recurs (HoldsAt m e) (at p)
    recurs here n never =
        let over : IsFairOver m 1 (λ k. HoldsAt m e) p = record { path = path; met = λ k h. here } in
        let x = (walk_over m 1 (λ k. HoldsAt m e) p over).met 0 (omega arith) n in
        never x.0 x.1 x.2

    -- and nothing else
    on_cycle : Recurs (HoldsAt m e) (at p) → (Any (HoldsAt m e) p.cycle → ⊥) → ⊥
    on_cycle again none = go (first_here (length p.cycle))
      where
        go : FirstHere (length p.cycle) → ⊥
        go (inl (i, l, h)) = none (i, get_or p.cycle i [], l, get_or_default p.cycle i (get_or p.cycle i []) [] l, h)
        go (inr nowhere) = again (length p.stem) (λ k g h.
            nowhere ((k - length p.stem) % length p.cycle) (mod-lt (k - length p.stem) path.loops) (subst (HoldsAt m e) (at_cycle p k g) h))

  pub compassion : (x y : Term) → (Any (HoldsAt m x) p.cycle → Any (HoldsAt m y) p.cycle) → Recurs (HoldsAt m x) (at p) → Recurs (HoldsAt m y) (at p)
  compassion x y cycle again n never = on_cycle x again (λ here. recurs y (cycle here) n never)

pub strong_walk : (m : System) (pairs : List Pair) (p : Lasso) → IsStrongPath m pairs p → IsStrongWalk m pairs (at p)
strong_walk m pairs p strong = record {
  fair = fair_walk m p strong.fair;
  initial = strong.initial;
  compassionate = λ k d l. compassion m p strong.fair.path (get_or pairs k d).p (get_or pairs k d).q (strong.compassionate k d l);
}
