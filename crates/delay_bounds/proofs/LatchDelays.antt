-- The delays of a small model, worked by hand: x is set once go was 1. From go to x the shortest delay is 0 and the longest 1.
use Rattle.std.proofs.Common.{◌≡◌, ◌⊎◌, inl, inr, ℕ, zero, suc, ◌<◌, true, ◌&&◌, List, [], ◌∷◌, refl, sym, ap, subst, arith, lit<, get_or}
use Rattle.std.specs.Prelude.{Contains, Ok}
use Rattle.std.proofs.lemmas.Bool.{false≢true, and_parts, and_from}
use Rattle.kripke_model.specs.declared.expressions.Value.{Value}
use Rattle.kripke_model.specs.Evaluation.{same}
use Rattle.kripke_model.specs.System.{State, value_in}
use Rattle.kripke_model.specs.Step.{IsState}
use Rattle.kripke_model.proofs.Latch.{state, steps, is_state_of, zero_bit, one_bit, initial_01, num, bit, x_term, go_term, latch, holds_value, set_after_go}
use Rattle.path_laws.specs.StateSet.{StateSet, ◌∈◌}
use Rattle.fair_rules.specs.SetLists.{everything, set_at}
use Rattle.path_laws.proofs.Runs.{run_of, run_before}
use Rattle.state_reach.specs.Closed.{IsClosed}
use Rattle.delay_bounds.specs.Delays as delays
use Rattle.state_reach.specs.States.{HoldsAt}
use Rattle.delay_bounds.specs.Delays.{IsShortest, IsLongest}
use Rattle.delay_bounds.specs.Form.{Shortest, Longest, DelayProof}
use Rattle.state_reach.specs.Covers.{StepsInto, AreSpread}
use Rattle.delay_bounds.specs.Shows.{ShowsLongest, ShowsDelays}
use Rattle.delay_bounds.proofs.Sound.{proofs_sound}

-- x is 0, and go too
abbrev unset : StateSet
unset s = same (value_in s 0) (num 0)

abbrev idle : StateSet
idle s = same (value_in s 0) (num 0) && same (value_in s 1) (num 0)

abbrev latch_delays : DelayProof StateSet
latch_delays = record {
  shortest = Shortest.Steps everything [] (state 0 1 ∷ state 1 1 ∷ []) 1;
  longest = Longest.Steps everything (unset ∷ idle ∷ []) (state 0 1 ∷ []) 0;
}

closed : IsClosed latch everything
closed = record { initials = λ s is_state initial. refl; nexts = λ s is_state here t next step. refl }

state_01 : IsState latch (state 0 1)
state_01 = is_state_of 0 1 zero_bit one_bit

state_11 : IsState latch (state 1 1)
state_11 = is_state_of 1 1 one_bit one_bit

bits : (v : Value) → Contains bit v → (v ≡ num 0) ⊎ (v ≡ num 1)
bits v (zero, h, e) = inl (sym e)
bits v (suc zero, h, e) = inr (sym e)
bits v (suc (suc k), h, e) = absurd (omega arith)

is_zero : (s : State) (x : ℕ) → value_in s x ≡ num 0 → same (value_in s x) (num 0) ≡ true
is_zero s x e = subst (λ v. same v (num 0) ≡ true) (sym e) refl

-- where a bit doesn't hold it is 0
zero_bit_of : (s : State) → IsState latch s → (HoldsAt latch x_term s → ⊥) → same (value_in s 0) (num 0) ≡ true
zero_bit_of s is_state not = elim (bits (value_in s 0) (is_state.typed 0 (record { name = []; values = []; line = 0 }) (lit< tt))) [
  | inl e ↦ is_zero s 0 e
  | inr e ↦ absurd (not (ap (λ v. Ok (v ∷ [])) e))
]

no_both : (v : Value) → same v (num 0) ≡ true → v ≡ num 1 → ⊥
no_both v z e = false≢true (subst (λ w. same w (num 0) ≡ true) e z)

-- ---- the obligations

waits : AreSpread latch (λ s. HoldsAt latch x_term s → ⊥) (λ s. HoldsAt latch x_term s → ⊥) (unset ∷ idle ∷ [])
waits = record { first = λ some s is_state not. zero_bit_of s is_state not; later = later }
  where
    later : (i : ℕ) → suc i < 2 → (s : State) → IsState latch s → StepsInto latch (λ s. HoldsAt latch x_term s → ⊥) (set_at (unset ∷ idle ∷ []) i) s → s ∈ set_at (unset ∷ idle ∷ []) (suc i)
    later zero h s is_state (not, (t, next, step, there)) = elim (bits (value_in s 1) (is_state.typed 1 (record { name = []; values = []; line = 0 }) (lit< tt))) [
      | inl e ↦ and_from _ _ (zero_bit_of s is_state not) (is_zero s 1 e)
      | inr e ↦ absurd (no_both (value_in t 0) there (set_after_go s t step e))
    ]
    later (suc i) h s is_state into = absurd (omega arith)

goes_apart : (s : State) → IsState latch s → s ∈ everything → HoldsAt latch go_term s → s ∈ idle → ⊥
goes_apart s is_state here go there = no_both (value_in s 1) (and_parts (same (value_in s 0) (num 0)) (same (value_in s 1) (num 0)) there).1 (holds_value (value_in s 1) go)

pub is_shown : ShowsDelays latch go_term x_term latch_delays
is_shown = record {
  shortest = (
    record { closed = closed; apart = λ s is_state here go (i, l, there). absurd (omega arith) },
    record { first = λ h. absurd (omega arith); later = λ i h. absurd (omega arith) },
    record { run = run_before latch (state 0 1) (state 1 1 ∷ []) state_01 (steps (state 0 1) (state 1 1) (0, lit< tt, refl)) (run_of latch (state 1 1) state_11); initial = initial_01; there = lit< tt; holds = refl },
    refl,
    refl,
  );
  longest = (
    lit< tt,
    record { closed = closed; apart = goes_apart },
    waits,
    record { run = run_of latch (state 0 1) state_01; initial = initial_01; there = lit< tt; holds = refl },
    (refl, λ j g l holds. starts_unset j l holds),
  );
}
  where
    starts_unset : (j : ℕ) → j < 1 → HoldsAt latch x_term (get_or (state 0 1 ∷ []) j []) → ⊥
    starts_unset zero l holds = cc
    starts_unset (suc j) l holds = absurd (omega arith)

pub are_delays : IsShortest latch go_term x_term (delays.Steps 0) × IsLongest latch go_term x_term (delays.Steps 1)
are_delays = proofs_sound latch go_term x_term latch_delays is_shown

-- ---- one set is too few: where go is 1, x may still be 0

pub too_short_fails : (way : List State) (start : ℕ) → ShowsLongest latch (HoldsAt latch go_term) (HoldsAt latch x_term) (Longest.Steps everything (unset ∷ []) way start) → ⊥
too_short_fails way start (some, keeps, spread, comes, behind) = keeps.apart (state 0 1) state_01 refl refl refl
