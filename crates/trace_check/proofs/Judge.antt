-- What is found of a trace.
use Rattle.std.proofs.Common.{◌≡◌, ◌⊎◌, inl, inr, ℕ, zero, suc, ◌-◌, ◌<◌, ◌≤◌, Bool, true, false, List, [], ◌∷◌, length, get_or, refl, sym, ap, subst, arith}
use Rattle.std.specs.Prelude.{All, Any, IsTrue, IsSome, IsSomeAnd, MatchOption, Option, None, Some, slice_get}
use Rattle.std.proofs.lemmas.Bool.{cases_lt, cases_eq}
use Rattle.std.proofs.lemmas.List.{get_or_default}
use Rattle.std.proofs.lemmas.List.Elements.{All-cons}
use Rattle.kripke_model.specs.Ctl.{Ctl, formula_of}
use Rattle.kripke_model.specs.Falsifies.{is_traceable}
use Rattle.kripke_model.specs.Path.{Lasso, at, member_count, IsPath}
use Rattle.kripke_model.specs.Step.{IsState, Initial}
use Rattle.kripke_model.specs.System.{System, Condition, constraint_count, IsConstraint}
use Rattle.kripke_model.specs.Truth.{IsFair, FreeSat, Initials}
use Rattle.kripke_model.proofs.Lassos.{all_states}
use Rattle.kripke_model.proofs.WalkLemmas.{fair_walk}
use Rattle.fair_rules.proofs.Falsified.{falsified_false}
use Rattle.proof_form.specs.Shape.{spec_formula}
use Rattle.trace_files.specs.Trace.{Trace, members}
use Rattle.trace_files.specs.Spells.{IsTrace}
use Rattle.trace_check.specs.Judged.{IsWitness, StepsAt, IsFirstBreak, MeetsOnCycle, IsFirstUnmet, IsJudged, JudgedAs, WitnessOf, IsFalse}
use Rattle.trace_check.specs.declared.judged.Judged.{Judged}
use Rattle.trace_check.specs.declared.judged.Judged.TheVariants as found
use Rattle.trace_check.proofs.Members.{count_members, member_at, some_map, spec_there}

module _ (m : System) (p : Lasso) where
  -- ---- constraints on the cycle

  abbrev OnCycle : Option Condition → Type 0
  OnCycle o = Any (λ s. MatchOption o (Unit {0}) (λ c. FreeSat m (formula_of c.expr) s)) p.cycle

  met_each : (cs : List Condition) (i : ℕ) → 0 < length p.cycle → All (λ c. Any (FreeSat m (formula_of c.expr)) p.cycle) cs → OnCycle (slice_get cs i)
  met_each [] i loops h = (0, get_or p.cycle 0 [], loops, get_or_default p.cycle 0 (get_or p.cycle 0 []) [] loops, tt)
  met_each (c ∷ cs) zero loops h = h 0 c (omega arith)
  met_each (c ∷ cs) (suc i) loops h = met_each cs i loops (λ k d l. h (suc k) d (omega arith))

  pub fair_meets : IsFair m p → (k : ℕ) → MeetsOnCycle m p k
  fair_meets fair k = met_each m.constraints (k - 1) fair.path.loops fair.met

  each_met : (cs : List Condition) → ((i : ℕ) → i < length cs → OnCycle (slice_get cs i)) → All (λ c. Any (FreeSat m (formula_of c.expr)) p.cycle) cs
  each_met [] h = λ k d l. absurd (omega arith)
  each_met (c ∷ cs) h = All-cons (λ d. Any (FreeSat m (formula_of d.expr)) p.cycle) c cs (h 0 (omega arith)) (each_met cs (λ i less. h (suc i) (omega arith)))

  pub all_met : ((k : ℕ) → IsConstraint m k → MeetsOnCycle m p k) → All (λ c. Any (FreeSat m (formula_of c.expr)) p.cycle) m.constraints
  all_met h = each_met m.constraints (λ i l. subst (λ k. OnCycle (slice_get m.constraints k)) (let e : suc i - 1 ≡ i = omega arith in e) (h (suc i) (omega arith, omega arith)))

  module _ (f : Ctl) where
    -- ---- one thing is found

    first_break : (n j : ℕ) → IsFirstBreak m p n → IsFirstBreak m p j → n ≡ j
    first_break n j h k = elim (cases_lt n j) [
      | inl l ↦ absurd (h.breaks (k.before n l))
      | inr g ↦ elim (cases_lt j n) [ inl l ↦ absurd (k.breaks (h.before j l)) | inr g' ↦ omega arith ]
    ]

    first_unmet : (n j : ℕ) → IsFirstUnmet m p n → IsFirstUnmet m p j → n ≡ j
    first_unmet n j h k = elim (cases_lt n j) [
      | inl l ↦ absurd (h.unmet (k.before n h.known l))
      | inr g ↦ elim (cases_lt j n) [ inl l ↦ absurd (k.unmet (h.before j k.known l)) | inr g' ↦ omega arith ]
    ]

    breaks_path : (n : ℕ) → IsFirstBreak m p n → IsPath m p → ⊥
    breaks_path n h path = h.breaks (path.steps n h.within)

    pub unmet_fair : (n : ℕ) → IsFirstUnmet m p n → IsFair m p → ⊥
    unmet_fair n h fair = h.unmet (fair_meets fair n)

    pub one_found : (j k : Judged) → IsJudged m f p j → IsJudged m f p k → j ≡ k
    one_found found.Shape found.Shape h k = refl
    one_found found.Shape found.Initial h k = absurd (h k.0)
    one_found found.Shape (found.Step n) h k = absurd (h k.0)
    one_found found.Shape (found.Unfair n) h k = absurd (h k.0)
    one_found found.Shape found.Property h k = absurd (h k.0)
    one_found found.Shape found.Accepted h k = absurd (h k.traceable)
    one_found found.Initial found.Shape h k = absurd (k h.0)
    one_found found.Initial found.Initial h k = refl
    one_found found.Initial (found.Step n) h k = absurd (h.1 k.1)
    one_found found.Initial (found.Unfair n) h k = absurd (h.1 k.1)
    one_found found.Initial found.Property h k = absurd (h.1 k.1)
    one_found found.Initial found.Accepted h k = absurd (h.1 k.initial)
    one_found (found.Step n) found.Shape h k = absurd (k h.0)
    one_found (found.Step n) found.Initial h k = absurd (k.1 h.1)
    one_found (found.Step n) (found.Step j) h k = ap found.Step (first_break n j h.2 k.2)
    one_found (found.Step n) (found.Unfair j) h k = absurd (breaks_path n h.2 k.2)
    one_found (found.Step n) found.Property h k = absurd (breaks_path n h.2 k.2.path)
    one_found (found.Step n) found.Accepted h k = absurd (breaks_path n h.2 k.fair.path)
    one_found (found.Unfair n) found.Shape h k = absurd (k h.0)
    one_found (found.Unfair n) found.Initial h k = absurd (k.1 h.1)
    one_found (found.Unfair n) (found.Step j) h k = absurd (breaks_path j k.2 h.2)
    one_found (found.Unfair n) (found.Unfair j) h k = ap found.Unfair (first_unmet n j h.3 k.3)
    one_found (found.Unfair n) found.Property h k = absurd (unmet_fair n h.3 k.2)
    one_found (found.Unfair n) found.Accepted h k = absurd (unmet_fair n h.3 k.fair)
    one_found found.Property found.Shape h k = absurd (k h.0)
    one_found found.Property found.Initial h k = absurd (k.1 h.1)
    one_found found.Property (found.Step n) h k = absurd (breaks_path n k.2 h.2.path)
    one_found found.Property (found.Unfair n) h k = absurd (unmet_fair n k.3 h.2)
    one_found found.Property found.Property h k = refl
    one_found found.Property found.Accepted h k = absurd (h.3 k.falsifies)
    one_found found.Accepted found.Shape h k = absurd (k h.traceable)
    one_found found.Accepted found.Initial h k = absurd (k.1 h.initial)
    one_found found.Accepted (found.Step n) h k = absurd (breaks_path n k.2 h.fair.path)
    one_found found.Accepted (found.Unfair n) h k = absurd (unmet_fair n k.3 h.fair)
    one_found found.Accepted found.Property h k = absurd (k.3 h.falsifies)
    one_found found.Accepted found.Accepted h k = refl

    -- ---- and something is

    module _ (states : All (IsState m) (members p)) (loops : 0 < length p.cycle) (none : (j : Judged) → IsJudged m f p j → ⊥) where
      traceable_or_not : (b : Bool) → (IsTrue b → ⊥) ⊎ IsTrue b
      traceable_or_not true = inr refl
      traceable_or_not false = inl (λ e. absurd cc)

      abbrev AllStep : ℕ → Type 0
      AllStep b = (k : ℕ) → k < b → StepsAt m p k

      abbrev AllMet : ℕ → Type 0
      AllMet b = (k : ℕ) → IsConstraint m k → k ≤ b → MeetsOnCycle m p k

      module _ (traceable : IsTrue (is_traceable f)) (initial : Initial m (at p 0)) where
        steps_on : (b : ℕ) → b ≤ member_count p → (AllStep b → ⊥) → ⊥
        steps_on zero l fails = fails (λ k h. absurd (omega arith))
        steps_on (suc b) l fails = steps_on b (omega arith) (λ before.
            none (found.Step b) (traceable, initial, record { within = omega arith; breaks = λ step. fails (more before step); before = before }))
          where
            more : AllStep b → StepsAt m p b → AllStep (suc b)
            more before step k h = elim (cases_eq k b) [ inl e ↦ subst (StepsAt m p) (sym e) step | inr apart ↦ before k (omega arith) ]

        path_of : AllStep (member_count p) → IsPath m p
        path_of steps = record {
          loops = loops;
          states = λ n h. subst (IsState m) (member_at p n h) (states n [] (omega (arith, count_members p)));
          steps = steps;
        }

        meets_on : IsPath m p → (b : ℕ) → (AllMet b → ⊥) → ⊥
        meets_on path zero fails = fails (λ k known h. absurd (omega (arith, known.0)))
        meets_on path (suc b) fails = meets_on path b (λ before. elim (cases_lt (constraint_count m) (suc b)) [
          | inl past ↦ fails (λ k known h. before k known (omega (arith, known.1)))
          | inr within ↦ none (found.Unfair (suc b)) (
            traceable,
            initial,
            path,
            record {
              known = (omega arith, omega arith);
              unmet = λ met. fails (more before met);
              before = λ k known h. before k known (omega arith);
            },
          )
        ])
          where
            more : AllMet b → MeetsOnCycle m p (suc b) → AllMet (suc b)
            more before met k known h = elim (cases_eq k (suc b)) [ inl e ↦ subst (MeetsOnCycle m p) (sym e) met | inr apart ↦ before k known (omega arith) ]

        nothing_wrong : IsFair m p → ⊥
        nothing_wrong fair = none found.Property (traceable, initial, fair, λ falsifies. none found.Accepted (record { traceable = traceable; initial = initial; fair = fair; falsifies = falsifies }))

        some_from : ⊥
        some_from = steps_on (member_count p) (omega arith) (λ steps.
            let path = path_of steps in
            meets_on path (constraint_count m) (λ met. nothing_wrong (record { path = path; met = all_met (λ k known. met k known known.1) })))

      pub some_found : ⊥
      some_found = elim (traceable_or_not (is_traceable f)) [
        | inl not ↦ none found.Shape not
        | inr traceable ↦ none found.Initial (traceable, λ initial. some_from traceable initial)
      ]

    -- ---- an accepted trace

    pub witness_false : IsWitness m f p → Initials m f → ⊥
    witness_false w true_at = falsified_false m (at p) (fair_walk m p w.fair) f 0 w.falsifies (true_at (at p 0) (all_states w.fair.path 0) w.initial)

-- ---- of a trace file

module _ (m : System) (t : Trace) where
  both_found : (o : Option Ctl) (j k : Judged) → IsSomeAnd o (λ f. IsJudged m f t.lasso j) → IsSomeAnd o (λ f. IsJudged m f t.lasso k) → j ≡ k
  both_found (Some f) j k h i = one_found m t.lasso f j k h i
  both_found None j k h i = absurd h

  pub one_judged : (j k : Judged) → JudgedAs m t j → JudgedAs m t k → j ≡ k
  one_judged j k h i = both_found (spec_formula m t.spec) j k h i

  some_of : (o : Option Ctl) → IsSome o → All (IsState m) (members t.lasso) → 0 < length t.lasso.cycle → ((j : Judged) → IsSomeAnd o (λ f. IsJudged m f t.lasso j) → ⊥) → ⊥
  some_of (Some f) there states loops none = some_found m t.lasso f states loops none
  some_of None there states loops none = absurd (cc)

  pub some_judged : IsTrace m t → ((j : Judged) → JudgedAs m t j → ⊥) → ⊥
  some_judged trace none = some_of (spec_formula m t.spec) (spec_there m t.spec trace.spec) trace.lasso.states trace.lasso.loops none

  pub accepted_false : WitnessOf m t → IsFalse m t
  accepted_false h = some_map (spec_formula m t.spec) (λ f w. witness_false m t.lasso f w) h
