-- What each rule proves of the paths that begin in its set.
use Rattle.std.proofs.Common.{◌≡◌, ◌⊎◌, inl, inr, ℕ, zero, suc, ◌<◌, ◌≤◌, List, sym, ◌∙◌, subst, arith, add-one}
use Rattle.kripke_model.specs.System.{System, State}
use Rattle.kripke_model.specs.Step.{IsState, Step}
use Rattle.kripke_model.specs.Path.{Lasso, at}
use Rattle.kripke_model.specs.Truth.{Next, Until, Exists, Always}
use Rattle.kripke_model.proofs.Lassos.{all_states, all_steps}
use Rattle.path_laws.specs.StateSet.{StateSet, ◌∈◌}
use Rattle.fair_rules.specs.SetLists.{set_at, InSome, IsInside, SomeNext, EachNext}
use Rattle.fair_rules.specs.ConstraintSets.{AreConstraintSets}
use Rattle.path_laws.specs.Fairness.{IsFairOver}
use Rattle.fair_rules.proofs.LassoWalk.{walk_over}
use Rattle.fair_rules.specs.Conclusions.{Release}
use Rattle.fair_rules.specs.Rules.{Layer, layer_at, InSomeLayer, InEarlierLayer, Stays, AreNonfair, IsFairSet, MeetsEX, MeetsAX, MeetsEU, MeetsAU, MeetsAR, MeetsER}
use Rattle.fair_rules.proofs.LassoCons.{after_state, at_first, at_later, fair_after}
use Rattle.fair_rules.proofs.Layers.{Leaves, leaves, nonfair_sound}
use Rattle.fair_rules.proofs.FairSets.{fair_set_sound}

abbrev pub In : StateSet → State → Type 0
In F s = s ∈ F

module _ (m : System) (count : ℕ) (C : ℕ → State → Type 0) (visited avoided : List StateSet) (sets : AreConstraintSets m count C visited avoided) where
  abbrev pub Fair : Lasso → Type 0
  Fair = IsFairOver m count C

  -- ---- some path

  module _ (fair : StateSet) (reaches : List (List StateSet)) (fair_set : IsFairSet m visited fair reaches) where
    -- a fair path from each state of the fair set
    begin : (s : State) → IsState m s → s ∈ fair → (p : Lasso) × Fair p × (at p 0 ≡ s) × ((n : ℕ) → at p n ∈ fair)
    begin s is_state inside = fair_set_sound m count C visited avoided sets fair reaches fair_set s is_state inside

    pub ex_sound : (f set : StateSet) → MeetsEX m fair f set → (s : State) → IsState m s → s ∈ set → Exists Fair (Next (In f)) s
    ex_sound f set rule s is_state inside =
        let x : SomeNext m (λ t. (t ∈ f) × t ∈ fair) s = rule s is_state inside in
        let b = begin x.0 x.1 x.3.1 in
        (after_state s b.0, fair_after m count C s b.0 is_state (subst (λ t. Step m s t) (sym b.2) x.2) b.1, at_first s b.0, subst (λ t. t ∈ f) (sym (at_later s b.0 0 ∙ b.2)) x.3.0)

    pub eu_sound : (f g : StateSet) (eu : List StateSet) → MeetsEU m fair f g eu → (s : State) → IsState m s → InSome eu s → Exists Fair (Until (In f) (In g)) s
    eu_sound f g eu rule s is_state (i, inside) = below (suc i) i s (omega arith) is_state inside
      where
        here : (s : State) → IsState m s → s ∈ set_at eu 0 → Exists Fair (Until (In f) (In g)) s
        here s is_state inside =
            let x = rule.first s is_state inside in
            let b = begin s is_state x.1 in
            (b.0, b.1, b.2, (0, subst (λ t. t ∈ g) (sym b.2) x.0, λ j l. absurd (omega arith)))

        longer : (s t : State) → IsState m s → s ∈ f → Step m s t → Exists Fair (Until (In f) (In g)) t → Exists Fair (Until (In f) (In g)) s
        longer s t is_state in_f step (p, fair_p, starts, (n, in_g, through)) =
            (after_state s p, fair_after m count C s p is_state (subst (λ t. Step m s t) (sym starts) step) fair_p, at_first s p, (suc n, subst (λ t. t ∈ g) (sym (at_later s p n)) in_g, before))
          where
            before : (i : ℕ) → i < suc n → at (after_state s p) i ∈ f
            before zero h = subst (λ t. t ∈ f) (sym (at_first s p)) in_f
            before (suc i) h = subst (λ t. t ∈ f) (sym (at_later s p i)) (through i (omega arith))

        below : (b i : ℕ) (s : State) → i < b → IsState m s → s ∈ set_at eu i → Exists Fair (Until (In f) (In g)) s
        below zero i s h is_state inside = absurd (omega arith)
        below (suc b) zero s h is_state inside = here s is_state inside
        below (suc b) (suc i) s h is_state inside =
            let x = rule.later (suc i) (omega arith) s is_state inside in
            longer s x.1.0 is_state x.0 x.1.2 (below b x.1.3.0 x.1.0 (omega (arith, x.1.3.1, h)) x.1.1 x.1.3.2)

    pub er_sound : (f g set : StateSet) (own : List (List StateSet)) (untils : List StateSet) → MeetsER m visited fair f g set own untils
        → (s : State) → IsState m s → (s ∈ set) ⊎ InSome untils s → Exists Fair (Release (In f) (In g)) s
    er_sound f g set own untils rule s is_state (inl inside) =
        let b = fair_set_sound m count C visited avoided sets set own rule.stays s is_state inside in
        (b.0, b.1, b.2, λ n. inl (rule.inside (at b.0 n) (all_states b.1.path n) (b.3 n)))
    er_sound f g set own untils rule s is_state (inr (i, inside)) = below (suc i) i s (omega arith) is_state inside
      where
        here : (s : State) → IsState m s → s ∈ set_at untils 0 → Exists Fair (Release (In f) (In g)) s
        here s is_state inside = (b.0, b.1, b.2, released)
          where
            x : (s ∈ f) × (s ∈ g) × s ∈ fair
            x = rule.until.first s is_state inside

            b : (p : Lasso) × Fair p × (at p 0 ≡ s) × ((n : ℕ) → at p n ∈ fair)
            b = begin s is_state x.2

            released : Release (In f) (In g) b.0
            released zero = inl (subst (λ t. t ∈ g) (sym b.2) x.1)
            released (suc n) = inr (0, omega arith, subst (λ t. t ∈ f) (sym b.2) x.0)

        longer : (s t : State) → IsState m s → s ∈ g → Step m s t → Exists Fair (Release (In f) (In g)) t → Exists Fair (Release (In f) (In g)) s
        longer s t is_state in_g step (p, fair_p, starts, release) =
            (after_state s p, fair_after m count C s p is_state (subst (λ t. Step m s t) (sym starts) step) fair_p, at_first s p, released)
          where
            released : Release (In f) (In g) (after_state s p)
            released zero = inl (subst (λ t. t ∈ g) (sym (at_first s p)) in_g)
            released (suc n) = elim (release n) [
              | inl there ↦ inl (subst (λ t. t ∈ g) (sym (at_later s p n)) there)
              | inr (i, l, freed) ↦ inr (suc i, omega arith, subst (λ t. t ∈ f) (sym (at_later s p i)) freed)
            ]

        below : (b i : ℕ) (s : State) → i < b → IsState m s → s ∈ set_at untils i → Exists Fair (Release (In f) (In g)) s
        below zero i s h is_state inside = absurd (omega arith)
        below (suc b) zero s h is_state inside = here s is_state inside
        below (suc b) (suc i) s h is_state inside =
            let x = rule.until.later (suc i) (omega arith) s is_state inside in
            longer s x.1.0 is_state x.0 x.1.2 (below b x.1.3.0 x.1.0 (omega (arith, x.1.3.1, h)) x.1.1 x.1.3.2)

  -- ---- every path

  module _ (nonfair : List Layer) (are_nonfair : AreNonfair m avoided nonfair) where
    never : (p : Lasso) → Fair p → (n : ℕ) → InSomeLayer nonfair (at p n) → ⊥
    never p fair n = nonfair_sound m count C visited avoided sets nonfair are_nonfair (at p) (walk_over m count C p fair) n

    pub ax_sound : (f set : StateSet) → MeetsAX m nonfair f set → (s : State) → IsState m s → s ∈ set → Always Fair (Next (In f)) s
    ax_sound f set rule s is_state inside p fair starts =
        elim (rule s is_state inside (at p 1) (all_states fair.path 1) (subst (λ t. Step m t (at p 1)) starts (all_steps fair.path 0))) [
          | inl there ↦ there
          | inr lost ↦ absurd (never p fair 1 lost)
        ]

    pub au_sound : (f g : StateSet) (layers : List Layer) → MeetsAU m avoided nonfair f g layers
        → (s : State) → IsState m s → (s ∈ g) ⊎ (InSomeLayer nonfair s ⊎ InSomeLayer layers s) → Always Fair (Until (In f) (In g)) s
    au_sound f g layers rule s is_state (inl there) p fair starts = (0, subst (λ t. t ∈ g) (sym starts) there, λ i h. absurd (omega arith))
    au_sound f g layers rule s is_state (inr (inl lost)) p fair starts = absurd (never p fair 0 (subst (λ t. InSomeLayer nonfair t) (sym starts) lost))
    au_sound f g layers rule s is_state (inr (inr inside)) p fair starts = done out
      where
        Out : State → Type 0
        Out t = (t ∈ g) ⊎ InSomeLayer nonfair t

        moves : (k : ℕ) → IsInside m (layer_at layers k).states (EachNext m (λ t. Out t ⊎ (InEarlierLayer layers k t ⊎ Stays avoided layers k t)))
        moves k s is_state here t next step = elim (rule.moves k s is_state here t next step) [
          | inl there ↦ inl (inl there)
          | inr (inl lost) ↦ inl (inr lost)
          | inr (inr more) ↦ inr more
        ]

        out : Leaves m count C visited avoided sets layers Out moves (at p) (walk_over m count C p fair) 0
        out = leaves m count C visited avoided sets layers Out moves (at p) (walk_over m count C p fair) 0 (subst (λ t. InSomeLayer layers t) (sym starts) inside)

        through : (k : ℕ) → ((j : ℕ) → 0 ≤ j → j < k → InSomeLayer layers (at p j)) → (i : ℕ) → i < k → at p i ∈ f
        through k in_layers i h = let x : InSomeLayer layers (at p i) = in_layers i (omega arith) h in rule.inside x.0 (at p i) (all_states fair.path i) x.1

        done : Leaves m count C visited avoided sets layers Out moves (at p) (walk_over m count C p fair) 0 → Until (In f) (In g) p
        done (k, l, inl there, in_layers) = (k, there, through k in_layers)
        done (k, l, inr lost, in_layers) = absurd (never p fair k lost)

    pub ar_sound : (f g set : StateSet) → MeetsAR m nonfair f g set
        → (s : State) → IsState m s → (s ∈ set) ⊎ InSomeLayer nonfair s → Always Fair (Release (In f) (In g)) s
    ar_sound f g set rule s is_state member p fair starts n = elim (holds n) [
      | inl inside ↦ inl (rule.inside (at p n) (all_states fair.path n) inside)
      | inr freed ↦ inr freed
    ]
      where
        Freed : ℕ → Type 0
        Freed n = (i : ℕ) × (i < n) × (at p i ∈ f)

        next : (n : ℕ) → (at p n ∈ set) ⊎ Freed n → (at p (suc n) ∈ set) ⊎ Freed (suc n)
        next n (inr (i, l, freed)) = inr (i, omega arith, freed)
        next n (inl inside) = elim (rule.moves (at p n) (all_states fair.path n) inside) [
          | inl freed ↦ inr (n, omega arith, freed)
          | inr each ↦ elim (each (at p (suc n)) (all_states fair.path (suc n)) (subst (λ k. Step m (at p n) (at p k)) (add-one n) (all_steps fair.path n))) [
            | inl there ↦ inl there
            | inr lost ↦ absurd (never p fair (suc n) lost)
          ]
        ]

        holds : (n : ℕ) → (at p n ∈ set) ⊎ Freed n
        holds zero = elim member [
          | inl inside ↦ inl (subst (λ t. t ∈ set) (sym starts) inside)
          | inr lost ↦ absurd (never p fair 0 (subst (λ t. InSomeLayer nonfair t) (sym starts) lost))
        ]
        holds (suc n) = next n (holds n)
