-- The lines of a list of sets hold exactly where the list meets its rule.
use Rattle.std.proofs.Common.{◌⊎◌, ◌↔◌, inl, inr, ℕ, zero, suc, ◌+◌, ◌<◌, ◌&&◌, ◌||◌, List, [], ◌∷◌, ◌++◌, length, sym, subst, arith}
use Rattle.std.specs.Prelude.{All}
use Rattle.std.proofs.lemmas.Bool.{false≢true, or_cases, and_parts, and_from, or_left, or_right, cases_lt}
use Rattle.std.proofs.lemmas.List.Elements.{All-nil, All-cons}
use Rattle.std.proofs.lemmas.List.{get_or_append_left, get_or-append-add, get_or_past}
use Rattle.kripke_model.specs.System.{System, State}
use Rattle.path_laws.specs.StateSet.{StateSet, ◌∈◌}
use Rattle.fair_rules.specs.SetLists.{nothing, set_at, InSome, InEarlier, IsInside, SomeNext, EachNext}
use Rattle.fair_rules.specs.Rules.{Layer, layer_at, reach_at, InEarlierLayer, Stays, AreReachSets, IsFairSet}
use Rattle.fair_rules.specs.Claims.{either, both, join}
use Rattle.fair_rules.specs.Checks.{Check, IsMet, AllHold, layer_lines, step_lines, until_lines, reach_lines}
use Rattle.fair_rules.proofs.ClaimsSound.{in_join}
use Rattle.fair_rules.proofs.Fixpoints.{join_in}

-- ---- lines one after another

pub hold_left : (m : System) (xs ys : List (List Check)) → AllHold m (xs ++ ys) → AllHold m xs
hold_left m xs ys h n = elim (cases_lt n (length xs)) [
  | inl l ↦ subst (λ (cs : List Check). All (IsMet m) cs) (get_or_append_left xs ys [] n l) (h n)
  | inr g ↦ subst (λ (cs : List Check). All (IsMet m) cs) (sym (get_or_past xs n [] g)) (All-nil (IsMet m))
]

pub hold_right : (m : System) (xs ys : List (List Check)) → AllHold m (xs ++ ys) → AllHold m ys
hold_right m xs ys h n = subst (λ (cs : List Check). All (IsMet m) cs) (get_or-append-add xs ys n []) (h (length xs + n))

pub hold_both : (m : System) (xs ys : List (List Check)) → AllHold m xs → AllHold m ys → AllHold m (xs ++ ys)
hold_both m [] ys h k n = k n
hold_both m (x ∷ xs) ys h k zero = h zero
hold_both m (x ∷ xs) ys h k (suc n) = hold_both m xs ys (λ i. h (suc i)) k n

abbrev pub none : Check
none = Check.Inside nothing nothing

pub one_check : (m : System) (a : Check) → IsMet m a → All (IsMet m) (a ∷ [])
one_check m a h = All-cons (IsMet m) a [] h (All-nil (IsMet m))

pub two_checks : (m : System) (a b : Check) → IsMet m a → IsMet m b → All (IsMet m) (a ∷ b ∷ [])
two_checks m a b h k = All-cons (IsMet m) a (b ∷ []) h (one_check m b k)

-- ---- layers

-- what the lines say of layer k, where `earlier` stands before the first
abbrev pub LayerMoves : System → List StateSet → StateSet → StateSet → List Layer → ℕ → Type 0
LayerMoves m avoided out earlier layers k =
    IsInside m (layer_at layers k).states (EachNext m (λ t. (t ∈ out) ⊎ ((t ∈ earlier) ⊎ (InEarlierLayer layers k t ⊎ Stays avoided layers k t))))

pub layer_moves : (m : System) (avoided : List StateSet) (f out earlier : StateSet) (layers : List Layer) → AllHold m (layer_lines avoided f out earlier layers)
    → (k : ℕ) → IsInside m (layer_at layers k).states (λ s. s ∈ f) × LayerMoves m avoided out earlier layers k
layer_moves m avoided f out earlier [] h k = (λ s is_state e. absurd (false≢true e), λ s is_state e. absurd (false≢true e))
layer_moves m avoided f out earlier (l ∷ layers) h zero = (
  h 0 0 none (omega arith),
  λ s is_state e t next step.
      let x = h 0 1 none (omega arith) s is_state e t next step in
      elim (or_cases (out t) (earlier t || (l.states t && set_at avoided l.avoided t)) x) [
        | inl there ↦ inl there
        | inr more ↦ elim (or_cases (earlier t) (l.states t && set_at avoided l.avoided t) more) [
          | inl before ↦ inr (inl before)
          | inr stays ↦ inr (inr (inr (and_parts (l.states t) (set_at avoided l.avoided t) stays)))
        ]
      ],
)
layer_moves m avoided f out earlier (l ∷ layers) h (suc k) =
    let r = layer_moves m avoided f out (either earlier l.states) layers (λ n. h (suc n)) k in (
      r.0,
      λ s is_state e t next step. elim (r.1 s is_state e t next step) [
        | inl there ↦ inl there
        | inr (inl before) ↦ elim (or_cases (earlier t) (l.states t) before) [
          | inl before ↦ inr (inl before)
          | inr here ↦ inr (inr (inl (0, omega arith, here)))
        ]
        | inr (inr (inl (i, less, there))) ↦ inr (inr (inl (suc i, omega arith, there)))
        | inr (inr (inr stays)) ↦ inr (inr (inr stays))
      ],
    )

pub layer_hold : (m : System) (avoided : List StateSet) (f out earlier : StateSet) (layers : List Layer)
    → ((k : ℕ) → IsInside m (layer_at layers k).states (λ s. s ∈ f)) → ((k : ℕ) → LayerMoves m avoided out earlier layers k)
    → AllHold m (layer_lines avoided f out earlier layers)
layer_hold m avoided f out earlier [] inside moves n = All-nil (IsMet m)
layer_hold m avoided f out earlier (l ∷ layers) inside moves zero =
    two_checks m _ _ (inside 0) (λ s is_state e t next step. elim (moves 0 s is_state e t next step) [
      | inl there ↦ or_left _ _ there
      | inr (inl before) ↦ or_right _ _ (or_left _ _ before)
      | inr (inr (inl (i, less, there))) ↦ absurd (omega arith)
      | inr (inr (inr (here, apart))) ↦ or_right _ _ (or_right _ _ (and_from _ _ here apart))
    ])
layer_hold m avoided f out earlier (l ∷ layers) inside moves (suc n) =
    layer_hold m avoided f out (either earlier l.states) layers (λ k. inside (suc k)) shifted n
  where
    shifted : (k : ℕ) → LayerMoves m avoided out (either earlier l.states) layers k
    shifted k s is_state e t next step = elim (moves (suc k) s is_state e t next step) [
      | inl there ↦ inl there
      | inr (inl before) ↦ inr (inl (or_left (earlier t) (l.states t) before))
      | inr (inr (inl (zero, less, there))) ↦ inr (inl (or_right (earlier t) (l.states t) there))
      | inr (inr (inl (suc i, less, there))) ↦ inr (inr (inl (i, omega arith, there)))
      | inr (inr (inr stays)) ↦ inr (inr (inr stays))
    ]

-- ---- sets that each lead to an earlier one

-- what the lines say of set k
abbrev StepsFrom : System → StateSet → StateSet → StateSet → List StateSet → ℕ → Type 0
StepsFrom m f first earlier sets k =
    IsInside m (set_at sets k) (λ s. (s ∈ f) × SomeNext m (λ t. (t ∈ first) ⊎ ((t ∈ earlier) ⊎ InEarlier sets k t)) s)

steps_from : (m : System) (f first earlier : StateSet) (sets : List StateSet) → AllHold m (step_lines f first earlier sets) → (k : ℕ) → StepsFrom m f first earlier sets k
steps_from m f first earlier [] h k s is_state e = absurd (false≢true e)
steps_from m f first earlier (set ∷ sets) h zero s is_state e =
    let x : SomeNext m (λ t. t ∈ either first earlier) s = h 0 1 none (omega arith) s is_state e in
    (h 0 0 none (omega arith) s is_state e, (x.0, x.1, x.2, elim (or_cases (first x.0) (earlier x.0) x.3) [ inl there ↦ inl there | inr before ↦ inr (inl before) ]))
steps_from m f first earlier (set ∷ sets) h (suc k) s is_state e =
    let r : (s ∈ f) × SomeNext m (λ t. (t ∈ first) ⊎ ((t ∈ either earlier set) ⊎ InEarlier sets k t)) s = steps_from m f first (either earlier set) sets (λ n. h (suc n)) k s is_state e in (
      r.0,
      (
        r.1.0,
        r.1.1,
        r.1.2,
        elim r.1.3 [
          | inl there ↦ inl there
          | inr (inl before) ↦ elim (or_cases (earlier r.1.0) (set r.1.0) before) [ inl before ↦ inr (inl before) | inr here ↦ inr (inr (0, omega arith, here)) ]
          | inr (inr (i, less, there)) ↦ inr (inr (suc i, omega arith, there))
        ],
      ),
    )

steps_hold : (m : System) (f first earlier : StateSet) (sets : List StateSet) → ((k : ℕ) → StepsFrom m f first earlier sets k) → AllHold m (step_lines f first earlier sets)
steps_hold m f first earlier [] steps n = All-nil (IsMet m)
steps_hold m f first earlier (set ∷ sets) steps zero =
    two_checks m (Check.Inside set f) (Check.Leads set (either first earlier)) (λ s is_state e. (steps 0 s is_state e).0) (λ s is_state e.
    let x : SomeNext m (λ t. (t ∈ first) ⊎ ((t ∈ earlier) ⊎ InEarlier (set ∷ sets) 0 t)) s = (steps 0 s is_state e).1 in (
      x.0,
      x.1,
      x.2,
      elim x.3 [
        | inl there ↦ or_left (first x.0) (earlier x.0) there
        | inr (inl before) ↦ or_right (first x.0) (earlier x.0) before
        | inr (inr (i, less, there)) ↦ absurd (omega arith)
      ],
    ))
steps_hold m f first earlier (set ∷ sets) steps (suc n) = steps_hold m f first (either earlier set) sets shifted n
  where
    shifted : (k : ℕ) → StepsFrom m f first (either earlier set) sets k
    shifted k s is_state e =
        let r : (s ∈ f) × SomeNext m (λ t. (t ∈ first) ⊎ ((t ∈ earlier) ⊎ InEarlier (set ∷ sets) (suc k) t)) s = steps (suc k) s is_state e in (
          r.0,
          (
            r.1.0,
            r.1.1,
            r.1.2,
            elim r.1.3 [
              | inl there ↦ inl there
              | inr (inl before) ↦ inr (inl (or_left (earlier r.1.0) (set r.1.0) before))
              | inr (inr (zero, less, there)) ↦ inr (inl (or_right (earlier r.1.0) (set r.1.0) there))
              | inr (inr (suc i, less, there)) ↦ inr (inr (i, omega arith, there))
            ],
          ),
        )

-- ---- sets under `until`, and those of rule EU

abbrev pub UntilSets : System → StateSet → StateSet → List StateSet → Type 0
UntilSets m f first sets =
    IsInside m (set_at sets 0) (λ s. s ∈ first) × ((k : ℕ) → 0 < k → IsInside m (set_at sets k) (λ s. (s ∈ f) × SomeNext m (InEarlier sets k) s))

pub until_lines_hold : (m : System) (f first : StateSet) (sets : List StateSet) → AllHold m (until_lines f first sets) ↔ UntilSets m f first sets
until_lines_hold m f first [] = (λ h. (λ s is_state e. absurd (false≢true e), λ k l s is_state e. absurd (false≢true e)), λ h n. All-nil (IsMet m))
until_lines_hold m f first (set ∷ sets) = (λ h. (h 0 0 none (omega arith), there h), back)
  where
    there : AllHold m (until_lines f first (set ∷ sets)) → (k : ℕ) → 0 < k → IsInside m (set_at (set ∷ sets) k) (λ s. (s ∈ f) × SomeNext m (InEarlier (set ∷ sets) k) s)
    there h zero l s is_state e = absurd (omega arith)
    there h (suc k) l s is_state e =
        let r : (s ∈ f) × SomeNext m (λ t. (t ∈ nothing) ⊎ ((t ∈ set) ⊎ InEarlier sets k t)) s = steps_from m f nothing set sets (λ n. h (suc n)) k s is_state e in (
          r.0,
          (
            r.1.0,
            r.1.1,
            r.1.2,
            elim r.1.3 [
              | inl never ↦ absurd (false≢true never)
              | inr (inl here) ↦ (0, omega arith, here)
              | inr (inr (i, less, at_i)) ↦ (suc i, omega arith, at_i)
            ],
          ),
        )

    shifted : UntilSets m f first (set ∷ sets) → (k : ℕ) → StepsFrom m f nothing set sets k
    shifted u k s is_state e =
        let r : (s ∈ f) × SomeNext m (InEarlier (set ∷ sets) (suc k)) s = u.1 (suc k) (omega arith) s is_state e in
        (r.0, (r.1.0, r.1.1, r.1.2, go r.1.0 r.1.3))
      where
        go : (t : State) → InEarlier (set ∷ sets) (suc k) t → (t ∈ nothing) ⊎ ((t ∈ set) ⊎ InEarlier sets k t)
        go t (zero, less, here) = inr (inl here)
        go t (suc i, less, at_i) = inr (inr (i, omega arith, at_i))

    back : UntilSets m f first (set ∷ sets) → AllHold m (until_lines f first (set ∷ sets))
    back u zero = one_check m (Check.Inside set first) u.0
    back u (suc n) = steps_hold m f nothing set sets (shifted u) n

-- ---- fair sets

-- what the rule says of one constraint
abbrev ReachFor : System → StateSet → StateSet → List StateSet → Type 0
ReachFor m visit set sets =
    IsInside m set (InSome sets) × AreReachSets m visit set sets

reach_for : (m : System) (visit set : StateSet) (sets : List StateSet) → IsInside m set (λ s. s ∈ join sets) → AllHold m (step_lines set (both set visit) nothing sets) → ReachFor m visit set sets
reach_for m visit set sets whole h = (
  λ s is_state e. in_join sets s (whole s is_state e),
  record {
    inside = λ i s is_state e. (steps_from m set (both set visit) nothing sets h i s is_state e).0;
    moves = λ i s is_state e.
        let r : SomeNext m (λ t. (t ∈ both set visit) ⊎ ((t ∈ nothing) ⊎ InEarlier sets i t)) s = (steps_from m set (both set visit) nothing sets h i s is_state e).1 in (
          r.0,
          r.1,
          r.2,
          elim r.3 [
            | inl there ↦ inl (and_parts (set r.0) (visit r.0) there)
            | inr (inl never) ↦ absurd (false≢true never)
            | inr (inr before) ↦ inr before
          ],
        );
  },
)

reach_hold : (m : System) (visit set : StateSet) (sets : List StateSet) → ReachFor m visit set sets → AllHold m (step_lines set (both set visit) nothing sets)
reach_hold m visit set sets (covered, leads) = steps_hold m set (both set visit) nothing sets (λ k s is_state e.
    let x : SomeNext m (λ t. ((t ∈ set) × t ∈ visit) ⊎ InEarlier sets k t) s = leads.moves k s is_state e in (
      leads.inside k s is_state e,
      (
        x.0,
        x.1,
        x.2,
        elim x.3 [
          | inl (there, met) ↦ inl (and_from (set x.0) (visit x.0) there met)
          | inr before ↦ inr (inr before)
        ],
      ),
    ))

reach_lines_each : (m : System) (set : StateSet) (visited : List StateSet) (reaches : List (List StateSet)) → AllHold m (reach_lines set visited reaches)
    → (k : ℕ) → k < length visited → ReachFor m (set_at visited k) set (reach_at reaches k)
reach_lines_each m set [] reaches h k l = absurd (omega arith)
reach_lines_each m set (visit ∷ visited) [] h zero l =
    (λ s is_state e. absurd (false≢true (h 0 0 none (omega arith) s is_state e)), record { inside = λ i s is_state e. absurd (false≢true e); moves = λ i s is_state e. absurd (false≢true e) })
reach_lines_each m set (visit ∷ visited) [] h (suc k) l = reach_lines_each m set visited [] (λ n. h (suc n)) k (omega arith)
reach_lines_each m set (visit ∷ visited) (sets ∷ reaches) h zero l =
    reach_for m visit set sets (h 0 0 none (omega arith)) (hold_left m (step_lines set (both set visit) nothing sets) (reach_lines set visited reaches) (λ n. h (suc n)))
reach_lines_each m set (visit ∷ visited) (sets ∷ reaches) h (suc k) l =
    reach_lines_each m set visited reaches (hold_right m (step_lines set (both set visit) nothing sets) (reach_lines set visited reaches) (λ n. h (suc n))) k (omega arith)

reach_lines_back : (m : System) (set : StateSet) (visited : List StateSet) (reaches : List (List StateSet))
    → ((k : ℕ) → k < length visited → ReachFor m (set_at visited k) set (reach_at reaches k)) → AllHold m (reach_lines set visited reaches)
reach_lines_back m set [] reaches each n = All-nil (IsMet m)
reach_lines_back m set (visit ∷ visited) [] each zero =
    one_check m (Check.Inside set nothing) (λ s is_state e. ((each 0 (omega arith)).0 s is_state e).1)
reach_lines_back m set (visit ∷ visited) [] each (suc n) = reach_lines_back m set visited [] (λ k l. each (suc k) (omega arith)) n
reach_lines_back m set (visit ∷ visited) (sets ∷ reaches) each zero =
    one_check m (Check.Inside set (join sets)) (λ s is_state e. join_in sets s ((each 0 (omega arith)).0 s is_state e))
reach_lines_back m set (visit ∷ visited) (sets ∷ reaches) each (suc n) =
    hold_both m (step_lines set (both set visit) nothing sets) (reach_lines set visited reaches) (reach_hold m visit set sets (each 0 (omega arith)))
    (reach_lines_back m set visited reaches (λ k l. each (suc k) (omega arith))) n

pub reach_lines_hold : (m : System) (set : StateSet) (visited : List StateSet) (reaches : List (List StateSet)) → AllHold m (reach_lines set visited reaches) ↔ IsFairSet m visited set reaches
reach_lines_hold m set visited reaches = (
  λ h. record {
    covered = λ k l. (reach_lines_each m set visited reaches h k l).0;
    leads = λ k l. (reach_lines_each m set visited reaches h k l).1;
  },
  λ fair. reach_lines_back m set visited reaches (λ k l. (fair.covered k l, fair.leads k l)),
)
