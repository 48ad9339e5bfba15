-- From each state of a fair set a fair lasso begins that stays in the set.
use Rattle.std.proofs.Common.{◌≡◌, ◌⊎◌, inl, inr, ℕ, zero, suc, ◌+◌, ◌-◌, ◌<◌, ◌≤◌, cond, ltb, List, length, refl, sym, ◌∙◌, ap, subst, arith, add-one}
use Rattle.std.proofs.lemmas.Bool.{lt-ltb, le-ltb, cond-true, cond-false}
use Rattle.kripke_model.specs.System.{System, State}
use Rattle.kripke_model.specs.Step.{IsState, Step}
use Rattle.kripke_model.specs.Path.{Lasso, at}
use Rattle.path_laws.specs.StateSet.{StateSet, ◌∈◌}
use Rattle.fair_rules.specs.SetLists.{set_at, InSome, InEarlier}
use Rattle.fair_rules.specs.ConstraintSets.{AreConstraintSets}
use Rattle.path_laws.specs.Fairness.{IsFairOver, IsWalkOver}
use Rattle.fair_rules.specs.Rules.{reach_at, IsFairSet}
use Rattle.path_laws.proofs.WalkLasso.{Follows, walk_lasso}

-- the number after k of the numbers below n, round and round
abbrev after : ℕ → ℕ → ℕ
after n k = cond (ltb (k + 1) n) (k + 1) 0

after_small : (n k : ℕ) → k + 1 < n → after n k ≡ k + 1
after_small n k h = cond-true (ltb (k + 1) n) (k + 1) 0 (lt-ltb (k + 1) n h)

after_last : (n k : ℕ) → n ≤ k + 1 → after n k ≡ 0
after_last n k h = cond-false (ltb (k + 1) n) (k + 1) 0 (le-ltb (k + 1) n h)

-- a state of the set, on its way to the constraint `target` down its reach sets
record Place (m : System) (visited : List StateSet) (set : StateSet) (reaches : List (List StateSet)) : Type 0 where
  state : State
  is_state : IsState m state
  inside : state ∈ set
  target : ℕ
  wanted : target < length visited
  index : ℕ
  reached : state ∈ set_at (reach_at reaches target) index

module _ (m : System) (visited : List StateSet) (set : StateSet) (reaches : List (List StateSet)) (some : 0 < length visited) (rule : IsFairSet m visited set reaches) where
  abbrev Here : Type 0
  Here = Place m visited set reaches

  after_wanted : (k : ℕ) → after (length visited) k < length visited
  after_wanted k = grind (arith, after_small (length visited) k, after_last (length visited) k, some)

  -- towards the same target, or it is met and the next one follows
  abbrev Moved : Here → Here → Type 0
  Moved x y = Step m x.state y.state × ((y.state ∈ set_at visited x.target) × (y.target ≡ after (length visited) x.target) ⊎ (y.target ≡ x.target) × (y.index < x.index))

  step_from : (x : Here) → (y : Here) × Moved x y
  step_from x = go ((rule.leads x.target x.wanted).moves x.index x.state x.is_state x.reached)
    where
      go : (t : State) × IsState m t × Step m x.state t × (((t ∈ set) × t ∈ set_at visited x.target) ⊎ InEarlier (reach_at reaches x.target) x.index t) → (y : Here) × Moved x y
      go (t, is_state, step, inl (inside, met)) =
          let k : ℕ = after (length visited) x.target in
          let r : InSome (reach_at reaches k) t = rule.covered k (after_wanted x.target) t is_state inside in
          (record { state = t; is_state = is_state; inside = inside; target = k; wanted = after_wanted x.target; index = r.0; reached = r.1 }, (step, inl (met, refl)))
      go (t, is_state, step, inr (i, l, there)) =
          (record { state = t; is_state = is_state; inside = (rule.leads x.target x.wanted).inside i t is_state there; target = x.target; wanted = x.wanted; index = i; reached = there }, (step, inr (refl, l)))

  abbrev place : Here → ℕ → Here
  place x zero = x
  place x (suc n) = (step_from (place x n)).0

  moved : (x : Here) (n : ℕ) → Moved (place x n) (place x (suc n))
  moved x n = (step_from (place x n)).1

  module _ (x : Here) where
    -- the target of place n is met later
    abbrev Meets : ℕ → Type 0
    Meets n = (k : ℕ) × (n < k) × ((place x k).state ∈ set_at visited (place x n).target) × ((place x k).target ≡ after (length visited) (place x n).target)

    meets_below : (b n : ℕ) → (place x n).index < b → Meets n
    meets_below zero n h = absurd (omega arith)
    meets_below (suc b) n h = go (moved x n).1 (meets_below b (suc n))
      where
        go : ((place x (suc n)).state ∈ set_at visited (place x n).target) × ((place x (suc n)).target ≡ after (length visited) (place x n).target) ⊎ ((place x (suc n)).target ≡ (place x n).target) × ((place x (suc n)).index < (place x n).index)
            → ((place x (suc n)).index < b → Meets (suc n)) → Meets n
        go (inl (met, next)) rest = (suc n, omega arith, met, next)
        go (inr (same, less)) rest =
            let r : Meets (suc n) = rest (omega (arith, less, h)) in
            (r.0, omega (arith, r.1), subst (λ k. (place x r.0).state ∈ set_at visited k) same r.2, r.3 ∙ ap (after (length visited)) same)

    meets : (n : ℕ) → Meets n
    meets n = meets_below (suc (place x n).index) n (omega arith)

    -- a later place has target b
    Aims : ℕ → ℕ → Type 0
    Aims b n = (k : ℕ) × (n ≤ k) × ((place x k).target ≡ b)

    aims_up : (b d n : ℕ) → b < length visited → (place x n).target + d ≡ b → Aims b n
    unfolding Aims
    aims_up b zero n h e = (n, omega arith, omega arith)
    aims_up b (suc d) n h e =
        let r : Meets n = meets n in
        let t : (place x r.0).target ≡ (place x n).target + 1 = r.3 ∙ after_small (length visited) (place x n).target (omega (arith, e, h)) in
        let q : Aims b r.0 = aims_up b d r.0 h (omega (arith, e, t)) in
        (q.0, omega (arith, q.1, r.1), q.2)

    from_last : (n : ℕ) → Aims (length visited - 1) n → Aims 0 n
    unfolding Aims
    from_last n (k, l, e) =
        let c : Meets k = meets k in
        (c.0, omega (arith, c.1), c.3 ∙ after_last (length visited) (place x k).target (omega (arith, e, some)))

    back_to_zero : (n : ℕ) → Aims 0 n
    back_to_zero n = from_last n (aims_up (length visited - 1) (length visited - 1 - (place x n).target) n (omega (arith, some)) (omega (arith, (place x n).wanted)))

    from_zero : (b n : ℕ) → b < length visited → Aims 0 n → Aims b n
    unfolding Aims
    from_zero b n h (k, l, e) =
        let d : Aims b k = aims_up b b k h (omega (arith, e)) in
        (d.0, omega (arith, d.1), d.2)

    arrive : (b n : ℕ) → Aims b n → (k : ℕ) × (n < k) × ((place x k).state ∈ set_at visited b)
    unfolding Aims
    arrive b n (k, l, e) =
        let c : Meets k = meets k in
        (c.0, omega (arith, c.1), subst (λ t. (place x c.0).state ∈ set_at visited t) e c.2)

    -- constraint b is met later
    visits : (b n : ℕ) → b < length visited → (k : ℕ) × (n < k) × ((place x k).state ∈ set_at visited b)
    visits b n h = arrive b n (from_zero b n h (back_to_zero n))

    abbrev walk_from : ℕ → State
    walk_from n = (place x n).state

    walk_fair : (n : ℕ) (C : ℕ → State → Type 0) (avoided : List StateSet) → AreConstraintSets m n C visited avoided → IsWalkOver m n C walk_from
    walk_fair n C avoided sets = record {
      states = λ n. (place x n).is_state;
      steps = λ n. subst (λ k. Step m (walk_from n) (walk_from k)) (sym (add-one n)) (moved x n).0;
      met = λ k h n. let v : (j : ℕ) × (n < j) × (walk_from j ∈ set_at visited k) = visits k n (omega (arith, h, sets.each)) in
          (v.0, omega (arith, v.1), sets.visited_true k h (walk_from v.0) (place x v.0).is_state v.2);
    }

pub fair_set_sound : (m : System) (n : ℕ) (C : ℕ → State → Type 0) (visited avoided : List StateSet) → AreConstraintSets m n C visited avoided
    → (set : StateSet) (reaches : List (List StateSet)) → IsFairSet m visited set reaches
    → (s : State) → IsState m s → s ∈ set → (p : Lasso) × IsFairOver m n C p × (at p 0 ≡ s) × ((i : ℕ) → at p i ∈ set)
fair_set_sound m n C visited avoided sets set reaches rule s is_state inside =
    let r : InSome (reach_at reaches 0) s = rule.covered 0 sets.some s is_state inside in
    let x : Place m visited set reaches = record { state = s; is_state = is_state; inside = inside; target = 0; wanted = sets.some; index = r.0; reached = r.1 } in
    let l : (p : Lasso) × IsFairOver m n C p × Follows p (walk_from m visited set reaches sets.some rule x) 0 =
    walk_lasso m n C (walk_from m visited set reaches sets.some rule x) (walk_fair m visited set reaches sets.some rule x n C avoided sets) 0 in (
      l.0,
      l.1,
      l.2.agrees 0 (omega arith),
      λ i.
          let k = l.2.member i in subst (λ t. t ∈ set) (sym k.2) (place m visited set reaches sets.some rule x k.0).inside,
    )
