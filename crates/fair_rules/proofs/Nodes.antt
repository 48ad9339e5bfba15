-- The nodes of a formula: which numbers have one, and what goes down from a formula to them.
use Rattle.std.proofs.Common.{◌≡◌, ◌⊎◌, inl, inr, ℕ, ◌+◌, ◌<◌, ◌≤◌, Bool, true, false, Option, Some, None, refl, sym, ◌∙◌, ap, subst₂, arith, eqb, ltb, cond}
use Rattle.std.specs.Prelude.{unwrap_or}
use Rattle.std.proofs.lemmas.Bool.{cases_lt, cases_eq, lt-ltb, le-ltb, eq-eqb, ne_eqb, cond-true, cond-false}
use Rattle.kripke_model.specs.Ctl.{Ctl}
use Rattle.kripke_model.specs.Signs.{node_count}
use Rattle.fair_rules.specs.Nodes.{node_at}

-- ---- a formula of no part, of one or of two

pub data Parts : Type 0 where
  Zero : Parts
  One : (f : Ctl) → Parts
  Two : (f g : Ctl) → Parts

abbrev pub parts : Ctl → Parts
parts (Ctl.Leaf e) = Parts.Zero
parts (Ctl.Not f) = Parts.One f
parts (Ctl.And f g) = Parts.Two f g
parts (Ctl.Or f g) = Parts.Two f g
parts (Ctl.Implies f g) = Parts.Two f g
parts (Ctl.Iff f g) = Parts.Two f g
parts (Ctl.Quant op f) = Parts.One f
parts (Ctl.Until all f g) = Parts.Two f g

-- each part has the property, by its number in a formula whose first node has number n
abbrev pub OfParts : (Ctl → ℕ → Type 0) → Parts → ℕ → Type 0
OfParts P Parts.Zero n = Unit {0}
OfParts P (Parts.One f) n = P f (n + 1)
OfParts P (Parts.Two f g) n = P f (n + 1) × P g (n + 1 + node_count f)

pub of_parts : (P Q : Ctl → ℕ → Type 0) → ((f : Ctl) (n : ℕ) → P f n → Q f n) → (x : Parts) (n : ℕ) → OfParts P x n → OfParts Q x n
of_parts P Q more Parts.Zero n h = tt
of_parts P Q more (Parts.One f) n h = more f (n + 1) h
of_parts P Q more (Parts.Two f g) n h = (more f (n + 1) h.0, more g (n + 1 + node_count f) h.1)

abbrev pub count_in : Parts → ℕ
count_in Parts.Zero = 1
count_in (Parts.One f) = 1 + node_count f
count_in (Parts.Two f g) = 1 + node_count f + node_count g

abbrev pub node_in : Parts → ℕ → ℕ → Option Ctl
node_in Parts.Zero n i = None
node_in (Parts.One f) n i = node_at f (n + 1) i
node_in (Parts.Two f g) n i = cond (ltb i (n + 1 + node_count f)) (node_at f (n + 1) i) (node_at g (n + 1 + node_count f) i)

-- the formula itself, or a node of a part
node_is : (c : Ctl) (n i : ℕ) → (node_at c n i ≡ cond (eqb i n) (Some c) (node_in (parts c) n i)) × (node_count c ≡ count_in (parts c))
node_is (Ctl.Leaf e) n i = (refl, refl)
node_is (Ctl.Not f) n i = (refl, refl)
node_is (Ctl.And f g) n i = (refl, refl)
node_is (Ctl.Or f g) n i = (refl, refl)
node_is (Ctl.Implies f g) n i = (refl, refl)
node_is (Ctl.Iff f g) n i = (refl, refl)
node_is (Ctl.Quant op f) n i = (refl, refl)
node_is (Ctl.Until all f g) n i = (refl, refl)

pub by_parts : (P : Ctl → Type 0) → ((c : Ctl) → OfParts (λ f k. P f) (parts c) 0 → P c) → (c : Ctl) → P c
by_parts P step (Ctl.Leaf e) = step (Ctl.Leaf e) tt
by_parts P step (Ctl.Not f) = step (Ctl.Not f) (by_parts P step f)
by_parts P step (Ctl.And f g) = step (Ctl.And f g) (by_parts P step f, by_parts P step g)
by_parts P step (Ctl.Or f g) = step (Ctl.Or f g) (by_parts P step f, by_parts P step g)
by_parts P step (Ctl.Implies f g) = step (Ctl.Implies f g) (by_parts P step f, by_parts P step g)
by_parts P step (Ctl.Iff f g) = step (Ctl.Iff f g) (by_parts P step f, by_parts P step g)
by_parts P step (Ctl.Quant op f) = step (Ctl.Quant op f) (by_parts P step f)
by_parts P step (Ctl.Until all f g) = step (Ctl.Until all f g) (by_parts P step f, by_parts P step g)

pub count_is : (c : Ctl) → node_count c ≡ count_in (parts c)
count_is c = (node_is c 0 0).1

pub some_nodes : (c : Ctl) → 0 < node_count c
some_nodes c = go (parts c) (count_is c)
  where
    go : (x : Parts) → node_count c ≡ count_in x → 0 < node_count c
    go Parts.Zero e = omega (arith, e)
    go (Parts.One f) e = omega (arith, e)
    go (Parts.Two f g) e = omega (arith, e)

pub own_node : (c : Ctl) (n i : ℕ) → i ≡ n → node_at c n i ≡ Some c
own_node c n i e = (node_is c n i).0 ∙ cond-true (eqb i n) (Some c) (node_in (parts c) n i) (eq-eqb i n e)

pub past_own : (c : Ctl) (n i : ℕ) → (i ≡ n → ⊥) → node_at c n i ≡ node_in (parts c) n i
past_own c n i ne = (node_is c n i).0 ∙ cond-false (eqb i n) (Some c) (node_in (parts c) n i) (ne_eqb i n ne)

-- ---- what goes down to the parts goes down to the nodes

pub inherited : (P : Ctl → ℕ → Type 0) → ((c : Ctl) (n : ℕ) → P c n → OfParts P (parts c) n)
    → (f : Ctl) (n i : ℕ) (c : Ctl) → node_at f n i ≡ Some c → P f n → P c i
inherited P pass f n i c = by_parts Down step f n
  where
    Down : Ctl → Type 0
    Down f = (n : ℕ) → node_at f n i ≡ Some c → P f n → P c i

    within : (x : Parts) (n : ℕ) → OfParts (λ f k. Down f) x 0 → node_in x n i ≡ Some c → OfParts P x n → P c i
    within Parts.Zero n inner at h = absurd cc
    within (Parts.One f) n inner at h = inner (n + 1) at h
    within (Parts.Two f g) n inner at h = go (ltb i (n + 1 + node_count f)) at
      where
        go : (b : Bool) → cond b (node_at f (n + 1) i) (node_at g (n + 1 + node_count f) i) ≡ Some c → P c i
        go true at = inner.0 (n + 1) at h.0
        go false at = inner.1 (n + 1 + node_count f) at h.1

    step : (f : Ctl) → OfParts (λ f k. Down f) (parts f) 0 → Down f
    step f inner n at h = elim (cases_eq i n) [
      | inl e ↦ subst₂ P (ap (λ o. unwrap_or o f) (sym (own_node f n i e) ∙ at)) (sym e) h
      | inr ne ↦ within (parts f) n inner (sym (past_own f n i ne) ∙ at) (pass f n h)
    ]

-- a node's numbers are among the formula's
pub node_range : (f : Ctl) (n i : ℕ) (c : Ctl) → node_at f n i ≡ Some c → (n ≤ i) × (i + node_count c ≤ n + node_count f)
node_range f n i c at = inherited Among pass f n i c at (omega arith, omega arith)
  where
    Among : Ctl → ℕ → Type 0
    Among g k = (n ≤ k) × (k + node_count g ≤ n + node_count f)

    pass : (g : Ctl) (k : ℕ) → Among g k → OfParts Among (parts g) k
    pass g k h = go (parts g) (count_is g)
      where
        go : (x : Parts) → node_count g ≡ count_in x → OfParts Among x k
        go Parts.Zero e = tt
        go (Parts.One a) e = (omega (arith, h.0), omega (arith, h.1, e))
        go (Parts.Two a b) e = ((omega (arith, h.0), omega (arith, h.1, e)), (omega (arith, h.0), omega (arith, h.1, e)))

-- each of the formula's numbers has a node, and no other number
pub some_node : (f : Ctl) (n i : ℕ) → n ≤ i → i < n + node_count f → (c : Ctl) × (node_at f n i ≡ Some c)
some_node f n i = by_parts There step f n
  where
    There : Ctl → Type 0
    There f = (n : ℕ) → n ≤ i → i < n + node_count f → (c : Ctl) × (node_at f n i ≡ Some c)

    within : (x : Parts) (n : ℕ) → OfParts (λ f k. There f) x 0 → n + 1 ≤ i → i < n + count_in x → (c : Ctl) × (node_in x n i ≡ Some c)
    within Parts.Zero n inner low high = absurd (omega (arith, low, high))
    within (Parts.One f) n inner low high = inner (n + 1) low (omega (arith, high))
    within (Parts.Two f g) n inner low high = elim (cases_lt i (n + 1 + node_count f)) [
      | inl lt ↦ (let r = inner.0 (n + 1) low lt in
          (r.0, cond-true (ltb i (n + 1 + node_count f)) (node_at f (n + 1) i) (node_at g (n + 1 + node_count f) i) (lt-ltb i (n + 1 + node_count f) lt) ∙ r.1))
      | inr ge ↦ (let r = inner.1 (n + 1 + node_count f) ge (omega (arith, high)) in
          (r.0, cond-false (ltb i (n + 1 + node_count f)) (node_at f (n + 1) i) (node_at g (n + 1 + node_count f) i) (le-ltb i (n + 1 + node_count f) ge) ∙ r.1))
    ]

    step : (f : Ctl) → OfParts (λ f k. There f) (parts f) 0 → There f
    step f inner n low high = elim (cases_eq i n) [
      | inl e ↦ (f, own_node f n i e)
      | inr ne ↦ (let r = within (parts f) n inner (omega (arith, low, ne)) (omega (arith, high, count_is f)) in (r.0, past_own f n i ne ∙ r.1))
    ]

pub no_node : (f : Ctl) (n i : ℕ) → (i < n) ⊎ (n + node_count f ≤ i) → node_at f n i ≡ None
no_node f n i out = go (node_at f n i) refl
  where
    go : (o : Option Ctl) → node_at f n i ≡ o → node_at f n i ≡ None
    go None e = e
    go (Some c) e =
        let r = node_range f n i c e in
        absurd (elim out [ inl lt ↦ omega (arith, lt, r.0) | inr le ↦ omega (arith, le, r.1, some_nodes c) ])

-- ---- nodes of nodes

-- each node of the part is one of the formula, which has number n
abbrev AreNodesOf : Ctl → ℕ → Ctl → ℕ → Type 0
AreNodesOf c n f k = (i : ℕ) (x : Ctl) → node_at f k i ≡ Some x → node_at c n i ≡ Some x

pub in_whole : (c : Ctl) (n : ℕ) → OfParts (AreNodesOf c n) (parts c) n
in_whole c n = go (parts c) (λ i ne. past_own c n i ne)
  where
    go : (x : Parts) → ((i : ℕ) → (i ≡ n → ⊥) → node_at c n i ≡ node_in x n i) → OfParts (AreNodesOf c n) x n
    go Parts.Zero past = tt
    go (Parts.One f) past = λ i x at. past i (λ e. omega (arith, e, (node_range f (n + 1) i x at).0)) ∙ at
    go (Parts.Two f g) past = (
      λ i x at.
          let r = node_range f (n + 1) i x at in
          past i (λ e. omega (arith, e, r.0))
          ∙ cond-true (ltb i (n + 1 + node_count f)) (node_at f (n + 1) i) (node_at g (n + 1 + node_count f) i) (lt-ltb i (n + 1 + node_count f) (omega (arith, r.1, some_nodes x))) ∙ at,
      λ i x at.
          let r = node_range g (n + 1 + node_count f) i x at in
          past i (λ e. omega (arith, e, r.0))
          ∙ cond-false (ltb i (n + 1 + node_count f)) (node_at f (n + 1) i) (node_at g (n + 1 + node_count f) i) (le-ltb i (n + 1 + node_count f) r.0) ∙ at,
    )

-- the parts of a node are nodes
pub parts_there : (f : Ctl) (n i : ℕ) (c : Ctl) → node_at f n i ≡ Some c → OfParts (λ g k. node_at f n k ≡ Some g) (parts c) i
parts_there f n i c at =
    of_parts (AreNodesOf f n) (λ g k. node_at f n k ≡ Some g) (λ g k are. are k g (own_node g k k refl)) (parts c) i (pass c i (inherited (AreNodesOf f n) pass f n i c at (λ j x h. h)))
  where
    pass : (c : Ctl) (k : ℕ) → AreNodesOf f n c k → OfParts (AreNodesOf f n) (parts c) k
    pass c k are = of_parts (AreNodesOf c k) (AreNodesOf f n) (λ g l inner i x at. are i x (inner i x at)) (parts c) k (in_whole c k)
