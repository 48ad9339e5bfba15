-- The pairs of triples that a conjunction comes to.
use Rattle.std.proofs.Common.{◌≡◌, ℕ, zero, suc, ◌+◌, ◌*◌, ◌<◌, ◌≤◌, ◌⊎◌, inl, inr, Bool, true, false, cond, ◌||◌, ◌==◌, List, [], ◌∷◌, ◌++◌, map, filter, length, Option, None, Some, refl, sym, ap, subst, ◌∙◌, true≢false, arith, length-append}
use Rattle.std.specs.List.{list_any, range_with_len}
use Rattle.std.specs.Option.{option_map_or}
use Rattle.std.proofs.lemmas.Bool.{eq-eqb, eqb-true, cases_eq}
use Rattle.std.specs.Cmp.Derive.{both_true}
use Rattle.bdd_nodes.specs.declared.triple.Triple.{Triple}
use Rattle.bdd_nodes.specs.Table.{node_of, Has, IsGood, IsGoodNode}
use Rattle.bdd_nodes.proofs.Tables.{node_of-some}
use Rattle.bdd_ops.specs.declared.key.Key.{Key}
use Rattle.bdd_ops.specs.declared.key.Key.TheVariants.{And}
use Rattle.bdd_ops.specs.declared.operation.Operation.{Operation}
use Rattle.bdd_ops.specs.declared.operation.Operation.TheVariants as operation
use Rattle.bdd_ops.specs.Operation.{key_of, IsOpen, top_of, with_operands, part_of, HasOperands}
use Rattle.bdd_nodes.specs.Size.{reaches_in, reached, size_of}
use Rattle.bdd_ops.specs.Cost as cost
use Rattle.bdd_ops.proofs.Parts.{part_of-at, part_of-off}
use Rattle.bdd_ops.proofs.Memo.{same_key, same_key-true}
use Rattle.bdd_ops.proofs.Costs.{among, cases, or-cases, or-right}

-- a number is one of these
abbrev pub holds : List ℕ → ℕ → Bool
holds xs q = list_any (λ x. q == x) xs

reaches_in-self : (table : List Triple) (n r : ℕ) → reaches_in table n r r ≡ true
unfolding reaches_in
reaches_in-self table zero r = eq-eqb r r refl
reaches_in-self table (suc n) r = ap (λ b. b || option_map_or (λ (t : Triple). reaches_in table n t.low r || reaches_in table n t.high r) (node_of table r) false) (eq-eqb r r refl)

or-left : (a b : Bool) → a ≡ true → (a || b) ≡ true
or-left a b e = ap (λ x. x || b) e

-- what is reached from a child is reached, and so is each child of what is reached
module _ (levels : ℕ) (table : List Triple) (good : IsGood levels table) where
  reaches_in-child : (n r q c : ℕ) (u : Triple) → r ≤ n → node_of table q ≡ Some u → (c ≡ u.low) ⊎ (c ≡ u.high) → reaches_in table n r q ≡ true → reaches_in table n r c ≡ true
  unfolding reaches_in
  reaches_in-child zero r q c u le at side h =
      let same : q ≡ r = eqb-true q r h in
      let g = good.each q u at in
      absurd (omega (arith, g.low_earlier))
  reaches_in-child (suc n) r q c u le at side h = or-right (c == r) _ (by (node_of table r) refl (or-cases (q == r) (option_map_or (λ (t : Triple). reaches_in table n t.low q || reaches_in table n t.high q) (node_of table r) false) h) (λ t. reaches_in-child n t q c u))
    where
      hit : (t : Triple) → (c ≡ t.low) ⊎ (c ≡ t.high) → (reaches_in table n t.low c || reaches_in table n t.high c) ≡ true
      hit t (inl e) = or-left (reaches_in table n t.low c) (reaches_in table n t.high c) (subst (λ x. reaches_in table n x c ≡ true) e (reaches_in-self table n c))
      hit t (inr e) = or-right (reaches_in table n t.low c) (reaches_in table n t.high c) (subst (λ x. reaches_in table n x c ≡ true) e (reaches_in-self table n c))

      by : (o : Option Triple) → node_of table r ≡ o → ((q == r) ≡ true) ⊎ (((q == r) ≡ false) × (option_map_or (λ (t : Triple). reaches_in table n t.low q || reaches_in table n t.high q) (node_of table r) false ≡ true))
          → ((t : ℕ) → t ≤ n → node_of table q ≡ Some u → (c ≡ u.low) ⊎ (c ≡ u.high) → reaches_in table n t q ≡ true → reaches_in table n t c ≡ true)
          → option_map_or (λ (t : Triple). reaches_in table n t.low c || reaches_in table n t.high c) (node_of table r) false ≡ true
      by o e (inl here) more =
          let there : node_of table r ≡ Some u = ap (node_of table) (sym (eqb-true q r here)) ∙ at in
          ap (λ o. option_map_or (λ (t : Triple). reaches_in table n t.low c || reaches_in table n t.high c) o false) there ∙ hit u side
      by None e (inr away) more = absurd (true≢false (sym away.1 ∙ ap (λ o. option_map_or (λ (t : Triple). reaches_in table n t.low q || reaches_in table n t.high q) o false) e))
      by (Some t) e (inr away) more =
          let g = good.each r t e in
          let which = or-cases (reaches_in table n t.low q) (reaches_in table n t.high q) (sym (ap (λ o. option_map_or (λ (t : Triple). reaches_in table n t.low q || reaches_in table n t.high q) o false) e) ∙ away.1) in
          ap (λ o. option_map_or (λ (t : Triple). reaches_in table n t.low c || reaches_in table n t.high c) o false) e
          ∙ (elim which [
            | inl low ↦ or-left (reaches_in table n t.low c) (reaches_in table n t.high c) (more t.low (omega (arith, g.low_earlier)) at side low)
            | inr high ↦ or-right (reaches_in table n t.low c) (reaches_in table n t.high c) (more t.high (omega (arith, g.high_earlier)) at side high.1)
          ])

holds-filter : (p : ℕ → Bool) (xs : List ℕ) (q : ℕ) → holds xs q ≡ true → p q ≡ true → holds (filter p xs) q ≡ true
holds-filter p [] q h e = h
holds-filter p (x ∷ xs) q h e = by (cases (p x)) (or-cases (q == x) (holds xs q) h) (λ i. holds-filter p xs q i e)
  where
    by : (p x ≡ true) ⊎ (p x ≡ false) → ((q == x) ≡ true) ⊎ (((q == x) ≡ false) × (holds xs q ≡ true)) → (holds xs q ≡ true → holds (filter p xs) q ≡ true) → holds (filter p (x ∷ xs)) q ≡ true
    by (inl t) (inl here) more = ap (λ b. holds (cond b (x ∷ filter p xs) (filter p xs)) q) t ∙ or-left (q == x) (holds (filter p xs) q) here
    by (inl t) (inr there) more = ap (λ b. holds (cond b (x ∷ filter p xs) (filter p xs)) q) t ∙ or-right (q == x) (holds (filter p xs) q) (more there.1)
    by (inr f) (inl here) more = absurd (true≢false (sym e ∙ ap p (eqb-true q x here) ∙ f))
    by (inr f) (inr there) more = ap (λ b. holds (cond b (x ∷ filter p xs) (filter p xs)) q) f ∙ more there.1

filter-holds : (p : ℕ → Bool) (xs : List ℕ) (q : ℕ) → holds (filter p xs) q ≡ true → (holds xs q ≡ true) × (p q ≡ true)
filter-holds p [] q h = absurd (true≢false (sym h))
filter-holds p (x ∷ xs) q h = by (cases (p x)) (filter-holds p xs q)
  where
    by : (p x ≡ true) ⊎ (p x ≡ false) → (holds (filter p xs) q ≡ true → (holds xs q ≡ true) × (p q ≡ true)) → ((q == x || holds xs q) ≡ true) × (p q ≡ true)
    by (inl t) more =
        let kept : (q == x || holds (filter p xs) q) ≡ true = sym (ap (λ b. holds (cond b (x ∷ filter p xs) (filter p xs)) q) t) ∙ h in
        elim (or-cases (q == x) (holds (filter p xs) q) kept) [
          | inl here ↦ (or-left (q == x) (holds xs q) here, ap p (eqb-true q x here) ∙ t)
          | inr there ↦ (or-right (q == x) (holds xs q) (more there.1).0, (more there.1).1)
        ]
    by (inr f) more =
        let kept = more (sym (ap (λ b. holds (cond b (x ∷ filter p xs) (filter p xs)) q) f) ∙ h) in
        (or-right (q == x) (holds xs q) kept.0, kept.1)

holds-range : (a n q : ℕ) → a ≤ q → q < a + n → holds (range_with_len a n) q ≡ true
holds-range a zero q h k = absurd (omega arith)
holds-range a (suc n) q h k = elim (cases_eq q a) [
  | inl same ↦ or-left (q == a) (holds (range_with_len (a + 1) n) q) (eq-eqb q a same)
  | inr other ↦ or-right (q == a) (holds (range_with_len (a + 1) n) q) (holds-range (a + 1) n q (omega arith) (omega arith))
]

range-holds : (a n q : ℕ) → holds (range_with_len a n) q ≡ true → (a ≤ q) × (q < a + n)
range-holds a zero q h = absurd (true≢false (sym h))
range-holds a (suc n) q h = elim (or-cases (q == a) (holds (range_with_len (a + 1) n) q) h) [
  | inl here ↦ let e = eqb-true q a here in (omega arith, omega arith)
  | inr there ↦ let b = range-holds (a + 1) n q there.1 in (omega arith, omega arith)
]

-- the conjunctions of a number of each list
abbrev pub pairs : List ℕ → List ℕ → List Key
pairs [] ys = []
pairs (x ∷ xs) ys = map (λ y. And x y) ys ++ pairs xs ys

map-length : (x : ℕ) (ys : List ℕ) → length (map (λ y. And x y) ys) ≡ length ys
map-length x [] = refl
map-length x (y ∷ ys) = ap suc (map-length x ys)

pub pairs-length : (xs ys : List ℕ) → length (pairs xs ys) ≡ length xs * length ys
pairs-length [] ys = omega arith
pairs-length (x ∷ xs) ys = length-append (map (λ y. And x y) ys) (pairs xs ys) ∙ omega (arith, map-length x ys, pairs-length xs ys)

among-append : (ks ls : List Key) (k : Key) → among (ks ++ ls) k ≡ (among ks k || among ls k)
among-append [] ls k = refl
among-append (x ∷ ks) ls k = ap (λ b. same_key k x || b) (among-append ks ls k) ∙ assoc (same_key k x) (among ks k) (among ls k)
  where
    assoc : (a b c : Bool) → (a || (b || c)) ≡ ((a || b) || c)
    assoc true b c = refl
    assoc false b c = refl

among-map : (x y : ℕ) (ys : List ℕ) → holds ys y ≡ true → among (map (λ z. And x z) ys) (And x y) ≡ true
among-map x y [] h = absurd (true≢false (sym h))
among-map x y (z ∷ ys) h = elim (or-cases (y == z) (holds ys y) h) [
  | inl here ↦ or-left (same_key (And x y) (And x z)) (among (map (λ z. And x z) ys) (And x y)) (both_true (eq-eqb x x refl) here)
  | inr there ↦ or-right (same_key (And x y) (And x z)) (among (map (λ z. And x z) ys) (And x y)) (among-map x y ys there.1)
]

pub pairs-among : (xs ys : List ℕ) (x y : ℕ) → holds xs x ≡ true → holds ys y ≡ true → among (pairs xs ys) (And x y) ≡ true
pairs-among [] ys x y h k = absurd (true≢false (sym h))
pairs-among (z ∷ xs) ys x y h k = among-append (map (λ w. And z w) ys) (pairs xs ys) (And x y) ∙ (elim (or-cases (x == z) (holds xs x) h) [
  | inl here ↦ or-left (among (map (λ w. And z w) ys) (And x y)) (among (pairs xs ys) (And x y)) (subst (λ w. among (map (λ v. And w v) ys) (And x y) ≡ true) (eqb-true x z here) (among-map x y ys k))
  | inr there ↦ or-right (among (map (λ w. And z w) ys) (And x y)) (among (pairs xs ys) (And x y)) (pairs-among xs ys x y there.1 k)
])

-- a key of the pairs is such a conjunction
pub record IsPairOf (xs ys : List ℕ) (k : Key) : Type 0 where
  pub left : ℕ
  pub right : ℕ
  pub is : k ≡ And left right
  pub left_in : holds xs left ≡ true
  pub right_in : holds ys right ≡ true

map-from : (x : ℕ) (xs ys : List ℕ) (k : Key) → among (map (λ y. And x y) ys) k ≡ true → holds xs x ≡ true → IsPairOf xs ys k
map-from x xs [] k h in' = absurd (true≢false (sym h))
map-from x xs (y ∷ ys) k h in' = elim (or-cases (same_key k (And x y)) (among (map (λ y. And x y) ys) k) h) [
  | inl here ↦ record { left = x; right = y; is = same_key-true k (And x y) here; left_in = in'; right_in = or-left (y == y) (holds ys y) (eq-eqb y y refl) }
  | inr there ↦ let p = map-from x xs ys k there.1 in' in record { left = p.left; right = p.right; is = p.is; left_in = p.left_in; right_in = or-right (p.right == y) (holds ys p.right) p.right_in }
]

pub pairs-from : (xs ys : List ℕ) (k : Key) → among (pairs xs ys) k ≡ true → IsPairOf xs ys k
pairs-from [] ys k h = absurd (true≢false (sym h))
pairs-from (x ∷ xs) ys k h = elim (or-cases (among (map (λ y. And x y) ys) k) (among (pairs xs ys) k) (sym (among-append (map (λ y. And x y) ys) (pairs xs ys) k) ∙ h)) [
  | inl here ↦ map-from x (x ∷ xs) ys k here (or-left (x == x) (holds xs x) (eq-eqb x x refl))
  | inr there ↦ let p = pairs-from xs ys k there.1 in record { left = p.left; right = p.right; is = p.is; left_in = or-right (p.left == x) (holds xs p.left) p.left_in; right_in = p.right_in }
]

-- an operation with such a key is a conjunction
left_of : Key → ℕ
left_of (And f g) = f
left_of k = 0

right_of : Key → ℕ
right_of (And f g) = g
right_of k = 0

and-key : (k : Operation) (x y : ℕ) → key_of k ≡ And x y → k ≡ operation.And x y
unfolding left_of right_of
and-key (operation.Not f) x y e = cc
and-key (operation.And f g) x y e = let a : f ≡ x = ap left_of e in let b : g ≡ y = ap right_of e in λ j. operation.And (a j) (b j)
and-key (operation.Or f g) x y e = cc
and-key (operation.Iff f g) x y e = cc
and-key (operation.Ite f g h) x y e = cc

module _ (levels : ℕ) (table : List Triple) (good : IsGood levels table) where
  reached-self : (r : ℕ) → Has table r → 2 ≤ r → holds (reached table r) r ≡ true
  reached-self r has two = holds-filter (λ q. reaches_in table r r q) (range_with_len 2 (length table)) r (holds-range 2 (length table) r two (omega arith)) (reaches_in-self table r r)

  reached-has : (r q : ℕ) → holds (reached table r) q ≡ true → Has table q × (2 ≤ q)
  reached-has r q h = let b = range-holds 2 (length table) q (filter-holds (λ q. reaches_in table r r q) (range_with_len 2 (length table)) q h).0 in (omega arith, omega arith)

  -- a part of what is reached is reached, where it is no constant
  reached-part : (r q : ℕ) (level : ℕ) (bit : Bool) → holds (reached table r) q ≡ true → 2 ≤ part_of table level bit q → holds (reached table r) (part_of table level bit q) ≡ true
  reached-part r q level bit h two =
      let b = reached-has r q h in
      let node = node_of-some table q b.0 b.1 in
      let t : Triple = node.0 in
      let g = good.each q t node.1 in
      let from = (filter-holds (λ q. reaches_in table r r q) (range_with_len 2 (length table)) q h).1 in
      elim (cases_eq t.level level) [
        | inl same ↦
            let at = part_of-at table level bit q t node.1 same in
            subst (λ c. holds (reached table r) c ≡ true) (sym at) (child bit t (subst (λ c. 2 ≤ c) at two)
            (λ c side two. holds-filter (λ q. reaches_in table r r q) (range_with_len 2 (length table)) c
            (holds-range 2 (length table) c two (below t c side b.0 g)) (reaches_in-child levels table good r r q c t (omega arith) node.1 side from)))
        | inr other ↦ subst (λ c. holds (reached table r) c ≡ true) (sym (part_of-off table level bit q t node.1 other)) h
      ]
    where
      child : (b : Bool) (t : Triple) → 2 ≤ cond b t.high t.low → ((c : ℕ) → (c ≡ t.low) ⊎ (c ≡ t.high) → 2 ≤ c → holds (reached table r) c ≡ true) → holds (reached table r) (cond b t.high t.low) ≡ true
      child true t two f = f t.high (inr refl) two
      child false t two f = f t.low (inl refl) two

      below : (t : Triple) (c : ℕ) → (c ≡ t.low) ⊎ (c ≡ t.high) → Has table q → IsGoodNode levels table q t → c < 2 + length table
      below t c (inl e) has g = omega (arith, g.low_earlier)
      below t c (inr e) has g = omega (arith, g.high_earlier)

  -- the conjunctions of what is reached from f and from g are closed
  pub IsClosed-pairs : (f g : ℕ) → cost.IsClosed same_key levels table (pairs (reached table f) (reached table g))
  IsClosed-pairs f g = record { operands = operands; closed = closed }
    where
      operands : (k : Operation) → among (pairs (reached table f) (reached table g)) (key_of k) ≡ true → HasOperands table k
      operands k h =
          let p = pairs-from (reached table f) (reached table g) (key_of k) h in
          let a = reached-has f p.left p.left_in in
          let b = reached-has g p.right p.right_in in
          subst (HasOperands table) (sym (and-key k p.left p.right p.is)) (omega (arith, a.0, b.0))

      closed : (k : Operation) → among (pairs (reached table f) (reached table g)) (key_of k) ≡ true → (bit : Bool) → IsOpen (with_operands (part_of table (top_of levels table k) bit) k)
          → among (pairs (reached table f) (reached table g)) (key_of (with_operands (part_of table (top_of levels table k) bit) k)) ≡ true
      closed k h bit =
          let p = pairs-from (reached table f) (reached table g) (key_of k) h in
          subst (λ x. IsOpen (with_operands (part_of table (top_of levels table k) bit) x) → among (pairs (reached table f) (reached table g)) (key_of (with_operands (part_of table (top_of levels table k) bit) x)) ≡ true) (sym (and-key k p.left p.right p.is))
          (λ some. pairs-among (reached table f) (reached table g) (part_of table (top_of levels table k) bit p.left) (part_of table (top_of levels table k) bit p.right)
          (reached-part f p.left (top_of levels table k) bit p.left_in some.0) (reached-part g p.right (top_of levels table k) bit p.right_in some.1))

  -- a conjunction takes at most two steps for each pair, and one
  pub steps-and : (f g cap : ℕ) → Has table f → Has table g → (before after : ℕ) → size_of table f * size_of table g ≤ cap → cost.IsBounded same_key levels table (operation.And f g) cap before after
      → after ≤ before + 2 * (size_of table f * size_of table g) + 1
  steps-and f g cap hf hg before after room bounded =
      let keys : List Key = pairs (reached table f) (reached table g) in
      let len : length keys ≡ size_of table f * size_of table g = pairs-length (reached table f) (reached table g) in
      let bound = bounded.bound keys (IsClosed-pairs f g)
      (λ some. pairs-among (reached table f) (reached table g) f g (reached-self f hf some.0) (reached-self g hg some.1)) (omega arith) in
      omega (arith, bound, len)
