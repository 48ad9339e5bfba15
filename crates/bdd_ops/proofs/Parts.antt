-- Lemmas on the parts of operands for a bit, and on the operands of a key.
use Rattle.std.proofs.Common.{◌≡◌, ◌≢◌, ℕ, ◌+◌, ◌<◌, ◌≤◌, ◌⊎◌, inl, inr, min, max, Bool, true, false, not, ◌&&◌, ◌||◌, ◌==◌, cond, if◌then◌else◌, List, None, Some, slice_index_or, refl, sym, ap, ◌∙◌, arith}
use Rattle.std.specs.Option.{option_map_or}
use Rattle.std.proofs.lemmas.Bool.{cases_lt, cases_eq, eq-eqb, eqb-true}
use Rattle.bdd_nodes.specs.declared.triple.Triple.{Triple}
use Rattle.bdd_nodes.specs.Table.{node_of, level_of, value_of, Has, IsGood, IsGrowth}
use Rattle.bdd_nodes.proofs.Tables.{node_of-some, node_of-constant, node_of-grows, value_of-node, value_of-grows}
use Rattle.bdd_nodes.proofs.Canonical.{level_of-node, level_of-constant}
use Rattle.bdd_ops.specs.declared.operation.Operation.{Operation}
use Rattle.bdd_ops.specs.declared.operation.Operation.TheVariants.{Not, And, Or, Iff, Ite}
use Rattle.bdd_ops.specs.Operation.{combine, operation_of, highest_of, weight_of, top_of, with_operands, HasOperands, part_of, key_of}
use Rattle.bdd_ops.proofs.AnswerLemmas.{key_top-grows}

-- a number is a constant or has a triple
cases_node : (table : List Triple) (r : ℕ) → Has table r → (r < 2) ⊎ ((t : Triple) × (node_of table r ≡ Some t))
cases_node table r has = elim (cases_lt r 2) [ inl h ↦ inl h | inr h ↦ inr (node_of-some table r has h) ]

pub part_of-constant : (table : List Triple) (level : ℕ) (bit : Bool) (r : ℕ) → r < 2 → part_of table level bit r ≡ r
unfolding part_of
part_of-constant table level bit r h = ap (λ o. option_map_or (λ (t : Triple). if t.level == level then (if bit then t.high else t.low) else r) o r) (node_of-constant table r h)

pub part_of-node : (table : List Triple) (level : ℕ) (bit : Bool) (r : ℕ) (t : Triple) → node_of table r ≡ Some t → part_of table level bit r ≡ (if t.level == level then (if bit then t.high else t.low) else r)
unfolding part_of
part_of-node table level bit r t e = ap (λ o. option_map_or (λ (t : Triple). if t.level == level then (if bit then t.high else t.low) else r) o r) e

pub part_of-none : (table : List Triple) (level : ℕ) (bit : Bool) (r : ℕ) → node_of table r ≡ None → part_of table level bit r ≡ r
unfolding part_of
part_of-none table level bit r e = ap (λ o. option_map_or (λ (t : Triple). if t.level == level then (if bit then t.high else t.low) else r) o r) e

-- a part at the triple's level is its child, and at another level the number
pub part_of-at : (table : List Triple) (level : ℕ) (bit : Bool) (r : ℕ) (t : Triple) → node_of table r ≡ Some t → t.level ≡ level → part_of table level bit r ≡ (if bit then t.high else t.low)
part_of-at table level bit r t e same = part_of-node table level bit r t e ∙ ap (λ b. if b then (if bit then t.high else t.low) else r) (eq-eqb t.level level same)

pub part_of-off : (table : List Triple) (level : ℕ) (bit : Bool) (r : ℕ) (t : Triple) → node_of table r ≡ Some t → t.level ≢ level → part_of table level bit r ≡ r
part_of-off table level bit r t e other = part_of-node table level bit r t e ∙ by (t.level == level) refl
  where
    by : (b : Bool) → (t.level == level) ≡ b → (if b then (if bit then t.high else t.low) else r) ≡ r
    by true q = absurd (other (eqb-true t.level level q))
    by false q = refl

pub part_of-grows : (old new : List Triple) → IsGrowth old new → (level : ℕ) (bit : Bool) (r : ℕ) → Has old r → part_of new level bit r ≡ part_of old level bit r
unfolding part_of
part_of-grows old new g level bit r h = ap (λ o. option_map_or (λ (t : Triple). if t.level == level then (if bit then t.high else t.low) else r) o r) (node_of-grows old new g r h)

cases_same : (a b : ℕ) → (a ≡ b) ⊎ (a ≢ b)
cases_same a b = cases_eq a b

module _ (levels : ℕ) (table : List Triple) (good : IsGood levels table) (level : ℕ) (bit : Bool) where
  pub part_of-le : (r : ℕ) → Has table r → part_of table level bit r ≤ r
  part_of-le r has = elim (cases_node table r has) [
    | inl h ↦ omega (arith, part_of-constant table level bit r h)
    | inr n ↦
        let g = good.each r n.0 n.1 in
        elim (cases_same n.0.level level) [
          | inl same ↦ rw (part_of-at table level bit r n.0 n.1 same) (child bit n.0 r g.low_earlier g.high_earlier)
          | inr other ↦ omega (arith, part_of-off table level bit r n.0 n.1 other)
        ]
  ]
    where
      child : (b : Bool) (t : Triple) (r : ℕ) → t.low < r → t.high < r → (if b then t.high else t.low) ≤ r
      child true t r low high = omega arith
      child false t r low high = omega arith

  -- at the level of its triple the part is smaller
  pub part_of-less : (r : ℕ) → Has table r → level_of levels table r ≡ level → level < levels → part_of table level bit r < r
  part_of-less r has e inside = elim (cases_node table r has) [
    | inl h ↦ absurd (omega (arith, level_of-constant levels table r h))
    | inr n ↦
        let g = good.each r n.0 n.1 in
        rw (part_of-at table level bit r n.0 n.1 (sym (level_of-node levels table r n.0 n.1) ∙ e)) (child bit n.0 r g.low_earlier g.high_earlier)
  ]
    where
      child : (b : Bool) (t : Triple) (r : ℕ) → t.low < r → t.high < r → (if b then t.high else t.low) < r
      child true t r low high = high
      child false t r low high = low

  -- a part lies deeper than the level
  pub part_of-deeper : (r : ℕ) → Has table r → level ≤ level_of levels table r → level < levels → level < level_of levels table (part_of table level bit r)
  part_of-deeper r has above inside = elim (cases_node table r has) [
    | inl h ↦ rw (part_of-constant table level bit r h, level_of-constant levels table r h) inside
    | inr n ↦
        let g = good.each r n.0 n.1 in
        elim (cases_same n.0.level level) [
          | inl same ↦ rw (part_of-at table level bit r n.0 n.1 same) (child bit n.0 (omega (arith, g.low_deeper)) (omega (arith, g.high_deeper)))
          | inr other ↦ rw (part_of-off table level bit r n.0 n.1 other) (omega (arith, level_of-node levels table r n.0 n.1))
        ]
  ]
    where
      child : (b : Bool) (t : Triple) → level < level_of levels table t.low → level < level_of levels table t.high → level < level_of levels table (if b then t.high else t.low)
      child true t low high = high
      child false t low high = low

  -- where the level's bit is this one, a part has the number's value
  pub part_of-value : (bits : List Bool) → slice_index_or bits level false ≡ bit → (r : ℕ) → Has table r → value_of table (part_of table level bit r) bits ≡ value_of table r bits
  part_of-value bits at r has = elim (cases_node table r has) [
    | inl h ↦ ap (λ x. value_of table x bits) (part_of-constant table level bit r h)
    | inr n ↦ elim (cases_same n.0.level level) [
      | inl same ↦
          ap (λ x. value_of table x bits) (part_of-at table level bit r n.0 n.1 same
          ∙ ap (λ b. cond b n.0.high n.0.low) (sym at) ∙ ap (λ l. cond (slice_index_or bits l false) n.0.high n.0.low) (sym same))
          ∙ sym (value_of-node levels table bits good r n.0 n.1)
      | inr other ↦ ap (λ x. value_of table x bits) (part_of-off table level bit r n.0 n.1 other)
    ]
  ]

-- the operands of a key
pub combine-with : (v : ℕ → Bool) (p : ℕ → ℕ) (k : Operation) → combine v (with_operands p k) ≡ combine (λ r. v (p r)) k
combine-with v p (Not f) = refl
combine-with v p (And f g) = refl
combine-with v p (Or f g) = refl
combine-with v p (Iff f g) = refl
combine-with v p (Ite f g h) = refl

pub combine-same : (v w : ℕ → Bool) (k : Operation) → ((r : ℕ) → r ≤ highest_of k → v r ≡ w r) → combine v k ≡ combine w k
combine-same v w (Not f) e = ap not (e f (omega arith))
combine-same v w (And f g) e = (λ j. e f (omega arith) j && e g (omega arith) j)
combine-same v w (Or f g) e = (λ j. e f (omega arith) j || e g (omega arith) j)
combine-same v w (Iff f g) e = (λ j. cond (e f (omega arith) j) (e g (omega arith) j) (not (e g (omega arith) j)))
combine-same v w (Ite f g h) e = (λ j. cond (e f (omega arith) j) (e g (omega arith) j) (e h (omega arith) j))

pub with_operands-same : (p q : ℕ → ℕ) (k : Operation) → ((r : ℕ) → r ≤ highest_of k → p r ≡ q r) → with_operands p k ≡ with_operands q k
with_operands-same p q (Not f) e = (λ j. Not (e f (omega arith) j))
with_operands-same p q (And f g) e = (λ j. And (e f (omega arith) j) (e g (omega arith) j))
with_operands-same p q (Or f g) e = (λ j. Or (e f (omega arith) j) (e g (omega arith) j))
with_operands-same p q (Iff f g) e = (λ j. Iff (e f (omega arith) j) (e g (omega arith) j))
with_operands-same p q (Ite f g h) e = (λ j. Ite (e f (omega arith) j) (e g (omega arith) j) (e h (omega arith) j))

pub highest_of-with : (p : ℕ → ℕ) (k : Operation) → ((r : ℕ) → r ≤ highest_of k → p r ≤ r) → highest_of (with_operands p k) ≤ highest_of k
highest_of-with p (Not f) e = e f (omega arith)
highest_of-with p (And f g) e = let a : p f ≤ f = e f (omega arith) in let b : p g ≤ g = e g (omega arith) in omega arith
highest_of-with p (Or f g) e = let a : p f ≤ f = e f (omega arith) in let b : p g ≤ g = e g (omega arith) in omega arith
highest_of-with p (Iff f g) e = let a : p f ≤ f = e f (omega arith) in let b : p g ≤ g = e g (omega arith) in omega arith
highest_of-with p (Ite f g h) e = let a : p f ≤ f = e f (omega arith) in let b : p g ≤ g = e g (omega arith) in let c : p h ≤ h = e h (omega arith) in omega arith

two_less : (f g pf pg lf lg : ℕ) → pf ≤ f → pg ≤ g → (lf ≡ min lf lg → pf < f) → (lg ≡ min lf lg → pg < g) → pf + pg < f + g
two_less f g pf pg lf lg a b c d = elim (cases_lt lf lg) [
  | inl h ↦ let x : pf < f = c (omega arith) in omega arith
  | inr h ↦ let x : pg < g = d (omega arith) in omega arith
]

three_less : (f g h pf pg ph lf lg lh : ℕ) → pf ≤ f → pg ≤ g → ph ≤ h → (lf ≡ min lf (min lg lh) → pf < f) → (lg ≡ min lf (min lg lh) → pg < g) → (lh ≡ min lf (min lg lh) → ph < h) → pf + (pg + ph) < f + (g + h)
three_less f g h pf pg ph lf lg lh a b c d e i = elim (cases_lt lf (min lg lh)) [
  | inl j ↦ let x : pf < f = d (omega arith) in omega arith
  | inr j ↦ elim (cases_lt lg lh) [
    | inl k ↦ let x : pg < g = e (omega arith) in omega arith
    | inr k ↦ let x : ph < h = i (omega arith) in omega arith
  ]
]

two_inside : (f g lf lg levels : ℕ) → (2 ≤ f → lf < levels) → (2 ≤ g → lg < levels) → 2 ≤ max f g → min lf lg < levels
two_inside f g lf lg levels a b h = elim (cases_lt f 2) [
  | inl j ↦ let x : lg < levels = b (omega arith) in omega arith
  | inr j ↦ let x : lf < levels = a j in omega arith
]

module _ (levels : ℕ) (table : List Triple) where
  -- parts of all operands lie below the level
  pub top_of-with : (p : ℕ → ℕ) (k : Operation) (level : ℕ) → level ≤ top_of levels table k
      → ((r : ℕ) → r ≤ highest_of k → level ≤ level_of levels table r → level < level_of levels table (p r)) → level < top_of levels table (with_operands p k)
  top_of-with p (Not f) level h e = e f (omega arith) h
  top_of-with p (And f g) level h e = let a = e f (omega arith) (omega arith) in let b = e g (omega arith) (omega arith) in omega (arith, a, b)
  top_of-with p (Or f g) level h e = let a = e f (omega arith) (omega arith) in let b = e g (omega arith) (omega arith) in omega (arith, a, b)
  top_of-with p (Iff f g) level h e = let a = e f (omega arith) (omega arith) in let b = e g (omega arith) (omega arith) in omega (arith, a, b)
  top_of-with p (Ite f g h) level l e = let a = e f (omega arith) (omega arith) in let b = e g (omega arith) (omega arith) in let c = e h (omega arith) (omega arith) in omega (arith, a, b, c)

  -- the parts at the top level are smaller together
  pub weight_of-with : (p : ℕ → ℕ) (k : Operation) → ((r : ℕ) → r ≤ highest_of k → p r ≤ r)
      → ((r : ℕ) → r ≤ highest_of k → level_of levels table r ≡ top_of levels table k → p r < r) → weight_of (with_operands p k) < weight_of k
  weight_of-with p (Not f) le less = less f (omega arith) refl
  weight_of-with p (And f g) le less = two_less f g (p f) (p g) (level_of levels table f) (level_of levels table g) (le f (omega arith)) (le g (omega arith)) (less f (omega arith)) (less g (omega arith))
  weight_of-with p (Or f g) le less = two_less f g (p f) (p g) (level_of levels table f) (level_of levels table g) (le f (omega arith)) (le g (omega arith)) (less f (omega arith)) (less g (omega arith))
  weight_of-with p (Iff f g) le less = two_less f g (p f) (p g) (level_of levels table f) (level_of levels table g) (le f (omega arith)) (le g (omega arith)) (less f (omega arith)) (less g (omega arith))
  weight_of-with p (Ite f g h) le less = three_less f g h (p f) (p g) (p h) (level_of levels table f) (level_of levels table g) (level_of levels table h) (le f (omega arith)) (le g (omega arith)) (le h (omega arith)) (less f (omega arith)) (less g (omega arith)) (less h (omega arith))

  -- each operand lies at the top level or deeper, and the levels' number bounds it
  pub top_of-bound : (k : Operation) → ((r : ℕ) → r ≤ highest_of k → level_of levels table r ≤ levels) → top_of levels table k ≤ levels
  top_of-bound (Not f) e = e f (omega arith)
  top_of-bound (And f g) e = omega (arith, e f (omega arith))
  top_of-bound (Or f g) e = omega (arith, e f (omega arith))
  top_of-bound (Iff f g) e = omega (arith, e f (omega arith))
  top_of-bound (Ite f g h) e = omega (arith, e f (omega arith))

  -- an operand that is no constant lies inside the levels
  pub top_of-inside : (k : Operation) → ((r : ℕ) → r ≤ highest_of k → 2 ≤ r → level_of levels table r < levels) → 2 ≤ highest_of k → top_of levels table k < levels
  top_of-inside (Not f) e h = e f (omega arith) h
  top_of-inside (And f g) e h = two_inside f g (level_of levels table f) (level_of levels table g) levels (e f (omega arith)) (e g (omega arith)) h
  top_of-inside (Or f g) e h = two_inside f g (level_of levels table f) (level_of levels table g) levels (e f (omega arith)) (e g (omega arith)) h
  top_of-inside (Iff f g) e h = two_inside f g (level_of levels table f) (level_of levels table g) levels (e f (omega arith)) (e g (omega arith)) h
  top_of-inside (Ite f g h) e i = two_inside f (max g h) (level_of levels table f) (min (level_of levels table g) (level_of levels table h)) levels (e f (omega arith)) (two_inside g h (level_of levels table g) (level_of levels table h) levels (e g (omega arith)) (e h (omega arith))) i

-- growth keeps the least level
pub top_of-grows : (levels : ℕ) (old new : List Triple) → IsGrowth old new → (k : Operation) → HasOperands old k → top_of levels new k ≡ top_of levels old k
top_of-grows levels old new g k h = key_top-grows levels old new g (key_of k) h

-- growth keeps an operation's value
pub operation_of-grows : (levels : ℕ) (old new : List Triple) → IsGood levels old → IsGrowth old new → (k : Operation) → HasOperands old k → (bits : List Bool) → operation_of new k bits ≡ operation_of old k bits
operation_of-grows levels old new good g k h bits = combine-same (λ r. value_of new r bits) (λ r. value_of old r bits) k (λ r le. value_of-grows levels old new bits good g r (omega arith))
