-- Lemmas on diagram tables.
use Rattle.std.proofs.Common.{inl, inr, ◌⊎◌, ◌≡◌, ◌≢◌, ℕ, zero, suc, ◌+◌, ◌<◌, ◌≤◌, Bool, true, false, cond, ◌==◌, List, [], ◌∷◌, ◌++◌, length, None, Some, slice_get, slice_index_or, refl, sym, ap, ◌∙◌, arith, length-append, append-nil, append_assoc}
use Rattle.std.specs.Option.{option_map_or}
use Rattle.std.proofs.lemmas.Option.{none-some}
use Rattle.bdd_nodes.specs.declared.triple.Triple.{Triple}
use Rattle.bdd_nodes.specs.declared.store.Store.{Store}
use Rattle.bdd_nodes.specs.Store.{makes_of, Grows}
use Rattle.bdd_nodes.specs.Table.{node_of, level_of, Has, child_of, next_of, walk, value_of, IsGoodNode, IsGood, IsGrowth}

-- the triple at a place
pub node_of-at : (table : List Triple) (i : ℕ) → node_of table (i + 2) ≡ slice_get table i
unfolding node_of
node_of-at table i = let e : i + 2 ≡ suc (suc i) = omega arith in rw e refl

pub slice_get-append : {X : Type 0} (xs ys : List X) (i : ℕ) → i < length xs → slice_get (xs ++ ys) i ≡ slice_get xs i
slice_get-append [] ys i h = absurd (omega arith)
slice_get-append (x ∷ xs) ys zero h = refl
slice_get-append (x ∷ xs) ys (suc i) h = slice_get-append xs ys i (omega arith)

slice_get-in : {X : Type 0} (xs : List X) (i : ℕ) (x : X) → slice_get xs i ≡ Some x → i < length xs
slice_get-in [] i x e = cc
slice_get-in (x ∷ xs) zero y e = omega arith
slice_get-in (x ∷ xs) (suc i) y e = omega (arith, slice_get-in xs i y e)

slice_get-some : {X : Type 0} (xs : List X) (i : ℕ) → i < length xs → (x : X) × (slice_get xs i ≡ Some x)
slice_get-some [] i h = absurd (omega arith)
slice_get-some (x ∷ xs) zero h = (x, refl)
slice_get-some (x ∷ xs) (suc i) h = slice_get-some xs i (omega arith)

-- only numbers of the table from 2 on have triples
pub node_of-has : (table : List Triple) (r : ℕ) (t : Triple) → node_of table r ≡ Some t → Has table r × (2 ≤ r)
unfolding node_of
node_of-has table zero t e = cc
node_of-has table (suc zero) t e = cc
node_of-has table (suc (suc i)) t e = (omega (arith, slice_get-in table i t e), omega arith)

pub node_of-some : (table : List Triple) (r : ℕ) → Has table r → 2 ≤ r → (t : Triple) × (node_of table r ≡ Some t)
unfolding node_of
node_of-some table zero h k = absurd (omega arith)
node_of-some table (suc zero) h k = absurd (omega arith)
node_of-some table (suc (suc i)) h k = slice_get-some table i (omega arith)

pub node_of-constant : (table : List Triple) (r : ℕ) → r < 2 → node_of table r ≡ None
unfolding node_of
node_of-constant table zero h = refl
node_of-constant table (suc zero) h = refl
node_of-constant table (suc (suc i)) h = absurd (omega arith)

-- growth keeps triples
pub node_of-grows : (old new : List Triple) → IsGrowth old new → (r : ℕ) → Has old r → node_of new r ≡ node_of old r
unfolding node_of
node_of-grows old new g zero h = refl
node_of-grows old new g (suc zero) h = refl
node_of-grows old new g (suc (suc i)) h = rw g.split (slice_get-append old g.added i (omega arith))

pub level_of-grows : (levels : ℕ) (old new : List Triple) → IsGrowth old new → (r : ℕ) → Has old r → level_of levels new r ≡ level_of levels old r
level_of-grows levels old new g r h = ap (λ o. option_map_or (λ (t : Triple). t.level) o levels) (node_of-grows old new g r h)

next_of-grows : (old new : List Triple) (bits : List Bool) → IsGrowth old new → (r : ℕ) → Has old r → next_of new bits r ≡ next_of old bits r
unfolding next_of
next_of-grows old new bits g r h = ap (λ o. option_map_or (child_of bits) o r) (node_of-grows old new g r h)

pub next_of-node : (table : List Triple) (bits : List Bool) (r : ℕ) (t : Triple) → node_of table r ≡ Some t → next_of table bits r ≡ child_of bits t
unfolding next_of
next_of-node table bits r t e = ap (λ o. option_map_or (child_of bits) o r) e

next_of-constant : (table : List Triple) (bits : List Bool) (r : ℕ) → r < 2 → next_of table bits r ≡ r
unfolding next_of
next_of-constant table bits r h = ap (λ o. option_map_or (child_of bits) o r) (node_of-constant table r h)

pub child_of-earlier : (bits : List Bool) (t : Triple) (r : ℕ) → t.low < r → t.high < r → child_of bits t < r
child_of-earlier bits t r low high = by (slice_index_or bits t.level false)
  where
    by : (b : Bool) → cond b t.high t.low < r
    by true = high
    by false = low

-- a step from a number of the table leads to a smaller one, unless it is a constant
next_of-below : (levels : ℕ) (table : List Triple) (bits : List Bool) → IsGood levels table → (r : ℕ) → Has table r → 2 ≤ r → next_of table bits r < r
next_of-below levels table bits good r h k =
    let n = node_of-some table r h k in
    let g = good.each r n.0 n.1 in
    rw (next_of-node table bits r n.0 n.1) (child_of-earlier bits n.0 r g.low_earlier g.high_earlier)

-- a walk that has come to a constant stays there
walk-constant : (table : List Triple) (bits : List Bool) (n r : ℕ) → r < 2 → walk table bits n r ≡ r
unfolding walk
walk-constant table bits zero r h = refl
walk-constant table bits (suc n) r h = rw (next_of-constant table bits r h) (walk-constant table bits n r h)

-- more steps than the number says change nothing
walk-settles : (levels : ℕ) (table : List Triple) (bits : List Bool) → IsGood levels table → (m n r : ℕ) → n ≤ m → r ≤ n → Has table r → walk table bits n r ≡ walk table bits r r
unfolding walk
walk-settles levels table bits good m zero zero h k has = refl
walk-settles levels table bits good m zero (suc r) h k has = absurd (omega arith)
walk-settles levels table bits good m (suc n) zero h k has = walk-constant table bits (suc n) zero (omega arith)
walk-settles levels table bits good m (suc n) (suc zero) h k has =
    walk-constant table bits (suc n) (suc zero) (omega arith) ∙ sym (walk-constant table bits (suc zero) (suc zero) (omega arith))
walk-settles levels table bits good zero (suc n) (suc (suc r)) h k has = absurd (omega arith)
walk-settles levels table bits good (suc m) (suc n) (suc (suc r)) h k has =
    let c : ℕ = next_of table bits (suc (suc r)) in
    let below : c < suc (suc r) = next_of-below levels table bits good (suc (suc r)) has (omega arith) in
    walk-settles levels table bits good m n c (omega arith) (omega arith) (omega arith)
    ∙ sym (walk-settles levels table bits good m (suc r) c (omega arith) (omega arith) (omega arith))

-- the value of a triple is that of the child to which it leads
pub value_of-node : (levels : ℕ) (table : List Triple) (bits : List Bool) → IsGood levels table → (r : ℕ) (t : Triple) → node_of table r ≡ Some t → value_of table r bits ≡ value_of table (child_of bits t) bits
unfolding value_of walk
value_of-node levels table bits good zero t e = absurd (omega (arith, (node_of-has table zero t e).1))
value_of-node levels table bits good (suc r) t e =
    let h = node_of-has table (suc r) t e in
    let g = good.each (suc r) t e in
    let c : ℕ = child_of bits t in
    let below : c < suc r = child_of-earlier bits t (suc r) g.low_earlier g.high_earlier in
    let has : c < length table + 2 = omega (arith, h.0) in
    let settle : walk table bits r c ≡ walk table bits c c = walk-settles levels table bits good r r c (omega arith) (omega arith) has in
    rw (next_of-node table bits (suc r) t e, settle) refl

pub value_of-false : (table : List Triple) (bits : List Bool) → value_of table 0 bits ≡ false
unfolding value_of walk
value_of-false table bits = refl

pub value_of-true : (table : List Triple) (bits : List Bool) → value_of table 1 bits ≡ true
unfolding value_of walk
value_of-true table bits = rw (walk-constant table bits 1 1 (omega arith)) refl

walk-grows : (levels : ℕ) (old new : List Triple) (bits : List Bool) → IsGood levels old → IsGrowth old new → (n r : ℕ) → Has old r → walk new bits n r ≡ walk old bits n r
unfolding walk
walk-grows levels old new bits good g zero r h = refl
walk-grows levels old new bits good g (suc n) r h =
    rw (next_of-grows old new bits g r h) (walk-grows levels old new bits good g n (next_of old bits r) (stays levels old bits good r h))
  where
    stays : (levels : ℕ) (old : List Triple) (bits : List Bool) → IsGood levels old → (r : ℕ) → Has old r → Has old (next_of old bits r)
    stays levels old bits good zero h = rw (next_of-constant old bits zero (omega arith)) h
    stays levels old bits good (suc zero) h = rw (next_of-constant old bits (suc zero) (omega arith)) h
    stays levels old bits good (suc (suc i)) h = omega (arith, next_of-below levels old bits good (suc (suc i)) h (omega arith))

-- growth keeps the meaning of each number that the table had
pub value_of-grows : (levels : ℕ) (old new : List Triple) (bits : List Bool) → IsGood levels old → IsGrowth old new → (r : ℕ) → Has old r → value_of new r bits ≡ value_of old r bits
unfolding value_of
value_of-grows levels old new bits good g r h = rw (walk-grows levels old new bits good g r r h) refl

-- a table grows by nothing, by one triple and step by step
pub IsGrowth-same : (table : List Triple) → IsGrowth table table
IsGrowth-same table = record { added = []; split = sym (append-nil table) }

pub IsGrowth-push : (table : List Triple) (t : Triple) → IsGrowth table (table ++ t ∷ [])
IsGrowth-push table t = record { added = t ∷ []; split = refl }

pub IsGrowth-then : (a b c : List Triple) → IsGrowth a b → IsGrowth b c → IsGrowth a c
IsGrowth-then a b c g h = record { added = g.added ++ h.added; split = rw (h.split, g.split) (append_assoc a g.added h.added) }

pub Has-grows : (old new : List Triple) → IsGrowth old new → (r : ℕ) → Has old r → Has new r
Has-grows old new g r h = omega (arith, ap length g.split, length-append old g.added)

-- the empty table is good
pub IsGood-empty : (levels : ℕ) → IsGood levels []
IsGood-empty levels = record {
  each = λ r t e. absurd (omega (arith, node_of-has [] r t e));
  once = λ q r t e f. absurd (omega (arith, node_of-has [] q t e));
}

-- a triple in the longer table is an old one at its number, or the new one at the end
node_of-push : (table : List Triple) (t : Triple) (r : ℕ) (u : Triple) → node_of (table ++ t ∷ []) r ≡ Some u → (Has table r × (node_of table r ≡ Some u)) ⊎ ((r ≡ length table + 2) × (u ≡ t))
unfolding node_of
node_of-push table t zero u e = cc
node_of-push table t (suc zero) u e = cc
node_of-push table t (suc (suc i)) u e = split (by table i e)
  where
    by : (xs : List Triple) (i : ℕ) → slice_get (xs ++ t ∷ []) i ≡ Some u → ((i < length xs) × (slice_get xs i ≡ Some u)) ⊎ ((i ≡ length xs) × (u ≡ t))
    by [] zero e = inr (refl, cc)
    by [] (suc i) e = cc
    by (x ∷ xs) zero e = inl (omega arith, e)
    by (x ∷ xs) (suc i) e = elim (by xs i e) [ inl h ↦ inl (omega (arith, h.0), h.1) | inr h ↦ inr (omega (arith, h.0), h.1) ]

    split : ((i < length table) × (slice_get table i ≡ Some u)) ⊎ ((i ≡ length table) × (u ≡ t)) → (Has table (suc (suc i)) × (slice_get table i ≡ Some u)) ⊎ ((suc (suc i) ≡ length table + 2) × (u ≡ t))
    split (inl h) = inl (omega (arith, h.0), h.1)
    split (inr h) = inr (omega (arith, h.0), h.1)

pub node_of-last : (table : List Triple) (t : Triple) → node_of (table ++ t ∷ []) (length table + 2) ≡ Some t
node_of-last table t = node_of-at (table ++ t ∷ []) (length table) ∙ last table
  where
    last : (xs : List Triple) → slice_get (xs ++ t ∷ []) (length xs) ≡ Some t
    last [] = refl
    last (x ∷ xs) = last xs

-- a new triple over numbers that are there keeps the table good
pub IsGood-push : (levels : ℕ) (table : List Triple) (t : Triple) → IsGood levels table
    → t.level < levels → Has table t.low → Has table t.high → t.level < level_of levels table t.low → t.level < level_of levels table t.high → t.low ≢ t.high
    → ((r : ℕ) → node_of table r ≡ Some t → ⊥) → IsGood levels (table ++ t ∷ [])
IsGood-push levels table t good inside low high low_deeper high_deeper different new = record { each = each; once = once }
  where
    grows : IsGrowth table (table ++ t ∷ [])
    grows = IsGrowth-push table t

    each : (r : ℕ) (u : Triple) → node_of (table ++ t ∷ []) r ≡ Some u → IsGoodNode levels (table ++ t ∷ []) r u
    each r u e = elim (node_of-push table t r u e) [ inl h ↦ old r u h.0 h.1 | inr h ↦ rw h.1 (last r h.0) ]
      where
        old : (r : ℕ) (u : Triple) → Has table r → node_of table r ≡ Some u → IsGoodNode levels (table ++ t ∷ []) r u
        old r u has at =
            let g = good.each r u at in
            record {
              inside = g.inside;
              low_deeper = rw (level_of-grows levels table (table ++ t ∷ []) grows u.low (omega (arith, g.low_earlier))) g.low_deeper;
              high_deeper = rw (level_of-grows levels table (table ++ t ∷ []) grows u.high (omega (arith, g.high_earlier))) g.high_deeper;
              low_earlier = g.low_earlier;
              high_earlier = g.high_earlier;
              different = g.different;
            }

        last : (r : ℕ) → r ≡ length table + 2 → IsGoodNode levels (table ++ t ∷ []) r t
        last r at = record {
          inside = inside;
          low_deeper = rw (level_of-grows levels table (table ++ t ∷ []) grows t.low low) low_deeper;
          high_deeper = rw (level_of-grows levels table (table ++ t ∷ []) grows t.high high) high_deeper;
          low_earlier = omega arith;
          high_earlier = omega arith;
          different = different;
        }

    once : (q r : ℕ) (u : Triple) → node_of (table ++ t ∷ []) q ≡ Some u → node_of (table ++ t ∷ []) r ≡ Some u → q ≡ r
    once q r u e f = by (node_of-push table t q u e) (node_of-push table t r u f)
      where
        by : (Has table q × (node_of table q ≡ Some u)) ⊎ ((q ≡ length table + 2) × (u ≡ t)) → (Has table r × (node_of table r ≡ Some u)) ⊎ ((r ≡ length table + 2) × (u ≡ t)) → q ≡ r
        by (inl h) (inl k) = good.once q r u h.1 k.1
        by (inl h) (inr k) = absurd (new q (h.1 ∙ ap Some k.1))
        by (inr h) (inl k) = absurd (new r (k.1 ∙ ap Some h.1))
        by (inr h) (inr k) = h.0 ∙ sym k.0

-- where a walk ends, the value says whether it ended at 1
pub value_of-end : (table : List Triple) (bits : List Bool) (r : ℕ) → Has table r → node_of table r ≡ None → value_of table r bits ≡ (r == 1)
value_of-end table bits zero has e = value_of-false table bits
value_of-end table bits (suc zero) has e = value_of-true table bits
value_of-end table bits (suc (suc i)) has e = absurd (none-some (node_of-some table (suc (suc i)) has (omega arith)).0 (sym e ∙ (node_of-some table (suc (suc i)) has (omega arith)).1))

-- growth of the table alone is growth of the store
pub Grows-table : (old new : Store) → new.levels ≡ old.levels → new.limit ≡ old.limit → makes_of old ≤ makes_of new → IsGrowth old.nodes.keys new.nodes.keys → Grows old new
Grows-table old new levels limit makes g = record {
  levels = levels;
  limit = limit;
  makes = makes;
  triples = g;
  has = Has-grows old.nodes.keys new.nodes.keys g;
  node = node_of-grows old.nodes.keys new.nodes.keys g;
  level = λ r h. ap (λ l. level_of l new.nodes.keys r) levels ∙ level_of-grows old.levels old.nodes.keys new.nodes.keys g r h;
  value = λ r h bits. value_of-grows old.levels old.nodes.keys new.nodes.keys bits old.good g r h;
}

pub Grows-same : (s : Store) → Grows s s
Grows-same s = Grows-table s s refl refl (omega arith) (IsGrowth-same s.nodes.keys)

-- growth in turn
pub Grows-then : (a b c : Store) → Grows a b → Grows b c → Grows a c
Grows-then a b c g h = Grows-table a c (h.levels ∙ g.levels) (h.limit ∙ g.limit) (omega (arith, g.makes, h.makes)) (IsGrowth-then a.nodes.keys b.nodes.keys c.nodes.keys g.triples h.triples)
