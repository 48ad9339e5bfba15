-- Lemmas on results.
use Rattle.std.proofs.Common.{◌≡◌, ◌≢◌, ℕ, ◌<◌, ◌≤◌, ◌⊎◌, inl, inr, Bool, true, false, cond, List, Some, slice_index_or, refl, sym, ap, subst, ◌∙◌, arith}
use Rattle.std.proofs.lemmas.Bool.{cases_eq}
use Rattle.bdd_nodes.specs.declared.triple.Triple.{Triple}
use Rattle.bdd_nodes.specs.Table.{node_of, level_of, value_of, Has, IsGood, IsGrowth}
use Rattle.bdd_nodes.proofs.Tables.{Has-grows, level_of-grows, value_of-node, value_of-grows}
use Rattle.bdd_nodes.proofs.Canonical.{level_of-node}
use Rattle.bdd_nodes.specs.declared.store.Store.{Store}
use Rattle.bdd_nodes.specs.Store.{Grows}
use Rattle.bdd_ops.specs.Result as store
use Rattle.bdd_ops.specs.declared.operation.Operation.{Operation}
use Rattle.bdd_ops.specs.Operation.{operation_of, highest_of, top_of, with_operands, HasOperands, part_of, IsResult}
use Rattle.bdd_ops.proofs.Parts.{part_of-grows, part_of-value, combine-with, combine-same, top_of-grows, operation_of-grows}

-- growth keeps a result
pub IsResult-grows : (levels : ℕ) (old new : List Triple) → IsGood levels old → IsGrowth old new → (k : Operation) (r : ℕ) → IsResult levels old k r → IsResult levels new k r
IsResult-grows levels old new good g k r a = record {
  operands = Has-grows old new g (highest_of k) a.operands;
  has = Has-grows old new g r a.has;
  value = λ bits. value_of-grows levels old new bits good g r a.has ∙ a.value bits ∙ sym (operation_of-grows levels old new good g k a.operands bits);
  deep = rw (top_of-grows levels old new g k a.operands, level_of-grows levels old new g r a.has) a.deep;
}

-- where low and high are the results for the two bits of the top level, the number of their triple is the result
pub IsResult-made : (levels : ℕ) (old new : List Triple) → IsGood levels new → IsGrowth old new → (k : Operation) → HasOperands old k → (level low high r : ℕ)
    → level ≡ top_of levels old k
    → IsResult levels new (with_operands (part_of old level false) k) low → IsResult levels new (with_operands (part_of old level true) k) high
    → level < level_of levels new low → Has new r → (low ≡ high → r ≡ low) → (low ≢ high → node_of new r ≡ Some (record { level = level; low = low; high = high }))
    → IsResult levels new k r
IsResult-made levels old new good g k operands level low high r top a b deeper has equal node = record {
  operands = Has-grows old new g (highest_of k) operands;
  has = has;
  value = λ bits. side bits ∙ whole bits;
  deep = rw (top_of-grows levels old new g k operands) (deep (cases_eq low high));
}
  where
    -- the result has the value of the side that the bit chooses
    side : (bits : List Bool) → value_of new r bits ≡ value_of new (cond (slice_index_or bits level false) high low) bits
    side bits = by (cases_eq low high)
      where
        same : (x : Bool) → low ≡ high → low ≡ cond x high low
        same true e = e
        same false e = refl

        by : (low ≡ high) ⊎ (low ≡ high → ⊥) → value_of new r bits ≡ value_of new (cond (slice_index_or bits level false) high low) bits
        by (inl e) = ap (λ x. value_of new x bits) (equal e ∙ same (slice_index_or bits level false) e)
        by (inr other) = value_of-node levels new bits good r (record { level = level; low = low; high = high }) (node other)

    -- the operands' parts have their values
    parts : (bits : List Bool) (x : Bool) → slice_index_or bits level false ≡ x → operation_of new (with_operands (part_of old level x) k) bits ≡ operation_of new k bits
    parts bits x e =
        combine-with (λ y. value_of new y bits) (part_of old level x) k
        ∙ combine-same (λ y. value_of new (part_of old level x y) bits) (λ y. value_of new y bits) k (λ y le.
        ap (λ z. value_of new z bits) (sym (part_of-grows old new g level x y (omega arith)))
        ∙ part_of-value levels new good level x bits e y (omega (arith, Has-grows old new g y (omega arith))))

    whole : (bits : List Bool) → value_of new (cond (slice_index_or bits level false) high low) bits ≡ operation_of new k bits
    whole bits = by (slice_index_or bits level false) refl
      where
        by : (x : Bool) → slice_index_or bits level false ≡ x → value_of new (cond x high low) bits ≡ operation_of new k bits
        by true e = b.value bits ∙ parts bits true e
        by false e = a.value bits ∙ parts bits false e

    deep : (low ≡ high) ⊎ (low ≡ high → ⊥) → top_of levels old k ≤ level_of levels new r
    deep (inl e) = let l = ap (level_of levels new) (equal e) in omega (arith, l)
    deep (inr other) = omega (arith, level_of-node levels new r (record { level = level; low = low; high = high }) (node other))

-- the same over stores
pub IsResult-store_grows : (old new : Store) → Grows old new → (k : Operation) (r : ℕ) → store.IsResult old k r → store.IsResult new k r
IsResult-store_grows old new g k r a =
    subst (λ l. IsResult l new.nodes.keys k r) (sym g.levels) (IsResult-grows old.levels old.nodes.keys new.nodes.keys old.good g.triples k r a)
