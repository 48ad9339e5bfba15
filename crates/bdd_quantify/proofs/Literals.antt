-- On which levels a literal depends.
use Rattle.std.proofs.Common.{◌≡◌, ◌∙◌, ℕ, ◌+◌, ◌*◌, List, Bool, true, false, Some, sym, subst, arith, if◌then◌else◌}
use Rattle.std.specs.List.{slice_index_or}
use Rattle.bdd_nodes.specs.declared.store.Store.{Store}
use Rattle.bdd_nodes.specs.declared.triple.Triple.{Triple}
use Rattle.bdd_nodes.specs.Table.{child_of}
use Rattle.bdd_nodes.specs.Store.{node_of, value_of, triple}
use Rattle.bdd_ops.specs.Answer.{with_bit}
use Rattle.bdd_ops.specs.Independence.{DependsOnParity}
use Rattle.bdd_ops.proofs.Bits.{with_bit-other}

module _ (s : Store) (a : ℕ) (node : node_of s a ≡ Some (triple 0 0 1))
    (expands : (t : Triple) → node_of s a ≡ Some t → (bits : List Bool) → value_of s a bits ≡ value_of s (child_of bits t) bits)
    (always_false : (bits : List Bool) → value_of s 0 bits ≡ false) (always_true : (bits : List Bool) → value_of s 1 bits ≡ true) where
  constant : (b : Bool) (bits : List Bool) → value_of s (if b then 1 else 0) bits ≡ b
  constant true bits = always_true bits
  constant false bits = always_false bits

  value : (bits : List Bool) → value_of s a bits ≡ slice_index_or bits 0 false
  value bits = expands (triple 0 0 1) node bits ∙ constant (slice_index_or bits 0 false) bits

  -- the literal of level 0 depends on no odd level
  literal_parity : DependsOnParity s true a
  literal_parity i bits b = value (with_bit bits (2 * i + 1) b) ∙ with_bit-other bits (2 * i + 1) b 0 (λ e. absurd (omega arith)) ∙ sym (value bits)

-- the same, of what the laws say of equal stores
pub literal_at : (s e k : Store) (a : ℕ) → e ≡ s → k ≡ s → node_of s a ≡ Some (triple 0 0 1)
    → ((t : Triple) → node_of e a ≡ Some t → (bits : List Bool) → value_of e a bits ≡ value_of e (child_of bits t) bits)
    → ((bits : List Bool) → value_of k 0 bits ≡ false) → ((bits : List Bool) → value_of k 1 bits ≡ true) → DependsOnParity s true a
literal_at s e k a p q node expands always_false always_true = literal_parity s a node
    (subst (λ (x : Store). (t : Triple) → node_of x a ≡ Some t → (bits : List Bool) → value_of x a bits ≡ value_of x (child_of bits t) bits) p expands)
    (subst (λ (x : Store). (bits : List Bool) → value_of x 0 bits ≡ false) q always_false)
    (subst (λ (x : Store). (bits : List Bool) → value_of x 1 bits ≡ true) q always_true)
