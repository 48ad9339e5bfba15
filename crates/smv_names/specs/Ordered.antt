-- Abbreviations in an order in which they can be worked off, and those that are circular.
use Rattle.std.specs.Prelude.{◌≡◌, ℕ, ◌<◌, Bool, true, false, List, length, slice_index, slice_index_or, Some}
use Rattle.smv_instances.specs.Program.{Expr, Program}
use Rattle.smv_instances.specs.Instances.{Scope, all_entries}
use Rattle.smv_names.specs.Abbreviations.{Abbreviation, text_of, Uses, IsCircular}
use Rattle.smv_names.specs.Nodes.{abbreviation_at}

-- each abbreviation by its number, once; one that is not circular stands after those with a text that it uses
pub record AreOrdered (p : Program) (order : List ℕ) (circular : List Bool) : Type 0 where
  pub flags : length circular ≡ length (all_entries p)
  pub are_numbers : (k : ℕ) → k < length order → slice_index order k < length (all_entries p)
  pub all : (v : ℕ) → v < length (all_entries p) → (k : ℕ) × (k < length order)
      × (slice_index order k ≡ v)
  pub once : (j k : ℕ) → j < length order → k < length order
      → slice_index order j ≡ slice_index order k → j ≡ k
  pub earlier : (k v : ℕ) (a b : Abbreviation) (text : Scope × Expr) → k < length order
      → abbreviation_at p (slice_index order k) ≡ Some a
      → slice_index_or circular (slice_index order k) false ≡ false → Uses p a b
      → abbreviation_at p v ≡ Some b → text_of b ≡ Some text
      → (j : ℕ) × (j < k) × (slice_index order j ≡ v)
  pub is_circular : (v : ℕ) (a : Abbreviation) → abbreviation_at p v ≡ Some a
      → slice_index_or circular v false ≡ true → IsCircular p a
  pub is_straight : (v : ℕ) (a : Abbreviation) → abbreviation_at p v ≡ Some a
      → slice_index_or circular v false ≡ false → IsCircular p a → ⊥
