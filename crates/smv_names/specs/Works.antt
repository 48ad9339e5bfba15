-- A table over abbreviations that is filled in an order in which they can be worked off.
use Rattle.std.specs.Prelude.{◌≡◌, ℕ, ◌<◌, ◌≤◌, List, length, slice_index, slice_index_or, Some}
use Rattle.smv_instances.specs.Program.{Program}
use Rattle.smv_instances.specs.Instances.{all_entries}
use Rattle.smv_names.specs.Abbreviations.{Abbreviation, Uses}
use Rattle.smv_names.specs.Nodes.{abbreviation_at}

-- the first k abbreviations of the order have entries with the property, the others have the value at the start
pub record Works {A : Type 0} (start : A) (property : Abbreviation → A → Type 0) (p : Program)
    (order : List ℕ) (table : List A) (k : ℕ) : Type 0 where
  pub lengths : length table ≡ length (all_entries p)
  pub done : (j : ℕ) (a : Abbreviation) → j < k → abbreviation_at p (slice_index order j) ≡ Some a
      → property a (slice_index_or table (slice_index order j) start)
  pub later : (j : ℕ) → k ≤ j → j < length order
      → slice_index_or table (slice_index order j) start ≡ start

-- the abbreviations that a uses have entries with the property
abbrev pub HasUsed : {A : Type 0} → A → (Abbreviation → A → Type 0) → Program → Abbreviation
    → List A → Type 0
HasUsed start property p a table
    = (v : ℕ) (b : Abbreviation) → abbreviation_at p v ≡ Some b → Uses p a b
    → property b (slice_index_or table v start)
