-- Marked numbers in a list.
use Rattle.std.specs.Prelude.{◌≡◌, ℕ, ◌<◌, ◌≤◌, List, length, slice_index}
use Rattle.block_proofs.specs.declared.numbered.Numbered.{Numbered}
use Rattle.block_proofs.specs.Marks.{IsMarked}
use Rattle.std.specs.Prelude.{Bool}

-- these are the marked numbers below the end, each with its place
pub record AreNumberedBelow (marks : List Bool) (end : ℕ) (list : Numbered) : Type 0 where
  pub as_many : length list.places.items ≡ end
  pub few : length list.numbers.items ≤ end
  pub below : (k : ℕ) → k < length list.numbers.items → slice_index list.numbers.items k < end
  pub within : (number : ℕ) → number < end → IsMarked marks number
      → slice_index list.places.items number < length list.numbers.items
  pub there : (number : ℕ) → number < end → IsMarked marks number
      → slice_index list.numbers.items (slice_index list.places.items number) ≡ number

-- all of them
abbrev pub AreNumbered : List Bool → Numbered → Type 0
AreNumbered marks list = AreNumberedBelow marks (length marks) list
