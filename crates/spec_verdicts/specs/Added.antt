-- What becomes of the bytes of a proof file with one block more.
use Rattle.std.specs.Prelude.{◌≡◌, ◌≤◌, ◌<◌, ℕ, ◌+◌, List, ◌++◌, length, Option, Some, None}
use Rattle.proof_text.specs.Spells.{most_bytes}

-- the block is added, or the length is told that they would have with it, which is too long
abbrev pub AddsText : List ℕ → List ℕ → List ℕ → Option ℕ → Type 0
AddsText old block new None = (new ≡ old ++ block) × (length old + length block ≤ most_bytes)
AddsText old block new (Some size) =
    (new ≡ old) × (size ≡ length old + length block) × (most_bytes < size)

-- the same of the bytes that are saved under a name, if they are
abbrev pub AddsToSaved : Option (List ℕ × List ℕ) → List ℕ → Option (List ℕ × List ℕ) → Option ℕ
    → Type 0
AddsToSaved None block new left_out = (new ≡ None) × (left_out ≡ None)
AddsToSaved (Some saved) block new left_out =
    (after : List ℕ) × (new ≡ Some (saved.0, after)) × AddsText saved.1 block after left_out
