-- The pairs of the code, as the definitions have them.
use Rattle.std.specs.Prelude.{ℕ, List, take}
use Rattle.command_words.specs.declared.pairs.SpecPairs.{SpecPairs}

-- those at the head of the array
abbrev pub pairs_in : SpecPairs → List (ℕ × ℕ)
pairs_in pairs = take pairs.len pairs.pairs
