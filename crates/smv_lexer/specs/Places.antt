-- What a token's place and line say of the text.
use Rattle.std.specs.Prelude.{◌≡◌, ℕ, ◌+◌, ◌-◌, ◌<◌, ◌≤◌, List, [], ◌∷◌, length, take, drop, Some}
use Rattle.smv_lexer.specs.Text.{Kind, Placed, Spells, line_feeds}
use Rattle.smv_lexer.specs.Text.Kind.{word, number, key, mark}
use Rattle.kripke_model.specs.Names.{IsAtom}

-- the bytes from at to end spell the token, and each line feed before them ended a line
pub record IsPlacedIn (bytes : List ℕ) (t : Placed) : Type 0 where
  pub some : t.at < t.end
  pub within : t.end ≤ length bytes
  pub spelled : Spells (take (t.end - t.at) (drop t.at bytes)) (Some t.kind)
  pub line : t.line ≡ 1 + line_feeds (take t.at bytes)

-- from this place on, each token begins where the one before it ends, or later
abbrev pub AreInOrder : ℕ → List Placed → Type 0
AreInOrder from [] = Unit {0}
AreInOrder from (t ∷ ts) = (from ≤ t.at) × AreInOrder t.end ts

-- a word is an atom
abbrev pub IsAtomIfWord : Kind → Type 0
IsAtomIfWord (word w) = IsAtom w
IsAtomIfWord (number n) = Unit {0}
IsAtomIfWord (key k) = Unit {0}
IsAtomIfWord (mark s) = Unit {0}
