-- The pairs that the words for operands of some names write.
use Rattle.std.proofs.Common.{◌≡◌, ◌∙◌, ℕ, ◌+◌, ◌<◌, List, [], ◌∷◌, ◌++◌, Option, Some, None}
use Rattle.std.proofs.Common.{Bor, ap, drop, get_or, length, map, refl, sym}
use Rattle.std.specs.Option.{option_map, option_and_then}
use Rattle.std.proofs.lemmas.List.{append-nil, append_assoc, drop_more}
use Rattle.command_words.specs.Given.{Values, operands_with, with_words}
use Rattle.command_words.specs.Words.{spec_pair, spec_pairs}

-- these pairs before the others, if these are pairs
abbrev pub with_more : List (ℕ × ℕ) → Option (List (ℕ × ℕ)) → Option (List (ℕ × ℕ))
with_more pairs = option_map (λ more. pairs ++ more)

module _ (values : Values) (pairs : List (ℕ × ℕ)) where
  abbrev pub before : List (List ℕ) → Option (List (ℕ × ℕ))
  before names = with_more pairs (spec_pairs (operands_with names values))

module _ (values : Values) (pairs : List (ℕ × ℕ)) (name : List ℕ) (names : List (List ℕ)) where
  abbrev words : List (List ℕ)
  words = operands_with names values

  -- the argument of the first name has no word
  pub no_word : values name ≡ None → before values pairs (name ∷ names) ≡ Some pairs
  no_word e =
      ap (λ value. with_more pairs (spec_pairs (with_words value words))) e
      ∙ ap (λ all. Some all) (append-nil pairs)

  -- it has a word, which writes a pair
  pub one_word : (word : List ℕ) (pair : ℕ × ℕ) → values name ≡ Some word
      → spec_pair word ≡ Some pair
      → before values pairs (name ∷ names) ≡ before values (pairs ++ pair ∷ []) names
  one_word word pair e is =
      ap (λ value. with_more pairs (spec_pairs (with_words value words))) e
      ∙ ap (λ one. with_more pairs (option_and_then
      (λ p. option_map (λ more. p ∷ more) (spec_pairs words)) one)) is
      ∙ go (spec_pairs words)
    where
      go : (others : Option (List (ℕ × ℕ)))
          → with_more pairs (option_map (λ more. pair ∷ more) others)
          ≡ with_more (pairs ++ pair ∷ []) others
      go None = refl
      go (Some more) = ap (λ all. Some all) (sym (append_assoc pairs (pair ∷ []) more))

-- the same, where the names are read one after another
pub one_more : (values : Values) (pairs : List (ℕ × ℕ)) (names : List (Bor (List ℕ))) (i : ℕ)
    (d : Bor (List ℕ)) (word : List ℕ) (pair : ℕ × ℕ) → i < length names
    → values (get_or names i d).now ≡ Some word → spec_pair word ≡ Some pair
    → before values pairs (map (λ s. s.now) (drop i names))
    ≡ before values (pairs ++ pair ∷ []) (map (λ s. s.now) (drop (i + 1) names))
one_more values pairs names i d word pair inside e is =
    ap (λ free. before values pairs (map (λ s. s.now) free)) (drop_more names i d inside)
    ∙ one_word values pairs (get_or names i d).now (map (λ s. s.now) (drop (i + 1) names)) word pair e
    is
