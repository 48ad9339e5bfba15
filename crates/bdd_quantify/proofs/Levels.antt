-- Lemmas on lists of levels that rise.
use Rattle.std.proofs.Common.{◌≢◌, ℕ, ◌<◌, ◌≤◌, min, inl, inr, List, length, get_or, ap, ◌∙◌, arith}
use Rattle.std.proofs.lemmas.Bool.{cases_lt, cases_eq}
use Rattle.std.proofs.lemmas.List.Kept.{AllPairs-from_increasing}
use Rattle.std.specs.List.Sorted.{IsStrictlyIncreasing}
use Rattle.bdd_ops.proofs.Choices.{Rises}
use Rattle.bdd_quantify.specs.Product.{ArePassed}

pub rises : (xs : List ℕ) → IsStrictlyIncreasing xs → Rises xs
rises xs h i j less inside = AllPairs-from_increasing xs h i j 0 less inside

-- what is passed at a level is passed below it
pub passed-below : (xs : List ℕ) (from level x y : ℕ) → ArePassed xs from level → level < x → level < y → ArePassed xs from (min x y)
passed-below xs from level x y passed deep_x deep_y k under inside = let less = passed k under inside in omega (arith, less, deep_x, deep_y)

-- a level that isn't at the first place that is left is nowhere
pub not_there : (xs : List ℕ) (from level : ℕ) → IsStrictlyIncreasing xs → ArePassed xs from level → level ≤ get_or xs from 0 → get_or xs from 0 ≢ level → (k : ℕ) → k < length xs → get_or xs k 0 ≢ level
not_there xs from level up passed reached other k inside = λ same. elim (cases_lt k from) [
  | inl less ↦ let before = passed k less inside in absurd (omega (arith, before, same))
  | inr more ↦ elim (cases_eq from k) [
    | inl e ↦ absurd (other (ap (λ j. get_or xs j 0) e ∙ same))
    | inr apart ↦ let under : from < k = omega arith in let after = rises xs up from k under inside in absurd (omega (arith, after, reached, same))
  ]
]
