-- Lines that are tested in turn.
use Rattle.std.proofs.Common.{◌≡◌, ℕ, zero, suc, ◌<◌, Bool, true, false, List, [], ◌∷◌, ◌++◌, length, refl, ◌∙◌, ap, subst, arith}
use Rattle.std.specs.Prelude.{All}
use Rattle.std.proofs.lemmas.List.Elements.{All-nil}
use Rattle.kripke_model.specs.System.{System}
use Rattle.fair_rules.specs.Checks.{Check, IsMet, LineHolds, AllHold, IsFirstBad}
use Rattle.proof_lines.specs.Tested.{AreTested, counted, next_count}

module _ (m : System) where
  pub none_tested : (k : ℕ) → AreTested m [] k true k
  none_tested k = (λ n. All-nil (IsMet m), refl)

  -- a line that holds, and those behind it
  pub one_holds : (line : List Check) (rest : List (List Check)) (k next : ℕ) (good : Bool) (after : ℕ) → All (IsMet m) line → next ≡ next_count k
      → AreTested m rest next good after → AreTested m (line ∷ rest) k good after
  one_holds line rest k next true after h e t = (all, t.1 ∙ ap (λ n. counted n (length rest)) e)
    where
      all : AllHold m (line ∷ rest)
      all zero = h
      all (suc n) = t.0 n
  one_holds line rest k next false after h e t = (suc t.0, (before, t.1.1), t.2 ∙ ap (λ n. counted n t.0) e)
    where
      before : (i : ℕ) → i < suc t.0 → LineHolds m (line ∷ rest) i
      before zero less = h
      before (suc i) less = t.1.0 i (omega (arith, less))

  pub one_fails : (line : List Check) (rest : List (List Check)) (k : ℕ) → (All (IsMet m) line → ⊥) → AreTested m (line ∷ rest) k false k
  one_fails line rest k h = (zero, (λ i less. absurd (omega (arith, less)), h), refl)

  -- ---- the same backwards

  pub first_held : (line : List Check) (rest : List (List Check)) (k after : ℕ) → AreTested m (line ∷ rest) k true after → All (IsMet m) line
  first_held line rest k after t = t.0 zero

  pub rest_held : (line : List Check) (rest : List (List Check)) (k after : ℕ) → AreTested m (line ∷ rest) k true after → AreTested m rest (next_count k) true after
  rest_held line rest k after t = (λ n. t.0 (suc n), t.1)

  -- ---- lists of lines, one behind another

  pub then_tested : (xs ys : List (List Check)) (k now : ℕ) (good : Bool) (after : ℕ) → AreTested m xs k true now → AreTested m ys now good after → AreTested m (xs ++ ys) k good after
  then_tested [] ys k now good after a b = subst (λ n. AreTested m ys n good after) a.1 b
  then_tested (x ∷ xs) ys k now good after a b =
      one_holds x (xs ++ ys) k (next_count k) good after (first_held x xs k now a) refl (then_tested xs ys (next_count k) now good after (rest_held x xs k now a) b)

  pub left_fails : (xs ys : List (List Check)) (k after : ℕ) → AreTested m xs k false after → AreTested m (xs ++ ys) k false after
  left_fails xs ys k after t = (t.0, (λ i less. left xs i t.0 less t.1 (t.1.0 i less), λ h. t.1.1 (back xs t.0 h)), t.2)
    where
      back : (xs : List (List Check)) (n : ℕ) → LineHolds m (xs ++ ys) n → LineHolds m xs n
      back [] n h = All-nil (IsMet m)
      back (x ∷ xs) zero h = h
      back (x ∷ xs) (suc n) h = back xs n h

      short : (xs : List (List Check)) (n : ℕ) → (LineHolds m xs n → ⊥) → n < length xs
      short [] n h = absurd (h (All-nil (IsMet m)))
      short (x ∷ xs) zero h = omega arith
      short (x ∷ xs) (suc n) h = omega (arith, short xs n h)

      there : (xs : List (List Check)) (i : ℕ) → i < length xs → LineHolds m xs i → LineHolds m (xs ++ ys) i
      there [] i less h = absurd (omega (arith, less))
      there (x ∷ xs) zero less h = h
      there (x ∷ xs) (suc i) less h = there xs i (omega (arith, less)) h

      left : (xs : List (List Check)) (i n : ℕ) → i < n → IsFirstBad m xs n → LineHolds m xs i → LineHolds m (xs ++ ys) i
      left xs i n less bad h = there xs i (omega (arith, less, short xs n bad.1)) h
