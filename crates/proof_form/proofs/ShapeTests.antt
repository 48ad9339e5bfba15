-- The parts of the test of a shape in one.
use Rattle.std.proofs.Common.{◌≡◌, ◌↔◌, ℕ, List, Bool, false, All, AllPairs, IsTrue, Some, length, sym, subst, ◌∙◌}
use Rattle.std.proofs.lemmas.Bool.{false≢true}
use Rattle.kripke_model.specs.Ctl.{Ctl}
use Rattle.kripke_model.specs.Leaves.{HasLeafConstraints}
use Rattle.kripke_model.specs.System.{System, constraint_count}
use Rattle.proof_form.specs.Form.{Entry, FreeEntry, FreePart, Layer, Proof}
use Rattle.proof_form.specs.Shape.{Avoids, ComesBefore, FitsConstraints, StandsBefore, FitsFreely, HasConstraintRule, HasRule, IsFreeInShape, IsInShape}
use Rattle.proof_form.specs.ShapeParts.{ClaimFits, IsFreelyLaidOut, IsLaidOut}

-- a test that fails refutes what needs it
pub refuted : {X P : Type 0} (r : Bool) → r ≡ false → (P → IsTrue r) → (X → P) → (IsTrue false → X) × (X → IsTrue false)
refuted r off back part = (λ h. absurd (false≢true h), λ x. absurd (false≢true (sym off ∙ back (part x))))

module _ {A : Type 0} (m : System) where
  pub free_shape : (p : FreePart A) → IsFreelyLaidOut p → (good : Bool) → (IsTrue good ↔ All (HasConstraintRule m) p.entries) → IsTrue good ↔ IsFreeInShape m p
  free_shape p laid good rules = (
    λ h. record { rising = laid.rising; rules = rules.0 h; avoided = laid.avoided; reach = laid.reach; fits = laid.fits },
    λ shape. rules.1 shape.rules,
  )

  pub free_fits : (p : FreePart A) → (HasLeafConstraints m → ⊥) → (good : Bool) → (IsTrue good ↔ IsFreeInShape m p) → IsTrue good ↔ FitsFreely m (Some p)
  free_fits p paths good shape = (λ h. (paths, shape.0 h), λ fits. shape.1 fits.1)

  pub whole_shape : (f : Ctl) (p : Proof A) → IsLaidOut (constraint_count m) p → ClaimFits m p → FitsFreely m p.free → (good : Bool) → (IsTrue good ↔ All (HasRule f) p.entries) → IsTrue good ↔ IsInShape m f p
  whole_shape f p laid claim free good rules = (
    λ h. record {
      free = free;
      rising = laid.rising;
      rules = rules.0 h;
      avoided = laid.avoided;
      reach = laid.reach;
      fits = laid.fits;
      claim = claim.claim;
      at_state = claim.at_state;
    },
    λ shape. rules.1 shape.rules,
  )

  pub laid_of : (f : Ctl) (p : Proof A) → IsInShape m f p → IsLaidOut (constraint_count m) p
  laid_of f p shape = record { rising = shape.rising; avoided = shape.avoided; reach = shape.reach; fits = shape.fits }

  pub claim_of : (f : Ctl) (p : Proof A) → IsInShape m f p → ClaimFits m p
  claim_of f p shape = record { claim = shape.claim; at_state = shape.at_state }

  pub freely_laid_of : (p : FreePart A) → IsFreeInShape m p → IsFreelyLaidOut p
  freely_laid_of p shape = record { rising = shape.rising; avoided = shape.avoided; reach = shape.reach; fits = shape.fits }

-- ---- the parts without rules

module _ {A : Type 0} where
  pub unrising : (count : ℕ) (p : Proof A) (es : List (Entry A)) (r : Bool) → es ≡ p.entries → r ≡ false → (AllPairs ComesBefore es → IsTrue r) → IsTrue false ↔ IsLaidOut count p
  unrising count p es r is off test = refuted r off test (λ laid. subst (λ xs. AllPairs ComesBefore xs) (sym is) laid.rising)

  pub unavoiding : (count : ℕ) (p : Proof A) (ls : List (Layer A)) (r : Bool) → ls ≡ p.nonfair → r ≡ false → (All (Avoids count) ls → IsTrue r) → IsTrue false ↔ IsLaidOut count p
  unavoiding count p ls r is off test = refuted r off test (λ laid. subst (λ xs. All (Avoids count) xs) (sym is) laid.avoided)

  pub laid_out : (count : ℕ) (p : Proof A) (es es' : List (Entry A)) (ls : List (Layer A)) (r : Bool) → es ≡ p.entries → ls ≡ p.nonfair → es' ≡ p.entries → AllPairs ComesBefore es → All (Avoids count) ls
      → length p.fair.reach ≡ count → (IsTrue r ↔ All (λ e. FitsConstraints count e.rule) es') → IsTrue r ↔ IsLaidOut count p
  laid_out count p es es' ls r is avoid is' rising avoided reach fits = (
    λ h. record {
      rising = subst (λ xs. AllPairs ComesBefore xs) is rising;
      avoided = subst (λ xs. All (Avoids count) xs) avoid avoided;
      reach = reach;
      fits = subst (λ xs. All (λ e. FitsConstraints count e.rule) xs) is' (fits.0 h);
    },
    λ laid. fits.1 (subst (λ xs. All (λ e. FitsConstraints count e.rule) xs) (sym is') laid.fits),
  )

  pub free_unrising : (p : FreePart A) (es : List (FreeEntry A)) (r : Bool) → es ≡ p.entries → r ≡ false → (AllPairs StandsBefore es → IsTrue r) → IsTrue false ↔ IsFreelyLaidOut p
  free_unrising p es r is off test = refuted r off test (λ laid. subst (λ xs. AllPairs StandsBefore xs) (sym is) laid.rising)

  pub free_unavoiding : (p : FreePart A) (ls : List (Layer A)) (r : Bool) → ls ≡ p.nonfair → r ≡ false → (All (Avoids 1) ls → IsTrue r) → IsTrue false ↔ IsFreelyLaidOut p
  free_unavoiding p ls r is off test = refuted r off test (λ laid. subst (λ xs. All (Avoids 1) xs) (sym is) laid.avoided)

  pub freely_laid_out : (p : FreePart A) (es es' : List (FreeEntry A)) (ls : List (Layer A)) (r : Bool) → es ≡ p.entries → ls ≡ p.nonfair → es' ≡ p.entries → AllPairs StandsBefore es → All (Avoids 1) ls
      → length p.fair.reach ≡ 1 → (IsTrue r ↔ All (λ e. FitsConstraints 1 e.entry.rule) es') → IsTrue r ↔ IsFreelyLaidOut p
  freely_laid_out p es es' ls r is avoid is' rising avoided reach fits = (
    λ h. record {
      rising = subst (λ xs. AllPairs StandsBefore xs) is rising;
      avoided = subst (λ xs. All (Avoids 1) xs) avoid avoided;
      reach = reach;
      fits = subst (λ xs. All (λ e. FitsConstraints 1 e.entry.rule) xs) is' (fits.0 h);
    },
    λ laid. fits.1 (subst (λ xs. All (λ e. FitsConstraints 1 e.entry.rule) xs) (sym is') laid.fits),
  )
