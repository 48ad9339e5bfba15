-- A row of a table to which something is appended.
use Rattle.std.proofs.Common.{◌≡◌, ◌≢◌, ℕ, ◌<◌, ◌⊎◌, inl, inr, ⊎_elim, List, ◌++◌, length, set, sym, subst}
use Rattle.std.specs.Prelude.{Contains}
use Rattle.std.proofs.lemmas.Bool.{cases_eq}
use Rattle.std.proofs.lemmas.List.Elements.{Contains-append_left, Contains-append_right, Contains-append_cases}
use Rattle.smv_static.specs.Numbers.{row}
use Rattle.smv_static.proofs.NumberLemmas.{row_same, row_other}

module _ (rows : List (List ℕ)) (x : ℕ) (more : List ℕ) (below : x < length rows) where
  abbrev appended : List (List ℕ)
  appended = set rows x (row rows x ++ more)

  pub appended_cases : (g z : ℕ) → Contains (row (set rows x (row rows x ++ more)) g) z → Contains (row rows g) z ⊎ (g ≡ x) × Contains more z
  appended_cases g z h =
      ⊎_elim (λ (same : g ≡ x). ⊎_elim (λ old. inl (subst (λ (w : ℕ). Contains (row rows w) z) (sym same) old)) (λ new. inr (same, new))
      (Contains-append_cases (row rows x) more z (subst (λ (l : List ℕ). Contains l z) (row_same rows x (row rows x ++ more) below) (subst (λ (w : ℕ). Contains (row appended w) z) same h))))
      (λ (apart : g ≢ x). inl (subst (λ (l : List ℕ). Contains l z) (row_other rows x g (row rows x ++ more) apart) h))
      (cases_eq g x)

  pub appended_old : (g z : ℕ) → Contains (row rows g) z → Contains (row (set rows x (row rows x ++ more)) g) z
  appended_old g z h =
      ⊎_elim (λ (same : g ≡ x). subst (λ (w : ℕ). Contains (row appended w) z) (sym same) (subst (λ (l : List ℕ). Contains l z) (sym (row_same rows x (row rows x ++ more) below))
      (Contains-append_left (row rows x) more z (subst (λ (w : ℕ). Contains (row rows w) z) same h))))
      (λ (apart : g ≢ x). subst (λ (l : List ℕ). Contains l z) (sym (row_other rows x g (row rows x ++ more) apart)) h)
      (cases_eq g x)

  pub appended_new : (z : ℕ) → Contains more z → Contains (row (set rows x (row rows x ++ more)) x) z
  appended_new z h = subst (λ (l : List ℕ). Contains l z) (sym (row_same rows x (row rows x ++ more) below)) (Contains-append_right (row rows x) more z h)
