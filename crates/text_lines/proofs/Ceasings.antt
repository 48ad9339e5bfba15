-- A text ceases to begin anything at one line at most.
use Rattle.std.proofs.Common.{◌≡◌, inl, inr, ℕ, zero, suc, ◌+◌, ◌≤◌, List, [], length, take, sym, ◌∙◌, subst, arith, take-take, take_all}
use Rattle.std.proofs.lemmas.Bool.{cases_lt}
use Rattle.text_lines.specs.Ceasing.{HasLines, CeasesAt}
use Rattle.text_lines.proofs.Cuts.{cut_unique}

-- a text has one list of whole lines
pub same_lines : (most : ℕ) (bytes : List ℕ) (ts us : List (List ℕ)) (r q : List ℕ) → HasLines most bytes ts r → HasLines most bytes us q → ts ≡ us
same_lines most bytes ts us r q h k = (cut_unique ts us r q h.whole.each k.whole.each h.whole.last k.whole.last (sym h.whole.cut ∙ k.whole.cut)).0

-- the first lines of a beginning are one
module _ (Begins : List (List ℕ) → Type 0) (less : (texts : List (List ℕ)) (j : ℕ) → Begins texts → Begins (take j texts)) where
  shorter : (texts : List (List ℕ)) (i j : ℕ) → i ≤ j → Begins (take j texts) → Begins (take i texts)
  shorter texts i j below h = subst Begins (take-take i j texts below) (less (take j texts) i h)

  pub ceases_once : (texts : List (List ℕ)) (j k : ℕ) → CeasesAt Begins texts j → CeasesAt Begins texts k → j ≡ k
  ceases_once texts j k s t = elim (cases_lt j k) [
    | inl below ↦ absurd (s.after (shorter texts (j + 1) k (omega arith) t.before))
    | inr above ↦ elim (cases_lt k j) [
      | inl below ↦ absurd (t.after (shorter texts (k + 1) j (omega arith) s.before))
      | inr same ↦ omega arith
    ]
  ]

  pub ceases_never : (texts : List (List ℕ)) (k : ℕ) → CeasesAt Begins texts k → Begins texts → ⊥
  ceases_never texts k s h = s.after (less texts (k + 1) h)

-- lines that cease nowhere are a beginning
module _ (Begins : List (List ℕ) → Type 0) (none : Begins []) (texts : List (List ℕ)) (never : (k : ℕ) → CeasesAt Begins texts k → ⊥) where
  firsts : (k : ℕ) → k ≤ length texts → (Begins (take k texts) → ⊥) → ⊥
  firsts zero within not = not none
  firsts (suc k) within not = firsts k (omega arith) (λ before.
      never k (record { within = omega arith; before = before; after = λ h. let e : k + 1 ≡ suc k = omega arith in not (subst (λ n. Begins (take n texts)) e h) }))

  pub begins_all : (Begins texts → ⊥) → ⊥
  begins_all not = firsts (length texts) (omega arith) (λ h. not (subst Begins (take_all (length texts) texts (omega arith)) h))
