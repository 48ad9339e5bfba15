-- What a proof with numbers in the places of its sets has of the proof and of the numbers.
use Rattle.std.proofs.Common.{◌≡◌, ℕ, ◌<◌, List, length, map, sym, ◌∙◌, ap, subst, arith}
use Rattle.std.specs.Prelude.{All, slice_index}
use Rattle.std.specs.List.{range_with_len, slice_index_or}
use Rattle.std.proofs.lemmas.List.Elements.{All-map}
use Rattle.std.proofs.lemmas.List.FromFn.{get_or-range_with_len, length-range_with_len}
use Rattle.proof_form.specs.Form.{Proof, sets_of}
use Rattle.proof_form.specs.Pinned.{IsFilled}
use Rattle.proof_form.proofs.Mapped.{sets_mapped}

module _ {A : Type 0} (p : Proof A) (numbers : List ℕ) (q : Proof ℕ)
    (filled : IsFilled p numbers q) where
  pub claim_filled : A → q.claim ≡ p.claim
  claim_filled d =
      sym (ap (λ (r : Proof ℕ). r.claim) filled.there)
      ∙ ap (λ (r : Proof A). r.claim) (filled.here d)

  pub at_filled : A → q.at ≡ p.at
  at_filled d =
      sym (ap (λ (r : Proof ℕ). r.at) filled.there) ∙ ap (λ (r : Proof A). r.at) (filled.here d)

  -- its sets are the numbers
  abbrev number : ℕ → ℕ
  number k = slice_index_or numbers k 0

  sets_filled : sets_of q ≡ map number (range_with_len 0 (length (sets_of p)))
  sets_filled =
      ap sets_of (sym filled.there) ∙ sets_mapped number filled.places
      ∙ ap (map number) filled.counted

  pub each_filled : (P : ℕ → Type 0)
      → ((k : ℕ) → k < length (sets_of p) → P (slice_index numbers k)) → All P (sets_of q)
  each_filled P h =
      let n : ℕ = length (sets_of p) in
      subst (All P) (sym sets_filled) (All-map P number (range_with_len 0 n)
      (λ k d lt. let less : k < n = omega (arith, lt, length-range_with_len 0 n) in
      let is : k ≡ slice_index_or (range_with_len 0 n) k d =
      omega (arith, get_or-range_with_len 0 n k d less) in
      subst (λ i. P (number i)) is (h k less)))
