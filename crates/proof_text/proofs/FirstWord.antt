-- The first word of a text is what stands before its first space.
use Rattle.std.proofs.Common.{◌≡◌, inl, inr, ℕ, ◌==◌, ◌≤◌, Bool, false, true, List, [], ◌∷◌, length, codes, IsSomeAnd, slice_get, refl, sym, ◌∙◌, ap, subst, arith}
use Rattle.std.specs.Prelude.{IsTrue, ◌↔◌}
use Rattle.std.specs.List.{before_first, after_first, position_or_len}
use Rattle.std.proofs.lemmas.Bool.{cases_lt, false≢true}
use Rattle.std.proofs.lemmas.List.{take_all}
use Rattle.std.proofs.lemmas.List.Elements.{All-from_get_or}
use Rattle.std.proofs.lemmas.List.Splits.{slice_split_first, slice_split_none}
use Rattle.std.proofs.lemmas.List.Sums.{fails_before_first}
use Rattle.proof_text.specs.Refuses.{IsOrderLine}
use Rattle.text_lines.specs.Words.{AreWords, words_in}
use Rattle.text_lines.proofs.Lists.{same_first}
use Rattle.text_lines.proofs.Spaced.{are_words_in}

abbrev is_space : ℕ → Bool
is_space b = b == 32

split_first : (text : List ℕ) → (others : List (List ℕ)) × (words_in text ≡ before_first is_space text ∷ others)
split_first text = elim (cases_lt (position_or_len is_space text) (length text)) [
  | inl less ↦ (words_in (after_first is_space text), slice_split_first is_space text 0 less)
  | inr none ↦ ([], alone none)
]
  where
    alone : length text ≤ position_or_len is_space text → words_in text ≡ before_first is_space text ∷ []
    alone none =
        slice_split_none is_space text (All-from_get_or (λ b. is_space b ≡ false) text 0 (λ i lt. fails_before_first is_space text i 0 (omega (arith, none, lt))))
        ∙ ap (λ w. w ∷ []) (sym (take_all (position_or_len is_space text) text none))

abbrev NamesOrder : List ℕ → Type 0
NamesOrder text = before_first (λ b. b == 32) text ≡ codes "order"

module _ (lines : List (List ℕ)) where
  pub no_first : lines ≡ [] → IsOrderLine lines 1 → ⊥
  no_first none order = subst (λ ts. IsSomeAnd (slice_get ts 1) NamesOrder) none order.1

  module _ (t : List ℕ) (texts : List (List ℕ)) (first : lines ≡ t ∷ texts) where
    pub no_second : texts ≡ [] → IsOrderLine lines 1 → ⊥
    no_second none order = subst (λ ts. IsSomeAnd (slice_get ts 1) NamesOrder) (first ∙ ap (λ ts. t ∷ ts) none) order.1

    module _ (text : List ℕ) (others : List (List ℕ)) (second : texts ≡ text ∷ others) (ws : List (List ℕ)) (are : AreWords text ws) where
      both : lines ≡ t ∷ text ∷ others
      both = first ∙ ap (λ ts. t ∷ ts) second

      words_first : ws ≡ before_first (λ b. b == 32) text ∷ (split_first text).0
      words_first = sym (are_words_in text ws are) ∙ (split_first text).1

      pub order_iff : (b : Bool) (left : List (List ℕ)) → (IsTrue b → ws ≡ codes "order" ∷ left) → ((left : List (List ℕ)) → ws ≡ codes "order" ∷ left → IsTrue b) → IsTrue b ↔ IsOrderLine lines 1
      order_iff true left taken other = (
        λ t. (refl, subst (λ ts. IsSomeAnd (slice_get ts 1) NamesOrder) (sym both) (same_first (before_first (λ b. b == 32) text) (codes "order") (split_first text).0 left (sym words_first ∙ taken refl))),
        λ o. refl,
      )
      order_iff false left taken other = (
        λ t. absurd (false≢true t),
        λ o.
            let named : NamesOrder text = subst (λ ts. IsSomeAnd (slice_get ts 1) NamesOrder) both o.1 in
            absurd (false≢true (other (split_first text).0 (words_first ∙ ap (λ w. w ∷ (split_first text).0) named))),
      )
