-- Where each variable's bits begin, number by number of the order.
use Rattle.std.proofs.Common.{◌≡◌, ◌⊎◌, inl, inr, ℕ, ◌+◌, ◌<◌, ◌≤◌, List, length, get_or, set, take, sym, ◌∙◌, ap, subst, arith}
use Rattle.std.specs.Prelude.{sum_by}
use Rattle.std.proofs.lemmas.List.{get_or-set_same, get_or-set_other, length-set}
use Rattle.std.proofs.lemmas.List.Sums.{sum_by_more, sum_by_more_le}
use Rattle.std.proofs.lemmas.Bool.{cases_eq}
use Rattle.kripke_model.specs.declared.expressions.Value.{Value}
use Rattle.bit_encode.specs.Code.{Coding, IsOrder, width_of, first_bit, bit_count}
use Rattle.bit_encode.proofs.OrderLemmas.{place_once, named_at}
use Rattle.bit_encode.proofs.CodeLemmas.{bits_in_order, first_at}

-- the bits of the first i numbers, and where those of each one begin
pub record IsPlaced (types : List (List Value)) (order : List ℕ) (i next : ℕ) (firsts : List ℕ) : Type 0 where
  pub each : length firsts ≡ length types
  pub total : next ≡ sum_by (width_of types) (take i order)
  pub placed : (k : ℕ) → k < i → get_or firsts (get_or order k 0) 0 ≡ sum_by (width_of types) (take k order)

module _ (types : List (List Value)) (order : List ℕ) (ordered : IsOrder (length types) order) (i next : ℕ) (firsts : List ℕ) (h : IsPlaced types order i next firsts) where
  pub place_fits : i < length order → next + width_of types (get_or order i 0) ≤ bit_count types
  place_fits l =
      let all : sum_by (width_of types) order ≡ bit_count types = bits_in_order (record { types = types; order = order }) ordered in
      omega (arith, h.total, sum_by_more_le (width_of types) order i 0 l)

  pub place_more : i < length order → (w : ℕ) → w ≡ width_of types (get_or order i 0) → IsPlaced types order (i + 1) (next + w) (set firsts (get_or order i 0) next)
  place_more l w e = record {
    each = length-set firsts (get_or order i 0) next ∙ h.each;
    total = ap (λ n. n + w) h.total ∙ ap (λ n. sum_by (width_of types) (take i order) + n) e ∙ sym (sum_by_more (width_of types) order i 0 l);
    placed = λ k below. by k below (cases_eq k i);
  }
    where
      by : (k : ℕ) → k < i + 1 → (k ≡ i) ⊎ (k ≡ i → ⊥) → get_or (set firsts (get_or order i 0) next) (get_or order k 0) 0 ≡ sum_by (width_of types) (take k order)
      by k below (inl here) =
          let small : get_or order i 0 < length types = ordered.known i 0 l in
          ap (λ j. get_or (set firsts (get_or order i 0) next) (get_or order j 0) 0) here
          ∙ get_or-set_same firsts (get_or order i 0) next 0 (omega (arith, h.each)) ∙ h.total ∙ ap (λ j. sum_by (width_of types) (take j order)) (sym here)
      by k below (inr apart) =
          let less : k < i = omega arith in
          get_or-set_other firsts (get_or order i 0) (get_or order k 0) next 0 (place_once (length types) order k i ordered less l) ∙ h.placed k less

pub place_end : (types : List (List Value)) (order : List ℕ) (i next : ℕ) (firsts : List ℕ) → IsOrder (length types) order → length order ≤ i → IsPlaced types order i next firsts → (x : ℕ) → x < length types → get_or firsts x 0 ≡ first_bit (record { types = types; order = order }) x
place_end types order i next firsts ordered all h x l =
    let c : Coding = record { types = types; order = order } in
    let w = named_at (length types) order x ordered l in
    let begins : get_or firsts (get_or order w.0 0) 0 ≡ first_bit c (get_or order w.0 0) = h.placed w.0 (omega (arith, w.1)) ∙ sym (first_at c ordered w.0 w.1) in
    let P : ℕ → Type 0 = λ y. get_or firsts y 0 ≡ first_bit c y in
    subst P w.2 begins
