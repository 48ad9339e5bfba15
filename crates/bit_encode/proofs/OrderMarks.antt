-- How an order is read number by number, with a mark for each one that came.
use Rattle.std.proofs.Common.{◌≡◌, ◌⊎◌, inl, inr, ℕ, ◌+◌, ◌<◌, ◌≤◌, cond, eqb, Bool, true, false, List, length, get_or, set, take, refl, sym, ◌∙◌, ap, subst, arith}
use Rattle.std.specs.Prelude.{All}
use Rattle.std.proofs.lemmas.List.{take_more, get_or-set_same, get_or-set_other, length-set, get_or_default}
use Rattle.std.proofs.lemmas.List.Elements.{All-push}
use Rattle.std.proofs.lemmas.List.Sums.{sum_by_more, sum_by-take-le}
use Rattle.std.proofs.lemmas.Bool.{cases_eq, eq-eqb, ne_eqb}
use Rattle.bit_encode.specs.Code.{IsOrder}
use Rattle.bit_encode.proofs.OrderLemmas.{times}

-- the numbers are below n, none came twice, and those that came are marked
pub record IsMarked (n : ℕ) (numbers : List ℕ) (marks : List Bool) : Type 0 where
  pub each : length marks ≡ n
  pub known : All (λ x. x < n) numbers
  pub counted : (y : ℕ) → y < n → times y numbers ≡ cond (get_or marks y false) 1 0

above_one : (a b c : ℕ) → a ≡ 1 → b ≡ a + 1 → b ≤ c → c ≡ 1 → ⊥
above_one a b c p q r s = omega arith

zero_one : (a : ℕ) → a ≡ 0 → a ≡ 1 → ⊥
zero_one a p q = omega arith

module _ (n : ℕ) (order : List ℕ) (i : ℕ) (l : i < length order) where
  times_more : (y : ℕ) → times y (take (i + 1) order) ≡ times y (take i order) + cond (eqb (get_or order i 0) y) 1 0
  times_more y = sum_by_more (λ z. cond (eqb z y) 1 0) order i 0 l

  pub mark_more : (marks : List Bool) → IsMarked n (take i order) marks → get_or order i 0 < n → get_or marks (get_or order i 0) false ≡ false → IsMarked n (take (i + 1) order) (set marks (get_or order i 0) true)
  mark_more marks h small new = record {
    each = length-set marks (get_or order i 0) true ∙ h.each;
    known = subst (All (λ x. x < n)) (sym (take_more order i 0 l)) (All-push (λ x. x < n) (take i order) (get_or order i 0) h.known small);
    counted = λ y below. by y below (cases_eq y (get_or order i 0));
  }
    where
      by : (y : ℕ) → y < n → (y ≡ get_or order i 0) ⊎ (y ≡ get_or order i 0 → ⊥) → times y (take (i + 1) order) ≡ cond (get_or (set marks (get_or order i 0) true) y false) 1 0
      by y below (inl e) =
          let x : ℕ = get_or order i 0 in
          let none : times y (take i order) ≡ 0 = h.counted y below ∙ ap (λ z. cond (get_or marks z false) 1 0) e ∙ ap (λ b. cond b 1 0) new in
          let here : eqb x y ≡ true = eq-eqb x y (sym e) in
          let marked : get_or (set marks x true) y false ≡ true = ap (λ z. get_or (set marks x true) z false) e ∙ get_or-set_same marks x true false (omega (arith, h.each)) in
          times_more y ∙ ap (λ a. a + cond (eqb x y) 1 0) none ∙ ap (λ b. 0 + cond b 1 0) here ∙ sym (ap (λ b. cond b 1 0) marked)
      by y below (inr apart) =
          let x : ℕ = get_or order i 0 in
          let other : eqb x y ≡ false = ne_eqb x y (λ e. apart (sym e)) in
          let kept : get_or (set marks x true) y false ≡ get_or marks y false = get_or-set_other marks x y true false apart in
          times_more y ∙ ap (λ b. times y (take i order) + cond b 1 0) other ∙ omega arith ∙ h.counted y below ∙ sym (ap (λ b. cond b 1 0) kept)

  -- a number that is marked already comes twice
  pub mark_twice : (marks : List Bool) → IsMarked n (take i order) marks → get_or order i 0 < n → get_or marks (get_or order i 0) false ≡ true → IsOrder n order → ⊥
  mark_twice marks h small old ordered =
      let x : ℕ = get_or order i 0 in
      let came : times x (take i order) ≡ 1 = h.counted x small ∙ ap (λ b. cond b 1 0) old in
      let again : times x (take (i + 1) order) ≡ times x (take i order) + 1 = times_more x ∙ ap (λ b. times x (take i order) + cond b 1 0) (eq-eqb x x refl) in
      let part : times x (take (i + 1) order) ≤ times x order = sum_by-take-le (λ y. cond (eqb y x) 1 0) order (i + 1) in
      above_one (times x (take i order)) (times x (take (i + 1) order)) (times x order) came again part (ordered.once x small)

abbrev one_if : Bool → ℕ
one_if b = cond b 1 0

marked_once : (b : Bool) (a : ℕ) → a ≡ one_if b → a ≡ 1 → b ≡ true
marked_once true a e one = refl
marked_once false a e one = absurd (zero_one a e one)

pub mark_end : (n : ℕ) (order : List ℕ) (marks : List Bool) → IsMarked n order marks → All (λ b. b ≡ true) marks → IsOrder n order
mark_end n order marks h all = record {
  known = h.known;
  once = λ x l. h.counted x l ∙ ap (λ b. cond b 1 0) (all x false (omega (arith, h.each)));
}

pub mark_all : (n : ℕ) (order : List ℕ) (marks : List Bool) → IsMarked n order marks → IsOrder n order → All (λ b. b ≡ true) marks
mark_all n order marks h ordered k d l =
    marked_once (get_or marks k d) (times k order) (h.counted k (omega (arith, h.each)) ∙ ap one_if (get_or_default marks k false d l)) (ordered.once k (omega (arith, h.each)))
