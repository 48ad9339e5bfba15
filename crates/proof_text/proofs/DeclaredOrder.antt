-- The declared order of the variables, as a range of their numbers.
use Rattle.std.proofs.Common.{◌≡◌, ℕ, zero, suc, ◌+◌, [], ◌∷◌, ◌++◌, refl, sym, ◌∙◌, ap, arith}
use Rattle.std.specs.List.{range_with_len}
use Rattle.bit_encode.specs.Code.{declared}

range_more : (a n : ℕ) → range_with_len a (suc n) ≡ range_with_len a n ++ (a + n) ∷ []
range_more a zero = let here : a ≡ a + 0 = omega arith in ap (λ k. k ∷ []) here
range_more a (suc n) =
    let last : a + 1 + n ≡ a + suc n = omega arith in
    ap (λ ks. a ∷ ks) (range_more (a + 1) n ∙ ap (λ k. range_with_len (a + 1) n ++ k ∷ []) last)

pub declared_is : (n : ℕ) → declared n ≡ range_with_len 0 n
declared_is zero = refl
declared_is (suc n) =
    let last : 0 + n ≡ n = omega arith in
    ap (λ ks. ks ++ n ∷ []) (declared_is n)
    ∙ sym (range_more 0 n ∙ ap (λ k. range_with_len 0 n ++ k ∷ []) last)
