-- The declared order names each variable once.
use Rattle.std.proofs.Common.{◌≡◌, ◌∙◌, inl, inr, ℕ, zero, suc, ◌+◌, ◌<◌, ◌≤◌, ◌==◌, Bool, true, false, cond, List, [], ◌∷◌, ◌++◌, refl, ap, subst, arith}
use Rattle.std.specs.Prelude.{All, count_by}
use Rattle.std.proofs.lemmas.Bool.{cases_lt, ne_eqb}
use Rattle.std.proofs.lemmas.List.Elements.{All-nil, All-cons, All-append, All-weaker}
use Rattle.std.proofs.lemmas.List.Sums.{sum_by_push}
use Rattle.std.proofs.lemmas.Bool.Decides.{eqb_tells}
use Rattle.bit_encode.specs.Code.{IsOrder, declared}

-- the numbers below n, each once, and no other
record NamesBelow (n : ℕ) (order : List ℕ) : Type 0 where
  pub known : All (λ x. x < n) order
  pub once : (x : ℕ) → x < n → count_by (λ y. y == x) order ≡ 1
  pub none : (x : ℕ) → n ≤ x → count_by (λ y. y == x) order ≡ 0

count-push : (x : ℕ) (xs : List ℕ) (y : ℕ) → count_by (λ z. z == x) (xs ++ y ∷ []) ≡ count_by (λ z. z == x) xs + cond (y == x) 1 0
count-push x xs y = sum_by_push (λ z. cond (z == x) 1 0) xs y

equal : (n x : ℕ) → n ≡ x → (n == x) ≡ true
equal n x e = elim (eqb_tells n x) [ inl same ↦ same.0 | inr differ ↦ absurd (differ.1 e) ]

no_names : NamesBelow 0 []
no_names = record { known = All-nil _; once = λ x below. absurd (omega (arith, below)); none = λ x above. refl }

-- one more number
one_more : (n : ℕ) (order : List ℕ) → NamesBelow n order → NamesBelow (n + 1) (order ++ n ∷ [])
one_more n order h = record {
  known = All-append (λ x. x < n + 1) order (n ∷ []) (All-weaker (λ x. x < n) (λ x. x < n + 1) (λ x less. omega (arith, less)) order h.known) (All-cons (λ x. x < n + 1) n [] (omega arith) (All-nil (λ x. x < n + 1)));
  once = λ x below. elim (cases_lt x n) [
    | inl less ↦
        let other : (n == x) ≡ false = ne_eqb n x (λ e. omega (arith, less, e)) in
        count-push x order n ∙ ap (λ (b : Bool). count_by (λ z. z == x) order + cond b 1 0) other ∙ omega (arith, h.once x less)
    | inr above ↦
        let e : n ≡ x = omega (arith, below, above) in
        let same : (n == x) ≡ true = equal n x e in
        count-push x order n ∙ ap (λ (b : Bool). count_by (λ z. z == x) order + cond b 1 0) same ∙ omega (arith, h.none x above)
  ];
  none = λ x above.
      let other : (n == x) ≡ false = ne_eqb n x (λ e. omega (arith, above, e)) in
      count-push x order n ∙ ap (λ (b : Bool). count_by (λ z. z == x) order + cond b 1 0) other ∙ omega (arith, h.none x (omega (arith, above)));
}

order_of_names : (n : ℕ) (order : List ℕ) → NamesBelow n order → IsOrder n order
order_of_names n order h = record { known = h.known; once = h.once }

names_declared : (n : ℕ) → NamesBelow n (declared n)
names_declared zero = no_names
names_declared (suc n) = subst (λ k. NamesBelow k (declared (suc n))) (omega arith) (one_more n (declared n) (names_declared n))

pub declared_names : (n : ℕ) → IsOrder n (declared n)
declared_names n = order_of_names n (declared n) (names_declared n)

pub declared_more : (n : ℕ) → declared (n + 1) ≡ declared n ++ n ∷ []
declared_more n = let next : n + 1 ≡ suc n = omega arith in ap declared next
