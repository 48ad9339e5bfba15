-- Rules that refuse the first member of a list, as the list grows.
use Rattle.std.proofs.Common.{◌≡◌, refl, sym, ◌∙◌, ap, subst, append_assoc, append-nil, ℕ, zero, suc, ◌+◌, ◌<◌, arith, List, [], ◌∷◌, ◌++◌, length, take, get_or, inl, inr}
use Rattle.std.proofs.lemmas.List.{take_more}
use Rattle.kripke_model.specs.Refusing.{RefusalRule, Silent, First}
use Rattle.kripke_model.proofs.FirstLemmas.{silent_then}

module _ {R A : Type 0} (rule : List A → A → RefusalRule R) where
  silent_head : (before : List A) (x : A) (xs : List A) → Silent (First rule before (x ∷ xs)) → Silent (rule before x)
  silent_head before x xs silent r h = silent r (inl h)

  silent_tail : (before : List A) (x : A) (xs : List A) → Silent (First rule before (x ∷ xs)) → Silent (First rule (before ++ (x ∷ [])) xs)
  silent_tail before x xs silent r h = silent r (inr (silent_head before x xs silent, h))

  -- the first member that is refused stands in the second part
  pub first_append : (before xs ys : List A) (r : R) → Silent (First rule before xs) → First rule (before ++ xs) ys r → First rule before (xs ++ ys) r
  first_append before [] ys r silent h = subst (λ bs. First rule bs ys r) (append-nil before) h
  first_append before (x ∷ xs) ys r silent h =
      inr (silent_head before x xs silent, first_append (before ++ (x ∷ [])) xs ys r (silent_tail before x xs silent) (subst (λ bs. First rule bs ys r) (sym (append_assoc before (x ∷ []) xs)) h))

  -- or in the first part
  pub first_front : (before xs ys : List A) (r : R) → First rule before xs r → First rule before (xs ++ ys) r
  first_front before [] ys r h = absurd h
  first_front before (x ∷ xs) ys r (inl h) = inl h
  first_front before (x ∷ xs) ys r (inr h) = inr (h.0, first_front (before ++ (x ∷ [])) xs ys r h.1)

  pub silent_append : (before xs ys : List A) → Silent (First rule before xs) → Silent (First rule (before ++ xs) ys) → Silent (First rule before (xs ++ ys))
  silent_append before [] ys first second r h = second r (subst (λ bs. First rule bs ys r) (sym (append-nil before)) h)
  silent_append before (x ∷ xs) ys first second r h =
      silent_then {a = rule before x} (silent_head before x xs first)
      (silent_append (before ++ (x ∷ [])) xs ys (silent_tail before x xs first) (subst (λ bs. Silent (First rule bs ys)) (sym (append_assoc before (x ∷ []) xs)) second)) r h

  pub silent_one : (before : List A) (x : A) → Silent (rule before x) → Silent (First rule before (x ∷ []))
  silent_one before x silent r h = silent_then {a = rule before x} silent (λ q k. k) r h

  -- one member more
  pub silent_push : (xs : List A) (x : A) → Silent (First rule [] xs) → Silent (rule xs x) → Silent (First rule [] (xs ++ (x ∷ [])))
  silent_push xs x first second = silent_append [] xs (x ∷ []) first (silent_one xs x second)

  pub first_push : (xs ys : List A) (x : A) (r : R) → Silent (First rule [] xs) → rule xs x r → First rule [] (xs ++ (x ∷ ys)) r
  first_push xs ys x r silent h = first_append [] xs (x ∷ ys) r silent (inl h)

  -- the first i + 1 members
  pub silent_next : (xs : List A) (i : ℕ) (x : A) → i < length xs → get_or xs i x ≡ x → Silent (First rule [] (take i xs)) → Silent (rule (take i xs) x) → Silent (First rule [] (take (i + 1) xs))
  silent_next xs i x lt at first here = subst (λ ys. Silent (First rule [] ys)) (sym (take_more xs i x lt ∙ ap (λ y. take i xs ++ (y ∷ [])) at)) (silent_push (take i xs) x first here)

  pub first_next : (xs : List A) (i : ℕ) (x : A) (r : R) → i < length xs → get_or xs i x ≡ x → Silent (First rule [] (take i xs)) → rule (take i xs) x r → First rule [] xs r
  first_next xs i x r lt at first here =
      let split = split_at xs i lt in
      subst (λ ys. First rule [] ys r) (sym (split.1 ∙ ap (λ y. take i xs ++ (y ∷ split.0)) at)) (first_push (take i xs) split.0 x r first here)
    where
      split_at : (ys : List A) (k : ℕ) → k < length ys → (rest : List A) × (ys ≡ take k ys ++ (get_or ys k x ∷ rest))
      split_at [] k below = absurd (omega arith)
      split_at (y ∷ ys) zero below = (ys, refl)
      split_at (y ∷ ys) (suc k) below = let rest = split_at ys k (omega arith) in (rest.0, ap (λ zs. y ∷ zs) rest.1)
