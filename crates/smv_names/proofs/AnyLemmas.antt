-- Some member of a list, and all members.
use Rattle.std.proofs.Common.{◌≡◌, refl, sym, subst, ℕ, zero, suc, ◌<◌, arith, List, [], ◌∷◌, ◌++◌, length, get_or, ◌⊎◌, inl, inr, Any}
use Rattle.std.specs.Prelude.{All}
use Rattle.std.proofs.lemmas.List.Elements.{All-nil, All-cons, All-head, All-tail}

module _ {A : Type 0} (P : A → Type 0) where
  pub no_any : Any P [] → ⊥
  no_any h = omega arith

  pub any_here : (x : A) (xs : List A) → P x → Any P (x ∷ xs)
  any_here x xs h = (0, x, omega arith, refl, h)

  pub any_there : (x : A) (xs : List A) → Any P xs → Any P (x ∷ xs)
  any_there x xs h = (suc h.0, h.1, omega (arith, h.2), h.3, h.4)

  pub any_case : (x : A) (xs : List A) → Any P (x ∷ xs) → P x ⊎ Any P xs
  any_case x xs h = go h.0 h.1 h.2 h.3 h.4
    where
      go : (k : ℕ) (y : A) → k < length (x ∷ xs) → get_or (x ∷ xs) k y ≡ y → P y → P x ⊎ Any P xs
      go zero y below e holds = inl (subst P (sym e) holds)
      go (suc k) y below e holds = inr (k, y, omega (arith, below), e, holds)

  pub any_left : (xs ys : List A) → Any P xs → Any P (xs ++ ys)
  any_left [] ys h = absurd (no_any h)
  any_left (x ∷ xs) ys h = elim (any_case x xs h) [ inl k ↦ any_here x (xs ++ ys) k | inr k ↦ any_there x (xs ++ ys) (any_left xs ys k) ]

  pub any_right : (xs ys : List A) → Any P ys → Any P (xs ++ ys)
  any_right [] ys h = h
  any_right (x ∷ xs) ys h = any_there x (xs ++ ys) (any_right xs ys h)

  pub any_split : (xs ys : List A) → Any P (xs ++ ys) → Any P xs ⊎ Any P ys
  any_split [] ys h = inr h
  any_split (x ∷ xs) ys h = elim (any_case x (xs ++ ys) h) [ inl k ↦ inl (any_here x xs k) | inr k ↦ elim (any_split xs ys k) [ inl l ↦ inl (any_there x xs l) | inr l ↦ inr l ] ]

  pub all_left : (xs ys : List A) → All P (xs ++ ys) → All P xs
  all_left [] ys h = All-nil P
  all_left (x ∷ xs) ys h = All-cons P x xs (All-head P x (xs ++ ys) h) (all_left xs ys (All-tail P x (xs ++ ys) h))

  pub all_right : (xs ys : List A) → All P (xs ++ ys) → All P ys
  all_right [] ys h = h
  all_right (x ∷ xs) ys h = all_right xs ys (All-tail P x (xs ++ ys) h)
