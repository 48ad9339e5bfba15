-- One more member of a list that is built from another.
use Rattle.std.proofs.Common.{◌≡◌, refl, sym, ◌∙◌, ap, ℕ, zero, suc, ◌+◌, ◌<◌, ◌≤◌, arith, List, [], ◌∷◌, ◌++◌, length, map, flat_map, get_or, take, append_assoc, append-nil}
use Rattle.std.proofs.lemmas.List.{map-append, take_more}
use Rattle.std.proofs.lemmas.Grind.{flat_map-append}

pub map_map : {A B C : Type 0} (f : B → C) (g : A → B) (xs : List A) → map f (map g xs) ≡ map (λ x. f (g x)) xs
map_map f g [] = refl
map_map f g (x ∷ xs) = ap (λ ys. f (g x) ∷ ys) (map_map f g xs)

pub take_map : {A B : Type 0} (f : A → B) (xs : List A) (i : ℕ) (d : A) → i < length xs → d ≡ get_or xs i d → map f (take (i + 1) xs) ≡ map f (take i xs) ++ (f d ∷ [])
take_map f xs i d lt at = ap (map f) (take_more xs i d lt) ∙ map-append f (take i xs) (get_or xs i d ∷ []) ∙ ap (λ y. map f (take i xs) ++ (f y ∷ [])) (sym at)

-- a list at one of its members
pub split_map : {A B : Type 0} (f : A → B) (xs : List A) (i : ℕ) (d : A) → i < length xs → d ≡ get_or xs i d → (rest : List B) × (map f xs ≡ map f (take i xs) ++ (f d ∷ rest))
split_map f [] i d lt at = absurd (omega arith)
split_map f (x ∷ xs) zero d lt at = (map f xs, ap (λ y. f y ∷ map f xs) (sym at))
split_map f (x ∷ xs) (suc i) d lt at = let r = split_map f xs i d (omega arith) at in (r.0, ap (λ ys. f x ∷ ys) r.1)

pub take_whole : {A : Type 0} (xs : List A) (i : ℕ) → length xs ≤ i → take i xs ≡ xs
take_whole [] zero le = refl
take_whole [] (suc i) le = refl
take_whole (x ∷ xs) zero le = absurd (omega arith)
take_whole (x ∷ xs) (suc i) le = ap (λ ys. x ∷ ys) (take_whole xs i (omega arith))

module _ {A B C D : Type 0} (f : A → D) (h : B → C) where
  pub map_step : (g : C → D) (base : List D) (items : List A) (x : A) (xs : List B) (i : ℕ) (d : B) → i < length xs → map f items ≡ base ++ map g (map h (take i xs)) → f x ≡ g (h (get_or xs i d)) → map f (items ++ (x ∷ [])) ≡ base ++ map g (map h (take (i + 1) xs))
  map_step g base items x xs i d lt e same =
      map-append f items (x ∷ [])
      ∙ ap (λ ys. ys ++ (f x ∷ [])) e
      ∙ append_assoc base (map g (map h (take i xs))) (f x ∷ [])
      ∙ ap (λ y. base ++ (map g (map h (take i xs)) ++ (y ∷ []))) same
      ∙ ap (λ ys. base ++ ys) (sym (map-append g (map h (take i xs)) (h (get_or xs i d) ∷ [])) ∙ ap (map g) (sym (map-append h (take i xs) (get_or xs i d ∷ [])) ∙ ap (map h) (sym (take_more xs i d lt))))

  pub flat_step : (g : C → List D) (base : List D) (items new : List A) (xs : List B) (i : ℕ) (d : B) → i < length xs → map f items ≡ base ++ flat_map g (map h (take i xs)) → map f new ≡ map f items ++ g (h (get_or xs i d)) → map f new ≡ base ++ flat_map g (map h (take (i + 1) xs))
  flat_step g base items new xs i d lt e same =
      let y = get_or xs i d in
      same
      ∙ ap (λ ys. ys ++ g (h y)) e
      ∙ append_assoc base (flat_map g (map h (take i xs))) (g (h y))
      ∙ ap (λ ys. base ++ (flat_map g (map h (take i xs)) ++ ys)) (sym (append-nil (g (h y))))
      ∙ ap (λ ys. base ++ ys) (sym (flat_map-append g (map h (take i xs)) (h y ∷ [])) ∙ ap (flat_map g) (sym (map-append h (take i xs) (y ∷ [])) ∙ ap (map h) (sym (take_more xs i d lt))))
