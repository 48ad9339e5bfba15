-- Lists and what is true of each of their elements.
use Rattle.std.proofs.Common.{◌≡◌, List, [], ◌∷◌, ◌++◌, refl}
use Rattle.std.specs.Prelude.{All}
use Rattle.std.proofs.lemmas.List.Elements.{All-nil, All-cons, All-head, All-tail}

pub same_first : {A : Type 0} (x y : A) (xs ys : List A) → x ∷ xs ≡ y ∷ ys → x ≡ y
same_first x y xs ys e = cc

pub same_rest : {A : Type 0} (x y : A) (xs ys : List A) → x ∷ xs ≡ y ∷ ys → xs ≡ ys
same_rest x y xs ys e = cc

pub all_left : {A : Type 0} (P : A → Type 0) (xs ys : List A) → All P (xs ++ ys) → All P xs
all_left P [] ys p = All-nil P
all_left P (x ∷ xs) ys p = All-cons P x xs (All-head P x (xs ++ ys) p) (all_left P xs ys (All-tail P x (xs ++ ys) p))

pub all_right : {A : Type 0} (P : A → Type 0) (xs ys : List A) → All P (xs ++ ys) → All P ys
all_right P [] ys p = p
all_right P (x ∷ xs) ys p = all_right P xs ys (All-tail P x (xs ++ ys) p)

-- a list that isn't empty
pub record First {A : Type 0} (xs : List A) : Type 0 where
  pub head : A
  pub others : List A
  pub whole : xs ≡ head ∷ others

pub first_of : {A : Type 0} (xs : List A) → (xs ≡ [] → ⊥) → First xs
first_of [] some = absurd (some refl)
first_of (x ∷ xs) some = record { head = x; others = xs; whole = refl }
