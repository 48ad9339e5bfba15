-- Names in a list, and in a list of references to them.
use Rattle.std.proofs.Common.{◌≡◌, refl, sym, ap, ℕ, ◌+◌, List, [], ◌∷◌, Bool, true, false, not, ◌||◌, cond, ltb, length, map, Option, Some, None}
use Rattle.std.specs.Prelude.{IfSome, IfNone, is_some, position}
use Rattle.std.specs.List.{list_any, position_or_len}

pub any_map : {A B : Type 0} (p : B → Bool) (f : A → B) (xs : List A) → list_any p (map f xs) ≡ list_any (λ x. p (f x)) xs
any_map p f [] = refl
any_map p f (x ∷ xs) = ap (λ b. p (f x) || b) (any_map p f xs)

pub place_map : {A B : Type 0} (p : B → Bool) (f : A → B) (xs : List A) → position_or_len p (map f xs) ≡ position_or_len (λ x. p (f x)) xs
place_map p f [] = refl
place_map p f (x ∷ xs) = ap (λ n. cond (not (p (f x))) (1 + n) 0) (place_map p f xs)

some_of_cond : (b : Bool) (n k : ℕ) → Some k ≡ cond b (Some n) None → k ≡ n
some_of_cond true n k e = cc
some_of_cond false n k e = cc

pub place_of_position : {A : Type 0} (p : A → Bool) (xs : List A) (r : Option ℕ) → r ≡ position p xs → IfSome r (λ k. k ≡ position_or_len p xs)
place_of_position p xs None e = tt
place_of_position p xs (Some k) e = some_of_cond (ltb (position_or_len p xs) (length xs)) (position_or_len p xs) k e

pub none_if_absent : (r : Option ℕ) (b : Bool) → is_some r ≡ b → IfNone r (b ≡ false)
none_if_absent None b e = sym e
none_if_absent (Some k) b e = tt
