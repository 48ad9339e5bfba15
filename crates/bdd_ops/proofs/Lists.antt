-- Lemmas on the lists of levels that an engine keeps.
use Rattle.std.proofs.Common.{◌≡◌, ◌≢◌, ℕ, zero, suc, ◌+◌, ◌<◌, ◌⊎◌, inl, inr, Bool, true, false, not, cond, if◌then◌else◌, true≢false, position, List, [], ◌∷◌, ◌++◌, length, map, None, Some, slice_get, refl, sym, ap, ◌∙◌, arith}
use Rattle.std.specs.declared.alloc.Global.{Global}
use Rattle.std.specs.declared.vec.Vec.{Vec}
use Rattle.std.specs.List.{position_or_len}
use Rattle.std.specs.Str.{bytes_eq}
use Rattle.std.proofs.lemmas.Bool.{lt-ltb}
use Rattle.std.proofs.lemmas.List.Quantifiers.{position-Some}
use Rattle.std.proofs.lemmas.Option.{slice_get-get_or, none-some, same_Some}
use Rattle.std.proofs.lemmas.Slice.Eq.{bytes_eq-Decides}
use Rattle.bdd_ops.specs.Answer.{lists_in}

abbrev items_of : Vec ℕ Global → List ℕ
items_of list = list.items

map-append : (xs : List (Vec ℕ Global)) (x : Vec ℕ Global) → map items_of (xs ++ x ∷ []) ≡ map items_of xs ++ items_of x ∷ []
map-append [] x = refl
map-append (y ∷ xs) x = ap (λ l. items_of y ∷ l) (map-append xs x)

-- one more list at the end
pub lists_in-push : (old new : Vec (Vec ℕ Global) Global) (list : Vec ℕ Global) (levels : List ℕ) → new.items ≡ old.items ++ list ∷ [] → list.items ≡ levels → lists_in new ≡ lists_in old ++ levels ∷ []
lists_in-push old new list levels e same = ap (map items_of) e ∙ map-append old.items list ∙ ap (λ l. map items_of old.items ++ l ∷ []) same

-- a list at a place of the longer list stands there before, or is the one at the end
append-cases : {X : Type 0} (xs : List X) (x y : X) (p : ℕ) → slice_get (xs ++ x ∷ []) p ≡ Some y → (slice_get xs p ≡ Some y) ⊎ ((p ≡ length xs) × (y ≡ x))
append-cases [] x y zero e = inr (refl, cc)
append-cases [] x y (suc p) e = cc
append-cases (z ∷ xs) x y zero e = inl e
append-cases (z ∷ xs) x y (suc p) e = elim (append-cases xs x y p e) [ inl h ↦ inl h | inr h ↦ inr (omega (arith, h.0), h.1) ]

-- a list that wasn't there keeps each list once
pub once-push : (lists : List (List ℕ)) (levels : List ℕ) → ((p : ℕ) → slice_get lists p ≢ Some levels) → ((p q : ℕ) (l : List ℕ) → slice_get lists p ≡ Some l → slice_get lists q ≡ Some l → p ≡ q)
    → (p q : ℕ) (l : List ℕ) → slice_get (lists ++ levels ∷ []) p ≡ Some l → slice_get (lists ++ levels ∷ []) q ≡ Some l → p ≡ q
once-push lists levels absent once p q l e f = by (append-cases lists levels l p e) (append-cases lists levels l q f)
  where
    by : (slice_get lists p ≡ Some l) ⊎ ((p ≡ length lists) × (l ≡ levels)) → (slice_get lists q ≡ Some l) ⊎ ((q ≡ length lists) × (l ≡ levels)) → p ≡ q
    by (inl h) (inl k) = once p q l h k
    by (inl h) (inr k) = absurd (absent p (h ∙ ap Some k.1))
    by (inr h) (inl k) = absurd (absent q (k ∙ ap Some h.1))
    by (inr h) (inr k) = h.0 ∙ sym k.0

-- the same after a push that may have found no memory
pub lists_in-pushed : (b : Bool) (old new : Vec (Vec ℕ Global) Global) (list : Vec ℕ Global) (levels : List ℕ) → new.items ≡ (if b then old.items ++ list ∷ [] else old.items) → list.items ≡ levels
    → (lists_in new ≡ lists_in old ++ levels ∷ []) ⊎ (lists_in new ≡ lists_in old)
lists_in-pushed true old new list levels e same = inl (lists_in-push old new list levels e same)
lists_in-pushed false old new list levels e same = inr (ap (map items_of) e)

-- the place that was found has the list, and where none was found no place has it
items_at : (xs : List (Vec ℕ Global)) (i : ℕ) (v : Vec ℕ Global) → slice_get xs i ≡ Some v → slice_get (map items_of xs) i ≡ Some (items_of v)
items_at [] i v e = cc
items_at (x ∷ xs) zero v e = ap (λ y. Some (items_of y)) (same_Some x v e)
items_at (x ∷ xs) (suc i) v e = items_at xs i v e

at_items : (xs : List (Vec ℕ Global)) (i : ℕ) (l : List ℕ) → slice_get (map items_of xs) i ≡ Some l → (v : Vec ℕ Global) × (slice_get xs i ≡ Some v) × (items_of v ≡ l)
at_items [] i l e = cc
at_items (x ∷ xs) zero l e = (x, refl, same_Some (items_of x) l e)
at_items (x ∷ xs) (suc i) l e = at_items xs i l e

pub place-some : (xs : List (Vec ℕ Global)) (levels : List ℕ) (i : ℕ) → position (λ list. bytes_eq (items_of list) levels) xs ≡ Some i → slice_get (map items_of xs) i ≡ Some levels
place-some [] levels i e = cc
place-some (x ∷ xs) levels i e =
    let p = position-Some (λ list. bytes_eq (items_of list) levels) (x ∷ xs) i x e in
    items_at (x ∷ xs) i _ (slice_get-get_or (x ∷ xs) i x p.0) ∙ ap Some ((bytes_eq-Decides _ levels).0 p.1)

passed-within : {X : Type 0} (p : X → Bool) (xs : List X) (i : ℕ) (v : X) → slice_get xs i ≡ Some v → p v ≡ true → position_or_len p xs < length xs
passed-within p [] i v e h = cc
passed-within p (x ∷ xs) i v e h = by (p x) refl i e (λ j k. passed-within p xs j v k h)
  where
    by : (b : Bool) → p x ≡ b → (i : ℕ) → slice_get (x ∷ xs) i ≡ Some v → ((j : ℕ) → slice_get xs j ≡ Some v → position_or_len p xs < length xs) → position_or_len p (x ∷ xs) < length (x ∷ xs)
    by true t i e more = let first : position_or_len p (x ∷ xs) ≡ 0 = ap (λ b. cond (not b) (1 + position_or_len p xs) 0) t in omega (arith, first)
    by false f zero e more = absurd (true≢false (sym h ∙ ap p (sym (same_Some x v e)) ∙ f))
    by false f (suc j) e more = let rest : position_or_len p (x ∷ xs) ≡ 1 + position_or_len p xs = ap (λ b. cond (not b) (1 + position_or_len p xs) 0) f in omega (arith, rest, more j e)

-- the test that a list is this one
abbrev pub is_list : List ℕ → Vec ℕ Global → Bool
is_list levels list = bytes_eq (items_of list) levels

pub place-none : (xs : List (Vec ℕ Global)) (levels : List ℕ) → position (λ list. bytes_eq (items_of list) levels) xs ≡ None → (i : ℕ) → slice_get (map items_of xs) i ≢ Some levels
place-none xs levels e i at =
    let v = at_items xs i levels at in
    let within = passed-within (λ list. bytes_eq (items_of list) levels) xs i v.0 v.1 ((bytes_eq-Decides (items_of v.0) levels).1 v.2) in
    none-some (position_or_len (λ list. bytes_eq (items_of list) levels) xs) (sym e ∙ ap (λ b. cond b (Some (position_or_len (λ list. bytes_eq (items_of list) levels) xs)) None) (lt-ltb _ _ within))
