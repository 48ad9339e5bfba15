-- Indexes as the code has them, the first one first, and as definitions have them, the last one first.
use Rattle.std.proofs.Common.{◌≡◌, refl, sym, ◌∙◌, ap, subst, ℕ, zero, suc, ◌-◌, arith, List, [], ◌∷◌, ◌++◌, length, take, drop, reverse, ◌⊎◌, inl, inr}
use Rattle.std.proofs.lemmas.List.{reverse-append, reverse-reverse, length-reverse, take-append-drop}
use Rattle.std.proofs.Common.{length-drop}
use Rattle.smv_instances.specs.Program.{Program}
use Rattle.std.specs.List.{AllZip}
use Rattle.smv_names.specs.Denotes.{Bracket}
use Rattle.smv_names.specs.Expands.{IsIndex, AreIndexes}
use Rattle.smv_names.specs.Known.{AllIndexes, SomeBad}

-- ---- pairs

pub pairs_append : {A B : Type 0} (R : A → B → Type 0) (xs us : List A) (ys vs : List B) → AllZip R xs ys → AllZip R us vs → AllZip R (xs ++ us) (ys ++ vs)
pairs_append R [] us [] vs h k = k
pairs_append R [] us (y ∷ ys) vs h k = absurd h
pairs_append R (x ∷ xs) us [] vs h k = absurd h
pairs_append R (x ∷ xs) us (y ∷ ys) vs h k = (h.0, pairs_append R xs us ys vs h.1 k)

pub pairs_reverse : {A B : Type 0} (R : A → B → Type 0) (xs : List A) (ys : List B) → AllZip R xs ys → AllZip R (reverse xs) (reverse ys)
pairs_reverse R [] [] h = h
pairs_reverse R [] (y ∷ ys) h = absurd h
pairs_reverse R (x ∷ xs) [] h = absurd h
pairs_reverse R (x ∷ xs) (y ∷ ys) h =
    subst (λ z. AllZip R z (reverse (y ∷ ys))) (sym (reverse-append (x ∷ []) xs)) (subst (λ z. AllZip R (reverse xs ++ (x ∷ [])) z) (sym (reverse-append (y ∷ []) ys))
    (pairs_append R (reverse xs) (x ∷ []) (reverse ys) (y ∷ []) (pairs_reverse R xs ys h.1) (h.0, tt)))

pub pairs_drop : {A B : Type 0} (R : A → B → Type 0) (n : ℕ) (xs : List A) (ys : List B) → AllZip R xs ys → AllZip R (drop n xs) (drop n ys)
pairs_drop R zero [] [] h = h
pairs_drop R zero [] (y ∷ ys) h = absurd h
pairs_drop R zero (x ∷ xs) [] h = absurd h
pairs_drop R zero (x ∷ xs) (y ∷ ys) h = h
pairs_drop R (suc n) [] [] h = h
pairs_drop R (suc n) [] (y ∷ ys) h = absurd h
pairs_drop R (suc n) (x ∷ xs) [] h = absurd h
pairs_drop R (suc n) (x ∷ xs) (y ∷ ys) h = pairs_drop R n xs ys h.1

pub pairs_lengths : {A B : Type 0} (R : A → B → Type 0) (xs : List A) (ys : List B) → AllZip R xs ys → length xs ≡ length ys
pairs_lengths R [] [] h = refl
pairs_lengths R [] (y ∷ ys) h = absurd h
pairs_lengths R (x ∷ xs) [] h = absurd h
pairs_lengths R (x ∷ xs) (y ∷ ys) h = omega (arith, pairs_lengths R xs ys h.1)

-- ---- the last members of a list in reverse

drop_front : {A : Type 0} (xs ys : List A) (n : ℕ) → n ≡ length xs → drop n (xs ++ ys) ≡ ys
drop_front [] ys zero h = refl
drop_front [] ys (suc n) h = absurd (omega (arith, h))
drop_front (x ∷ xs) ys zero h = absurd (omega (arith, h))
drop_front (x ∷ xs) ys (suc n) h = drop_front xs ys n (omega (arith, h))

pub drop_reverse : {A : Type 0} (xs : List A) (k : ℕ) → drop (length xs - k) (reverse xs) ≡ reverse (take k xs)
drop_reverse xs k =
    let split : reverse xs ≡ reverse (drop k xs) ++ reverse (take k xs) = ap reverse (sym (take-append-drop k xs)) ∙ reverse-append (take k xs) (drop k xs) in
    let count : length xs - k ≡ length (reverse (drop k xs)) = sym (length-reverse (drop k xs) ∙ length-drop k xs) in
    ap (drop (length xs - k)) split ∙ drop_front (reverse (drop k xs)) (reverse (take k xs)) (length xs - k) count

-- ---- values of indexes

pub indexes_of_pairs : (p : Program) (bs : List Bracket) (ns : List ℕ) → AllZip (IsIndex p) bs ns → AreIndexes p bs ns
indexes_of_pairs p [] [] h = AreIndexes.last_index
indexes_of_pairs p [] (n ∷ ns) h = absurd h
indexes_of_pairs p (b ∷ bs) [] h = absurd h
indexes_of_pairs p (b ∷ bs) (n ∷ ns) h = AreIndexes.index h.0 (indexes_of_pairs p bs ns h.1)

all_append : (p : Program) (bs cs : List Bracket) → AllIndexes p bs → AllIndexes p cs → AllIndexes p (bs ++ cs)
all_append p [] cs h k = k
all_append p (b ∷ bs) cs h k = (h.0, all_append p bs cs h.1 k)

pub all_of_pairs : (p : Program) (bs : List Bracket) (ns : List ℕ) → AllZip (IsIndex p) bs ns → AllIndexes p bs
all_of_pairs p [] [] h = tt
all_of_pairs p [] (n ∷ ns) h = absurd h
all_of_pairs p (b ∷ bs) [] h = absurd h
all_of_pairs p (b ∷ bs) (n ∷ ns) h = ((n, h.0), all_of_pairs p bs ns h.1)

bad_either : (p : Program) (bs cs : List Bracket) → SomeBad p (bs ++ cs) → SomeBad p bs ⊎ SomeBad p cs
bad_either p [] cs h = inr h
bad_either p (b ∷ bs) cs (inl h) = inl (inl h)
bad_either p (b ∷ bs) cs (inr h) = elim (bad_either p bs cs h) [ inl k ↦ inl (inr k) | inr k ↦ inr k ]

pub bad_reverse : (p : Program) (bs : List Bracket) → SomeBad p (reverse bs) → SomeBad p bs
bad_reverse p [] h = h
bad_reverse p (b ∷ bs) h =
    elim (bad_either p (reverse bs) (b ∷ []) (subst (λ z. SomeBad p z) (reverse-append (b ∷ []) bs) h)) [ inl k ↦ inr (bad_reverse p bs k) | inr k ↦ last k ]
  where
    last : SomeBad p (b ∷ []) → SomeBad p (b ∷ bs)
    last (inl k) = inl k
    last (inr k) = absurd k

pub bad_not_indexes : (p : Program) (bs : List Bracket) (ns : List ℕ) → SomeBad p bs → AreIndexes p bs ns → ⊥
bad_not_indexes p [] ns h is = absurd h
bad_not_indexes p (b ∷ bs) ns (inl h) (AreIndexes.index {n = n} i is) = h n i
bad_not_indexes p (b ∷ bs) ns (inr h) (AreIndexes.index {ns = ms} i is) = bad_not_indexes p bs ms h is

-- the values of the first k indexes of those in reverse
pub values_all : (p : Program) (bs : List Bracket) (ns : List ℕ) → AllZip (IsIndex p) (reverse bs) ns → AllIndexes p bs
values_all p bs ns h = subst (λ z. AllIndexes p z) (reverse-reverse bs) (all_of_pairs p (reverse (reverse bs)) (reverse ns) (pairs_reverse (IsIndex p) (reverse bs) ns h))

pub values_indexes : (p : Program) (bs : List Bracket) (ns : List ℕ) → AllZip (IsIndex p) (reverse bs) ns → AreIndexes p bs (reverse ns)
values_indexes p bs ns h = subst (λ z. AreIndexes p z (reverse ns)) (reverse-reverse bs) (indexes_of_pairs p (reverse (reverse bs)) (reverse ns) (pairs_reverse (IsIndex p) (reverse bs) ns h))
