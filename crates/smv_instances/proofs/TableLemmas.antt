-- Tables of modules, and names that stand once.
use Rattle.std.proofs.Common.{◌≡◌, refl, sym, ◌∙◌, ap, ℕ, zero, suc, ◌+◌, ◌<◌, ◌≤◌, arith, List, [], ◌∷◌, ◌++◌, Bool, true, false, cond, ◌||◌, length, map, take, get_or, Option, Some, length-append}
use Rattle.std.specs.Prelude.{is_some, slice_get}
use Rattle.std.specs.List.{list_any, AllZip}
use Rattle.std.specs.Str.{bytes_eq}
use Rattle.std.proofs.lemmas.Slice.Eq.{bytes_eq-Decides}
use Rattle.std.proofs.lemmas.List.{get_or_append_left, take-append-le}
use Rattle.std.proofs.Math.Seq.{get_or-append_seam}
use Rattle.std.proofs.lemmas.List.Sums.{sum_by-append}
use borrow.Author.Count.{below_more}
use Rattle.smv_instances.specs.Program.{Name, Program}
use Rattle.smv_instances.specs.Entries.{module_named}
use Rattle.smv_instances.specs.Entries.{Entry}
use Rattle.smv_instances.specs.Declarations.{instances_in, is_instance, one_if}
use Rattle.smv_instances.specs.Tables.{IsFresh, IsFront, counts_from}

-- ---- equal names

sym_from : (x y : Name) (b : Bool) → bytes_eq x y ≡ b → (c : Bool) → bytes_eq y x ≡ c → b ≡ c
sym_from x y true p true q = refl
sym_from x y false p false q = refl
sym_from x y true p false q = sym ((bytes_eq-Decides y x).1 (sym ((bytes_eq-Decides x y).0 p))) ∙ q
sym_from x y false p true q = sym p ∙ (bytes_eq-Decides x y).1 (sym ((bytes_eq-Decides y x).0 q))

pub bytes_eq_sym : (x y : Name) → bytes_eq x y ≡ bytes_eq y x
bytes_eq_sym x y = sym_from x y (bytes_eq x y) refl (bytes_eq y x) refl

pub bytes_eq_self : (x : Name) → bytes_eq x x ≡ true
bytes_eq_self x = (bytes_eq-Decides x x).1 refl

-- ---- each name once

pub fresh_none : IsFresh []
fresh_none k x lt = absurd (omega arith)

take_all : {A : Type 0} (xs ys : List A) → take (length xs) (xs ++ ys) ≡ xs
take_all [] [] = refl
take_all [] (y ∷ ys) = refl
take_all (x ∷ xs) ys = ap (λ zs. x ∷ zs) (take_all xs ys)

pub fresh_push : (front : List Name) (x : Name) → IsFresh front → list_any (bytes_eq x) front ≡ false → IsFresh (front ++ (x ∷ []))
fresh_push front x fresh new k y lt = below_more (λ (j : ℕ). (z : Name) → list_any (bytes_eq (get_or (front ++ (x ∷ [])) j z)) (take j (front ++ (x ∷ []))) ≡ false) (length front) before here k within y
  where
    within : k < length front + 1
    within = omega (arith, length-append front (x ∷ []))

    before : (j : ℕ) → j < length front → (z : Name) → list_any (bytes_eq (get_or (front ++ (x ∷ [])) j z)) (take j (front ++ (x ∷ []))) ≡ false
    before j below z =
        ap (λ w. list_any (bytes_eq w) (take j (front ++ (x ∷ [])))) (get_or_append_left front (x ∷ []) z j below)
        ∙ ap (λ ws. list_any (bytes_eq (get_or front j z)) ws) (take-append-le j front (x ∷ []) (omega arith))
        ∙ fresh j z below

    here : (z : Name) → list_any (bytes_eq (get_or (front ++ (x ∷ [])) (length front) z)) (take (length front) (front ++ (x ∷ []))) ≡ false
    here z =
        ap (λ w. list_any (bytes_eq w) (take (length front) (front ++ (x ∷ [])))) (get_or-append_seam front x [] z)
        ∙ ap (λ ws. list_any (bytes_eq x) ws) (take_all front (x ∷ []))
        ∙ new

pub map-take : {A B : Type 0} (f : A → B) (i : ℕ) (xs : List A) → take i (map f xs) ≡ map f (take i xs)
map-take f zero xs = refl
map-take f (suc i) [] = refl
map-take f (suc i) (x ∷ xs) = ap (λ ys. f x ∷ ys) (map-take f i xs)

pub get_or-map : {A B : Type 0} (f : A → B) (xs : List A) (i : ℕ) (d : A) (e : B) → i < length xs → get_or (map f xs) i e ≡ f (get_or xs i d)
get_or-map f [] i d e lt = absurd (omega arith)
get_or-map f (x ∷ xs) zero d e lt = refl
get_or-map f (x ∷ xs) (suc i) d e lt = get_or-map f xs i d e (omega arith)

length-front : {A B : Type 0} (f : A → B) (xs : List A) (i : ℕ) → i ≤ length xs → length (map f (take i xs)) ≡ i
length-front f xs zero le = refl
length-front f [] (suc i) le = absurd (omega arith)
length-front f (x ∷ xs) (suc i) le = omega (arith, length-front f xs i (omega arith))

-- the names of the first i members, where the next stood before
pub front_stop : {A : Type 0} (f : A → Name) (xs : List A) (i : ℕ) (d : A) (front : List Name) → i < length xs → front ≡ map f (take i xs) → IsFresh front → list_any (bytes_eq (f (get_or xs i d))) front ≡ true → IsFront (map f xs) front
front_stop f xs i d front lt taken fresh again =
    let size : length front ≡ i = ap length taken ∙ length-front f xs i (omega arith) in
    record {
      begins = taken ∙ sym (map-take f i xs) ∙ ap (λ n. take n (map f xs)) (sym size);
      distinct = fresh;
      ends = λ x below. ap (λ n. list_any (bytes_eq (get_or (map f xs) n x)) front) size ∙ ap (λ y. list_any (bytes_eq y) front) (get_or-map f xs i d x lt) ∙ again;
    }

take_short : {A : Type 0} (n : ℕ) (xs : List A) → length (take n xs) ≤ length xs
take_short zero xs = omega arith
take_short (suc n) [] = omega arith
take_short (suc n) (x ∷ xs) = omega (arith, take_short n xs)

pub length_take : {A : Type 0} (n : ℕ) (xs : List A) → n ≤ length xs → length (take n xs) ≡ n
length_take zero xs le = refl
length_take (suc n) [] le = absurd (omega arith)
length_take (suc n) (x ∷ xs) le = omega (arith, length_take n xs (omega arith))

pub front_short : (all front : List Name) → IsFront all front → length front ≤ length all
front_short all front is = omega (arith, ap length is.begins, take_short (length front) all)

-- ---- modules by their names

is_some_cond : {A : Type 0} (b c : Bool) (x : A) (o : Option A) → b ≡ c → is_some (cond b (Some x) o) ≡ (c || is_some o)
is_some_cond true true x o e = refl
is_some_cond false false x o e = refl
is_some_cond true false x o e = absurd cc
is_some_cond false true x o e = absurd cc

pub is_some-module_named : (p : Program) (x : Name) → is_some (module_named p x) ≡ list_any (bytes_eq x) (map (λ m. m.name) p)
is_some-module_named [] x = refl
is_some-module_named (m ∷ ms) x =
    is_some_cond (bytes_eq m.name x) (bytes_eq x m.name) m (module_named ms x) (bytes_eq_sym m.name x)
    ∙ ap (λ b. bytes_eq x m.name || b) (is_some-module_named ms x)

-- ---- pairs

pub pairs_push : {A B : Type 0} (R : A → B → Type 0) (xs : List A) (ys : List B) (x : A) (y : B) → AllZip R xs ys → R x y → AllZip R (xs ++ (x ∷ [])) (ys ++ (y ∷ []))
pairs_push R [] [] x y h r = (r, tt)
pairs_push R [] (z ∷ zs) x y h r = absurd h
pairs_push R (w ∷ ws) [] x y h r = absurd h
pairs_push R (w ∷ ws) (z ∷ zs) x y h r = (h.0, pairs_push R ws zs x y h.1 r)

pub length_pairs : {A B : Type 0} (R : A → B → Type 0) (xs : List A) (ys : List B) → AllZip R xs ys → length xs ≡ length ys
length_pairs R [] [] h = refl
length_pairs R [] (z ∷ zs) h = absurd h
length_pairs R (w ∷ ws) [] h = absurd h
length_pairs R (w ∷ ws) (z ∷ zs) h = ap suc (length_pairs R ws zs h.1)

-- ---- how many instances stand before each entry

pub instances_cons : (d : Entry) (es : List Entry) → instances_in (d ∷ es) ≡ one_if (is_instance d.entity) + instances_in es
instances_cons d es = sum_by-append (λ (e : Entry). one_if (is_instance e.entity)) (d ∷ []) es ∙ ap (λ k. k + instances_in es) (omega arith)

pub counts_push : (n : ℕ) (es : List Entry) (e : Entry) → counts_from n (es ++ (e ∷ [])) ≡ counts_from n es ++ ((n + instances_in es) ∷ [])
counts_push n [] e = ap (λ k. k ∷ []) (omega arith)
counts_push n (d ∷ es) e = ap (λ ks. n ∷ ks) (counts_push (n + one_if (is_instance d.entity)) es e ∙ ap (λ k. counts_from (n + one_if (is_instance d.entity)) es ++ (k ∷ [])) (omega (arith, instances_cons d es)))

pub counts_get : (n : ℕ) (es : List Entry) (k : ℕ) → k < length es → slice_get (counts_from n es) k ≡ Some (n + instances_in (take k es))
counts_get n [] k lt = absurd (omega arith)
counts_get n (d ∷ es) zero lt = ap Some (omega arith)
counts_get n (d ∷ es) (suc k) lt = counts_get (n + one_if (is_instance d.entity)) es k (omega arith) ∙ ap Some (omega (arith, instances_cons d (take k es)))

pub length-counts_from : (n : ℕ) (es : List Entry) → length (counts_from n es) ≡ length es
length-counts_from n [] = refl
length-counts_from n (d ∷ es) = ap suc (length-counts_from (n + one_if (is_instance d.entity)) es)
