-- Lists by recursion: what each member keeps, which members there are, lists without a member twice, and lists that stand in others.
use Rattle.std.proofs.Common.{◌≡◌, refl, sym, ◌∙◌, ap, subst, ℕ, zero, suc, ◌<◌, ◌+◌, arith, List, [], ◌∷◌, ◌++◌, length, get_or, Bool, true, false, cond, Some, None, Option, ◌⊎◌, inl, inr}
use Rattle.std.specs.Prelude.{map, flat_map, filter, filter_map, find, All, Any, AllPairs, ◌≢◌, unwrap_or, is_some, slice_get}
use Rattle.std.specs.List.{cons_option}
use Rattle.std.proofs.lemmas.Bool.{false≢true}
use Rattle.smv_instances.proofs.RowLemmas.{slice_get_left}

pub some_same : {A : Type 0} {a b : A} → Some a ≡ Some b → a ≡ b
some_same {a} e = ap (λ o. unwrap_or o a) e

pub not_some : {A : Type 0} {a : A} → None ≡ Some a → ⊥
not_some e = false≢true (ap is_some e)

-- ---- what each member keeps

abbrev pub Each : {A : Type 0} → (A → Type 0) → List A → Type 0
Each P [] = Unit {0}
Each P (x ∷ xs) = P x × Each P xs

pub data In {A : Type 0} (x : A) : List A → Type 0 where
  first : {xs : List A} → In x (x ∷ xs)
  later : {y : A} {xs : List A} → In x xs → In x (y ∷ xs)

pub all_of_each : {A : Type 0} (P : A → Type 0) (xs : List A) → Each P xs → All P xs
all_of_each P [] e k d below = absurd (omega arith)
all_of_each P (x ∷ xs) e zero d below = e.0
all_of_each P (x ∷ xs) e (suc k) d below = all_of_each P xs e.1 k d (omega arith)

pub each_of_all : {A : Type 0} (P : A → Type 0) (xs : List A) → All P xs → Each P xs
each_of_all P [] h = tt
each_of_all P (x ∷ xs) h = (h 0 x (omega arith), each_of_all P xs (λ k d below. h (suc k) d (omega arith)))

pub each_in : {A : Type 0} (P : A → Type 0) {x : A} (xs : List A) → Each P xs → In x xs → P x
each_in P [] e i = elim i [ ]
each_in P (y ∷ ys) e In.first = e.0
each_in P (y ∷ ys) e (In.later i) = each_in P ys e.1 i

pub each_from : {A : Type 0} (P : A → Type 0) (xs : List A) → ((x : A) → In x xs → P x) → Each P xs
each_from P [] f = tt
each_from P (x ∷ xs) f = (f x In.first, each_from P xs (λ y i. f y (In.later i)))

pub all_from : {A : Type 0} (P : A → Type 0) (xs : List A) → ((x : A) → In x xs → P x) → All P xs
all_from P xs f = all_of_each P xs (each_from P xs f)

pub all_in : {A : Type 0} (P : A → Type 0) {x : A} (xs : List A) → All P xs → In x xs → P x
all_in P xs h i = each_in P xs (each_of_all P xs h) i

pub each_map : {A B : Type 0} (P : B → Type 0) (f : A → B) (xs : List A) → Each (λ x. P (f x)) xs → Each P (map f xs)
each_map P f [] h = tt
each_map P f (x ∷ xs) h = (h.0, each_map P f xs h.1)

find_cases : {A : Type 0} (t : A → Bool) {x : A} (y : A) (ys : List A) (b : Bool) → t y ≡ b → (find t ys ≡ Some x → In x ys × (t x ≡ true)) → cond b (Some y) (find t ys) ≡ Some x → In x (y ∷ ys) × (t x ≡ true)
find_cases t {x} y ys true passes rest e = let same : y ≡ x = some_same e in (subst (λ z. In z (y ∷ ys)) same In.first, ap t (sym same) ∙ passes)
find_cases t y ys false passes rest e = let r = rest e in (In.later r.0, r.1)

pub each_append : {A : Type 0} (P : A → Type 0) (xs ys : List A) → Each P xs → Each P ys → Each P (xs ++ ys)
each_append P [] ys h k = k
each_append P (x ∷ xs) ys h k = (h.0, each_append P xs ys h.1 k)

pub find_in : {A : Type 0} (t : A → Bool) {x : A} (xs : List A) → find t xs ≡ Some x → In x xs × (t x ≡ true)
find_in t [] e = absurd (not_some e)
find_in t {x} (y ∷ ys) e = find_cases t y ys (t y) refl (λ f. find_in t ys f) e

-- ---- members

pub in_at : {A : Type 0} (xs : List A) (k : ℕ) (d : A) → k < length xs → In (get_or xs k d) xs
in_at [] k d below = absurd (omega arith)
in_at (x ∷ xs) zero d below = In.first
in_at (x ∷ xs) (suc k) d below = In.later (in_at xs k d (omega arith))

pub in_left : {A : Type 0} {x : A} (xs ys : List A) → In x xs → In x (xs ++ ys)
in_left [] ys i = elim i [ ]
in_left (y ∷ xs) ys In.first = In.first
in_left (y ∷ xs) ys (In.later i) = In.later (in_left xs ys i)

pub in_right : {A : Type 0} {x : A} (xs ys : List A) → In x ys → In x (xs ++ ys)
in_right [] ys i = i
in_right (y ∷ xs) ys i = In.later (in_right xs ys i)

pub in_split : {A : Type 0} {x : A} (xs ys : List A) → In x (xs ++ ys) → In x xs ⊎ In x ys
in_split [] ys i = inr i
in_split (y ∷ xs) ys In.first = inl In.first
in_split (y ∷ xs) ys (In.later i) = elim (in_split xs ys i) [ inl j ↦ inl (In.later j) | inr j ↦ inr j ]

pub in_map : {A B : Type 0} (f : A → B) {x : A} (xs : List A) → In x xs → In (f x) (map f xs)
in_map f [] i = elim i [ ]
in_map f (y ∷ ys) In.first = In.first
in_map f (y ∷ ys) (In.later i) = In.later (in_map f ys i)

pub in_map_back : {A B : Type 0} (f : A → B) {y : B} (xs : List A) → In y (map f xs) → (x : A) × In x xs × (y ≡ f x)
in_map_back f [] i = elim i [ ]
in_map_back f (x ∷ xs) In.first = (x, In.first, refl)
in_map_back f (x ∷ xs) (In.later i) = let r = in_map_back f xs i in (r.0, In.later r.1, r.2)

pub in_flat : {A B : Type 0} (f : A → List B) {x : A} {y : B} (xs : List A) → In x xs → In y (f x) → In y (flat_map f xs)
in_flat f [] i j = elim i [ ]
in_flat f (z ∷ zs) In.first j = in_left (f z) (flat_map f zs) j
in_flat f (z ∷ zs) (In.later i) j = in_right (f z) (flat_map f zs) (in_flat f zs i j)

flat_cases : {A B : Type 0} (f : A → List B) {y : B} (x : A) (xs : List A) → In y (f x) ⊎ ((z : A) × In z xs × In y (f z)) → (z : A) × In z (x ∷ xs) × In y (f z)
flat_cases f x xs (inl here) = (x, In.first, here)
flat_cases f x xs (inr r) = (r.0, In.later r.1, r.2)

pub in_flat_back : {A B : Type 0} (f : A → List B) {y : B} (xs : List A) → In y (flat_map f xs) → (x : A) × In x xs × In y (f x)
in_flat_back f [] i = elim i [ ]
in_flat_back f (x ∷ xs) i = flat_cases f x xs (elim (in_split (f x) (flat_map f xs) i) [ inl here ↦ inl here | inr j ↦ inr (in_flat_back f xs j) ])

kept_first : {A : Type 0} {x : A} (ys : List A) (b : Bool) → b ≡ true → In x (cond b (x ∷ ys) ys)
kept_first ys true e = In.first
kept_first ys false e = absurd (false≢true e)

kept_later : {A : Type 0} {x : A} (y : A) {ys : List A} (b : Bool) → In x ys → In x (cond b (y ∷ ys) ys)
kept_later y true i = In.later i
kept_later y false i = i

pub in_filter : {A : Type 0} (p : A → Bool) {x : A} (xs : List A) → In x xs → p x ≡ true → In x (filter p xs)
in_filter p [] i passes = elim i [ ]
in_filter p (y ∷ ys) In.first passes = kept_first (filter p ys) (p y) passes
in_filter p (y ∷ ys) (In.later i) passes = kept_later y (p y) (in_filter p ys i passes)

filter_cases : {A : Type 0} (p : A → Bool) {x : A} (y : A) (ys : List A) (b : Bool) → p y ≡ b → (In x (filter p ys) → In x ys × (p x ≡ true)) → In x (cond b (y ∷ filter p ys) (filter p ys)) → In x (y ∷ ys) × (p x ≡ true)
filter_cases p y ys true e rest In.first = (In.first, e)
filter_cases p y ys true e rest (In.later i) = let r = rest i in (In.later r.0, r.1)
filter_cases p y ys false e rest i = let r = rest i in (In.later r.0, r.1)

pub in_filter_back : {A : Type 0} (p : A → Bool) {x : A} (xs : List A) → In x (filter p xs) → In x xs × (p x ≡ true)
in_filter_back p [] i = elim i [ ]
in_filter_back p (y ∷ ys) i = filter_cases p y ys (p y) refl (λ j. in_filter_back p ys j) i

given_first : {B : Type 0} {y : B} (ys : List B) (o : Option B) → o ≡ Some y → In y (cons_option o ys)
given_first ys None e = absurd (not_some e)
given_first ys (Some w) e = subst (λ z. In z (w ∷ ys)) (some_same e) In.first

given_later : {B : Type 0} {y : B} {ys : List B} (o : Option B) → In y ys → In y (cons_option o ys)
given_later None i = i
given_later (Some w) i = In.later i

pub in_filter_map : {A B : Type 0} (h : A → Option B) {x : A} {y : B} (xs : List A) → In x xs → h x ≡ Some y → In y (filter_map h xs)
in_filter_map h [] i gives = elim i [ ]
in_filter_map h (z ∷ zs) In.first gives = given_first (filter_map h zs) (h z) gives
in_filter_map h (z ∷ zs) (In.later i) gives = given_later (h z) (in_filter_map h zs i gives)

given_cases : {A B : Type 0} (h : A → Option B) {y : B} (x : A) (xs : List A) (o : Option B) → h x ≡ o → (In y (filter_map h xs) → (z : A) × In z xs × (h z ≡ Some y)) → In y (cons_option o (filter_map h xs)) → (z : A) × In z (x ∷ xs) × (h z ≡ Some y)
given_cases h x xs None e rest i = let r = rest i in (r.0, In.later r.1, r.2)
given_cases h x xs (Some w) e rest In.first = (x, In.first, e)
given_cases h x xs (Some w) e rest (In.later i) = let r = rest i in (r.0, In.later r.1, r.2)

pub in_filter_map_back : {A B : Type 0} (h : A → Option B) {y : B} (xs : List A) → In y (filter_map h xs) → (x : A) × In x xs × (h x ≡ Some y)
in_filter_map_back h [] i = elim i [ ]
in_filter_map_back h (x ∷ xs) i = given_cases h x xs (h x) refl (λ j. in_filter_map_back h xs j) i

pub any_in : {A : Type 0} (P : A → Type 0) {x : A} (xs : List A) → In x xs → P x → Any P xs
any_in P [] i holds = elim i [ ]
any_in P {x} (y ∷ ys) In.first holds = (0, y, omega arith, refl, holds)
any_in P (y ∷ ys) (In.later i) holds = let r : Any P ys = any_in P ys i holds in (suc r.0, r.1, omega (arith, r.2), r.3, r.4)

pub slice_in : {A : Type 0} (xs : List A) (k : ℕ) (x : A) → slice_get xs k ≡ Some x → In x xs
slice_in [] k x e = absurd (not_some e)
slice_in (y ∷ ys) zero x e = subst (λ z. In z (y ∷ ys)) (some_same e) In.first
slice_in (y ∷ ys) (suc k) x e = In.later (slice_in ys k x e)

pub in_slice : {A : Type 0} {x : A} (xs : List A) → In x xs → (k : ℕ) × (slice_get xs k ≡ Some x)
in_slice [] i = elim i [ ]
in_slice (y ∷ ys) In.first = (0, refl)
in_slice (y ∷ ys) (In.later i) = let r = in_slice ys i in (suc r.0, r.1)

-- ---- lists that stand in others

-- xs stands in ys from this place on
pub record IsBlock {A : Type 0} (xs ys : List A) : Type 0 where
  pub start : ℕ
  pub at : (k : ℕ) (x : A) → slice_get xs k ≡ Some x → slice_get ys (start + k) ≡ Some x

pub block_itself : {A : Type 0} (xs : List A) → IsBlock xs xs
block_itself xs = record { start = 0; at = λ k x e. let s : 0 + k ≡ k = omega arith in ap (slice_get xs) s ∙ e }

block_left : {A : Type 0} {xs : List A} (ys zs : List A) → IsBlock xs ys → IsBlock xs (ys ++ zs)
block_left ys zs b = record { start = b.start; at = λ k x e. slice_get_left ys zs (b.start + k) x (b.at k x e) }

pub block_right : {A : Type 0} {xs : List A} (ys zs : List A) → IsBlock xs zs → IsBlock xs (ys ++ zs)
block_right [] zs b = b
block_right (y ∷ ys) zs b =
    let r = block_right ys zs b in
    record { start = suc r.start; at = λ k x e. let s : suc r.start + k ≡ suc (r.start + k) = omega arith in ap (slice_get (y ∷ (ys ++ zs))) s ∙ r.at k x e }

pub block_flat : {A B : Type 0} {zs : List B} (f : A → List B) {x : A} (xs : List A) → In x xs → IsBlock zs (f x) → IsBlock zs (flat_map f xs)
block_flat f [] i b = elim i [ ]
block_flat f (y ∷ ys) In.first b = block_left (f y) (flat_map f ys) b
block_flat f (y ∷ ys) (In.later i) b = block_right (f y) (flat_map f ys) (block_flat f ys i b)

pub in_block : {A : Type 0} {x : A} {xs ys : List A} → IsBlock xs ys → In x xs → In x ys
in_block {x} {xs} {ys} b i = let r = in_slice xs i in slice_in ys (b.start + r.0) x (b.at r.0 x r.1)

-- ---- lists without a member twice

abbrev pub Distinct : {A : Type 0} → List A → Type 0
Distinct [] = Unit {0}
Distinct (x ∷ xs) = (In x xs → ⊥) × Distinct xs

pub distinct_pairs : {A : Type 0} (xs : List A) → Distinct xs → AllPairs (λ x y. x ≢ y) xs
distinct_pairs [] h i j d before below = absurd (omega arith)
distinct_pairs (x ∷ xs) h zero zero d before below = absurd (omega arith)
distinct_pairs (x ∷ xs) h zero (suc j) d before below = λ same. h.0 (subst (λ z. In z xs) (sym same) (in_at xs j d (omega arith)))
distinct_pairs (x ∷ xs) h (suc i) zero d before below = absurd (omega arith)
distinct_pairs (x ∷ xs) h (suc i) (suc j) d before below = distinct_pairs xs h.1 i j d (omega arith) (omega arith)

pub distinct_append : {A : Type 0} (xs ys : List A) → Distinct xs → Distinct ys → ((x : A) → In x xs → In x ys → ⊥) → Distinct (xs ++ ys)
distinct_append [] ys h k apart = k
distinct_append (x ∷ xs) ys h k apart = (
  λ i. elim (in_split xs ys i) [ inl j ↦ h.0 j | inr j ↦ apart x In.first j ],
  distinct_append xs ys h.1 k (λ z i j. apart z (In.later i) j),
)

-- no member of the lists of two members is one
abbrev pub Apart : {A B : Type 0} → (A → List B) → List A → Type 0
Apart f [] = Unit {0}
Apart {A} {B} f (x ∷ xs) = ((z : A) → In z xs → (y : B) → In y (f x) → In y (f z) → ⊥) × Apart f xs

pub distinct_flat : {A B : Type 0} (f : A → List B) (xs : List A) → ((x : A) → In x xs → Distinct (f x)) → Apart f xs → Distinct (flat_map f xs)
distinct_flat f [] each apart = tt
distinct_flat f (x ∷ xs) each apart = distinct_append (f x) (flat_map f xs) (each x In.first) (distinct_flat f xs (λ z i. each z (In.later i)) apart.1)
    (λ y i j. let r = in_flat_back f xs j in apart.0 r.0 r.1 y i r.2)

distinct_kept : {A : Type 0} (b : Bool) (x : A) (ys : List A) → (In x ys → ⊥) → Distinct ys → Distinct (cond b (x ∷ ys) ys)
distinct_kept true x ys new h = (new, h)
distinct_kept false x ys new h = h

pub distinct_filter : {A : Type 0} (p : A → Bool) (xs : List A) → Distinct xs → Distinct (filter p xs)
distinct_filter p [] h = tt
distinct_filter p (x ∷ xs) h = distinct_kept (p x) x (filter p xs) (λ i. h.0 (in_filter_back p xs i).0) (distinct_filter p xs h.1)

pub distinct_map : {A B : Type 0} (f : A → B) (xs : List A) → ((x y : A) → In x xs → In y xs → f x ≡ f y → x ≡ y) → Distinct xs → Distinct (map f xs)
distinct_map f [] one h = tt
distinct_map f (x ∷ xs) one h = (
  λ i. let r = in_map_back f xs i in h.0 (subst (λ z. In z xs) (sym (one x r.0 In.first (In.later r.1) r.2)) r.1),
  distinct_map f xs (λ y z i j e. one y z (In.later i) (In.later j) e) h.1,
)

-- ---- lists of lists

pub map-append : {A B : Type 0} (f : A → B) (xs ys : List A) → map f (xs ++ ys) ≡ map f xs ++ map f ys
map-append f [] ys = refl
map-append f (x ∷ xs) ys = ap (λ zs. f x ∷ zs) (map-append f xs ys)

pub map-flat_map : {A B C : Type 0} (g : B → C) (f : A → List B) (xs : List A) → map g (flat_map f xs) ≡ flat_map (λ x. map g (f x)) xs
map-flat_map g f [] = refl
map-flat_map g f (x ∷ xs) = map-append g (f x) (flat_map f xs) ∙ ap (λ zs. map g (f x) ++ zs) (map-flat_map g f xs)

append_nil : {A : Type 0} (xs : List A) → xs ++ [] ≡ xs
append_nil [] = refl
append_nil (x ∷ xs) = ap (λ ys. x ∷ ys) (append_nil xs)

given_lists : {B C : Type 0} (f : B → List C) (o : Option B) (ys : List B) → flat_map f (cons_option o ys) ≡ flat_map f (cons_option o []) ++ flat_map f ys
given_lists f None ys = refl
given_lists f (Some b) ys = ap (λ zs. zs ++ flat_map f ys) (sym (append_nil (f b)))

-- the lists of what a partial function gives
pub flat_map-filter_map : {A B C : Type 0} (f : B → List C) (h : A → Option B) (xs : List A) → flat_map f (filter_map h xs) ≡ flat_map (λ x. flat_map f (cons_option (h x) [])) xs
flat_map-filter_map f h [] = refl
flat_map-filter_map f h (x ∷ xs) = given_lists f (h x) (filter_map h xs) ∙ ap (λ zs. flat_map f (cons_option (h x) []) ++ zs) (flat_map-filter_map f h xs)
