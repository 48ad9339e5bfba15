-- How many values constants have.
use Rattle.std.proofs.Common.{◌≡◌, refl, sym, ◌∙◌, ap, subst, ℕ, zero, suc, ◌+◌, ◌<◌, arith, List, [], ◌∷◌, ◌++◌, Bool, true, false, not, cond, ◌||◌, ◌==◌, length, map, get_or, take, pos, eq-eqb, length-append, append-nil}
use Rattle.std.specs.Prelude.{nat_eq, Result, Ok, Err, IfOk}
use Rattle.std.specs.List.{list_any, position_or_len, filter_map}
use Rattle.std.specs.Str.{bytes_eq}
use Rattle.std.proofs.lemmas.Bool.Decides.{Decides-eqb}
use Rattle.std.proofs.lemmas.Slice.Eq.{bytes_eq-Decides}
use Rattle.std.proofs.lemmas.List.Sums.{passes_at_first}
use Rattle.std.specs.Prelude.{filter}
use Rattle.std.proofs.lemmas.List.{map-append, take_more}
use Rattle.std.proofs.lemmas.List.Elements.{filter-append}
use Rattle.kripke_model.specs.declared.expressions.Value.{Value}
use Rattle.kripke_model.specs.declared.expressions.Value.TheVariants.{Number}
use Rattle.kripke_model.specs.Evaluation.{same, among, distinct, truth_value}
use Rattle.kripke_model.proofs.ValueLemmas.{same-true, same_self}
use Rattle.smv_instances.specs.Program.{Name, Constant}
use Rattle.smv_instances.specs.Instances.{place_of, value_of, atom}
use Rattle.smv_instances.specs.Declarations.{one_if}
use Rattle.smv_instances.specs.Constants.{is_number, is_same, holds}
use Rattle.smv_instances.proofs.NameLemmas.{any_map}

abbrev differs : Value → Value → Bool
differs v w = not (same v w)

bool_iff : (a b : Bool) → (a ≡ true → b ≡ true) → (b ≡ true → a ≡ true) → a ≡ b
bool_iff true b there back = sym (there refl)
bool_iff false true there back = back refl
bool_iff false false there back = refl

-- ---- places of names

any_within : {A : Type 0} (p : A → Bool) (xs : List A) → list_any p xs ≡ true → position_or_len p xs < length xs
any_within p [] e = absurd (let f : false ≡ true = e in cc)
any_within p (x ∷ xs) e = go (p x) refl (λ q. any_within p xs (sym (ap (λ b. b || list_any p xs) q) ∙ e))
  where
    go : (b : Bool) → p x ≡ b → (p x ≡ false → position_or_len p xs < length xs) → position_or_len p (x ∷ xs) < length (x ∷ xs)
    go true q later = subst (λ b. cond (not b) (1 + position_or_len p xs) 0 < length (x ∷ xs)) (sym q) (omega arith)
    go false q later = subst (λ b. cond (not b) (1 + position_or_len p xs) 0 < length (x ∷ xs)) (sym q) (let below : position_or_len p xs < length xs = later q in omega arith)

-- a name that is in the list shares its place with itself alone
pub place_apart : (all : List Name) (x y : Name) → list_any (bytes_eq x) all ≡ true → place_of all x ≡ place_of all y → bytes_eq x y ≡ true
place_apart all x y among_all e =
    let within : place_of all x < length all = any_within (bytes_eq x) all among_all in
    let first : x ≡ get_or all (place_of all x) x = (bytes_eq-Decides _ _).0 (passes_at_first (bytes_eq x) all x within) in
    let second : y ≡ get_or all (place_of all y) x = (bytes_eq-Decides _ _).0 (passes_at_first (bytes_eq y) all x (subst (λ n. n < length all) e within)) in
    (bytes_eq-Decides x y).1 (first ∙ ap (λ n. get_or all n x) e ∙ sym second)

-- ---- equal values

same_numbers : (n m : ℕ) → same (Number (pos n)) (Number (pos m)) ≡ (n == m)
same_numbers n m = bool_iff _ _ (λ h. eq-eqb n m (inner (same-true (Number (pos n)) (Number (pos m)) h))) (λ h. subst (λ k. same (Number (pos n)) (Number (pos k)) ≡ true) ((Decides-eqb n m).0 h) (same_self (Number (pos n))))
  where
    inner : Number (pos n) ≡ Number (pos m) → n ≡ m
    inner e = cc

truth_number : (b : Bool) → truth_value b ≡ Number (pos (one_if b))
truth_number true = refl
truth_number false = refl

-- the constant's name, if it has one, is among these
abbrev pub IsKnown : List Name → Constant → Type 0
IsKnown all (Constant.Atom x) = list_any (bytes_eq x) all ≡ true
IsKnown all (Constant.Digits n) = Unit {0}
IsKnown all (Constant.Truth b) = Unit {0}

number_same : (all : List Name) (n : ℕ) (d : Constant) → same (Number (pos n)) (value_of all d) ≡ is_number n d
number_same all n (Constant.Atom y) = refl
number_same all n (Constant.Digits m) = same_numbers n m
number_same all n (Constant.Truth b) = ap (same (Number (pos n))) (truth_number b) ∙ same_numbers n (one_if b)

pub values_same : (all : List Name) (c d : Constant) → IsKnown all c → same (value_of all c) (value_of all d) ≡ is_same c d
values_same all (Constant.Atom x) (Constant.Atom y) known =
    bool_iff _ _ (λ h. place_apart all x y known ((Decides-eqb _ _).0 h)) (λ h. eq-eqb _ _ (ap (place_of all) ((bytes_eq-Decides x y).0 h)))
values_same all (Constant.Atom x) (Constant.Digits m) known = refl
values_same all (Constant.Atom x) (Constant.Truth true) known = refl
values_same all (Constant.Atom x) (Constant.Truth false) known = refl
values_same all (Constant.Digits n) d known = number_same all n d
values_same all (Constant.Truth b) d known = ap (λ v. same v (value_of all d)) (truth_number b) ∙ number_same all (one_if b) d

any_same : {A : Type 0} (p q : A → Bool) → ((x : A) → p x ≡ q x) → (xs : List A) → list_any p xs ≡ list_any q xs
any_same p q e [] = refl
any_same p q e (x ∷ xs) = ap (λ b. b || list_any p xs) (e x) ∙ ap (λ b. q x || b) (any_same p q e xs)

or_true : (b : Bool) → (b || true) ≡ true
or_true true = refl
or_true false = refl

pub known_at : (cs : List Constant) (i : ℕ) (d : Constant) → i < length cs → IsKnown (filter_map atom cs) (get_or cs i d)
known_at [] i d lt = absurd (omega arith)
known_at (Constant.Atom x ∷ cs) zero d lt = ap (λ b. b || list_any (bytes_eq x) (filter_map atom cs)) ((bytes_eq-Decides x x).1 refl)
known_at (Constant.Digits n ∷ cs) zero d lt = tt
known_at (Constant.Truth b ∷ cs) zero d lt = tt
known_at (c ∷ cs) (suc i) d lt = more c (get_or cs i d) (known_at cs i d (omega arith))
  where
    more : (c e : Constant) → IsKnown (filter_map atom cs) e → IsKnown (filter_map atom (c ∷ cs)) e
    more (Constant.Atom x) (Constant.Atom y) h = ap (λ b. bytes_eq y x || b) h ∙ or_true (bytes_eq y x)
    more (Constant.Digits n) (Constant.Atom y) h = h
    more (Constant.Truth b) (Constant.Atom y) h = h
    more c (Constant.Digits n) h = tt
    more c (Constant.Truth b) h = tt

-- ---- counting

same_sym_from : (v w : Value) (b : Bool) → same v w ≡ b → (c : Bool) → same w v ≡ c → b ≡ c
same_sym_from v w true p true q = refl
same_sym_from v w false p false q = refl
same_sym_from v w true p false q = sym (same_self w) ∙ ap (same w) (sym (same-true v w p)) ∙ q
same_sym_from v w false p true q = sym p ∙ ap (same v) (same-true w v q) ∙ same_self v

same_sym : (v w : Value) → same v w ≡ same w v
same_sym v w = same_sym_from v w (same v w) refl (same w v) refl

-- one value more is new, or is there
distinct-push : (vs : List Value) (x : Value) → distinct (vs ++ (x ∷ [])) ≡ cond (among x vs) (distinct vs) (distinct vs ++ (x ∷ []))
distinct-push [] x = refl
distinct-push (v ∷ vs) x =
    ap (λ ws. v ∷ filter (differs v) ws) (distinct-push vs x) ∙ by (among x vs) (same x v) (same v x) refl (same_sym v x)
  where
    kept : (c : Bool) → same v x ≡ c → filter (differs v) (distinct vs ++ (x ∷ [])) ≡ filter (differs v) (distinct vs) ++ cond (not c) (x ∷ []) []
    kept c p = filter-append (differs v) (distinct vs) (x ∷ []) ∙ ap (λ b. filter (differs v) (distinct vs) ++ cond (not b) (x ∷ []) []) p

    by : (later back c : Bool) → same v x ≡ c → c ≡ back → (v ∷ filter (differs v) (cond later (distinct vs) (distinct vs ++ (x ∷ [])))) ≡ cond (back || later) (distinct (v ∷ vs)) (distinct (v ∷ vs) ++ (x ∷ []))
    by true true c p e = refl
    by true false c p e = refl
    by false true true p e = ap (λ ws. v ∷ ws) (kept true p ∙ append-nil (filter (differs v) (distinct vs)))
    by false false false p e = ap (λ ws. v ∷ ws) (kept false p)
    by false true false p e = absurd cc
    by false false true p e = absurd cc

pub value_step : (all : List Name) (cs : List Constant) (i : ℕ) (d : Constant) → i < length cs → IsKnown all (get_or cs i d)
    → length (distinct (map (value_of all) (take (i + 1) cs))) ≡ length (distinct (map (value_of all) (take i cs))) + one_if (not (list_any (is_same (get_or cs i d)) (take i cs)))
value_step all cs i d lt known =
    let c = get_or cs i d in
    let vs = map (value_of all) (take i cs) in
    ap (λ xs. length (distinct (map (value_of all) xs))) (take_more cs i d lt)
    ∙ ap (λ ws. length (distinct ws)) (map-append (value_of all) (take i cs) (c ∷ []))
    ∙ ap length (distinct-push vs (value_of all c))
    ∙ size (among (value_of all c) vs) (distinct vs) (value_of all c)
    ∙ ap (λ b. length (distinct vs) + one_if (not b)) (any_map (same (value_of all c)) (value_of all) (take i cs) ∙ any_same _ _ (λ e. values_same all c e known) (take i cs))
  where
    size : (b : Bool) (xs : List Value) (v : Value) → length (cond b xs (xs ++ (v ∷ []))) ≡ length xs + one_if (not b)
    size true xs v = omega arith
    size false xs v = omega (arith, length-append xs (v ∷ []))

-- ---- one constant more

pub name_kept : (names : List Name) (x y : Name) (new : Bool) (after : List Name) → new ≡ not (list_any (bytes_eq x) names) → after ≡ cond new (names ++ (x ∷ [])) names → list_any (bytes_eq y) after ≡ (list_any (bytes_eq y) names || bytes_eq y x)
name_kept names x y true after is e = ap (list_any (bytes_eq y)) e ∙ pushed (bytes_eq y) names x
  where
    pushed : (p : Name → Bool) (xs : List Name) (z : Name) → list_any p (xs ++ (z ∷ [])) ≡ (list_any p xs || p z)
    pushed p [] z = or_false (p z)
      where
        or_false : (b : Bool) → (b || false) ≡ b
        or_false true = refl
        or_false false = refl
    pushed p (w ∷ ws) z = ap (λ b. p w || b) (pushed p ws z) ∙ or_assoc (p w) (list_any p ws) (p z)
      where
        or_assoc : (a b c : Bool) → (a || (b || c)) ≡ ((a || b) || c)
        or_assoc true b c = refl
        or_assoc false b c = refl
name_kept names x y false after is e = ap (list_any (bytes_eq y)) e ∙ there (bytes_eq y x) refl
  where
    held : (b : Bool) → false ≡ not b → b ≡ true
    held true h = refl
    held false h = cc

    there : (b : Bool) → bytes_eq y x ≡ b → list_any (bytes_eq y) names ≡ (list_any (bytes_eq y) names || b)
    there true q = ap (λ z. list_any (bytes_eq z) names) ((bytes_eq-Decides y x).0 q) ∙ held _ is ∙ sym (or_true (list_any (bytes_eq y) names))
    there false q = or_no (list_any (bytes_eq y) names)
      where
        or_no : (b : Bool) → b ≡ (b || false)
        or_no true = refl
        or_no false = refl

pub number_kept : (numbers after : List ℕ) (k n : ℕ) → list_any (nat_eq n) after ≡ cond (nat_eq k n) true (list_any (nat_eq n) numbers) → list_any (nat_eq n) after ≡ (list_any (nat_eq n) numbers || (n == k))
number_kept numbers after k n e = e ∙ turn (nat_eq k n) (n == k) (list_any (nat_eq n) numbers) (bool_iff _ _ (λ h. eq-eqb n k (sym ((Decides-eqb k n).0 h))) (λ h. eq-eqb k n (sym ((Decides-eqb n k).0 h))))
  where
    turn : (a b c : Bool) → a ≡ b → cond a true c ≡ (c || b)
    turn true true c q = sym (or_true c)
    turn false false true q = refl
    turn false false false q = refl
    turn true false c q = absurd cc
    turn false true c q = absurd cc

or_no : (b : Bool) → b ≡ (b || false)
or_no true = refl
or_no false = refl

pub name_added : {E : Type 0} (r : Result Bool E) (names after : List Name) (numbers : List ℕ) (x : Name) → IfOk r (λ new. new ≡ not (list_any (bytes_eq x) names)) → IfOk r (λ new. after ≡ cond new (names ++ (x ∷ [])) names)
    → IfOk r (λ new. (d : Constant) → holds after numbers d ≡ (holds names numbers d || is_same d (Constant.Atom x)))
name_added (Err e) names after numbers x is to = tt
name_added (Ok new) names after numbers x is to = kept
  where
    kept : (d : Constant) → holds after numbers d ≡ (holds names numbers d || is_same d (Constant.Atom x))
    kept (Constant.Atom y) = name_kept names x y new after is to
    kept (Constant.Digits n) = or_no (list_any (nat_eq n) numbers)
    kept (Constant.Truth b) = or_no (list_any (nat_eq (one_if b)) numbers)
