-- Processes by their places, and the first process instance.
use Rattle.std.proofs.Common.{◌≡◌, refl, sym, ◌∙◌, ap, subst, ℕ, zero, suc, ◌+◌, ◌<◌, ◌≤◌, arith, List, [], ◌∷◌, ◌++◌, length, take, get_or, Bool, true, false, cond, Some, append-nil}
use Rattle.std.specs.Prelude.{slice_get, map, flat_map, filter, not}
use Rattle.std.specs.Str.{bytes_eq}
use Rattle.std.proofs.lemmas.List.Elements.{filter-append}
use Rattle.std.proofs.lemmas.Option.{slice_get_within, get_or_from_slice_get}
use Rattle.std.proofs.lemmas.List.{take_more}
use Rattle.std.proofs.lemmas.Grind.{flat_map-append}
use Rattle.kripke_model.specs.Refusing.{Silent}
use Rattle.smv_instances.specs.Program.{Name, Program}
use Rattle.smv_instances.specs.Entries.{Entry, entries}
use Rattle.smv_instances.specs.Instances.{Scope, module_of, instances, is_process, process_name, process_of, processes, place_of, declares_process, rising}
use Rattle.smv_instances.specs.Declarations.{refused_declarations}
use Rattle.std.specs.List.{AllZip}
use Rattle.smv_instantiate.specs.Written.{IsWritten}
use Rattle.smv_instantiate.proofs.Members.{In, Distinct, not_some, some_same, map-append, slice_in}
use Rattle.smv_instantiate.proofs.TypeSteps.{rising-push}
use Rattle.smv_instantiate.proofs.NameLemmas.{bytes_same, names_same}
use Rattle.smv_instantiate.proofs.DeclaredLemmas.{filter_fewer, instance_count, processes_distinct}
use Rattle.smv_instantiate.proofs.BodySteps.{slice_mapped}

-- ---- places

place_first : (x y : Name) (ys : List Name) → x ≡ y → place_of (y ∷ ys) x ≡ 0
place_first x y ys e = ap (λ b. cond (not b) (1 + place_of ys x) 0) (ap (bytes_eq x) (sym e) ∙ bytes_same x)

place_later : (x y : Name) (ys : List Name) → (x ≡ y → ⊥) → place_of (y ∷ ys) x ≡ 1 + place_of ys x
place_later x y ys other = by (bytes_eq x y) refl
  where
    by : (b : Bool) → bytes_eq x y ≡ b → cond (not b) (1 + place_of ys x) 0 ≡ 1 + place_of ys x
    by true e = absurd (other (names_same x y e))
    by false e = refl

-- where a name stands in a list without a name twice
pub place_at : (names : List Name) (k : ℕ) (x : Name) → Distinct names → slice_get names k ≡ Some x → place_of names x ≡ k
place_at [] k x h at = absurd (not_some at)
place_at (y ∷ ys) zero x h at = place_first x y ys (sym (some_same at))
place_at (y ∷ ys) (suc k) x h at =
    let rest : place_of ys x ≡ k = place_at ys k x h.1 at in
    let here : place_of (y ∷ ys) x ≡ 1 + place_of ys x = place_later x y ys (λ e. h.0 (subst (λ z. In z ys) e (slice_in ys k x at))) in
    let goal : place_of (y ∷ ys) x ≡ suc k = here ∙ ap (λ n. 1 + n) rest ∙ one_more k in
    goal
  where
    one_more : (n : ℕ) → 1 + n ≡ suc n
    one_more n = omega arith

process_named : (s : Scope) → process_name s ≡ process_name (process_of s)
process_named (Scope.Main m) = refl
process_named (Scope.Inside around name true actuals m) = refl
process_named (Scope.Inside around name false actuals m) = process_named around

module _ (p : Program) (silent : Silent (refused_declarations p)) (written : IsWritten p) where
  pub process_place : (s : Scope) (k : ℕ) → slice_get (filter is_process (instances p)) k ≡ Some (process_of s) → place_of (processes p) (process_name s) ≡ k
  process_place s k at =
      ap (place_of (processes p)) (process_named s)
      ∙ place_at (processes p) k (process_name (process_of s)) (processes_distinct p silent written) (slice_mapped process_name (filter is_process (instances p)) k (process_of s) at)

  pub process_few : (s : Scope) (k : ℕ) → slice_get (filter is_process (instances p)) k ≡ Some (process_of s) → k < 1024
  process_few s k at =
      let a : k < length (filter is_process (instances p)) = slice_get_within _ k _ at in
      let b : length (filter is_process (instances p)) ≤ length (instances p) = filter_fewer is_process (instances p) in
      let d : length (instances p) ≤ 1024 = instance_count p silent written in
      omega (arith, a, b, d)

-- ---- the first that passes a test

pub first_is : {A B : Type 0} (f : A → B) (t : A → Bool) (x : A) (xs rest : List A) → filter t xs ≡ [] → t x ≡ true → map f (take 1 (filter t (xs ++ (x ∷ rest)))) ≡ f x ∷ []
first_is f t x xs rest none passes =
    ap (λ ys. map f (take 1 ys)) (filter-append t xs (x ∷ rest) ∙ ap (λ ys. ys ++ filter t (x ∷ rest)) none)
    ∙ ap (λ b. map f (take 1 (cond b (x ∷ filter t rest) (filter t rest)))) passes

pub none_more : {A : Type 0} (t : A → Bool) (xs : List A) (x : A) → filter t xs ≡ [] → t x ≡ false → filter t (xs ++ (x ∷ [])) ≡ []
none_more t xs x none fails = filter-append t xs (x ∷ []) ∙ ap (λ ys. ys ++ filter t (x ∷ [])) none ∙ ap (λ b. cond b (x ∷ []) []) fails

-- the part of one body
pub placed_first : {A B C : Type 0} (f : A → B) (t : A → Bool) (g : C → A) (xs : List C) (x : B) → map f (take 1 (filter t (map g xs))) ≡ map (λ c. f (g c)) (take 1 (filter (λ c. t (g c)) xs))
placed_first f t g [] x = refl
placed_first f t g (c ∷ cs) x = by (t (g c)) (placed_first f t g cs x)
  where
    by : (b : Bool) → map f (take 1 (filter t (map g cs))) ≡ map (λ d. f (g d)) (take 1 (filter (λ d. t (g d)) cs)) → map f (take 1 (cond b (g c ∷ filter t (map g cs)) (filter t (map g cs)))) ≡ map (λ d. f (g d)) (take 1 (cond b (c ∷ filter (λ d. t (g d)) cs) (filter (λ d. t (g d)) cs)))
    by true e = refl
    by false e = e

-- ---- the first process instance of all bodies

abbrev pub placed : Scope → List (Scope × Entry)
placed s = map (λ e. (s, e)) (entries (module_of s))

abbrev pub is_process_entry : Scope × Entry → Bool
is_process_entry e = declares_process e.1.entity

front_kept : {A : Type 0} (f : A → ℕ) (xs rest : List A) (n : ℕ) → n ∷ [] ≡ map f (take 1 xs) → n ∷ [] ≡ map f (take 1 (xs ++ rest))
front_kept f [] rest n e = absurd (let g : n ∷ [] ≡ [] = e in cc)
front_kept f (x ∷ xs) rest n e = e

none_taken : {A : Type 0} (f : A → ℕ) (xs : List A) → [] ≡ map f (take 1 xs) → xs ≡ []
none_taken f [] e = refl
none_taken f (x ∷ xs) e = absurd (let g : [] ≡ f x ∷ [] = e in cc)

filter_mapped : {A B : Type 0} (t : B → Bool) (g : A → B) (xs : List A) → filter (λ x. t (g x)) xs ≡ [] → filter t (map g xs) ≡ []
filter_mapped t g [] e = refl
filter_mapped t g (x ∷ xs) e = by (t (g x)) e (filter_mapped t g xs)
  where
    by : (b : Bool) → cond b (x ∷ filter (λ y. t (g y)) xs) (filter (λ y. t (g y)) xs) ≡ [] → (filter (λ y. t (g y)) xs ≡ [] → filter t (map g xs) ≡ []) → cond b (g x ∷ filter t (map g xs)) (filter t (map g xs)) ≡ []
    by true f rest = absurd (let h : x ∷ filter (λ y. t (g y)) xs ≡ [] = f in cc)
    by false f rest = rest f

body_parts : (xs rest : List Scope) (s : Scope) → filter is_process_entry (flat_map placed xs) ≡ [] → filter is_process_entry (flat_map placed (xs ++ (s ∷ rest))) ≡ filter is_process_entry (placed s) ++ filter is_process_entry (flat_map placed rest)
body_parts xs rest s none =
    ap (filter is_process_entry) (flat_map-append placed xs (s ∷ rest))
    ∙ filter-append is_process_entry (flat_map placed xs) (placed s ++ flat_map placed rest)
    ∙ ap (λ ys. ys ++ filter is_process_entry (placed s ++ flat_map placed rest)) none
    ∙ filter-append is_process_entry (placed s) (flat_map placed rest)

pub line_found : (xs rest : List Scope) (s : Scope) (line : ℕ) → filter is_process_entry (flat_map placed xs) ≡ [] → line ∷ [] ≡ map (λ e. e.line) (take 1 (filter (λ (e : Entry). declares_process e.entity) (entries (module_of s))))
    → line ∷ [] ≡ map (λ e. e.1.line) (take 1 (filter is_process_entry (flat_map placed (xs ++ (s ∷ rest)))))
line_found xs rest s line none found =
    let f = λ (e : Scope × Entry). e.1.line in
    let here : line ∷ [] ≡ map f (take 1 (filter is_process_entry (placed s))) = found ∙ sym (placed_first f is_process_entry (λ e. (s, e)) (entries (module_of s)) line) in
    front_kept f (filter is_process_entry (placed s)) (filter is_process_entry (flat_map placed rest)) line here
    ∙ ap (λ ys. map f (take 1 ys)) (sym (body_parts xs rest s none))

pub no_line : (xs : List Scope) (s : Scope) → filter is_process_entry (flat_map placed xs) ≡ [] → [] ≡ map (λ e. e.line) (take 1 (filter (λ (e : Entry). declares_process e.entity) (entries (module_of s))))
    → filter is_process_entry (flat_map placed (xs ++ (s ∷ []))) ≡ []
no_line xs s none found =
    body_parts xs [] s none
    ∙ append-nil (filter is_process_entry (placed s))
    ∙ filter_mapped is_process_entry (λ e. (s, e)) (entries (module_of s)) (none_taken (λ (e : Entry). e.line) (filter (λ (e : Entry). declares_process e.entity) (entries (module_of s))) found)

-- ---- the names of the processes

pub pairs_right : {A B : Type 0} (R : A → B → Type 0) (xs : List A) (ys : List B) (k : ℕ) (x : A) → AllZip R xs ys → slice_get xs k ≡ Some x → (y : B) × (slice_get ys k ≡ Some y) × R x y
pairs_right R [] ys k x h at = absurd (not_some at)
pairs_right R (z ∷ zs) [] k x h at = absurd h
pairs_right R (z ∷ zs) (y ∷ ys) zero x h at = (y, refl, subst (λ w. R w y) (some_same at) h.0)
pairs_right R (z ∷ zs) (y ∷ ys) (suc k) x h at = pairs_right R zs ys k x h.1 at

pub take_at : {A : Type 0} (xs : List A) (k : ℕ) (x : A) → slice_get xs k ≡ Some x → take (k + 1) xs ≡ take k xs ++ (x ∷ [])
take_at xs k x at = take_more xs k x (slice_get_within xs k x at) ∙ ap (λ d. take k xs ++ (d ∷ [])) (get_or_from_slice_get xs k x x at)

pub rising_added : {A : Type 0} (f : ℕ → A) (n : ℕ) → map f (rising 0 n) ++ (f n ∷ []) ≡ map f (rising 0 (n + 1))
rising_added f n = sym (ap (map f) (ap (rising 0) (one_more n) ∙ rising-push 0 n) ∙ map-append f (rising 0 n) ((0 + n) ∷ []) ∙ ap (λ k. map f (rising 0 n) ++ (f k ∷ [])) (zero_more n))
  where
    one_more : (k : ℕ) → k + 1 ≡ suc k
    one_more k = omega arith

    zero_more : (k : ℕ) → 0 + k ≡ k
    zero_more k = omega arith

pub read_at : {A : Type 0} (xs : List A) (k : ℕ) (d : A) → k < length xs → slice_get xs k ≡ Some (get_or xs k d)
read_at [] k d lt = absurd (omega arith)
read_at (x ∷ xs) zero d lt = refl
read_at (x ∷ xs) (suc k) d lt = read_at xs k d (omega arith)
