-- Entries by their places among all entries.
use Rattle.std.proofs.Common.{◌≡◌, refl, sym, ◌∙◌, ap, ℕ, zero, suc, ◌+◌, ◌<◌, arith, List, [], ◌∷◌, ◌++◌, length, map, flat_map, take, length-append, append-nil, get_or, Option, Some, None, ◌⊎◌, inl, inr}
use Rattle.std.specs.Prelude.{slice_get, slice_index}
use Rattle.std.proofs.lemmas.List.{length-map, take_more, get_or_append_left}
use Rattle.std.proofs.Math.Seq.{get_or-append_seam}
use Rattle.std.proofs.lemmas.Grind.{flat_map-append}
use Rattle.std.proofs.lemmas.Option.{same_Some, slice_get_within, get_or_from_slice_get, slice_get-get_or}
use Rattle.smv_instances.specs.Program.{Program}
use Rattle.smv_instances.specs.Entries.{Entry, entries}
use Rattle.smv_instances.specs.Instances.{Scope, module_of, all_entries, instances}
use Rattle.smv_instances.proofs.ListSteps.{take_whole}
use Rattle.smv_names.specs.declared.nodes.Nodes.{Nodes}
use Rattle.smv_names.specs.Nodes.{placed_entries, entries_before, AreNodes}

pub mapped_get : {A B : Type 0} (f : A → B) (xs : List A) (k : ℕ) (x : A) → slice_get xs k ≡ Some x → slice_get (map f xs) k ≡ Some (f x)
mapped_get f [] k x at = absurd (let none : None ≡ Some x = at in cc)
mapped_get f (y ∷ ys) zero x at = ap (λ z. Some (f z)) (same_Some _ _ at)
mapped_get f (y ∷ ys) (suc k) x at = mapped_get f ys k x at

left_get : {A : Type 0} (xs ys : List A) (k : ℕ) (x : A) → slice_get xs k ≡ Some x → slice_get (xs ++ ys) k ≡ Some x
left_get [] ys k x at = absurd (let none : None ≡ Some x = at in cc)
left_get (z ∷ xs) ys zero x at = at
left_get (z ∷ xs) ys (suc k) x at = left_get xs ys k x at

right_get : {A : Type 0} (xs ys : List A) (k : ℕ) (o : Option A) → slice_get ys k ≡ o → slice_get (xs ++ ys) (length xs + k) ≡ o
right_get [] ys k o at = let e : 0 + k ≡ k = omega arith in ap (slice_get ys) e ∙ at
right_get (x ∷ xs) ys k o at = let e : length (x ∷ xs) + k ≡ suc (length xs + k) = omega arith in ap (slice_get (x ∷ (xs ++ ys))) e ∙ right_get xs ys k o at

-- the members of the lists one after the other
pub flat_get : {A B : Type 0} (f : A → List B) (xs : List A) (i k : ℕ) (x : A) (y : B) → slice_get xs i ≡ Some x → slice_get (f x) k ≡ Some y → slice_get (flat_map f xs) (length (flat_map f (take i xs)) + k) ≡ Some y
flat_get f [] i k x y at_x at_y = absurd (let none : None ≡ Some x = at_x in cc)
flat_get f (z ∷ xs) zero k x y at_x at_y =
    let e : 0 + k ≡ k = omega arith in
    ap (slice_get (f z ++ flat_map f xs)) e ∙ left_get (f z) (flat_map f xs) k y (ap (λ w. slice_get (f w) k) (same_Some _ _ at_x) ∙ at_y)
flat_get f (z ∷ xs) (suc i) k x y at_x at_y =
    let e : length (f z ++ flat_map f (take i xs)) + k ≡ length (f z) + (length (flat_map f (take i xs)) + k) = omega (arith, length-append (f z) (flat_map f (take i xs))) in
    ap (slice_get (f z ++ flat_map f xs)) e ∙ right_get (f z) (flat_map f xs) (length (flat_map f (take i xs)) + k) (Some y) (flat_get f xs i k x y at_x at_y)

module _ (p : Program) where
  pub entry_numbered : (i k : ℕ) (s : Scope) (e : Entry) → slice_get (instances p) i ≡ Some s → slice_get (entries (module_of s)) k ≡ Some e → slice_get (all_entries p) (entries_before p i + k) ≡ Some (s, e)
  entry_numbered i k s e at_s at_e = flat_get placed_entries (instances p) i k s (s, e) at_s (mapped_get (λ d. (s, d)) (entries (module_of s)) k e at_e)

  -- the numbers end at the count
  pub entry_below : (nodes : Nodes) (i k : ℕ) (s : Scope) (e : Entry) → AreNodes p nodes → slice_get (instances p) i ≡ Some s → slice_get (entries (module_of s)) k ≡ Some e → entries_before p i + k < nodes.count
  entry_below nodes i k s e are at_s at_e =
      let within : entries_before p i + k < length (all_entries p) = slice_get_within (all_entries p) (entries_before p i + k) (s, e) (entry_numbered i k s e at_s at_e) in
      omega (arith, within, are.all)

  pub entries_more : (i : ℕ) (s : Scope) → slice_get (instances p) i ≡ Some s → entries_before p (i + 1) ≡ entries_before p i + length (entries (module_of s))
  entries_more i s at =
      let within : i < length (instances p) = slice_get_within (instances p) i s at in
      let taken : take (i + 1) (instances p) ≡ take i (instances p) ++ (s ∷ []) = take_more (instances p) i s within ∙ ap (λ z. take i (instances p) ++ (z ∷ [])) (get_or_from_slice_get (instances p) i s s at) in
      let both : flat_map placed_entries (take (i + 1) (instances p)) ≡ flat_map placed_entries (take i (instances p)) ++ placed_entries s =
      ap (flat_map placed_entries) taken ∙ flat_map-append placed_entries (take i (instances p)) (s ∷ []) ∙ ap (λ z. flat_map placed_entries (take i (instances p)) ++ z) (append-nil (placed_entries s)) in
      ap (λ z. length z) both ∙ length-append (flat_map placed_entries (take i (instances p))) (placed_entries s) ∙ ap (λ n. entries_before p i + n) (length-map (entries (module_of s)) (λ e. (s, e)))

-- an element that was read is the one at its place, whatever stands for those that aren't there
pub read_at : (xs : List ℕ) (i n : ℕ) → i < length xs → n ≡ get_or xs i n → n ≡ slice_index xs i
read_at xs i n lt e = e ∙ same_Some _ _ (sym (slice_get-get_or xs i n lt) ∙ slice_get-get_or xs i 0 lt)

pub got : {A : Type 0} (xs : List A) (i : ℕ) (x : A) → i < length xs → x ≡ get_or xs i x → slice_get xs i ≡ Some x
got xs i x lt e = slice_get-get_or xs i x lt ∙ ap Some (sym e)

-- the numbers of the entries of the first n instances
pub record AreNumbered (p : Program) (firsts : List ℕ) (count n : ℕ) : Type 0 where
  pub lengths : length firsts ≡ n
  pub counted : count ≡ entries_before p n
  pub each : (i : ℕ) → i < n → slice_index firsts i ≡ entries_before p i

pub numbered_none : (p : Program) → AreNumbered p [] 0 0
numbered_none p = record { lengths = refl; counted = refl; each = λ i lt. absurd (omega arith) }

pub numbered_more : (p : Program) (firsts : List ℕ) (count n more size : ℕ) (s : Scope) → AreNumbered p firsts count n → slice_get (instances p) n ≡ Some s → size ≡ length (entries (module_of s)) → more ≡ count + size
    → AreNumbered p (firsts ++ (count ∷ [])) more (n + 1)
numbered_more p firsts count n more size s are at sized is = record {
  lengths = omega (arith, length-append firsts (count ∷ []), are.lengths);
  counted = is ∙ ap (λ k. k + size) are.counted ∙ ap (λ k. entries_before p n + k) sized ∙ sym (entries_more p n s at);
  each = λ i lt. each i (below i n lt);
}
  where
    below : (i n : ℕ) → i < n + 1 → (i < n) ⊎ (i ≡ n)
    below i n lt = grind arith

    each : (i : ℕ) → (i < n) ⊎ (i ≡ n) → slice_index (firsts ++ (count ∷ [])) i ≡ entries_before p i
    each i (inl lt) = get_or_append_left firsts (count ∷ []) 0 i (omega (arith, lt, are.lengths)) ∙ are.each i lt
    each i (inr e) = ap (slice_index (firsts ++ (count ∷ []))) (e ∙ sym are.lengths) ∙ get_or-append_seam firsts count [] 0 ∙ are.counted ∙ ap (entries_before p) (sym e)

pub numbered_all : (p : Program) (firsts : List ℕ) (count n : ℕ) → AreNumbered p firsts count n → n ≡ length (instances p) → (count ≡ length (all_entries p)) × (length firsts ≡ length (instances p)) × ((i : ℕ) → i < length (instances p) → slice_index firsts i ≡ entries_before p i)
numbered_all p firsts count n are all =
    (are.counted ∙ ap (λ xs. length (flat_map placed_entries xs)) (take_whole (instances p) n (omega (arith, all))), are.lengths ∙ all, λ i lt. are.each i (omega (arith, lt, all)))
