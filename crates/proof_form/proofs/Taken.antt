-- Numbers that are taken in turn, and the forms of what they stand in.
use Rattle.std.proofs.Common.{◌≡◌, ℕ, suc, ◌+◌, ◌<◌, ◌≤◌, List, [], ◌∷◌, ◌++◌, map, length, take, drop, get_or, refl, sym, ◌∙◌, ap, ap₂, subst, arith, append-nil, append_assoc, length-append}
use Rattle.std.proofs.Math.Seq.{drop-cons}
use Rattle.std.proofs.lemmas.List.{length-map, map-append, map_more}
use Rattle.std.specs.Prelude.{flat_map, Option}
use Rattle.std.specs.Global.{Vec}
use Rattle.proof_form.specs.Form.{Layer, FairPart, Entry, FreeEntry, FreePart, Proof, layer_sets, fair_sets, entries_sets, free_sets_of, sets_of}
use Rattle.proof_form.specs.Filling.{AreTaken, blank, list_form, lists_of, lists_form, layers_form, fair_form, entries_form, free_entries_form, free_form_of, proof_form_of}
use Rattle.proof_form.proofs.Counted.{lists_length, layers_length, fair_length, entries_length, free_entries_length, free_length_of, proof_length}
use Rattle.proof_form.proofs.Pieces.{pieces}

pub nothing_taken : (ns : List ℕ) (a : ℕ) → AreTaken ns a a []
nothing_taken ns a = record { place = omega arith; rest = refl }

pub one_taken : (ns : List ℕ) (a : ℕ) (d : ℕ) → a < length ns → AreTaken ns a (a + 1) (get_or ns a d ∷ [])
one_taken ns a d lt = let next : suc a ≡ a + 1 = omega arith in record { place = omega arith; rest = drop-cons ns a d lt ∙ ap (λ i. get_or ns a d ∷ drop i ns) next }

pub taken_then : {ns : List ℕ} {a b c : ℕ} {xs ys : List ℕ} → AreTaken ns a b xs → AreTaken ns b c ys → AreTaken ns a c (xs ++ ys)
taken_then {ns} {a} {b} {c} {xs} {ys} p q = record {
  place = omega (arith, p.place, q.place, length-append xs ys);
  rest = p.rest ∙ ap (λ zs. xs ++ zs) q.rest ∙ sym (append_assoc xs ys (drop c ns));
}

-- as many as there are are all
pub all_taken : {ns : List ℕ} {b : ℕ} {xs : List ℕ} → AreTaken ns 0 b xs → length xs ≡ length ns → xs ≡ ns
all_taken {ns} {b} {xs} p same = sym (p.rest ∙ ap (λ zs. xs ++ zs) (gone (drop b ns) (omega (arith, same, ap length p.rest, length-append xs (drop b ns)))) ∙ append-nil xs)
  where
    gone : (zs : List ℕ) → length zs ≡ 0 → zs ≡ []
    gone [] e = refl
    gone (z ∷ zs) e = absurd (omega (arith, e))

-- ---- parts of one form have as many sets

pub list_size : {A B : Type 0} (xs : List A) (ys : List B) → list_form ys ≡ list_form xs → length ys ≡ length xs
list_size xs ys e = sym (length-map ys blank) ∙ ap length e ∙ length-map xs blank

pub lists_size : {A B : Type 0} (xs : List (Vec A)) (ys : List (Vec B)) → lists_form (lists_of ys) ≡ lists_form (lists_of xs)
    → length (flat_map (λ sets. sets) (lists_of ys)) ≡ length (flat_map (λ sets. sets) (lists_of xs))
lists_size xs ys e = sym (lists_length blank (lists_of ys)) ∙ ap (λ zs. length (flat_map (λ sets. sets) zs)) e ∙ lists_length blank (lists_of xs)

pub layers_size : {A B : Type 0} (xs : List (Layer A)) (ys : List (Layer B)) → layers_form ys ≡ layers_form xs → length (layer_sets ys) ≡ length (layer_sets xs)
layers_size xs ys e = sym (layers_length blank ys) ∙ ap (λ zs. length (layer_sets zs)) e ∙ layers_length blank xs

pub fair_size : {A B : Type 0} (p : FairPart A) (q : FairPart B) → fair_form q ≡ fair_form p → length (fair_sets q) ≡ length (fair_sets p)
fair_size p q e = sym (fair_length blank q) ∙ ap (λ r. length (fair_sets r)) e ∙ fair_length blank p

pub entries_size : {A B : Type 0} (xs : List (Entry A)) (ys : List (Entry B)) → entries_form ys ≡ entries_form xs → length (entries_sets ys) ≡ length (entries_sets xs)
entries_size xs ys e = sym (entries_length blank ys) ∙ ap (λ zs. length (entries_sets zs)) e ∙ entries_length blank xs

pub free_entries_size : {A B : Type 0} (xs : List (FreeEntry A)) (ys : List (FreeEntry B)) → free_entries_form ys ≡ free_entries_form xs
    → length (entries_sets (map (λ e. e.entry) ys)) ≡ length (entries_sets (map (λ e. e.entry) xs))
free_entries_size xs ys e =
    sym (free_entries_length blank ys) ∙ ap (λ (zs : List (FreeEntry (Unit {0}))). length (entries_sets (map (λ e. e.entry) zs))) e ∙ free_entries_length blank xs

pub free_size : {A B : Type 0} (p : Option (FreePart A)) (q : Option (FreePart B)) → free_form_of q ≡ free_form_of p → length (free_sets_of q) ≡ length (free_sets_of p)
free_size p q e = sym (free_length_of blank q) ∙ ap (λ r. length (free_sets_of r)) e ∙ free_length_of blank p

pub proof_size : {A B : Type 0} (p : Proof A) (q : Proof B) → proof_form_of q ≡ proof_form_of p → length (sets_of q) ≡ length (sets_of p)
proof_size p q e = sym (proof_length blank q) ∙ ap (λ r. length (sets_of r)) e ∙ proof_length blank p

-- ---- elements that are filled in turn

pub form_more : {X Y Z : Type 0} (f : X → Z) (g : Y → Z) (filled : List X) (one : X) (xs : List Y) (i : ℕ) (d : Y) → i < length xs
    → map f filled ≡ map g (take i xs) → f one ≡ g (get_or xs i d) → map f (filled ++ one ∷ []) ≡ map g (take (i + 1) xs)
form_more f g filled one xs i d lt before here = map-append f filled (one ∷ []) ∙ ap₂ (λ us v. us ++ v ∷ []) before here ∙ sym (map_more g xs i d lt)

pub lists_more : {A B : Type 0} (filled : List (Vec B)) (one : Vec B) (xs : List (Vec A)) (i : ℕ) (d : Vec A) → i < length xs
    → lists_form (lists_of filled) ≡ lists_form (lists_of (take i xs)) → list_form one.items ≡ list_form (get_or xs i d).items
    → lists_form (lists_of (filled ++ one ∷ [])) ≡ lists_form (lists_of (take (i + 1) xs))
lists_more filled one xs i d lt before here =
    ap lists_form (map-append (λ l. l.items) filled (one ∷ [])) ∙ map-append (map blank) (lists_of filled) (one.items ∷ [])
    ∙ ap₂ (λ us v. us ++ v ∷ []) before here
    ∙ sym (ap lists_form (map_more (λ l. l.items) xs i d lt) ∙ map-append (map blank) (lists_of (take i xs)) ((get_or xs i d).items ∷ []))

-- room for the next one
module _ {X A : Type 0} (F : List X → List A) (append : (xs ys : List X) → F (xs ++ ys) ≡ F xs ++ F ys) where
  pub room_left : (xs : List X) (i : ℕ) (d : X) (ys : List A) (ns taken : List ℕ) (a b : ℕ) → i < length xs → F (get_or xs i d ∷ []) ≡ ys
      → a + length (F xs) ≤ length ns → AreTaken ns a b taken → length taken ≡ length (F (take i xs)) → b + length ys ≤ length ns
  room_left xs i d ys ns taken a b lt one room p size =
      let whole = pieces F append xs i d lt in
      omega (arith, room, p.place, size, ap length whole, length-append (F (take i xs)) (F (get_or xs i d ∷ []) ++ F (drop (suc i) xs)), length-append (F (get_or xs i d ∷ [])) (F (drop (suc i) xs)), ap length one)

-- what the next one takes stands behind
module _ {X A : Type 0} (F : List X → List A) (append : (xs ys : List X) → F (xs ++ ys) ≡ F xs ++ F ys) where
  pub sets_more : (filled : List X) (one : X) (ys : List A) → F (one ∷ []) ≡ ys → F filled ++ ys ≡ F (filled ++ one ∷ [])
  sets_more filled one ys e = sym (append filled (one ∷ []) ∙ ap (λ zs. F filled ++ zs) e)

pub filled_more : {X : Type 0} (F : List X → List ℕ) (append : (xs ys : List X) → F (xs ++ ys) ≡ F xs ++ F ys) {ns : List ℕ} {a b c : ℕ} (filled : List X) (one : X) (ys : List ℕ)
    → AreTaken ns a b (F filled) → F (one ∷ []) ≡ ys → AreTaken ns b c ys → AreTaken ns a c (F (filled ++ one ∷ []))
filled_more F append {ns} {a} {b} {c} filled one ys p e q = subst (λ zs. AreTaken ns a c zs) (sets_more F append filled one ys e) (taken_then p q)

-- ---- room for two parts

module _ {A : Type 0} (ns : List ℕ) (a : ℕ) (zs xs ys : List A) (split : zs ≡ xs ++ ys) (room : a + length zs ≤ length ns) where
  pub first_room : a + length xs ≤ length ns
  first_room = omega (arith, room, ap length split, length-append xs ys)

  pub second_room : {b : ℕ} {taken : List ℕ} → AreTaken ns a b taken → length taken ≡ length xs → b + length ys ≤ length ns
  second_room p size = omega (arith, room, ap length split, length-append xs ys, p.place, size)
