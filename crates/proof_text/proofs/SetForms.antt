-- Lists of sets and of layers, and fair parts, as parts in a row and as heads with bodies.
use Rattle.std.proofs.Common.{◌≡◌, ℕ, zero, suc, ◌+◌, ◌<◌, ◌≤◌, List, [], ◌∷◌, ◌++◌, length, map, codes, decimal, refl, sym, ◌∙◌, ap, subst, arith, length-append}
use Rattle.std.specs.Global.{Vec}
use Rattle.std.specs.Prelude.{All, Ok, Err}
use Rattle.std.proofs.lemmas.List.{map-append}
use Rattle.std.proofs.lemmas.List.Elements.{All-nil, All-cons, All-head, All-tail}
use Rattle.proof_form.specs.Form.{Layer}
use Rattle.proof_text.specs.Lines.{Line, Words, counted, set_line, layer_line, reach_lines, fair_lines, nonfair_lines}
use Rattle.proof_text.specs.SetParts.{FitsSet, FitsSets, FitsLayer, FitsLayers, FitsFair, AreSets, AreLayers, AreLists, Finds, list_lines}
use Rattle.proof_text.specs.Spells.{greatest_number}
use Rattle.text_lines.specs.Cursor.{Place}
use Rattle.text_lines.specs.Formats.{FitMany, lines_of_many}
use Rattle.text_lines.specs.declared.faults.Fault.{Fault}
use Rattle.proof_text.proofs.Joined.{Known, IsJoin, IsRow, next_found, row_fault}
use Rattle.proof_text.proofs.KnownLines.{IsSmall}
use Rattle.proof_text.proofs.KnownParts.{number_known, set_known, layer_known, list_is_known}
use Rattle.proof_text.proofs.PlainLines.{number}

-- ---- so many of a kind

abbrev AreMany : {A : Type 0} → (A → Type 0) → ℕ → List A → Type 0
AreMany P n xs = All P xs × (length xs ≡ n)

module _ {A : Type 0} (P : A → Type 0) where
  pub so_many : (a : A) → P a → (n : ℕ) → (xs : List A) × AreMany P n xs
  so_many a p zero = ([], (All-nil P, refl))
  so_many a p (suc n) = let rest = so_many a p n in (a ∷ rest.0, (All-cons P a rest.0 p rest.1.0, ap suc rest.1.1))

  many_all : (n : ℕ) (earlier xs : List A) → FitMany (λ _. P) n earlier xs → AreMany P n xs
  many_all zero earlier [] p = (All-nil P, refl)
  many_all zero earlier (x ∷ xs) p = absurd p
  many_all (suc n) earlier [] p = absurd p
  many_all (suc n) earlier (x ∷ xs) p = let rest = many_all n (earlier ++ x ∷ []) xs p.1 in (All-cons P x xs p.0 rest.0, ap suc rest.1)

  all_many : (n : ℕ) (earlier xs : List A) → AreMany P n xs → FitMany (λ _. P) n earlier xs
  all_many zero earlier [] p = tt
  all_many zero earlier (x ∷ xs) p = absurd (omega (arith, p.1))
  all_many (suc n) earlier [] p = absurd (omega (arith, p.1))
  all_many (suc n) earlier (x ∷ xs) p = (All-head P x xs p.0, all_many n (earlier ++ x ∷ []) xs (All-tail P x xs p.0, omega (arith, p.1)))

mapped_lines : {A : Type 0} (line : A → Line) (earlier xs : List A) → map line xs ≡ lines_of_many (λ _ x. line x ∷ []) earlier xs
mapped_lines line earlier [] = refl
mapped_lines line earlier (x ∷ xs) = ap (λ ls. line x ∷ ls) (mapped_lines line (earlier ++ x ∷ []) xs)

-- parts of one line in a row
line_row : {A : Type 0} (P : A → Type 0) (line : A → Line) → (a : A) → P a → Known P (λ x. line x ∷ []) → IsRow (λ _. P) (λ _ x. line x ∷ []) (AreMany P) (map line)
line_row P line a p known = record {
  fits = λ n xs. many_all P n [] xs;
  fits_back = λ n xs. all_many P n [] xs;
  same_lines = mapped_lines line [];
  next = λ earlier. (a, p);
  known = λ earlier. known;
}

-- and behind a line with their number
counted_join : {A : Type 0} (head : ℕ → Line) (P : A → Type 0) (line : A → Line) → (a : A) → P a → Known IsSmall (λ n. head n ∷ [])
    → IsJoin IsSmall (λ n. head n ∷ []) (AreMany P) (λ _. map line) (λ (xs : List A). All P xs × (length xs ≤ greatest_number)) (λ xs. head (length xs) ∷ map line xs) (λ p. p.1) (λ xs. (length xs, xs))
counted_join head P line a p known = record {
  form = record {
    fits = λ x fits. (fits.1.0, omega (arith, fits.0, fits.1.1));
    lines = λ x fits. ap (λ n. head n ∷ map line x.1) fits.1.1;
    fits_back = λ z fits. (fits.1, (fits.0, refl));
    lines_back = λ z fits. refl;
  };
  last = λ n fits. so_many P a p n;
  known = known;
}

-- ---- sets and layers

no_set : (most : ℕ) → 1 ≤ most → FitsSet most 0
no_set most some = (omega (arith, some), omega arith)

abbrev first_layer : Layer ℕ
first_layer = record { avoid = 1; set = 0 }

fits_first : (count most : ℕ) → 1 ≤ count → 1 ≤ most → FitsLayer count most first_layer
fits_first count most one some = ((omega arith, omega (arith, one)), no_set most some)

pub some_set : (most : ℕ) → 1 ≤ most → (s : ℕ) × FitsSet most s
some_set most some = (0, no_set most some)

pub some_layer : (count most : ℕ) → 1 ≤ count → 1 ≤ most → (l : Layer ℕ) × FitsLayer count most l
some_layer count most one some = (first_layer, fits_first count most one some)

pub set_row : (most : ℕ) → 1 ≤ most → IsRow (λ _. FitsSet most) (λ _ s. set_line s ∷ []) (AreSets most) (map set_line)
set_row most some = line_row (FitsSet most) set_line 0 (no_set most some) (set_known most)

pub layer_row : (count most : ℕ) → IsSmall count → 1 ≤ count → 1 ≤ most → IsRow (λ _. FitsLayer count most) (λ _ l. layer_line l ∷ []) (AreLayers count most) (map layer_line)
layer_row count most few one some = line_row (FitsLayer count most) layer_line first_layer (fits_first count most one some) (layer_known count most few)

pub nonfair_join : (count most : ℕ) → 1 ≤ count → 1 ≤ most
    → IsJoin IsSmall (λ n. counted (codes "nonfair") n ∷ []) (AreLayers count most) (λ _. map layer_line) (FitsLayers count most) nonfair_lines (λ p. p.1) (λ xs. (length xs, xs))
nonfair_join count most one some =
    counted_join (counted (codes "nonfair")) (FitsLayer count most) layer_line first_layer (fits_first count most one some) (number_known (codes "nonfair" ∷ []) refl (λ n fits. fits))

pub until_join : (most : ℕ) → 1 ≤ most
    → IsJoin IsSmall (λ n. counted (codes "until") n ∷ []) (AreSets most) (λ _. map set_line) (FitsSets most) (λ sets. counted (codes "until") (length sets) ∷ map set_line sets) (λ p. p.1) (λ xs. (length xs, xs))
until_join most some = counted_join (counted (codes "until")) (FitsSet most) set_line 0 (no_set most some) (number_known (codes "until" ∷ []) refl (λ n fits. fits))

-- ---- fair parts

pub list_join : (k most : ℕ) → 1 ≤ most
    → IsJoin IsSmall (λ n. Words (codes "reach" ∷ decimal k ∷ decimal n ∷ []) ∷ []) (AreSets most) (λ _. map set_line) (FitsSets most) (list_lines k) (λ p. p.1) (λ xs. (length xs, xs))
list_join k most some =
    counted_join (λ n. Words (codes "reach" ∷ decimal k ∷ decimal n ∷ [])) (FitsSet most) set_line 0 (no_set most some) (number_known (codes "reach" ∷ decimal k ∷ []) (number k) (λ n fits. fits))

reached_lines : (k : ℕ) (earlier lists : List (List ℕ)) → k ≡ length earlier + 1 → reach_lines k lists ≡ lines_of_many (λ es xs. list_lines (length es + 1) xs) earlier lists
reached_lines k earlier [] e = refl
reached_lines k earlier (sets ∷ lists) e =
    ap (λ j. list_lines j sets ++ reach_lines (k + 1) lists) e
    ∙ ap (λ ls. list_lines (length earlier + 1) sets ++ ls) (reached_lines (k + 1) (earlier ++ sets ∷ []) lists (omega (arith, e, length-append earlier (sets ∷ []))))

pub list_row : (most : ℕ) → 1 ≤ most → IsRow (λ _. FitsSets most) (λ earlier sets. list_lines (length earlier + 1) sets) (AreLists most) (reach_lines 1)
list_row most some = record {
  fits = λ n xs. many_all (FitsSets most) n [] xs;
  fits_back = λ n xs. all_many (FitsSets most) n [] xs;
  same_lines = λ lists. reached_lines 1 [] lists refl;
  next = λ earlier. ([], (All-nil (FitsSet most), omega arith));
  known = λ earlier. list_is_known (length earlier + 1) most;
}

module _ (most : ℕ) (some : 1 ≤ most) {old mid new : Place} {lists : List (List ℕ)} {k : ℕ} where
  -- sets for one more constraint are read
  pub next_list : {sets : List ℕ} → Finds (AreLists most k) (reach_lines 1) old (Ok lists) mid → Finds (FitsSets most) (list_lines (k + 1)) mid (Ok sets) new
      → Finds (AreLists most (k + 1)) (reach_lines 1) old (Ok (lists ++ sets ∷ [])) new
  next_list {sets} a b =
      let count : k ≡ length lists = sym (a 0).finds.read.fits.1 in
      next_found (list_row most some) k a (subst (λ i. Finds (FitsSets most) (list_lines (i + 1)) mid (Ok sets) new) count b)

  -- or a fault is found in them
  pub list_fault : {fault : Fault} {n : ℕ} → k < n → Finds (AreLists most k) (reach_lines 1) old (Ok lists) mid → Finds (FitsSets most) (list_lines (k + 1)) mid (Err fault) new
      → Finds (AreLists most n) (reach_lines 1) old (Err fault) new
  list_fault {fault} less a b =
      let count : k ≡ length lists = sym (a 0).finds.read.fits.1 in
      row_fault (list_row most some) less a (subst (λ i. Finds (FitsSets most) (list_lines (i + 1)) mid (Err fault) new) count b)

-- one more list
pub more_lists : (lists new : List (Vec ℕ)) (sets : Vec ℕ) → new ≡ lists ++ sets ∷ [] → map (λ (xs : Vec ℕ). xs.items) new ≡ map (λ (xs : Vec ℕ). xs.items) lists ++ sets.items ∷ []
more_lists lists new sets e = ap (map (λ (xs : Vec ℕ). xs.items)) e ∙ map-append (λ (xs : Vec ℕ). xs.items) lists (sets ∷ [])

pub fair_join : (count most : ℕ)
    → IsJoin (FitsSet most) (λ s. Words (codes "fair" ∷ decimal s ∷ []) ∷ []) (λ _. AreLists most count) (λ _. reach_lines 1) (FitsFair count most) fair_lines (λ p. record { inside = p.0; reach = p.1 }) (λ p. (p.inside, p.reach))
fair_join count most = record {
  form = record {
    fits = λ x fits. (fits.0, fits.1.1, fits.1.0);
    lines = λ x fits. refl;
    fits_back = λ z fits. (fits.0, (fits.2, fits.1));
    lines_back = λ z fits. refl;
  };
  last = λ s fits. so_many (FitsSets most) [] (All-nil (FitsSet most), omega arith) count;
  known = number_known (codes "fair" ∷ []) refl (λ n fits. fits.1);
}
