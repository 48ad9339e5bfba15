-- Sets, layers and fair parts are known by the texts of their lines.
use Rattle.std.proofs.Common.{◌≡◌, ℕ, true, List, [], ◌∷◌, ◌++◌, length, map, flat_map, codes, decimal, refl, sym, ◌∙◌, ap, arith}
use Rattle.std.specs.Prelude.{All}
use Rattle.std.proofs.lemmas.List.{map-append}
use Rattle.std.proofs.lemmas.List.Elements.{All-nil, All-cons, All-head, All-tail, All-append}
use Rattle.proof_form.specs.Form.{Layer, FairPart, layer_sets, fair_sets}
use Rattle.proof_form.specs.Shape.{Avoids}
use Rattle.proof_text.specs.Lines.{Line, Words, words_of, line_text, set_line, layer_line, fair_lines, nonfair_lines}
use Rattle.proof_text.specs.SetParts.{FitsSet, FitsSets, FitsLayer, FitsLayers, FitsFair, list_lines}
use Rattle.text_lines.specs.Words.{AreWords, words_in}
use Rattle.text_lines.proofs.InTurn.{cancel}
use Rattle.text_lines.proofs.Lists.{same_first, same_rest}
use Rattle.text_lines.proofs.Spaced.{words_of_joined, words_unique}
use Rattle.proof_text.proofs.Joined.{Known}
use Rattle.proof_text.proofs.KnownLines.{IsSmall, same_number, Lines, words, AreSame, sets_known, layers_known, fair_known, nonfair_known}
use Rattle.proof_text.proofs.PlainLines.{one, more, mapped, number, number_and, front_plain, set_plain, layer_plain, fair_plain, nonfair_plain}
use Rattle.proof_text.proofs.PlainWords.{IsPlainLine, are_plain, each_word}

-- ---- numbers in a line of words

pub same_one : (text word : List ℕ) (n k : ℕ) → AreWords text (word ∷ decimal n ∷ []) → IsSmall n → AreWords text (word ∷ decimal k ∷ []) → IsSmall k → n ≡ k
same_one text word n k a p b q =
    let is : word ∷ decimal n ∷ [] ≡ word ∷ decimal k ∷ [] = words_unique text (word ∷ decimal n ∷ []) (word ∷ decimal k ∷ []) a b in
    let number_is : decimal n ≡ decimal k = cc in
    same_number n k p q number_is

pub same_two : (text word : List ℕ) (n m k j : ℕ) → AreWords text (word ∷ decimal n ∷ decimal m ∷ []) → IsSmall n → IsSmall m → AreWords text (word ∷ decimal k ∷ decimal j ∷ []) → IsSmall k → IsSmall j
    → (n ≡ k) × (m ≡ j)
same_two text word n m k j a p q b r s =
    let is : word ∷ decimal n ∷ decimal m ∷ [] ≡ word ∷ decimal k ∷ decimal j ∷ [] = words_unique text (word ∷ decimal n ∷ decimal m ∷ []) (word ∷ decimal k ∷ decimal j ∷ []) a b in
    let first : decimal n ≡ decimal k = cc in
    let second : decimal m ≡ decimal j = cc in
    (same_number n k p r first, same_number m j q s second)

-- ---- from texts to words

texts_to_words : (ls : List Line) → All IsPlainLine ls → map words_in (map line_text ls) ≡ words ls
texts_to_words [] p = refl
texts_to_words (l ∷ ls) p =
    let a = All-head IsPlainLine l ls p in
    let first : words_in (line_text l) ≡ words_of l = words_of_joined (words_of l) (each_word (words_of l) a.0) a.1 in
    let rest = texts_to_words ls (All-tail IsPlainLine l ls p) in
    (λ i. first i ∷ rest i)

module _ {X : Type 0} {Fits : X → Type 0} (lines : X → List Line) where
  -- what is known by the words of plain lines is known by their texts
  pub plain_known : ((x : X) → All IsPlainLine (lines x)) → ((a b : X) → Fits a → Fits b → (u v : Lines) → words (lines a) ++ u ≡ words (lines b) ++ v → AreSame a b u v) → Known Fits lines
  plain_known plain known a b p q behind after e =
      (known a b p q (map words_in behind) (map words_in after) (back a behind ∙ ap (map words_in) e ∙ sym (back b after))).0
    where
      back : (x : X) (r : List (List ℕ)) → words (lines x) ++ map words_in r ≡ map words_in (map line_text (lines x) ++ r)
      back x r = ap (λ t. t ++ map words_in r) (sym (texts_to_words (lines x) (plain x))) ∙ sym (map-append words_in (map line_text (lines x)) r)

-- ---- parts of one line

-- some plain words and a number
pub number_known : {Fits : ℕ → Type 0} (front : List (List ℕ)) → are_plain front ≡ true → ((n : ℕ) → Fits n → IsSmall n) → Known Fits (λ n. Words (front ++ decimal n ∷ []) ∷ [])
number_known {Fits} front plain small = plain_known (λ n. Words (front ++ decimal n ∷ []) ∷ []) (λ n. one (Words (front ++ decimal n ∷ [])) (front_plain front (decimal n ∷ []) plain (number n) (omega arith))) go
  where
    go : (a b : ℕ) → Fits a → Fits b → (u v : Lines) → (front ++ decimal a ∷ []) ∷ u ≡ (front ++ decimal b ∷ []) ∷ v → AreSame a b u v
    go a b p q u v e =
        let text : decimal a ∷ [] ≡ decimal b ∷ [] = cancel front (decimal a ∷ []) (decimal b ∷ []) (same_first (front ++ decimal a ∷ []) (front ++ decimal b ∷ []) u v e) in
        (same_number a b (small a p) (small b q) (same_first (decimal a) (decimal b) [] [] text), same_rest (front ++ decimal a ∷ []) (front ++ decimal b ∷ []) u v e)

pub set_known : (most : ℕ) → Known (FitsSet most) (λ s. set_line s ∷ [])
set_known most = number_known (codes "set" ∷ []) refl (λ n fits. fits.1)

pub layer_known : (count most : ℕ) → IsSmall count → Known (FitsLayer count most) (λ l. layer_line l ∷ [])
layer_known count most few = plain_known (λ l. layer_line l ∷ []) (λ l. one (layer_line l) (layer_plain l)) go
  where
    only : {A : Type 0} (P : A → Type 0) (a : A) → P a → All P (a ∷ [])
    only P a p = All-cons P a [] p (All-nil P)

    go : (a b : Layer ℕ) → FitsLayer count most a → FitsLayer count most b → (u v : Lines) → words (layer_line a ∷ []) ++ u ≡ words (layer_line b ∷ []) ++ v → AreSame a b u v
    go a b p q u v e =
        let h = layers_known count few (a ∷ []) (b ∷ []) refl (only (Avoids count) a p.0) (only (Avoids count) b q.0) (only IsSmall a.set p.1.1) (only IsSmall b.set q.1.1) u v e in
        (same_first a b [] [] h.0, h.1)

-- ---- lists of them

pub small_sets : (most : ℕ) (sets : List ℕ) → All (FitsSet most) sets → All IsSmall sets
small_sets most [] p = All-nil IsSmall
small_sets most (s ∷ sets) p = All-cons IsSmall s sets (All-head (FitsSet most) s sets p).1 (small_sets most sets (All-tail (FitsSet most) s sets p))

pub small_lists : (most : ℕ) (lists : List (List ℕ)) → All (FitsSets most) lists → All IsSmall (flat_map (λ sets. sets) lists)
small_lists most [] p = All-nil IsSmall
small_lists most (sets ∷ lists) p =
    All-append IsSmall sets (flat_map (λ sets. sets) lists) (small_sets most sets (All-head (FitsSets most) sets lists p).0) (small_lists most lists (All-tail (FitsSets most) sets lists p))

pub small_lengths : (most : ℕ) (lists : List (List ℕ)) → All (FitsSets most) lists → All IsSmall (flat_map (λ sets. length sets ∷ []) lists)
small_lengths most [] p = All-nil IsSmall
small_lengths most (sets ∷ lists) p =
    All-cons IsSmall (length sets) (flat_map (λ sets. length sets ∷ []) lists) (All-head (FitsSets most) sets lists p).1 (small_lengths most lists (All-tail (FitsSets most) sets lists p))

pub small_layers : (count most : ℕ) (layers : List (Layer ℕ)) → All (FitsLayer count most) layers → All IsSmall (layer_sets layers)
small_layers count most [] p = All-nil IsSmall
small_layers count most (l ∷ layers) p =
    All-cons IsSmall l.set (layer_sets layers) (All-head (FitsLayer count most) l layers p).1.1 (small_layers count most layers (All-tail (FitsLayer count most) l layers p))

pub avoided_layers : (count most : ℕ) (layers : List (Layer ℕ)) → All (FitsLayer count most) layers → All (Avoids count) layers
avoided_layers count most [] p = All-nil (Avoids {A = ℕ} count)
avoided_layers count most (l ∷ layers) p =
    All-cons (Avoids count) l layers (All-head (FitsLayer count most) l layers p).0 (avoided_layers count most layers (All-tail (FitsLayer count most) l layers p))

pub nonfair_is_known : (count most : ℕ) → IsSmall count → Known (FitsLayers count most) nonfair_lines
nonfair_is_known count most few =
    plain_known nonfair_lines nonfair_plain
    (λ a b p q u v e. nonfair_known count few a b p.1 q.1 (avoided_layers count most a p.0) (avoided_layers count most b q.0) (small_layers count most a p.0) (small_layers count most b q.0) u v e)

pub small_fair : (count most : ℕ) (p : FairPart ℕ) → FitsFair count most p → All IsSmall (fair_sets p)
small_fair count most p fits = All-cons IsSmall p.inside (flat_map (λ sets. sets) p.reach) fits.0.1 (small_lists most p.reach fits.2)

pub fair_is_known : (count most : ℕ) → Known (FitsFair count most) fair_lines
fair_is_known count most =
    plain_known fair_lines fair_plain
    (λ a b p q u v e. fair_known a b (p.1 ∙ sym q.1) (small_lengths most a.reach p.2) (small_lengths most b.reach q.2) (small_fair count most a p) (small_fair count most b q) u v e)

list_plain : (k : ℕ) (sets : List ℕ) → All IsPlainLine (list_lines k sets)
list_plain k sets =
    more (Words (codes "reach" ∷ decimal k ∷ decimal (length sets) ∷ [])) (map set_line sets) (number_and k (decimal (length sets) ∷ []) (number (length sets)), λ e. omega (arith, ap length e))
    (mapped set_line set_plain sets)

pub list_is_known : (k most : ℕ) → Known (FitsSets most) (list_lines k)
list_is_known k most = plain_known (list_lines k) (list_plain k) go
  where
    go : (a b : List ℕ) → FitsSets most a → FitsSets most b → (u v : Lines) → words (list_lines k a) ++ u ≡ words (list_lines k b) ++ v → AreSame a b u v
    go a b p q u v e =
        let text : decimal (length a) ≡ decimal (length b) = cc in
        let count = same_number (length a) (length b) p.1 q.1 text in
        let rest : words (map set_line a) ++ u ≡ words (map set_line b) ++ v = cc in
        sets_known a b count (small_sets most a p.0) (small_sets most b q.0) u v rest
