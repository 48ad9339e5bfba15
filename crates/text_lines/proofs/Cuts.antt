-- A text has one list of whole lines, and one rest.
use Rattle.std.proofs.Common.{◌≡◌, inl, inr, ℕ, zero, suc, ◌==◌, false, cond, List, [], ◌∷◌, ◌++◌, refl, sym, ◌∙◌, ap, subst, arith, append_assoc, rules, tests}
use Rattle.std.specs.Prelude.{All, Contains}
use Rattle.std.proofs.lemmas.Bool.{cases_eq}
use Rattle.std.proofs.lemmas.List.Elements.{All-nil, All-cons, All-head, All-tail}
use Rattle.text_lines.specs.WholeLines.{join_lines, IsOneLine, IsCut, onto_line, lines_in, onto_rest, rest_in}
use Rattle.text_lines.proofs.Lists.{same_first, same_rest}

-- ---- lines without a line feed

not_first : (c : ℕ) (text : List ℕ) → IsOneLine (c ∷ text) → c ≡ 10 → ⊥
not_first c text one e = one (0, omega arith, e)

line_rest : (c : ℕ) (text : List ℕ) → IsOneLine (c ∷ text) → IsOneLine text
line_rest c text one h = one (suc h.0, omega (arith, h.1), h.2)

line_more : (c : ℕ) (text : List ℕ) → (c ≡ 10 → ⊥) → IsOneLine text → IsOneLine (c ∷ text)
line_more c text other one (zero, less, e) = other e
line_more c text other one (suc k, less, e) = one (k, omega arith, e)

has_feed : (text after : List ℕ) → Contains (text ++ 10 ∷ after) 10
has_feed [] after = (0, omega arith, refl)
has_feed (c ∷ text) after = let h = has_feed text after in (suc h.0, omega (arith, h.1), h.2)

same_line : (a b x y : List ℕ) → IsOneLine a → IsOneLine b → a ++ 10 ∷ x ≡ b ++ 10 ∷ y → (a ≡ b) × (x ≡ y)
same_line [] [] x y one other e = (refl, same_rest 10 10 x y e)
same_line [] (c ∷ b) x y one other e = absurd (not_first c b other (sym (same_first 10 c x (b ++ 10 ∷ y) e)))
same_line (c ∷ a) [] x y one other e = absurd (not_first c a one (same_first c 10 (a ++ 10 ∷ x) y e))
same_line (c ∷ a) (d ∷ b) x y one other e =
    let h = same_line a b x y (line_rest c a one) (line_rest d b other) (same_rest c d (a ++ 10 ∷ x) (b ++ 10 ∷ y) e) in
    let f : c ≡ d = same_first c d (a ++ 10 ∷ x) (b ++ 10 ∷ y) e in
    ((λ i. f i ∷ h.0 i), h.1)

-- ---- all lines

-- the first line is split off
one_off : (t : List ℕ) (ts : List (List ℕ)) (r : List ℕ) → join_lines (t ∷ ts) ++ r ≡ t ++ 10 ∷ (join_lines ts ++ r)
one_off t ts r = append_assoc (t ++ 10 ∷ []) (join_lines ts) r ∙ append_assoc t (10 ∷ []) (join_lines ts ++ r)

pub cut_unique : (ts us : List (List ℕ)) (r q : List ℕ) → All IsOneLine ts → All IsOneLine us → IsOneLine r → IsOneLine q → join_lines ts ++ r ≡ join_lines us ++ q → (ts ≡ us) × (r ≡ q)
cut_unique [] [] r q each other one last e = (refl, e)
cut_unique [] (u ∷ us) r q each other one last e = absurd (one (subst (λ xs. Contains xs 10) (sym (e ∙ one_off u us q)) (has_feed u (join_lines us ++ q))))
cut_unique (t ∷ ts) [] r q each other one last e = absurd (last (subst (λ xs. Contains xs 10) (sym (one_off t ts r) ∙ e) (has_feed t (join_lines ts ++ r))))
cut_unique (t ∷ ts) (u ∷ us) r q each other one last e =
    let h = same_line t u (join_lines ts ++ r) (join_lines us ++ q) (All-head IsOneLine t ts each) (All-head IsOneLine u us other) (sym (one_off t ts r) ∙ e ∙ one_off u us q) in
    let k = cut_unique ts us r q (All-tail IsOneLine t ts each) (All-tail IsOneLine u us other) one last h.1 in
    ((λ i. h.0 i ∷ k.0 i), k.1)

-- ---- the lines that are computed

pub no_feed : IsOneLine []
no_feed h = omega (arith, h.1)

-- a line feed begins an empty line
pub feed_first : (c : ℕ) (bytes : List ℕ) → c ≡ 10 → (lines_in (c ∷ bytes) ≡ [] ∷ lines_in bytes) × (rest_in (c ∷ bytes) ≡ rest_in bytes)
feed_first c bytes e = (ap (λ x. lines_in (x ∷ bytes)) e, ap (λ x. rest_in (x ∷ bytes)) e)

other_test : (c d : ℕ) → (c ≡ d → ⊥) → (c == d) ≡ false
other_test c d other = search (rules, tests)

-- another byte is put in front of the first line, or of the rest
pub byte_first : (c : ℕ) (bytes : List ℕ) → (c ≡ 10 → ⊥) → (lines_in (c ∷ bytes) ≡ onto_line c (lines_in bytes)) × (rest_in (c ∷ bytes) ≡ onto_rest c (lines_in bytes) (rest_in bytes))
byte_first c bytes other =
    let e = other_test c 10 other in
    (ap (λ b. cond b ([] ∷ lines_in bytes) (onto_line c (lines_in bytes))) e, ap (λ b. cond b (rest_in bytes) (onto_rest c (lines_in bytes) (rest_in bytes))) e)

pub is_cut : (bytes : List ℕ) → IsCut bytes (lines_in bytes) (rest_in bytes)
is_cut [] = record { cut = refl; each = All-nil IsOneLine; last = no_feed }
is_cut (c ∷ bytes) = elim (cases_eq c 10) [ inl feed ↦ at_feed feed (is_cut bytes) | inr other ↦ at_byte other (is_cut bytes) ]
  where
    at_feed : c ≡ 10 → IsCut bytes (lines_in bytes) (rest_in bytes) → IsCut (c ∷ bytes) (lines_in (c ∷ bytes)) (rest_in (c ∷ bytes))
    at_feed e k =
        let found = feed_first c bytes e in
        subst (λ ls. IsCut (c ∷ bytes) ls (rest_in (c ∷ bytes))) (sym found.0)
        (subst (λ r. IsCut (c ∷ bytes) ([] ∷ lines_in bytes) r) (sym found.1)
        (record {
          cut = (λ i. e i ∷ k.cut i) ∙ sym (one_off [] (lines_in bytes) (rest_in bytes));
          each = All-cons IsOneLine [] (lines_in bytes) no_feed k.each;
          last = k.last;
        }))

    at_byte : (c ≡ 10 → ⊥) → IsCut bytes (lines_in bytes) (rest_in bytes) → IsCut (c ∷ bytes) (lines_in (c ∷ bytes)) (rest_in (c ∷ bytes))
    at_byte other k =
        let found = byte_first c bytes other in
        subst (λ ls. IsCut (c ∷ bytes) ls (rest_in (c ∷ bytes))) (sym found.0)
        (subst (λ r. IsCut (c ∷ bytes) (onto_line c (lines_in bytes)) r) (sym found.1) (go (lines_in bytes) (rest_in bytes) k))
      where
        go : (ts : List (List ℕ)) (r : List ℕ) → IsCut bytes ts r → IsCut (c ∷ bytes) (onto_line c ts) (onto_rest c ts r)
        go [] r k = record { cut = ap (λ xs. c ∷ xs) k.cut; each = k.each; last = line_more c r other k.last }
        go (t ∷ ts) r k = record {
          cut = ap (λ xs. c ∷ xs) k.cut;
          each = All-cons IsOneLine (c ∷ t) ts (line_more c t other (All-head IsOneLine t ts k.each)) (All-tail IsOneLine t ts k.each);
          last = k.last;
        }

-- they are the lines of any cut
pub cut_is : (bytes : List ℕ) (lines : List (List ℕ)) (rest : List ℕ) → IsCut bytes lines rest → (lines_in bytes ≡ lines) × (rest_in bytes ≡ rest)
cut_is bytes lines rest k =
    let own = is_cut bytes in
    cut_unique (lines_in bytes) lines (rest_in bytes) rest own.each k.each own.last k.last (sym own.cut ∙ k.cut)

-- a line and its line feed in front
pub line_first : (text behind : List ℕ) → IsOneLine text → (lines_in (text ++ 10 ∷ behind) ≡ text ∷ lines_in behind) × (rest_in (text ++ 10 ∷ behind) ≡ rest_in behind)
line_first text behind one =
    let own = is_cut behind in
    cut_is (text ++ 10 ∷ behind) (text ∷ lines_in behind) (rest_in behind)
    (record {
      cut = ap (λ xs. text ++ 10 ∷ xs) own.cut ∙ sym (one_off text (lines_in behind) (rest_in behind));
      each = All-cons IsOneLine text (lines_in behind) one own.each;
      last = own.last;
    })

-- no line feed, no line
pub no_line : (bytes : List ℕ) → IsOneLine bytes → (lines_in bytes ≡ []) × (rest_in bytes ≡ bytes)
no_line bytes one = cut_is bytes [] bytes (record { cut = refl; each = All-nil IsOneLine; last = one })
