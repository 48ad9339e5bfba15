-- Single tokens, and what two of them enclose, are read exactly.
use Rattle.std.proofs.Common.{◌≡◌, ℕ, ℤ, pos, neg_ℤ, ◌≤◌, leb, ◌<◌, Bool, true, false, ◌⊎◌, inl, inr, ⊎_elim, List, [], ◌∷◌, ◌++◌, max, Some, refl, sym, ◌∙◌, ap, subst, arith, append_assoc}
use Rattle.std.proofs.lemmas.Bool.Decides.{leb_tells}
use Rattle.reader_laws.specs.Reading.{Reading, accept, choose, enclosed, first_is, headed, both}
use Rattle.reader_laws.proofs.Readers.{Reads, EachFits, choose_reads}
use Rattle.reader_laws.proofs.More.{IsKnown, Headed, Enclosed, Both, BothFit, accept_reads, headed_reads, enclosed_reads, both_reads, map_reads, renamed_reads}
use Rattle.smv_lexer.specs.declared.keyword.Keyword.{Keyword}
use Rattle.smv_lexer.specs.declared.sign.Sign.{Sign}
use Rattle.smv_lexer.specs.Text.{Kind, Placed}
use Rattle.smv_lexer.specs.Text.Kind.{key, mark}
use Rattle.smv_parser.specs.Words.{Is, Lone, BeginsOn}
use Rattle.smv_parser.specs.Program.{Lined, Constant, greatest}
use Rattle.smv_parser.specs.Programs.{DerivesConstant, DerivesEnd, DerivesEnds, DerivesName, DerivesRange, OnLine}
use Rattle.smv_parser.specs.Tests.{is_sign, sign_is, sign_number, word_in, number_in, name_of, number_of}
use Rattle.smv_parser.specs.Openings.{formal_of, constant_of, key_line}
use Rattle.smv_parser.specs.ProgramReading.{lined, negated_number, plain_number, read_end, read_ends, read_range}
use Rattle.smv_parser.proofs.TokenTests.{word_in-kind, number_in-kind}
use Rattle.smv_parser.proofs.Operators.{some_name}
use Rattle.smv_parser.proofs.Operands.{sign_token, key_token}
use Rattle.smv_parser.proofs.Shapes.{is_it, sign_of}
use Rattle.smv_parser.proofs.Starts.{formal_is, formal_known, constant_lone, lone_constant, constant_is, constant_known, key_line_is, key_line_known, line_of_first}

pub decide_depth : (n b : ℕ) → (n ≤ b) ⊎ (n ≤ b → ⊥)
decide_depth n b = by_tests (leb_tells n b)
  where
    by_tests : ((leb n b ≡ true) × (n ≤ b)) ⊎ ((leb n b ≡ false) × (b < n)) → (n ≤ b) ⊎ (n ≤ b → ⊥)
    by_tests (inl p) = inl p.1
    by_tests (inr p) = inr (λ h. let q = p.1 in omega arith)

pub all_fit : {A : Type 0} (F : A → Type 0) → ((x : A) → F x) → (xs : List A) → EachFits F xs
all_fit F h [] = tt
all_fit F h (x ∷ xs) = (h x, all_fit F h xs)

pub greatest_within : {A : Type 0} (f : A → ℕ) (b : ℕ) (xs : List A) → EachFits (λ x. f x ≤ b) xs → greatest f xs ≤ b
greatest_within f b [] h = omega arith
greatest_within f b (x ∷ xs) h = omega (arith, h.0, greatest_within f b xs h.1)

pub each_within : {A : Type 0} (f : A → ℕ) (b : ℕ) (xs : List A) → greatest f xs ≤ b → EachFits (λ x. f x ≤ b) xs
each_within f b [] h = tt
each_within f b (x ∷ xs) h = (omega arith, each_within f b xs (omega arith))

pub same_first_line : (l m : ℕ) (ts : List Placed) → BeginsOn l ts → BeginsOn m ts → l ≡ m
same_first_line l m [] h i = absurd h
same_first_line l m (t ∷ ts) h i = sym h ∙ i

abbrev pub AnyFits : {A : Type 0} → A → Type 0
AnyFits x = Unit {0}

abbrev pub Free : {A : Type 0} → A → List Placed → Type 0
Free x r = Unit {0}

pub formal_reads : Reads (OnLine DerivesName) AnyFits Free (accept formal_of)
formal_reads = renamed_reads (IsKnown formal_of) AnyFits Free (accept formal_of) (accept_reads formal_of some_name (lined 0 []) refl) (OnLine DerivesName) Free
    (λ a x d. let k = formal_is d.0 x d.2 in ((d.0, d.1, k.0), subst (BeginsOn x.line) (sym d.1) k.1))
    (λ a x d. (d.0.0, d.0.1, formal_known d.0.0 x d.0.2 (line_of_first x.line a d.0.0 [] d.0.1 d.1)))
    (λ a x r d e. e) (λ a x r d e. e)

pub name_reads : Reads DerivesName AnyFits Free (accept name_of)
name_reads = renamed_reads (IsKnown name_of) AnyFits Free (accept name_of) (accept_reads name_of some_name [] refl) DerivesName Free
    (λ a n d. (d.0, d.1, word_in-kind d.0.kind n d.2)) (λ a n d. (d.0, d.1, ap word_in d.2))
    (λ a x r d e. e) (λ a x r d e. e)

abbrev pub NumberIs : List Placed → ℕ → Type 0
NumberIs ts n = Lone (Kind.number (pos n)) ts

abbrev pub number_token : ℕ → Placed
number_token n = record { kind = Kind.number (pos n); at = 0; end = 0; line = 0 }

pub number_reads : Reads NumberIs AnyFits Free (accept number_of)
number_reads = renamed_reads (IsKnown number_of) AnyFits Free (accept number_of) (accept_reads number_of (number_token 0) 0 refl) NumberIs Free
    (λ a n d. (d.0, d.1, number_in-kind d.0.kind n d.2)) (λ a n d. (d.0, d.1, ap number_in d.2))
    (λ a x r d e. e) (λ a x r d e. e)

pub constant_reads : Reads (OnLine DerivesConstant) AnyFits Free (accept constant_of)
constant_reads = renamed_reads (IsKnown constant_of) AnyFits Free (accept constant_of) (accept_reads constant_of some_name (lined 0 (Constant.name [])) refl) (OnLine DerivesConstant) Free
    (λ a x d. let k = constant_is d.0 x d.2 in (lone_constant a x.form (d.0, d.1, k.0), subst (BeginsOn x.line) (sym d.1) k.1))
    (λ a x d. let l = constant_lone a x.form d.0 in (l.0, l.1, constant_known l.0 x l.2 (line_of_first x.line a l.0 [] l.1 d.1)))
    (λ a x r d e. e) (λ a x r d e. e)

-- a reserved word and its line
abbrev pub KeyIs : Keyword → List Placed → ℕ → Type 0
KeyIs k ts l = (t : Placed) × (ts ≡ t ∷ []) × Is (key k) t × (t.line ≡ l)

pub key_reads : (k : Keyword) → Reads (KeyIs k) AnyFits Free (accept (key_line k))
key_reads k = renamed_reads (IsKnown (key_line k)) AnyFits Free (accept (key_line k)) (accept_reads (key_line k) (key_token k) 0 (key_line_known k (key_token k) refl)) (KeyIs k) Free
    (λ a l d. let w = key_line_is k d.0 l d.2 in (d.0, d.1, w.0, w.1)) (λ a l d. (d.0, d.1, key_line_known k d.0 d.2 ∙ ap Some d.3))
    (λ a x r d e. e) (λ a x r d e. e)

abbrev pub RangeIs : List Placed → ℕ × ℕ → Type 0
RangeIs ts x = DerivesRange ts x.0 x.1

range_to : (ts : List Placed) (x : ℕ × ℕ) → Both (Enclosed (is_sign Sign.Range) NumberIs) NumberIs ts x → RangeIs ts x
range_to ts x (a, b, q, (dots, c, q', i, (l, q'', j)), (h, r, k)) =
    (l, dots, h, q ∙ ap (λ (z : List Placed). z ++ b) (q' ∙ ap (λ (z : List Placed). z ++ dots ∷ []) q'') ∙ ap (λ (z : List Placed). l ∷ dots ∷ z) r, j, sign_of Sign.Range dots i, k)

range_from : (ts : List Placed) (x : ℕ × ℕ) → RangeIs ts x → Both (Enclosed (is_sign Sign.Range) NumberIs) NumberIs ts x
range_from ts x (l, dots, h, q, j, i, k) = (l ∷ dots ∷ [], h ∷ [], q, (dots, l ∷ [], refl, is_it Sign.Range dots i, (l, refl, j)), (h, refl, k))

pub range_reads : Reads RangeIs (BothFit AnyFits AnyFits) Free read_range
unfolding read_range sign_number
range_reads = renamed_reads (Both (Enclosed (is_sign Sign.Range) NumberIs) NumberIs) (BothFit AnyFits AnyFits) Free
    (both (enclosed (is_sign Sign.Range) (accept number_of)) (accept number_of))
    (both_reads (Enclosed (is_sign Sign.Range) NumberIs) AnyFits Free (enclosed (is_sign Sign.Range) (accept number_of))
    (enclosed_reads (is_sign Sign.Range) (sign_token Sign.Range) refl NumberIs AnyFits Free (accept number_of) number_reads (λ x t r h. tt) (λ x. inl tt))
    NumberIs AnyFits Free (accept number_of) number_reads
    Free (λ x b y r d e1 e2. tt) (λ x b y r d e. tt) (λ x b y r d e. tt) (λ x. inl tt))
    RangeIs Free range_to range_from (λ a x r d e. e) (λ a x r d e. e)

-- the ends of a range of values

abbrev NegatedIs : List Placed → ℤ → Type 0
NegatedIs ts e = (n : ℕ) × (e ≡ neg_ℤ (pos n)) × Headed (is_sign Sign.Minus) NumberIs ts n

abbrev PlainIs : List Placed → ℤ → Type 0
PlainIs ts e = (n : ℕ) × (e ≡ pos n) × NumberIs ts n

negated_reads : Reads NegatedIs AnyFits Free negated_number
unfolding negated_number sign_number
negated_reads = map_reads (Headed (is_sign Sign.Minus) NumberIs) AnyFits Free (headed (is_sign Sign.Minus) (accept number_of))
    (headed_reads (is_sign Sign.Minus) (sign_token Sign.Minus) refl NumberIs AnyFits Free (accept number_of) number_reads)
    (λ n. neg_ℤ (pos n)) NegatedIs AnyFits Free
    (λ a x d. (x, refl, d)) (λ a y d. d) (λ x h. tt) (λ x h. tt) (λ a x r d e. tt) (λ a x r d e. tt)

plain_number_reads : Reads PlainIs AnyFits Free plain_number
unfolding plain_number
plain_number_reads = map_reads NumberIs AnyFits Free (accept number_of) number_reads
    (λ n. pos n) PlainIs AnyFits Free
    (λ a x d. (x, refl, d)) (λ a y d. d) (λ x h. tt) (λ x h. tt) (λ a x r d e. tt) (λ a x r d e. tt)

negated_first : (a : List Placed) (e : ℤ) (r : List Placed) → NegatedIs a e → first_is (is_sign Sign.Minus) (a ++ r) ≡ true
negated_first a e r (n, p, (minus, u, q, h, d)) = ap (λ (l : List Placed). first_is (is_sign Sign.Minus) (l ++ r)) q ∙ h

plain_first : (a : List Placed) (e : ℤ) (r : List Placed) → PlainIs a e → Free e r → first_is (is_sign Sign.Minus) (a ++ r) ≡ false
plain_first a e r (n, p, (t, q, k)) f = ap (λ (l : List Placed). first_is (is_sign Sign.Minus) (l ++ r)) q ∙ ap (sign_is Sign.Minus) k

end_to : (ts : List Placed) (e : ℤ) → NegatedIs ts e ⊎ PlainIs ts e → DerivesEnd ts e
end_to ts e (inl (n, p, (minus, u, q, h, (t, q', k)))) = inr (n, p, minus, t, q ∙ ap (λ (l : List Placed). minus ∷ l) q', sign_of Sign.Minus minus h, k)
end_to ts e (inr d) = inl d

end_from : (ts : List Placed) (e : ℤ) → DerivesEnd ts e → NegatedIs ts e ⊎ PlainIs ts e
end_from ts e (inl d) = inr d
end_from ts e (inr (n, p, minus, t, q, i, k)) = inl (n, p, (minus, t ∷ [], q, is_it Sign.Minus minus i, (t, refl, k)))

pub end_reads : Reads DerivesEnd AnyFits Free read_end
unfolding read_end
end_reads = renamed_reads (λ ts e. NegatedIs ts e ⊎ PlainIs ts e) AnyFits Free (choose (is_sign Sign.Minus) negated_number plain_number)
    (choose_reads (is_sign Sign.Minus) AnyFits Free NegatedIs negated_number negated_reads PlainIs plain_number plain_number_reads negated_first plain_first)
    DerivesEnd Free end_to end_from (λ a x r d e. e) (λ a x r d e. e)

abbrev pub EndsAre : List Placed → ℤ × ℤ → Type 0
EndsAre ts x = DerivesEnds ts x.0 x.1

ends_to : (ts : List Placed) (x : ℤ × ℤ) → Both (Enclosed (is_sign Sign.Range) DerivesEnd) DerivesEnd ts x → EndsAre ts x
ends_to ts x (a, b, q, (dots, c, q', i, j), k) = (dots, c, b, q ∙ ap (λ (z : List Placed). z ++ b) q' ∙ append_assoc c (dots ∷ []) b, j, sign_of Sign.Range dots i, k)

ends_from : (ts : List Placed) (x : ℤ × ℤ) → EndsAre ts x → Both (Enclosed (is_sign Sign.Range) DerivesEnd) DerivesEnd ts x
ends_from ts x (dots, a, b, q, j, i, k) = (a ++ dots ∷ [], b, q ∙ sym (append_assoc a (dots ∷ []) b), (dots, a, refl, is_it Sign.Range dots i, j), k)

pub ends_read : Reads EndsAre (BothFit AnyFits AnyFits) Free read_ends
unfolding read_ends sign_number
ends_read = renamed_reads (Both (Enclosed (is_sign Sign.Range) DerivesEnd) DerivesEnd) (BothFit AnyFits AnyFits) Free
    (both (enclosed (is_sign Sign.Range) read_end) read_end)
    (both_reads (Enclosed (is_sign Sign.Range) DerivesEnd) AnyFits Free (enclosed (is_sign Sign.Range) read_end)
    (enclosed_reads (is_sign Sign.Range) (sign_token Sign.Range) refl DerivesEnd AnyFits Free read_end end_reads (λ x t r h. tt) (λ x. inl tt))
    DerivesEnd AnyFits Free read_end end_reads
    Free (λ x b y r d e1 e2. tt) (λ x b y r d e. tt) (λ x b y r d e. tt) (λ x. inl tt))
    EndsAre Free ends_to ends_from (λ a x r d e. e) (λ a x r d e. e)
