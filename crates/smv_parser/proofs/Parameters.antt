-- Lists between commas, and parameters in parentheses, are read exactly.
use Rattle.std.proofs.Common.{◌≡◌, ℕ, Bool, true, false, ◌⊎◌, inl, inr, ⊎_elim, List, [], ◌∷◌, ◌++◌, length, Option, Some, None, refl, sym, ◌∙◌, ap, subst, append_assoc}
use Rattle.reader_laws.specs.Optional.{optional}
use Rattle.reader_laws.specs.Reading.{Reading, ◌>>=◌, expect, many, headed, enclosed, both, choose, first_is}
use Rattle.reader_laws.specs.Reading.Reading.{found}
use Rattle.reader_laws.proofs.Readers.{Reads, EachOf, EachFits, ManyEnds, IsToken, expect_reads, choose_reads}
use Rattle.reader_laws.proofs.More.{Headed, Enclosed, Both, BothFit, map_reads, headed_reads, enclosed_reads, list_reads, all_end, decide_each}
use Rattle.reader_laws.proofs.Optional.{OptionIs, OptionFits, OptionEnds, optional_reads}
use Rattle.smv_lexer.specs.declared.sign.Sign.{Sign}
use Rattle.smv_lexer.specs.Text.{Kind, Placed}
use Rattle.smv_lexer.specs.Text.Kind.{mark}
use Rattle.smv_parser.specs.Words.{Is}
use Rattle.smv_parser.specs.Programs.{Each, AfterComma, Commas, Parameters}
use Rattle.smv_parser.specs.Tests.{is_sign, sign_is, sign_number}
use Rattle.smv_parser.specs.ProgramReading.{commas, inside, parameters_here, listed}
use Rattle.smv_parser.proofs.TokenTests.{sign_is-kind}
use Rattle.smv_parser.proofs.Operands.{sign_token}
use Rattle.smv_parser.proofs.Shapes.{is_it, sign_of}

pub each_to : {A B : Type 0} (D : List Placed → A → Type 0) (D' : List Placed → B → Type 0) (f : A → B) → ((a : List Placed) (x : A) → D a x → D' a (f x)) → (ts : List Placed) (xs : List A) → EachOf D ts xs
    → Each D' ts (Rattle.std.specs.Prelude.map f xs)
each_to D D' f h ts [] d = d
each_to D D' f h ts (x ∷ xs) (a, b, q, d, rest) = (a, b, q, h a x d, each_to D D' f h b xs rest)

pub each_from : {A B : Type 0} (D : List Placed → A → Type 0) (D' : List Placed → B → Type 0) (f : A → B) → ((a : List Placed) (y : B) → D' a y → (x : A) × (y ≡ f x) × D a x)
    → (ts : List Placed) (ys : List B) → Each D' ts ys → (xs : List A) × (ys ≡ Rattle.std.specs.Prelude.map f xs) × EachOf D ts xs
each_from D D' f h ts [] d = ([], refl, d)
each_from D D' f h ts (y ∷ ys) (a, b, q, d, rest) =
    let w = h a y d in
    let r = each_from D D' f h b ys rest in (
      w.0 ∷ r.0,
      ap (λ (z : _). z ∷ ys) w.1 ∙ ap (λ (zs : List _). f w.0 ∷ zs) r.1,
      (a, b, q, w.2, r.2),
    )

pub each_is : {A : Type 0} (D D' : List Placed → A → Type 0) → ((a : List Placed) (x : A) → D a x → D' a x) → (ts : List Placed) (xs : List A) → EachOf D ts xs → Each D' ts xs
each_is D D' h ts [] d = d
each_is D D' h ts (x ∷ xs) (a, b, q, d, rest) = (a, b, q, h a x d, each_is D D' h b xs rest)

pub each_of : {A : Type 0} (D D' : List Placed → A → Type 0) → ((a : List Placed) (x : A) → D a x → D' a x) → (ts : List Placed) (xs : List A) → Each D ts xs → EachOf D' ts xs
each_of D D' h ts [] d = d
each_of D D' h ts (x ∷ xs) (a, b, q, d, rest) = (a, b, q, h a x d, each_of D D' h b xs rest)

comma_to : {A : Type 0} (D : List Placed → A → Type 0) (ts : List Placed) (x : A) → Headed (is_sign Sign.Comma) D ts x → AfterComma D ts x
comma_to D ts x (c, a, q, i, d) = (c, a, q, sign_of Sign.Comma c i, d)

comma_from : {A : Type 0} (D : List Placed → A → Type 0) (ts : List Placed) (x : A) → AfterComma D ts x → Headed (is_sign Sign.Comma) D ts x
comma_from D ts x (c, a, q, i, d) = (c, a, q, is_it Sign.Comma c i, d)

commas_from : {A : Type 0} (D : List Placed → A → Type 0) (ts : List Placed) (ys : List A) → Commas D ts ys
    → (z : A × List A) × (ys ≡ z.0 ∷ z.1) × Both D (EachOf (Headed (is_sign Sign.Comma) D)) ts z
commas_from D ts [] d = absurd d
commas_from D ts (y ∷ ys) (a, b, q, d, rest) = ((y, ys), refl, (a, b, q, d, each_of (AfterComma D) (Headed (is_sign Sign.Comma) D) (comma_from D) b ys rest))

pub comma_no_paren : (c : Placed) → is_sign Sign.CloseParen c ≡ true → is_sign Sign.Comma c ≡ false
unfolding sign_number
comma_no_paren c h = subst (λ (k : Kind). sign_is Sign.Comma k ≡ false) (sym (sign_is-kind Sign.CloseParen c.kind h)) refl

abbrev EmptyIs : {A : Type 0} → List Placed → List A → Type 0
EmptyIs ts xs = (xs ≡ []) × (t : Placed) × (ts ≡ t ∷ []) × (is_sign Sign.CloseParen t ≡ true)

abbrev pub InsideIs : {A : Type 0} → (List Placed → A → Type 0) → List Placed → List A → Type 0
InsideIs D ts xs = EmptyIs ts xs ⊎ Enclosed (is_sign Sign.CloseParen) (Commas D) ts xs

abbrev pub HereIs : {A : Type 0} → (List Placed → A → Type 0) → List Placed → Option (List A) → Type 0
HereIs D = OptionIs (Headed (is_sign Sign.OpenParen) (InsideIs D))

-- no parenthesis may follow where none stood
abbrev pub HereEnds : {A : Type 0} → Option (List A) → List Placed → Type 0
HereEnds = OptionEnds (is_sign Sign.OpenParen) (λ _ _. Unit {0})

module _ {A : Type 0} (D : List Placed → A → Type 0) (F : A → Type 0) (E : A → List Placed → Type 0) (item : List Placed → Reading Placed A) (one : Reads D F E item)
    (comma_ends : (x : A) (r : List Placed) → first_is (is_sign Sign.Comma) r ≡ true → E x r)
    (decide : (x : A) → F x ⊎ (F x → ⊥)) where
  pub commas_reads : Reads (Commas D) (EachFits F) (ManyEnds (is_sign Sign.Comma) E) (commas item)
  unfolding commas sign_number
  commas_reads = map_reads (Both D (EachOf (Headed (is_sign Sign.Comma) D))) (BothFit F (EachFits F)) (λ z r. ManyEnds (is_sign Sign.Comma) E (z.0 ∷ z.1) r)
      (both item (λ v. many (is_sign Sign.Comma) (headed (is_sign Sign.Comma) item) (length v) v))
      (list_reads (is_sign Sign.Comma) D item (Headed (is_sign Sign.Comma) D) F E (headed (is_sign Sign.Comma) item) one
      (headed_reads (is_sign Sign.Comma) (sign_token Sign.Comma) refl D F E item one) (λ a x d. (d.0, d.1, d.2, d.3)) comma_ends decide)
      (λ x. x.0 ∷ x.1) (Commas D) (EachFits F) (ManyEnds (is_sign Sign.Comma) E)
      (λ a x d. (d.0, d.1, d.2, d.3, each_is (Headed (is_sign Sign.Comma) D) (AfterComma D) (comma_to D) d.1 x.1 d.4))
      (commas_from D) (λ x h. h) (λ x h. h) (λ a x r d e. e) (λ a x r d e. e)

  -- the sign that closes a list ends its last item
  pub list_closes : (s : Sign) → ((c : Placed) → is_sign s c ≡ true → is_sign Sign.Comma c ≡ false) → ((x : A) (c : Placed) (r : List Placed) → is_sign s c ≡ true → E x (c ∷ r))
      → (xs : List A) (c : Placed) (r : List Placed) → is_sign s c ≡ true → ManyEnds (is_sign Sign.Comma) E xs (c ∷ r)
  list_closes s other ends xs c r h = (other c h, all_end E (c ∷ r) (λ x. ends x c r h) xs)

  module _ (paren_ends : (x : A) (c : Placed) (r : List Placed) → is_sign Sign.CloseParen c ≡ true → E x (c ∷ r))
      (never : (a : List Placed) (x : A) → D a x → (t : Placed) × (u : List Placed) × (a ≡ t ∷ u) × (is_sign Sign.CloseParen t ≡ false)) where
    empty_reads : Reads EmptyIs (EachFits F) (λ _ _. Unit {0}) (λ v. expect (is_sign Sign.CloseParen) v >>= λ _ r. found [] r)
    unfolding sign_number
    empty_reads = map_reads (IsToken (is_sign Sign.CloseParen) (sign_token Sign.CloseParen) refl) (λ _. Unit {0}) (λ _ _. Unit {0}) (expect (is_sign Sign.CloseParen))
        (expect_reads (is_sign Sign.CloseParen) (sign_token Sign.CloseParen) refl)
        (λ _. []) EmptyIs (EachFits F) (λ _ _. Unit {0})
        (λ a t k. (refl, t, k.0, k.1)) (λ a y k. (k.1, k.0, (k.2, k.3))) (λ t u. tt) (λ t u. tt) (λ a t r k e. tt) (λ a t r k e. tt)

    inside_begins : (a : List Placed) (xs : List A) (r : List Placed) → Enclosed (is_sign Sign.CloseParen) (Commas D) a xs → Unit {0} → first_is (is_sign Sign.CloseParen) (a ++ r) ≡ false
    inside_begins a [] r (t, g, q, i, d) e = absurd d
    inside_begins a (x ∷ xs) r (t, g, q, i, (m, n, q', d, rest)) e =
        let w = never m x d in
        ap (λ (l : List Placed). first_is (is_sign Sign.CloseParen) (l ++ r)) (q ∙ ap (λ (l : List Placed). l ++ t ∷ []) (q' ∙ ap (λ (l : List Placed). l ++ n) w.2)) ∙ w.3

    inside_reads : Reads (InsideIs D) (EachFits F) (λ _ _. Unit {0}) (inside item)
    unfolding inside sign_number
    inside_reads = choose_reads (is_sign Sign.CloseParen) (EachFits F) (λ _ _. Unit {0})
        EmptyIs (λ v. expect (is_sign Sign.CloseParen) v >>= λ _ r. found [] r) empty_reads
        (Enclosed (is_sign Sign.CloseParen) (Commas D)) (enclosed (is_sign Sign.CloseParen) (commas item))
        (enclosed_reads (is_sign Sign.CloseParen) (sign_token Sign.CloseParen) refl (Commas D) (EachFits F) (ManyEnds (is_sign Sign.Comma) E) (commas item) commas_reads
        (list_closes Sign.CloseParen comma_no_paren paren_ends) (decide_each F decide))
        (λ a xs r d. ap (λ (l : List Placed). first_is (is_sign Sign.CloseParen) (l ++ r)) d.2 ∙ d.3) inside_begins

    pub here_reads : Reads (HereIs D) (OptionFits (EachFits F)) HereEnds (parameters_here item)
    unfolding parameters_here sign_number
    here_reads = optional_reads (is_sign Sign.OpenParen) (Headed (is_sign Sign.OpenParen) (InsideIs D)) (EachFits F) (λ _ _. Unit {0}) (headed (is_sign Sign.OpenParen) (inside item))
        (headed_reads (is_sign Sign.OpenParen) (sign_token Sign.OpenParen) refl (InsideIs D) (EachFits F) (λ _ _. Unit {0}) (inside item) inside_reads)
        (λ a x d. (d.0, d.1, d.2, d.3))

pub parameters_to : {A : Type 0} (D : List Placed → A → Type 0) (ts : List Placed) (ps : Option (List A)) → HereIs D ts ps → Parameters D ts (listed ps)
parameters_to D ts None d = inl (d, refl)
parameters_to D ts (Some xs) (o, a, q, i, inl (e, c, q', j)) = inr (o, c, [], q ∙ ap (λ (l : List Placed). o ∷ l) q', sign_of Sign.OpenParen o i, sign_of Sign.CloseParen c j, inl (refl, e))
parameters_to D ts (Some xs) (o, a, q, i, inr (c, g, q', j, d)) = inr (o, c, g, q ∙ ap (λ (l : List Placed). o ∷ l) q', sign_of Sign.OpenParen o i, sign_of Sign.CloseParen c j, inr d)

pub parameters_from : {A : Type 0} (D : List Placed → A → Type 0) (ts : List Placed) (xs : List A) → Parameters D ts xs → (ps : Option (List A)) × (xs ≡ listed ps) × HereIs D ts ps
parameters_from D ts xs (inl (e, n)) = (None, n, e)
parameters_from D ts xs (inr (o, c, a, q, i, j, inl (e, n))) =
    (Some xs, refl, (o, a ++ c ∷ [], q, is_it Sign.OpenParen o i, inl (n, c, ap (λ (l : List Placed). l ++ c ∷ []) e, is_it Sign.CloseParen c j)))
parameters_from D ts xs (inr (o, c, a, q, i, j, inr d)) = (Some xs, refl, (o, a ++ c ∷ [], q, is_it Sign.OpenParen o i, inr (c, a, refl, is_it Sign.CloseParen c j, d)))
