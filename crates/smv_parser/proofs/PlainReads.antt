-- Plain types are read exactly.
use Rattle.std.proofs.Common.{◌≡◌, ℕ, zero, suc, ℤ, ◌+◌, ◌≤◌, ◌<◌, true, false, ◌⊎◌, inl, inr, List, [], ◌∷◌, ◌++◌, refl, sym, ◌∙◌, ap, subst, arith, append_assoc}
use Rattle.reader_laws.specs.Reading.{Reading, ◌>>=◌, accept, after_first, enclosed, both, switch}
use Rattle.reader_laws.specs.Reading.Reading.{found}
use Rattle.reader_laws.proofs.Readers.{Reads, EachFits, ManyEnds}
use Rattle.reader_laws.proofs.More.{Enclosed, Both, BothFit, AnyOf, Alternative, line_reads, map_reads, renamed_reads, give_reads, enclosed_reads, both_reads, reads_alternative, no_alternative, switch_reads, decide_both, decide_each}
use Rattle.smv_lexer.specs.declared.keyword.Keyword.{Keyword}
use Rattle.smv_lexer.specs.declared.sign.Sign.{Sign}
use Rattle.smv_lexer.specs.Text.{Kind, Placed}
use Rattle.smv_lexer.specs.Text.Kind.{key, mark}
use Rattle.smv_parser.specs.declared.openings.PlainLead.{PlainLead}
use Rattle.smv_parser.specs.declared.openings.TypeLead.{TypeLead}
use Rattle.smv_parser.specs.Words.{Is, BeginsOn}
use Rattle.smv_parser.specs.Program.{Lined, Constant, Plain, PlainForm, plain_on, plain_depth}
use Rattle.smv_parser.specs.Programs.{Commas, DerivesConstant, DerivesEnd, DerivesPlain, OnLine}
use Rattle.smv_parser.specs.Tests.{is_sign, is_key, sign_is, sign_number, key_number}
use Rattle.smv_parser.specs.Openings.{constant_of, kind_type, type_lead}
use Rattle.smv_parser.specs.Reading.{front_line}
use Rattle.smv_parser.specs.ProgramReading.{commas, read_ends, read_range, boolean_tail, enumeration_tail, range_here, array_tail, plain_by, plain_step, read_plain, plain_line}
use Rattle.smv_parser.proofs.TokenTests.{sign_is-kind, key_is-kind, kind_is-key}
use Rattle.smv_parser.proofs.Operands.{sign_token, key_token, open_alternative, gated_alternative}
use Rattle.smv_parser.proofs.Shapes.{is_it, sign_of}
use Rattle.smv_parser.proofs.Starts.{TypeIs, type_is, line_of_first}
use Rattle.smv_parser.proofs.Parameters.{commas_reads, list_closes}
use Rattle.smv_parser.proofs.TokenReads.{AnyFits, EndsAre, Free, RangeIs, number_token, all_fit, constant_reads, decide_depth, ends_read, range_reads}

pub plain_depth_pos : (p : Plain) → 1 ≤ plain_depth p
plain_depth_pos (plain_on l PlainForm.boolean) = omega arith
plain_depth_pos (plain_on l (PlainForm.enumeration cs)) = omega arith
plain_depth_pos (plain_on l (PlainForm.range low high)) = omega arith
plain_depth_pos (plain_on l (PlainForm.array low high p)) = omega arith

-- a range's first token
end_first : (ts : List Placed) (e : ℤ) → DerivesEnd ts e → (t : Placed) × (u : List Placed) × (ts ≡ t ∷ u) × (type_lead t ≡ TypeLead.Plain PlainLead.Range)
end_first ts e (inl (n, p, (t, q, k))) = (t, [], q, ap kind_type k)
end_first ts e (inr (n, p, minus, t, q, i, k)) = (minus, t ∷ [], q, ap kind_type i)

ends_first : (ts : List Placed) (x : ℤ × ℤ) → EndsAre ts x → (t : Placed) × (u : List Placed) × (ts ≡ t ∷ u) × (type_lead t ≡ TypeLead.Plain PlainLead.Range)
ends_first ts x (dots, a, b, q, d, i, e) = let w = end_first a x.0 d in (w.0, w.1 ++ dots ∷ b, q ∙ ap (λ (z : List Placed). z ++ dots ∷ b) w.2, w.3)

-- the relation of each plain type, by its first token
unfoldable pub PlainTail : TypeLead → Placed → List Placed → Plain → Type 0
PlainTail (TypeLead.Plain PlainLead.Boolean) t u p = (u ≡ []) × (p ≡ plain_on t.line PlainForm.boolean)
PlainTail (TypeLead.Plain PlainLead.Enumeration) t u p = (cs : List (Lined Constant)) × (p ≡ plain_on t.line (PlainForm.enumeration cs))
    × Enclosed (is_sign Sign.CloseBrace) (Commas (OnLine DerivesConstant)) u cs
PlainTail (TypeLead.Plain PlainLead.Range) t u p = (x : ℤ × ℤ) × (p ≡ plain_on t.line (PlainForm.range x.0 x.1)) × EndsAre (t ∷ u) x
PlainTail (TypeLead.Plain PlainLead.Array) t u p = (x : (ℕ × ℕ) × Plain) × (p ≡ plain_on t.line (PlainForm.array x.0.0 x.0.1 x.1))
    × Both (Enclosed (is_key Keyword.Of) RangeIs) DerivesPlain u x
PlainTail TypeLead.Process t u p = ⊥
PlainTail TypeLead.Name t u p = ⊥
PlainTail TypeLead.Other t u p = ⊥

abbrev pub PlainLed : TypeLead → List Placed → Plain → Type 0
PlainLed i ts p = (t : Placed) × (u : List Placed) × (ts ≡ t ∷ u) × (type_lead t ≡ i) × PlainTail i t u p

comma_no_brace : (c : Placed) → is_sign Sign.CloseBrace c ≡ true → is_sign Sign.Comma c ≡ false
unfolding sign_number
comma_no_brace c h = subst (λ (k : Kind). sign_is Sign.Comma k ≡ false) (sym (sign_is-kind Sign.CloseBrace c.kind h)) refl

pub some_plain : DerivesPlain (key_token Keyword.Boolean ∷ []) (plain_on 0 PlainForm.boolean)
some_plain = (refl, (key_token Keyword.Boolean, refl, refl))

module _ (reader : List Placed → Reading Placed Plain) (b : ℕ) where
  abbrev Fits : Plain → Type 0
  Fits p = plain_depth p ≤ suc b

  boolean_reads : (t : Placed) → Reads (PlainTail (TypeLead.Plain PlainLead.Boolean) t) Fits Free (boolean_tail t)
  unfolding PlainTail boolean_tail
  boolean_reads t = give_reads (plain_on t.line PlainForm.boolean) Fits Free (omega arith) (λ r. tt)

  enumeration_reads : (t : Placed) → Reads (PlainTail (TypeLead.Plain PlainLead.Enumeration) t) Fits Free (enumeration_tail t)
  unfolding PlainTail enumeration_tail sign_number
  enumeration_reads t = map_reads (Enclosed (is_sign Sign.CloseBrace) (Commas (OnLine DerivesConstant))) (EachFits AnyFits) Free (enclosed (is_sign Sign.CloseBrace) (commas (accept constant_of)))
      (enclosed_reads (is_sign Sign.CloseBrace) (sign_token Sign.CloseBrace) refl (Commas (OnLine DerivesConstant)) (EachFits AnyFits) (ManyEnds (is_sign Sign.Comma) Free) (commas (accept constant_of))
      (commas_reads (OnLine DerivesConstant) AnyFits Free (accept constant_of) constant_reads (λ x r h. tt) (λ x. inl tt))
      (list_closes (OnLine DerivesConstant) AnyFits Free (accept constant_of) constant_reads (λ x r h. tt) (λ x. inl tt) Sign.CloseBrace comma_no_brace (λ x c r h. tt))
      (decide_each AnyFits (λ x. inl tt)))
      (λ cs. plain_on t.line (PlainForm.enumeration cs)) (PlainTail (TypeLead.Plain PlainLead.Enumeration) t) Fits Free
      (λ a x d. (x, refl, d)) (λ a y d. d) (λ x h. omega arith) (λ x h. all_fit AnyFits (λ y. tt) x) (λ a x r d e. tt) (λ a x r d e. tt)

  range_of : Reads (PlainLed (TypeLead.Plain PlainLead.Range)) Fits Free range_here
  unfolding range_here PlainTail
  range_of = renamed_reads (λ ts p. (x : ℤ × ℤ) × (p ≡ plain_on (front_line ts) (PlainForm.range x.0 x.1)) × EndsAre ts x) Fits Free
      (λ s. read_ends s >>= λ x r. found (plain_on (front_line s) (PlainForm.range x.0 x.1)) r)
      (line_reads (λ (t : Placed). t.line) EndsAre (BothFit AnyFits AnyFits) Free read_ends ends_read (λ a x d. let w = ends_first a x d in (w.0, w.1, w.2))
      (λ l x. plain_on l (PlainForm.range x.0 x.1)) Fits Free
      (λ l x h. omega arith) (λ l x h. (tt, tt)) (λ l x r e. tt) (λ l x r e. tt))
      (PlainLed (TypeLead.Plain PlainLead.Range)) Free
      (λ ts p d.
      let w = ends_first ts d.0 d.2 in
      (w.0, w.1, w.2, w.3, (d.0, d.1 ∙ ap (λ (l : List Placed). plain_on (front_line l) (PlainForm.range d.0.0 d.0.1)) w.2, subst (λ (l : List Placed). EndsAre l d.0) w.2 d.2)))
      (λ ts p d.
      let (t, u, q, h, (x, e, r)) = d in
      (x, e ∙ ap (λ (l : List Placed). plain_on (front_line l) (PlainForm.range x.0 x.1)) (sym q), subst (λ (l : List Placed). EndsAre l x) (sym q) r))
      (λ a x r d e. tt) (λ a x r d e. tt)

  array_reads : Reads DerivesPlain (λ p. plain_depth p ≤ b) Free reader → (t : Placed) → Reads (PlainTail (TypeLead.Plain PlainLead.Array) t) Fits Free (array_tail reader b t)
  unfolding PlainTail array_tail key_number
  array_reads one t = map_reads (Both (Enclosed (is_key Keyword.Of) RangeIs) DerivesPlain) (BothFit (BothFit AnyFits AnyFits) (λ p. plain_depth p ≤ b)) Free
      (both (enclosed (is_key Keyword.Of) read_range) reader)
      (both_reads (Enclosed (is_key Keyword.Of) RangeIs) (BothFit AnyFits AnyFits) Free (enclosed (is_key Keyword.Of) read_range)
      (enclosed_reads (is_key Keyword.Of) (key_token Keyword.Of) refl RangeIs (BothFit AnyFits AnyFits) Free read_range range_reads (λ x t r h. tt) (λ x. inl (tt, tt)))
      DerivesPlain (λ p. plain_depth p ≤ b) Free reader one
      Free (λ x b y r d e1 e2. tt) (λ x b y r d e. tt) (λ x b y r d e. tt) (λ x. inl (tt, tt)))
      (λ x. plain_on t.line (PlainForm.array x.0.0 x.0.1 x.1)) (PlainTail (TypeLead.Plain PlainLead.Array) t) Fits Free
      (λ a x d. (x, refl, d)) (λ a y d. d) (λ x h. omega (arith, h.1)) (λ x h. ((tt, tt), omega arith)) (λ a x r d e. tt) (λ a x r d e. tt)

  never_array : (t : Placed) (u : List Placed) (p : Plain) → b ≡ 0 → PlainTail (TypeLead.Plain PlainLead.Array) t u p → Fits p → ⊥
  unfolding PlainTail
  never_array t u p z (x, q, d) f = let g = subst Fits q f in omega (arith, z, g, plain_depth_pos x.1)

  any_array : (t : Placed) → (m : List Placed) × (p : Plain) × PlainTail (TypeLead.Plain PlainLead.Array) t m p
  unfolding PlainTail key_number
  any_array t = (
    number_token 0 ∷ sign_token Sign.Range ∷ number_token 0 ∷ key_token Keyword.Of ∷ key_token Keyword.Boolean ∷ [],
    plain_on t.line (PlainForm.array 0 0 (plain_on 0 PlainForm.boolean)),
    (
      ((0, 0), plain_on 0 PlainForm.boolean),
      refl,
      (
        number_token 0 ∷ sign_token Sign.Range ∷ number_token 0 ∷ key_token Keyword.Of ∷ [],
        key_token Keyword.Boolean ∷ [],
        refl,
        (key_token Keyword.Of, number_token 0 ∷ sign_token Sign.Range ∷ number_token 0 ∷ [], refl, refl, (number_token 0, sign_token Sign.Range, number_token 0, refl, refl, refl, refl)),
        some_plain,
      ),
    ),
  )

  some_led : AnyOf PlainLed (key_token Keyword.Boolean ∷ []) (plain_on 0 PlainForm.boolean)
  unfolding PlainTail
  some_led = (TypeLead.Plain PlainLead.Boolean, (key_token Keyword.Boolean, [], refl, refl, (refl, refl)))

  module _ (one : 1 ≤ b → Reads DerivesPlain (λ p. plain_depth p ≤ b) Free reader) where
    plain_alternative : (i : TypeLead) → Alternative type_lead PlainLed Fits Free (plain_by reader b) i
    unfolding plain_by PlainTail
    plain_alternative (TypeLead.Plain PlainLead.Boolean) = open_alternative b type_lead PlainTail Fits Free (plain_by reader b) (key_token Keyword.Boolean ∷ [], plain_on 0 PlainForm.boolean, some_led, omega arith)
        (TypeLead.Plain PlainLead.Boolean) boolean_tail boolean_reads (λ s. refl)
    plain_alternative (TypeLead.Plain PlainLead.Enumeration) = open_alternative b type_lead PlainTail Fits Free (plain_by reader b) (key_token Keyword.Boolean ∷ [], plain_on 0 PlainForm.boolean, some_led, omega arith)
        (TypeLead.Plain PlainLead.Enumeration) enumeration_tail enumeration_reads (λ s. refl)
    plain_alternative (TypeLead.Plain PlainLead.Range) = reads_alternative type_lead PlainLed Fits Free (plain_by reader b) (key_token Keyword.Boolean ∷ [], plain_on 0 PlainForm.boolean, some_led, omega arith)
        (TypeLead.Plain PlainLead.Range) (λ a x d. (d.0, d.1, d.2, d.3)) range_of
    plain_alternative (TypeLead.Plain PlainLead.Array) = gated_alternative b type_lead PlainTail Fits Free (plain_by reader b) (key_token Keyword.Boolean ∷ [], plain_on 0 PlainForm.boolean, some_led, omega arith)
        (TypeLead.Plain PlainLead.Array) (array_tail reader b) (λ pos t. array_reads (one pos) t) never_array any_array (λ s. refl)
    plain_alternative TypeLead.Process = no_alternative type_lead PlainLed Fits Free (plain_by reader b) (key_token Keyword.Boolean ∷ [], plain_on 0 PlainForm.boolean, some_led, omega arith)
        TypeLead.Process (λ a x d. d.4) (λ s. refl)
    plain_alternative TypeLead.Name = no_alternative type_lead PlainLed Fits Free (plain_by reader b) (key_token Keyword.Boolean ∷ [], plain_on 0 PlainForm.boolean, some_led, omega arith)
        TypeLead.Name (λ a x d. d.4) (λ s. refl)
    plain_alternative TypeLead.Other = no_alternative type_lead PlainLed Fits Free (plain_by reader b) (key_token Keyword.Boolean ∷ [], plain_on 0 PlainForm.boolean, some_led, omega arith)
        TypeLead.Other (λ a x d. d.4) (λ s. refl)

    step_reads : Reads (AnyOf PlainLed) Fits Free (plain_step reader b)
    unfolding plain_step
    step_reads = switch_reads type_lead PlainLed Fits Free (plain_by reader b) (key_token Keyword.Boolean ∷ [], plain_on 0 PlainForm.boolean, some_led, omega arith) plain_alternative

on_first : (form : PlainForm) (l : ℕ) (ts : List Placed) (t : Placed) (u : List Placed) → ts ≡ t ∷ u → BeginsOn l ts → plain_on l form ≡ plain_on t.line form
on_first form l ts t u q h = ap (λ (n : ℕ). plain_on n form) (sym (line_of_first l ts t u q h))

pub plain_shape : (ts : List Placed) (p : Plain) → DerivesPlain ts p → AnyOf PlainLed ts p
unfolding PlainTail
plain_shape ts (plain_on l PlainForm.boolean) (b, (t, q, i)) =
    (TypeLead.Plain PlainLead.Boolean, (t, [], q, ap kind_type i, (refl, on_first PlainForm.boolean l ts t [] q b)))
plain_shape ts (plain_on l (PlainForm.enumeration cs)) (b, (o, c, a, q, i, j, d)) =
    (TypeLead.Plain PlainLead.Enumeration, (o, a ++ c ∷ [], q, ap kind_type i, (cs, on_first (PlainForm.enumeration cs) l ts o (a ++ c ∷ []) q b, (c, a, refl, is_it Sign.CloseBrace c j, d))))
plain_shape ts (plain_on l (PlainForm.range low high)) (b, d) =
    let w = ends_first ts (low, high) d in
    (TypeLead.Plain PlainLead.Range, (w.0, w.1, w.2, w.3, ((low, high), on_first (PlainForm.range low high) l ts w.0 w.1 w.2 b, subst (λ (s : List Placed). EndsAre s (low, high)) w.2 d)))
plain_shape ts (plain_on l (PlainForm.array low high p)) (b, (t, of, a, c, q, i, j, r, d)) = (
  TypeLead.Plain PlainLead.Array,
  (
    t,
    a ++ of ∷ c,
    q,
    ap kind_type i,
    (
      ((low, high), p),
      on_first (PlainForm.array low high p) l ts t (a ++ of ∷ c) q b,
      (a ++ of ∷ [], c, sym (append_assoc a (of ∷ []) c), (of, a, refl, kind_is-key Keyword.Of of.kind j, r), d),
    ),
  ),
)

unshape_at : (t : Placed) (u : List Placed) (p : Plain) (i : TypeLead) → TypeIs t.kind i → PlainTail i t u p → DerivesPlain (t ∷ u) p
unfolding PlainTail
unshape_at t u p (TypeLead.Plain PlainLead.Boolean) k (z, q) = subst (DerivesPlain (t ∷ u)) (sym q) (refl, (t, ap (λ (s : List Placed). t ∷ s) z, k))
unshape_at t u p (TypeLead.Plain PlainLead.Enumeration) k (cs, q, (c, a, r, j, d)) =
    subst (DerivesPlain (t ∷ u)) (sym q) (refl, (t, c, a, ap (λ (s : List Placed). t ∷ s) r, k, sign_of Sign.CloseBrace c j, d))
unshape_at t u p (TypeLead.Plain PlainLead.Range) k (x, q, d) = subst (DerivesPlain (t ∷ u)) (sym q) (refl, d)
unshape_at t u p (TypeLead.Plain PlainLead.Array) k (x, q, (m, n, e, (of, a, r, j, rg), d)) =
    subst (DerivesPlain (t ∷ u)) (sym q) (
      refl,
      (t, of, a, n, ap (λ (s : List Placed). t ∷ s) (e ∙ ap (λ (s : List Placed). s ++ n) r ∙ append_assoc a (of ∷ []) n), k, key_is-kind Keyword.Of of.kind j, rg, d),
    )
unshape_at t u p TypeLead.Process k d = absurd d
unshape_at t u p TypeLead.Name k d = absurd d
unshape_at t u p TypeLead.Other k d = absurd d

plain_unshape : (ts : List Placed) (p : Plain) → AnyOf PlainLed ts p → DerivesPlain ts p
plain_unshape ts p (i, (t, u, q, h, d)) = subst (λ (s : List Placed). DerivesPlain s p) (sym q) (unshape_at t u p i (subst (TypeIs t.kind) h (type_is t.kind)) d)

pub plain_reads : (b : ℕ) → 1 ≤ b → Reads DerivesPlain (λ p. plain_depth p ≤ b) Free (read_plain b)
unfolding read_plain
plain_reads zero h = absurd (omega arith)
plain_reads (suc b) h = renamed_reads (AnyOf PlainLed) (λ p. plain_depth p ≤ suc b) Free (plain_step (read_plain b) b) (step_reads (read_plain b) b (λ pos. plain_reads b pos)) DerivesPlain Free
    plain_unshape plain_shape (λ a x r d e. e) (λ a x r d e. e)

pub plain_begins : (ts : List Placed) (p : Plain) → DerivesPlain ts p → BeginsOn (plain_line p) ts
plain_begins ts (plain_on l form) d = d.0
