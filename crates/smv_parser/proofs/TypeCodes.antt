-- One step each of the code of types, in terms of reading.
use Rattle.std.proofs.Common.{◌≡◌, ℕ, zero, suc, pos, neg_ℤ, ◌+◌, ◌-◌, ◌≤◌, ◌<◌, Bool, true, false, List, [], ◌∷◌, map, length, refl, sym, ◌∙◌, ap, subst, arith, le-leb, Option, Some, None}
use Rattle.std.proofs.lemmas.Bool.{lt-leb}
use Rattle.reader_laws.specs.Reading.{Reading, ◌>>=◌, accept, accepted, after_first, choose, enclosed, first_is, headed, both, switch}
use Rattle.reader_laws.specs.Reading.Reading.{found, syntax_error, too_deep}
use Rattle.reader_laws.proofs.Readers.{found-then}
use Rattle.reader_laws.proofs.Mapped.{then_made, then_then, then_same}
use Rattle.smv_lexer.specs.declared.keyword.Keyword.{Keyword}
use Rattle.smv_lexer.specs.declared.sign.Sign.{Sign}
use Rattle.smv_lexer.specs.Text.{Placed}
use Rattle.smv_parser.specs.declared.openings.PlainLead.{PlainLead}
use Rattle.smv_parser.specs.declared.openings.TypeLead.{TypeLead}
use Rattle.smv_parser.specs.Gives.{IsSyntaxError, IsTooDeep}
use Rattle.smv_parser.specs.Tree.{Tree}
use Rattle.smv_parser.specs.Program.{Lined, Plain, PlainForm, TypeForm, plain_on}
use Rattle.smv_parser.specs.Tests.{is_sign, is_key, name_of, number_of}
use Rattle.smv_parser.specs.Openings.{constant_of, formal_of, on_its_line, type_lead}
use Rattle.smv_parser.specs.Reading.{front_line, read, with_room}
use Rattle.smv_parser.specs.ProgramReading.{Head, OpenType, plain_head, process_head, name_head, no_head, commas, head_of, is_open, lined, listed, named, parameters, parameters_here, plain_line, negated_number, plain_number, read_end, read_ends, read_range, boolean_tail, enumeration_tail, range_here, array_tail, plain_by, plain_step, read_plain, process_tail, type_by, open_type, read_type, read_instance}

pub range_is : (s : List Placed) → read_range s ≡ both (enclosed (is_sign Sign.Range) (accept number_of)) (accept number_of) s
unfolding read_range
range_is s = refl

pub ends_are : (s : List Placed) → read_ends s ≡ both (enclosed (is_sign Sign.Range) read_end) read_end s
unfolding read_ends
ends_are s = refl

pub minus_end_is : (s : List Placed) → first_is (is_sign Sign.Minus) s ≡ true → read_end s ≡ (headed (is_sign Sign.Minus) (accept number_of) s >>= λ n r. found (neg_ℤ (pos n)) r)
unfolding read_end choose negated_number
minus_end_is s h = rw h refl

pub number_end_is : (s : List Placed) → first_is (is_sign Sign.Minus) s ≡ false → read_end s ≡ (accept number_of s >>= λ n r. found (pos n) r)
unfolding read_end choose plain_number
number_end_is s h = rw h refl

pub plain_empty : (b : ℕ) (s : List Placed) → 1 ≤ b → length s ≡ 0 → IsSyntaxError 0 (read_plain b s)
unfolding read_plain plain_step switch
plain_empty zero s h l = absurd (omega arith)
plain_empty (suc b) [] h l = refl
plain_empty (suc b) (t ∷ s) h l = absurd (omega arith)

plain_start : (b : ℕ) (s : List Placed) → 1 ≤ b → read_plain b s ≡ plain_step (read_plain (b - 1)) (b - 1) s
unfolding read_plain
plain_start zero s h = absurd (omega arith)
plain_start (suc b) s h = let p : suc b - 1 ≡ b = omega arith in rw p refl

module _ (b : ℕ) (s : List Placed) (t : Placed) (v : List Placed) (pos : 1 ≤ b) (first : s ≡ t ∷ v) where
  at_lead : (i : TypeLead) → type_lead t ≡ i → read_plain b s ≡ plain_by (read_plain (b - 1)) (b - 1) i (t ∷ v)
  unfolding plain_step switch
  at_lead i led = plain_start b s pos ∙ rw (first, led) refl

  pub boolean_is : type_lead t ≡ TypeLead.Plain PlainLead.Boolean → read_plain b s ≡ found (plain_on t.line PlainForm.boolean) v
  unfolding plain_by after_first boolean_tail
  boolean_is led = at_lead (TypeLead.Plain PlainLead.Boolean) led

  pub enumeration_is : type_lead t ≡ TypeLead.Plain PlainLead.Enumeration
      → read_plain b s ≡ (enclosed (is_sign Sign.CloseBrace) (commas (accept constant_of)) v >>= λ cs r. found (plain_on t.line (PlainForm.enumeration cs)) r)
  unfolding plain_by after_first enumeration_tail
  enumeration_is led = at_lead (TypeLead.Plain PlainLead.Enumeration) led

  pub ends_is : type_lead t ≡ TypeLead.Plain PlainLead.Range
      → read_plain b s ≡ (read_ends s >>= λ x r. found (plain_on t.line (PlainForm.range x.0 x.1)) r)
  unfolding plain_by range_here
  ends_is led = at_lead (TypeLead.Plain PlainLead.Range) led ∙ ap (λ (l : List Placed). read_ends l >>= λ x r. found (plain_on t.line (PlainForm.range x.0 x.1)) r) (sym first)

  pub array_is : type_lead t ≡ TypeLead.Plain PlainLead.Array → 1 ≤ b - 1
      → read_plain b s ≡ (both (enclosed (is_key Keyword.Of) read_range) (read_plain (b - 1)) v >>= λ x r. found (plain_on t.line (PlainForm.array x.0.0 x.0.1 x.1)) r)
  unfolding plain_by after_first array_tail with_room
  array_is led h = let p = le-leb 1 (b - 1) h in at_lead (TypeLead.Plain PlainLead.Array) led ∙ rw p refl

  pub array_deep : type_lead t ≡ TypeLead.Plain PlainLead.Array → b ≡ 1 → (n : ℕ) → n ≡ length s → IsTooDeep n (read_plain b s)
  unfolding plain_by with_room
  array_deep led one n l =
      let z : b - 1 ≡ 0 = omega arith in
      let q : read_plain b s ≡ too_deep (t ∷ v) = at_lead (TypeLead.Plain PlainLead.Array) led ∙ rw z refl in
      subst (IsTooDeep n) (sym q) (ap length (sym first) ∙ sym l)

  fails_at : (n : ℕ) → n ≡ length s → read_plain b s ≡ syntax_error (t ∷ v) → IsSyntaxError n (read_plain b s)
  fails_at n l q = subst (IsSyntaxError n) (sym q) (ap length (sym first) ∙ sym l)

  pub process_no_plain : type_lead t ≡ TypeLead.Process → (n : ℕ) → n ≡ length s → IsSyntaxError n (read_plain b s)
  unfolding plain_by
  process_no_plain led n l = fails_at n l (at_lead TypeLead.Process led)

  pub name_no_plain : type_lead t ≡ TypeLead.Name → (n : ℕ) → n ≡ length s → IsSyntaxError n (read_plain b s)
  unfolding plain_by
  name_no_plain led n l = fails_at n l (at_lead TypeLead.Name led)

  pub other_no_plain : type_lead t ≡ TypeLead.Other → (n : ℕ) → n ≡ length s → IsSyntaxError n (read_plain b s)
  unfolding plain_by
  other_no_plain led n l = fails_at n l (at_lead TypeLead.Other led)

-- instances

pub instance_is : (b : ℕ) (process : Bool) (line : ℕ) (s : List Placed)
    → read_instance b process line s ≡ (both (accept name_of) (parameters (read b 1)) s >>= λ x r. found (lined line (TypeForm.instance process x.0 x.1)) r)
unfolding read_instance
instance_is b process line s = refl

module _ (item : List Placed → Reading Placed Tree) (process : Bool) (g : Lined (List ℕ) → ℕ) (line : ℕ) where
  instance_rest : (m : ℕ) (n : List ℕ) → g (lined m n) ≡ line → (y : Reading Placed (Option (List Tree)))
      → ((y >>= λ ps r. let z : Lined (List ℕ) × Option (List Tree) = (lined m n, ps) in found z r) >>= λ x r. found (lined (g x.0) (TypeForm.instance process x.0.form (listed x.1))) r)
      ≡ (((y >>= λ ps r. found (listed ps) r) >>= λ es r. let z : List ℕ × List Tree = (n, es) in found z r) >>= λ x r. found (lined line (TypeForm.instance process x.0 x.1)) r)
  unfolding ◌>>=◌
  instance_rest m n h (found ps r) = ap (λ (l : ℕ). found (lined l (TypeForm.instance process n (listed ps))) r) h
  instance_rest m n h (syntax_error r) = refl
  instance_rest m n h (too_deep r) = refl

  instance_at : (m : ℕ) → ((n : List ℕ) → g (lined m n) ≡ line) → (t : Placed) (s : List Placed) (o : Option (List ℕ))
      → ((accepted (on_its_line m o) t s >>= λ x r. parameters_here item r >>= λ ps v. let z : Lined (List ℕ) × Option (List Tree) = (x, ps) in found z v)
      >>= λ x r. found (lined (g x.0) (TypeForm.instance process x.0.form (listed x.1))) r)
      ≡ ((accepted o t s >>= λ n r. parameters item r >>= λ es v. let z : List ℕ × List Tree = (n, es) in found z v) >>= λ x r. found (lined line (TypeForm.instance process x.0 x.1)) r)
  unfolding accepted ◌>>=◌ parameters
  instance_at m h t s None = refl
  instance_at m h t s (Some n) = instance_rest m n (h n) (parameters_here item s)

  named_instance : (s : List Placed) → ((n : List ℕ) → g (lined (front_line s) n) ≡ line)
      → (named item s >>= λ x r. found (lined (g x.0) (TypeForm.instance process x.0.form (listed x.1))) r) ≡ (both (accept name_of) (parameters item) s >>= λ x r. found (lined line (TypeForm.instance process x.0 x.1)) r)
  unfolding named both accept ◌>>=◌
  named_instance [] h = refl
  named_instance (t ∷ s) h = instance_at t.line h t s (name_of t)

-- types

pub type_empty : (b : ℕ) (s : List Placed) → length s ≡ 0 → IsSyntaxError 0 (read_type b s)
unfolding read_type open_type switch ◌>>=◌
type_empty b [] h = refl
type_empty b (t ∷ s) h = absurd (omega arith)

module _ (b : ℕ) (s : List Placed) (t : Placed) (v : List Placed) (first : s ≡ t ∷ v) where
  type_at : (i : Head) → head_of (type_lead t) ≡ i → open_type b s ≡ type_by b i (t ∷ v)
  unfolding open_type switch
  type_at i led = rw (first, led) refl

  made_at : (y : Reading Placed OpenType) → open_type b s ≡ y → read_type b s ≡ (y >>= λ x r. found x.0 r)
  unfolding read_type
  made_at y h = ap (λ (z : Reading Placed OpenType). z >>= λ x r. found x.0 r) h

  pub plain_type_is : (l : PlainLead) → type_lead t ≡ TypeLead.Plain l → read_type b s ≡ (read_plain b s >>= λ p r. found (lined (plain_line p) (TypeForm.plain p)) r)
  unfolding type_by
  plain_type_is l led =
      made_at (type_by b plain_head (t ∷ v)) (type_at plain_head (ap head_of led))
      ∙ then_made (read_plain b (t ∷ v)) (λ p. let z : OpenType = (lined (plain_line p) (TypeForm.plain p), false) in z) (λ x r. found x.0 r)
      ∙ ap (λ (l : List Placed). read_plain b l >>= λ p r. found (lined (plain_line p) (TypeForm.plain p)) r) (sym first)

  pub process_type_is : type_lead t ≡ TypeLead.Process → read_type b s ≡ read_instance b true t.line v
  unfolding type_by after_first process_tail read_instance
  process_type_is led =
      made_at (type_by b process_head (t ∷ v)) (type_at process_head (ap head_of led))
      ∙ then_made (named (read b 1) v) (λ x. let z : OpenType = (lined t.line (TypeForm.instance true x.0.form (listed x.1)), is_open x.1) in z) (λ x r. found x.0 r)
      ∙ named_instance (read b 1) true (λ x. t.line) t.line v (λ n. refl)

  pub name_type_is : type_lead t ≡ TypeLead.Name → read_type b s ≡ read_instance b false t.line s
  unfolding type_by read_instance
  name_type_is led =
      made_at (type_by b name_head (t ∷ v)) (type_at name_head (ap head_of led))
      ∙ then_made (named (read b 1) (t ∷ v)) (λ x. let z : OpenType = (lined x.0.line (TypeForm.instance false x.0.form (listed x.1)), is_open x.1) in z) (λ x r. found x.0 r)
      ∙ named_instance (read b 1) false (λ x. x.line) t.line (t ∷ v) (λ n. refl)
      ∙ ap (λ (l : List Placed). both (accept name_of) (parameters (read b 1)) l >>= λ x r. found (lined t.line (TypeForm.instance false x.0 x.1)) r) (sym first)

  pub other_no_type : type_lead t ≡ TypeLead.Other → (n : ℕ) → n ≡ length s → IsSyntaxError n (read_type b s)
  unfolding type_by ◌>>=◌
  other_no_type led n l =
      let q : read_type b s ≡ syntax_error (t ∷ v) = made_at (syntax_error (t ∷ v)) (type_at no_head (ap head_of led)) in
      subst (IsSyntaxError n) (sym q) (ap length (sym first) ∙ sym l)
