-- Types are read exactly.
use Rattle.std.proofs.Common.{◌≡◌, ℕ, ◌+◌, ◌≤◌, Bool, true, false, ◌⊎◌, inl, inr, List, [], ◌∷◌, ◌++◌, Option, Some, None, refl, sym, ◌∙◌, ap, subst, arith}
use Rattle.reader_laws.specs.Reading.{Reading, ◌>>=◌, accept, after_first, enclosed, both, switch, first_is}
use Rattle.reader_laws.specs.Reading.Reading.{found}
use Rattle.reader_laws.proofs.Readers.{Reads, EachFits}
use Rattle.reader_laws.proofs.More.{Enclosed, Both, BothFit, AnyOf, Alternative, map_reads, enclosed_reads, both_reads, reads_alternative, no_alternative, switch_reads}
use Rattle.reader_laws.proofs.Optional.{OptionFits, decide_option}
use Rattle.reader_laws.proofs.Mapped.{reads_same, enclosed_made}
use Rattle.smv_lexer.specs.declared.keyword.Keyword.{Keyword}
use Rattle.smv_lexer.specs.declared.sign.Sign.{Sign}
use Rattle.smv_lexer.specs.Text.{Kind, Placed}
use Rattle.smv_lexer.specs.Text.Kind.{word, key, mark}
use Rattle.smv_parser.specs.declared.openings.PlainLead.{PlainLead}
use Rattle.smv_parser.specs.declared.openings.TypeLead.{TypeLead}
use Rattle.smv_parser.specs.Tree.{Tree, depth}
use Rattle.smv_parser.specs.Words.{Is, BeginsOn}
use Rattle.smv_parser.specs.Program.{Lined, Plain, PlainForm, TypeForm, plain_on, plain_depth, greatest, type_depth}
use Rattle.smv_parser.specs.Programs.{DerivesName, DerivesPlain, DerivesType, Expression, OnLine, Parameters}
use Rattle.smv_parser.specs.Tests.{is_sign, sign_is, sign_number, kind_lead, sign_lead}
use Rattle.smv_parser.specs.Openings.{formal_of, kind_type, type_lead}
use Rattle.smv_parser.specs.Reading.{read, leads, begins_expression}
use Rattle.smv_parser.specs.ProgramReading.{lined, OpenType, Head, plain_head, process_head, name_head, no_head, head_of, is_open, listed, named, parameters_here, plain_line, read_plain, process_tail, type_by, open_type, read_type}
use Rattle.smv_parser.proofs.TokenTests.{sign_is-kind}
use Rattle.smv_parser.proofs.Follow.{Ends}
use Rattle.smv_parser.proofs.Leads.{first_leads}
use Rattle.smv_parser.proofs.Operators.{some_name, some_tree}
use Rattle.smv_parser.proofs.Operands.{sign_token, key_token, open_alternative, ends_at_sign, comma_goes_on}
use Rattle.smv_parser.proofs.Whole.{expression_reads}
use Rattle.smv_parser.proofs.Starts.{line_of_first}
use Rattle.smv_parser.proofs.Parameters.{HereIs, HereEnds, here_reads, parameters_to, parameters_from}
use Rattle.smv_parser.proofs.TokenReads.{AnyFits, Free, decide_depth, each_within, greatest_within, formal_reads, same_first_line}
use Rattle.smv_parser.proofs.PlainReads.{PlainTail, PlainLed, plain_begins, plain_reads, plain_shape, some_plain}

-- no expression begins with a closing parenthesis
sign_no_paren : (s : Sign) → leads (sign_lead s) ≡ true → sign_is Sign.CloseParen (mark s) ≡ false
unfolding sign_number
sign_no_paren Sign.CloseParen h = absurd cc
sign_no_paren _ h = refl

kind_no_paren : (k : Kind) → leads (kind_lead k) ≡ true → sign_is Sign.CloseParen k ≡ false
kind_no_paren (word w) h = refl
kind_no_paren (Kind.number n) h = refl
kind_no_paren (key k) h = refl
kind_no_paren (mark s) h = sign_no_paren s h

pub expression_no_paren : (a : List Placed) (e : Tree) → Expression a e → (t : Placed) × (u : List Placed) × (a ≡ t ∷ u) × (is_sign Sign.CloseParen t ≡ false)
expression_no_paren a e d = let w = first_leads false 1 a e d in (w.0, w.1, w.2, kind_no_paren w.0.kind w.3)

paren_ends : (e : Tree) (c : Placed) (r : List Placed) → is_sign Sign.CloseParen c ≡ true → Ends 1 e (c ∷ r)
unfolding sign_number
paren_ends e c r h = ends_at_sign Sign.CloseParen (refl, refl) e c r h

-- whether an open type is followed by a parenthesis is asked where none stood
abbrev pub TypeEnds : OpenType → List Placed → Type 0
TypeEnds x r = x.1 ≡ true → first_is (is_sign Sign.OpenParen) r ≡ false

ends_to : {A : Type 0} (ps : Option (List A)) (r : List Placed) → HereEnds ps r → is_open ps ≡ true → first_is (is_sign Sign.OpenParen) r ≡ false
ends_to None r e h = e
ends_to (Some xs) r e h = absurd cc

ends_from : {A : Type 0} (ps : Option (List A)) (r : List Placed) → (is_open ps ≡ true → first_is (is_sign Sign.OpenParen) r ≡ false) → HereEnds ps r
ends_from None r e = e refl
ends_from (Some xs) r e = tt

abbrev pub NamedIs : List Placed → Lined (List ℕ) × Option (List Tree) → Type 0
NamedIs = Both (OnLine DerivesName) (HereIs Expression)

-- the relation of each type, by its first token
unfoldable pub TypeTail : Head → Placed → List Placed → OpenType → Type 0
TypeTail plain_head t u x = (p : Plain) × (x ≡ (lined (plain_line p) (TypeForm.plain p), false)) × DerivesPlain (t ∷ u) p
TypeTail process_head t u x = (y : Lined (List ℕ) × Option (List Tree)) × (x ≡ (lined t.line (TypeForm.instance true y.0.form (listed y.1)), is_open y.1)) × NamedIs u y
TypeTail name_head t u x = (y : Lined (List ℕ) × Option (List Tree)) × (x ≡ (lined y.0.line (TypeForm.instance false y.0.form (listed y.1)), is_open y.1)) × NamedIs (t ∷ u) y
TypeTail no_head t u x = ⊥

abbrev pub head_at : Placed → Head
head_at t = head_of (type_lead t)

abbrev pub TypeLed : Head → List Placed → OpenType → Type 0
TypeLed i ts x = (t : Placed) × (u : List Placed) × (ts ≡ t ∷ u) × (head_at t ≡ i) × TypeTail i t u x

plain_lead_head : (i : TypeLead) (t : Placed) (u : List Placed) (p : Plain) → PlainTail i t u p → head_of i ≡ plain_head
unfolding PlainTail
plain_lead_head (TypeLead.Plain l) t u p d = refl
plain_lead_head TypeLead.Process t u p d = absurd d
plain_lead_head TypeLead.Name t u p d = absurd d
plain_lead_head TypeLead.Other t u p d = absurd d

-- a plain type's first token
pub plain_first : (ts : List Placed) (p : Plain) → DerivesPlain ts p → (t : Placed) × (u : List Placed) × (ts ≡ t ∷ u) × (head_at t ≡ plain_head)
plain_first ts p d = let (i, (t, u, q, h, e)) = plain_shape ts p d in (t, u, q, ap head_of h ∙ plain_lead_head i t u p e)

abbrev HeadIs : Kind → Head → Type 0
HeadIs k plain_head = Unit {0}
HeadIs k process_head = k ≡ key Keyword.Process
HeadIs k name_head = Unit {0}
HeadIs k no_head = Unit {0}

by_lead : (k : Kind) (i : TypeLead) → Rattle.smv_parser.proofs.Starts.TypeIs k i → HeadIs k (head_of i)
by_lead k (TypeLead.Plain p) h = tt
by_lead k TypeLead.Process h = h
by_lead k TypeLead.Name h = tt
by_lead k TypeLead.Other h = tt

process_word : (t : Placed) → head_at t ≡ process_head → Is (key Keyword.Process) t
process_word t h = subst (HeadIs t.kind) h (by_lead t.kind (type_lead t) (Rattle.smv_parser.proofs.Starts.type_is t.kind))

named_first : (a : List Placed) (y : Lined (List ℕ) × Option (List Tree)) → NamedIs a y → (t : Placed) × (u : List Placed) × (a ≡ t ∷ u) × (head_at t ≡ name_head)
named_first a y (m, n, q, ((t, r, i), l), d) = (t, n, q ∙ ap (λ (z : List Placed). z ++ n) r, ap (λ (k : Kind). head_of (kind_type k)) i)

module _ (b : ℕ) (pos : 1 ≤ b) where
  abbrev TypeFits : OpenType → Type 0
  TypeFits x = type_depth x.0 ≤ b

  pub actuals_reads : Reads (HereIs Expression) (OptionFits (EachFits (λ e. depth e ≤ b))) HereEnds (parameters_here (read b 1))
  actuals_reads = here_reads Expression (λ e. depth e ≤ b) (Ends 1) (read b 1) (expression_reads b pos 1) comma_goes_on (λ e. decide_depth (depth e) b) paren_ends expression_no_paren

  abbrev NamedFits : Lined (List ℕ) × Option (List Tree) → Type 0
  NamedFits = BothFit AnyFits (OptionFits (EachFits (λ e. depth e ≤ b)))

  named_reads : Reads NamedIs NamedFits (λ y r. HereEnds y.1 r) (named (read b 1))
  unfolding named
  named_reads = both_reads (OnLine DerivesName) AnyFits Free (accept formal_of) formal_reads
      (HereIs Expression) (OptionFits (EachFits (λ e. depth e ≤ b))) HereEnds (parameters_here (read b 1)) actuals_reads
      (λ y r. HereEnds y.1 r) (λ x c y r d e1 e2. e2) (λ x c y r d e. tt) (λ x c y r d e. e) (λ x. inl tt)

  actuals_fit : (ps : Option (List Tree)) → OptionFits (EachFits (λ e. depth e ≤ b)) ps → greatest depth (listed ps) ≤ b
  actuals_fit None h = omega arith
  actuals_fit (Some es) h = greatest_within depth b es h

  actuals_fit' : (ps : Option (List Tree)) → greatest depth (listed ps) ≤ b → OptionFits (EachFits (λ e. depth e ≤ b)) ps
  actuals_fit' None h = tt
  actuals_fit' (Some es) h = each_within depth b es h

  plain_type : Reads (TypeLed plain_head) TypeFits TypeEnds (type_by b plain_head)
  unfolding type_by TypeTail
  plain_type = map_reads DerivesPlain (λ p. plain_depth p ≤ b) Free (read_plain b) (plain_reads b pos)
      (λ p. (lined (plain_line p) (TypeForm.plain p), false)) (TypeLed plain_head) TypeFits TypeEnds
      (λ a p d. let w = plain_first a p d in (w.0, w.1, w.2, w.3, (p, refl, subst (λ (l : List Placed). DerivesPlain l p) w.2 d)))
      (λ a x d. (d.4.0, d.4.1, subst (λ (l : List Placed). DerivesPlain l d.4.0) (sym d.2) d.4.2))
      (λ p h. h) (λ p h. h) (λ a p r d e. λ h. absurd cc) (λ a p r d e. tt)

  process_type : (t : Placed) → Reads (TypeTail process_head t) TypeFits TypeEnds (process_tail b t)
  unfolding process_tail TypeTail
  process_type t = map_reads NamedIs NamedFits (λ y r. HereEnds y.1 r) (named (read b 1)) named_reads
      (λ y. (lined t.line (TypeForm.instance true y.0.form (listed y.1)), is_open y.1)) (TypeTail process_head t) TypeFits TypeEnds
      (λ a y d. (y, refl, d)) (λ a x d. d) (λ y h. actuals_fit y.1 h.1) (λ y h. (tt, actuals_fit' y.1 h))
      (λ a y r d e. ends_to y.1 r e) (λ a y r d e. ends_from y.1 r e)

  name_type : Reads (TypeLed name_head) TypeFits TypeEnds (type_by b name_head)
  unfolding type_by TypeTail
  name_type = map_reads NamedIs NamedFits (λ y r. HereEnds y.1 r) (named (read b 1)) named_reads
      (λ y. (lined y.0.line (TypeForm.instance false y.0.form (listed y.1)), is_open y.1)) (TypeLed name_head) TypeFits TypeEnds
      (λ a y d. let w = named_first a y d in (w.0, w.1, w.2, w.3, (y, refl, subst (λ (l : List Placed). NamedIs l y) w.2 d)))
      (λ a x d. (d.4.0, d.4.1, subst (λ (l : List Placed). NamedIs l d.4.0) (sym d.2) d.4.2))
      (λ y h. actuals_fit y.1 h.1) (λ y h. (tt, actuals_fit' y.1 h))
      (λ a y r d e. ends_to y.1 r e) (λ a y r d e. ends_from y.1 r e)

  some_type : AnyOf TypeLed (key_token Keyword.Boolean ∷ []) (lined 0 (TypeForm.plain (plain_on 0 PlainForm.boolean)), false)
  unfolding TypeTail
  some_type = (plain_head, (key_token Keyword.Boolean, [], refl, refl, (plain_on 0 PlainForm.boolean, refl, some_plain)))

  type_alternative : (i : Head) → Alternative head_at TypeLed TypeFits TypeEnds (type_by b) i
  unfolding TypeTail type_by
  type_alternative plain_head = reads_alternative head_at TypeLed TypeFits TypeEnds (type_by b) (key_token Keyword.Boolean ∷ [], (lined 0 (TypeForm.plain (plain_on 0 PlainForm.boolean)), false), some_type, pos)
      plain_head (λ a x d. (d.0, d.1, d.2, d.3)) plain_type
  type_alternative process_head = open_alternative b head_at TypeTail TypeFits TypeEnds (type_by b) (key_token Keyword.Boolean ∷ [], (lined 0 (TypeForm.plain (plain_on 0 PlainForm.boolean)), false), some_type, pos)
      process_head (process_tail b) process_type (λ s. refl)
  type_alternative name_head = reads_alternative head_at TypeLed TypeFits TypeEnds (type_by b) (key_token Keyword.Boolean ∷ [], (lined 0 (TypeForm.plain (plain_on 0 PlainForm.boolean)), false), some_type, pos)
      name_head (λ a x d. (d.0, d.1, d.2, d.3)) name_type
  type_alternative no_head = no_alternative head_at TypeLed TypeFits TypeEnds (type_by b) (key_token Keyword.Boolean ∷ [], (lined 0 (TypeForm.plain (plain_on 0 PlainForm.boolean)), false), some_type, pos)
      no_head (λ a x d. d.4) (λ s. refl)

  open_reads : Reads (AnyOf TypeLed) TypeFits TypeEnds (open_type b)
  unfolding open_type
  open_reads = switch_reads head_at TypeLed TypeFits TypeEnds (type_by b) (key_token Keyword.Boolean ∷ [], (lined 0 (TypeForm.plain (plain_on 0 PlainForm.boolean)), false), some_type, pos) type_alternative

-- these are the grammar's types

type_to : (ts : List Placed) (x : OpenType) → AnyOf TypeLed ts x → OnLine DerivesType ts x.0
unfolding TypeTail
type_to ts x (plain_head, (t, u, q, h, (p, e, d))) =
    let d' : DerivesPlain ts p = subst (λ (l : List Placed). DerivesPlain l p) (sym q) d in
    subst (λ (y : OpenType). OnLine DerivesType ts y.0) (sym e) (d', plain_begins ts p d')
type_to ts x (process_head, (t, u, q, h, (y, e, (a, b, q', ((n, q'', i), l), ps)))) =
    subst (λ (z : OpenType). OnLine DerivesType ts z.0) (sym e) (
      (n, t ∷ [], b, q ∙ ap (λ (z : List Placed). t ∷ z) (q' ∙ ap (λ (z : List Placed). z ++ b) q''), (t, refl, process_word t h), i, parameters_to Expression b y.1 ps),
      subst (BeginsOn t.line) (sym q) refl,
    )
type_to ts x (name_head, (t, u, q, h, (y, e, (a, b, q', ((n, q'', i), l), ps)))) =
    let whole : ts ≡ n ∷ b = q ∙ q' ∙ ap (λ (z : List Placed). z ++ b) q'' in
    subst (λ (z : OpenType). OnLine DerivesType ts z.0) (sym e) (
      (n, [], b, whole, refl, i, parameters_to Expression b y.1 ps),
      subst (BeginsOn y.0.line) (sym whole) (line_of_first y.0.line a n [] q'' l),
    )
type_to ts x (no_head, (t, u, q, h, d)) = absurd d

type_from : (ts : List Placed) (l : ℕ) (form : TypeForm) → DerivesType ts form → BeginsOn l ts → (w : Bool) × AnyOf TypeLed ts (lined l form, w)
unfolding TypeTail
type_from ts l (TypeForm.plain p) d begins =
    let w = plain_first ts p d in (
      false,
      (
        plain_head,
        (
          w.0,
          w.1,
          w.2,
          w.3,
          (p, ap (λ (n : ℕ). (lined n (TypeForm.plain p), false)) (same_first_line l (plain_line p) ts begins (plain_begins ts p d)), subst (λ (s : List Placed). DerivesPlain s p) w.2 d),
        ),
      ),
    )
type_from ts l (TypeForm.instance true of es) (n, a, b, q, (t, q', k), i, ps) begins =
    let w = parameters_from Expression b es ps in
    let whole : ts ≡ t ∷ n ∷ b = q ∙ ap (λ (z : List Placed). z ++ n ∷ b) q' in (
      is_open w.0,
      (
        process_head,
        (
          t,
          n ∷ b,
          whole,
          ap (λ (j : Kind). head_of (kind_type j)) k,
          (
            (lined n.line of, w.0),
            ap (λ (m : ℕ). (lined m (TypeForm.instance true of es), is_open w.0)) (sym (line_of_first l ts t (n ∷ b) whole begins))
                ∙ ap (λ (xs : List Tree). (lined t.line (TypeForm.instance true of xs), is_open w.0)) w.1,
            (n ∷ [], b, refl, ((n, refl, i), refl), w.2),
          ),
        ),
      ),
    )
type_from ts l (TypeForm.instance false of es) (n, a, b, q, none, i, ps) begins =
    let w = parameters_from Expression b es ps in
    let whole : ts ≡ n ∷ b = q ∙ ap (λ (z : List Placed). z ++ n ∷ b) none in (
      is_open w.0,
      (
        name_head,
        (
          n,
          b,
          whole,
          ap (λ (j : Kind). head_of (kind_type j)) i,
          (
            (lined n.line of, w.0),
            ap (λ (m : ℕ). (lined m (TypeForm.instance false of es), is_open w.0)) (sym (line_of_first l ts n b whole begins))
                ∙ ap (λ (xs : List Tree). (lined n.line (TypeForm.instance false of xs), is_open w.0)) w.1,
            (n ∷ [], b, refl, ((n, refl, i), refl), w.2),
          ),
        ),
      ),
    )

-- a type and the semicolon after it
module _ (b : ℕ) (pos : 1 ≤ b) where
  pub typed_reads : Reads (Enclosed (is_sign Sign.Semicolon) (OnLine DerivesType)) (λ x. type_depth x ≤ b) Free (enclosed (is_sign Sign.Semicolon) (read_type b))
  unfolding read_type sign_number
  typed_reads = reads_same (Enclosed (is_sign Sign.Semicolon) (OnLine DerivesType)) (λ x. type_depth x ≤ b) Free
      (λ s. enclosed (is_sign Sign.Semicolon) (open_type b) s >>= λ x r. found x.0 r) (enclosed (is_sign Sign.Semicolon) (read_type b))
      (map_reads (Enclosed (is_sign Sign.Semicolon) (AnyOf TypeLed)) (λ x. type_depth x.0 ≤ b) Free (enclosed (is_sign Sign.Semicolon) (open_type b))
      (enclosed_reads (is_sign Sign.Semicolon) (sign_token Sign.Semicolon) refl (AnyOf TypeLed) (λ x. type_depth x.0 ≤ b) TypeEnds (open_type b) (open_reads b pos)
      (λ x c r h. λ i. semicolon_no_paren c h) (λ x. decide_depth (type_depth x.0) b))
      (λ x. x.0) (Enclosed (is_sign Sign.Semicolon) (OnLine DerivesType)) (λ x. type_depth x ≤ b) Free
      (λ a x d. (d.0, d.1, d.2, d.3, type_to d.1 x d.4))
      (λ a f d. let w = type_from d.1 f.line f.form d.4.0 d.4.1 in ((f, w.0), refl, (d.0, d.1, d.2, d.3, w.1)))
      (λ x h. h) (λ x h. h) (λ a x r d e. tt) (λ a x r d e. tt))
      (enclosed_made (λ x. x.0) (open_type b) (read_type b) (λ s. refl) (is_sign Sign.Semicolon))
    where
      semicolon_no_paren : (c : Placed) → is_sign Sign.Semicolon c ≡ true → is_sign Sign.OpenParen c ≡ false
      semicolon_no_paren c h = subst (λ (k : Kind). sign_is Sign.OpenParen k ≡ false) (sym (sign_is-kind Sign.Semicolon c.kind h)) refl
