-- Sections are read exactly.
use Rattle.std.proofs.Common.{◌≡◌, ℕ, ◌+◌, ◌≤◌, cond, Bool, true, false, ◌⊎◌, inl, inr, List, [], ◌∷◌, ◌++◌, length, Option, Some, None, refl, sym, ◌∙◌, ap, subst, arith, append-nil}
use Rattle.reader_laws.specs.Optional.{optional}
use Rattle.reader_laws.specs.Reading.{Reading, ◌>>=◌, after_first, both, expect, many, switch, first_is}
use Rattle.reader_laws.proofs.Readers.{Reads, EachOf, EachFits, ManyEnds, expect_reads, many_reads}
use Rattle.reader_laws.proofs.More.{Both, BothFit, AnyOf, Alternative, map_reads, both_reads, no_alternative, switch_reads, all_end}
use Rattle.reader_laws.proofs.Optional.{OptionIs, OptionFits, OptionEnds, optional_reads}
use Rattle.smv_lexer.specs.declared.keyword.Keyword.{Keyword}
use Rattle.smv_lexer.specs.declared.sign.Sign.{Sign}
use Rattle.smv_lexer.specs.Text.{Kind, Placed}
use Rattle.smv_lexer.specs.Text.Kind.{key, mark}
use Rattle.smv_parser.specs.declared.openings.SectionLead.{SectionLead}
use Rattle.smv_parser.specs.declared.program.Condition.{Condition}
use Rattle.smv_parser.specs.Tree.{Tree, depth}
use Rattle.smv_parser.specs.Words.{Is, Lone, BeginsOn}
use Rattle.smv_parser.specs.Program.{Lined, Declaration, Assignment, Definition, Section, greatest, type_depth, assignment_depth, section_depth}
use Rattle.smv_parser.specs.Programs.{DerivesAssignment, DerivesCondition, DerivesDeclaration, DerivesDefinition, DerivesSection, Expression, OnLine, condition_word}
use Rattle.smv_parser.specs.Tests.{is_sign, sign_is, sign_number}
use Rattle.smv_parser.specs.Openings.{begins_left, begins_name, begins_section, is_section, kind_is_word, kind_left, kind_section, section_lead, some_is}
use Rattle.smv_parser.specs.Reading.{begins_part, read}
use Rattle.smv_parser.specs.ProgramReading.{ClosedSection, closed_section, lined, read_assignment, read_closing, read_declaration, read_definition, section_by, section_tail}
use Rattle.smv_parser.proofs.TokenTests.{sign_is-kind}
use Rattle.smv_parser.proofs.Follow.{Ends}
use Rattle.smv_parser.proofs.Operands.{sign_token, key_token, open_alternative, ends_at, ends_at_sign}
use Rattle.smv_parser.proofs.Shapes.{is_it, sign_of}
use Rattle.smv_parser.proofs.Whole.{expression_reads}
use Rattle.smv_parser.proofs.Starts.{SectionIs, Settled, condition_found, line_of_first, section_is, section_settled}
use Rattle.smv_parser.proofs.Parameters.{each_is, each_of}
use Rattle.smv_parser.proofs.TokenReads.{AnyFits, Free, decide_depth, each_within, greatest_within}
use Rattle.smv_parser.proofs.ItemReads.{assignment_begins, assignment_reads, declaration_begins, declaration_reads, definition_begins, definition_reads}

-- an expression, and a semicolon or none

abbrev SemicolonIs : List Placed → Placed → Type 0
SemicolonIs ts t = (ts ≡ t ∷ []) × (is_sign Sign.Semicolon t ≡ true)

abbrev ClosingIs : List Placed → Tree × Option Placed → Type 0
ClosingIs = Both Expression (OptionIs SemicolonIs)

-- after a semicolon anything may follow
abbrev ClosingBy : Tree → Option Placed → List Placed → Type 0
ClosingBy e None r = Ends 1 e r × (first_is (is_sign Sign.Semicolon) r ≡ false)
ClosingBy e (Some t) r = Unit {0}

closing_last : (e : Tree) (c : List Placed) (o : Option Placed) (r : List Placed) → OptionIs SemicolonIs c o → Ends 1 e (c ++ r) → OptionEnds (is_sign Sign.Semicolon) Free o r → ClosingBy e o r
closing_last e c None r d e1 e2 = (subst (λ (l : List Placed). Ends 1 e (l ++ r)) d e1, e2)
closing_last e c (Some t) r d e1 e2 = tt

closing_link : (e : Tree) (c : List Placed) (o : Option Placed) (r : List Placed) → OptionIs SemicolonIs c o → ClosingBy e o r → Ends 1 e (c ++ r)
unfolding sign_number
closing_link e c None r d h = subst (λ (l : List Placed). Ends 1 e (l ++ r)) (sym d) h.0
closing_link e c (Some t) r d h = subst (λ (l : List Placed). Ends 1 e (l ++ r)) (sym d.0) (ends_at_sign Sign.Semicolon (refl, refl) e t r d.1)

closing_second : (e : Tree) (o : Option Placed) (r : List Placed) → ClosingBy e o r → OptionEnds (is_sign Sign.Semicolon) Free o r
closing_second e None r h = h.1
closing_second e (Some t) r h = tt

option_fits : (o : Option Placed) → OptionFits AnyFits o
option_fits None = tt
option_fits (Some t) = tt

module _ (b : ℕ) (pos : 1 ≤ b) where
  closing_reads : Reads ClosingIs (BothFit (λ e. depth e ≤ b) (OptionFits AnyFits)) (λ z r. ClosingBy z.0 z.1 r) (read_closing b)
  unfolding read_closing sign_number
  closing_reads = both_reads Expression (λ e. depth e ≤ b) (Ends 1) (read b 1) (expression_reads b pos 1)
      (OptionIs SemicolonIs) (OptionFits AnyFits) (OptionEnds (is_sign Sign.Semicolon) Free) (optional (is_sign Sign.Semicolon) (expect (is_sign Sign.Semicolon)))
      (optional_reads (is_sign Sign.Semicolon) SemicolonIs AnyFits Free (expect (is_sign Sign.Semicolon)) (expect_reads (is_sign Sign.Semicolon) (sign_token Sign.Semicolon) refl)
      (λ a t d. (t, [], d.0, d.1)))
      (λ z r. ClosingBy z.0 z.1 r) closing_last closing_link (λ e c o r d h. closing_second e o r h) (λ e. decide_depth (depth e) b)

-- the relation of each section, after its first word
unfoldable pub SectionTail : SectionLead → Placed → List Placed → ClosedSection → Type 0
SectionTail SectionLead.Variables t u x = (ds : List (Lined Declaration)) × (x ≡ (lined t.line (Section.variables ds), false)) × EachOf (OnLine DerivesDeclaration) u ds
SectionTail SectionLead.Assignments t u x = (xs : List (Lined Assignment)) × (x ≡ (lined t.line (Section.assignments xs), false)) × EachOf (OnLine DerivesAssignment) u xs
SectionTail SectionLead.Definitions t u x = (ds : List (Lined Definition)) × (x ≡ (lined t.line (Section.definitions ds), false)) × EachOf (OnLine DerivesDefinition) u ds
SectionTail (SectionLead.Condition c) t u x = (y : Tree × Option Placed) × (x ≡ (lined t.line (Section.condition c y.0), some_is y.1)) × ClosingIs u y
SectionTail SectionLead.Other t u x = ⊥

abbrev pub SectionLed : SectionLead → List Placed → ClosedSection → Type 0
SectionLed i ts x = (t : Placed) × (u : List Placed) × (ts ≡ t ∷ u) × (section_lead t ≡ i) × SectionTail i t u x

abbrev EndsWith : Section → Bool → List Placed → Type 0
EndsWith (Section.variables ds) w r = first_is begins_name r ≡ false
EndsWith (Section.assignments xs) w r = first_is begins_left r ≡ false
EndsWith (Section.definitions ds) w r = first_is begins_name r ≡ false
EndsWith (Section.condition c e) true r = Unit {0}
EndsWith (Section.condition c e) false r = Ends 1 e r × (first_is (is_sign Sign.Semicolon) r ≡ false)

-- what may follow a section, so that it goes no further
abbrev pub SectionEnds : ClosedSection → List Placed → Type 0
SectionEnds x r = EndsWith x.0.form x.1 r

condition_ends : (c : Condition) (e : Tree) (o : Option Placed) (r : List Placed) → ClosingBy e o r → EndsWith (Section.condition c e) (some_is o) r
condition_ends c e None r h = h
condition_ends c e (Some t) r h = tt

condition_ends' : (c : Condition) (e : Tree) (o : Option Placed) (r : List Placed) → EndsWith (Section.condition c e) (some_is o) r → ClosingBy e o r
condition_ends' c e None r h = h
condition_ends' c e (Some t) r h = tt

-- the end of the tokens ends a section
pub section_at_end : (x : ClosedSection) → SectionEnds x []
section_at_end x = by_form x.0.form x.1
  where
    by_form : (s : Section) (w : Bool) → EndsWith s w []
    by_form (Section.variables ds) w = refl
    by_form (Section.assignments xs) w = refl
    by_form (Section.definitions ds) w = refl
    by_form (Section.condition c e) true = tt
    by_form (Section.condition c e) false = ((((λ o i. absurd cc), λ z. refl), λ o i. absurd cc), refl)

-- and so does what begins a section or a module
pub section_settles : (x : ClosedSection) (t : Placed) (r : List Placed) → Settled t.kind → SectionEnds x (t ∷ r)
section_settles x t r h = by_form x.0.form x.1
  where
    by_form : (s : Section) (w : Bool) → EndsWith s w (t ∷ r)
    by_form (Section.variables ds) w = h.4
    by_form (Section.assignments xs) w = h.5
    by_form (Section.definitions ds) w = h.4
    by_form (Section.condition c e) true = tt
    by_form (Section.condition c e) false = (ends_at 1 e t r h.0 h.1, h.2)

pub section_goes_on : (x : ClosedSection) (r : List Placed) → first_is begins_section r ≡ true → SectionEnds x r
section_goes_on x [] h = absurd cc
section_goes_on x (t ∷ r) h = section_settles x t r (section_settled t.kind h)

some_section : AnyOf SectionLed (key_token Keyword.Var ∷ []) (lined 0 (Section.variables []), false)
unfolding SectionTail
some_section = (SectionLead.Variables, (key_token Keyword.Var, [], refl, refl, ([], refl, refl)))

module _ (b : ℕ) (pos : 1 ≤ b) where
  abbrev SectionFits : ClosedSection → Type 0
  SectionFits x = section_depth x.0.form ≤ b

  variables_reads : (t : Placed) → Reads (SectionTail SectionLead.Variables t) SectionFits SectionEnds (section_tail b SectionLead.Variables t)
  unfolding section_tail SectionTail
  variables_reads t = map_reads (EachOf (OnLine DerivesDeclaration)) (EachFits (λ d. type_depth d.form.form ≤ b)) (ManyEnds begins_name Free) (λ s. many begins_name (read_declaration b) (length s) s)
      (many_reads begins_name (OnLine DerivesDeclaration) (λ d. type_depth d.form.form ≤ b) Free (read_declaration b) (declaration_reads b pos) declaration_begins (λ x r h. tt) (λ d. decide_depth (type_depth d.form.form) b))
      (λ ds. (lined t.line (Section.variables ds), false)) (SectionTail SectionLead.Variables t) SectionFits SectionEnds
      (λ a x d. (x, refl, d)) (λ a x d. d) (λ ds h. greatest_within (λ d. type_depth d.form.form) b ds h) (λ ds h. each_within (λ d. type_depth d.form.form) b ds h)
      (λ a ds r d e. e.0) (λ a ds r d e. (e, all_end Free r (λ x. tt) ds))

  assignments_reads : (t : Placed) → Reads (SectionTail SectionLead.Assignments t) SectionFits SectionEnds (section_tail b SectionLead.Assignments t)
  unfolding section_tail SectionTail
  assignments_reads t = map_reads (EachOf (OnLine DerivesAssignment)) (EachFits (λ x. assignment_depth x ≤ b)) (ManyEnds begins_left Free) (λ s. many begins_left (read_assignment b) (length s) s)
      (many_reads begins_left (OnLine DerivesAssignment) (λ x. assignment_depth x ≤ b) Free (read_assignment b) (assignment_reads b pos) assignment_begins (λ x r h. tt) (λ x. decide_depth (assignment_depth x) b))
      (λ xs. (lined t.line (Section.assignments xs), false)) (SectionTail SectionLead.Assignments t) SectionFits SectionEnds
      (λ a x d. (x, refl, d)) (λ a x d. d) (λ xs h. greatest_within assignment_depth b xs h) (λ xs h. each_within assignment_depth b xs h)
      (λ a xs r d e. e.0) (λ a xs r d e. (e, all_end Free r (λ x. tt) xs))

  definitions_reads : (t : Placed) → Reads (SectionTail SectionLead.Definitions t) SectionFits SectionEnds (section_tail b SectionLead.Definitions t)
  unfolding section_tail SectionTail
  definitions_reads t = map_reads (EachOf (OnLine DerivesDefinition)) (EachFits (λ d. depth d.form.right ≤ b)) (ManyEnds begins_name Free) (λ s. many begins_name (read_definition b) (length s) s)
      (many_reads begins_name (OnLine DerivesDefinition) (λ d. depth d.form.right ≤ b) Free (read_definition b) (definition_reads b pos) definition_begins (λ x r h. tt) (λ d. decide_depth (depth d.form.right) b))
      (λ ds. (lined t.line (Section.definitions ds), false)) (SectionTail SectionLead.Definitions t) SectionFits SectionEnds
      (λ a x d. (x, refl, d)) (λ a x d. d) (λ ds h. greatest_within (λ d. depth d.form.right) b ds h) (λ ds h. each_within (λ d. depth d.form.right) b ds h)
      (λ a ds r d e. e.0) (λ a ds r d e. (e, all_end Free r (λ x. tt) ds))

  condition_reads : (c : Condition) (t : Placed) → Reads (SectionTail (SectionLead.Condition c) t) SectionFits SectionEnds (section_tail b (SectionLead.Condition c) t)
  unfolding section_tail SectionTail
  condition_reads c t = map_reads ClosingIs (BothFit (λ e. depth e ≤ b) (OptionFits AnyFits)) (λ z r. ClosingBy z.0 z.1 r) (read_closing b) (closing_reads b pos)
      (λ y. (lined t.line (Section.condition c y.0), some_is y.1)) (SectionTail (SectionLead.Condition c) t) SectionFits SectionEnds
      (λ a x d. (x, refl, d)) (λ a x d. d) (λ y h. h.0) (λ y h. (h, option_fits y.1))
      (λ a y r d e. condition_ends c y.0 y.1 r e) (λ a y r d e. condition_ends' c y.0 y.1 r e)

  section_alternative : (i : SectionLead) → Alternative section_lead SectionLed SectionFits SectionEnds (section_by b) i
  unfolding section_by SectionTail
  section_alternative SectionLead.Variables = open_alternative b section_lead SectionTail SectionFits SectionEnds (section_by b) (key_token Keyword.Var ∷ [], (lined 0 (Section.variables []), false), some_section, omega arith)
      SectionLead.Variables (section_tail b SectionLead.Variables) variables_reads (λ s. refl)
  section_alternative SectionLead.Assignments = open_alternative b section_lead SectionTail SectionFits SectionEnds (section_by b) (key_token Keyword.Var ∷ [], (lined 0 (Section.variables []), false), some_section, omega arith)
      SectionLead.Assignments (section_tail b SectionLead.Assignments) assignments_reads (λ s. refl)
  section_alternative SectionLead.Definitions = open_alternative b section_lead SectionTail SectionFits SectionEnds (section_by b) (key_token Keyword.Var ∷ [], (lined 0 (Section.variables []), false), some_section, omega arith)
      SectionLead.Definitions (section_tail b SectionLead.Definitions) definitions_reads (λ s. refl)
  section_alternative (SectionLead.Condition c) = open_alternative b section_lead SectionTail SectionFits SectionEnds (section_by b) (key_token Keyword.Var ∷ [], (lined 0 (Section.variables []), false), some_section, omega arith)
      (SectionLead.Condition c) (section_tail b (SectionLead.Condition c)) (condition_reads c) (λ s. refl)
  section_alternative SectionLead.Other = no_alternative section_lead SectionLed SectionFits SectionEnds (section_by b) (key_token Keyword.Var ∷ [], (lined 0 (Section.variables []), false), some_section, omega arith)
      SectionLead.Other (λ a x d. d.4) (λ s. refl)

  pub section_reads : Reads (AnyOf SectionLed) SectionFits SectionEnds (closed_section b)
  unfolding closed_section
  section_reads = switch_reads section_lead SectionLed SectionFits SectionEnds (section_by b) (key_token Keyword.Var ∷ [], (lined 0 (Section.variables []), false), some_section, omega arith) section_alternative

pub section_begins : (ts : List Placed) (x : ClosedSection) → AnyOf SectionLed ts x → (t : Placed) × (u : List Placed) × (ts ≡ t ∷ u) × (begins_section t ≡ true)
unfolding SectionTail
section_begins ts x (SectionLead.Variables, (t, u, q, h, d)) = (t, u, q, ap is_section h)
section_begins ts x (SectionLead.Assignments, (t, u, q, h, d)) = (t, u, q, ap is_section h)
section_begins ts x (SectionLead.Definitions, (t, u, q, h, d)) = (t, u, q, ap is_section h)
section_begins ts x (SectionLead.Condition c, (t, u, q, h, d)) = (t, u, q, ap is_section h)
section_begins ts x (SectionLead.Other, (t, u, q, h, d)) = absurd d

-- these are the grammar's sections

word_of : (t : Placed) (i : SectionLead) → section_lead t ≡ i → SectionIs t.kind i
word_of t i h = subst (SectionIs t.kind) h (section_is t.kind)

closing_to : (c : List Placed) (o : Option Placed) → OptionIs SemicolonIs c o → (c ≡ []) ⊎ Lone (mark Sign.Semicolon) c
closing_to c None d = inl d
closing_to c (Some t) d = inr (t, d.0, sign_of Sign.Semicolon t d.1)

closing_from : (c : List Placed) → (c ≡ []) ⊎ Lone (mark Sign.Semicolon) c → (o : Option Placed) × OptionIs SemicolonIs c o
closing_from c (inl d) = (None, d)
closing_from c (inr (t, q, i)) = (Some t, (q, is_it Sign.Semicolon t i))

pub section_to : (ts : List Placed) (x : ClosedSection) → AnyOf SectionLed ts x → OnLine DerivesSection ts x.0
unfolding SectionTail
section_to ts x (SectionLead.Variables, (t, u, q, h, (ds, e, d))) =
    subst (λ (y : ClosedSection). OnLine DerivesSection ts y.0) (sym e)
    ((t, u, q, word_of t SectionLead.Variables h, each_is (OnLine DerivesDeclaration) (OnLine DerivesDeclaration) (λ a y i. i) u ds d), subst (BeginsOn t.line) (sym q) refl)
section_to ts x (SectionLead.Assignments, (t, u, q, h, (xs, e, d))) =
    subst (λ (y : ClosedSection). OnLine DerivesSection ts y.0) (sym e)
    ((t, u, q, word_of t SectionLead.Assignments h, each_is (OnLine DerivesAssignment) (OnLine DerivesAssignment) (λ a y i. i) u xs d), subst (BeginsOn t.line) (sym q) refl)
section_to ts x (SectionLead.Definitions, (t, u, q, h, (ds, e, d))) =
    subst (λ (y : ClosedSection). OnLine DerivesSection ts y.0) (sym e)
    ((t, u, q, word_of t SectionLead.Definitions h, each_is (OnLine DerivesDefinition) (OnLine DerivesDefinition) (λ a y i. i) u ds d), subst (BeginsOn t.line) (sym q) refl)
section_to ts x (SectionLead.Condition c, (t, u, q, h, (y, e, (a, w, q', d, o)))) =
    subst (λ (y : ClosedSection). OnLine DerivesSection ts y.0) (sym e)
    ((t, u, q, word_of t (SectionLead.Condition c) h, (a, w, q', d, closing_to w y.1 o)), subst (BeginsOn t.line) (sym q) refl)
section_to ts x (SectionLead.Other, (t, u, q, h, d)) = absurd d

section_from_parts : (ts : List Placed) (l : ℕ) (s : Section) → DerivesSection ts s → BeginsOn l ts → (w : Bool) × AnyOf SectionLed ts (lined l s, w)
unfolding SectionTail
section_from_parts ts l (Section.variables ds) (t, u, q, i, d) begins = (
  false,
  (
    SectionLead.Variables,
    (
      t,
      u,
      q,
      ap kind_section i,
      (ds, ap (λ (n : ℕ). (lined n (Section.variables ds), false)) (sym (line_of_first l ts t u q begins)), each_of (OnLine DerivesDeclaration) (OnLine DerivesDeclaration) (λ a y i. i) u ds d),
    ),
  ),
)
section_from_parts ts l (Section.assignments xs) (t, u, q, i, d) begins = (
  false,
  (
    SectionLead.Assignments,
    (
      t,
      u,
      q,
      ap kind_section i,
      (xs, ap (λ (n : ℕ). (lined n (Section.assignments xs), false)) (sym (line_of_first l ts t u q begins)), each_of (OnLine DerivesAssignment) (OnLine DerivesAssignment) (λ a y i. i) u xs d),
    ),
  ),
)
section_from_parts ts l (Section.definitions ds) (t, u, q, i, d) begins = (
  false,
  (
    SectionLead.Definitions,
    (
      t,
      u,
      q,
      ap kind_section i,
      (ds, ap (λ (n : ℕ). (lined n (Section.definitions ds), false)) (sym (line_of_first l ts t u q begins)), each_of (OnLine DerivesDefinition) (OnLine DerivesDefinition) (λ a y i. i) u ds d),
    ),
  ),
)
section_from_parts ts l (Section.condition c e) (t, u, q, i, (a, w, q', d, o)) begins =
    let k = closing_from w o in (
      some_is k.0,
      (
        SectionLead.Condition c,
        (
          t,
          u,
          q,
          ap kind_section i ∙ condition_found c,
          ((e, k.0), ap (λ (n : ℕ). (lined n (Section.condition c e), some_is k.0)) (sym (line_of_first l ts t u q begins)), (a, w, q', d, k.1)),
        ),
      ),
    )

pub section_from : (ts : List Placed) (s : Lined Section) → OnLine DerivesSection ts s → (x : ClosedSection) × (s ≡ x.0) × AnyOf SectionLed ts x
section_from ts s d = let w = section_from_parts ts s.line s.form d.0 d.1 in ((s, w.0), refl, w.1)
