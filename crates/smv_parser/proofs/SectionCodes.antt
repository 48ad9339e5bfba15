-- One step each of the code of sections and modules, in terms of reading.
use Rattle.std.proofs.Common.{◌≡◌, ℕ, zero, suc, ◌+◌, ◌-◌, Bool, true, false, List, [], ◌∷◌, map, length, refl, sym, ◌∙◌, ap, subst, arith, Option, Some, None}
use Rattle.reader_laws.specs.Optional.{optional}
use Rattle.reader_laws.specs.Reading.{Reading, ◌>>=◌, accept, after_first, enclosed, expect, first_is, headed, both, many, switch}
use Rattle.reader_laws.specs.Reading.Reading.{found, syntax_error, too_deep}
use Rattle.reader_laws.proofs.Readers.{found-then}
use Rattle.reader_laws.proofs.Mapped.{then_made}
use Rattle.smv_lexer.specs.declared.keyword.Keyword.{Keyword}
use Rattle.smv_lexer.specs.declared.sign.Sign.{Sign}
use Rattle.smv_lexer.specs.Text.{Placed}
use Rattle.smv_parser.specs.declared.openings.SectionLead.{SectionLead}
use Rattle.smv_parser.specs.declared.program.Condition.{Condition}
use Rattle.smv_parser.specs.declared.program.LeftKind.{LeftKind}
use Rattle.smv_parser.specs.declared.reader.Failure.{Failure}
use Rattle.smv_parser.specs.Gives.{Fails, IsSyntaxError}
use Rattle.smv_parser.specs.Tree.{Tree}
use Rattle.smv_parser.specs.Program.{Lined, Section}
use Rattle.smv_parser.specs.Programs.{greatest_depth}
use Rattle.smv_parser.specs.Tests.{is_sign, is_key, name_of}
use Rattle.smv_parser.specs.Openings.{begins_left, begins_name, begins_section, formal_of, key_line, left_of, section_lead, some_is}
use Rattle.smv_parser.specs.Reading.{path_line, read, read_path}
use Rattle.smv_parser.specs.ProgramReading.{ClosedSection, closed_section, left_by, left_tail, lined, parameters, path_within, read_assignment, read_closing, read_condition, read_declaration, read_definition, read_formals, read_left, read_module, read_section, read_type, section_by, section_tail}
use Rattle.smv_parser.proofs.Codes.{Fails-then, both_fails}
use Rattle.smv_parser.proofs.ItemCodes.{both_start}

pub declaration_is : (b : ℕ) (s : List Placed) → read_declaration b s
    ≡ (both (enclosed (is_sign Sign.Colon) (accept formal_of)) (enclosed (is_sign Sign.Semicolon) (read_type b)) s >>= λ x r. found (lined x.0.line (record { name = x.0.form; form = x.1 })) r)
unfolding read_declaration
declaration_is b s = refl

pub assignment_is : (b : ℕ) (s : List Placed) → read_assignment b s
    ≡ (both (enclosed (is_sign Sign.Becomes) (read_left b)) (enclosed (is_sign Sign.Semicolon) (read b 1)) s >>= λ x r. found (lined x.0.line (record { left = x.0; right = x.1 })) r)
unfolding read_assignment
assignment_is b s = refl

pub definition_is : (b : ℕ) (s : List Placed) → read_definition b s
    ≡ (both (enclosed (is_sign Sign.Becomes) (accept formal_of)) (enclosed (is_sign Sign.Semicolon) (read b 1)) s >>= λ x r. found (lined x.0.line (record { name = x.0.form; right = x.1 })) r)
unfolding read_definition
definition_is b s = refl

-- left sides

pub deepest_path : (s : List Placed) → path_within greatest_depth s ≡ read_path (read 255) 255 s
unfolding path_within
deepest_path s = refl

pub left_in_parens : (kind : LeftKind) (line : ℕ) (s : List Placed) → left_tail greatest_depth kind line s
    ≡ (headed (is_sign Sign.OpenParen) (enclosed (is_sign Sign.CloseParen) (read_path (read 255) 255)) s >>= λ p r. found (lined line (record { kind = kind; path = p })) r)
unfolding left_tail path_within headed enclosed
left_in_parens kind line s = refl

pub left_empty : (b : ℕ) (s : List Placed) → length s ≡ 0 → IsSyntaxError 0 (read_left b s)
unfolding read_left switch
left_empty b [] h = refl
left_empty b (t ∷ s) h = absurd (omega arith)

module _ (b : ℕ) (s : List Placed) (t : Placed) (v : List Placed) (first : s ≡ t ∷ v) where
  left_at : (i : Option LeftKind) → left_of t ≡ i → read_left b s ≡ left_by b i (t ∷ v)
  unfolding read_left switch
  left_at i led = rw (first, led) refl

  pub current_is : left_of t ≡ Some LeftKind.Current → read_left b s ≡ (path_within b s >>= λ p r. found (lined (path_line p) (record { kind = LeftKind.Current; path = p })) r)
  unfolding left_by
  current_is led = left_at (Some LeftKind.Current) led
      ∙ ap (λ (l : List Placed). path_within b l >>= λ p r. found (lined (path_line p) (record { kind = LeftKind.Current; path = p })) r) (sym first)

  pub init_is : left_of t ≡ Some LeftKind.Init → read_left b s ≡ left_tail b LeftKind.Init t.line v
  unfolding left_by after_first
  init_is led = left_at (Some LeftKind.Init) led

  pub next_is : left_of t ≡ Some LeftKind.Next → read_left b s ≡ left_tail b LeftKind.Next t.line v
  unfolding left_by after_first
  next_is led = left_at (Some LeftKind.Next) led

  pub no_left : left_of t ≡ None → (n : ℕ) → n ≡ length s → IsSyntaxError n (read_left b s)
  unfolding left_by
  no_left led n l = let q : read_left b s ≡ syntax_error (t ∷ v) = left_at None led in subst (IsSyntaxError n) (sym q) (ap length (sym first) ∙ sym l)

-- an expression and a semicolon or none

module _ (b : ℕ) (s : List Placed) where
  pub condition_fails : (e : Failure) → Fails e (read b 1 s) → Fails e (read_condition b s)
  unfolding read_closing read_condition
  condition_fails e h = Fails-then e (both (read b 1) (optional (is_sign Sign.Semicolon) (expect (is_sign Sign.Semicolon))) s) (λ x r. found x.0 r)
      (both_fails (read b 1) (optional (is_sign Sign.Semicolon) (expect (is_sign Sign.Semicolon))) s e h)

  after_expression : (x : Tree) (r : List Placed) → read b 1 s ≡ found x r
      → (read_closing b s >>= λ z v. found z.0 v) ≡ ((optional (is_sign Sign.Semicolon) (expect (is_sign Sign.Semicolon)) r >>= λ o v. let z : Tree × Option Placed = (x, o) in found z v) >>= λ z v. found z.0 v)
  unfolding read_closing
  after_expression x r h = ap (λ (y : Reading Placed (Tree × Option Placed)). y >>= λ z v. found z.0 v)
      (both_start (read b 1) (optional (is_sign Sign.Semicolon) (expect (is_sign Sign.Semicolon))) s r x h)

  pub condition_open : (x : Tree) (r : List Placed) → read b 1 s ≡ found x r → first_is (is_sign Sign.Semicolon) r ≡ false → read_condition b s ≡ found x r
  unfolding optional ◌>>=◌ read_condition
  condition_open x r h f = after_expression x r h ∙ rw f refl

  pub condition_closed : (x : Tree) (r : List Placed) → read b 1 s ≡ found x r → first_is (is_sign Sign.Semicolon) r ≡ true
      → read_condition b s ≡ (expect (is_sign Sign.Semicolon) r >>= λ _ v. found x v)
  unfolding optional ◌>>=◌ read_condition
  condition_closed x r h f = after_expression x r h ∙ rw f (again (expect (is_sign Sign.Semicolon) r))
    where
      again : (y : Reading Placed Placed) → (((y >>= λ t v. found (Some t) v) >>= λ o v. let z : Tree × Option Placed = (x, o) in found z v) >>= λ z v. found z.0 v) ≡ (y >>= λ _ v. found x v)
      again (found t v) = refl
      again (syntax_error v) = refl
      again (too_deep v) = refl

-- sections

pub section_empty : (b : ℕ) (s : List Placed) → length s ≡ 0 → IsSyntaxError 0 (read_section b s)
unfolding read_section closed_section switch ◌>>=◌
section_empty b [] h = refl
section_empty b (t ∷ s) h = absurd (omega arith)

module _ (b : ℕ) (s : List Placed) (t : Placed) (v : List Placed) (first : s ≡ t ∷ v) where
  section_at : (i : SectionLead) → section_lead t ≡ i → read_section b s ≡ (section_by b i (t ∷ v) >>= λ x r. found x.0 r)
  unfolding read_section closed_section switch
  section_at i led = rw (first, led) refl

  pub variables_is : section_lead t ≡ SectionLead.Variables
      → read_section b s ≡ (many begins_name (read_declaration b) (length v) v >>= λ ds r. found (lined t.line (Section.variables ds)) r)
  unfolding section_by after_first section_tail
  variables_is led = section_at SectionLead.Variables led
      ∙ then_made (many begins_name (read_declaration b) (length v) v) (λ ds. let z : ClosedSection = (lined t.line (Section.variables ds), false) in z) (λ x r. found x.0 r)

  pub assignments_is : section_lead t ≡ SectionLead.Assignments
      → read_section b s ≡ (many begins_left (read_assignment b) (length v) v >>= λ xs r. found (lined t.line (Section.assignments xs)) r)
  unfolding section_by after_first section_tail
  assignments_is led = section_at SectionLead.Assignments led
      ∙ then_made (many begins_left (read_assignment b) (length v) v) (λ xs. let z : ClosedSection = (lined t.line (Section.assignments xs), false) in z) (λ x r. found x.0 r)

  pub definitions_is : section_lead t ≡ SectionLead.Definitions
      → read_section b s ≡ (many begins_name (read_definition b) (length v) v >>= λ ds r. found (lined t.line (Section.definitions ds)) r)
  unfolding section_by after_first section_tail
  definitions_is led = section_at SectionLead.Definitions led
      ∙ then_made (many begins_name (read_definition b) (length v) v) (λ ds. let z : ClosedSection = (lined t.line (Section.definitions ds), false) in z) (λ x r. found x.0 r)

  pub condition_is : (c : Condition) → section_lead t ≡ SectionLead.Condition c
      → read_section b s ≡ (read_condition b v >>= λ e r. found (lined t.line (Section.condition c e)) r)
  unfolding section_by after_first section_tail read_condition
  condition_is c led = section_at (SectionLead.Condition c) led
      ∙ then_made (read_closing b v) (λ y. let z : ClosedSection = (lined t.line (Section.condition c y.0), some_is y.1) in z) (λ x r. found x.0 r)
      ∙ sym (then_made (read_closing b v) (λ y. y.0) (λ e r. found (lined t.line (Section.condition c e)) r))

  pub no_section : section_lead t ≡ SectionLead.Other → (n : ℕ) → n ≡ length s → IsSyntaxError n (read_section b s)
  unfolding section_by ◌>>=◌
  no_section led n l = let q : read_section b s ≡ syntax_error (t ∷ v) = section_at SectionLead.Other led in subst (IsSyntaxError n) (sym q) (ap length (sym first) ∙ sym l)

-- modules

pub module_is : (b : ℕ) (s : List Placed) → read_module b s
    ≡ (both (both (accept (key_line Keyword.Module)) (accept name_of)) (both (parameters (accept formal_of)) (λ v. many begins_section (read_section b) (length v) v)) s
    >>= λ x r. found (lined x.0.0 (record { name = x.0.1; formals = x.1.0; sections = x.1.1 })) r)
unfolding read_module read_formals both
module_is b s = refl
