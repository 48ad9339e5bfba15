-- Reading what stands above expressions from left to right, within a depth.
use Rattle.std.specs.Prelude.{◌≡◌, ℕ, zero, suc, ℤ, pos, neg_ℤ, Bool, true, false, length, List, [], ◌∷◌, Option, Some, None, map}
use Rattle.reader_laws.specs.Optional.{optional}
use Rattle.reader_laws.specs.Reading.{Reading, ◌>>=◌, accept, expect, switch, choose, many, after_first, headed, enclosed, both}
use Rattle.reader_laws.specs.Reading.Reading.{found, syntax_error, too_deep}
use Rattle.smv_lexer.specs.declared.keyword.Keyword.{Keyword}
use Rattle.smv_lexer.specs.declared.sign.Sign.{Sign}
use Rattle.smv_lexer.specs.Text.{Kind, Placed}
use Rattle.smv_parser.specs.declared.openings.PlainLead.{PlainLead}
use Rattle.smv_parser.specs.declared.openings.SectionLead.{SectionLead}
use Rattle.smv_parser.specs.declared.openings.TypeLead.{TypeLead}
use Rattle.smv_parser.specs.declared.program.LeftKind.{LeftKind}
use Rattle.smv_parser.specs.Tree.{Tree, PathTree}
use Rattle.smv_parser.specs.Program.{Lined, Constant, Plain, PlainForm, TypeForm, Declaration, Left, Assignment, Definition, Section, Module, Program, plain_on}
use Rattle.smv_parser.specs.Tests.{is_sign, is_key, name_of, number_of}
use Rattle.smv_parser.specs.Openings.{begins_left, begins_name, begins_section, constant_of, formal_of, key_line, left_of, section_lead, some_is, type_lead}
use Rattle.smv_parser.specs.Reading.{front_line, path_line, read, read_path, text_of, with_room}

abbrev pub lined : {A : Type 0} → ℕ → A → Lined A
lined line x = record { form = x; line = line }

-- one, then any number with a comma before it
unfoldable pub commas : {A : Type 0} → (List Placed → Reading Placed A) → List Placed
    → Reading Placed (List A)
commas item s
    = both item (λ v. many (is_sign Sign.Comma) (headed (is_sign Sign.Comma) item)
    (length v) v) s >>= λ x r. found (x.0 ∷ x.1) r

-- what stands behind an opening parenthesis: a closing one, or items and a closing one
unfoldable pub inside : {A : Type 0} → (List Placed → Reading Placed A) → List Placed
    → Reading Placed (List A)
inside item s
    = choose (is_sign Sign.CloseParen)
    (λ v. expect (is_sign Sign.CloseParen) v >>= λ _ r. found [] r)
    (enclosed (is_sign Sign.CloseParen) (commas item)) s

unfoldable pub parameters_here : {A : Type 0} → (List Placed → Reading Placed A) → List Placed
    → Reading Placed (Option (List A))
parameters_here item s
    = optional (is_sign Sign.OpenParen) (headed (is_sign Sign.OpenParen) (inside item)) s

abbrev pub listed : {A : Type 0} → Option (List A) → List A
listed None = []
listed (Some xs) = xs

-- parameters in parentheses, or nothing
unfoldable pub parameters : {A : Type 0} → (List Placed → Reading Placed A) → List Placed
    → Reading Placed (List A)
parameters item s = parameters_here item s >>= λ ps r. found (listed ps) r

unfoldable pub read_range : List Placed → Reading Placed (ℕ × ℕ)
read_range s = both (enclosed (is_sign Sign.Range) (accept number_of)) (accept number_of) s

unfoldable pub negated_number : List Placed → Reading Placed ℤ
negated_number s
    = headed (is_sign Sign.Minus) (accept number_of) s >>= λ n r. found (neg_ℤ (pos n)) r

unfoldable pub plain_number : List Placed → Reading Placed ℤ
plain_number s = accept number_of s >>= λ n r. found (pos n) r

-- an end of a range of values
unfoldable pub read_end : List Placed → Reading Placed ℤ
read_end s = choose (is_sign Sign.Minus) negated_number plain_number s

unfoldable pub read_ends : List Placed → Reading Placed (ℤ × ℤ)
read_ends s = both (enclosed (is_sign Sign.Range) read_end) read_end s

unfoldable pub range_here : List Placed → Reading Placed Plain
range_here s = read_ends s >>= λ x r. found (plain_on (front_line s) (PlainForm.range x.0 x.1)) r

unfoldable pub boolean_tail : Placed → List Placed → Reading Placed Plain
boolean_tail t s = found (plain_on t.line PlainForm.boolean) s

unfoldable pub enumeration_tail : Placed → List Placed → Reading Placed Plain
enumeration_tail t s
    = enclosed (is_sign Sign.CloseBrace) (commas (accept constant_of)) s >>= λ cs r. found
    (plain_on t.line (PlainForm.enumeration cs)) r

-- reader reads the element's type, which has at most depth b
module _ (reader : List Placed → Reading Placed Plain) (b : ℕ) where
  unfoldable pub array_tail : Placed → List Placed → Reading Placed Plain
  array_tail t s
      = both (enclosed (is_key Keyword.Of) read_range) reader s >>= λ x r. found
      (plain_on t.line (PlainForm.array x.0.0 x.0.1 x.1)) r

  unfoldable pub plain_by : TypeLead → List Placed → Reading Placed Plain
  plain_by (TypeLead.Plain PlainLead.Boolean) s = after_first boolean_tail s
  plain_by (TypeLead.Plain PlainLead.Enumeration) s = after_first enumeration_tail s
  plain_by (TypeLead.Plain PlainLead.Range) s = range_here s
  plain_by (TypeLead.Plain PlainLead.Array) s = with_room b (after_first array_tail) s
  plain_by TypeLead.Process s = syntax_error s
  plain_by TypeLead.Name s = syntax_error s
  plain_by TypeLead.Other s = syntax_error s

  unfoldable pub plain_step : List Placed → Reading Placed Plain
  plain_step s = switch type_lead plain_by s

unfoldable pub read_plain : ℕ → List Placed → Reading Placed Plain
read_plain zero s = too_deep s
read_plain (suc b) s = plain_step (read_plain b) b s

abbrev pub plain_line : Plain → ℕ
plain_line (plain_on line form) = line

-- a type, and whether parentheses could still follow
abbrev pub OpenType : Type 0
OpenType = Lined TypeForm × Bool

abbrev pub is_open : {A : Type 0} → Option A → Bool
is_open None = true
is_open (Some x) = false

-- a section, and whether a semicolon has closed it
abbrev pub ClosedSection : Type 0
ClosedSection = Lined Section × Bool

pub data Head : Type 0 where
  plain_head : Head
  process_head : Head
  name_head : Head
  no_head : Head

abbrev pub head_of : TypeLead → Head
head_of (TypeLead.Plain p) = plain_head
head_of TypeLead.Process = process_head
head_of TypeLead.Name = name_head
head_of TypeLead.Other = no_head

-- a name that may be followed by parameters
unfoldable pub named : (List Placed → Reading Placed Tree) → List Placed
    → Reading Placed (Lined (List ℕ) × Option (List Tree))
named item s = both (accept formal_of) (parameters_here item) s

-- a path of at most this depth
unfoldable pub path_within : ℕ → List Placed → Reading Placed PathTree
path_within zero s = too_deep s
path_within (suc b) s = read_path (read b) b s

-- the depth is at most b
module _ (b : ℕ) where
  unfoldable pub read_formals : List Placed → Reading Placed (List (Lined (List ℕ)))
  read_formals s = parameters (accept formal_of) s

  -- the type of an instance
  unfoldable pub read_instance : Bool → ℕ → List Placed → Reading Placed (Lined TypeForm)
  read_instance process line s
      = both (accept name_of) (parameters (read b 1)) s >>= λ x r. found
      (lined line (TypeForm.instance process x.0 x.1)) r

  unfoldable pub process_tail : Placed → List Placed → Reading Placed OpenType
  process_tail t s
      = named (read b 1) s >>= λ x r. found
      (lined t.line (TypeForm.instance true x.0.form (listed x.1)), is_open x.1) r

  unfoldable pub type_by : Head → List Placed → Reading Placed OpenType
  type_by plain_head s
      = read_plain b s >>= λ p r. found (lined (plain_line p) (TypeForm.plain p), false) r
  type_by process_head s = after_first process_tail s
  type_by name_head s
      = named (read b 1) s >>= λ x r. found
      (lined x.0.line (TypeForm.instance false x.0.form (listed x.1)), is_open x.1) r
  type_by no_head s = syntax_error s

  unfoldable pub open_type : List Placed → Reading Placed OpenType
  open_type s = switch (λ t. head_of (type_lead t)) type_by s

  unfoldable pub read_type : List Placed → Reading Placed (Lined TypeForm)
  read_type s = open_type s >>= λ x r. found x.0 r

  unfoldable pub read_declaration : List Placed → Reading Placed (Lined Declaration)
  read_declaration s
      = both (enclosed (is_sign Sign.Colon) (accept formal_of))
      (enclosed (is_sign Sign.Semicolon) read_type) s
      >>= λ x r. found (lined x.0.line (record { name = x.0.form; form = x.1 })) r

  unfoldable pub left_tail : LeftKind → ℕ → List Placed → Reading Placed (Lined Left)
  left_tail kind line s
      = headed (is_sign Sign.OpenParen) (enclosed (is_sign Sign.CloseParen) (path_within b)) s
      >>= λ p r. found (lined line (record { kind = kind; path = p })) r

  unfoldable pub left_by : Option LeftKind → List Placed → Reading Placed (Lined Left)
  left_by None s = syntax_error s
  left_by (Some LeftKind.Current) s
      = path_within b s >>= λ p r. found
      (lined (path_line p) (record { kind = LeftKind.Current; path = p })) r
  left_by (Some LeftKind.Init) s = after_first (λ t. left_tail LeftKind.Init t.line) s
  left_by (Some LeftKind.Next) s = after_first (λ t. left_tail LeftKind.Next t.line) s

  unfoldable pub read_left : List Placed → Reading Placed (Lined Left)
  read_left s = switch left_of left_by s

  unfoldable pub read_assignment : List Placed → Reading Placed (Lined Assignment)
  read_assignment s
      = both (enclosed (is_sign Sign.Becomes) read_left)
      (enclosed (is_sign Sign.Semicolon) (read b 1)) s
      >>= λ x r. found (lined x.0.line (record { left = x.0; right = x.1 })) r

  unfoldable pub read_definition : List Placed → Reading Placed (Lined Definition)
  read_definition s
      = both (enclosed (is_sign Sign.Becomes) (accept formal_of))
      (enclosed (is_sign Sign.Semicolon) (read b 1)) s
      >>= λ x r. found (lined x.0.line (record { name = x.0.form; right = x.1 })) r

  -- an expression, and whether a semicolon follows it
  unfoldable pub read_closing : List Placed → Reading Placed (Tree × Option Placed)
  read_closing s
      = both (read b 1) (optional (is_sign Sign.Semicolon) (expect (is_sign Sign.Semicolon))) s

  unfoldable pub read_condition : List Placed → Reading Placed Tree
  read_condition s = read_closing s >>= λ x r. found x.0 r

  unfoldable pub section_tail : SectionLead → Placed → List Placed → Reading Placed ClosedSection
  section_tail SectionLead.Variables t s
      = many begins_name read_declaration (length s) s >>= λ ds r. found
      (lined t.line (Section.variables ds), false) r
  section_tail SectionLead.Assignments t s
      = many begins_left read_assignment (length s) s >>= λ xs r. found
      (lined t.line (Section.assignments xs), false) r
  section_tail SectionLead.Definitions t s
      = many begins_name read_definition (length s) s >>= λ ds r. found
      (lined t.line (Section.definitions ds), false) r
  section_tail (SectionLead.Condition c) t s
      = read_closing s >>= λ x r. found (lined t.line (Section.condition c x.0), some_is x.1) r
  section_tail SectionLead.Other t s = syntax_error (t ∷ s)

  unfoldable pub section_by : SectionLead → List Placed → Reading Placed ClosedSection
  section_by SectionLead.Other s = syntax_error s
  section_by lead s = after_first (section_tail lead) s

  unfoldable pub closed_section : List Placed → Reading Placed ClosedSection
  closed_section s = switch section_lead section_by s

  unfoldable pub read_section : List Placed → Reading Placed (Lined Section)
  read_section s = closed_section s >>= λ x r. found x.0 r

  unfoldable pub read_module : List Placed → Reading Placed (Lined Module)
  read_module s
      = both (both (accept (key_line Keyword.Module)) (accept name_of))
      (both read_formals (λ v. many begins_section read_section (length v) v)) s
      >>= λ x r. found (lined x.0.0 (record { name = x.0.1; formals = x.1.0; sections = x.1.1 })) r

  unfoldable pub read_program : List Placed → Reading Placed Program
  read_program s = many (is_key Keyword.Module) read_module (length s) s
