-- What single tokens begin above expressions.
use Rattle.std.specs.Prelude.{◌≡◌, ℕ, ℤ, pos, negsuc, Bool, true, false, cond, ◌||◌, List, Option, Some, None}
use Rattle.smv_lexer.specs.declared.keyword.Keyword.{Keyword}
use Rattle.smv_lexer.specs.declared.sign.Sign.{Sign}
use Rattle.smv_lexer.specs.Text.{Kind, Placed}
use Rattle.smv_lexer.specs.Text.Kind.{word, key, mark}
use Rattle.smv_parser.specs.declared.openings.PlainLead.{PlainLead}
use Rattle.smv_parser.specs.declared.openings.SectionLead.{SectionLead}
use Rattle.smv_parser.specs.declared.openings.TypeLead.{TypeLead}
use Rattle.smv_parser.specs.declared.program.Condition.{Condition}
use Rattle.smv_parser.specs.declared.program.LeftKind.{LeftKind}
use Rattle.smv_parser.specs.Program.{Lined, Constant}
use Rattle.smv_parser.specs.Tests.{is_key, name_of, natural}

abbrev pub some_is : {A : Type 0} → Option A → Bool
some_is None = false
some_is (Some x) = true

-- what was found, with a line
abbrev pub on_its_line : {A : Type 0} → ℕ → Option A → Option (Lined A)
on_its_line line None = None
on_its_line line (Some x) = Some (record { form = x; line = line })

abbrev pub key_type : Keyword → TypeLead
key_type Keyword.Boolean = TypeLead.Plain PlainLead.Boolean
key_type Keyword.Array = TypeLead.Plain PlainLead.Array
key_type Keyword.Process = TypeLead.Process
key_type _ = TypeLead.Other

abbrev pub sign_type : Sign → TypeLead
sign_type Sign.OpenBrace = TypeLead.Plain PlainLead.Enumeration
sign_type Sign.Minus = TypeLead.Plain PlainLead.Range
sign_type _ = TypeLead.Other

abbrev pub number_type : ℤ → TypeLead
number_type (pos n) = TypeLead.Plain PlainLead.Range
number_type (negsuc n) = TypeLead.Other

abbrev pub kind_type : Kind → TypeLead
kind_type (word w) = TypeLead.Name
kind_type (Kind.number n) = number_type n
kind_type (key k) = key_type k
kind_type (mark s) = sign_type s

abbrev pub type_lead : Placed → TypeLead
type_lead t = kind_type t.kind

abbrev pub key_section : Keyword → SectionLead
key_section Keyword.Var = SectionLead.Variables
key_section Keyword.Assign = SectionLead.Assignments
key_section Keyword.Define = SectionLead.Definitions
key_section Keyword.InitSection = SectionLead.Condition Condition.Init
key_section Keyword.Invar = SectionLead.Condition Condition.Invar
key_section Keyword.Trans = SectionLead.Condition Condition.Trans
key_section Keyword.Spec = SectionLead.Condition Condition.Spec
key_section Keyword.Fairness = SectionLead.Condition Condition.Fairness
key_section _ = SectionLead.Other

abbrev pub kind_section : Kind → SectionLead
kind_section (word w) = SectionLead.Other
kind_section (Kind.number n) = SectionLead.Other
kind_section (key k) = key_section k
kind_section (mark s) = SectionLead.Other

abbrev pub section_lead : Placed → SectionLead
section_lead t = kind_section t.kind

abbrev pub is_section : SectionLead → Bool
is_section SectionLead.Other = false
is_section _ = true

abbrev pub begins_section : Placed → Bool
begins_section t = is_section (section_lead t)

abbrev pub key_left : Keyword → Option LeftKind
key_left Keyword.Init = Some LeftKind.Init
key_left Keyword.Next = Some LeftKind.Next
key_left _ = None

abbrev pub kind_left : Kind → Option LeftKind
kind_left (word w) = Some LeftKind.Current
kind_left (Kind.number n) = None
kind_left (key k) = key_left k
kind_left (mark s) = None

-- the left side of an assignment that a token begins
abbrev pub left_of : Placed → Option LeftKind
left_of t = kind_left t.kind

abbrev pub begins_left : Placed → Bool
begins_left t = some_is (left_of t)

abbrev pub kind_is_word : Kind → Bool
kind_is_word (word w) = true
kind_is_word (Kind.number n) = false
kind_is_word (key k) = false
kind_is_word (mark s) = false

abbrev pub begins_name : Placed → Bool
begins_name t = kind_is_word t.kind

-- a name with its line
abbrev pub formal_of : Placed → Option (Lined (List ℕ))
formal_of t = on_its_line t.line (name_of t)

abbrev pub key_truth : Keyword → Option Bool
key_truth Keyword.True = Some true
key_truth Keyword.False = Some false
key_truth _ = None

abbrev pub truth_in : Option Bool → Option Constant
truth_in None = None
truth_in (Some b) = Some (Constant.truth b)

abbrev pub number_constant : Option ℕ → Option Constant
number_constant None = None
number_constant (Some n) = Some (Constant.number n)

abbrev pub constant_in : Kind → Option Constant
constant_in (word w) = Some (Constant.name w)
constant_in (Kind.number n) = number_constant (natural n)
constant_in (key k) = truth_in (key_truth k)
constant_in (mark s) = None

-- a constant with its line
abbrev pub constant_of : Placed → Option (Lined Constant)
constant_of t = on_its_line t.line (constant_in t.kind)

-- the line of a reserved word
abbrev pub key_line : Keyword → Placed → Option ℕ
key_line k t = cond (is_key k t) (Some t.line) None

abbrev pub begins_module : Placed → Bool
begins_module t = is_key Keyword.Module t
