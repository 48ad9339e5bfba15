-- What single tokens above expressions are.
use Rattle.std.proofs.Common.{◌≡◌, ℕ, pos, negsuc, cond, Bool, true, false, List, [], ◌∷◌, Option, Some, None, refl, sym, ◌∙◌, ap, subst}
use Rattle.smv_lexer.specs.declared.keyword.Keyword.{Keyword}
use Rattle.smv_lexer.specs.declared.sign.Sign.{Sign}
use Rattle.smv_lexer.specs.Text.{Kind, Placed}
use Rattle.smv_lexer.specs.Text.Kind.{word, key, mark}
use Rattle.smv_parser.specs.declared.openings.PlainLead.{PlainLead}
use Rattle.smv_parser.specs.declared.openings.SectionLead.{SectionLead}
use Rattle.smv_parser.specs.declared.openings.TypeLead.{TypeLead}
use Rattle.smv_parser.specs.declared.program.Condition.{Condition}
use Rattle.smv_parser.specs.declared.program.LeftKind.{LeftKind}
use Rattle.smv_parser.specs.Program.{Lined, Constant}
use Rattle.smv_parser.specs.Words.{truth_word, Is, Lone, BeginsOn}
use Rattle.smv_parser.specs.Programs.{DerivesConstant, DerivesName, OnLine, condition_word}
use Rattle.smv_parser.specs.Tests.{is_sign, is_key, sign_is, key_is, sign_number, key_number, word_in, number_in, name_of, number_of, kind_operator}
use Rattle.smv_parser.specs.Openings.{on_its_line, some_is, key_type, sign_type, kind_type, key_section, kind_section, is_section, key_left, kind_left, kind_is_word, formal_of, key_truth, truth_in, constant_in, constant_of, key_line}
use Rattle.smv_parser.proofs.TokenTests.{key_is-kind, kind_is-key, word_in-kind, number_in-kind}

-- types

abbrev pub TypeIs : Kind → TypeLead → Type 0
TypeIs k (TypeLead.Plain PlainLead.Boolean) = k ≡ key Keyword.Boolean
TypeIs k (TypeLead.Plain PlainLead.Enumeration) = k ≡ mark Sign.OpenBrace
TypeIs k (TypeLead.Plain PlainLead.Range) = Unit {0}
TypeIs k (TypeLead.Plain PlainLead.Array) = k ≡ key Keyword.Array
TypeIs k TypeLead.Process = k ≡ key Keyword.Process
TypeIs k TypeLead.Name = (w : List ℕ) × (k ≡ word w)
TypeIs k TypeLead.Other = Unit {0}

key_type_is : (k : Keyword) → TypeIs (key k) (key_type k)
key_type_is Keyword.Boolean = refl
key_type_is Keyword.Array = refl
key_type_is Keyword.Process = refl
key_type_is _ = tt

sign_type_is : (s : Sign) → TypeIs (mark s) (sign_type s)
sign_type_is Sign.OpenBrace = refl
sign_type_is _ = tt

pub type_is : (k : Kind) → TypeIs k (kind_type k)
type_is (word w) = (w, refl)
type_is (Kind.number (pos n)) = tt
type_is (Kind.number (negsuc n)) = tt
type_is (key k) = key_type_is k
type_is (mark s) = sign_type_is s

-- sections

abbrev pub SectionIs : Kind → SectionLead → Type 0
SectionIs k SectionLead.Variables = k ≡ key Keyword.Var
SectionIs k SectionLead.Assignments = k ≡ key Keyword.Assign
SectionIs k SectionLead.Definitions = k ≡ key Keyword.Define
SectionIs k (SectionLead.Condition c) = k ≡ key (condition_word c)
SectionIs k SectionLead.Other = Unit {0}

key_section_is : (k : Keyword) → SectionIs (key k) (key_section k)
key_section_is Keyword.Var = refl
key_section_is Keyword.Assign = refl
key_section_is Keyword.Define = refl
key_section_is Keyword.InitSection = refl
key_section_is Keyword.Invar = refl
key_section_is Keyword.Trans = refl
key_section_is Keyword.Spec = refl
key_section_is Keyword.Fairness = refl
key_section_is _ = tt

pub section_is : (k : Kind) → SectionIs k (kind_section k)
section_is (word w) = tt
section_is (Kind.number n) = tt
section_is (key k) = key_section_is k
section_is (mark s) = tt

pub condition_found : (c : Condition) → key_section (condition_word c) ≡ SectionLead.Condition c
condition_found Condition.Init = refl
condition_found Condition.Invar = refl
condition_found Condition.Trans = refl
condition_found Condition.Spec = refl
condition_found Condition.Fairness = refl

-- left sides

abbrev pub LeftIs : Kind → Option LeftKind → Type 0
LeftIs k None = Unit {0}
LeftIs k (Some LeftKind.Current) = (w : List ℕ) × (k ≡ word w)
LeftIs k (Some LeftKind.Init) = k ≡ key Keyword.Init
LeftIs k (Some LeftKind.Next) = k ≡ key Keyword.Next

key_left_is : (k : Keyword) → LeftIs (key k) (key_left k)
key_left_is Keyword.Init = refl
key_left_is Keyword.Next = refl
key_left_is _ = tt

pub left_is : (k : Kind) → LeftIs k (kind_left k)
left_is (word w) = (w, refl)
left_is (Kind.number n) = tt
left_is (key k) = key_left_is k
left_is (mark s) = tt

-- what begins a section or a module continues nothing before it

abbrev pub Settled : Kind → Type 0
Settled k = (kind_operator k ≡ None) × (cond (sign_is Sign.Dot k) true (sign_is Sign.OpenBracket k) ≡ false)
    × (sign_is Sign.Semicolon k ≡ false) × (sign_is Sign.OpenParen k ≡ false) × (kind_is_word k ≡ false) × (some_is (kind_left k) ≡ false)

key_settled : (k : Keyword) → is_section (key_section k) ≡ true → Settled (key k)
key_settled Keyword.Var h = (refl, refl, refl, refl, refl, refl)
key_settled Keyword.Assign h = (refl, refl, refl, refl, refl, refl)
key_settled Keyword.Define h = (refl, refl, refl, refl, refl, refl)
key_settled Keyword.InitSection h = (refl, refl, refl, refl, refl, refl)
key_settled Keyword.Invar h = (refl, refl, refl, refl, refl, refl)
key_settled Keyword.Trans h = (refl, refl, refl, refl, refl, refl)
key_settled Keyword.Spec h = (refl, refl, refl, refl, refl, refl)
key_settled Keyword.Fairness h = (refl, refl, refl, refl, refl, refl)
key_settled _ h = absurd cc

pub section_settled : (k : Kind) → is_section (kind_section k) ≡ true → Settled k
section_settled (word w) h = absurd cc
section_settled (Kind.number n) h = absurd cc
section_settled (key k) h = key_settled k h
section_settled (mark s) h = absurd cc

pub module_settled : (k : Kind) → key_is Keyword.Module k ≡ true → Settled k
module_settled k h = subst Settled (sym (key_is-kind Keyword.Module k h)) (refl, refl, refl, refl, refl, refl)

pub module_is_no_section : (k : Kind) → key_is Keyword.Module k ≡ true → is_section (kind_section k) ≡ false
module_is_no_section k h = subst (λ (j : Kind). is_section (kind_section j) ≡ false) (sym (key_is-kind Keyword.Module k h)) refl

-- single tokens with their lines

line_form : {A : Type 0} (l : ℕ) (o : Option A) (x : Lined A) → on_its_line l o ≡ Some x → (o ≡ Some x.form) × (l ≡ x.line)
line_form l None x h = absurd cc
line_form l (Some y) x h =
    let same : record { form = y; line = l } ≡ x = cc in
    (ap (λ (z : Lined _). Some z.form) same, ap (λ (z : Lined _). z.line) same)

pub formal_is : (t : Placed) (x : Lined (List ℕ)) → formal_of t ≡ Some x → (t.kind ≡ word x.form) × (t.line ≡ x.line)
formal_is t x h = let p = line_form t.line (name_of t) x h in (word_in-kind t.kind x.form p.0, p.1)

pub formal_known : (t : Placed) (x : Lined (List ℕ)) → t.kind ≡ word x.form → t.line ≡ x.line → formal_of t ≡ Some x
formal_known t x h l = ap (λ (k : Kind). on_its_line t.line (word_in k)) h ∙ ap (λ (n : ℕ). on_its_line n (Some x.form)) l

abbrev pub constant_kind : Constant → Kind
constant_kind (Constant.name n) = word n
constant_kind (Constant.number n) = Kind.number (pos n)
constant_kind (Constant.truth b) = truth_word b

pub constant_lone : (ts : List Placed) (c : Constant) → DerivesConstant ts c → Lone (constant_kind c) ts
constant_lone ts (Constant.name n) d = d
constant_lone ts (Constant.number n) d = d
constant_lone ts (Constant.truth b) d = d

pub lone_constant : (ts : List Placed) (c : Constant) → Lone (constant_kind c) ts → DerivesConstant ts c
lone_constant ts (Constant.name n) d = d
lone_constant ts (Constant.number n) d = d
lone_constant ts (Constant.truth b) d = d

truth_is : (k : Keyword) (c : Constant) → truth_in (key_truth k) ≡ Some c → key k ≡ constant_kind c
truth_is Keyword.True c h = ap constant_kind {x = Constant.truth true} {y = c} cc
truth_is Keyword.False c h = ap constant_kind {x = Constant.truth false} {y = c} cc
truth_is _ c h = absurd cc

in_constant : (k : Kind) (c : Constant) → constant_in k ≡ Some c → k ≡ constant_kind c
in_constant (word w) c h = ap constant_kind {x = Constant.name w} {y = c} cc
in_constant (Kind.number (pos n)) c h = ap constant_kind {x = Constant.number n} {y = c} cc
in_constant (Kind.number (negsuc n)) c h = absurd cc
in_constant (key k) c h = truth_is k c h
in_constant (mark s) c h = absurd cc

constant_found : (c : Constant) → constant_in (constant_kind c) ≡ Some c
constant_found (Constant.name n) = refl
constant_found (Constant.number n) = refl
constant_found (Constant.truth true) = refl
constant_found (Constant.truth false) = refl

pub constant_is : (t : Placed) (x : Lined Constant) → constant_of t ≡ Some x → (t.kind ≡ constant_kind x.form) × (t.line ≡ x.line)
constant_is t x h = let p = line_form t.line (constant_in t.kind) x h in (in_constant t.kind x.form p.0, p.1)

pub constant_known : (t : Placed) (x : Lined Constant) → t.kind ≡ constant_kind x.form → t.line ≡ x.line → constant_of t ≡ Some x
constant_known t x h l =
    ap (λ (k : Kind). on_its_line t.line (constant_in k)) h ∙ ap (λ (o : Option Constant). on_its_line t.line o) (constant_found x.form)
    ∙ ap (λ (n : ℕ). on_its_line n (Some x.form)) l

pub key_line_is : (k : Keyword) (t : Placed) (l : ℕ) → key_line k t ≡ Some l → Is (key k) t × (t.line ≡ l)
key_line_is k t l h = by_test (is_key k t) refl h
  where
    by_test : (w : Bool) → is_key k t ≡ w → cond w (Some t.line) None ≡ Some l → Is (key k) t × (t.line ≡ l)
    by_test true e h = (key_is-kind k t.kind e, cc)
    by_test false e h = absurd cc

pub key_line_known : (k : Keyword) (t : Placed) → Is (key k) t → key_line k t ≡ Some t.line
key_line_known k t h = let e = kind_is-key k t.kind h in ap (λ (w : Bool). cond w (Some t.line) None) e

pub line_of_first : (l : ℕ) (ts : List Placed) (t : Placed) (u : List Placed) → ts ≡ t ∷ u → BeginsOn l ts → t.line ≡ l
line_of_first l ts t u q h = subst (BeginsOn l) q h
