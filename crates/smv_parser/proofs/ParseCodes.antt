-- What the reader of programs says of all the tokens.
use Rattle.std.proofs.Common.{◌≡◌, ℕ, zero, suc, ◌+◌, ◌-◌, ◌≤◌, List, [], ◌∷◌, length, refl, sym, ◌∙◌, ap, subst, arith, false}
use Rattle.std.specs.Prelude.{◌==◌}
use Rattle.reader_laws.specs.Reading.{Reading}
use Rattle.reader_laws.specs.Reading.Reading.{found, syntax_error, too_deep}
use Rattle.reader_laws.specs.Reading.{many}
use Rattle.smv_lexer.specs.Text.{Placed}
use Rattle.smv_parser.specs.Gives.{IsSyntaxError, IsTooDeep}
use Rattle.smv_parser.specs.Openings.{begins_module}
use Rattle.smv_parser.specs.Program.{Program, program_depth}
use Rattle.smv_parser.specs.ProgramReading.{read_module, read_program}
use Rattle.smv_parser.specs.Programs.{DerivesProgram, IsSyntaxPlace, IsTooDeepPlace, IsShallow, greatest_depth}
use Rattle.reader_laws.proofs.OnePlace as one
use Rattle.smv_parser.proofs.ModuleReads.{program_deep, program_deep_short, program_derived, program_found, program_leftover, program_short, program_syntax}

abbrev reading : List Placed → Reading Placed Program
reading s = many begins_module (read_module greatest_depth) (length s) s

same : (s : List Placed) → read_program greatest_depth s ≡ reading s
unfolding read_program
same s = refl

syntax_rest : {A : Type 0} (left : ℕ) (y : Reading Placed A) → IsSyntaxError left y → (rest : List Placed) × (y ≡ syntax_error rest) × (length rest ≡ left)
syntax_rest left (found x r) h = absurd h
syntax_rest left (syntax_error r) h = (r, refl, h)
syntax_rest left (too_deep r) h = absurd h

deep_rest : {A : Type 0} (left : ℕ) (y : Reading Placed A) → IsTooDeep left y → (rest : List Placed) × (y ≡ too_deep rest) × (length rest ≡ left)
deep_rest left (found x r) h = absurd h
deep_rest left (syntax_error r) h = absurd h
deep_rest left (too_deep r) h = (r, refl, h)

pub read_whole : (s : List Placed) (p : Program) → DerivesProgram s p → program_depth p ≤ greatest_depth → reading s ≡ found p []
read_whole s p d h = sym (same s) ∙ program_found greatest_depth (omega arith) s p d h

pub is_parsed : (s : List Placed) (p : Program) → reading s ≡ found p [] → DerivesProgram s p × (program_depth p ≤ greatest_depth)
is_parsed s p h = program_derived greatest_depth (omega arith) s p (same s ∙ h)

pub more_follows : (s : List Placed) (p : Program) (t : Placed) (u : List Placed) → reading s ≡ found p (t ∷ u) → IsSyntaxPlace s (length s - length (t ∷ u))
more_follows s p t u h = program_leftover greatest_depth (omega arith) s p t u (same s ∙ h)

pub syntax_at : (s : List Placed) (left : ℕ) → IsSyntaxError left (reading s) → (left ≤ length s) × IsSyntaxPlace s (length s - left)
syntax_at s left h =
    let w = syntax_rest left (reading s) h in
    let q = same s ∙ w.1 in
    subst (λ (n : ℕ). (n ≤ length s) × IsSyntaxPlace s (length s - n)) w.2
    (program_short greatest_depth (omega arith) s w.0 q, program_syntax greatest_depth (omega arith) s w.0 q)

pub deep_at : (s : List Placed) (left : ℕ) → IsTooDeep left (reading s) → (left ≤ length s) × IsTooDeepPlace s (length s - left)
deep_at s left h =
    let w = deep_rest left (reading s) h in
    let q = same s ∙ w.1 in
    subst (λ (n : ℕ). (n ≤ length s) × IsTooDeepPlace s (length s - n)) w.2
    (program_deep_short greatest_depth (omega arith) s w.0 q, program_deep greatest_depth (omega arith) s w.0 q)

pub not_syntax : (left : ℕ) (y : Reading Placed Program) (p : Program) → y ≡ found p [] → IsSyntaxError left y → ⊥
not_syntax left (found x r) p i h = h
not_syntax left (syntax_error r) p i h = cc
not_syntax left (too_deep r) p i h = h

pub not_deep : (left : ℕ) (y : Reading Placed Program) (p : Program) → y ≡ found p [] → IsTooDeep left y → ⊥
not_deep left (found x r) p i h = h
not_deep left (syntax_error r) p i h = h
not_deep left (too_deep r) p i h = cc

pub no_tokens : {A : Type 0} (r : List A) → length r ≡ 0 → r ≡ []
no_tokens [] h = refl
no_tokens (t ∷ r) h = absurd (omega arith)

pub some_token : {A : Type 0} (r : List A) → (length r ≡ 0 → ⊥) → (t : A) × (u : List A) × (r ≡ t ∷ u)
some_token [] h = absurd (h refl)
some_token (t ∷ r) h = (t, r, refl)

pub not_empty : (n : ℕ) → false ≡ (n == 0) → n ≡ 0 → ⊥
not_empty n h z = let p : false ≡ (0 == 0) = h ∙ ap (λ (m : ℕ). m == 0) z in cc

-- tokens are one program at most
pub one_program : (s : List Placed) (p q : Program) → DerivesProgram s p → DerivesProgram s q → p ≡ q
one_program s p q d e =
    let b : ℕ = suc (program_depth p + program_depth q) in
    let i = program_found b (omega arith) s p d (omega arith) in
    let j = program_found b (omega arith) s q e (omega arith) in
    let r : found p [] ≡ found q [] = sym i ∙ j in cc

pub syntax_or_program : (at : ℕ) (s : List Placed) (p : Program) → IsSyntaxPlace s at → DerivesProgram s p → ⊥
syntax_or_program = one.syntax_or_tree DerivesProgram IsShallow

pub deep_or_program : (at : ℕ) (s : List Placed) (p : Program) → IsTooDeepPlace s at → DerivesProgram s p → program_depth p ≤ greatest_depth → ⊥
deep_or_program = one.deep_or_tree DerivesProgram IsShallow

pub one_syntax_place : (at other : ℕ) (s : List Placed) → IsSyntaxPlace s at → IsSyntaxPlace s other → at ≡ other
one_syntax_place = one.one_syntax DerivesProgram IsShallow

pub one_deep_place : (at other : ℕ) (s : List Placed) → IsTooDeepPlace s at → IsTooDeepPlace s other → at ≡ other
one_deep_place = one.one_deep DerivesProgram IsShallow

pub one_kind_of_place : (at other : ℕ) (s : List Placed) → IsSyntaxPlace s at → IsTooDeepPlace s other → ⊥
one_kind_of_place = one.syntax_or_deep DerivesProgram IsShallow
