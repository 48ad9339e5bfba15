-- What a reader of the code returned is what reading gives.
use Rattle.std.specs.Prelude.{◌≡◌, ℕ, List, length, Result, Ok, Err}
use Rattle.reader_laws.specs.Reading.{Reading}
use Rattle.smv_lexer.specs.Text.{Placed}
use Rattle.smv_parser.specs.declared.reader.Failure.{Failure}
use Rattle.smv_parser.specs.declared.reader.Failure.TheVariants as failures

-- a failure with this many tokens left
abbrev pub IsSyntaxError : {A : Type 0} → ℕ → Reading Placed A → Type 0
IsSyntaxError left (Reading.found x rest) = ⊥
IsSyntaxError left (Reading.syntax_error rest) = length rest ≡ left
IsSyntaxError left (Reading.too_deep rest) = ⊥

abbrev pub IsTooDeep : {A : Type 0} → ℕ → Reading Placed A → Type 0
IsTooDeep left (Reading.found x rest) = ⊥
IsTooDeep left (Reading.syntax_error rest) = ⊥
IsTooDeep left (Reading.too_deep rest) = length rest ≡ left

-- the failure is that of reading, or want of memory
abbrev pub Fails : {A : Type 0} → Failure → Reading Placed A → Type 0
Fails (failures.Syntax left) reading = IsSyntaxError left reading
Fails (failures.TooDeep left) reading = IsTooDeep left reading
Fails failures.Memory reading = Unit {0}

abbrev pub Gives : {X A : Type 0} → (X → A) → (X → List Placed) → Result X Failure
    → Reading Placed A → Type 0
Gives what rest (Ok x) reading = reading ≡ Reading.found (what x) (rest x)
Gives what rest (Err e) reading = Fails e reading

-- the same where the token that was read doesn't matter
abbrev pub GivesRest : {X : Type 0} → (X → List Placed) → Result X Failure → Reading Placed Placed
    → Type 0
GivesRest rest (Ok x) reading = (t : Placed) × (reading ≡ Reading.found t (rest x))
GivesRest rest (Err e) reading = Fails e reading
