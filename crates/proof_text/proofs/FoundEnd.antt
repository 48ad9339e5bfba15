-- What is found of the end of a block.
use Rattle.std.proofs.Common.{◌≡◌, ℕ, zero, suc, ◌<◌, true, false, List, [], ◌∷◌, length, pos, codes, refl, sym, ◌∙◌, arith}
use Rattle.std.specs.Prelude.{All, Contains, Option, Some, None, Ok, Err}
use Rattle.std.specs.List.{slice_index_or}
use Rattle.std.proofs.lemmas.Bool.{false≢true}
use Rattle.std.proofs.lemmas.List.Elements.{All-head, All-tail, All-weaker}
use Rattle.kripke_model.specs.declared.expressions.Value.{Value}
use Rattle.kripke_model.specs.declared.expressions.Value.TheVariants.{Number}
use Rattle.kripke_model.specs.Flat.{IsFlat, IsWellTyped}
use Rattle.kripke_model.specs.Step.{IsState}
use Rattle.kripke_model.specs.System.{System, State, Variable, value_in}
use Rattle.proof_text.specs.FileParts.{FitsEnd}
use Rattle.proof_text.specs.Lines.{Line, Words, end_lines, line_text, value_words}
use Rattle.proof_text.specs.SmallNumbers.{HasSmallNumbers}
use Rattle.proof_text.specs.Spells.{IsGoodLine}
use Rattle.proof_text.proofs.FoundFixed.{Always}
use Rattle.proof_text.proofs.KnownStates.{states_known}
use Rattle.proof_text.proofs.Recast.{recast_ok, recast_fault}
use Rattle.proof_text.proofs.WordsOf.{state_words}
use Rattle.text_lines.specs.Cursor.{Place}
use Rattle.text_lines.specs.Formats.{AreKnown, FitBoth, lines_of_both}
use Rattle.text_lines.specs.Found.{IsFound}
use Rattle.text_lines.specs.Words.{words_in}
use Rattle.text_lines.specs.declared.faults.Fault.{Fault}
use Rattle.text_lines.proofs.FoundInTurn.{both_found, first_fault, last_fault}
use Rattle.text_lines.proofs.Lists.{same_rest}
use Rattle.text_lines.proofs.OneLine.{line_known}
use Rattle.text_lines.proofs.Spaced.{words_are}

-- ---- some state

abbrev first_value : Variable → Value
first_value v = slice_index_or v.values 0 (Number (pos 0))

abbrev firsts : List Variable → State
firsts [] = []
firsts (v ∷ vars) = first_value v ∷ firsts vars

as_many : (vars : List Variable) → length (firsts vars) ≡ length vars
as_many [] = refl
as_many (v ∷ vars) = omega (arith, as_many vars)

has_first : (values : List Value) → 0 < length values → Contains values (slice_index_or values 0 (Number (pos 0)))
has_first [] some = absurd (omega (arith, some))
has_first (v ∷ values) some = (0, omega arith, refl)

first_typed : (vars : List Variable) → All (λ v. 0 < length v.values) vars → (x : ℕ) (v : Variable) → x < length vars → Contains (slice_index_or vars x v).values (value_in (firsts vars) x)
first_typed [] some x d less = absurd (omega (arith, less))
first_typed (v ∷ vars) some zero d less = has_first v.values (All-head (λ v. 0 < length v.values) v vars some)
first_typed (v ∷ vars) some (suc x) d less = first_typed vars (All-tail (λ v. 0 < length v.values) v vars some) x d (omega (arith, less))

abbrev pub state_line : System → State → Line
state_line m s = Words (codes "at" ∷ value_words m 0 s)

abbrev pub last_line : Line
last_line = Words (codes "end" ∷ [])

module _ (m : System) (flat : IsFlat m) where
  pub some_state : (s : State) × IsState m s
  some_state =
      let some = All-weaker (λ v. IsWellTyped v m) (λ v. 0 < length v.values) (λ v h. h.some_value) m.vars flat.types in
      (firsts m.vars, record { each = as_many m.vars; typed = first_typed m.vars some })

  module _ (small : HasSmallNumbers m) where
    same_state : (s t : State) → IsState m s → IsState m t → line_text (state_line m s) ≡ line_text (state_line m t) → s ≡ t
    same_state s t p q e =
        let text : List ℕ = line_text (state_line m t) in
        let are = words_are text in
        states_known m flat small s t p q
        (same_rest (codes "at") (codes "at") (value_words m 0 s) (value_words m 0 t) (sym (state_words m flat s text (words_in text) are e) ∙ state_words m flat t text (words_in text) are refl))

    pub state_known : (levels : ℕ) → AreKnown line_text (IsGoodLine levels) (IsState m) (λ s. state_line m s ∷ [])
    state_known levels = line_known line_text (IsGoodLine levels) (IsState m) (state_line m) same_state

-- ---- the end, by the claim

-- where the claim is that the specification is true, there is no state
module _ (m : System) where
  abbrev Nothing : Type 0
  Nothing = Unit {0}

  true_fits : (a : Option State) → FitsEnd m true a → last_line ∷ [] ≡ end_lines m a
  true_fits None fits = refl
  true_fits (Some s) fits = absurd (false≢true (sym fits.0))

  pub true_end : (levels : ℕ) {old new : Place} → IsFound line_text (IsGoodLine levels) Always (λ x. last_line ∷ []) old (Ok tt) new
      → IsFound line_text (IsGoodLine levels) (FitsEnd m true) (end_lines m) old (Ok None) new
  true_end levels found = recast_ok line_text {FitsX = Always} {lines_x = λ x. last_line ∷ []} (λ x. None) (λ a. tt) (λ x f. (refl, tt)) (λ a f. tt) (λ x f. refl) true_fits found

  pub no_true_end : (levels : ℕ) {old new : Place} (fault : Fault) → IsFound line_text (IsGoodLine levels) Always (λ x. last_line ∷ []) old (Err fault) new
      → IsFound line_text (IsGoodLine levels) (FitsEnd m true) (end_lines m) old (Err fault) new
  no_true_end levels fault found = recast_fault line_text {FitsX = Always} {lines_x = λ x. last_line ∷ []} (λ x. None) (λ a. tt) (λ x f. (refl, tt)) (λ a f. tt) (λ x f. refl) true_fits found

  -- else a state and the last line
  abbrev Pair : Type 0
  Pair = State × Nothing

  abbrev FitsPair : Pair → Type 0
  FitsPair = FitBoth (IsState m) (λ s x. Unit {0})

  abbrev pair_lines : Pair → List Line
  pair_lines = lines_of_both (λ s. state_line m s ∷ []) (λ s x. last_line ∷ [])

  abbrev to : Pair → Option State
  to p = Some p.0

  abbrev from : Option State → Pair
  from None = ([], tt)
  from (Some s) = (s, tt)

  pair_fits : (a : Option State) → FitsEnd m false a → FitsPair (from a)
  pair_fits None fits = absurd (false≢true fits.0)
  pair_fits (Some s) fits = (fits.1, tt)

  pair_back : (a : Option State) → FitsEnd m false a → pair_lines (from a) ≡ end_lines m a
  pair_back None fits = absurd (false≢true fits.0)
  pair_back (Some s) fits = refl

  pub false_end : (levels : ℕ) {old mid new : Place} (s : State) → IsFound line_text (IsGoodLine levels) (IsState m) (λ s. state_line m s ∷ []) old (Ok s) mid
      → IsFound line_text (IsGoodLine levels) Always (λ x. last_line ∷ []) mid (Ok tt) new → IsFound line_text (IsGoodLine levels) (FitsEnd m false) (end_lines m) old (Ok (Some s)) new
  false_end levels s first last =
      recast_ok line_text {FitsX = FitsPair} {lines_x = pair_lines} to from (λ p f. (refl, f.0)) pair_fits (λ p f. refl) pair_back (both_found (λ s x. Unit {0}) (λ s x. last_line ∷ []) first last)

  pub no_state_end : (levels : ℕ) {old new : Place} (fault : Fault) → IsFound line_text (IsGoodLine levels) (IsState m) (λ s. state_line m s ∷ []) old (Err fault) new
      → IsFound line_text (IsGoodLine levels) (FitsEnd m false) (end_lines m) old (Err fault) new
  no_state_end levels fault first =
      recast_fault line_text {FitsX = FitsPair} {lines_x = pair_lines} to from (λ p f. (refl, f.0)) pair_fits (λ p f. refl) pair_back (first_fault (λ s x. Unit {0}) (λ s x. last_line ∷ []) (λ s f. (tt, tt)) first)

  pub no_false_end : IsFlat m → HasSmallNumbers m → (levels : ℕ) {old mid new : Place} (s : State) (fault : Fault) → IsFound line_text (IsGoodLine levels) (IsState m) (λ s. state_line m s ∷ []) old (Ok s) mid
      → IsFound line_text (IsGoodLine levels) Always (λ x. last_line ∷ []) mid (Err fault) new → IsFound line_text (IsGoodLine levels) (FitsEnd m false) (end_lines m) old (Err fault) new
  no_false_end flat small levels s fault first last =
      recast_fault line_text {FitsX = FitsPair} {lines_x = pair_lines} to from (λ p f. (refl, f.0)) pair_fits (λ p f. refl) pair_back
      (last_fault (λ s x. Unit {0}) (λ s x. last_line ∷ []) (state_known m flat small levels) first last)
