-- What is found of the line of a state.
use Rattle.std.proofs.Common.{◌≡◌, ℕ, List, [], ◌∷◌, codes, subst}
use Rattle.std.specs.Prelude.{Option, Some, None, Ok, Err, MatchOption}
use Rattle.kripke_model.specs.Flat.{IsFlat}
use Rattle.kripke_model.specs.Step.{IsState}
use Rattle.kripke_model.specs.System.{System, State}
use Rattle.proof_text.specs.Lines.{line_text, value_words}
use Rattle.proof_text.specs.SetParts.{Finds}
use Rattle.proof_text.proofs.FoundEnd.{state_line, some_state}
use Rattle.proof_text.proofs.WordsOf.{state_words}
use Rattle.text_lines.specs.Cursor.{Place, Takes}
use Rattle.text_lines.specs.Words.{AreWords}
use Rattle.text_lines.specs.declared.faults.Fault.TheVariants.{Stops, End, Memory}
use Rattle.text_lines.proofs.FoundLine.{line_is, line_stops, line_ends, no_memory, taken_room}

module _ (m : System) (flat : IsFlat m) where
  -- a text whose first word isn't `at` is no line of a state
  pub other_first : (text : List ℕ) (ws : List (List ℕ)) → AreWords text ws → ((others : List (List ℕ)) → ws ≡ codes "at" ∷ others → ⊥) → (s : State) → IsState m s → line_text (state_line m s) ≡ text → ⊥
  other_first text ws are none s is e = none (value_words m 0 s) (state_words m flat s text ws are e)

  -- what is found of a text
  abbrev IsStateOf : List ℕ → Option State → Type 0
  IsStateOf t found = MatchOption found ((s : State) → IsState m s → line_text (state_line m s) ≡ t → ⊥) (λ s. IsState m s × (line_text (state_line m s) ≡ t))

  module _ {old new : Place} where
    pub state_ends : Takes old None new → Finds (IsState m) (λ s. state_line m s ∷ []) old (Err End) new
    state_ends last = λ levels. line_ends last (some_state m flat)

    pub state_stops : {t : List ℕ} (l : ℕ) → Takes old (Some t) new → l ≡ old.line → ((s : State) → IsState m s → line_text (state_line m s) ≡ t → ⊥) → Finds (IsState m) (λ s. state_line m s ∷ []) old (Err (Stops l)) new
    state_stops l taken at none = λ levels. line_stops taken (some_state m flat) none at

    pub state_is : {t : List ℕ} (s : State) → Takes old (Some t) new → IsState m s → line_text (state_line m s) ≡ t → Finds (IsState m) (λ s. state_line m s ∷ []) old (Ok s) new
    state_is s taken is text = λ levels. line_is taken is tt text

    pub state_memory : {t : List ℕ} → Takes old (Some t) new → Finds (IsState m) (λ s. state_line m s ∷ []) old (Err Memory) new
    state_memory taken = λ levels. no_memory (taken_room taken)

    module _ {t : List ℕ} (taken : Takes old (Some t) new) where
      pub none_found : (l : ℕ) → l ≡ old.line → (found : Option State) → IsStateOf t found → found ≡ None → Finds (IsState m) (λ s. state_line m s ∷ []) old (Err (Stops l)) new
      none_found l at None none e = state_stops l taken at none
      none_found l at (Some s) is e = absurd cc

      pub one_found : (s : State) (found : Option State) → IsStateOf t found → found ≡ Some s → Finds (IsState m) (λ s. state_line m s ∷ []) old (Ok s) new
      one_found s None none e = absurd cc
      one_found s (Some r) is e =
          let same : r ≡ s = cc in
          state_is s taken (subst (IsState m) same is.0) (subst (λ (q : State). line_text (state_line m q) ≡ t) same is.1)
