-- A state whose values are taken from a line in turn.
use Rattle.std.proofs.Common.{◌≡◌, ℕ, ◌<◌, List, [], ◌∷◌, ◌++◌, length, get_or, refl, sym, ◌∙◌, ap, subst, arith}
use Rattle.std.specs.Prelude.{Contains, Option, Some, None, Result, Ok, Err, IfOk, MatchOption}
use Rattle.std.proofs.lemmas.List.{get_or_default}
use Rattle.kripke_model.specs.declared.expressions.Value.{Value}
use Rattle.kripke_model.specs.Shown.{value_text}
use Rattle.kripke_model.specs.Step.{IsState}
use Rattle.kripke_model.specs.System.{System, State, Variable}
use Rattle.proof_text.specs.Lines.{value_words}
use Rattle.proof_text.proofs.WrittenStates.{AreRead, no_state, read_more, state_cut}
use Rattle.text_lines.proofs.Lists.{same_first}

module _ (m : System) where
  -- what is found of a word is found of the words that it is the first of
  pub value_first : (x : ℕ) (values : List Value) (word : List ℕ) (old new : List (List ℕ)) → old ≡ word ∷ new → {E : Type 0} (r : Result (Option Value) E)
      → IfOk r (λ found. MatchOption found ((v : Value) → Contains values v → word ≡ value_text m x v → ⊥) (λ v. Contains values v × (word ≡ value_text m x v)))
      → IfOk r (λ found. MatchOption found ((v : Value) → Contains values v → (others : List (List ℕ)) → old ≡ value_text m x v ∷ others → ⊥) (λ v. Contains values v × (old ≡ value_text m x v ∷ new)))
  value_first x values word old new first (Ok None) h = λ v has others e. h v has (same_first word (value_text m x v) new others (sym first ∙ e))
  value_first x values word old new first (Ok (Some v)) h = (h.0, first ∙ ap (λ w. w ∷ new) h.1)
  value_first x values word old new first (Err e) h = tt

  -- the variable in turn
  module _ (vars : List Variable) (are : vars ≡ m.vars) (s : State) (x : ℕ) (many : length s ≡ x) (below : x < length vars) (var : Variable) (is : var ≡ get_or vars x var) (words old : List (List ℕ)) (read : AreRead m words old s) (new : List (List ℕ)) where
    in_turn : (d : Variable) → var ≡ get_or m.vars (length s) d
    in_turn d = is ∙ get_or_default vars x var d below ∙ ap (λ (xs : List Variable). get_or xs x d) are ∙ ap (λ i. get_or m.vars i d) (sym many)

    less : length s < length m.vars
    less = omega (arith, many, below, ap length are)

    value_taken : (t : State) (v : Value) → Contains var.values v → old ≡ value_text m x v ∷ new → t ≡ s ++ v ∷ [] → AreRead m words new t
    value_taken t v has first more =
        subst (AreRead m words new) (sym more)
        (read_more m words new s (value_text m x v) v (subst (λ ws. AreRead m words ws s) first read) (λ d. subst (λ (y : Variable). Contains y.values v) (in_turn d) has) (ap (λ i. value_text m i v) (sym many)))

    no_value : ((v : Value) → Contains var.values v → (others : List (List ℕ)) → old ≡ value_text m x v ∷ others → ⊥) → (t : State) → IsState m t → words ≡ value_words m 0 t → ⊥
    no_value none = go old read none
      where
        go : (left : List (List ℕ)) → AreRead m words left s → ((v : Value) → Contains var.values v → (others : List (List ℕ)) → left ≡ value_text m x v ∷ others → ⊥) → (t : State) → IsState m t → words ≡ value_words m 0 t → ⊥
        go [] h none = state_cut m words [] s refl h less
        go (word ∷ left) h none =
            no_state m words left s word var h less
            (λ v has e. none v (subst (λ (y : Variable). Contains y.values v) (sym (in_turn var)) has) left (ap (λ w. w ∷ left) (e ∙ ap (λ i. value_text m i v) many)))

    -- what is found of its values
    abbrev IsFoundOf : List Value → Option Value → Type 0
    IsFoundOf values found = MatchOption found ((v : Value) → Contains values v → (others : List (List ℕ)) → old ≡ value_text m x v ∷ others → ⊥) (λ v. Contains values v × (old ≡ value_text m x v ∷ new))

    module _ (values : List Value) (values_are : values ≡ var.values) where
      pub none_taken : (found : Option Value) → IsFoundOf values found → found ≡ None → (t : State) → IsState m t → words ≡ value_words m 0 t → ⊥
      none_taken None h e = no_value (λ v has. h v (subst (λ vs. Contains vs v) (sym values_are) has))
      none_taken (Some v) h e = absurd cc

      pub one_taken : (found : Option Value) → IsFoundOf values found → (v : Value) → found ≡ Some v → (t : State) → t ≡ s ++ v ∷ [] → AreRead m words new t
      one_taken None h v e t more = absurd cc
      one_taken (Some w) h v e t more =
          let same : w ≡ v = cc in
          value_taken t v (subst (Contains var.values) same (subst (λ vs. Contains vs w) values_are h.0)) (h.1 ∙ ap (λ u. value_text m x u ∷ new) same) more
