-- A state that is read value by value.
use Rattle.std.proofs.Common.{◌≡◌, inl, inr, ℕ, zero, suc, ◌+◌, ◌<◌, List, [], ◌∷◌, ◌++◌, length, refl, sym, ◌∙◌, ap, subst, arith, length-append, append_assoc, append-nil}
use Rattle.std.specs.Prelude.{Contains}
use Rattle.std.specs.List.{slice_index_or}
use Rattle.std.proofs.lemmas.Bool.{cases_lt}
use Rattle.kripke_model.specs.declared.expressions.Value.{Value}
use Rattle.kripke_model.specs.Shown.{value_text}
use Rattle.kripke_model.specs.Step.{IsState}
use Rattle.kripke_model.specs.System.{System, State, Variable, value_in}
use Rattle.proof_text.specs.Lines.{value_words}
use Rattle.text_lines.proofs.Lists.{same_first, same_rest}

-- ---- lists of values

last_of : (s : State) (v : Value) → value_in (s ++ v ∷ []) (length s) ≡ v
last_of [] v = refl
last_of (w ∷ s) v = last_of s v

earlier_of : (s : State) (v : Value) (x : ℕ) → x < length s → value_in (s ++ v ∷ []) x ≡ value_in s x
earlier_of [] v x less = absurd (omega (arith, less))
earlier_of (w ∷ s) v zero less = refl
earlier_of (w ∷ s) v (suc x) less = earlier_of s v x (omega (arith, less))

module _ (m : System) where
  as_many : (k : ℕ) (s : State) → length (value_words m k s) ≡ length s
  as_many k [] = refl
  as_many k (v ∷ s) = let h = as_many (k + 1) s in omega (arith, h)

  words_more : (k : ℕ) (s : State) (v : Value) → value_words m k (s ++ v ∷ []) ≡ value_words m k s ++ value_text m (k + length s) v ∷ []
  words_more k [] v = ap (λ i. value_text m i v ∷ []) (omega arith)
  words_more k (w ∷ s) v =
      ap (λ ws. value_text m k w ∷ ws)
      (words_more (k + 1) s v ∙ ap (λ i. value_words m (k + 1) s ++ value_text m i v ∷ []) (omega arith))

  word_at : (k : ℕ) (s t : State) (word : List ℕ) (left : List (List ℕ)) → length s < length t → value_words m k t ≡ value_words m k s ++ word ∷ left → word ≡ value_text m (k + length s) (value_in t (length s))
  word_at k [] [] word left less e = absurd (omega (arith, less))
  word_at k [] (w ∷ t) word left less e =
      sym (same_first (value_text m k w) word (value_words m (k + 1) t) left e) ∙ ap (λ i. value_text m i w) (omega arith)
  word_at k (v ∷ s) [] word left less e = absurd (omega (arith, less))
  word_at k (v ∷ s) (w ∷ t) word left less e =
      word_at (k + 1) s t word left (omega (arith, less)) (same_rest (value_text m k w) (value_text m k v) (value_words m (k + 1) t) (value_words m (k + 1) s ++ word ∷ left) e)
      ∙ ap (λ i. value_text m i (value_in t (length s))) (omega arith)

  -- these words were read as values of the first variables, and others are left
  pub record AreRead (words left : List (List ℕ)) (s : State) : Type 0 where
    pub typed : (x : ℕ) (v : Variable) → x < length s → Contains (slice_index_or m.vars x v).values (value_in s x)
    pub words_are : words ≡ value_words m 0 s ++ left

  pub none_read : (words : List (List ℕ)) → AreRead words words []
  none_read words = record { typed = λ x v less. absurd (omega (arith, less)); words_are = refl }

  module _ (words left : List (List ℕ)) (s : State) where
    pub read_more : (word : List ℕ) (v : Value) → AreRead words (word ∷ left) s → ((d : Variable) → Contains (slice_index_or m.vars (length s) d).values v) → word ≡ value_text m (length s) v → AreRead words left (s ++ v ∷ [])
    read_more word v h typed e = record {
      typed = λ x d less. elim (cases_lt x (length s)) [
        | inl before ↦ subst (Contains (slice_index_or m.vars x d).values) (sym (earlier_of s v x before)) (h.typed x d before)
        | inr behind ↦
            let here : length s ≡ x = omega (arith, less, behind, length-append s (v ∷ [])) in
            subst (λ i. Contains (slice_index_or m.vars i d).values (value_in (s ++ v ∷ []) i)) here (subst (Contains (slice_index_or m.vars (length s) d).values) (sym (last_of s v)) (typed d))
      ];
      words_are = h.words_are ∙ ap (λ w. value_words m 0 s ++ w ∷ left) (e ∙ ap (λ i. value_text m i v) (omega arith))
          ∙ sym (append_assoc (value_words m 0 s) (value_text m (0 + length s) v ∷ []) left) ∙ ap (λ ws. ws ++ left) (sym (words_more 0 s v));
    }

    -- no state goes on with a word that writes none of the next variable's values
    pub no_state : (word : List ℕ) (d : Variable) → AreRead words (word ∷ left) s → length s < length m.vars
        → ((v : Value) → Contains (slice_index_or m.vars (length s) d).values v → word ≡ value_text m (length s) v → ⊥) → (t : State) → IsState m t → words ≡ value_words m 0 t → ⊥
    no_state word d h less none t is e =
        none (value_in t (length s)) (is.typed (length s) d less)
        (word_at 0 s t word left (omega (arith, less, is.each)) (sym e ∙ h.words_are) ∙ ap (λ i. value_text m i (value_in t (length s))) (omega arith))

    pub state_cut : left ≡ [] → AreRead words left s → length s < length m.vars → (t : State) → IsState m t → words ≡ value_words m 0 t → ⊥
    state_cut none h less t is e =
        omega (arith, less, is.each, as_many 0 t, as_many 0 s, ap length (sym e ∙ h.words_are ∙ ap (λ ws. value_words m 0 s ++ ws) none), length-append (value_words m 0 s) [])

    pub state_read : left ≡ [] → AreRead words left s → length s ≡ length m.vars → IsState m s × (words ≡ value_words m 0 s)
    state_read none h all = (
      record { each = all; typed = λ x v less. h.typed x v (omega (arith, less, all)) },
      h.words_are ∙ ap (λ ws. value_words m 0 s ++ ws) none ∙ append-nil (value_words m 0 s),
    )

    pub state_long : (left ≡ [] → ⊥) → AreRead words left s → length s ≡ length m.vars → (t : State) → IsState m t → words ≡ value_words m 0 t → ⊥
    state_long some h all t is e = go left some h.words_are
      where
        go : (left : List (List ℕ)) → (left ≡ [] → ⊥) → words ≡ value_words m 0 s ++ left → ⊥
        go [] some are = some refl
        go (w ∷ ws) some are = omega (arith, all, is.each, as_many 0 t, as_many 0 s, ap length (sym e ∙ are), length-append (value_words m 0 s) (w ∷ ws))
