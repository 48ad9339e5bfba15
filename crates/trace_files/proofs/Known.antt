-- Parts of a trace are known by their lines.
use Rattle.std.proofs.Common.{◌≡◌, inl, inr, ℕ, zero, suc, ◌+◌, ◌<◌, ◌≤◌, List, [], ◌∷◌, ◌++◌, length, get_or, pos, refl, sym, ◌∙◌, ap, subst, arith, length-append}
use Rattle.std.specs.Prelude.{Contains, codes, decimal}
use Rattle.std.proofs.lemmas.Bool.{cases_lt}
use Rattle.std.proofs.lemmas.Fmt.{decimal_injective}
use Rattle.std.proofs.lemmas.List.{append_cancel_left, get_or_default}
use Rattle.kripke_model.specs.declared.expressions.Value.{Value}
use Rattle.kripke_model.specs.declared.expressions.Value.TheVariants.{Number}
use Rattle.kripke_model.specs.Shown.{value_text}
use Rattle.kripke_model.specs.Step.{IsState}
use Rattle.kripke_model.specs.System.{System, State, Variable, value_in, variable_name}
use Rattle.text_lines.specs.Formats.{AreKnown, FitBoth, FitMany, lines_of_both, lines_of_many}
use Rattle.text_lines.proofs.InTurn.{both_known}
use Rattle.text_lines.proofs.Many.{many_known}
use Rattle.text_lines.proofs.OneLine.{line_known}
use Rattle.text_lines.proofs.Renamed.{renamed_known}
use Rattle.trace_files.specs.Parts.{lone, FitsValue, one_value}
use Rattle.trace_files.specs.Spells.{IsSpec}
use Rattle.trace_files.specs.Trace.{value_line, value_lines, spec_line, state_line, state_lines}
use Rattle.trace_files.proofs.Texts.{PrintsApart}

-- a line is its text, and each is good
abbrev pub text : List ℕ → List ℕ
text l = l

abbrev pub Good : List ℕ → Type 0
Good l = Unit {0}

abbrev pub Known : {X : Type 0} → (X → Type 0) → (X → List (List ℕ)) → Type 0
Known Fits lines = AreKnown text Good Fits lines

-- ---- a state is its head and its values

abbrev pub AnyHead : Unit {0} → Type 0
AnyHead u = Unit {0}

abbrev pub head_lines : ℕ → Unit {0} → List (List ℕ)
head_lines k u = state_line k ∷ []

abbrev pub to_state : Unit {0} × List Value → State
to_state p = p.1

abbrev pub of_state : State → Unit {0} × List Value
of_state s = (tt, s)

module _ (m : System) where
  -- ---- values in a row are a state

  pub values_lines : (earlier s : List Value) → lines_of_many (one_value m) earlier s ≡ value_lines m (length earlier) s
  values_lines earlier [] = refl
  values_lines earlier (v ∷ s) =
      ap (λ ls. value_line m (length earlier) v ∷ ls) (values_lines (earlier ++ v ∷ []) s ∙ ap (λ x. value_lines m x s) (length-append earlier (v ∷ [])))

  -- the value at each place is one of its variable
  abbrev AreTyped : ℕ → State → Type 0
  AreTyped x s = (i : ℕ) → i < length s → Contains (get_or m.vars (x + i) lone).values (value_in s i)

  many_typed : (n : ℕ) (earlier s : List Value) → FitMany (FitsValue m) n earlier s → (length s ≡ n) × AreTyped (length earlier) s
  many_typed zero earlier [] fits = (refl, λ i l. absurd (omega arith))
  many_typed zero earlier (v ∷ s) fits = absurd fits
  many_typed (suc n) earlier [] fits = absurd fits
  many_typed (suc n) earlier (v ∷ s) fits = let h = many_typed n (earlier ++ v ∷ []) s fits.1 in (ap suc h.0, each h.1)
    where
      each : AreTyped (length (earlier ++ v ∷ [])) s → AreTyped (length earlier) (v ∷ s)
      each h zero l = subst (λ y. Contains (get_or m.vars y lone).values v) (let e : length earlier ≡ length earlier + 0 = omega arith in e) fits.0
      each h (suc i) l = subst (λ y. Contains (get_or m.vars y lone).values (value_in s i))
          (let e : length (earlier ++ v ∷ []) + i ≡ length earlier + suc i = omega (arith, length-append earlier (v ∷ [])) in e) (h i (omega arith))

  typed_many : (n : ℕ) (earlier s : List Value) → length s ≡ n → AreTyped (length earlier) s → FitMany (FitsValue m) n earlier s
  typed_many zero earlier [] count typed = tt
  typed_many zero earlier (v ∷ s) count typed = absurd (omega (arith, count))
  typed_many (suc n) earlier [] count typed = absurd (omega (arith, count))
  typed_many (suc n) earlier (v ∷ s) count typed = (
    subst (λ y. Contains (get_or m.vars y lone).values v) (let e : length earlier + 0 ≡ length earlier = omega arith in e) (typed 0 (omega arith)),
    typed_many n (earlier ++ v ∷ []) s (omega (arith, count)) (λ i l. subst (λ y. Contains (get_or m.vars y lone).values (value_in s i))
        (let e : length earlier + suc i ≡ length (earlier ++ v ∷ []) + i = omega (arith, length-append earlier (v ∷ [])) in e) (typed (suc i) (omega arith))),
  )

  pub many_state : (s : State) → FitMany (FitsValue m) (length m.vars) [] s → IsState m s
  many_state s fits =
      let h = many_typed (length m.vars) [] s fits in
      record {
        each = h.0;
        typed = λ x v l. subst (λ (u : Variable). Contains u.values (value_in s x)) (get_or_default m.vars x lone v l)
            (subst (λ y. Contains (get_or m.vars y lone).values (value_in s x)) (let e : 0 + x ≡ x = omega arith in e) (h.1 x (omega (arith, h.0))));
      }

  pub state_many : (s : State) → IsState m s → FitMany (FitsValue m) (length m.vars) [] s
  state_many s is = typed_many (length m.vars) [] s is.each (λ i l. subst (λ y. Contains (get_or m.vars y lone).values (value_in s i)) (let e : i ≡ 0 + i = omega arith in e)
      (is.typed i lone (omega (arith, is.each))))

  -- ---- and its head

  abbrev pub FitsValues : Unit {0} → List Value → Type 0
  FitsValues u s = FitMany (FitsValue m) (length m.vars) [] s

  abbrev pub values_of : Unit {0} → List Value → List (List ℕ)
  values_of u s = lines_of_many (one_value m) [] s

  abbrev pub FitsHeaded : Unit {0} × List Value → Type 0
  FitsHeaded = FitBoth AnyHead FitsValues

  abbrev pub headed_lines : ℕ → Unit {0} × List Value → List (List ℕ)
  headed_lines k = lines_of_both (head_lines k) values_of

  pub headed_same : (k : ℕ) (p : Unit {0} × List Value) → state_lines m k (to_state p) ≡ headed_lines k p
  headed_same k p = ap (λ ls. state_line k ∷ ls) (sym (values_lines [] p.1))

  pub headed_fits : (p : Unit {0} × List Value) → FitsHeaded p → IsState m (to_state p)
  headed_fits p fits = many_state p.1 fits.1

  pub headed_back : (k : ℕ) (s : State) → headed_lines k (of_state s) ≡ state_lines m k s
  headed_back k s = ap (λ ls. state_line k ∷ ls) (values_lines [] s)

  pub headed_fits_back : (s : State) → IsState m s → FitsHeaded (of_state s)
  headed_fits_back s is = (tt, state_many s is)

  module _ (prints : PrintsApart m) where
    pub spec_known : Known (IsSpec m) (λ j. spec_line j ∷ [])
    spec_known = line_known text Good (IsSpec m) spec_line (λ a b p q e.
        decimal_injective a b (omega (arith, p.1, prints.few)) (omega (arith, q.1, prints.few)) (append_cancel_left (codes "trace ") (decimal a) (decimal b) e))

    value_cancel : (x : ℕ) (a b : Value) → value_line m x a ≡ value_line m x b → value_text m x a ≡ value_text m x b
    value_cancel x a b e =
        append_cancel_left (codes " = ") (value_text m x a) (value_text m x b)
        (append_cancel_left (variable_name m x) (codes " = " ++ value_text m x a) (codes " = " ++ value_text m x b)
        (append_cancel_left (codes "  ") (variable_name m x ++ (codes " = " ++ value_text m x a)) (variable_name m x ++ (codes " = " ++ value_text m x b)) e))

    lone_value : (vars : List Variable) (x : ℕ) (v : Value) → length vars ≤ x → Contains (get_or vars x lone).values v → v ≡ Number (pos 0)
    lone_value [] x v l (zero, k, e) = sym e
    lone_value [] x v l (suc i, k, e) = absurd (omega arith)
    lone_value (u ∷ vars) zero v l h = absurd (omega arith)
    lone_value (u ∷ vars) (suc x) v l h = lone_value vars x v (omega arith) h

    pub value_known : (earlier : List Value) → Known (FitsValue m earlier) (one_value m earlier)
    value_known earlier = line_known text Good (FitsValue m earlier) (value_line m (length earlier)) (λ a b p q e. elim (cases_lt (length earlier) (length m.vars)) [
      | inl less ↦ prints.apart (length earlier) lone a b less p q (value_cancel (length earlier) a b e)
      | inr past ↦ lone_value m.vars (length earlier) a past p ∙ sym (lone_value m.vars (length earlier) b past q)
    ])

    head_known : (k : ℕ) → Known AnyHead (head_lines k)
    head_known k u w p q behind after e = refl

    pub state_known : (k : ℕ) → Known (IsState m) (state_lines m k)
    state_known k = renamed_known text Good FitsHeaded (headed_lines k) (IsState m) (state_lines m k) to_state of_state (headed_same k) headed_fits (headed_back k) headed_fits_back (λ z. refl)
        (both_known text Good AnyHead (head_lines k) FitsValues values_of (head_known k) (λ u. many_known text Good (FitsValue m) (one_value m) value_known (length m.vars) []))
