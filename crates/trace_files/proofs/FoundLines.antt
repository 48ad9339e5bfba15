-- What is found of a part of one line, and that some part fits.
use Rattle.std.proofs.Common.{◌≡◌, inl, inr, ℕ, zero, suc, ◌<◌, ◌≤◌, ◌^◌, List, [], ◌∷◌, ◌++◌, length, get_or, pos, Option, Some, None, codes, decimal, nat_eq, drop, refl, sym, ◌∙◌, ap, subst, arith}
use Rattle.std.specs.Prelude.{Contains, IsTrue, MatchOption, Err}
use Rattle.std.specs.List.{starts_with}
use Rattle.std.proofs.lemmas.Bool.{cases_lt}
use Rattle.std.proofs.lemmas.Bool.Decides.{Decides-eqb}
use Rattle.std.proofs.lemmas.Fmt.{decimal_injective}
use Rattle.std.proofs.lemmas.List.{append_cancel_left, get_or_default}
use Rattle.std.proofs.lemmas.Slice.Eq.{starts_is}
use Rattle.kripke_model.specs.declared.expressions.Value.{Value}
use Rattle.kripke_model.specs.declared.expressions.Value.TheVariants.{Number}
use Rattle.kripke_model.specs.Flat.{IsFlat}
use Rattle.kripke_model.specs.Shown.{value_text}
use Rattle.kripke_model.specs.Step.{IsState}
use Rattle.kripke_model.specs.System.{System, State, Variable, variable_name}
use Rattle.text_lines.specs.Cursor.{Place, Takes, Shows, BeginsWith}
use Rattle.text_lines.specs.Formats.{FitMany}
use Rattle.text_lines.specs.declared.faults.Fault.TheVariants.{Stops, End}
use Rattle.text_lines.proofs.FoundLine as line
use Rattle.text_lines.proofs.Lists.{same_first}
use Rattle.trace_files.specs.Parts.{Finds, lone, FitsValue}
use Rattle.trace_files.specs.Trace.{value_line}
use Rattle.trace_files.specs.Spells.{IsSpec}
use Rattle.trace_files.proofs.Known.{text, Good, many_state}

module _ {X : Type 0} (Fits : X → Type 0) (one : X → List ℕ) (some : (x : X) × Fits x) {old new : Place} where
  -- no line is left
  pub line_missing : Takes old None new → Finds Fits (λ x. one x ∷ []) old (Err End) new
  line_missing last = line.line_ends {text = text} {Good = Good} {line = one} last some

  -- the line is none of such a part
  pub line_other : {t : List ℕ} {l : ℕ} → Takes old (Some t) new → l ≡ old.line → ((x : X) → Fits x → one x ≡ t → ⊥) → Finds Fits (λ x. one x ∷ []) old (Err (Stops l)) new
  line_other taken at none = line.line_stops {text = text} {Good = Good} {line = one} taken some none at

-- ---- numbers

-- the number of the line is none that fits
pub other_number : (front t : List ℕ) (n j : ℕ) → n < 2 ^ 64 → j < 2 ^ 64 → (n ≡ j → ⊥) → t ≡ front ++ decimal n → front ++ decimal j ≡ t → ⊥
other_number front t n j small low apart e f = apart (decimal_injective n j small low (append_cancel_left front (decimal n) (decimal j) (sym e ∙ sym f)))

-- ---- the next line

pub begins_so : (front t : List ℕ) (place : Place) → Shows place (Some t) → (b : _) → b ≡ starts_with nat_eq t front → (IsTrue b → BeginsWith front place) × (BeginsWith front place → IsTrue b)
begins_so front t place shown b is =
    let s = starts_is (λ x y. Decides-eqb x y) t front b is in (
      λ yes. (drop (length front) t, subst (λ u. Shows place (Some u)) (s.0 yes) shown),
      λ begins. s.1 begins.0 (same_first t (front ++ begins.0) shown.0 begins.1.0 (sym shown.1 ∙ begins.1.1)),
    )

module _ (m : System) where
  pub some_spec : 0 < length m.specs → (j : ℕ) × IsSpec m j
  some_spec some = (1, (omega arith, omega arith))

  -- what is found of the word is found of the line
  pub value_so : (x : ℕ) (t word : List ℕ) (values own : List Value) → t ≡ codes "  " ++ (variable_name m x ++ (codes " = " ++ word)) → values ≡ own → (r : Option Value)
      → MatchOption r ((v : Value) → Contains values v → word ≡ value_text m x v → ⊥) (λ v. Contains values v × (word ≡ value_text m x v))
      → MatchOption r ((v : Value) → Contains own v → value_line m x v ≡ t → ⊥) (λ v. Contains own v × (value_line m x v ≡ t))
  value_so x t word values own e same None h = λ v has f.
      h v (subst (λ vs. Contains vs v) (sym same) has)
      (append_cancel_left (codes " = ") word (value_text m x v)
      (append_cancel_left (variable_name m x) (codes " = " ++ word) (codes " = " ++ value_text m x v)
      (append_cancel_left (codes "  ") (variable_name m x ++ (codes " = " ++ word)) (variable_name m x ++ (codes " = " ++ value_text m x v)) (sym e ∙ sym f))))
  value_so x t word values own e same (Some v) h = (subst (λ vs. Contains vs v) same h.0, ap (λ w. codes "  " ++ (variable_name m x ++ (codes " = " ++ w))) (sym h.1) ∙ sym e)

  -- the variable behind those of the earlier values
  pub value_in_so : (earlier : State) (x : ℕ) → x ≡ length earlier → (t word : List ℕ) (values : List Value) → values ≡ (get_or m.vars (length earlier) lone).values
      → t ≡ codes "  " ++ (variable_name m x ++ (codes " = " ++ word)) → (r : Option Value)
      → MatchOption r ((v : Value) → Contains values v → word ≡ value_text m x v → ⊥) (λ v. Contains values v × (word ≡ value_text m x v))
      → MatchOption r ((v : Value) → FitsValue m earlier v → value_line m (length earlier) v ≡ t → ⊥) (λ v. FitsValue m earlier v × (value_line m (length earlier) v ≡ t))
  value_in_so earlier x same t word values are e r h =
      value_so (length earlier) t word values (get_or m.vars (length earlier) lone).values (subst (λ y. t ≡ codes "  " ++ (variable_name m y ++ (codes " = " ++ word))) same e) are r
      (subst (λ y. MatchOption r ((v : Value) → Contains values v → word ≡ value_text m y v → ⊥) (λ v. Contains values v × (word ≡ value_text m y v))) same h)

  module _ (flat : IsFlat m) where
    first_in : (values : List Value) → 0 < length values → Contains values (get_or values 0 (Number (pos 0)))
    first_in values some = (0, some, get_or_default values 0 (get_or values 0 (Number (pos 0))) (Number (pos 0)) some)

    past_last : (vars : List Variable) (x : ℕ) → length vars ≤ x → Contains (get_or vars x lone).values (Number (pos 0))
    past_last [] x l = (0, omega arith, refl)
    past_last (v ∷ vars) zero l = absurd (omega arith)
    past_last (v ∷ vars) (suc x) l = past_last vars x (omega arith)

    -- a value that may stand behind the earlier ones
    pub some_value : (earlier : List Value) → (v : Value) × FitsValue m earlier v
    some_value earlier = elim (cases_lt (length earlier) (length m.vars)) [
      | inl less ↦ (get_or (get_or m.vars (length earlier) lone).values 0 (Number (pos 0)), first_in (get_or m.vars (length earlier) lone).values (flat.types (length earlier) lone less).some_value)
      | inr past ↦ (Number (pos 0), past_last m.vars (length earlier) past)
    ]

    pub some_values : (n : ℕ) (earlier : List Value) → (s : List Value) × FitMany (FitsValue m) n earlier s
    some_values zero earlier = ([], tt)
    some_values (suc n) earlier =
        let v = some_value earlier in
        let r = some_values n (earlier ++ v.0 ∷ []) in
        (v.0 ∷ r.0, (v.1, r.1))

    pub some_state : (s : State) × IsState m s
    some_state = let r = some_values (length m.vars) [] in (r.0, many_state m r.0 r.1)
