-- Texts without line feeds, and the lines of a trace among them.
use Rattle.std.proofs.Common.{◌≡◌, inl, inr, ℕ, zero, suc, ◌+◌, ◌/◌, ◌%◌, ◌<◌, ◌≤◌, Bool, true, false, ◌||◌, ◌==◌, List, [], ◌∷◌, ◌++◌, length, get_or, refl, subst, arith, length-append}
use Rattle.std.specs.Prelude.{All, Contains, codes, decimal, nat_lt, if◌then◌else◌}
use Rattle.std.proofs.lemmas.List.Elements.{All-nil, All-cons, All-head, All-tail, All-append, Contains-append_cases}
use Rattle.std.specs.Fmt.{digits, digits_onto, digit_glyph}
use Rattle.kripke_model.specs.Flat.{main_name}
use Rattle.kripke_model.specs.Step.{IsState}
use Rattle.kripke_model.specs.System.{System, State, Variable, value_in, variable_name}
use Rattle.kripke_model.specs.declared.expressions.Value.{Value}
use Rattle.kripke_model.specs.Shown.{value_text}
use Rattle.text_lines.specs.WholeLines.{join_lines, IsOneLine}
use Rattle.trace_files.specs.Trace.{Trace, members, value_line, value_lines, state_line, state_lines, states_lines, loop_line, trace_lines}

-- each value of a variable is printed in one line, and no two of them alike
pub record PrintsApart (m : System) : Type 0 where
  pub apart : (x : ℕ) (v : Variable) (a b : Value) → x < length m.vars → Contains (get_or m.vars x v).values a → Contains (get_or m.vars x v).values b
      → value_text m x a ≡ value_text m x b → a ≡ b
  pub in_line : (x : ℕ) (v : Variable) (a : Value) → x < length m.vars → Contains (get_or m.vars x v).values a → IsOneLine (value_text m x a)
  pub names : All (λ v. IsOneLine v.name) m.vars
  pub few : length m.specs ≤ 256

-- ---- one line

pub both_one : (a b : List ℕ) → IsOneLine a → IsOneLine b → IsOneLine (a ++ b)
both_one a b one other h = elim (Contains-append_cases a b 10 h) [ inl x ↦ one x | inr y ↦ other y ]

pub single_one : (n : ℕ) → (n ≡ 10 → ⊥) → IsOneLine (n ∷ [])
single_one n other (zero, l, e) = other e
single_one n other (suc k, l, e) = absurd (omega arith)

digit_one : (d : ℕ) → IsOneLine (digit_glyph false d ∷ [])
digit_one d = single_one (digit_glyph false d) (λ e. go (nat_lt d 10) e)
  where
    go : (small : Bool) → (if small then 48 + d else 87 + d) ≡ 10 → ⊥
    go true e = omega arith
    go false e = omega arith

pub more_one : (c : ℕ) (text : List ℕ) → IsOneLine (c ∷ []) → IsOneLine text → IsOneLine (c ∷ text)
more_one c text one other (zero, l, e) = one (0, omega arith, e)
more_one c text one other (suc k, l, e) = other (k, omega arith, e)

digits_one : (k n : ℕ) (after : List ℕ) → IsOneLine after → IsOneLine (digits_onto k 10 false n after)
digits_one zero n after one = one
digits_one (suc k) n after one = go (n / 10 == 0) (more_one (digit_glyph false (n % 10)) after (digit_one (n % 10)) one) (λ h. digits_one k (n / 10) (digit_glyph false (n % 10) ∷ after) h)
  where
    go : (last : Bool) → IsOneLine (digit_glyph false (n % 10) ∷ after) → (IsOneLine (digit_glyph false (n % 10) ∷ after) → IsOneLine (digits_onto k 10 false (n / 10) (digit_glyph false (n % 10) ∷ after)))
        → IsOneLine (if last then digit_glyph false (n % 10) ∷ after else digits_onto k 10 false (n / 10) (digit_glyph false (n % 10) ∷ after))
    go true here more = here
    go false here more = more here

pub empty_one : IsOneLine []
empty_one h = omega (arith, h.1)

pub decimal_one : (n : ℕ) → IsOneLine (decimal n)
unfolding digits
decimal_one n = digits_one 64 n [] empty_one

-- a text that is written out
pub has_feed : List ℕ → Bool
has_feed [] = false
has_feed (c ∷ text) = (c == 10) || has_feed text

not_feed : (c : ℕ) (text : List ℕ) → ((c == 10) || has_feed text) ≡ false → ((c ≡ 10) → ⊥) × (has_feed text ≡ false)
not_feed c text e = grind arith

pub written_one : (text : List ℕ) → has_feed text ≡ false → IsOneLine text
unfolding has_feed
written_one [] e (k, l, h) = omega arith
written_one (c ∷ text) e (zero, l, h) = (not_feed c text e).0 h
written_one (c ∷ text) e (suc k, l, h) = written_one text (not_feed c text e).1 (k, omega arith, h)

pub numbered_one : (word : List ℕ) (n : ℕ) → IsOneLine word → IsOneLine (word ++ decimal n)
numbered_one word n one = both_one word (decimal n) one (decimal_one n)

pub trace_word : IsOneLine (codes "trace ")
unfolding has_feed
trace_word = written_one (codes "trace ") refl

pub state_word : IsOneLine (codes "state ")
unfolding has_feed
state_word = written_one (codes "state ") refl

pub loop_word : IsOneLine (codes "loop ")
unfolding has_feed
loop_word = written_one (codes "loop ") refl

pub front_word : IsOneLine (codes "  ")
unfolding has_feed
front_word = written_one (codes "  ") refl

pub equal_word : IsOneLine (codes " = ")
unfolding has_feed
equal_word = written_one (codes " = ") refl

pub main_one : IsOneLine main_name
unfolding has_feed
main_one = written_one main_name refl

pub running_one : IsOneLine (114 ∷ 117 ∷ 110 ∷ 110 ∷ 105 ∷ 110 ∷ 103 ∷ [])
unfolding has_feed
running_one = written_one (114 ∷ 117 ∷ 110 ∷ 110 ∷ 105 ∷ 110 ∷ 103 ∷ []) refl

-- ---- the lines of a trace

module _ (m : System) (prints : PrintsApart m) where
  name_one : (vars : List Variable) (x : ℕ) → All (λ v. IsOneLine v.name) vars → IsOneLine (get_or vars x (record { name = []; values = []; line = 0 })).name
  name_one [] x h = empty_one
  name_one (v ∷ vars) zero h = All-head (λ (u : Variable). IsOneLine u.name) v vars h
  name_one (v ∷ vars) (suc x) h = name_one vars x (All-tail (λ (u : Variable). IsOneLine u.name) v vars h)

  value_line_one : (x : ℕ) (a : Value) → IsOneLine (value_text m x a) → IsOneLine (value_line m x a)
  value_line_one x a one =
      both_one (codes "  ") (variable_name m x ++ (codes " = " ++ value_text m x a)) front_word
      (both_one (variable_name m x) (codes " = " ++ value_text m x a) (name_one m.vars x prints.names) (both_one (codes " = ") (value_text m x a) equal_word one))

  values_one : (s : State) (x : ℕ) → ((i : ℕ) → i < length s → IsOneLine (value_text m (x + i) (value_in s i))) → All IsOneLine (value_lines m x s)
  values_one [] x h = All-nil IsOneLine
  values_one (v ∷ s) x h =
      All-cons IsOneLine (value_line m x v) (value_lines m (x + 1) s)
      (value_line_one x v (subst (λ y. IsOneLine (value_text m y v)) (let e : x + 0 ≡ x = omega arith in e) (h 0 (omega arith))))
      (values_one s (x + 1) (λ i l. subst (λ y. IsOneLine (value_text m y (value_in s i))) (let e : x + suc i ≡ x + 1 + i = omega arith in e) (h (suc i) (omega arith))))

  state_one : (s : State) → IsState m s → (k : ℕ) → All IsOneLine (state_lines m k s)
  state_one s is_state k =
      All-cons IsOneLine (state_line k) (value_lines m 0 s) (numbered_one (codes "state ") k state_word)
      (values_one s 0 (λ i l. subst (λ y. IsOneLine (value_text m y (value_in s i))) (let e : i ≡ 0 + i = omega arith in e)
      (prints.in_line i (record { name = []; values = []; line = 0 }) (value_in s i) (omega (arith, is_state.each))
      (is_state.typed i (record { name = []; values = []; line = 0 }) (omega (arith, is_state.each))))))

  states_one : (ss : List State) (k : ℕ) → All (IsState m) ss → All IsOneLine (states_lines m k ss)
  states_one [] k states = All-nil IsOneLine
  states_one (s ∷ ss) k states =
      All-append IsOneLine (state_lines m k s) (states_lines m (k + 1) ss) (state_one s (All-head (IsState m) s ss states) k)
      (states_one ss (k + 1) (All-tail (IsState m) s ss states))

  pub lines_one : (t : Trace) → All (IsState m) (members t.lasso) → All IsOneLine (trace_lines m t)
  lines_one t states =
      All-cons IsOneLine (codes "trace " ++ decimal t.spec) (states_lines m 0 (members t.lasso) ++ loop_line (length t.lasso.stem) ∷ []) (numbered_one (codes "trace ") t.spec trace_word)
      (All-append IsOneLine (states_lines m 0 (members t.lasso)) (loop_line (length t.lasso.stem) ∷ []) (states_one (members t.lasso) 0 states)
      (All-cons IsOneLine (loop_line (length t.lasso.stem)) [] (numbered_one (codes "loop ") (length t.lasso.stem) loop_word) (All-nil IsOneLine)))

  -- ---- a text has at least as many bytes as lines, and as states

  line_count : (ts : List (List ℕ)) → length ts ≤ length (join_lines ts)
  line_count [] = omega arith
  line_count (t ∷ ts) = omega (arith, line_count ts, length-append (t ++ 10 ∷ []) (join_lines ts), length-append t (10 ∷ []))

  pub state_count : (ss : List State) (k : ℕ) → length ss ≤ length (states_lines m k ss)
  state_count [] k = omega arith
  state_count (s ∷ ss) k = omega (arith, state_count ss (k + 1), length-append (state_lines m k s) (states_lines m (k + 1) ss))

  pub few_members : (t : Trace) → length (members t.lasso) ≤ length (join_lines (trace_lines m t))
  few_members t = omega (arith, line_count (trace_lines m t), state_count (members t.lasso) 0, length-append (states_lines m 0 (members t.lasso)) (loop_line (length t.lasso.stem) ∷ []))
