-- The summary of an operator's values, from the summaries of its operands' values.
use Rattle.std.proofs.Common.{◌≡◌, List, [], ◌∷◌, ◌++◌, Bool, true, false, cond, not, ◌||◌, ◌&&◌, refl, sym, ◌∙◌, ap, subst, ℤ, pos, negsuc, ◌+ℤ◌, ◌-ℤ◌, ◌*ℤ◌}
use Rattle.std.specs.Prelude.{filter, Ok, Err, int_le, int_lt, int_div, int_rem}
use Rattle.std.specs.Ordering.{int_eq}
use Rattle.std.specs.List.{list_any}
use Rattle.kripke_model.specs.declared.expressions.Value.{Value}
use Rattle.kripke_model.specs.declared.expressions.Value.TheVariants.{Number}
use Rattle.kripke_model.specs.declared.expressions.BinOp.{BinOp}
use Rattle.kripke_model.specs.declared.expressions.FaultKind.{FaultKind}
use Rattle.single_states.specs.declared.evaluation.Summary.{Summary}
use Rattle.kripke_model.specs.System.{System, State, value_in}
use Rattle.kripke_model.specs.Term.{Term, Arms, none, more, esac, arm}
use Rattle.single_states.specs.Braces.{IsFilled, AreFilledArms}
use Rattle.kripke_model.specs.Evaluation.{Checked, ◌>>=◌, same, among, distinct, truth, truth_value, single, as_number, as_boolean, number, boolean, in_range, divided, on_operands, on_numbers, on_booleans, binary, runs, eval, eval_elements, eval_arms}
use Rattle.single_states.specs.Summary.{summary, summarized, one, joined, only, only_number, only_boolean, arithmetic, numbers, booleans, binary_value, IsSingleValued, found, either, first_is, decided}
use Rattle.kripke_model.specs.Operators.{in_bounds, logic}
use Rattle.kripke_model.proofs.ValueLemmas.{same-true}
use Rattle.single_states.proofs.SummaryLemmas.{single-distinct, summary-distinct, differs, any-distinct}
use Rattle.std.proofs.lemmas.List.Folds.{list_any-append}

-- ---- values that stand once, at least one

abbrev pub IsGood : List Value → Type 0
IsGood vs = (v : Value) × (rest : List Value) × (vs ≡ distinct (v ∷ rest))

abbrev pub IfGood : Checked (List Value) → Type 0
IfGood (Ok vs) = IsGood vs
IfGood (Err kind) = Unit {0}

one_good : (v : Value) → IsGood (v ∷ [])
one_good v = (v, [], refl)

truth_good : (b : Bool) → IsGood (truth b)
truth_good true = one_good (Number (pos 1))
truth_good false = one_good (Number (pos 0))

bind_good : {A : Type 0} (c : Checked A) (f : A → Checked (List Value)) → ((a : A) → IfGood (f a)) → IfGood (c >>= f)
bind_good (Ok a) f h = h a
bind_good (Err kind) f h = tt

cond_good : (b : Bool) (x y : Checked (List Value)) → IfGood x → IfGood y → IfGood (cond b x y)
cond_good true x y h k = h
cond_good false x y h k = k

operands_good : {A B : Type 0} (left : List Value → Checked A) (right : List Value → Checked B) (f : A → B → Checked (List Value)) → ((a : A) (b : B) → IfGood (f a b)) → (x y : Checked (List Value)) → IfGood (on_operands left right f x y)
operands_good left right f h x y = bind_good (x >>= left) _ (λ a. bind_good (y >>= right) _ (λ b. h a b))

range_good : (i : ℤ) → IfGood (in_range i)
range_good i = cond_good (int_le (negsuc 2147483647) i && int_le i (pos 2147483647)) _ _ (one_good (Number i)) tt

divided_good : (f : ℤ → ℤ → ℤ) (i j : ℤ) → IfGood (divided f i j)
divided_good f i j = cond_good (int_eq j (pos 0)) _ _ tt (range_good (f i j))

distinct_good : (vs ws : List Value) → IsGood vs → IsGood (distinct (vs ++ ws))
distinct_good vs ws h = subst (λ xs. IsGood (distinct (xs ++ ws))) (sym h.2) (h.0, _, refl)

union_good : (x y : Checked (List Value)) → IfGood x → IfGood (binary BinOp.Union x y)
union_good (Ok vs) (Ok ws) h = distinct_good vs ws h
union_good (Ok vs) (Err kind) h = tt
union_good (Err kind) y h = tt

pub binary_good : (op : BinOp) (x y : Checked (List Value)) → IfGood x → IfGood (binary op x y)
binary_good BinOp.Mul x y h = operands_good number number _ (λ i j. range_good (i *ℤ j)) x y
binary_good BinOp.Div x y h = operands_good number number _ (divided_good int_div) x y
binary_good BinOp.Add x y h = operands_good number number _ (λ i j. range_good (i +ℤ j)) x y
binary_good BinOp.Sub x y h = operands_good number number _ (λ i j. range_good (i -ℤ j)) x y
binary_good BinOp.Mod x y h = operands_good number number _ (divided_good int_rem) x y
binary_good BinOp.Union x y h = union_good x y h
binary_good BinOp.Member x y h = operands_good single Ok _ (λ v ws. truth_good (among v ws)) x y
binary_good BinOp.Eq x y h = operands_good single single _ (λ v w. truth_good (same v w)) x y
binary_good BinOp.Lt x y h = operands_good number number _ (λ i j. truth_good (int_lt i j)) x y
binary_good BinOp.Gt x y h = operands_good number number _ (λ i j. truth_good (int_lt j i)) x y
binary_good BinOp.Le x y h = operands_good number number _ (λ i j. truth_good (int_le i j)) x y
binary_good BinOp.Ge x y h = operands_good number number _ (λ i j. truth_good (int_le j i)) x y
binary_good BinOp.And x y h = operands_good boolean boolean _ (λ a b. truth_good (a && b)) x y
binary_good BinOp.Or x y h = operands_good boolean boolean _ (λ a b. truth_good (a || b)) x y
binary_good BinOp.Implies x y h = operands_good boolean boolean _ (λ a b. truth_good (not a || b)) x y
binary_good BinOp.Iff x y h = operands_good boolean boolean _ (λ a b. truth_good (cond a b (not b))) x y

braces_good : (x y : Checked (List Value)) → IfGood x → IfGood ((x >>= λ vs. y >>= λ ws. Ok (vs ++ ws)) >>= λ vs. Ok (distinct vs))
braces_good (Ok vs) (Ok ws) h = distinct_good vs ws h
braces_good (Ok vs) (Err kind) h = tt
braces_good (Err kind) y h = tt

mutual
  pub eval_good : (m : System) (e : Term) (s t : State) → IsFilled e → IfGood (eval m e s t)
  eval_good m (Term.Const v) s t h = one_good v
  eval_good m (Term.Var x) s t h = one_good (value_in s x)
  eval_good m (Term.Running p) s t h = truth_good (runs m s p)
  eval_good m (Term.Next e) s t h = eval_good m e t t h
  eval_good m (Term.Not e) s t h = bind_good (eval m e s t >>= boolean) _ (λ b. truth_good (not b))
  eval_good m (Term.Binary op a b) s t h = binary_good op (eval m a s t) (eval m b s t) (eval_good m a s t h.0)
  eval_good m (Term.Braces none) s t h = absurd h
  eval_good m (Term.Braces (more e es)) s t h = braces_good (eval m e s t) (eval_elements m es s t) (eval_good m e s t h.0)
  eval_good m (Term.Case arms) s t h = arms_good m arms s t h
  eval_good m (Term.Quant op e) s t h = tt
  eval_good m (Term.Until all a b) s t h = tt

  arms_good : (m : System) (arms : Arms) (s t : State) → AreFilledArms arms → IfGood (eval_arms m arms s t)
  arms_good m esac s t h = truth_good true
  arms_good m (arm guard right rest) s t h =
      bind_good (eval m guard s t >>= boolean) _ (λ b. cond_good b _ _ (eval_good m right s t h.1) (arms_good m rest s t h.2))

-- ---- tests of one value

single-good : (vs : List Value) → IsGood vs → single vs ≡ only (summary vs)
single-good vs h = ap single h.2 ∙ single-distinct h.0 h.1 ∙ ap only (sym (ap summary h.2 ∙ summary-distinct h.0 h.1))

pub tested : {A : Type 0} (f : Value → Checked A) (c : Checked (List Value)) → IfGood c → (c >>= λ vs. single vs >>= f) ≡ (summarized c >>= λ x. only x >>= f)
tested f (Ok vs) h = ap (λ o. o >>= f) (single-good vs h)
tested f (Err kind) h = refl

pub tested_single : (c : Checked (List Value)) → IfGood c → (c >>= single) ≡ (summarized c >>= only)
tested_single (Ok vs) h = single-good vs h
tested_single (Err kind) h = refl

-- ---- the summary of an operator's values

abbrev wrap : Value → Checked Summary
wrap v = Ok (one v)

steps : {A B : Type 0} (f : A → B → Checked (List Value)) (g : A → B → Checked Value) → ((a : A) (b : B) → summarized (f a b) ≡ (g a b >>= wrap)) → (n : Checked A) (k : Checked B) → summarized (n >>= λ a. k >>= λ b. f a b) ≡ ((n >>= λ a. k >>= λ b. g a b) >>= wrap)
steps f g h (Ok a) (Ok b) = h a b
steps f g h (Ok a) (Err kind) = refl
steps f g h (Err kind) k = refl

after_left : {A : Type 0} (x : Checked (List Value)) (k : Summary → Checked A) (r : A → Checked Value) → (((summarized x >>= k) >>= r) >>= wrap) ≡ (summarized x >>= λ a. (k a >>= r) >>= wrap)
after_left (Ok vs) k r = refl
after_left (Err kind) k r = refl

operands-summary : {A B : Type 0} (left : List Value → Checked A) (right : List Value → Checked B) (l : Summary → Checked A) (r : Summary → Checked B) (f : A → B → Checked (List Value)) (g : A → B → Checked Value) (x y : Checked (List Value)) → (x >>= left) ≡ (summarized x >>= l) → (y >>= right) ≡ (summarized y >>= r) → ((a : A) (b : B) → summarized (f a b) ≡ (g a b >>= wrap)) → summarized (on_operands left right f x y) ≡ (summarized x >>= λ a. (l a >>= λ i. (summarized y >>= r) >>= λ j. g i j) >>= wrap)
operands-summary left right l r f g x y p q h =
    (λ i. summarized (p i >>= λ a. q i >>= λ b. f a b))
    ∙ steps f g h (summarized x >>= l) (summarized y >>= r)
    ∙ after_left x l (λ i. (summarized y >>= r) >>= λ j. g i j)

truth-summary : (b : Bool) → summarized (Ok (truth b)) ≡ (Ok (truth_value b) >>= wrap)
truth-summary true = refl
truth-summary false = refl

range-summary : (i : ℤ) → summarized (in_range i) ≡ (in_bounds i >>= wrap)
range-summary i = by (int_le (negsuc 2147483647) i && int_le i (pos 2147483647))
  where
    by : (b : Bool) → summarized (cond b (Ok (Number i ∷ [])) (Err FaultKind.Overflow)) ≡ (cond b (Ok (Number i)) (Err FaultKind.Overflow) >>= wrap)
    by true = refl
    by false = refl

divided-summary : (f : ℤ → ℤ → ℤ) (i j : ℤ) → summarized (divided f i j) ≡ (cond (int_eq j (pos 0)) (Err FaultKind.ZeroDivisor) (in_bounds (f i j)) >>= wrap)
divided-summary f i j = by (int_eq j (pos 0)) (range-summary (f i j))
  where
    by : (b : Bool) → summarized (in_range (f i j)) ≡ (in_bounds (f i j) >>= wrap) → summarized (cond b (Err FaultKind.ZeroDivisor) (in_range (f i j))) ≡ (cond b (Err FaultKind.ZeroDivisor) (in_bounds (f i j)) >>= wrap)
    by true h = refl
    by false h = h

module _ (x y : Checked (List Value)) (hx : IfGood x) (hy : IfGood y) where
  by_numbers : (op : BinOp) (f : ℤ → ℤ → Checked (List Value)) → ((i j : ℤ) → summarized (f i j) ≡ (arithmetic op i j >>= wrap)) → summarized (on_numbers f x y) ≡ (summarized x >>= λ a. numbers op a (summarized y) >>= wrap)
  by_numbers op f h = operands-summary number number only_number only_number f (arithmetic op) x y (tested as_number x hx) (tested as_number y hy) h

  by_booleans : (op : BinOp) (f : Bool → Bool → Bool) → ((a b : Bool) → f a b ≡ logic op a b) → summarized (on_booleans f x y) ≡ (summarized x >>= λ a. booleans op a (summarized y) >>= wrap)
  by_booleans op f h =
      operands-summary boolean boolean only_boolean only_boolean (λ a b. Ok (truth (f a b))) (λ a b. Ok (truth_value (logic op a b))) x y (tested as_boolean x hx) (tested as_boolean y hy)
      (λ a b. truth-summary (f a b) ∙ ap (λ c. Ok (one (truth_value c))) (h a b))

  pub binary-summary : (op : BinOp) → IsSingleValued op → summarized (binary op x y) ≡ (summarized x >>= λ a. binary_value op a (summarized y) >>= wrap)
  binary-summary BinOp.Mul k = by_numbers BinOp.Mul _ (λ i j. range-summary (i *ℤ j))
  binary-summary BinOp.Div k = by_numbers BinOp.Div _ (divided-summary int_div)
  binary-summary BinOp.Add k = by_numbers BinOp.Add _ (λ i j. range-summary (i +ℤ j))
  binary-summary BinOp.Sub k = by_numbers BinOp.Sub _ (λ i j. range-summary (i -ℤ j))
  binary-summary BinOp.Mod k = by_numbers BinOp.Mod _ (divided-summary int_rem)
  binary-summary BinOp.Union k = absurd k
  binary-summary BinOp.Member k = absurd k
  binary-summary BinOp.Eq k =
      operands-summary single single only only (λ v w. Ok (truth (same v w))) (λ v w. Ok (truth_value (same v w))) x y (tested_single x hx) (tested_single y hy) (λ v w. truth-summary (same v w))
  binary-summary BinOp.Lt k = by_numbers BinOp.Lt _ (λ i j. truth-summary (int_lt i j))
  binary-summary BinOp.Gt k = by_numbers BinOp.Gt _ (λ i j. truth-summary (int_lt j i))
  binary-summary BinOp.Le k = by_numbers BinOp.Le _ (λ i j. truth-summary (int_le i j))
  binary-summary BinOp.Ge k = by_numbers BinOp.Ge _ (λ i j. truth-summary (int_le j i))
  binary-summary BinOp.And k = by_booleans BinOp.And _ (λ a b. refl)
  binary-summary BinOp.Or k = by_booleans BinOp.Or _ (λ a b. refl)
  binary-summary BinOp.Implies k = by_booleans BinOp.Implies _ (λ a b. refl)
  binary-summary BinOp.Iff k = by_booleans BinOp.Iff _ (λ a b. refl)

member_step : (o : Checked Value) (y : Checked (List Value)) → summarized (o >>= λ v. (y >>= Ok) >>= λ ws. Ok (truth (among v ws))) ≡ (o >>= λ v. (y >>= λ ws. Ok (among v ws)) >>= λ found. Ok (one (truth_value found)))
member_step (Ok v) (Ok ws) = truth-summary (among v ws)
member_step (Ok v) (Err kind) = refl
member_step (Err kind) y = refl

pub member-summary : (x y : Checked (List Value)) → IfGood x → summarized (binary BinOp.Member x y) ≡ (summarized x >>= λ a. only a >>= λ v. (y >>= λ ws. Ok (among v ws)) >>= λ found. Ok (one (truth_value found)))
member-summary (Ok vs) y h = member_step (single vs) y ∙ ap (λ (o : Checked Value). o >>= λ v. (y >>= λ ws. Ok (among v ws)) >>= λ found. Ok (one (truth_value found))) (single-good vs h)
member-summary (Err kind) y h = refl

any_of_three : (a b c d : Bool) → (d ≡ false → b ≡ c) → (a || (d || b)) ≡ ((a || c) || d)
any_of_three true b c d h = refl
any_of_three false b true true h = refl
any_of_three false b false true h = refl
any_of_three false b true false h = h refl
any_of_three false b false false h = h refl

alike : (v w : Value) (ws : List Value) → differs v w ≡ false → list_any (differs v) ws ≡ list_any (differs w) ws
alike v w ws e = ap (λ u. list_any (differs u) ws) (same-true v w (unless (same v w) e))
  where
    unless : (b : Bool) → not b ≡ false → b ≡ true
    unless true h = refl
    unless false h = absurd cc

join_heads : (v w : Value) (vs ws : List Value) → summary (distinct (v ∷ (vs ++ (w ∷ ws)))) ≡ joined (summary (v ∷ vs)) (summary (w ∷ ws))
join_heads v w vs ws =
    summary-distinct v (vs ++ (w ∷ ws))
    ∙ ap (λ b. record { first = v; many = b }) (list_any-append (differs v) vs (w ∷ ws) ∙ any_of_three (list_any (differs v) vs) (list_any (differs v) ws) (list_any (differs w) ws) (differs v w) (alike v w ws))

union_values : (vs ws : List Value) → IsGood vs → IsGood ws → summary (distinct (vs ++ ws)) ≡ joined (summary vs) (summary ws)
union_values vs ws h k =
    (λ i. summary (distinct (h.2 i ++ k.2 i)))
    ∙ join_heads h.0 k.0 (filter (differs h.0) (distinct h.1)) (filter (differs k.0) (distinct k.1))
    ∙ (λ i. joined (summary (sym h.2 i)) (summary (sym k.2 i)))

pub union-summary : (x y : Checked (List Value)) → IfGood x → IfGood y → summarized (binary BinOp.Union x y) ≡ (summarized x >>= λ a. summarized y >>= λ b. Ok (joined a b))
union-summary (Ok vs) (Ok ws) h k = ap Ok (union_values vs ws h k)
union-summary (Ok vs) (Err kind) h k = refl
union-summary (Err kind) y h k = refl

not_step : (n : Checked Bool) → summarized (n >>= λ b. Ok (truth (not b))) ≡ (n >>= λ b. Ok (one (truth_value (not b))))
not_step (Ok b) = truth-summary (not b)
not_step (Err kind) = refl

assoc : {A B C : Type 0} (c : Checked A) (f : A → Checked B) (g : B → Checked C) → ((c >>= f) >>= g) ≡ (c >>= λ a. f a >>= g)
assoc (Ok a) f g = refl
assoc (Err kind) f g = refl

pub not-summary : (c : Checked (List Value)) → IfGood c → summarized ((c >>= boolean) >>= λ b. Ok (truth (not b))) ≡ (summarized c >>= λ x. only_boolean x >>= λ b. Ok (one (truth_value (not b))))
not-summary c h =
    ap (λ (n : Checked Bool). summarized (n >>= λ b. Ok (truth (not b)))) (tested as_boolean c h)
    ∙ not_step (summarized c >>= only_boolean)
    ∙ assoc (summarized c) only_boolean _

pub join_values : (v w : Value) (vs ws : List Value) → summary ((v ∷ vs) ++ (w ∷ ws)) ≡ joined (summary (v ∷ vs)) (summary (w ∷ ws))
join_values v w vs ws =
    ap (λ b. record { first = v; many = b }) (list_any-append (differs v) vs (w ∷ ws) ∙ any_of_three (list_any (differs v) vs) (list_any (differs v) ws) (list_any (differs w) ws) (differs v w) (alike v w ws))

-- ---- braces, and values that stand alone

summary_of_distinct : (vs : List Value) → summary (distinct vs) ≡ summary vs
summary_of_distinct [] = refl
summary_of_distinct (v ∷ vs) = summary-distinct v vs

pub braces-summary : (c : Checked (List Value)) → summarized (c >>= λ vs. Ok (distinct vs)) ≡ summarized c
braces-summary (Ok vs) = ap Ok (summary_of_distinct vs)
braces-summary (Err kind) = refl

pub braces_found : (v : Value) (c : Checked (List Value)) → found v (c >>= λ vs. Ok (distinct vs)) ≡ found v c
braces_found v (Ok vs) = ap Ok (any-distinct (same v) vs)
braces_found v (Err kind) = refl

pub union_found : (v : Value) (x y : Checked (List Value)) → found v (binary BinOp.Union x y) ≡ either (found v x) (found v y)
union_found v (Ok vs) (Ok ws) = ap Ok (any-distinct (same v) (vs ++ ws) ∙ list_any-append (same v) vs ws)
union_found v (Ok vs) (Err kind) = refl
union_found v (Err kind) y = refl

abbrev pub IfOne : Checked (List Value) → Type 0
IfOne (Ok vs) = (w : Value) × (vs ≡ w ∷ [])
IfOne (Err kind) = Unit {0}

pub first_found : (v : Value) (c : Checked (List Value)) → IfOne c → first_is (summarized c) v ≡ found v c
first_found v (Ok vs) h = ap (λ us. Ok (same v (summary us).first)) h.1 ∙ ap Ok (sym (or_false (same v h.0))) ∙ ap (λ us. Ok (among v us)) (sym h.1)
  where
    or_false : (b : Bool) → (b || false) ≡ b
    or_false true = refl
    or_false false = refl
first_found v (Err kind) h = refl

pub member_ok : (x y : Checked (List Value)) → IfGood x → (v : Value) → (summarized x >>= only) ≡ Ok v → summarized (binary BinOp.Member x y) ≡ decided (found v y)
member_ok x y h v p =
    member-summary x y h ∙ sym (assoc (summarized x) only _) ∙ ap (λ (o : Checked Value). o >>= λ w. found w y >>= λ b. Ok (one (truth_value b))) p

pub member_fails : (x y : Checked (List Value)) → IfGood x → (kind : FaultKind) → (summarized x >>= only) ≡ Err kind → summarized (binary BinOp.Member x y) ≡ Err kind
member_fails x y h kind p =
    member-summary x y h ∙ sym (assoc (summarized x) only _) ∙ ap (λ (o : Checked Value). o >>= λ w. found w y >>= λ b. Ok (one (truth_value b))) p

pub single_valued : (op : BinOp) → (op ≡ BinOp.Union → ⊥) → (op ≡ BinOp.Member → ⊥) → IsSingleValued op
single_valued BinOp.Union h k = h refl
single_valued BinOp.Member h k = k refl
single_valued BinOp.Mul h k = tt
single_valued BinOp.Div h k = tt
single_valued BinOp.Add h k = tt
single_valued BinOp.Sub h k = tt
single_valued BinOp.Mod h k = tt
single_valued BinOp.Eq h k = tt
single_valued BinOp.Lt h k = tt
single_valued BinOp.Gt h k = tt
single_valued BinOp.Le h k = tt
single_valued BinOp.Ge h k = tt
single_valued BinOp.And h k = tt
single_valued BinOp.Or h k = tt
single_valued BinOp.Implies h k = tt
single_valued BinOp.Iff h k = tt

-- ---- expressions with a single value

pub truth_one : (b : Bool) → IfOne (Ok (truth b))
truth_one true = (Number (pos 1), refl)
truth_one false = (Number (pos 0), refl)

pub bind_one : {A : Type 0} (c : Checked A) (f : A → Checked (List Value)) → ((a : A) → IfOne (f a)) → IfOne (c >>= f)
bind_one (Ok a) f h = h a
bind_one (Err kind) f h = tt

cond_one : (b : Bool) (x y : Checked (List Value)) → IfOne x → IfOne y → IfOne (cond b x y)
cond_one true x y h k = h
cond_one false x y h k = k

operands_one : {A B : Type 0} (left : List Value → Checked A) (right : List Value → Checked B) (f : A → B → Checked (List Value)) → ((a : A) (b : B) → IfOne (f a b)) → (x y : Checked (List Value)) → IfOne (on_operands left right f x y)
operands_one left right f h x y = bind_one (x >>= left) _ (λ a. bind_one (y >>= right) _ (λ b. h a b))

range_one : (i : ℤ) → IfOne (in_range i)
range_one i = cond_one (int_le (negsuc 2147483647) i && int_le i (pos 2147483647)) _ _ (Number i, refl) tt

divided_one : (f : ℤ → ℤ → ℤ) (i j : ℤ) → IfOne (divided f i j)
divided_one f i j = cond_one (int_eq j (pos 0)) _ _ tt (range_one (f i j))

pub binary_one : (op : BinOp) (x y : Checked (List Value)) → (op ≡ BinOp.Union → ⊥) → IfOne (binary op x y)
binary_one BinOp.Mul x y h = operands_one number number _ (λ i j. range_one (i *ℤ j)) x y
binary_one BinOp.Div x y h = operands_one number number _ (divided_one int_div) x y
binary_one BinOp.Add x y h = operands_one number number _ (λ i j. range_one (i +ℤ j)) x y
binary_one BinOp.Sub x y h = operands_one number number _ (λ i j. range_one (i -ℤ j)) x y
binary_one BinOp.Mod x y h = operands_one number number _ (divided_one int_rem) x y
binary_one BinOp.Union x y h = absurd (h refl)
binary_one BinOp.Member x y h = operands_one single Ok _ (λ v ws. truth_one (among v ws)) x y
binary_one BinOp.Eq x y h = operands_one single single _ (λ v w. truth_one (same v w)) x y
binary_one BinOp.Lt x y h = operands_one number number _ (λ i j. truth_one (int_lt i j)) x y
binary_one BinOp.Gt x y h = operands_one number number _ (λ i j. truth_one (int_lt j i)) x y
binary_one BinOp.Le x y h = operands_one number number _ (λ i j. truth_one (int_le i j)) x y
binary_one BinOp.Ge x y h = operands_one number number _ (λ i j. truth_one (int_le j i)) x y
binary_one BinOp.And x y h = operands_one boolean boolean _ (λ a b. truth_one (a && b)) x y
binary_one BinOp.Or x y h = operands_one boolean boolean _ (λ a b. truth_one (a || b)) x y
binary_one BinOp.Implies x y h = operands_one boolean boolean _ (λ a b. truth_one (not a || b)) x y
binary_one BinOp.Iff x y h = operands_one boolean boolean _ (λ a b. truth_one (cond a b (not b))) x y

-- the first value is the only one, at an expression that is read as e
pub first_found_at : (m : System) (s t : State) (v : Value) (z e : Term) → z ≡ e → IfOne (eval m e s t) → first_is (summarized (eval m z s t)) v ≡ found v (eval m z s t)
first_found_at m s t v z e p h = first_found v (eval m z s t) (subst (λ x. IfOne (eval m x s t)) (sym p) h)
