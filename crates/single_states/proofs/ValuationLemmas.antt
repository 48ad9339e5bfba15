-- The steps of the loops over the elements of braces, and over the arms of a `case`.
use Rattle.std.proofs.Common.{◌≡◌, ℕ, zero, suc, ◌+◌, ◌<◌, ◌≤◌, List, [], ◌∷◌, ◌++◌, length, get_or, drop, Bool, true, false, cond, ◌||◌, refl, sym, ◌∙◌, ap, arith, append_assoc, append-nil}
use Rattle.std.specs.Prelude.{Ok, Err}
use Rattle.std.proofs.lemmas.List.Folds.{list_any-append}
use Rattle.kripke_model.specs.declared.expressions.Value.{Value}
use Rattle.kripke_model.specs.declared.expressions.Expr.{Expr}
use Rattle.kripke_model.specs.declared.expressions.Arm.{Arm}
use Rattle.kripke_model.specs.declared.expressions.FaultKind.{FaultKind}
use Rattle.single_states.specs.declared.evaluation.Summary.{Summary}
use Rattle.kripke_model.specs.System.{System, State}
use Rattle.kripke_model.specs.Term.{Term, Terms, Arms}
use Rattle.kripke_model.specs.Reading.{term_of, terms_in, arms_in}
use Rattle.single_states.specs.Braces.{IsFilled, AreFilled, AreFilledArms}
use Rattle.kripke_model.specs.Evaluation.{Checked, ◌>>=◌, same, among, eval, eval_elements, eval_arms, boolean, as_boolean}
use Rattle.single_states.specs.Summary.{summary, summarized, found, joined, only_boolean}
use Rattle.single_states.proofs.EvalLemmas.{IfGood, eval_good, tested, join_values}

-- ---- no braces are empty in each element and each arm

pub filled_at : (es : List Expr) (i : ℕ) (d : Expr) → i < length es → AreFilled (terms_in es) → IsFilled (term_of (get_or es i d))
filled_at [] i d h k = absurd (omega arith)
filled_at (e ∷ es) zero d h k = k.0
filled_at (e ∷ es) (suc i) d h k = filled_at es i d (omega arith) k.1

pub arm_filled_at : (arms : List Arm) (i : ℕ) (d : Arm) → i < length arms → AreFilledArms (arms_in arms) → IsFilled (term_of (get_or arms i d).guard) × IsFilled (term_of (get_or arms i d).right)
arm_filled_at [] i d h k = absurd (omega arith)
arm_filled_at (a ∷ arms) zero d h k = (k.0, k.1)
arm_filled_at (a ∷ arms) (suc i) d h k = arm_filled_at arms i d (omega arith) k.2

-- ---- the elements before i have the values vs, so far

abbrev pub elements : System → State → State → List Expr → Checked (List Value)
elements m s t es = eval_elements m (terms_in es) s t

pub elements_at : (m : System) (s t : State) (es : List Expr) (i : ℕ) (d : Expr) → i < length es → elements m s t (drop i es) ≡ (eval m (term_of (get_or es i d)) s t >>= λ vs. elements m s t (drop (suc i) es) >>= λ ws. Ok (vs ++ ws))
elements_at m s t [] i d h = absurd (omega arith)
elements_at m s t (e ∷ es) zero d h = refl
elements_at m s t (e ∷ es) (suc i) d h = elements_at m s t es i d (omega arith)

pub elements_past : (m : System) (s t : State) (es : List Expr) (i : ℕ) → length es ≤ i → elements m s t (drop i es) ≡ Ok []
elements_past m s t [] zero h = refl
elements_past m s t [] (suc i) h = refl
elements_past m s t (e ∷ es) zero h = absurd (omega arith)
elements_past m s t (e ∷ es) (suc i) h = elements_past m s t es i (omega arith)

-- what a summary says of the evaluation
ok_values : (c : Checked (List Value)) → IfGood c → (x : Summary) → summarized c ≡ Ok x → (v : Value) × (vs : List Value) × (c ≡ Ok (v ∷ vs)) × (x ≡ summary (v ∷ vs))
ok_values (Ok ws) h x p =
    let e : summary ws ≡ x = cc in
    (h.0, _, ap Ok h.2, sym e ∙ ap summary h.2)
ok_values (Err kind) h x p = absurd cc

err_values : (c : Checked (List Value)) (kind : FaultKind) → summarized c ≡ Err kind → c ≡ Err kind
err_values (Ok ws) kind p = absurd cc
err_values (Err k) kind p = cc

-- the elements before i have the values v, vs .. with this summary
abbrev pub SoFar : System → State → State → List Expr → ℕ → Summary → Type 0
SoFar m s t es i all = (v : Value) × (vs : List Value) × (all ≡ summary (v ∷ vs)) × (elements m s t es ≡ (elements m s t (drop i es) >>= λ ws. Ok ((v ∷ vs) ++ ws)))

module _ (m : System) (s t : State) (es : List Expr) (i : ℕ) (d : Expr) (lt : i < length es) (good : AreFilled (terms_in es)) where
  abbrev value_of : Checked (List Value)
  value_of = eval m (term_of (get_or es i d)) s t

  abbrev is_good : IfGood value_of
  is_good = eval_good m (term_of (get_or es i d)) s t (filled_at es i d lt good)

  abbrev split : elements m s t (drop i es) ≡ (value_of >>= λ vs. elements m s t (drop (suc i) es) >>= λ ws. Ok (vs ++ ws))
  split = elements_at m s t es i d lt

  after : (c : Checked (List Value)) (x : Summary) → summarized value_of ≡ Ok x → (v : Value) × (vs : List Value) × (x ≡ summary (v ∷ vs)) × (elements m s t (drop i es) ≡ (elements m s t (drop (suc i) es) >>= λ ws. Ok ((v ∷ vs) ++ ws)))
  after c x p =
      let o = ok_values value_of is_good x p in
      (o.0, o.1, o.3, split ∙ ap (λ (c : Checked (List Value)). c >>= λ vs. elements m s t (drop (suc i) es) >>= λ ws. Ok (vs ++ ws)) o.2)

  pub first_element : (x : Summary) → i ≡ 0 → summarized value_of ≡ Ok x → SoFar m s t es (suc i) x
  first_element x z p =
      let a = after (Ok []) x p in
      (a.0, a.1, a.2, ap (λ k. elements m s t (drop k es)) (sym z) ∙ a.3)

  appended : (v w : Value) (vs ws : List Value) (r : Checked (List Value)) → ((r >>= λ us. Ok ((w ∷ ws) ++ us)) >>= λ us. Ok ((v ∷ vs) ++ us)) ≡ (r >>= λ us. Ok ((v ∷ (vs ++ (w ∷ ws))) ++ us))
  appended v w vs ws (Ok us) = ap Ok (sym (append_assoc (v ∷ vs) (w ∷ ws) us))
  appended v w vs ws (Err kind) = refl

  pub next_element : (all x : Summary) → SoFar m s t es i all → summarized value_of ≡ Ok x → SoFar m s t es (suc i) (joined all x)
  next_element all x h p =
      let a = after (Ok []) x p in (
        h.0,
        h.1 ++ (a.0 ∷ a.1),
        (λ j. joined (h.2 j) (a.2 j)) ∙ sym (join_values h.0 a.0 h.1 a.1),
        h.3 ∙ ap (λ (c : Checked (List Value)). c >>= λ ws. Ok ((h.0 ∷ h.1) ++ ws)) a.3 ∙ appended h.0 a.0 h.1 a.1 (elements m s t (drop (suc i) es)),
      )

  pub element_fails : (all : Summary) (kind : FaultKind) → SoFar m s t es i all → summarized value_of ≡ Err kind → elements m s t es ≡ Err kind
  element_fails all kind h p =
      h.3 ∙ ap (λ (c : Checked (List Value)). c >>= λ ws. Ok ((h.0 ∷ h.1) ++ ws)) (split ∙ ap (λ (c : Checked (List Value)). c >>= λ vs. elements m s t (drop (suc i) es) >>= λ ws. Ok (vs ++ ws)) (err_values value_of kind p))

pub all_elements : (m : System) (s t : State) (es : List Expr) (i : ℕ) (all : Summary) → length es ≤ i → SoFar m s t es i all → summarized (elements m s t es) ≡ Ok all
all_elements m s t es i all h k =
    ap summarized (k.3 ∙ ap (λ (c : Checked (List Value)). c >>= λ ws. Ok ((k.0 ∷ k.1) ++ ws)) (elements_past m s t es i h))
    ∙ ap (λ ws. Ok (summary (k.0 ∷ ws))) (append-nil k.1) ∙ ap Ok (sym k.2)

-- ---- arms

abbrev pub choice : System → State → State → List Arm → Checked (List Value)
choice m s t arms = eval_arms m (arms_in arms) s t

pub choice_at : (m : System) (s t : State) (arms : List Arm) (i : ℕ) (d : Arm) → i < length arms → choice m s t (drop i arms) ≡ ((eval m (term_of (get_or arms i d).guard) s t >>= boolean) >>= λ b. cond b (eval m (term_of (get_or arms i d).right) s t) (choice m s t (drop (suc i) arms)))
choice_at m s t [] i d h = absurd (omega arith)
choice_at m s t (a ∷ arms) zero d h = refl
choice_at m s t (a ∷ arms) (suc i) d h = choice_at m s t arms i d (omega arith)

pub choice_past : (m : System) (s t : State) (arms : List Arm) (i : ℕ) → length arms ≤ i → choice m s t (drop i arms) ≡ eval_arms m Arms.esac s t
choice_past m s t [] zero h = refl
choice_past m s t [] (suc i) h = refl
choice_past m s t (a ∷ arms) zero h = absurd (omega arith)
choice_past m s t (a ∷ arms) (suc i) h = choice_past m s t arms i (omega arith)

-- the first i arms are passed over
abbrev pub PassedOver : System → State → State → List Arm → ℕ → Type 0
PassedOver m s t arms i = choice m s t arms ≡ choice m s t (drop i arms)

module _ (m : System) (s t : State) (arms : List Arm) (i : ℕ) (d : Arm) (lt : i < length arms) (good : AreFilledArms (arms_in arms)) (passed : PassedOver m s t arms i) where
  abbrev guard_of : Checked (List Value)
  guard_of = eval m (term_of (get_or arms i d).guard) s t

  chosen : (o : Checked Bool) → (summarized guard_of >>= only_boolean) ≡ o → choice m s t arms ≡ (o >>= λ b. cond b (eval m (term_of (get_or arms i d).right) s t) (choice m s t (drop (suc i) arms)))
  chosen o e =
      passed ∙ choice_at m s t arms i d lt
      ∙ ap (λ (c : Checked Bool). c >>= λ b. cond b (eval m (term_of (get_or arms i d).right) s t) (choice m s t (drop (suc i) arms)))
      (tested as_boolean guard_of (eval_good m (term_of (get_or arms i d).guard) s t (arm_filled_at arms i d lt good).0) ∙ e)

  pub arm_chosen : (summarized guard_of >>= only_boolean) ≡ Ok true → choice m s t arms ≡ eval m (term_of (get_or arms i d).right) s t
  arm_chosen e = chosen (Ok true) e

  pub arm_passed : (summarized guard_of >>= only_boolean) ≡ Ok false → PassedOver m s t arms (suc i)
  arm_passed e = chosen (Ok false) e

  pub arm_fails : (kind : FaultKind) → (summarized guard_of >>= only_boolean) ≡ Err kind → choice m s t arms ≡ Err kind
  arm_fails kind e = chosen (Err kind) e

-- v is among the values of the elements before i where the flag is set
abbrev pub FoundSoFar : System → State → State → List Expr → Value → ℕ → Bool → Type 0
FoundSoFar m s t es v i seen = found v (elements m s t es) ≡ (found v (elements m s t (drop i es)) >>= λ b. Ok (seen || b))

pub found_start : (m : System) (s t : State) (es : List Expr) (v : Value) → FoundSoFar m s t es v 0 false
found_start m s t es v = unchanged (found v (elements m s t es))
  where
    unchanged : (c : Checked Bool) → c ≡ (c >>= λ b. Ok (false || b))
    unchanged (Ok b) = refl
    unchanged (Err kind) = refl

pub found_none : (m : System) (s t : State) (es : List Expr) (v : Value) → FoundSoFar m s t es v 0 false
found_none m s t es v = by (found v (elements m s t es))
  where
    by : (c : Checked Bool) → c ≡ (c >>= λ b. Ok (false || b))
    by (Ok b) = refl
    by (Err kind) = refl

found_append : (v : Value) (c r : Checked (List Value)) (b : Bool) → found v c ≡ Ok b → found v (c >>= λ vs. r >>= λ ws. Ok (vs ++ ws)) ≡ (found v r >>= λ e. Ok (b || e))
found_append v (Ok vs) (Ok ws) b p =
    let e : among v vs ≡ b = cc in
    ap Ok (list_any-append (same v) vs ws ∙ ap (λ f. f || among v ws) e)
found_append v (Ok vs) (Err kind) b p = refl
found_append v (Err kind) r b p = absurd cc

found_fails : (v : Value) (c r : Checked (List Value)) (kind : FaultKind) → found v c ≡ Err kind → found v (c >>= λ vs. r >>= λ ws. Ok (vs ++ ws)) ≡ Err kind
found_fails v (Ok vs) r kind p = absurd cc
found_fails v (Err k) r kind p = p

or_found : (c : Checked Bool) (seen b : Bool) → ((c >>= λ e. Ok (b || e)) >>= λ e. Ok (seen || e)) ≡ (c >>= λ e. Ok (cond b true seen || e))
or_found (Ok e) true true = refl
or_found (Ok e) true false = refl
or_found (Ok e) false true = refl
or_found (Ok e) false false = refl
or_found (Err kind) seen b = refl

module _ (m : System) (s t : State) (es : List Expr) (v : Value) (i : ℕ) (d : Expr) (lt : i < length es) (seen : Bool) (so_far : FoundSoFar m s t es v i seen) where
  pub found_next : (b : Bool) → found v (eval m (term_of (get_or es i d)) s t) ≡ Ok b → FoundSoFar m s t es v (suc i) (cond b true seen)
  found_next b p =
      so_far
      ∙ ap (λ (c : Checked Bool). c >>= λ e. Ok (seen || e)) (ap (found v) (elements_at m s t es i d lt) ∙ found_append v (eval m (term_of (get_or es i d)) s t) (elements m s t (drop (suc i) es)) b p)
      ∙ or_found (found v (elements m s t (drop (suc i) es))) seen b

  pub found_element_fails : (kind : FaultKind) → found v (eval m (term_of (get_or es i d)) s t) ≡ Err kind → found v (elements m s t es) ≡ Err kind
  found_element_fails kind p =
      so_far
      ∙ ap (λ (c : Checked Bool). c >>= λ e. Ok (seen || e)) (ap (found v) (elements_at m s t es i d lt) ∙ found_fails v (eval m (term_of (get_or es i d)) s t) (elements m s t (drop (suc i) es)) kind p)

pub found_all : (m : System) (s t : State) (es : List Expr) (v : Value) (i : ℕ) (seen : Bool) → length es ≤ i → FoundSoFar m s t es v i seen → found v (elements m s t es) ≡ Ok seen
found_all m s t es v i seen h so_far =
    so_far ∙ ap (λ (c : Checked (List Value)). found v c >>= λ e. Ok (seen || e)) (elements_past m s t es i h) ∙ ap Ok (or_false seen)
  where
    or_false : (b : Bool) → (b || false) ≡ b
    or_false true = refl
    or_false false = refl

-- ---- the evaluations end: each goes on with a lighter expression

abbrev mutual
  pub weight : Term → ℕ
  weight (Term.Const v) = 1
  weight (Term.Var x) = 1
  weight (Term.Running p) = 1
  weight (Term.Next e) = weight e + 1
  weight (Term.Not e) = weight e + 1
  weight (Term.Binary op a b) = weight a + weight b + 1
  weight (Term.Braces es) = weight_of_elements es + 1
  weight (Term.Case arms) = weight_of_arms arms + 1
  weight (Term.Quant op e) = weight e + 1
  weight (Term.Until all a b) = weight a + weight b + 1

  pub weight_of_elements : Terms → ℕ
  weight_of_elements Terms.none = 0
  weight_of_elements (Terms.more e es) = weight e + weight_of_elements es

  pub weight_of_arms : Arms → ℕ
  weight_of_arms Arms.esac = 0
  weight_of_arms (Arms.arm guard right rest) = weight guard + weight right + weight_of_arms rest

pub weight_at : (es : List Expr) (i : ℕ) (d : Expr) → i < length es → weight (term_of (get_or es i d)) ≤ weight_of_elements (terms_in es)
weight_at [] i d h = absurd (omega arith)
weight_at (e ∷ es) zero d h = omega arith
weight_at (e ∷ es) (suc i) d h = omega (arith, weight_at es i d (omega arith))

pub arm_weight_at : (arms : List Arm) (i : ℕ) (d : Arm) → i < length arms → weight (term_of (get_or arms i d).guard) + weight (term_of (get_or arms i d).right) ≤ weight_of_arms (arms_in arms)
arm_weight_at [] i d h = absurd (omega arith)
arm_weight_at (a ∷ arms) zero d h = omega arith
arm_weight_at (a ∷ arms) (suc i) d h = omega (arith, arm_weight_at arms i d (omega arith))

pub elements_filled : (es : List Expr) → IsFilled (Term.Braces (terms_in es)) → (0 < length es) × AreFilled (terms_in es)
elements_filled [] h = absurd h
elements_filled (e ∷ es) h = (omega arith, h)
