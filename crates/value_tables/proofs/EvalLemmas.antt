-- What expressions come to: some values, each once; and the parts of sets and of `case`.
use Rattle.std.proofs.Common.{◌≡◌, ℕ, zero, suc, ◌+◌, ◌<◌, ◌≤◌, Bool, true, false, cond, not, ◌&&◌, ◌||◌, List, [], ◌∷◌, ◌++◌, length, get_or, drop, Ok, Err, ℤ, refl, sym, subst, ap, ◌∙◌, arith, append-nil, append_assoc}
use Rattle.std.proofs.lemmas.Bool.{or_parts, or_from}
use Rattle.std.specs.Prelude.{filter}
use Rattle.std.specs.List.{list_any}
use Rattle.kripke_model.specs.declared.expressions.Value.{Value}
use Rattle.kripke_model.specs.declared.expressions.BinOp.{BinOp}
use Rattle.kripke_model.specs.declared.expressions.Expr.{Expr}
use Rattle.kripke_model.specs.declared.expressions.Arm.{Arm}
use Rattle.kripke_model.specs.Term.{Term, Arms, none, more, esac, arm}
use Rattle.kripke_model.specs.System.{System, State}
use Rattle.kripke_model.specs.Reading.{term_of, terms_in, arms_in}
use Rattle.kripke_model.specs.Evaluation.{Checked, ◌>>=◌, same, among, distinct, truth, boolean, number, binary, runs, eval, eval_elements, eval_arms}
use Rattle.kripke_model.specs.Evaluable.{IsEvaluable, AreEvaluableArms}
use Rattle.value_tables.specs.declared.pick.Test.{Test}
use Rattle.value_tables.specs.Cells.{same_reading, any_of}
use Rattle.value_tables.specs.Tables.{alone, IsProper, IsSingle, AreOnceValues, value_tested, membership, connective, guard_of, paired, all_values, negation, arm_shows, goes_on, IsConnective, IsOrder, IsArithmetic}
use Rattle.value_tables.specs.Orders.{compares, comparison}
use Rattle.value_tables.proofs.BinaryLemmas.{member_is, equality_is, connective_is, arithmetic_is, comparison_is, one_truth}

-- ---- each value once

among-filtered : (v : Value) (p : Value → Bool) (vs : List Value) → among v vs ≡ false → among v (filter p vs) ≡ false
among-filtered v p [] e = refl
among-filtered v p (w ∷ ws) e = by (p w) (or_parts (same v w) (among v ws) e) (among-filtered v p ws (or_parts (same v w) (among v ws) e).1)
  where
    by : (b : Bool) → (same v w ≡ false) × (among v ws ≡ false) → among v (filter p ws) ≡ false → list_any (same v) (cond b (w ∷ filter p ws) (filter p ws)) ≡ false
    by true parts rest = or_from (same v w) (among v (filter p ws)) parts.0 rest
    by false parts rest = rest

among-others : (v : Value) (vs : List Value) → among v (filter (λ w. not (same v w)) vs) ≡ false
among-others v [] = refl
among-others v (w ∷ ws) = by (same v w) refl (among-others v ws)
  where
    by : (b : Bool) → same v w ≡ b → among v (filter (λ u. not (same v u)) ws) ≡ false → list_any (same v) (cond (not b) (w ∷ filter (λ u. not (same v u)) ws) (filter (λ u. not (same v u)) ws)) ≡ false
    by true e rest = rest
    by false e rest = or_from (same v w) (among v (filter (λ u. not (same v u)) ws)) e rest

once_filtered : (p : Value → Bool) (vs : List Value) → AreOnceValues vs → AreOnceValues (filter p vs)
once_filtered p [] h = tt
once_filtered p (v ∷ vs) h = by (p v) (once_filtered p vs h.1)
  where
    by : (b : Bool) → AreOnceValues (filter p vs) → AreOnceValues (cond b (v ∷ filter p vs) (filter p vs))
    by true rest = (among-filtered v p vs h.0, rest)
    by false rest = rest

once_distinct : (vs : List Value) → AreOnceValues (distinct vs)
once_distinct [] = tt
once_distinct (v ∷ vs) = (among-others v (distinct vs), once_filtered (λ w. not (same v w)) (distinct vs) (once_distinct vs))

proper_distinct : (v : Value) (vs : List Value) → IsProper (Ok (distinct (v ∷ vs)))
proper_distinct v vs = once_distinct (v ∷ vs)

proper_truth : (b : Bool) → IsProper (Ok (truth b))
proper_truth true = (refl, tt)
proper_truth false = (refl, tt)

proper_alone : (r : Checked Value) → IsProper (alone r)
proper_alone (Ok v) = (refl, tt)
proper_alone (Err kind) = tt

proper_membership : (a : Checked Value) (d : Checked (List Value)) → IsProper (membership a d)
proper_membership (Ok v) (Ok ws) = proper_truth (among v ws)
proper_membership (Ok v) (Err kind) = tt
proper_membership (Err kind) d = tt

proper_connective : (op : BinOp) (a b : Checked Bool) → IsProper (connective op a b)
proper_connective op (Ok x) (Ok y) = proper_truth _
proper_connective op (Ok x) (Err kind) = tt
proper_connective op (Err kind) b = tt

proper_negation : (b : Checked Bool) → IsProper (b >>= λ x. Ok (truth (not x)))
proper_negation (Ok x) = proper_truth (not x)
proper_negation (Err kind) = tt

proper_union : (c d : Checked (List Value)) → IsProper c → IsProper (binary BinOp.Union c d)
proper_union (Ok []) d h = absurd h
proper_union (Ok (v ∷ vs)) (Ok ws) h = proper_distinct v (vs ++ ws)
proper_union (Ok (v ∷ vs)) (Err kind) h = tt
proper_union (Err kind) d h = tt

arithmetic_proper : (op : BinOp) → IsArithmetic op → (c d : Checked (List Value)) → IsProper (binary op c d)
arithmetic_proper op is c d = subst IsProper (arithmetic_is op c d is) (proper_alone (paired op (value_tested Test.Number c) (value_tested Test.Number d)))

proper_comparison : (op : BinOp) (a b : Checked ℤ) → IsProper (comparison op a b)
proper_comparison op (Ok i) (Ok j) = proper_truth (compares op i j)
proper_comparison op (Ok i) (Err kind) = tt
proper_comparison op (Err kind) b = tt

comparison_proper : (op : BinOp) → IsOrder op → (c d : Checked (List Value)) → IsProper (binary op c d)
comparison_proper op is c d = subst IsProper (comparison_is op c d is) (proper_comparison op (c >>= number) (d >>= number))

connective_proper : (op : BinOp) → IsConnective op → (c d : Checked (List Value)) → IsProper (binary op c d)
connective_proper op is c d = subst IsProper (connective_is op c d is) (proper_connective op (guard_of c) (guard_of d))

proper_binary : (op : BinOp) (c d : Checked (List Value)) → IsProper c → IsProper (binary op c d)
proper_binary BinOp.Union c d h = proper_union c d h
proper_binary BinOp.Member c d h = subst IsProper (member_is BinOp.Member c d tt) (proper_membership (value_tested Test.Any c) d)
proper_binary BinOp.Eq c d h = subst IsProper (equality_is BinOp.Eq c d tt) (proper_membership (value_tested Test.Any c) (alone (value_tested Test.Any d)))
proper_binary BinOp.And c d h = connective_proper BinOp.And tt c d
proper_binary BinOp.Or c d h = connective_proper BinOp.Or tt c d
proper_binary BinOp.Implies c d h = connective_proper BinOp.Implies tt c d
proper_binary BinOp.Iff c d h = connective_proper BinOp.Iff tt c d
proper_binary BinOp.Mul c d h = arithmetic_proper BinOp.Mul tt c d
proper_binary BinOp.Div c d h = arithmetic_proper BinOp.Div tt c d
proper_binary BinOp.Add c d h = arithmetic_proper BinOp.Add tt c d
proper_binary BinOp.Sub c d h = arithmetic_proper BinOp.Sub tt c d
proper_binary BinOp.Mod c d h = arithmetic_proper BinOp.Mod tt c d
proper_binary BinOp.Lt c d h = comparison_proper BinOp.Lt tt c d
proper_binary BinOp.Gt c d h = comparison_proper BinOp.Gt tt c d
proper_binary BinOp.Le c d h = comparison_proper BinOp.Le tt c d
proper_binary BinOp.Ge c d h = comparison_proper BinOp.Ge tt c d

proper_elements : (c d : Checked (List Value)) → IsProper c → IsProper ((c >>= λ vs. d >>= λ ws. Ok (vs ++ ws)) >>= λ vs. Ok (distinct vs))
proper_elements (Ok []) d h = absurd h
proper_elements (Ok (v ∷ vs)) (Ok ws) h = proper_distinct v (vs ++ ws)
proper_elements (Ok (v ∷ vs)) (Err kind) h = tt
proper_elements (Err kind) d h = tt

proper_choice : (b : Checked Bool) (d r : Checked (List Value)) → IsProper d → IsProper r → IsProper (b >>= λ x. cond x d r)
proper_choice (Ok true) d r h k = h
proper_choice (Ok false) d r h k = k
proper_choice (Err kind) d r h k = tt

mutual
  pub eval_proper : (m : System) (e : Term) (s t : State) → IsEvaluable m e → IsProper (eval m e s t)
  eval_proper m (Term.Const v) s t h = (refl, tt)
  eval_proper m (Term.Var x) s t h = (refl, tt)
  eval_proper m (Term.Running p) s t h = proper_truth (runs m s p)
  eval_proper m (Term.Next e) s t h = eval_proper m e t t h
  eval_proper m (Term.Not e) s t h = proper_negation (eval m e s t >>= boolean)
  eval_proper m (Term.Binary op a b) s t h = proper_binary op (eval m a s t) (eval m b s t) (eval_proper m a s t h.0)
  eval_proper m (Term.Braces none) s t h = absurd h
  eval_proper m (Term.Braces (more e es)) s t h = proper_elements (eval m e s t) (eval_elements m es s t) (eval_proper m e s t h.0)
  eval_proper m (Term.Case arms) s t h = arms_proper m arms s t h
  eval_proper m (Term.Quant op e) s t h = tt
  eval_proper m (Term.Until all a b) s t h = tt

  pub arms_proper : (m : System) (arms : Arms) (s t : State) → AreEvaluableArms m arms → IsProper (eval_arms m arms s t)
  arms_proper m esac s t h = (refl, tt)
  arms_proper m (arm g r rest) s t h = proper_choice (eval m g s t >>= boolean) (eval m r s t) (eval_arms m rest s t) (eval_proper m r s t h.1) (arms_proper m rest s t h.2)

pub single_negation : (c : Checked (List Value)) → IsSingle (negation c)
single_negation c = by (guard_of c)
  where
    by : (b : Checked Bool) → IsSingle (b >>= λ x. Ok (truth (not x)))
    by (Ok x) = one_truth (not x)
    by (Err kind) = tt

-- ---- elements and arms

pub arms_at : (m : System) (s t : State) (arms : List Arm) (i : ℕ) (d : Arm) → i < length arms → eval_arms m (arms_in (drop i arms)) s t ≡ (guard_of (eval m (term_of (get_or arms i d).guard) s t) >>= λ b. cond b (eval m (term_of (get_or arms i d).right) s t) (eval_arms m (arms_in (drop (i + 1) arms)) s t))
arms_at m s t [] i d h = absurd (omega arith)
arms_at m s t (a ∷ arms) zero d h = refl
arms_at m s t (a ∷ arms) (suc i) d h =
    let more : suc i + 1 ≡ suc (i + 1) = omega arith in
    arms_at m s t arms i d (omega arith) ∙ ap (λ n. guard_of (eval m (term_of (get_or arms i d).guard) s t) >>= λ b. cond b (eval m (term_of (get_or arms i d).right) s t) (eval_arms m (arms_in (drop n (a ∷ arms))) s t)) (sym more)

pub arms_past : (m : System) (s t : State) (arms : List Arm) (i : ℕ) → length arms ≤ i → eval_arms m (arms_in (drop i arms)) s t ≡ Ok (truth true)
arms_past m s t [] zero h = refl
arms_past m s t [] (suc i) h = refl
arms_past m s t (a ∷ arms) zero h = absurd (omega arith)
arms_past m s t (a ∷ arms) (suc i) h = arms_past m s t arms i (omega arith)

values_assoc : (c d r : Checked (List Value)) → all_values c (all_values d r) ≡ all_values (all_values c d) r
values_assoc (Ok us) (Ok vs) (Ok ws) = ap Ok (sym (append_assoc us vs ws))
values_assoc (Ok us) (Ok vs) (Err kind) = refl
values_assoc (Ok us) (Err kind) r = refl
values_assoc (Err kind) d r = refl

values_first : (r : Checked (List Value)) → all_values (Ok []) r ≡ r
values_first (Ok ws) = refl
values_first (Err kind) = refl

pub values_last : (c : Checked (List Value)) → all_values c (Ok []) ≡ c
values_last (Ok vs) = ap Ok (append-nil vs)
values_last (Err kind) = refl

-- the elements of a list and of one behind it
pub elements_joined : (m : System) (s t : State) (xs ys : List Expr) → eval_elements m (terms_in (xs ++ ys)) s t ≡ all_values (eval_elements m (terms_in xs) s t) (eval_elements m (terms_in ys) s t)
elements_joined m s t [] ys = sym (values_first (eval_elements m (terms_in ys) s t))
elements_joined m s t (e ∷ xs) ys =
    ap (all_values (eval m (term_of e) s t)) (elements_joined m s t xs ys)
    ∙ values_assoc (eval m (term_of e) s t) (eval_elements m (terms_in xs) s t) (eval_elements m (terms_in ys) s t)

-- what is shown so far, and what the arms that are left show
pub arm_split : (k : Checked Value) (b : Checked Bool) (d r : Checked (List Value)) (old left now rest : Bool) (whole : Bool)
    → whole ≡ (old || (left && any_of (same_reading k) (b >>= λ x. cond x d r))) → now ≡ (old || (left && arm_shows b d k)) → rest ≡ (left && goes_on b) → whole ≡ (now || (rest && any_of (same_reading k) r))
arm_split k b d r old left now rest whole e f g =
    e ∙ ap (λ x. old || (left && x)) (by b) ∙ join old left (arm_shows b d k) (goes_on b) (any_of (same_reading k) r) ∙ (λ i. sym f i || (sym g i && any_of (same_reading k) r))
  where
    or_none : (a : Bool) → a ≡ (a || false)
    or_none true = refl
    or_none false = refl

    by : (b : Checked Bool) → any_of (same_reading k) (b >>= λ x. cond x d r) ≡ (arm_shows b d k || (goes_on b && any_of (same_reading k) r))
    by (Ok true) = or_none (any_of (same_reading k) d)
    by (Ok false) = refl
    by (Err kind) = refl

    join : (o l a g r : Bool) → (o || (l && (a || (g && r)))) ≡ ((o || (l && a)) || ((l && g) && r))
    join true l a g r = refl
    join false true a g r = refl
    join false false a g r = refl
