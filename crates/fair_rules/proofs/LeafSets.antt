-- The sets of constraints without path operators are as the rules ask.
use Rattle.std.proofs.Common.{◌≡◌, inl, inr, ℕ, zero, suc, ◌<◌, ◌≤◌, true, false, not, ◌||◌, List, [], ◌∷◌, map, length, get_or, sym, refl, ap, subst, arith, All}
use Rattle.std.specs.Prelude.{if◌then◌else◌}
use Rattle.std.proofs.lemmas.Bool.{false≢true, cases_lt, or_from}
use Rattle.std.proofs.lemmas.List.{length-map}
use Rattle.kripke_model.specs.declared.expressions.BinOp.{BinOp}
use Rattle.kripke_model.specs.Evaluable.{IsEvaluable, AreEvaluable, AreEvaluableArms}
use Rattle.kripke_model.specs.Term.{Terms, Arms, none, more, esac, arm, some_has_path_operator, arm_has_path_operator, Term, has_path_operator}
use Rattle.kripke_model.specs.Ctl.{Ctl, leaf_or, formula_of}
use Rattle.kripke_model.specs.Evaluation.{eval, Holds}
use Rattle.kripke_model.specs.System.{System, Condition}
use Rattle.kripke_model.specs.Truth.{FreeSat}
use Rattle.path_laws.specs.StateSet.{StateSet, ◌∈◌}
use Rattle.fair_rules.specs.SetLists.{everything, nothing, set_at}
use Rattle.fair_rules.specs.Claims.{is_one}
use Rattle.path_laws.specs.Fairness.{ConstraintHolds}
use Rattle.fair_rules.specs.ConstraintSets.{AreConstraintSets}
use Rattle.fair_rules.specs.LeafConstraints.{states_with, states_without, one_at_least, visited_sets, avoided_sets}
use Rattle.fair_rules.proofs.ClaimsSound.{one_is}

leaf_or_leaf : (e : Term) (f : Ctl) → has_path_operator e ≡ false → leaf_or e f ≡ Ctl.Leaf e
leaf_or_leaf e f h = ap (λ b. if b then f else Ctl.Leaf e) h

pub formula_is_leaf : (e : Term) → has_path_operator e ≡ false → formula_of e ≡ Ctl.Leaf e
formula_is_leaf (Term.Not e) h = leaf_or_leaf (Term.Not e) _ h
formula_is_leaf (Term.Binary BinOp.And a b) h = leaf_or_leaf (Term.Binary BinOp.And a b) _ h
formula_is_leaf (Term.Binary BinOp.Or a b) h = leaf_or_leaf (Term.Binary BinOp.Or a b) _ h
formula_is_leaf (Term.Binary BinOp.Implies a b) h = leaf_or_leaf (Term.Binary BinOp.Implies a b) _ h
formula_is_leaf (Term.Binary BinOp.Iff a b) h = leaf_or_leaf (Term.Binary BinOp.Iff a b) _ h
formula_is_leaf (Term.Quant op e) h = absurd (false≢true (sym h))
formula_is_leaf (Term.Until all a b) h = absurd (false≢true (sym h))
formula_is_leaf _ h = refl

-- at the places of the list
one_at_least_map : (set : StateSet) (f : Condition → StateSet) (cs : List Condition) (k : ℕ) (c : Condition) → k < length cs → set_at (one_at_least set (map f cs)) k ≡ f (get_or cs k c)
one_at_least_map set f [] k c h = absurd (omega arith)
one_at_least_map set f (x ∷ cs) k c h = at_map (x ∷ cs) k h
  where
    at_map : (cs : List Condition) (k : ℕ) → k < length cs → set_at (map f cs) k ≡ f (get_or cs k c)
    at_map [] k h = absurd (omega arith)
    at_map (y ∷ ys) zero h = refl
    at_map (y ∷ ys) (suc k) h = at_map ys k (omega arith)

-- past the end, and where there are none
nothing_past : (f : Condition → StateSet) (cs : List Condition) (k : ℕ) → length cs ≤ k → set_at (one_at_least nothing (map f cs)) k ≡ nothing
nothing_past f [] zero h = refl
nothing_past f [] (suc k) h = refl
nothing_past f (x ∷ cs) k h = past (x ∷ cs) k h
  where
    past : (cs : List Condition) (k : ℕ) → length cs ≤ k → set_at (map f cs) k ≡ nothing
    past [] k h = refl
    past (y ∷ ys) zero h = absurd (omega arith)
    past (y ∷ ys) (suc k) h = past ys k (omega arith)

long_enough : (set : StateSet) (f : Condition → StateSet) (cs : List Condition) → (0 < length (one_at_least set (map f cs))) × (length cs ≤ length (one_at_least set (map f cs)))
long_enough set f [] = (omega arith, omega arith)
long_enough set f (c ∷ cs) = (omega arith, omega (arith, length-map cs f))

pub leaf_constraint_sets : (m : System) → All (λ c. has_path_operator c.expr ≡ false) m.constraints
    → AreConstraintSets m (length m.constraints) (ConstraintHolds m) (visited_sets m) (avoided_sets m)
leaf_constraint_sets m leaves = record {
  some = (long_enough everything (states_with m) m.constraints).0;
  each = (long_enough everything (states_with m) m.constraints).1;
  visited_true = λ k h s is_state inside c.
      let F : StateSet = states_with m (get_or m.constraints k c) in
      let one : s ∈ F = subst (λ G. s ∈ G) (one_at_least_map everything (states_with m) m.constraints k c h) inside in
      subst (λ f. FreeSat m f s) (sym (formula_is_leaf (get_or m.constraints k c).expr (leaves k c h))) (one_is (eval m (get_or m.constraints k c).expr s s) one);
  avoided_false = λ k s is_state inside. elim (cases_lt k (length m.constraints)) [
    | inr past ↦ absurd (false≢true (subst (λ G. s ∈ G) (nothing_past (states_without m) m.constraints k past) inside))
    | inl h ↦ (
      h,
      λ true_at.
          let c : Condition = record { expr = Term.Running 0; line = 0 } in
          let not_one : s ∈ states_without m (get_or m.constraints k c) = subst (λ G. s ∈ G) (one_at_least_map nothing (states_without m) m.constraints k c h) inside in
          let one : Holds m (get_or m.constraints k c).expr s s = subst (λ f. FreeSat m f s) (formula_is_leaf (get_or m.constraints k c).expr (leaves k c h)) (true_at c) in
          false≢true (subst (λ x. not (is_one x) ≡ true) one not_one),
    )
  ];
}

-- expressions that have values have no path operator
mutual
  pub evaluable_leaf : (m : System) (e : Term) → IsEvaluable m e → has_path_operator e ≡ false
  evaluable_leaf m (Term.Const v) h = refl
  evaluable_leaf m (Term.Var x) h = refl
  evaluable_leaf m (Term.Running p) h = refl
  evaluable_leaf m (Term.Next e) h = evaluable_leaf m e h
  evaluable_leaf m (Term.Not e) h = evaluable_leaf m e h
  evaluable_leaf m (Term.Binary op a b) h = or_from (has_path_operator a) (has_path_operator b) (evaluable_leaf m a h.0) (evaluable_leaf m b h.1)
  evaluable_leaf m (Term.Braces es) h = braces_leaf m es h
  evaluable_leaf m (Term.Case arms) h = arms_leaf m arms h
  evaluable_leaf m (Term.Quant op e) h = absurd h
  evaluable_leaf m (Term.Until all a b) h = absurd h

  braces_leaf : (m : System) (es : Terms) → IsEvaluable m (Term.Braces es) → some_has_path_operator es ≡ false
  braces_leaf m none h = absurd h
  braces_leaf m (more e es) h = or_from (has_path_operator e) (some_has_path_operator es) (evaluable_leaf m e h.0) (elements_leaf m es h.1)

  elements_leaf : (m : System) (es : Terms) → AreEvaluable m es → some_has_path_operator es ≡ false
  elements_leaf m none h = refl
  elements_leaf m (more e es) h = or_from (has_path_operator e) (some_has_path_operator es) (evaluable_leaf m e h.0) (elements_leaf m es h.1)

  arms_leaf : (m : System) (arms : Arms) → AreEvaluableArms m arms → arm_has_path_operator arms ≡ false
  arms_leaf m esac h = refl
  arms_leaf m (arm guard right rest) h =
      or_from (has_path_operator guard || has_path_operator right) (arm_has_path_operator rest)
      (or_from (has_path_operator guard) (has_path_operator right) (evaluable_leaf m guard h.0) (evaluable_leaf m right h.1)) (arms_leaf m rest h.2)
