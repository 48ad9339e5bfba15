-- The leaf of a specification's formula is its expression, where it holds no path operator.
use Rattle.std.proofs.Common.{◌≡◌, ◌∙◌, inr, ℕ, zero, suc, ◌-◌, Bool, true, false, cond, List, [], ◌∷◌}
use Rattle.std.proofs.Common.{map, length, get_or, ◌<◌, Option, Some, None, IfSome, option_map, refl, sym, ap}
use Rattle.std.proofs.Common.{subst, arith}
use Rattle.std.specs.Prelude.{Any, slice_get}
use Rattle.std.specs.Option.{option_and_then}
use Rattle.std.proofs.lemmas.Option.{slice_get-map, slice_get_read}
use Rattle.kripke_model.specs.Ctl.{Ctl, formula_of, leaf_or}
use Rattle.kripke_model.specs.Evaluable.{IsEvaluable}
use Rattle.kripke_model.specs.Leaves.{IsLeafOf, IsModelLeaf}
use Rattle.kripke_model.specs.System.{System, Condition}
use Rattle.kripke_model.specs.Term.{Term, has_path_operator}
use Rattle.kripke_model.specs.WellFormed.{ctl_of}
use Rattle.kripke_model.specs.declared.expressions.BinOp.{BinOp}
use Rattle.kripke_model.specs.declared.expressions.Formula.{Formula}
use Rattle.fair_rules.proofs.LeafSets.{evaluable_leaf, formula_is_leaf}
use Rattle.spec_leaves.specs.Named.{leaf_term, plain, spec_leaf}

-- the element at a place is one of the list
among : (P : Condition → Type 0) (cs : List Condition) (i : ℕ) (c : Condition)
    → slice_get cs i ≡ Some c → P c → Any P cs
among P [] i c there here = absurd cc
among P (d ∷ cs) zero c there here =
    (0, d, omega arith, refl, subst (λ o. IfSome o P) (sym there) here)
among P (d ∷ cs) (suc i) c there here =
    let r = among P cs i c there here in
    (suc r.0, r.1, omega (arith, r.2), r.3, r.4)

-- ---- a formula that is a leaf

leaf_or_itself : (b : Bool) (e t : Term) (f : Ctl) → leaf_term f ≡ None
    → leaf_term (cond b f (Ctl.Leaf e)) ≡ Some t → t ≡ e
leaf_or_itself false e t f other is = cc
leaf_or_itself true e t f other is = let bad : Some t ≡ None = sym is ∙ other in absurd cc

-- the leaf that an expression's formula is, is the expression
leaf_itself : (e t : Term) → leaf_term (formula_of e) ≡ Some t → t ≡ e
leaf_itself (Term.Not e) t h =
    leaf_or_itself (has_path_operator (Term.Not e)) (Term.Not e) t (Ctl.Not (formula_of e)) refl h
leaf_itself (Term.Binary BinOp.And a b) t h =
    leaf_or_itself (has_path_operator (Term.Binary BinOp.And a b)) (Term.Binary BinOp.And a b) t
    (Ctl.And (formula_of a) (formula_of b)) refl h
leaf_itself (Term.Binary BinOp.Or a b) t h =
    leaf_or_itself (has_path_operator (Term.Binary BinOp.Or a b)) (Term.Binary BinOp.Or a b) t
    (Ctl.Or (formula_of a) (formula_of b)) refl h
leaf_itself (Term.Binary BinOp.Implies a b) t h =
    leaf_or_itself (has_path_operator (Term.Binary BinOp.Implies a b))
    (Term.Binary BinOp.Implies a b) t (Ctl.Implies (formula_of a) (formula_of b)) refl h
leaf_itself (Term.Binary BinOp.Iff a b) t h =
    leaf_or_itself (has_path_operator (Term.Binary BinOp.Iff a b)) (Term.Binary BinOp.Iff a b) t
    (Ctl.Iff (formula_of a) (formula_of b)) refl h
leaf_itself (Term.Quant op e) t h = absurd cc
leaf_itself (Term.Until all a b) t h = absurd cc
leaf_itself e t h = cc

is_leaf : (f : Ctl) (t : Term) → leaf_term f ≡ Some t → f ≡ Ctl.Leaf t
is_leaf (Ctl.Leaf e) t h = cc
is_leaf f t h = absurd cc

module _ (m : System) (known : (t : Term) → IsModelLeaf m t → IsEvaluable m t) where
  -- a leaf of a specification holds no path operator
  clear : (i : ℕ) (c : Condition) → slice_get m.specs i ≡ Some c → (t : Term)
      → leaf_term (formula_of c.expr) ≡ Some t → has_path_operator c.expr ≡ false
  clear i c there t h =
      let here : IsLeafOf c.expr (formula_of c.expr) =
      subst (IsLeafOf c.expr) (sym (is_leaf (formula_of c.expr) t h))
      (sym (leaf_itself c.expr t h)) in
      evaluable_leaf m c.expr (known c.expr
      (inr (among (λ d. IsLeafOf c.expr (formula_of d.expr)) m.specs i c there here)))

  plain_is : (i : ℕ) (c : Condition) → slice_get m.specs i ≡ Some c
      → leaf_term (formula_of c.expr) ≡ plain c.expr
  plain_is i c there = go (has_path_operator c.expr) refl (leaf_term (formula_of c.expr)) refl
    where
      go : (b : Bool) → has_path_operator c.expr ≡ b → (leaf : Option Term)
          → leaf_term (formula_of c.expr) ≡ leaf → leaf ≡ plain c.expr
      go false e leaf is = rw e (sym is ∙ ap leaf_term (formula_is_leaf c.expr e))
      go true e None is = rw e refl
      go true e (Some t) is =
          let bad : true ≡ false = sym e ∙ clear i c there t is in
          absurd cc

  specs_plain : (i : ℕ)
      → option_and_then (λ c. leaf_term (formula_of c.expr)) (slice_get m.specs i)
      ≡ option_and_then (λ c. plain c.expr) (slice_get m.specs i)
  specs_plain i = go (slice_get m.specs i) refl
    where
      go : (o : Option Condition) → slice_get m.specs i ≡ o
          → option_and_then (λ c. leaf_term (formula_of c.expr)) o
          ≡ option_and_then (λ c. plain c.expr) o
      go None e = refl
      go (Some c) e = plain_is i c e

  through : {A B : Type 0} (f : A → B) (g : B → Option Term) (o : Option A)
      → option_and_then g (option_map f o) ≡ option_and_then (λ a. g (f a)) o
  through f g None = refl
  through f g (Some a) = refl

  -- the leaf of the formula at the place is that of the specification
  pub formulas_plain : (fs : List Formula)
      → map ctl_of fs ≡ map (λ (c : Condition). formula_of c.expr) m.specs → (i : ℕ)
      → option_and_then (λ f. leaf_term (ctl_of f)) (slice_get fs i) ≡ spec_leaf m (suc i)
  formulas_plain fs same i =
      sym (through ctl_of leaf_term (slice_get fs i))
      ∙ ap (option_and_then leaf_term) (sym (slice_get-map ctl_of fs i)
      ∙ ap (λ all. slice_get all i) same
      ∙ slice_get-map (λ (c : Condition). formula_of c.expr) m.specs i)
      ∙ through (λ (c : Condition). formula_of c.expr) leaf_term (slice_get m.specs i)
      ∙ specs_plain i

  -- and it is a leaf of the model
  pub of_specs : (i : ℕ) (t : Term) → spec_leaf m (suc i) ≡ Some t → IsModelLeaf m t
  of_specs i t is = go (slice_get m.specs i) refl
    where
      go : (o : Option Condition) → slice_get m.specs i ≡ o → IsModelLeaf m t
      go None e = let bad : None ≡ Some t = rw e at is in absurd cc
      go (Some c) e =
          let chosen : plain c.expr ≡ Some t = rw e at is in
          inr (among (λ d. IsLeafOf t (formula_of d.expr)) m.specs i c e
          (leaf_here (has_path_operator c.expr) c refl chosen))
        where
          leaf_here : (b : Bool) (c : Condition) → has_path_operator c.expr ≡ b
              → plain c.expr ≡ Some t → IsLeafOf t (formula_of c.expr)
          leaf_here true c p chosen = let bad : None ≡ Some t = rw p at chosen in absurd cc
          leaf_here false c p chosen =
              let same : Some c.expr ≡ Some t = rw p at chosen in
              subst (IsLeafOf t) (sym (formula_is_leaf c.expr p)) (plain_same same)
            where
              plain_same : ◌≡◌ {A = Option Term} (Some c.expr) (Some t) → t ≡ c.expr
              plain_same e = cc

  -- the formula that is read at place j - 1
  module _ (fs : List Formula) (same : map ctl_of fs ≡ map (λ (c : Condition). formula_of c.expr) m.specs)
      (j : ℕ) (some : j ≡ 0 → ⊥) (f : Formula) (within : j - 1 < length fs)
      (read : f ≡ get_or fs (j - 1) f) where
    place : suc (j - 1) ≡ j
    place = omega (arith, some)

    pub leaf_read : leaf_term (ctl_of f) ≡ spec_leaf m j
    leaf_read =
        let there : slice_get fs (j - 1) ≡ Some f =
        slice_get_read fs (length fs) (j - 1) f refl within read in
        ap (option_and_then (λ x. leaf_term (ctl_of x))) (sym there)
        ∙ formulas_plain fs same (j - 1)
        ∙ ap (spec_leaf m) place

    -- the expression that is read off it
    pub model_leaf : {E : Type 0} (term : E → Term) (found : Option E)
        → option_map term found ≡ leaf_term (ctl_of f) → IfSome found (λ e. IsModelLeaf m (term e))
    model_leaf term None is = tt
    model_leaf term (Some e) is =
        of_specs (j - 1) (term e)
        (ap (spec_leaf m) place ∙ sym leaf_read ∙ sym is)
