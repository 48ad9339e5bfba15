-- The formula of an expression is made of the formulas of its parts.
use Rattle.std.proofs.Common.{◌≡◌, true, false, refl, sym, ◌∙◌, ap, subst}
use Rattle.std.specs.Prelude.{Bool, not, ◌||◌, ◌&&◌, cond}
use Rattle.kripke_model.specs.declared.expressions.BinOp.{BinOp}
use Rattle.kripke_model.specs.Term.{Term, has_path_operator}
use Rattle.kripke_model.specs.Ctl.{Ctl, formula_of}
use Rattle.kripke_model.specs.Static.{is_formula, is_connective}
use Rattle.smv_static.specs.Leaves.{negation, connected, joined, joined_leaf}
use Rattle.kripke_model.specs.Leaves.{is_leaf}

differ : false ≡ true → ⊥
differ e = subst (λ (b : Bool). cond b ⊥ (Unit {0})) e tt

both_true : (b : Bool) → not b ≡ true → b ≡ true → ⊥
both_true true n e = differ n
both_true false n e = differ e

plain_binary : (op : BinOp) (a b : Term) → has_path_operator (Term.Binary op a b) ≡ false → formula_of (Term.Binary op a b) ≡ Ctl.Leaf (Term.Binary op a b)
plain_binary BinOp.And a b c = ap (λ (t : Bool). cond t (Ctl.And (formula_of a) (formula_of b)) (Ctl.Leaf (Term.Binary BinOp.And a b))) c
plain_binary BinOp.Or a b c = ap (λ (t : Bool). cond t (Ctl.Or (formula_of a) (formula_of b)) (Ctl.Leaf (Term.Binary BinOp.Or a b))) c
plain_binary BinOp.Implies a b c = ap (λ (t : Bool). cond t (Ctl.Implies (formula_of a) (formula_of b)) (Ctl.Leaf (Term.Binary BinOp.Implies a b))) c
plain_binary BinOp.Iff a b c = ap (λ (t : Bool). cond t (Ctl.Iff (formula_of a) (formula_of b)) (Ctl.Leaf (Term.Binary BinOp.Iff a b))) c
plain_binary op a b c = refl

-- an expression without path operators is a leaf
pub plain : (e : Term) → has_path_operator e ≡ false → formula_of e ≡ Ctl.Leaf e
plain (Term.Const v) c = refl
plain (Term.Var x) c = refl
plain (Term.Running p) c = refl
plain (Term.Next e) c = refl
plain (Term.Not e) c = ap (λ (t : Bool). cond t (Ctl.Not (formula_of e)) (Ctl.Leaf (Term.Not e))) c
plain (Term.Binary op a b) c = plain_binary op a b c
plain (Term.Braces es) c = refl
plain (Term.Case arms) c = refl
plain (Term.Quant op e) c = absurd (differ (sym c))
plain (Term.Until all a b) c = absurd (differ (sym c))

-- what is no connective has a leaf, so that path operators in it are refused
pub other_binary : (op : BinOp) (a b : Term) → is_connective op ≡ false → formula_of (Term.Binary op a b) ≡ Ctl.Leaf (Term.Binary op a b)
other_binary BinOp.And a b c = absurd (differ (sym c))
other_binary BinOp.Or a b c = absurd (differ (sym c))
other_binary BinOp.Implies a b c = absurd (differ (sym c))
other_binary BinOp.Iff a b c = absurd (differ (sym c))
other_binary op a b c = refl

-- a connective over a path operator is one of formulas
connective : (op : BinOp) (a b : Term) → is_connective op ≡ true → has_path_operator (Term.Binary op a b) ≡ true → formula_of (Term.Binary op a b) ≡ connected op (formula_of a) (formula_of b)
connective BinOp.And a b k c = ap (λ (t : Bool). cond t (Ctl.And (formula_of a) (formula_of b)) (Ctl.Leaf (Term.Binary BinOp.And a b))) c
connective BinOp.Or a b k c = ap (λ (t : Bool). cond t (Ctl.Or (formula_of a) (formula_of b)) (Ctl.Leaf (Term.Binary BinOp.Or a b))) c
connective BinOp.Implies a b k c = ap (λ (t : Bool). cond t (Ctl.Implies (formula_of a) (formula_of b)) (Ctl.Leaf (Term.Binary BinOp.Implies a b))) c
connective BinOp.Iff a b k c = ap (λ (t : Bool). cond t (Ctl.Iff (formula_of a) (formula_of b)) (Ctl.Leaf (Term.Binary BinOp.Iff a b))) c
connective op a b k c = absurd (differ k)

connected_leaf : (op : BinOp) (f g : Ctl) → is_connective op ≡ true → is_leaf (connected op f g) ≡ false
connected_leaf BinOp.And f g k = refl
connected_leaf BinOp.Or f g k = refl
connected_leaf BinOp.Implies f g k = refl
connected_leaf BinOp.Iff f g k = refl
connected_leaf op f g k = absurd (differ k)

no_formula : (op : BinOp) (a b : Term) → is_connective op ≡ false → is_formula (Term.Binary op a b) ≡ true → not (has_path_operator a || has_path_operator b) ≡ true
no_formula BinOp.And a b k f = absurd (differ (sym k))
no_formula BinOp.Or a b k f = absurd (differ (sym k))
no_formula BinOp.Implies a b k f = absurd (differ (sym k))
no_formula BinOp.Iff a b k f = absurd (differ (sym k))
no_formula op a b k f = f

operating_binary : (k : Bool) (op : BinOp) (a b : Term) → is_connective op ≡ k → is_formula (Term.Binary op a b) ≡ true → has_path_operator (Term.Binary op a b) ≡ true → is_leaf (formula_of (Term.Binary op a b)) ≡ false
operating_binary true op a b k f c = ap is_leaf (connective op a b k c) ∙ connected_leaf op (formula_of a) (formula_of b) k
operating_binary false op a b k f c = absurd (both_true _ (no_formula op a b k f) c)

-- a formula with a path operator is no leaf
operating : (e : Term) → is_formula e ≡ true → has_path_operator e ≡ true → is_leaf (formula_of e) ≡ false
operating (Term.Const v) f c = absurd (differ c)
operating (Term.Var x) f c = absurd (differ c)
operating (Term.Running p) f c = absurd (differ c)
operating (Term.Next e) f c = absurd (both_true (has_path_operator e) f c)
operating (Term.Not e) f c = ap (λ (t : Bool). is_leaf (cond t (Ctl.Not (formula_of e)) (Ctl.Leaf (Term.Not e)))) c
operating (Term.Binary op a b) f c = operating_binary (is_connective op) op a b refl f c
operating (Term.Braces es) f c = absurd (both_true (has_path_operator (Term.Braces es)) f c)
operating (Term.Case arms) f c = absurd (both_true (has_path_operator (Term.Case arms)) f c)
operating (Term.Quant op e) f c = refl
operating (Term.Until all a b) f c = refl

-- ---- what is made of parts

negation_other : (f : Ctl) → is_leaf f ≡ false → negation f ≡ Ctl.Not f
negation_other (Ctl.Leaf e) n = absurd (differ (sym n))
negation_other f n = refl

negation_by : (t : Bool) (e : Term) → has_path_operator e ≡ t → is_formula e ≡ true → negation (formula_of e) ≡ formula_of (Term.Not e)
negation_by true e c f =
    negation_other (formula_of e) (operating e f c) ∙ sym (ap (λ (t : Bool). cond t (Ctl.Not (formula_of e)) (Ctl.Leaf (Term.Not e))) c)
negation_by false e c f =
    ap negation (plain e c) ∙ sym (ap (λ (t : Bool). cond t (Ctl.Not (formula_of e)) (Ctl.Leaf (Term.Not e))) c)

pub negation_is : (e : Term) → is_formula e ≡ true → negation (formula_of e) ≡ formula_of (Term.Not e)
negation_is e f = negation_by (has_path_operator e) e refl f

joined_other : (op : BinOp) (f g : Ctl) → is_leaf f ≡ false → joined op f g ≡ connected op f g
joined_other op (Ctl.Leaf e) g n = absurd (differ (sym n))
joined_other op f g n = refl

joined_leaf_other : (op : BinOp) (a : Term) (g : Ctl) → is_leaf g ≡ false → joined_leaf op a g ≡ connected op (Ctl.Leaf a) g
joined_leaf_other op a (Ctl.Leaf e) n = absurd (differ (sym n))
joined_leaf_other op a g n = refl

joined_by : (s t : Bool) (op : BinOp) (a b : Term) → has_path_operator a ≡ s → has_path_operator b ≡ t → is_connective op ≡ true → is_formula a ≡ true → is_formula b ≡ true
    → joined op (formula_of a) (formula_of b) ≡ formula_of (Term.Binary op a b)
joined_by true t op a b c d k f g =
    joined_other op (formula_of a) (formula_of b) (operating a f c) ∙ sym (connective op a b k (ap (λ (s : Bool). s || has_path_operator b) c))
joined_by false true op a b c d k f g =
    ap (λ (h : Ctl). joined op h (formula_of b)) (plain a c)
    ∙ joined_leaf_other op a (formula_of b) (operating b g d)
    ∙ ap (λ (h : Ctl). connected op h (formula_of b)) (sym (plain a c))
    ∙ sym (connective op a b k ((λ i. c i || d i)))
joined_by false false op a b c d k f g =
    ap (λ (h : Ctl). joined op h (formula_of b)) (plain a c)
    ∙ ap (λ (h : Ctl). joined_leaf op a h) (plain b d)
    ∙ sym (plain_binary op a b (λ i. c i || d i))

pub joined_is : (op : BinOp) (a b : Term) → is_connective op ≡ true → is_formula a ≡ true → is_formula b ≡ true → joined op (formula_of a) (formula_of b) ≡ formula_of (Term.Binary op a b)
joined_is op a b k f g = joined_by (has_path_operator a) (has_path_operator b) op a b refl refl k f g

and_parts : (a b : Bool) → (a && b) ≡ true → (a ≡ true) × (b ≡ true)
and_parts true b e = (refl, e)
and_parts false b e = absurd (differ e)

-- the sides of a connective in a formula are formulas
pub connective_parts : (op : BinOp) (a b : Term) → is_connective op ≡ true → is_formula (Term.Binary op a b) ≡ true → (is_formula a ≡ true) × (is_formula b ≡ true)
connective_parts BinOp.And a b k f = and_parts (is_formula a) (is_formula b) f
connective_parts BinOp.Or a b k f = and_parts (is_formula a) (is_formula b) f
connective_parts BinOp.Implies a b k f = and_parts (is_formula a) (is_formula b) f
connective_parts BinOp.Iff a b k f = and_parts (is_formula a) (is_formula b) f
connective_parts op a b k f = absurd (differ k)
