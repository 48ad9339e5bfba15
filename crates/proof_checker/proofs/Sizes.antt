-- A specification and the constraints have no more nodes than their model.
use Rattle.std.proofs.Common.{◌≡◌, ◌∙◌, ℕ, zero, suc, ◌+◌, ◌≤◌, Bool, true, false}
use Rattle.std.proofs.Common.{List, [], ◌∷◌, ◌++◌, map, Some, if◌then◌else◌, ap, arith}
use Rattle.std.specs.Prelude.{option_map, slice_get, sum_by}
use Rattle.std.proofs.lemmas.List.{map-append}
use Rattle.std.proofs.lemmas.List.Sums.{sum_by-append, sum_by-cons}
use Rattle.fair_rules.specs.FreePart.{constraint_nodes, path_nodes, path_nodes_of}
use Rattle.kripke_model.specs.Ctl.{Ctl, formula_of}
use Rattle.kripke_model.specs.Flat.{node_total}
use Rattle.kripke_model.specs.Signs.{node_count}
use Rattle.kripke_model.specs.Size as size
use Rattle.kripke_model.specs.System.{Assignment, Condition, System}
use Rattle.kripke_model.specs.Term.{Term, has_path_operator}
use Rattle.kripke_model.specs.declared.expressions.BinOp.{BinOp}
use Rattle.proof_form.specs.Shape.{spec_formula}

-- ---- a formula has at most the nodes of its expression

some_nodes : (e : Term) → 1 ≤ size.term_nodes e
some_nodes (Term.Const v) = omega arith
some_nodes (Term.Var x) = omega arith
some_nodes (Term.Running p) = omega arith
some_nodes (Term.Next e) = omega arith
some_nodes (Term.Not e) = omega arith
some_nodes (Term.Binary op a b) = omega arith
some_nodes (Term.Braces es) = omega arith
some_nodes (Term.Case arms) = omega arith
some_nodes (Term.Quant op e) = omega arith
some_nodes (Term.Until all a b) = omega arith

or_leaf : (path : Bool) (e : Term) (f : Ctl) (n : ℕ) → 1 ≤ n → node_count f ≤ n
    → node_count (if path then f else Ctl.Leaf e) ≤ n
or_leaf true e f n some less = less
or_leaf false e f n some less = some

nodes_less : (e : Term) → node_count (formula_of e) ≤ size.term_nodes e
nodes_less (Term.Not e) =
    or_leaf (has_path_operator (Term.Not e)) (Term.Not e) (Ctl.Not (formula_of e))
    (1 + size.term_nodes e) (omega arith) (omega (arith, nodes_less e))
nodes_less (Term.Binary BinOp.And a b) =
    or_leaf (has_path_operator (Term.Binary BinOp.And a b)) (Term.Binary BinOp.And a b)
    (Ctl.And (formula_of a) (formula_of b)) (1 + size.term_nodes a + size.term_nodes b)
    (omega arith) (omega (arith, nodes_less a, nodes_less b))
nodes_less (Term.Binary BinOp.Or a b) =
    or_leaf (has_path_operator (Term.Binary BinOp.Or a b)) (Term.Binary BinOp.Or a b)
    (Ctl.Or (formula_of a) (formula_of b)) (1 + size.term_nodes a + size.term_nodes b)
    (omega arith) (omega (arith, nodes_less a, nodes_less b))
nodes_less (Term.Binary BinOp.Implies a b) =
    or_leaf (has_path_operator (Term.Binary BinOp.Implies a b)) (Term.Binary BinOp.Implies a b)
    (Ctl.Implies (formula_of a) (formula_of b)) (1 + size.term_nodes a + size.term_nodes b)
    (omega arith) (omega (arith, nodes_less a, nodes_less b))
nodes_less (Term.Binary BinOp.Iff a b) =
    or_leaf (has_path_operator (Term.Binary BinOp.Iff a b)) (Term.Binary BinOp.Iff a b)
    (Ctl.Iff (formula_of a) (formula_of b)) (1 + size.term_nodes a + size.term_nodes b)
    (omega arith) (omega (arith, nodes_less a, nodes_less b))
nodes_less (Term.Quant op e) = omega (arith, nodes_less e)
nodes_less (Term.Until all a b) = omega (arith, nodes_less a, nodes_less b)
nodes_less e = some_nodes e

-- ---- a specification and the constraints have at most the nodes of the model

nodes_in : List Condition → ℕ
nodes_in cs = sum_by size.term_nodes (map (λ (c : Condition). c.expr) cs)

both_in : (cs ds : List Condition) → nodes_in (cs ++ ds) ≡ nodes_in cs + nodes_in ds
unfolding nodes_in
both_in cs ds =
    ap (sum_by size.term_nodes) (map-append (λ (c : Condition). c.expr) cs ds)
    ∙ sum_by-append size.term_nodes (map (λ (c : Condition). c.expr) cs)
    (map (λ (c : Condition). c.expr) ds)

more_in : (c : Condition) (cs : List Condition)
    → nodes_in (c ∷ cs) ≡ size.term_nodes c.expr + nodes_in cs
unfolding nodes_in
more_in c cs = sum_by-cons size.term_nodes c.expr (map (λ (c : Condition). c.expr) cs)

spec_in : (cs : List Condition) (j : ℕ) (f : Ctl)
    → option_map (λ (c : Condition). formula_of c.expr) (slice_get cs j) ≡ Some f
    → node_count f ≤ nodes_in cs
spec_in [] j f is = absurd cc
spec_in (c ∷ cs) zero f is =
    let same : formula_of c.expr ≡ f = cc in
    omega (arith, nodes_less c.expr, ap node_count same, more_in c cs)
spec_in (c ∷ cs) (suc j) f is = omega (arith, spec_in cs j f is, more_in c cs)

path_less : (f : Ctl) → path_nodes f ≤ node_count f
path_less (Ctl.Leaf e) = omega arith
path_less (Ctl.Not f) = omega arith
path_less (Ctl.And f g) = omega arith
path_less (Ctl.Or f g) = omega arith
path_less (Ctl.Implies f g) = omega arith
path_less (Ctl.Iff f g) = omega arith
path_less (Ctl.Quant op f) = omega arith
path_less (Ctl.Until all f g) = omega arith

paths_in : (cs : List Condition)
    → path_nodes_of (map (λ (c : Condition). formula_of c.expr) cs) ≤ nodes_in cs
paths_in [] = omega arith
paths_in (c ∷ cs) =
    omega (arith, paths_in cs, path_less (formula_of c.expr), nodes_less c.expr, more_in c cs)

total_of : (m : System) → nodes_in m.constraints + nodes_in m.specs ≤ node_total m
unfolding nodes_in
total_of m =
    let conditions : List Condition = m.inits ++ m.invars ++ m.trans ++ m.constraints ++ m.specs in
    let rights : List Term = map (λ (a : Assignment). a.right) m.assigns in
    let whole : node_total m ≡ sum_by size.term_nodes rights + nodes_in conditions =
    sum_by-append size.term_nodes rights (map (λ (c : Condition). c.expr) conditions) in
    omega (
      arith,
      whole,
      both_in (m.inits ++ m.invars ++ m.trans ++ m.constraints) m.specs,
      both_in (m.inits ++ m.invars ++ m.trans) m.constraints,
    )

pub nodes_fit : (m : System) (j : ℕ) (f : Ctl) → spec_formula m j ≡ Some f
    → node_count f + constraint_nodes m ≤ node_total m
nodes_fit m zero f is = absurd cc
nodes_fit m (suc j) f is = omega (arith, spec_in m.specs j f is, paths_in m.constraints, total_of m)

pub constraints_fit : (m : System) → constraint_nodes m ≤ node_total m
constraints_fit m = omega (arith, paths_in m.constraints, total_of m)
