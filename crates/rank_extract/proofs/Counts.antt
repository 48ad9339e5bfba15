-- How many nodes a specification's formula has, and how many sets are written of it.
use Rattle.std.proofs.Common.{◌≡◌, ℕ, ◌+◌, ◌<◌, ◌≤◌, Bool, true, false, List, ◌++◌, length, map, get_or, ap, arith, if◌then◌else◌}
use Rattle.std.specs.List.{sum_by}
use Rattle.std.proofs.lemmas.List.Sums.{get_or-le-sum_by, sum_by-append}
use Rattle.std.proofs.lemmas.List.{get_or-map, length-map, map-append}
use Rattle.kripke_model.specs.declared.expressions.BinOp.{BinOp}
use Rattle.kripke_model.specs.Ctl.{Ctl, formula_of}
use Rattle.kripke_model.specs.Flat.{IsFlat, node_total}
use Rattle.kripke_model.specs.Signs as signs
use Rattle.kripke_model.specs.Size.{term_nodes}
use Rattle.kripke_model.specs.System.{System, Condition, Assignment}
use Rattle.kripke_model.specs.Term.{Term, has_path_operator}

-- ---- a formula has at most as many nodes as its expression

some_nodes : (e : Term) → 1 ≤ term_nodes e
some_nodes (Term.Const v) = omega arith
some_nodes (Term.Var x) = omega arith
some_nodes (Term.Running p) = omega arith
some_nodes (Term.Next e) = omega arith
some_nodes (Term.Not e) = omega arith
some_nodes (Term.Binary op a b) = omega arith
some_nodes (Term.Braces es) = omega arith
some_nodes (Term.Case arms) = omega arith
some_nodes (Term.Quant op e) = omega arith
some_nodes (Term.Until all a b) = omega arith

leaf_or_less : (path : Bool) (e : Term) (f : Ctl) (n : ℕ) → 1 ≤ n → signs.node_count f ≤ n → signs.node_count (if path then f else Ctl.Leaf e) ≤ n
leaf_or_less true e f n some less = less
leaf_or_less false e f n some less = some

pub formula_nodes : (e : Term) → signs.node_count (formula_of e) ≤ term_nodes e
formula_nodes (Term.Not e) = leaf_or_less (has_path_operator (Term.Not e)) (Term.Not e) (Ctl.Not (formula_of e)) (term_nodes (Term.Not e)) (some_nodes (Term.Not e)) (omega (arith, formula_nodes e))
formula_nodes (Term.Binary BinOp.And a b) =
    leaf_or_less (has_path_operator (Term.Binary BinOp.And a b)) (Term.Binary BinOp.And a b) (Ctl.And (formula_of a) (formula_of b)) (1 + term_nodes a + term_nodes b) (omega arith) (omega (arith, formula_nodes a, formula_nodes b))
formula_nodes (Term.Binary BinOp.Or a b) =
    leaf_or_less (has_path_operator (Term.Binary BinOp.Or a b)) (Term.Binary BinOp.Or a b) (Ctl.Or (formula_of a) (formula_of b)) (1 + term_nodes a + term_nodes b) (omega arith) (omega (arith, formula_nodes a, formula_nodes b))
formula_nodes (Term.Binary BinOp.Implies a b) =
    leaf_or_less (has_path_operator (Term.Binary BinOp.Implies a b)) (Term.Binary BinOp.Implies a b) (Ctl.Implies (formula_of a) (formula_of b)) (1 + term_nodes a + term_nodes b) (omega arith) (omega (arith, formula_nodes a, formula_nodes b))
formula_nodes (Term.Binary BinOp.Iff a b) =
    leaf_or_less (has_path_operator (Term.Binary BinOp.Iff a b)) (Term.Binary BinOp.Iff a b) (Ctl.Iff (formula_of a) (formula_of b)) (1 + term_nodes a + term_nodes b) (omega arith) (omega (arith, formula_nodes a, formula_nodes b))
formula_nodes (Term.Quant op e) = omega (arith, formula_nodes e)
formula_nodes (Term.Until all a b) = omega (arith, formula_nodes a, formula_nodes b)
formula_nodes e = some_nodes e

-- ---- so few that their numbers are words

abbrev conditions : System → List Condition
conditions m = m.inits ++ m.invars ++ m.trans ++ m.constraints ++ m.specs

abbrev nodes_in : List Condition → ℕ
nodes_in cs = sum_by term_nodes (map (λ (c : Condition). c.expr) cs)

right_part : (xs ys : List Term) → sum_by term_nodes ys ≤ sum_by term_nodes (xs ++ ys)
right_part xs ys = omega (arith, sum_by-append term_nodes xs ys)

last_part : (cs ds : List Condition) → nodes_in ds ≤ nodes_in (cs ++ ds)
last_part cs ds =
    let e : nodes_in (cs ++ ds) ≡ sum_by term_nodes (map (λ (c : Condition). c.expr) cs ++ map (λ (c : Condition). c.expr) ds) = ap (sum_by term_nodes) (map-append (λ (c : Condition). c.expr) cs ds) in
    let r : nodes_in ds ≤ sum_by term_nodes (map (λ (c : Condition). c.expr) cs ++ map (λ (c : Condition). c.expr) ds) = right_part (map (λ (c : Condition). c.expr) cs) (map (λ (c : Condition). c.expr) ds) in
    omega (arith, e, r)

first_part : (cs ds : List Condition) → nodes_in cs ≤ nodes_in (cs ++ ds)
first_part cs ds =
    let e : nodes_in (cs ++ ds) ≡ sum_by term_nodes (map (λ (c : Condition). c.expr) cs ++ map (λ (c : Condition). c.expr) ds) = ap (sum_by term_nodes) (map-append (λ (c : Condition). c.expr) cs ds) in
    omega (arith, e, sum_by-append term_nodes (map (λ (c : Condition). c.expr) cs) (map (λ (c : Condition). c.expr) ds))

spec_total : (m : System) → nodes_in m.specs ≤ node_total m
spec_total m =
    let a : nodes_in m.specs ≤ nodes_in (conditions m) = last_part (m.inits ++ m.invars ++ m.trans ++ m.constraints) m.specs in
    let b : nodes_in (conditions m) ≤ node_total m = right_part (map (λ (x : Assignment). x.right) m.assigns) (map (λ (x : Condition). x.expr) (conditions m)) in
    omega (arith, a, b)

constraint_total : (m : System) → nodes_in m.constraints ≤ node_total m
constraint_total m =
    let a : nodes_in m.constraints ≤ nodes_in (m.inits ++ m.invars ++ m.trans ++ m.constraints) = last_part (m.inits ++ m.invars ++ m.trans) m.constraints in
    let b : nodes_in (m.inits ++ m.invars ++ m.trans ++ m.constraints) ≤ nodes_in (conditions m) = first_part (m.inits ++ m.invars ++ m.trans ++ m.constraints) m.specs in
    let c : nodes_in (conditions m) ≤ node_total m = right_part (map (λ (x : Assignment). x.right) m.assigns) (map (λ (x : Condition). x.expr) (conditions m)) in
    omega (arith, a, b, c)

few_in : (m : System) → IsFlat m → (cs : List Condition) → nodes_in cs ≤ node_total m → (k : ℕ) (d : Condition) → k < length cs → signs.node_count (formula_of (get_or cs k d).expr) ≤ 200000
few_in m flat cs whole k d lt =
    let e : Term = (get_or cs k d).expr in
    let same : get_or (map (λ (c : Condition). c.expr) cs) k e ≡ e = get_or-map (λ (c : Condition). c.expr) cs k d e lt in
    let one : term_nodes (get_or (map (λ (c : Condition). c.expr) cs) k e) ≤ sum_by term_nodes (map (λ (c : Condition). c.expr) cs) =
    get_or-le-sum_by term_nodes (map (λ (c : Condition). c.expr) cs) k e (omega (arith, lt, length-map cs (λ (c : Condition). c.expr))) in
    let less : node_total m ≤ 200000 = flat.limits.nodes in
    let here : term_nodes (get_or (map (λ (c : Condition). c.expr) cs) k e) ≡ term_nodes e = ap term_nodes same in
    omega (arith, formula_nodes e, one, here, whole, less)

pub spec_nodes_few : (m : System) → IsFlat m → (k : ℕ) (d : Condition) → k < length m.specs → signs.node_count (formula_of (get_or m.specs k d).expr) ≤ 200000
spec_nodes_few m flat k d lt = few_in m flat m.specs (spec_total m) k d lt

pub constraint_nodes_few : (m : System) → IsFlat m → (k : ℕ) (d : Condition) → k < length m.constraints → signs.node_count (formula_of (get_or m.constraints k d).expr) ≤ 200000
constraint_nodes_few m flat k d lt = few_in m flat m.constraints (constraint_total m) k d lt
