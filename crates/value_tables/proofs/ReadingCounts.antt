-- How many readings an expression has: at most as many as it has nodes.
use Rattle.std.proofs.Common.{◌≡◌, ℕ, ◌+◌, ◌*◌, ◌^◌, ◌≤◌, Bool, true, false, cond, not, List, [], ◌∷◌, ◌++◌, length, Ok, Err, refl, arith, length-append}
use Rattle.std.specs.Prelude.{filter}
use Rattle.bdd_nodes.specs.declared.store.Store.{Store}
use Rattle.bdd_nodes.specs.Store.{levels_of, value_of}
use Rattle.kripke_model.specs.declared.expressions.Value.{Value}
use Rattle.kripke_model.specs.declared.expressions.BinOp.{BinOp}
use Rattle.kripke_model.specs.Term.{Term, Terms, Arms, none, more, esac, arm}
use Rattle.kripke_model.specs.System.{System, State}
use Rattle.kripke_model.specs.Size.{term_nodes, element_nodes, arm_nodes}
use Rattle.kripke_model.specs.Evaluation.{Checked, ◌>>=◌, same, distinct, truth, boolean, binary, runs, eval, eval_elements, eval_arms}
use Rattle.value_tables.specs.declared.cells.Cell.{Cell}
use Rattle.value_tables.specs.Cells.{readings, Reads, AreCells}
use Rattle.value_tables.specs.Tables.{IsSingle, IsTable, IsSetTable, all_values}
use Rattle.value_tables.specs.Weights.{AreApart}
use Rattle.value_tables.proofs.BinaryLemmas.{one_truth, member_single, equality_single, connective_single, arithmetic_single, comparison_single}
use Rattle.value_tables.proofs.EvalLemmas.{single_negation}
use Rattle.value_tables.proofs.OnceLemmas.{counted_most}
use Rattle.value_tables.proofs.WeightLemmas.{cells-few}

-- ---- results

amount : Checked (List Value) → ℕ
amount c = length (readings c)

amount_ok : (vs : List Value) → amount (Ok vs) ≡ length vs
unfolding amount
amount_ok [] = refl
amount_ok (v ∷ vs) = omega (arith, amount_ok vs)

pub amount_single : (c : Checked (List Value)) → IsSingle c → length (readings c) ≤ 1
unfolding amount
amount_single (Ok vs) h = omega (arith, amount_ok vs)
amount_single (Err kind) h = omega arith

filter-le : (p : Value → Bool) (vs : List Value) → length (filter p vs) ≤ length vs
filter-le p [] = omega arith
filter-le p (v ∷ vs) = by (p v) (filter-le p vs)
  where
    by : (b : Bool) → length (filter p vs) ≤ length vs → length (cond b (v ∷ filter p vs) (filter p vs)) ≤ length (v ∷ vs)
    by true h = omega arith
    by false h = omega arith

distinct-le : (vs : List Value) → length (distinct vs) ≤ length vs
distinct-le [] = omega arith
distinct-le (v ∷ vs) = omega (arith, filter-le (λ w. not (same v w)) (distinct vs), distinct-le vs)

distinct_amount : (c : Checked (List Value)) → length (readings (c >>= λ vs. Ok (distinct vs))) ≤ length (readings c)
unfolding amount
distinct_amount (Ok vs) = omega (arith, amount_ok vs, amount_ok (distinct vs), distinct-le vs)
distinct_amount (Err kind) = omega arith

all_amount : (c d : Checked (List Value)) → length (readings (all_values c d)) ≤ length (readings c) + length (readings d)
unfolding amount
all_amount (Ok vs) (Ok ws) = omega (arith, amount_ok vs, amount_ok ws, amount_ok (vs ++ ws), length-append vs ws)
all_amount (Ok vs) (Err kind) = omega arith
all_amount (Err kind) d = omega arith

union_amount : (c d : Checked (List Value)) → length (readings (binary BinOp.Union c d)) ≤ 1 + length (readings c) + length (readings d)
union_amount (Ok vs) (Ok ws) = omega (arith, distinct_amount (Ok (vs ++ ws)), all_amount (Ok vs) (Ok ws))
union_amount (Ok vs) (Err kind) = omega arith
union_amount (Err kind) d = omega arith

binary_amount : (op : BinOp) (c d : Checked (List Value)) → length (readings (binary op c d)) ≤ 1 + length (readings c) + length (readings d)
binary_amount BinOp.Union c d = union_amount c d
binary_amount BinOp.Member c d = omega (arith, amount_single (binary BinOp.Member c d) (member_single BinOp.Member tt c d))
binary_amount BinOp.Eq c d = omega (arith, amount_single (binary BinOp.Eq c d) (equality_single BinOp.Eq tt c d))
binary_amount BinOp.And c d = omega (arith, amount_single (binary BinOp.And c d) (connective_single BinOp.And tt c d))
binary_amount BinOp.Or c d = omega (arith, amount_single (binary BinOp.Or c d) (connective_single BinOp.Or tt c d))
binary_amount BinOp.Implies c d = omega (arith, amount_single (binary BinOp.Implies c d) (connective_single BinOp.Implies tt c d))
binary_amount BinOp.Iff c d = omega (arith, amount_single (binary BinOp.Iff c d) (connective_single BinOp.Iff tt c d))
binary_amount BinOp.Mul c d = omega (arith, amount_single (binary BinOp.Mul c d) (arithmetic_single BinOp.Mul tt c d))
binary_amount BinOp.Div c d = omega (arith, amount_single (binary BinOp.Div c d) (arithmetic_single BinOp.Div tt c d))
binary_amount BinOp.Add c d = omega (arith, amount_single (binary BinOp.Add c d) (arithmetic_single BinOp.Add tt c d))
binary_amount BinOp.Sub c d = omega (arith, amount_single (binary BinOp.Sub c d) (arithmetic_single BinOp.Sub tt c d))
binary_amount BinOp.Mod c d = omega (arith, amount_single (binary BinOp.Mod c d) (arithmetic_single BinOp.Mod tt c d))
binary_amount BinOp.Lt c d = omega (arith, amount_single (binary BinOp.Lt c d) (comparison_single BinOp.Lt tt c d))
binary_amount BinOp.Gt c d = omega (arith, amount_single (binary BinOp.Gt c d) (comparison_single BinOp.Gt tt c d))
binary_amount BinOp.Le c d = omega (arith, amount_single (binary BinOp.Le c d) (comparison_single BinOp.Le tt c d))
binary_amount BinOp.Ge c d = omega (arith, amount_single (binary BinOp.Ge c d) (comparison_single BinOp.Ge tt c d))

choice_amount : (b : Checked Bool) (d r : Checked (List Value)) (n k : ℕ) → length (readings d) ≤ n → length (readings r) ≤ k + 1 → length (readings (b >>= λ x. cond x d r)) ≤ n + k + 1
choice_amount (Ok true) d r n k h j = omega arith
choice_amount (Ok false) d r n k h j = omega arith
choice_amount (Err kind) d r n k h j = omega arith

-- ---- expressions

mutual
  pub eval_amount : (m : System) (e : Term) (s t : State) → length (readings (eval m e s t)) ≤ term_nodes e
  eval_amount m (Term.Const v) s t = omega arith
  eval_amount m (Term.Var x) s t = omega arith
  eval_amount m (Term.Running p) s t = amount_single (Ok (truth (runs m s p))) (one_truth (runs m s p))
  eval_amount m (Term.Next e) s t = omega (arith, eval_amount m e t t)
  eval_amount m (Term.Not e) s t = omega (arith, amount_single (eval m (Term.Not e) s t) (single_negation (eval m e s t)))
  eval_amount m (Term.Binary op a b) s t = omega (arith, binary_amount op (eval m a s t) (eval m b s t), eval_amount m a s t, eval_amount m b s t)
  eval_amount m (Term.Braces es) s t = omega (arith, distinct_amount (eval_elements m es s t), elements_amount m es s t)
  eval_amount m (Term.Case arms) s t = omega (arith, arms_amount m arms s t)
  eval_amount m (Term.Quant op e) s t = omega arith
  eval_amount m (Term.Until all a b) s t = omega arith

  pub elements_amount : (m : System) (es : Terms) (s t : State) → length (readings (eval_elements m es s t)) ≤ element_nodes es
  elements_amount m none s t = omega arith
  elements_amount m (more e es) s t = omega (arith, all_amount (eval m e s t) (eval_elements m es s t), eval_amount m e s t, elements_amount m es s t)

  arms_amount : (m : System) (arms : Arms) (s t : State) → length (readings (eval_arms m arms s t)) ≤ arm_nodes arms + 1
  arms_amount m esac s t = omega arith
  arms_amount m (arm g r rest) s t =
      omega (arith, choice_amount (eval m g s t >>= boolean) (eval m r s t) (eval_arms m rest s t) (term_nodes r) (arm_nodes rest) (eval_amount m r s t) (arms_amount m rest s t))

-- each expression has a node
pub term_nodes-some : (e : Term) → 1 ≤ term_nodes e
term_nodes-some (Term.Const v) = omega arith
term_nodes-some (Term.Var x) = omega arith
term_nodes-some (Term.Running p) = omega arith
term_nodes-some (Term.Next e) = omega arith
term_nodes-some (Term.Not e) = omega arith
term_nodes-some (Term.Binary op a b) = omega arith
term_nodes-some (Term.Braces es) = omega arith
term_nodes-some (Term.Case arms) = omega arith
term_nodes-some (Term.Quant op e) = omega arith
term_nodes-some (Term.Until all a b) = omega arith

-- ---- cells

-- where results have at most n readings, there are at most n cells for each list of bits
pub reads-few : (s : Store) (cells : List Cell) (n : ℕ) → AreCells s cells → ((bits : List Bool) → (c : Checked (List Value)) × Reads (λ r. value_of s r bits) cells c × (length (readings c) ≤ n)) → length cells ≤ n * 2 ^ levels_of s
reads-few s cells n h f = cells-few s cells n h.has h.some (λ bits. let x = f bits in omega (arith, counted_most (λ r. value_of s r bits) cells x.0 h.once x.1, x.2))

pub table-few : (s : Store) (cells : List Cell) (single : Bool) (f : List Bool → Checked (List Value)) (n : ℕ) → IsTable s cells single f → ((bits : List Bool) → length (readings (f bits)) ≤ n) → length cells ≤ n * 2 ^ levels_of s
table-few s cells single f n h most = reads-few s cells n h.regions (λ bits. (f bits, h.reads bits, most bits))

pub set-few : (s : Store) (cells : List Cell) (f : List Bool → Checked (List Value)) (n : ℕ) → IsSetTable s cells f → ((bits : List Bool) → length (readings (f bits)) ≤ n) → length cells ≤ n * 2 ^ levels_of s
set-few s cells f n h most = reads-few s cells n h.regions (λ bits. (f bits, h.reads bits, most bits))

pub reads-apart : (s : Store) (cells : List Cell) → AreCells s cells → ((bits : List Bool) → (c : Checked (List Value)) × Reads (λ r. value_of s r bits) cells c × (length (readings c) ≤ 1)) → AreApart s cells
reads-apart s cells h f = record { each = λ bits. let x = f bits in omega (arith, counted_most (λ r. value_of s r bits) cells x.0 h.once x.1, x.2) }
