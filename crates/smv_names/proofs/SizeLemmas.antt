-- The size of an expression by the sizes of its parts.
use Rattle.std.proofs.Common.{◌≡◌, sym, subst, ℕ, ◌+◌, max, arith, List, [], ◌∷◌, ◌++◌, Some, None, map}
use Rattle.kripke_model.specs.declared.expressions.BinOp.{BinOp}
use Rattle.kripke_model.specs.declared.expressions.PathOp.{PathOp}
use Rattle.kripke_model.specs.Term.{Term, Terms, Arms}
use Rattle.kripke_model.specs.Size.{term_nodes, nesting, element_nodes, element_nesting, arm_nodes, arm_nesting}
use Rattle.smv_parser.specs.declared.expressions.Arm.{Arm}
use Rattle.smv_parser.specs.declared.expressions.Expr.{Expr as Written}
use Rattle.smv_parser.specs.declared.expressions.PrefixOperator.{PrefixOperator}
use Rattle.smv_parser.specs.Tree as tree
use Rattle.smv_parser.specs.View.{tree_of, arm_pair}
use Rattle.smv_instances.specs.Abstract as abstract
use Rattle.smv_instances.specs.Plain.{plain_expr}
use Rattle.smv_instances.specs.Program.{Expr, Exprs, Path, Program}
use Rattle.smv_instances.specs.Program
use Rattle.smv_instances.specs.Instances.{Scope}
use Rattle.smv_names.specs.declared.sizes.Size.{Size}
use Rattle.smv_names.specs.Denotes.{bare}
use Rattle.smv_names.specs.Abbreviations.{Abbreviation, text_of, Names}
use Rattle.smv_names.specs.Expands.{Expands, ExpandElements, ExpandArms}
use Rattle.smv_names.specs.Values.{IsSize, BothSizeOf, IsSizeOf, AreSizesOf, AreArmSizesOf}
use Rattle.smv_names.proofs.NamedLemmas.{text_of_named, leaf_of_named, of_bare}

-- ---- single expressions

pub number_size : {p : Program} {s : Scope} {z : Size} (n : ℕ) → IsSize z 1 1 → IsSizeOf p s (Expr.Number n) z
number_size n z t Expands.number = z

pub truth_size : {p : Program} {s : Scope} {z : Size} (b : _) → IsSize z 1 1 → IsSizeOf p s (Expr.Truth b) z
truth_size b z t Expands.truth = z

pub running_size : {p : Program} {s : Scope} {z : Size} → IsSize z 1 1 → IsSizeOf p s Expr.Running z
running_size z t Expands.running = z

-- z is the size of an expression with parts of the size y
abbrev pub Surrounds : Size → Size → Type 0
Surrounds z y = (n d : ℕ) → IsSize y n d → IsSize z (1 + n) (1 + d)

-- z is the size of parts of the sizes x and y
abbrev pub Joins : Size → Size → Size → Type 0
Joins z x y = (n d m c : ℕ) → IsSize x n d → IsSize y m c → IsSize z (n + m) (max d c)

pub next_size : {p : Program} {s : Scope} {e : Expr} {y z : Size} → IsSizeOf p s e y → Surrounds z y → IsSizeOf p s (Expr.Next e) z
next_size y f t (Expands.next {t = u} x) = f _ _ (y u x)

pub parens_size : {p : Program} {s : Scope} {e : Expr} {z : Size} → IsSizeOf p s e z → IsSizeOf p s (Expr.Parens e) z
parens_size z t (Expands.parens x) = z t x

not_size : {p : Program} {s : Scope} {e : Expr} {y z : Size} → IsSizeOf p s e y → Surrounds z y → IsSizeOf p s (Expr.Not e) z
not_size y f t (Expands.negation {t = u} x) = f _ _ (y u x)

quantified_size : {p : Program} {s : Scope} {op : PathOp} {e : Expr} {y z : Size} → IsSizeOf p s e y → Surrounds z y → IsSizeOf p s (Expr.Quant op e) z
quantified_size y f t (Expands.quantified {t = u} x) = f _ _ (y u x)

pub prefix_size : {p : Program} {s : Scope} (op : PrefixOperator) (e : Expr) {y z : Size} → IsSizeOf p s e y → Surrounds z y → IsSizeOf p s (abstract.prefixed op e) z
prefix_size PrefixOperator.Not e y f = not_size y f
prefix_size PrefixOperator.ExistsNext e y f = quantified_size y f
prefix_size PrefixOperator.AllNext e y f = quantified_size y f
prefix_size PrefixOperator.ExistsFinally e y f = quantified_size y f
prefix_size PrefixOperator.AllFinally e y f = quantified_size y f
prefix_size PrefixOperator.ExistsGlobally e y f = quantified_size y f
prefix_size PrefixOperator.AllGlobally e y f = quantified_size y f

-- the sum of three counts
regroup : (z : Size) (a b d : ℕ) → IsSize z (1 + (a + b)) d → IsSize z (1 + a + b) d
regroup z a b d h = let e : 1 + (a + b) ≡ 1 + a + b = omega arith in subst (λ n. IsSize z n d) e h

pub both_size : {p : Program} {s : Scope} (a b : Expr) {w x y z : Size} → IsSizeOf p s a x → IsSizeOf p s b y → Joins w x y → Surrounds z w → BothSizeOf p s a b z
both_size a b {z = z} x y j f t u k l = regroup z (term_nodes t) (term_nodes u) (1 + max (nesting t) (nesting u)) (f _ _ (j _ _ _ _ (x t k) (y u l)))

pub binary_size : {p : Program} {s : Scope} (op : BinOp) (a b : Expr) {z : Size} → BothSizeOf p s a b z → IsSizeOf p s (Expr.Binary op a b) z
binary_size op a b z t (Expands.binary {t = u} {u = v} k l) = z u v k l

pub until_size : {p : Program} {s : Scope} (all : _) (a b : Expr) {z : Size} → BothSizeOf p s a b z → IsSizeOf p s (Expr.Until all a b) z
until_size all a b z t (Expands.until {t = u} {u = v} k l) = z u v k l

pub braces_size : {p : Program} {s : Scope} {es : Exprs} {y z : Size} → AreSizesOf p s es y → Surrounds z y → IsSizeOf p s (Expr.Braces es) z
braces_size y f t (Expands.braces {ts = ts} x) = f _ _ (y ts x)

pub case_size : {p : Program} {s : Scope} {arms : Program.Arms} {y z : Size} → AreArmSizesOf p s arms y → Surrounds z y → IsSizeOf p s (Expr.Case arms) z
case_size y f t (Expands.cases {ts = ts} x) = f _ _ (y ts x)

-- ---- lists

pub no_elements_size : {p : Program} {s : Scope} {z : Size} → IsSize z 0 0 → AreSizesOf p s Exprs.none z
no_elements_size z ts ExpandElements.last_element = z

pub no_arms_size : {p : Program} {s : Scope} {z : Size} → IsSize z 0 0 → AreArmSizesOf p s Program.Arms.esac z
no_arms_size z ts ExpandArms.last_arm = z

-- the last element of a list
record LastElement (p : Program) (s : Scope) (xs : List Written) (e : Written) (ts : Terms) : Type 0 where
  pub front : Terms
  pub last : Term
  pub front_expands : ExpandElements p s (abstract.exprs (tree.trees_of (map tree_of xs))) front
  pub last_expands : Expands p s (plain_expr e) last
  pub nodes : element_nodes ts ≡ element_nodes front + term_nodes last
  pub deep : element_nesting ts ≡ max (element_nesting front) (nesting last)

last_element : {p : Program} {s : Scope} {ts : Terms} (xs : List Written) (e : Written) → ExpandElements p s (abstract.exprs (tree.trees_of (map tree_of (xs ++ e ∷ [])))) ts → LastElement p s xs e ts
last_element [] e (ExpandElements.element {t = t} x ExpandElements.last_element) =
    record { front = Terms.none; last = t; front_expands = ExpandElements.last_element; last_expands = x; nodes = omega arith; deep = omega arith }
last_element (y ∷ xs) e (ExpandElements.element {t = t} {ts = ts} x rest) =
    let r = last_element xs e rest in
    record {
      front = Terms.more t r.front;
      last = r.last;
      front_expands = ExpandElements.element x r.front_expands;
      last_expands = r.last_expands;
      nodes = omega (arith, r.nodes);
      deep = omega (arith, r.deep);
    }

pub elements_size : {p : Program} {s : Scope} (xs : List Written) (e : Written) {x y z : Size} → AreSizesOf p s (abstract.exprs (tree.trees_of (map tree_of xs))) x → IsSizeOf p s (plain_expr e) y → Joins z x y
    → AreSizesOf p s (abstract.exprs (tree.trees_of (map tree_of (xs ++ e ∷ [])))) z
elements_size {p} {s} xs e {z = z} x y j ts k =
    let r = last_element xs e k in
    subst (λ n. IsSize z n (element_nesting ts)) (sym r.nodes) (subst (λ d. IsSize z (element_nodes r.front + term_nodes r.last) d) (sym r.deep) (j _ _ _ _ (x r.front r.front_expands) (y r.last r.last_expands)))

record LastArm (p : Program) (s : Scope) (xs : List Arm) (a : Arm) (ts : Arms) : Type 0 where
  pub front : Arms
  pub guard : Term
  pub right : Term
  pub front_expands : ExpandArms p s (abstract.arms (tree.arms_of (map arm_pair xs))) front
  pub guard_expands : Expands p s (plain_expr a.guard) guard
  pub right_expands : Expands p s (plain_expr a.right) right
  pub nodes : arm_nodes ts ≡ arm_nodes front + (term_nodes guard + term_nodes right)
  pub deep : arm_nesting ts ≡ max (arm_nesting front) (max (nesting guard) (nesting right))

last_arm : {p : Program} {s : Scope} {ts : Arms} (xs : List Arm) (a : Arm) → ExpandArms p s (abstract.arms (tree.arms_of (map arm_pair (xs ++ a ∷ [])))) ts → LastArm p s xs a ts
last_arm [] a (ExpandArms.arm {t = t} {u = u} x y ExpandArms.last_arm) =
    record { front = Arms.esac; guard = t; right = u; front_expands = ExpandArms.last_arm; guard_expands = x; right_expands = y; nodes = omega arith; deep = omega arith }
last_arm (b ∷ xs) a (ExpandArms.arm {t = t} {u = u} {ts = ts} x y rest) =
    let r = last_arm xs a rest in
    record {
      front = Arms.arm t u r.front;
      guard = r.guard;
      right = r.right;
      front_expands = ExpandArms.arm x y r.front_expands;
      guard_expands = r.guard_expands;
      right_expands = r.right_expands;
      nodes = omega (arith, r.nodes);
      deep = omega (arith, r.deep);
    }

pub arms_size : {p : Program} {s : Scope} (xs : List Arm) (a : Arm) {w x y v z : Size} → AreArmSizesOf p s (abstract.arms (tree.arms_of (map arm_pair xs))) w → IsSizeOf p s (plain_expr a.guard) x → IsSizeOf p s (plain_expr a.right) y
    → Joins v x y → Joins z w v → AreArmSizesOf p s (abstract.arms (tree.arms_of (map arm_pair (xs ++ a ∷ [])))) z
arms_size {p} {s} xs a {z = z} w x y j i ts k =
    let r = last_arm xs a k in
    subst (λ n. IsSize z n (arm_nesting ts)) (sym r.nodes) (subst (λ d. IsSize z (arm_nodes r.front + (term_nodes r.guard + term_nodes r.right)) d) (sym r.deep)
    (i _ _ _ _ (w r.front r.front_expands) (j _ _ _ _ (x r.guard r.guard_expands) (y r.right r.right_expands))))

-- ---- parentheses and paths

pub bare_size : {p : Program} {s : Scope} (e : Expr) {z : Size} → IsSizeOf p s e z → IsSizeOf p s (bare e) z
bare_size e z t x = z t (of_bare e x)

pub named_size : (p : Program) (s : Scope) (q : Path) (a : Abbreviation) {h : Scope} {e : Expr} {z : Size} → Names p s q a → text_of a ≡ Some (h, e) → IsSizeOf p h e z → IsSizeOf p s (Expr.At q) z
named_size p s q a n is z t x = z t (text_of_named p s q a n is x)

pub leaf_size : (p : Program) (s : Scope) (q : Path) {z : Size} → ((a : Abbreviation) → Names p s q a → text_of a ≡ None) → IsSize z 1 1 → IsSizeOf p s (Expr.At q) z
leaf_size p s q {z} none i t x = let l = leaf_of_named p s q none x in subst (λ n. IsSize z n (nesting t)) (sym l.nodes) (subst (λ d. IsSize z 1 d) (sym l.deep) i)
