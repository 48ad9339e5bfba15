-- What an expression's term says of the terms of its parts.
use Rattle.std.proofs.Common.{◌≡◌, refl, sym, ◌∙◌, ap, subst, ℕ, zero, suc, ◌-◌, ◌+◌, ◌≤◌, arith, List, [], ◌∷◌, length, take, Bool, true, false, Some, ◌⊎◌, inl, inr, lit≤, ◌++◌, Option}
use Rattle.std.specs.Prelude.{map, pos, slice_get, Result, IfOk}
use Rattle.kripke_model.specs.declared.expressions.Arm.{Arm as FlatArm}
use Rattle.kripke_model.specs.declared.expressions.BinOp.{BinOp}
use Rattle.kripke_model.specs.declared.expressions.Expr.{Expr as FlatExpr}
use Rattle.kripke_model.specs.declared.expressions.PathOp.{PathOp}
use Rattle.kripke_model.specs.declared.expressions.Value.TheVariants.{Number, Symbol}
use Rattle.kripke_model.specs.Reading.{term_of, terms_in, arms_in, arm_of}
use Rattle.kripke_model.specs.Term.{Term, Terms, Arms}
use Rattle.kripke_model.specs.Size.{nesting, element_nesting, arm_nesting}
use Rattle.smv_parser.specs.declared.expressions.Arm.{Arm as Held_arm}
use Rattle.smv_parser.specs.declared.expressions.Expr.{Expr as Held}
use Rattle.smv_parser.specs.declared.expressions.PrefixOperator.{PrefixOperator}
use Rattle.smv_instances.specs.declared.instances.Instances.{Instances}
use Rattle.smv_instances.specs.Abstract.{prefixed}
use Rattle.smv_instances.specs.Built.{AreInstances}
use Rattle.smv_instances.specs.Plain.{plain_expr}
use Rattle.smv_instances.specs.Program.{Name, Expr, Exprs, Path, Program}
use Rattle.smv_instances.specs.Program
use Rattle.smv_instances.specs.Instances.{Scope, instances, process_name, processes, place_of, symbols}
use Rattle.kripke_model.specs.Evaluation.{truth_value}
use Rattle.smv_names.specs.Denotes.{Target, Denotes, bare}
use Rattle.smv_names.specs.Expands.{Expands, ExpandElements, ExpandArms, Selects}
use Rattle.smv_instantiate.specs.declared.expansion.End.{End}
use Rattle.smv_instantiate.specs.Written.{IsWrittenExpr, AreWritten, AreWrittenArms}
use Rattle.smv_instantiate.specs.Expanded.{prefix_term}
use Rattle.smv_instantiate.specs.Expansion.{IsWrittenValue, HasWrittenNumbers, HaveWrittenNumbers, ArmsHaveWrittenNumbers, StandsFor, ElementsStandFor, ArmsStandFor, plain_exprs, plain_arms, DenotesNoText, CanExpand, IsNode, IsNodeOf}
use Rattle.smv_instantiate.proofs.Members.{In, not_some, some_same, map-append}
use Rattle.smv_instantiate.proofs.DeclaredLemmas.{kept}
use Rattle.smv_instantiate.proofs.ProcessSteps.{take_at}
use Rattle.smv_instantiate.proofs.TargetLemmas.{IsKept, good_target}

-- ---- numbers

truth_written : (b : Bool) → IsWrittenValue (truth_value b)
truth_written true = lit≤ tt
truth_written false = lit≤ tt

module _ (p : Program) (kept : IsKept p) where
  mutual
    pub written_numbers : {s : Scope} {e : Expr} {t : Term} → Expands p s e t → In s (instances p) → IsWrittenExpr e → HasWrittenNumbers t
    written_numbers Expands.number i w = w
    written_numbers (Expands.truth {b}) i w = truth_written b
    written_numbers Expands.running i w = tt
    written_numbers (Expands.variable selects) i w = tt
    written_numbers (Expands.constant d) i w = tt
    written_numbers (Expands.read d x) i w = let g = good_target p kept d i in written_numbers x g.0 g.1
    written_numbers (Expands.next x) i w = written_numbers x i w
    written_numbers (Expands.parens x) i w = written_numbers x i w
    written_numbers (Expands.braces ExpandElements.last_element) i w = tt
    written_numbers (Expands.braces (ExpandElements.element x xs)) i w = (written_numbers x i w.0, all_written xs i w.1)
    written_numbers (Expands.cases ExpandArms.last_arm) i w = tt
    written_numbers (Expands.cases (ExpandArms.arm x y xs)) i w = (written_numbers x i w.0, written_numbers y i w.1, arms_written xs i w.2)
    written_numbers (Expands.negation x) i w = written_numbers x i w
    written_numbers (Expands.binary x y) i w = (written_numbers x i w.0, written_numbers y i w.1)
    written_numbers (Expands.quantified x) i w = written_numbers x i w
    written_numbers (Expands.until x y) i w = (written_numbers x i w.0, written_numbers y i w.1)

    all_written : {s : Scope} {es : Exprs} {ts : Terms} → ExpandElements p s es ts → In s (instances p) → AreWritten es → HaveWrittenNumbers ts
    all_written ExpandElements.last_element i w = tt
    all_written (ExpandElements.element x xs) i w = (written_numbers x i w.0, all_written xs i w.1)

    arms_written : {s : Scope} {arms : Program.Arms} {ts : Arms} → ExpandArms p s arms ts → In s (instances p) → AreWrittenArms arms → ArmsHaveWrittenNumbers ts
    arms_written ExpandArms.last_arm i w = tt
    arms_written (ExpandArms.arm x y xs) i w = (written_numbers x i w.0, written_numbers y i w.1, arms_written xs i w.2)

-- ---- nodes

pub some_nesting : (t : Term) → 1 ≤ nesting t
some_nesting (Term.Const v) = omega arith
some_nesting (Term.Var x) = omega arith
some_nesting (Term.Running p) = omega arith
some_nesting (Term.Next e) = omega arith
some_nesting (Term.Not e) = omega arith
some_nesting (Term.Binary op a b) = omega arith
some_nesting (Term.Braces es) = omega arith
some_nesting (Term.Case arms) = omega arith
some_nesting (Term.Quant op e) = omega arith
some_nesting (Term.Until all a b) = omega arith

pub number_term : {p : Program} {s : Scope} {d : ℕ} {t : Term} (n : ℕ) → StandsFor p s (Expr.Number n) d t → (t ≡ Term.Const (Number (pos n))) × (n ≤ 2147483647)
number_term {p} {s} n x = go x.expands x.numbers
  where
    go : {t : Term} → Expands p s (Expr.Number n) t → HasWrittenNumbers t → (t ≡ Term.Const (Number (pos n))) × (n ≤ 2147483647)
    go Expands.number h = (refl, h)

pub truth_term : {p : Program} {s : Scope} {t : Term} (b : Bool) → Expands p s (Expr.Truth b) t → t ≡ Term.Const (truth_value b)
truth_term b Expands.truth = refl

pub running_term : {p : Program} {s : Scope} {t : Term} → Expands p s Expr.Running t → t ≡ Term.Running (place_of (processes p) (process_name s))
running_term Expands.running = refl

-- a path that denotes no expression stands for a variable or a constant
pub leaf_term : {p : Program} {s : Scope} {t : Term} (q : Path) → Expands p s (Expr.At q) t → DenotesNoText p s q
    → ((x : ℕ) × Selects p s q x × (t ≡ Term.Var x)) ⊎ ((x : Name) × Denotes p s q (Target.Constant x) × (t ≡ Term.Const (Symbol (place_of (symbols p) x))))
leaf_term q (Expands.variable {x = x} selects) none = inl (x, selects, refl)
leaf_term q (Expands.constant {x = x} d) none = inr (x, d, refl)
leaf_term q (Expands.read {home = h} {e = e} d x) none = absurd (none h e d)

pub next_part : {p : Program} {s : Scope} {d : ℕ} {t : Term} (e : Expr) → StandsFor p s (Expr.Next e) d t → (u : Term) × StandsFor p s e (d - 1) u × (t ≡ Term.Next u)
next_part {p} {s} {d} e x = go x.expands x.shallow x.numbers
  where
    go : {t : Term} → Expands p s (Expr.Next e) t → nesting t ≤ d → HasWrittenNumbers t → (u : Term) × StandsFor p s e (d - 1) u × (t ≡ Term.Next u)
    go (Expands.next {t = u} y) h n = (u, record { expands = y; shallow = omega (arith, h); numbers = n }, refl)

quantified_part : {p : Program} {s : Scope} {d : ℕ} {t : Term} (op : PathOp) (e : Expr) → StandsFor p s (Expr.Quant op e) d t → (u : Term) × StandsFor p s e (d - 1) u × (t ≡ Term.Quant op u)
quantified_part {p} {s} {d} op e x = go x.expands x.shallow x.numbers
  where
    go : {t : Term} → Expands p s (Expr.Quant op e) t → nesting t ≤ d → HasWrittenNumbers t → (u : Term) × StandsFor p s e (d - 1) u × (t ≡ Term.Quant op u)
    go (Expands.quantified {t = u} y) h n = (u, record { expands = y; shallow = omega (arith, h); numbers = n }, refl)

negation_part : {p : Program} {s : Scope} {d : ℕ} {t : Term} (e : Expr) → StandsFor p s (Expr.Not e) d t → (u : Term) × StandsFor p s e (d - 1) u × (t ≡ Term.Not u)
negation_part {p} {s} {d} e x = go x.expands x.shallow x.numbers
  where
    go : {t : Term} → Expands p s (Expr.Not e) t → nesting t ≤ d → HasWrittenNumbers t → (u : Term) × StandsFor p s e (d - 1) u × (t ≡ Term.Not u)
    go (Expands.negation {t = u} y) h n = (u, record { expands = y; shallow = omega (arith, h); numbers = n }, refl)

pub prefix_part : {p : Program} {s : Scope} {d : ℕ} {t : Term} (op : PrefixOperator) (e : Expr) → StandsFor p s (prefixed op e) d t → (u : Term) × StandsFor p s e (d - 1) u × (t ≡ prefix_term op u)
prefix_part PrefixOperator.Not e x = negation_part e x
prefix_part PrefixOperator.ExistsNext e x = quantified_part PathOp.EX e x
prefix_part PrefixOperator.AllNext e x = quantified_part PathOp.AX e x
prefix_part PrefixOperator.ExistsFinally e x = quantified_part PathOp.EF e x
prefix_part PrefixOperator.AllFinally e x = quantified_part PathOp.AF e x
prefix_part PrefixOperator.ExistsGlobally e x = quantified_part PathOp.EG e x
prefix_part PrefixOperator.AllGlobally e x = quantified_part PathOp.AG e x

pub binary_parts : {p : Program} {s : Scope} {d : ℕ} {t : Term} (op : BinOp) (a b : Expr) → StandsFor p s (Expr.Binary op a b) d t
    → (u : Term) × (v : Term) × StandsFor p s a (d - 1) u × StandsFor p s b (d - 1) v × (t ≡ Term.Binary op u v)
binary_parts {p} {s} {d} op a b x = go x.expands x.shallow x.numbers
  where
    go : {t : Term} → Expands p s (Expr.Binary op a b) t → nesting t ≤ d → HasWrittenNumbers t → (u : Term) × (v : Term) × StandsFor p s a (d - 1) u × StandsFor p s b (d - 1) v × (t ≡ Term.Binary op u v)
    go (Expands.binary {t = u} {u = v} y z) h n =
        (u, v, record { expands = y; shallow = omega (arith, h); numbers = n.0 }, record { expands = z; shallow = omega (arith, h); numbers = n.1 }, refl)

pub until_parts : {p : Program} {s : Scope} {d : ℕ} {t : Term} (all : Bool) (a b : Expr) → StandsFor p s (Expr.Until all a b) d t
    → (u : Term) × (v : Term) × StandsFor p s a (d - 1) u × StandsFor p s b (d - 1) v × (t ≡ Term.Until all u v)
until_parts {p} {s} {d} all a b x = go x.expands x.shallow x.numbers
  where
    go : {t : Term} → Expands p s (Expr.Until all a b) t → nesting t ≤ d → HasWrittenNumbers t → (u : Term) × (v : Term) × StandsFor p s a (d - 1) u × StandsFor p s b (d - 1) v × (t ≡ Term.Until all u v)
    go (Expands.until {t = u} {u = v} y z) h n =
        (u, v, record { expands = y; shallow = omega (arith, h); numbers = n.0 }, record { expands = z; shallow = omega (arith, h); numbers = n.1 }, refl)

pub braces_parts : {p : Program} {s : Scope} {d : ℕ} {t : Term} (es : Exprs) → StandsFor p s (Expr.Braces es) d t → (ts : Terms) × ElementsStandFor p s es (d - 1) ts × (t ≡ Term.Braces ts)
braces_parts {p} {s} {d} es x = go x.expands x.shallow x.numbers
  where
    go : {t : Term} → Expands p s (Expr.Braces es) t → nesting t ≤ d → HasWrittenNumbers t → (ts : Terms) × ElementsStandFor p s es (d - 1) ts × (t ≡ Term.Braces ts)
    go (Expands.braces {ts = ts} y) h n = (ts, record { expand = y; shallow = omega (arith, h); numbers = n }, refl)

pub case_parts : {p : Program} {s : Scope} {d : ℕ} {t : Term} (arms : Program.Arms) → StandsFor p s (Expr.Case arms) d t → (ts : Arms) × ArmsStandFor p s arms (d - 1) ts × (t ≡ Term.Case ts)
case_parts {p} {s} {d} arms x = go x.expands x.shallow x.numbers
  where
    go : {t : Term} → Expands p s (Expr.Case arms) t → nesting t ≤ d → HasWrittenNumbers t → (ts : Arms) × ArmsStandFor p s arms (d - 1) ts × (t ≡ Term.Case ts)
    go (Expands.cases {ts = ts} y) h n = (ts, record { expand = y; shallow = omega (arith, h); numbers = n }, refl)

pub binary_same : {o p : BinOp} {a b d e : Term} → o ≡ p → a ≡ b → d ≡ e → Term.Binary o a d ≡ Term.Binary p b e
binary_same f g h = cc

pub until_same : {o p : Bool} {a b d e : Term} → o ≡ p → a ≡ b → d ≡ e → Term.Until o a d ≡ Term.Until p b e
until_same f g h = cc

-- ---- calls

pub are_instances : (p : Program) {all : Instances} {paths : _} {firsts : List (Option ℕ)} → CanExpand p all paths firsts → AreInstances p all
are_instances p can = can.paths_are.targets_are.started.instances_are

pub is_kept : (p : Program) {all : Instances} {paths : _} {firsts : List (Option ℕ)} → CanExpand p all paths firsts → IsKept p
is_kept p can = kept p (are_instances p can).silent can.written

-- the node of an expression stands for the same term
pub node_stands : {p : Program} {s : Scope} {e : Expr} {end : End} {d : ℕ} {t : Term} (n : IsNodeOf p s e end) → StandsFor p s e d t → StandsFor p n.ends.scope (plain_expr end.right.now) d t
node_stands {t} n x = record { expands = n.ends.same t x.expands; shallow = x.shallow; numbers = x.numbers }

pub node_own : {p : Program} {s : Scope} {e : Expr} {end : End} (n : IsNodeOf p s e end) → IsNode p n.ends.scope (plain_expr end.right.now)
node_own n = record { bare_is = n.bare_is; last = λ q is. n.ends.last q (n.bare_is ∙ is) }

abbrev pub is_parens : Expr → Bool
is_parens (Expr.Parens e) = true
is_parens (Expr.Number n) = false
is_parens (Expr.Truth b) = false
is_parens Expr.Running = false
is_parens (Expr.At q) = false
is_parens (Expr.Next e) = false
is_parens (Expr.Braces es) = false
is_parens (Expr.Case arms) = false
is_parens (Expr.Not e) = false
is_parens (Expr.Binary op a b) = false
is_parens (Expr.Quant op e) = false
is_parens (Expr.Until all a b) = false

pub no_parens : (e : Expr) → is_parens (bare e) ≡ false
no_parens (Expr.Parens e) = no_parens e
no_parens (Expr.Number n) = refl
no_parens (Expr.Truth b) = refl
no_parens Expr.Running = refl
no_parens (Expr.At q) = refl
no_parens (Expr.Next e) = refl
no_parens (Expr.Braces es) = refl
no_parens (Expr.Case arms) = refl
no_parens (Expr.Not e) = refl
no_parens (Expr.Binary op a b) = refl
no_parens (Expr.Quant op e) = refl
no_parens (Expr.Until all a b) = refl

pub term_along : {E : Type 0} (r : Result FlatExpr E) {t u : Term} → t ≡ u → IfOk r (λ e. term_of e ≡ t) → IfOk r (λ e. term_of e ≡ u)
term_along r e h = subst (λ z. IfOk r (λ f. term_of f ≡ z)) e h

pub stands_along : {p : Program} {s : Scope} {e f : Expr} {d : ℕ} {t : Term} → e ≡ f → StandsFor p s e d t → StandsFor p s f d t
stands_along {p} {s} {d} {t} is x = subst (λ z. StandsFor p s z d t) is x

pub elements_along : {p : Program} {s : Scope} {es fs : List Held} {d : ℕ} {ts : Terms} → es ≡ fs → ElementsStandFor p s (plain_exprs es) d ts → ElementsStandFor p s (plain_exprs fs) d ts
elements_along {p} {s} {d} {ts} is x = subst (λ z. ElementsStandFor p s (plain_exprs z) d ts) is x

pub arms_along : {p : Program} {s : Scope} {es fs : List Held_arm} {d : ℕ} {ts : Arms} → es ≡ fs → ArmsStandFor p s (plain_arms es) d ts → ArmsStandFor p s (plain_arms fs) d ts
arms_along {p} {s} {d} {ts} is x = subst (λ z. ArmsStandFor p s (plain_arms z) d ts) is x

-- ---- lists

-- one member more
pub mapped_more : {A B : Type 0} (f : A → B) (ys : List B) (k : ℕ) (old new : List A) (x : A) (y : B) → new ≡ old ++ (x ∷ []) → map f old ≡ take k ys → f x ≡ y → slice_get ys k ≡ Some y → map f new ≡ take (k + 1) ys
mapped_more f ys k old new x y is before same at =
    ap (map f) is ∙ map-append f old (x ∷ []) ∙ ap (λ z. z ++ (f x ∷ [])) before ∙ ap (λ z. take k ys ++ (z ∷ [])) same ∙ sym (take_at ys k y at)

-- ---- elements

abbrev pub terms_list : Terms → List Term
terms_list Terms.none = []
terms_list (Terms.more t ts) = t ∷ terms_list ts

terms_from : List Term → Terms
terms_from [] = Terms.none
terms_from (t ∷ ts) = Terms.more t (terms_from ts)

terms_listed : (ts : Terms) → terms_from (terms_list ts) ≡ ts
unfolding terms_from
terms_listed Terms.none = refl
terms_listed (Terms.more t ts) = ap (Terms.more t) (terms_listed ts)

terms_mapped : (es : List FlatExpr) → terms_in es ≡ terms_from (map term_of es)
unfolding terms_from
terms_mapped [] = refl
terms_mapped (e ∷ es) = ap (Terms.more (term_of e)) (terms_mapped es)

pub terms_same : (es : List FlatExpr) (ts : Terms) → map term_of es ≡ terms_list ts → terms_in es ≡ ts
terms_same es ts e = terms_mapped es ∙ ap terms_from e ∙ terms_listed ts

pub element_at : {p : Program} {s : Scope} {d : ℕ} (es : List Held) (k : ℕ) (e : Held) {ts : Terms} → slice_get es k ≡ Some e → ExpandElements p s (plain_exprs es) ts → element_nesting ts ≤ d → HaveWrittenNumbers ts
    → (t : Term) × StandsFor p s (plain_expr e) d t × (slice_get (terms_list ts) k ≡ Some t)
element_at [] k e at x h n = absurd (not_some at)
element_at {p} {s} (y ∷ es) zero e at (ExpandElements.element {t = t} x rest) h n =
    (t, record { expands = subst (λ z. Expands p s (plain_expr z) t) (some_same at) x; shallow = omega (arith, h); numbers = n.0 }, refl)
element_at (y ∷ es) (suc k) e at (ExpandElements.element x rest) h n = element_at es k e at rest (omega (arith, h)) n.1

pub element_count : {p : Program} {s : Scope} (es : List Held) {ts : Terms} → ExpandElements p s (plain_exprs es) ts → length (terms_list ts) ≡ length es
element_count [] ExpandElements.last_element = refl
element_count (e ∷ es) (ExpandElements.element x rest) = ap suc (element_count es rest)

-- ---- arms

abbrev pub arms_list : Arms → List (Term × Term)
arms_list Arms.esac = []
arms_list (Arms.arm guard right rest) = (guard, right) ∷ arms_list rest

arms_from : List (Term × Term) → Arms
arms_from [] = Arms.esac
arms_from (a ∷ rest) = Arms.arm a.0 a.1 (arms_from rest)

arms_listed : (ts : Arms) → arms_from (arms_list ts) ≡ ts
unfolding arms_from
arms_listed Arms.esac = refl
arms_listed (Arms.arm guard right rest) = ap (Arms.arm guard right) (arms_listed rest)

arms_mapped : (es : List FlatArm) → arms_in es ≡ arms_from (map arm_of es)
unfolding arms_from
arms_mapped [] = refl
arms_mapped (e ∷ es) = ap (Arms.arm (term_of e.guard) (term_of e.right)) (arms_mapped es)

pub arms_same : (es : List FlatArm) (ts : Arms) → map arm_of es ≡ arms_list ts → arms_in es ≡ ts
arms_same es ts e = arms_mapped es ∙ ap arms_from e ∙ arms_listed ts

pub arm_at : {p : Program} {s : Scope} {d : ℕ} (arms : List Held_arm) (k : ℕ) (a : Held_arm) {ts : Arms} → slice_get arms k ≡ Some a → ExpandArms p s (plain_arms arms) ts → arm_nesting ts ≤ d → ArmsHaveWrittenNumbers ts
    → (t : Term) × (u : Term) × StandsFor p s (plain_expr a.guard) d t × StandsFor p s (plain_expr a.right) d u × (slice_get (arms_list ts) k ≡ Some (t, u))
arm_at [] k a at x h n = absurd (not_some at)
arm_at {p} {s} (b ∷ arms) zero a at (ExpandArms.arm {t = t} {u = u} x y rest) h n = (
  t,
  u,
  record { expands = subst (λ z. Expands p s (plain_expr z.guard) t) (some_same at) x; shallow = omega (arith, h); numbers = n.0 },
  record { expands = subst (λ z. Expands p s (plain_expr z.right) u) (some_same at) y; shallow = omega (arith, h); numbers = n.1 },
  refl,
)
arm_at (b ∷ arms) (suc k) a at (ExpandArms.arm x y rest) h n = arm_at arms k a at rest (omega (arith, h)) n.2

pub arm_count : {p : Program} {s : Scope} (arms : List Held_arm) {ts : Arms} → ExpandArms p s (plain_arms arms) ts → length (arms_list ts) ≡ length arms
arm_count [] ExpandArms.last_arm = refl
arm_count (a ∷ arms) (ExpandArms.arm x y rest) = ap suc (arm_count arms rest)

pub arm_same : (guard right : FlatExpr) {t u : Term} → term_of guard ≡ t → term_of right ≡ u → arm_of (record { guard = guard; right = right }) ≡ (t, u)
arm_same guard right {t} {u} e f = ap (λ z. let r : Term × Term = (z, term_of right) in r) e ∙ ap (λ z. let r : Term × Term = (t, z) in r) f
