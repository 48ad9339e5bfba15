-- The number of an expression by the numbers of its parts.
use Rattle.std.proofs.Common.{◌≡◌, refl, sym, ◌∙◌, ap, subst, ℕ, List, [], ◌∷◌, Bool, true, false, Some, None, Option, ◌⊎◌, inl, inr, ℤ, pos}
use Rattle.std.specs.Prelude.{cond, if◌then◌else◌, ◌&&◌, Ok, Err, IsTrue, IfOk, Result, negsuc, ◌+ℤ◌, ◌-ℤ◌, ◌*ℤ◌, int_div, int_rem, int_le}
use Rattle.std.specs.Ordering.{int_eq}
use Rattle.kripke_model.specs.declared.expressions.Value.{Value}
use Rattle.kripke_model.specs.declared.expressions.Value.TheVariants.{Number, Symbol}
use Rattle.kripke_model.specs.declared.expressions.BinOp.{BinOp}
use Rattle.kripke_model.specs.declared.expressions.FaultKind.{FaultKind}
use Rattle.kripke_model.specs.Term.{Term}
use Rattle.kripke_model.specs.declared.expressions.PathOp.{PathOp}
use Rattle.kripke_model.specs.Evaluation.{Checked, eval, binary, in_range}
use Rattle.smv_parser.specs.declared.expressions.PrefixOperator.{PrefixOperator}
use Rattle.smv_parser.specs.Tree as tree
use Rattle.smv_instances.specs.Abstract as abstract
use Rattle.smv_instances.specs.Program.{Expr, Exprs, Path, Program}
use Rattle.smv_instances.specs.Program
use Rattle.smv_instances.specs.Instances.{Scope}
use Rattle.smv_names.specs.Abbreviations.{Abbreviation, text_of, Names}
use Rattle.smv_names.specs.Expands.{is_number, is_arithmetic, is_sum_or_product, no_system, Expands}
use Rattle.smv_names.specs.Values.{HasNumber, IsNumber, Gives, OperationComesTo}
use Rattle.smv_names.proofs.Once.{expands_one}
use Rattle.smv_names.proofs.NamedLemmas.{text_of_named, named_of_text, leaf_of_named, to_bare, of_bare}
use Rattle.smv_names.specs.Denotes.{bare}

not_true : false ≡ true → ⊥
not_true e = subst (λ b. cond b ⊥ (Unit {0})) e tt

-- ---- arithmetic terms have a number or a fault

abbrev Numbered : Checked (List Value) → Type 0
Numbered c = ((n : ℤ) × (c ≡ Ok (Number n ∷ []))) ⊎ ((kind : FaultKind) × (c ≡ Err kind))

abbrev is_ok : Checked (List Value) → Bool
is_ok (Ok vs) = true
is_ok (Err kind) = false

value_numbered : (v : Value) → IsTrue (is_number v) → Numbered (Ok (v ∷ []))
value_numbered (Number i) h = inl (i, refl)
value_numbered (Symbol c) h = absurd (not_true h)

both_true : (a b : Bool) → IsTrue (a && b) → IsTrue a × IsTrue b
both_true true b h = (refl, h)
both_true false b h = absurd (not_true h)

-- a fault of an operand is one of the operation
left_fault : (op : BinOp) → IsTrue (is_sum_or_product op) → (kind : FaultKind) (y : Checked (List Value)) → binary op (Err kind) y ≡ Err kind
left_fault BinOp.Mul h kind y = refl
left_fault BinOp.Div h kind y = refl
left_fault BinOp.Add h kind y = refl
left_fault BinOp.Sub h kind y = refl
left_fault BinOp.Mod h kind y = refl
left_fault op h kind y = absurd (not_true h)

right_fault : (op : BinOp) → IsTrue (is_sum_or_product op) → (n : ℤ) (kind : FaultKind) → binary op (Ok (Number n ∷ [])) (Err kind) ≡ Err kind
right_fault BinOp.Mul h n kind = refl
right_fault BinOp.Div h n kind = refl
right_fault BinOp.Add h n kind = refl
right_fault BinOp.Sub h n kind = refl
right_fault BinOp.Mod h n kind = refl
right_fault op h n kind = absurd (not_true h)

abbrev number_or : ℤ → Checked (List Value) → ℤ
number_or d (Ok (Number n ∷ [])) = n
number_or d other = d

-- ---- operations

pub number_number : {p : Program} {s : Scope} (n : ℕ) → HasNumber p s (Expr.Number n) (pos n)
number_number n = record { term = Term.Const (Number (pos n)); expands = Expands.number; arithmetic = refl; value = refl }

pub truth_number : {p : Program} {s : Scope} (b : Bool) → HasNumber p s (Expr.Truth b) (cond b (pos 1) (pos 0))
truth_number true = record { term = Term.Const (Number (pos 1)); expands = Expands.truth {b = true}; arithmetic = refl; value = refl }
truth_number false = record { term = Term.Const (Number (pos 0)); expands = Expands.truth {b = false}; arithmetic = refl; value = refl }

arithmetic_binary : (op : BinOp) (t u : Term) → IsTrue (is_sum_or_product op) → IsTrue (is_arithmetic t) → IsTrue (is_arithmetic u) → IsTrue (is_arithmetic (Term.Binary op t u))
arithmetic_binary op t u a b c = ap (λ z. z && is_arithmetic t && is_arithmetic u) a ∙ ap (λ z. z && is_arithmetic u) b ∙ c

pub binary_number : {p : Program} {s : Scope} (op : BinOp) (a b : Expr) (i j n : ℤ) → HasNumber p s a i → HasNumber p s b j → Gives op i j n → HasNumber p s (Expr.Binary op a b) n
binary_number op a b i j n x y g = record {
  term = Term.Binary op x.term y.term;
  expands = Expands.binary x.expands y.expands;
  arithmetic = arithmetic_binary op x.term y.term g.0 x.arithmetic y.arithmetic;
  value = ap (λ z. binary op z (eval no_system y.term [] [])) x.value ∙ ap (λ z. binary op (Ok (Number i ∷ [])) z) y.value ∙ g.1;
}

pub number_one : {p : Program} {s : Scope} {e : Expr} {i j : ℤ} → HasNumber p s e i → HasNumber p s e j → i ≡ j
number_one {i = i} x y = ap (number_or i) (sym x.value ∙ ap (λ z. eval no_system z [] []) (expands_one x.expands y.expands) ∙ y.value)

pub parens_number : {p : Program} {s : Scope} {e : Expr} {n : ℤ} → HasNumber p s e n → HasNumber p s (Expr.Parens e) n
parens_number x = record { term = x.term; expands = Expands.parens x.expands; arithmetic = x.arithmetic; value = x.value }

-- ---- what an operation's number comes from

bound_numbered : (b : Bool) (i : ℤ) → Numbered (if b then Ok (Number i ∷ []) else Err FaultKind.Overflow)
bound_numbered true i = inl (i, refl)
bound_numbered false i = inr (FaultKind.Overflow, refl)

range_numbered : (i : ℤ) → Numbered (in_range i)
range_numbered i = bound_numbered (int_le (negsuc 2147483647) i && int_le i (pos 2147483647)) i

unless_zero : (b : Bool) (c : Checked (List Value)) → Numbered c → Numbered (if b then Err FaultKind.ZeroDivisor else c)
unless_zero true c h = inr (FaultKind.ZeroDivisor, refl)
unless_zero false c h = h

operation_numbered : (op : BinOp) → IsTrue (is_sum_or_product op) → (i j : ℤ) → Numbered (binary op (Ok (Number i ∷ [])) (Ok (Number j ∷ [])))
operation_numbered BinOp.Mul h i j = range_numbered (i *ℤ j)
operation_numbered BinOp.Div h i j = unless_zero (int_eq j (pos 0)) (in_range (int_div i j)) (range_numbered (int_div i j))
operation_numbered BinOp.Add h i j = range_numbered (i +ℤ j)
operation_numbered BinOp.Sub h i j = range_numbered (i -ℤ j)
operation_numbered BinOp.Mod h i j = unless_zero (int_eq j (pos 0)) (in_range (int_rem i j)) (range_numbered (int_rem i j))
operation_numbered op h i j = absurd (not_true h)

numbered_along : {c d : Checked (List Value)} → c ≡ d → Numbered d → Numbered c
numbered_along e h = subst Numbered (sym e) h

operands_numbered : (op : BinOp) → IsTrue (is_sum_or_product op) → (x y : Checked (List Value)) → Numbered x → Numbered y → Numbered (binary op x y)
operands_numbered op h x y (inr (kind, e)) v = inr (kind, ap (λ z. binary op z y) e ∙ left_fault op h kind y)
operands_numbered op h x y (inl (i, e)) (inr (kind, f)) = inr (kind, ap (λ z. binary op z y) e ∙ ap (λ z. binary op (Ok (Number i ∷ [])) z) f ∙ right_fault op h i kind)
operands_numbered op h x y (inl (i, e)) (inl (j, f)) =
    numbered_along (ap (λ z. binary op z y) e ∙ ap (λ z. binary op (Ok (Number i ∷ [])) z) f) (operation_numbered op h i j)

arithmetic_numbered : (t : Term) → IsTrue (is_arithmetic t) → Numbered (eval no_system t [] [])
arithmetic_numbered (Term.Const v) h = value_numbered v h
arithmetic_numbered (Term.Binary op a b) h =
    let outer = both_true (is_sum_or_product op && is_arithmetic a) (is_arithmetic b) h in
    let inner = both_true (is_sum_or_product op) (is_arithmetic a) outer.0 in
    operands_numbered op inner.0 (eval no_system a [] []) (eval no_system b [] []) (arithmetic_numbered a inner.1) (arithmetic_numbered b outer.1)
arithmetic_numbered other h = absurd (not_true h)

-- the parts of an operation that has a number
pub record HasParts (p : Program) (s : Scope) (op : BinOp) (a b : Expr) (n : ℤ) : Type 0 where
  pub i : ℤ
  pub j : ℤ
  pub left : HasNumber p s a i
  pub right : HasNumber p s b j
  pub gives : Gives op i j n

faults_not : {kind : FaultKind} {vs : List Value} {c : Checked (List Value)} → c ≡ Err kind → c ≡ Ok vs → ⊥
faults_not e f = not_true (ap is_ok (sym e ∙ f))

parts_of_operands : {p : Program} {s : Scope} {op : BinOp} {a b : Expr} {t u : Term} {n : ℤ} → Expands p s a t → Expands p s b u → IsTrue (is_sum_or_product op) → IsTrue (is_arithmetic t) → IsTrue (is_arithmetic u)
    → eval no_system (Term.Binary op t u) [] [] ≡ Ok (Number n ∷ []) → Numbered (eval no_system t [] []) → Numbered (eval no_system u [] []) → HasParts p s op a b n
parts_of_operands {op = op} {u = u} x y h k l v (inr (kind, e)) w = absurd (faults_not (ap (λ z. binary op z (eval no_system u [] [])) e ∙ left_fault op h kind (eval no_system u [] [])) v)
parts_of_operands {op = op} {u = u} x y h k l v (inl (i, e)) (inr (kind, f)) =
    absurd (faults_not (ap (λ z. binary op z (eval no_system u [] [])) e ∙ ap (λ z. binary op (Ok (Number i ∷ [])) z) f ∙ right_fault op h i kind) v)
parts_of_operands {op = op} {t = t} {u = u} x y h k l v (inl (i, e)) (inl (j, f)) = record {
  i = i;
  j = j;
  left = record { term = t; expands = x; arithmetic = k; value = e };
  right = record { term = u; expands = y; arithmetic = l; value = f };
  gives = (h, sym (ap (λ z. binary op z (eval no_system u [] [])) e ∙ ap (λ z. binary op (Ok (Number i ∷ [])) z) f) ∙ v);
}

pub binary_parts : {p : Program} {s : Scope} (op : BinOp) (a b : Expr) (n : ℤ) → HasNumber p s (Expr.Binary op a b) n → HasParts p s op a b n
binary_parts {p} {s} op a b n x = go x.expands x.arithmetic x.value
  where
    go : {t : Term} → Expands p s (Expr.Binary op a b) t → IsTrue (is_arithmetic t) → eval no_system t [] [] ≡ Ok (Number n ∷ []) → HasParts p s op a b n
    go (Expands.binary {t = t} {u = u} y z) h v =
        let outer = both_true (is_sum_or_product op && is_arithmetic t) (is_arithmetic u) h in
        let inner = both_true (is_sum_or_product op) (is_arithmetic t) outer.0 in
        parts_of_operands y z inner.0 inner.1 outer.1 v (arithmetic_numbered t inner.1) (arithmetic_numbered u outer.1)

-- ---- expressions without a number

pub running_none : {p : Program} {s : Scope} (n : ℤ) → HasNumber p s Expr.Running n → ⊥
running_none {p} {s} n x = go x.expands x.arithmetic
  where
    go : {t : Term} → Expands p s Expr.Running t → IsTrue (is_arithmetic t) → ⊥
    go Expands.running h = not_true h

pub next_none : {p : Program} {s : Scope} (e : Expr) (n : ℤ) → HasNumber p s (Expr.Next e) n → ⊥
next_none {p} {s} e n x = go x.expands x.arithmetic
  where
    go : {t : Term} → Expands p s (Expr.Next e) t → IsTrue (is_arithmetic t) → ⊥
    go (Expands.next y) h = not_true h

pub braces_none : {p : Program} {s : Scope} (es : Exprs) (n : ℤ) → HasNumber p s (Expr.Braces es) n → ⊥
braces_none {p} {s} es n x = go x.expands x.arithmetic
  where
    go : {t : Term} → Expands p s (Expr.Braces es) t → IsTrue (is_arithmetic t) → ⊥
    go (Expands.braces y) h = not_true h

pub case_none : {p : Program} {s : Scope} (arms : Program.Arms) (n : ℤ) → HasNumber p s (Expr.Case arms) n → ⊥
case_none {p} {s} arms n x = go x.expands x.arithmetic
  where
    go : {t : Term} → Expands p s (Expr.Case arms) t → IsTrue (is_arithmetic t) → ⊥
    go (Expands.cases y) h = not_true h

pub until_none : {p : Program} {s : Scope} (all : Bool) (a b : Expr) (n : ℤ) → HasNumber p s (Expr.Until all a b) n → ⊥
until_none {p} {s} all a b n x = go x.expands x.arithmetic
  where
    go : {t : Term} → Expands p s (Expr.Until all a b) t → IsTrue (is_arithmetic t) → ⊥
    go (Expands.until y z) h = not_true h

not_none : {p : Program} {s : Scope} (e : Expr) (n : ℤ) → HasNumber p s (Expr.Not e) n → ⊥
not_none {p} {s} e n x = go x.expands x.arithmetic
  where
    go : {t : Term} → Expands p s (Expr.Not e) t → IsTrue (is_arithmetic t) → ⊥
    go (Expands.negation y) h = not_true h

quantified_none : {p : Program} {s : Scope} (op : PathOp) (e : Expr) (n : ℤ) → HasNumber p s (Expr.Quant op e) n → ⊥
quantified_none {p} {s} op e n x = go x.expands x.arithmetic
  where
    go : {t : Term} → Expands p s (Expr.Quant op e) t → IsTrue (is_arithmetic t) → ⊥
    go (Expands.quantified y) h = not_true h

pub prefix_none : {p : Program} {s : Scope} (op : PrefixOperator) (e : Expr) (n : ℤ) → HasNumber p s (abstract.prefixed op e) n → ⊥
prefix_none PrefixOperator.Not e n x = not_none e n x
prefix_none PrefixOperator.ExistsNext e n x = quantified_none PathOp.EX e n x
prefix_none PrefixOperator.AllNext e n x = quantified_none PathOp.AX e n x
prefix_none PrefixOperator.ExistsFinally e n x = quantified_none PathOp.EF e n x
prefix_none PrefixOperator.AllFinally e n x = quantified_none PathOp.AF e n x
prefix_none PrefixOperator.ExistsGlobally e n x = quantified_none PathOp.EG e n x
prefix_none PrefixOperator.AllGlobally e n x = quantified_none PathOp.AG e n x

-- ---- parentheses and paths

parens_parts : {p : Program} {s : Scope} {e : Expr} {n : ℤ} → HasNumber p s (Expr.Parens e) n → HasNumber p s e n
parens_parts {p} {s} {e} {n} x = go x.expands x.arithmetic x.value
  where
    go : {t : Term} → Expands p s (Expr.Parens e) t → IsTrue (is_arithmetic t) → eval no_system t [] [] ≡ Ok (Number n ∷ []) → HasNumber p s e n
    go (Expands.parens {t = t} y) h v = record { term = t; expands = y; arithmetic = h; value = v }

-- what has the same terms has the same number
number_along : {p : Program} {s h : Scope} {e f : Expr} {n : ℤ} → ((t : Term) → Expands p s e t → Expands p h f t) → HasNumber p s e n → HasNumber p h f n
number_along go x = record { term = x.term; expands = go x.term x.expands; arithmetic = x.arithmetic; value = x.value }

pub numbers_along : {p : Program} {s h : Scope} {e f : Expr} (found : Option ℤ) → ((t : Term) → Expands p s e t → Expands p h f t) → ((t : Term) → Expands p h f t → Expands p s e t) → IsNumber p s e found → IsNumber p h f found
numbers_along None go back none = λ n x. none n (number_along back x)
numbers_along (Some n) go back some = number_along go some

pub parens_is_number : (p : Program) (s : Scope) (e : Expr) (found : Option ℤ) → IsNumber p s e found → IsNumber p s (Expr.Parens e) found
parens_is_number p s e None none = λ n x. none n (parens_parts x)
parens_is_number p s e (Some n) some = parens_number some

pub bare_is_number : (p : Program) (s : Scope) (e : Expr) (found : Option ℤ) → IsNumber p s e found → IsNumber p s (bare e) found
bare_is_number p s e found is = numbers_along found (λ t x. to_bare x) (λ t x. of_bare e x) is

pub named_is_number : (p : Program) (s : Scope) (q : Path) (a : Abbreviation) {h : Scope} {e : Expr} (found : Option ℤ) → Names p s q a → text_of a ≡ Some (h, e) → IsNumber p h e found → IsNumber p s (Expr.At q) found
named_is_number p s q a found n is x = numbers_along found (λ t y. named_of_text p s q a n is y) (λ t y. text_of_named p s q a n is y) x

pub leaf_is_number : (p : Program) (s : Scope) (q : Path) → ((a : Abbreviation) → Names p s q a → text_of a ≡ None) → (n : ℤ) → HasNumber p s (Expr.At q) n → ⊥
leaf_is_number p s q none n x = not_true (sym (leaf_of_named p s q none x.expands).no_number ∙ x.arithmetic)

-- ---- an operation by its operands

pub left_is_none : (p : Program) (s : Scope) (op : BinOp) (a b : Expr) → IsNumber p s a None → IsNumber p s (Expr.Binary op a b) None
left_is_none p s op a b none = λ n x. let parts = binary_parts op a b n x in none parts.i parts.left

pub right_is_none : (p : Program) (s : Scope) (op : BinOp) (a b : Expr) → IsNumber p s b None → IsNumber p s (Expr.Binary op a b) None
right_is_none p s op a b none = λ n x. let parts = binary_parts op a b n x in none parts.j parts.right

pub operation_is_number : (p : Program) (s : Scope) (op : BinOp) (a b : Expr) (i j : ℤ) (found : Option ℤ) → HasNumber p s a i → HasNumber p s b j → OperationComesTo op i j found → IsNumber p s (Expr.Binary op a b) found
operation_is_number p s op a b i j None x y none = λ n h.
    let parts = binary_parts op a b n h in
    none n (subst (λ z. Gives op z j n) (number_one parts.left x) (subst (λ z. Gives op parts.i z n) (number_one parts.right y) parts.gives))
operation_is_number p s op a b i j (Some n) x y gives = binary_number op a b i j n x y gives

pub if_ok_by : {A E : Type 0} {P Q : A → Type 0} (r : Result A E) → ((x : A) → P x → Q x) → IfOk r P → IfOk r Q
if_ok_by (Ok x) f h = f x h
if_ok_by (Err e) f h = tt

-- a form that is no arithmetic
abbrev pub is_numberless : tree.Form → Bool
is_numberless (tree.Form.number n) = false
is_numberless (tree.Form.truth b) = false
is_numberless (tree.Form.path q) = false
is_numberless (tree.Form.parens e) = false
is_numberless (tree.Form.binary op a b) = false
is_numberless tree.Form.running = true
is_numberless (tree.Form.next e) = true
is_numberless (tree.Form.braces es) = true
is_numberless (tree.Form.cases arms) = true
is_numberless (tree.Form.until q a b) = true
is_numberless (tree.Form.prefix op e) = true

pub numberless_none : (p : Program) (s : Scope) (f : tree.Form) → is_numberless f ≡ true → (n : ℤ) → HasNumber p s (abstract.form_expr f) n → ⊥
numberless_none p s (tree.Form.number m) is n h = not_true is
numberless_none p s (tree.Form.truth b) is n h = not_true is
numberless_none p s (tree.Form.path q) is n h = not_true is
numberless_none p s (tree.Form.parens e) is n h = not_true is
numberless_none p s (tree.Form.binary op a b) is n h = not_true is
numberless_none p s tree.Form.running is n h = running_none n h
numberless_none p s (tree.Form.next e) is n h = next_none (abstract.expr e) n h
numberless_none p s (tree.Form.braces es) is n h = braces_none (abstract.exprs es) n h
numberless_none p s (tree.Form.cases arms) is n h = case_none (abstract.arms arms) n h
numberless_none p s (tree.Form.until q a b) is n h = until_none (abstract.is_all q) (abstract.expr a) (abstract.expr b) n h
numberless_none p s (tree.Form.prefix op e) is n h = prefix_none op (abstract.expr e) n h
