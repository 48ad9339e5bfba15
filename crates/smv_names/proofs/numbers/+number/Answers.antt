use Rattle.std.proofs.lemmas.Int.{ints}
use Rattle.std.proofs.Common.{rules, arith, SFits, w64, to_z, of_z, ◌≡◌, sym, ◌∙◌, ap, subst, Some, None, true, false, pos}
use Rattle.std.specs.Prelude.{IfOk}
use Rattle.smv_parser.specs.Tree as tree
use Rattle.smv_parser.specs.View.{form, path_of}
use Rattle.smv_parser.proofs.Views.{path_form}
use Rattle.smv_instances.specs.Abstract as abstract
use Rattle.smv_instances.specs.Plain.{plain_expr}
use Rattle.smv_instances.specs.Program.{Expr}
use Rattle.smv_names.specs.Abbreviations.{mentions}
use Rattle.smv_names.specs.Values.{IsNumber, HasNumber, OperationComesTo}
use Rattle.smv_names.specs.Known.{AreNumbersIn}
use Rattle.smv_names.proofs.KnownLemmas.{operand_number, numbers_left, numbers_right}
use Rattle.smv_names.proofs.NumberLemmas.{if_ok_by, parens_is_number, number_number, truth_number, is_numberless, numberless_none, left_is_none, right_is_none, operation_is_number}
use Rattle.smv_names.proofs.numbers.+number.Goals as goal

pub returns-in_default : goal.returns-in_default
returns-in_default t c = λ p s targets at known.
    let numbers = c.args.numbers.now in
    let a = plain_expr c.in-Binary.left.value in
    let b = plain_expr c.in-Binary.right.value in
    let op = abstract.operator c.in-Binary.op in
    let whole : abstract.form_expr (form c.args.expr.now.kind) ≡ Expr.Binary op a b = ap (λ k. abstract.form_expr (form k)) c.in-Binary.is in
    let first : c.deref-in-Binary.result.now ≡ c.in-Binary.left.value = search rules in
    let parts : AreNumbersIn p numbers s (mentions (Expr.Binary op a b)) = subst (λ z. AreNumbersIn p numbers s (mentions z)) whole known in
    let left : IsNumber p s a None = operand_number p numbers s c.deref-in-Binary.result.now c.in-Binary.left.value c.in_ok-x-in-Binary.field-0 None first c.in_default.is (numbers_left p numbers s (mentions a) (mentions b) parts) (c.in_ok-x-in-Binary.ensures p s targets at) in
    subst (λ z. IsNumber p s z None) (sym whole) (left_is_none p s op a b left)

pub returns-in_default-2 : goal.returns-in_default-2
returns-in_default-2 t c = λ p s targets at known.
    let numbers = c.args.numbers.now in
    let a = plain_expr c.in-Binary.left.value in
    let b = plain_expr c.in-Binary.right.value in
    let op = abstract.operator c.in-Binary.op in
    let whole : abstract.form_expr (form c.args.expr.now.kind) ≡ Expr.Binary op a b = ap (λ k. abstract.form_expr (form k)) c.in-Binary.is in
    let second : c.deref-in-Binary-2.result.now ≡ c.in-Binary.right.value = search rules in
    let parts : AreNumbersIn p numbers s (mentions (Expr.Binary op a b)) = subst (λ z. AreNumbersIn p numbers s (mentions z)) whole known in
    let right : IsNumber p s b None = operand_number p numbers s c.deref-in-Binary-2.result.now c.in-Binary.right.value c.in_ok-y-in-Binary.field-0 None second c.in_default-2.is (numbers_right p numbers s (mentions a) (mentions b) parts) (c.in_ok-y-in-Binary.ensures p s targets at) in
    subst (λ z. IsNumber p s z None) (sym whole) (right_is_none p s op a b right)

pub returns-in-Number : goal.returns-in-Number
returns-in-Number t c = λ p s targets at known.
    let fits : SFits w64 c.from.result = search rules in
    let number : c.from.result ≡ pos c.in-Number.n = search rules in
    let same : to_z w64 (of_z w64 c.from.result) ≡ pos c.in-Number.n = omega (arith, ints) in
    subst (λ z. HasNumber p s (abstract.form_expr (form c.args.expr.now.kind)) z) (sym same)
    (subst (λ k. HasNumber p s (abstract.form_expr (form k)) (pos c.in-Number.n)) (sym c.in-Number.is) (number_number c.in-Number.n))

pub returns-then-truth : goal.returns-then-truth
returns-then-truth t c = λ p s targets at known.
    subst (λ k. HasNumber p s (abstract.form_expr (form k)) (pos 1)) (sym c.in-Truth.is) (subst (λ b. HasNumber p s (Expr.Truth b) (pos 1)) (sym c.if-truth.true) (truth_number true))

pub returns-else-truth : goal.returns-else-truth
returns-else-truth t c = λ p s targets at known.
    subst (λ k. HasNumber p s (abstract.form_expr (form k)) (pos 0)) (sym c.in-Truth.is) (subst (λ b. HasNumber p s (Expr.Truth b) (pos 0)) (sym c.if-truth.false) (truth_number false))

pub returns-in-Path : goal.returns-in-Path
returns-in-Path t c = λ p s targets at known.
    let kind : form c.args.expr.now.kind ≡ tree.Form.path (path_of c.in-Path.path) = ap (λ z. form z) c.in-Path.is ∙ path_form c.in-Path.path in
    subst (λ z. IfOk c.path_number.result (IsNumber p s (abstract.form_expr z))) (sym kind)
    (c.path_number.ensures p s targets at (subst (λ z. AreNumbersIn p c.args.numbers.now s (mentions (abstract.form_expr z))) kind known))

pub returns-in-Parens : goal.returns-in-Parens
returns-in-Parens t c = λ p s targets at known.
    let numbers = c.args.numbers.now in
    let inner = plain_expr c.in-Parens.inner.value in
    let same : c.deref.result.now ≡ c.in-Parens.inner.value = search rules in
    let whole : abstract.form_expr (form c.args.expr.now.kind) ≡ Expr.Parens inner = ap (λ k. abstract.form_expr (form k)) c.in-Parens.is in
    let parts : AreNumbersIn p numbers s (mentions inner) = subst (λ z. AreNumbersIn p numbers s (mentions z)) whole known in
    let found : IfOk c.number.result (IsNumber p s inner) = subst (λ z. AreNumbersIn p numbers s (mentions (plain_expr z)) → IfOk c.number.result (IsNumber p s (plain_expr z))) same (c.number.ensures p s targets at) parts in
    subst (λ z. IfOk c.number.result (IsNumber p s z)) (sym whole) (if_ok_by c.number.result (λ o h. parens_is_number p s inner o h) found)

pub returns-in-Some-2 : goal.returns-in-Some-2
returns-in-Some-2 t c = λ p s targets at known.
    let numbers = c.args.numbers.now in
    let a = plain_expr c.in-Binary.left.value in
    let b = plain_expr c.in-Binary.right.value in
    let op = abstract.operator c.in-Binary.op in
    let whole : abstract.form_expr (form c.args.expr.now.kind) ≡ Expr.Binary op a b = ap (λ k. abstract.form_expr (form k)) c.in-Binary.is in
    let first : c.deref-in-Binary.result.now ≡ c.in-Binary.left.value = search rules in
    let second : c.deref-in-Binary-2.result.now ≡ c.in-Binary.right.value = search rules in
    let parts : AreNumbersIn p numbers s (mentions (Expr.Binary op a b)) = subst (λ z. AreNumbersIn p numbers s (mentions z)) whole known in
    let left : HasNumber p s a c.in-Some.x = operand_number p numbers s c.deref-in-Binary.result.now c.in-Binary.left.value c.in_ok-x-in-Binary.field-0 (Some c.in-Some.x) first c.in-Some.is (numbers_left p numbers s (mentions a) (mentions b) parts) (c.in_ok-x-in-Binary.ensures p s targets at) in
    let right : HasNumber p s b c.in-Some-2.y = operand_number p numbers s c.deref-in-Binary-2.result.now c.in-Binary.right.value c.in_ok-y-in-Binary.field-0 (Some c.in-Some-2.y) second c.in-Some-2.is (numbers_right p numbers s (mentions a) (mentions b) parts) (c.in_ok-y-in-Binary.ensures p s targets at) in
    let fits_x : SFits w64 c.in-Some.x = search rules in
    let fits_y : SFits w64 c.in-Some-2.y = search rules in
    let same_x : to_z w64 (of_z w64 c.in-Some.x) ≡ c.in-Some.x = omega (arith, ints) in
    let same_y : to_z w64 (of_z w64 c.in-Some-2.y) ≡ c.in-Some-2.y = omega (arith, ints) in
    let comes : OperationComesTo op c.in-Some.x c.in-Some-2.y c.operate.result =
    subst (λ z. OperationComesTo op z c.in-Some-2.y c.operate.result) same_x (subst (λ z. OperationComesTo op (to_z w64 (of_z w64 c.in-Some.x)) z c.operate.result) same_y c.operate.ensures) in
    subst (λ z. IsNumber p s z c.operate.result) (sym whole) (operation_is_number p s op a b c.in-Some.x c.in-Some-2.y c.operate.result left right comes)

pub returns-in-Running : goal.returns-in-Running
returns-in-Running t c = λ p s targets at known n h. numberless_none p s (form c.args.expr.now.kind) (ap (λ k. is_numberless (form k)) c.in-Running.is) n h

pub returns-in-Next : goal.returns-in-Next
returns-in-Next t c = λ p s targets at known n h. numberless_none p s (form c.args.expr.now.kind) (ap (λ k. is_numberless (form k)) c.in-Next.is) n h

pub returns-in-Braces : goal.returns-in-Braces
returns-in-Braces t c = λ p s targets at known n h. numberless_none p s (form c.args.expr.now.kind) (ap (λ k. is_numberless (form k)) c.in-Braces.is) n h

pub returns-in-Case : goal.returns-in-Case
returns-in-Case t c = λ p s targets at known n h. numberless_none p s (form c.args.expr.now.kind) (ap (λ k. is_numberless (form k)) c.in-Case.is) n h

pub returns-in-Until : goal.returns-in-Until
returns-in-Until t c = λ p s targets at known n h. numberless_none p s (form c.args.expr.now.kind) (ap (λ k. is_numberless (form k)) c.in-Until.is) n h

pub returns-in-Prefix : goal.returns-in-Prefix
returns-in-Prefix t c = λ p s targets at known n h. numberless_none p s (form c.args.expr.now.kind) (ap (λ k. is_numberless (form k)) c.in-Prefix.is) n h
