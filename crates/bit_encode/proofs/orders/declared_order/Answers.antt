use Rattle.std.proofs.Common.{◌≡◌, ◌∷◌, [], ◌++◌, ℕ, List, ◌∙◌, sym, ap, subst, arith}
use Rattle.bit_encode.specs.Code.{IsOrder, declared}
use Rattle.bit_encode.proofs.Declared.{declared_more, declared_names}
use Rattle.bit_encode.proofs.orders.declared_order.Goals as goal

pub loop-var-preserved : goal.loop-var-preserved
loop-var-preserved c =
    let push = c.in_ok-push.ensures.items in
    push ∙ ap (λ (xs : List ℕ). xs ++ c.loop-var.var ∷ []) c.loop-var.invariant ∙ sym (declared_more c.loop-var.var)

pub returns-clause-names : goal.returns-clause-names
returns-clause-names c =
    let all : c.loop-var.var ≡ c.args.count = omega (arith, c.loop-var-test.false, c.loop-var.auto.var-end) in
    subst (λ (xs : List ℕ). IsOrder c.args.count xs) (sym (c.loop-var.invariant ∙ ap declared all)) (declared_names c.args.count)
