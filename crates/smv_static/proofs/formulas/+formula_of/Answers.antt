use Rattle.std.proofs.Common.{◌≡◌, true, sym, ◌∙◌, ap}
use Rattle.kripke_model.specs.declared.expressions.Expr.{Expr}
use Rattle.kripke_model.specs.Ctl.{formula_of}
use Rattle.kripke_model.specs.Reading.{term_of}
use Rattle.kripke_model.specs.Static.{is_formula, is_connective}
use Rattle.kripke_model.specs.Term.{Term}
use Rattle.kripke_model.specs.WellFormed.{ctl_of}
use Rattle.smv_static.specs.Leaves.{negation, joined}
use Rattle.smv_static.proofs.ResultLemmas.{if_ok}
use Rattle.smv_static.proofs.FormulaLemmas.{negation_is, joined_is, connective_parts}
use Rattle.smv_static.proofs.formulas.+formula_of.Goals as goal

pub returns-in_ok-formula_of-in-Not : goal.returns-in_ok-formula_of-in-Not
returns-in_ok-formula_of-in-Not t c =
    let e : Term = term_of c.in-Not.e.value in
    let whole : term_of c.args.expr.now ≡ Term.Not e = ap term_of c.in-Not.is in
    let inner : ctl_of c.in_ok-formula_of-in-Not.field-0 ≡ formula_of e = c.in_ok-formula_of-in-Not.ensures ∙ ap (λ (x : Expr). formula_of (term_of x)) c.deref.ensures in
    let allowed : is_formula e ≡ true = sym (ap is_formula whole) ∙ c.requires in
    if_ok c.negated.result (λ f h. h ∙ ap negation inner ∙ negation_is e allowed ∙ sym (ap formula_of whole)) c.negated.ensures

pub returns-in_ok-g-in-Binary : goal.returns-in_ok-g-in-Binary
returns-in_ok-g-in-Binary t c =
    let op = c.in-Binary.op in
    let a : Term = term_of c.in-Binary.a.value in
    let b : Term = term_of c.in-Binary.b.value in
    let whole : term_of c.args.expr.now ≡ Term.Binary op a b = ap term_of c.in-Binary.is in
    let left : ctl_of c.in_ok-f-in-Binary.f ≡ formula_of a = c.in_ok-f-in-Binary.ensures ∙ ap (λ (x : Expr). formula_of (term_of x)) c.deref-then-connects.ensures in
    let right : ctl_of c.in_ok-g-in-Binary.g ≡ formula_of b = c.in_ok-g-in-Binary.ensures ∙ ap (λ (x : Expr). formula_of (term_of x)) c.deref-then-connects-2.ensures in
    let k : is_connective op ≡ true = sym c.connects.ensures ∙ c.if-connects.true in
    let parts = connective_parts op a b k (sym (ap is_formula whole) ∙ c.requires) in
    if_ok c.joined.result (λ f h.
    h ∙ (λ i. joined op (left i) (right i)) ∙ joined_is op a b k parts.0 parts.1 ∙ sym (ap formula_of whole)) c.joined.ensures
