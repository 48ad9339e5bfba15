use Rattle.std.proofs.Common.{◌≡◌, ◌↔◌, ◌-◌, get_or, sym, ◌∙◌, ap, subst, arith}
use Rattle.kripke_model.specs.WellFormed.{ctl_of}
use Rattle.proof_form.specs.Preorder.{node_views}
use Rattle.proof_form.specs.Shape.{HasConstraintRule, HasRule}
use Rattle.proof_form.proofs.Tables.{constraint_there, table_at, table_count}
use Rattle.proof_form.proofs.free_shapes.has_constraint_rule.Goals as goal

pub has_rule-requires : goal.has_rule-requires
has_rule-requires g c =
    ap node_views c.deref.ensures.value
    ∙ table_at c.args.formulas.now c.args.tables.now (c.free.inside.constraint - 1) c.index-formulas-number.result c.index-tables-number.result c.requires.tables
    (omega (arith, c.if-number-eq0.false, c.if-number-tables.false)) c.index-formulas-number.is c.index-tables-number.is

pub returns : goal.returns
returns g c =
    let e = c.args.free.now in
    let f = c.index-formulas-number.result in
    let same : c.free.inside.constraint ≡ e.constraint = λ i. (c.free.view_is i).constraint in
    let entry : c.free.inside.entry ≡ e.entry = λ i. (c.free.view_is i).entry in
    let there : HasRule (ctl_of f) e.entry ↔ HasConstraintRule c.args.model.now e =
    constraint_there c.args.model.now c.args.formulas.now c.requires.formulas e f (omega (arith, same, c.if-number-eq0.false))
    (omega (arith, same, c.if-number-tables.false, table_count c.args.formulas.now c.args.tables.now c.requires.tables))
    (c.index-formulas-number.is ∙ ap (λ k. get_or c.args.formulas.now (k - 1) f) same) in (
      λ h. there.0 (subst (λ x. HasRule (ctl_of f) x) entry (c.has_rule.ensures.0 h)),
      λ h. c.has_rule.ensures.1 (subst (λ x. HasRule (ctl_of f) x) (sym entry) (there.1 h)),
    )
