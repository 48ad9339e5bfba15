use Rattle.std.proofs.Common.{◌≤◌, length, sym, ◌∙◌}
use Rattle.proof_form.proofs.ShapeOrder.{stands_through}
use Rattle.proof_form.specs.Shape.{StandsBefore}
use Rattle.proof_text.proofs.Risings.{some_there, all_before, last_before}
use Rattle.proof_text.proofs.free_heads.stands_last.Goals as goal

pub returns : goal.returns
returns c =
    let some : 1 ≤ length c.args.earlier.now = some_there c.args.earlier.now (sym c.is_empty.ensures ∙ c.if-is_empty.false) in (
      λ h. all_before StandsBefore c.args.earlier.now c.index-earlier-earlier.result c.args.entry.now some c.index-earlier-earlier.is stands_through c.requires (c.stands_before.ensures.0 h),
      λ all. c.stands_before.ensures.1 (last_before StandsBefore c.args.earlier.now c.index-earlier-earlier.result c.args.entry.now some c.index-earlier-earlier.is all),
    )
