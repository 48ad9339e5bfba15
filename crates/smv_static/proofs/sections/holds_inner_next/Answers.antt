use Rattle.std.proofs.Common.{sym, ◌∙◌}
use Rattle.kripke_model.specs.Reading.{term_of}
use Rattle.smv_static.proofs.NextLemmas.{inner_decides}
use Rattle.smv_static.proofs.sections.holds_inner_next.Goals as goal

pub returns : goal.returns
returns c =
    let d = inner_decides (term_of c.args.expr.now) in
    (λ h. d.0 (sym c.uses_inner_next.ensures ∙ h), λ h. c.uses_inner_next.ensures ∙ d.1 h)
