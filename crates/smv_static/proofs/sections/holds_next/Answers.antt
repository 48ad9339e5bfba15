use Rattle.std.proofs.Common.{sym, ◌∙◌}
use Rattle.kripke_model.specs.Reading.{term_of}
use Rattle.smv_static.proofs.NextLemmas.{next_decides}
use Rattle.smv_static.proofs.sections.holds_next.Goals as goal

pub returns : goal.returns
returns c =
    let d = next_decides (term_of c.args.expr.now) in
    (λ h. d.0 (sym c.uses_next.ensures ∙ h), λ h. c.uses_next.ensures ∙ d.1 h)
