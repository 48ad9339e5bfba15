use Rattle.smv_instances.specs.Plain.{plain_expr}
use Rattle.smv_names.proofs.TextLemmas.{text_actual, text_missing}
use Rattle.smv_names.proofs.texts.text_at_entry.Goals as goal

pub returns-in-Some-clause-some : goal.returns-in-Some-clause-some
returns-in-Some-clause-some c p s e are at stands =
    text_actual p s e.name c.in-Parameter.formal c.in-Some.around (plain_expr c.in-Some.actual.now) (plain_expr c.bare_of.result.now) (c.in-Parameter.ensures p s e are at stands) (c.in-Some.ensures.some p s are at) c.bare_of.ensures

pub returns-in-None-clause-none : goal.returns-in-None-clause-none
returns-in-None-clause-none c p s e are at stands = text_missing p s e.name c.in-Parameter.formal (c.in-Parameter.ensures p s e are at stands) (c.in-None.ensures.none p s are at)
