use Rattle.std.proofs.Common.{◌∙◌, ap, sym, subst}
use Rattle.kripke_model.specs.Term.{Term}
use Rattle.kripke_model.specs.Evaluable.{IsEvaluable}
use Rattle.kripke_model.specs.Reading.{terms_in}
use Rattle.kripke_model.proofs.ReadingLemmas.{braces_term}
use Rattle.bit_encode.specs.Rows.{mixed_model}
use Rattle.value_tests.proofs.operands.braces.Goals as goal

pub returns : goal.returns
returns c =
    subst (λ (t : Term). IsEvaluable mixed_model t) (sym (braces_term c.in_ok-elements.elements ∙ ap (λ xs. Term.Braces (terms_in xs)) c.in_ok-elements.ensures.items))
    (c.requires.a, (c.requires.b, (c.requires.c, tt)))
