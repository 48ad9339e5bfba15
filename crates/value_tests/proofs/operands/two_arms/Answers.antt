use Rattle.std.proofs.Common.{◌∙◌, ap, sym, subst}
use Rattle.kripke_model.specs.Term.{Term}
use Rattle.kripke_model.specs.Evaluable.{IsEvaluable}
use Rattle.kripke_model.specs.Reading.{arms_in}
use Rattle.kripke_model.proofs.ReadingLemmas.{case_term}
use Rattle.bit_encode.specs.Rows.{mixed_model}
use Rattle.value_tests.proofs.operands.two_arms.Goals as goal

pub returns : goal.returns
returns c =
    subst (λ (t : Term). IsEvaluable mixed_model t) (sym (case_term c.in_ok-arms.arms ∙ ap (λ xs. Term.Case (arms_in xs)) c.in_ok-arms.ensures.items))
    (c.requires.guard, c.requires.right, (c.requires.other, c.requires.last, tt))
