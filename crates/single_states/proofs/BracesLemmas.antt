-- An expression of a model has no empty braces.
use Rattle.kripke_model.specs.System.{System}
use Rattle.kripke_model.specs.Term.{Term, Terms, Arms, none, more, esac, arm}
use Rattle.kripke_model.specs.Evaluable.{IsEvaluable, AreEvaluable, AreEvaluableArms}
use Rattle.single_states.specs.Braces.{IsFilled, AreFilled, AreFilledArms}

mutual
  pub evaluable_filled : (m : System) (e : Term) → IsEvaluable m e → IsFilled e
  evaluable_filled m (Term.Const v) h = tt
  evaluable_filled m (Term.Var x) h = tt
  evaluable_filled m (Term.Running p) h = tt
  evaluable_filled m (Term.Next e) h = evaluable_filled m e h
  evaluable_filled m (Term.Not e) h = evaluable_filled m e h
  evaluable_filled m (Term.Binary op a b) h = (evaluable_filled m a h.0, evaluable_filled m b h.1)
  evaluable_filled m (Term.Braces none) h = absurd h
  evaluable_filled m (Term.Braces (more e es)) h = (evaluable_filled m e h.0, elements_evaluable_filled m es h.1)
  evaluable_filled m (Term.Case arms) h = arms_evaluable_filled m arms h
  evaluable_filled m (Term.Quant op e) h = absurd h
  evaluable_filled m (Term.Until all a b) h = absurd h

  elements_evaluable_filled : (m : System) (es : Terms) → AreEvaluable m es → AreFilled es
  elements_evaluable_filled m none h = tt
  elements_evaluable_filled m (more e es) h = (evaluable_filled m e h.0, elements_evaluable_filled m es h.1)

  arms_evaluable_filled : (m : System) (arms : Arms) → AreEvaluableArms m arms → AreFilledArms arms
  arms_evaluable_filled m esac h = tt
  arms_evaluable_filled m (arm guard right rest) h = (evaluable_filled m guard h.0, evaluable_filled m right h.1, arms_evaluable_filled m rest h.2)
