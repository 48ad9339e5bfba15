-- The expressions in which no braces are empty. All others have values or a fault.
use Rattle.kripke_model.specs.Term.{Term, Terms, Arms, none, more, esac, arm}

abbrev mutual
  pub IsFilled : Term → Type 0
  IsFilled (Term.Const v) = Unit {0}
  IsFilled (Term.Var x) = Unit {0}
  IsFilled (Term.Running p) = Unit {0}
  IsFilled (Term.Next e) = IsFilled e
  IsFilled (Term.Not e) = IsFilled e
  IsFilled (Term.Binary op a b) = IsFilled a × IsFilled b
  IsFilled (Term.Braces none) = ⊥
  IsFilled (Term.Braces (more e es)) = IsFilled e × AreFilled es
  IsFilled (Term.Case arms) = AreFilledArms arms
  IsFilled (Term.Quant op e) = IsFilled e
  IsFilled (Term.Until all a b) = IsFilled a × IsFilled b

  pub AreFilled : Terms → Type 0
  AreFilled none = Unit {0}
  AreFilled (more e es) = IsFilled e × AreFilled es

  pub AreFilledArms : Arms → Type 0
  AreFilledArms esac = Unit {0}
  AreFilledArms (arm guard right rest) = IsFilled guard × IsFilled right × AreFilledArms rest
