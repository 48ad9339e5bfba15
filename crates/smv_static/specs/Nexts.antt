-- Whether `next` stands within `next`.
use Rattle.std.specs.Prelude.{Bool, true, false, ◌||◌}
use Rattle.kripke_model.specs.Term.{Term, Terms, Arms, none, more, esac, arm}
use Rattle.kripke_model.specs.Nexts.{has_next}

abbrev mutual
  pub has_inner_next : Term → Bool
  has_inner_next (Term.Const v) = false
  has_inner_next (Term.Var x) = false
  has_inner_next (Term.Running p) = false
  has_inner_next (Term.Next e) = has_next e
  has_inner_next (Term.Not e) = has_inner_next e
  has_inner_next (Term.Binary op a b) = has_inner_next a || has_inner_next b
  has_inner_next (Term.Braces es) = some_has_inner_next es
  has_inner_next (Term.Case arms) = arm_has_inner_next arms
  has_inner_next (Term.Quant op e) = has_inner_next e
  has_inner_next (Term.Until all a b) = has_inner_next a || has_inner_next b

  pub some_has_inner_next : Terms → Bool
  some_has_inner_next none = false
  some_has_inner_next (more e es) = has_inner_next e || some_has_inner_next es

  pub arm_has_inner_next : Arms → Bool
  arm_has_inner_next esac = false
  arm_has_inner_next (arm guard right rest)
      = has_inner_next guard || has_inner_next right || arm_has_inner_next rest
