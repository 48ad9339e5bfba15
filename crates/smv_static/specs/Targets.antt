-- The variables that an assignment's variable depends on.
use Rattle.std.specs.Prelude.{ℕ, List, [], ◌++◌}
use Rattle.kripke_model.specs.declared.models.Part.{Part}
use Rattle.kripke_model.specs.Term.{Term, Terms, Arms, none, more, esac, arm}
use Rattle.kripke_model.specs.System.{Assignment}
use Rattle.kripke_model.specs.Static.{variables_in}

-- the variables under `next`
abbrev mutual
  pub next_variables_in : Term → List ℕ
  next_variables_in (Term.Const v) = []
  next_variables_in (Term.Var x) = []
  next_variables_in (Term.Running p) = []
  next_variables_in (Term.Next e) = variables_in e
  next_variables_in (Term.Not e) = next_variables_in e
  next_variables_in (Term.Binary op a b) = next_variables_in a ++ next_variables_in b
  next_variables_in (Term.Braces es) = next_variables_in_elements es
  next_variables_in (Term.Case arms) = next_variables_in_arms arms
  next_variables_in (Term.Quant op e) = next_variables_in e
  next_variables_in (Term.Until all a b) = next_variables_in a ++ next_variables_in b

  pub next_variables_in_elements : Terms → List ℕ
  next_variables_in_elements none = []
  next_variables_in_elements (more e es) = next_variables_in e ++ next_variables_in_elements es

  pub next_variables_in_arms : Arms → List ℕ
  next_variables_in_arms esac = []
  next_variables_in_arms (arm guard right rest)
      = next_variables_in guard ++ next_variables_in right ++ next_variables_in_arms rest

-- for `next` those under `next` alone
abbrev pub targets_by : Part → Term → List ℕ
targets_by Part.Init e = variables_in e
targets_by Part.Now e = variables_in e
targets_by Part.Next e = next_variables_in e

abbrev pub targets_of : Assignment → List ℕ
targets_of a = targets_by a.part a.right
