-- The sets of constraints that have no path operator.
use Rattle.std.specs.Prelude.{not, List, [], ◌∷◌, map}
use Rattle.kripke_model.specs.System.{System, Condition}
use Rattle.kripke_model.specs.Evaluation.{eval}
use Rattle.path_laws.specs.StateSet.{StateSet}
use Rattle.fair_rules.specs.SetLists.{everything, nothing}
use Rattle.fair_rules.specs.Claims.{is_one}

abbrev pub states_with : System → Condition → StateSet
states_with m c s = is_one (eval m c.expr s s)

abbrev pub states_without : System → Condition → StateSet
states_without m c s = not (is_one (eval m c.expr s s))

-- without constraints there is one that is true everywhere
abbrev pub one_at_least : StateSet → List StateSet → List StateSet
one_at_least set [] = set ∷ []
one_at_least set (F ∷ sets) = F ∷ sets

abbrev pub visited_sets : System → List StateSet
visited_sets m = one_at_least everything (map (states_with m) m.constraints)

abbrev pub avoided_sets : System → List StateSet
avoided_sets m = one_at_least nothing (map (states_without m) m.constraints)
