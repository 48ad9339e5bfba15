-- The leaves of a model's specifications have no empty braces.
use Rattle.std.proofs.Common.{◌≡◌, ◌<◌, length, map, get_or, inr, sym, ◌∙◌, subst}
use Rattle.std.specs.Prelude.{Contains}
use Rattle.std.proofs.lemmas.List.{get_or-map, get_or_default, length-map}
use Rattle.kripke_model.specs.Ctl.{Ctl, formula_of}
use Rattle.kripke_model.specs.Evaluable.{IsEvaluable}
use Rattle.kripke_model.specs.Leaves.{IsLeafOf, IsModelLeaf}
use Rattle.kripke_model.specs.System.{System, Condition}
use Rattle.kripke_model.specs.Term.{Term}
use Rattle.single_states.proofs.BracesLemmas.{evaluable_filled}
use Rattle.trace_loop.specs.Places.{HasFilledLeaves}

absent : Condition
absent = record { expr = Term.Running 0; line = 0 }

pub spec_filled : (m : System) (f : Ctl) → Contains (map (λ c. formula_of c.expr) m.specs) f
    → ((t : Term) → IsModelLeaf m t → IsEvaluable m t) → HasFilledLeaves f
spec_filled m f there evaluable t leaf =
    let below : there.0 < length m.specs = subst (λ n. there.0 < n) (length-map m.specs (λ (c : Condition). formula_of c.expr)) there.1 in
    let is : formula_of (get_or m.specs there.0 absent).expr ≡ f =
    sym (get_or-map (λ (c : Condition). formula_of c.expr) m.specs there.0 absent f below) ∙ there.2 in
    evaluable_filled m t (evaluable t
    (inr (there.0, get_or m.specs there.0 absent, below, get_or_default m.specs there.0 (get_or m.specs there.0 absent) absent below, subst (IsLeafOf t) (sym is) leaf)))
