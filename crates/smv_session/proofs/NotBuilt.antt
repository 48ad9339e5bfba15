-- Why a model has no relation with its variables in declared order.
use Rattle.std.proofs.Common.{◌∙◌, ℕ, ◌≤◌, List, length, Result, Ok, Err, IfErr, OnOk, sym, subst}
use Rattle.std.specs.Prelude.{All}
use Rattle.std.proofs.lemmas.List.{length-map}
use Rattle.kripke_model.specs.System.{System}
use Rattle.bit_encode.specs.Code.{IsOrder, types_of, state_bits}
use Rattle.bit_encode.specs.Layouts.{Accepts}
use Rattle.trans_parts.specs.Building.{Refuses}
use Rattle.trans_parts.specs.declared.building.BuildRefusal.{BuildRefusal}
use Rattle.trans_parts.specs.declared.building.BuildRefusal.TheVariants as refusals
use Rattle.trans_parts.specs.declared.parts.Parts.{Parts}
use Rattle.smv_session.specs.Source.{most_state_bits}
use Rattle.smv_session.specs.Relation.{IsNotBuilt}
use Rattle.smv_session.proofs.BitCounts.{few_bits, told_count}
use Rattle.diagram_sets.proofs.Budgets.{build_fits}

module _ (m : System) (order : List ℕ) (limit : ℕ) (few : length m.vars ≤ 256) (short : All (λ v. length v.values ≤ 1024) m.vars) (ordered : IsOrder (length m.vars) order) where
  refused : (r : BuildRefusal) → Refuses m order limit r → IsNotBuilt m limit r
  refused (refusals.TooManyBits bits) h = (h.0, h.1 ∙ told_count (state_bits m) (few_bits m few short))
  refused refusals.BadOrder h = h.1 (subst (λ n. IsOrder n order) (sym (length-map m.vars (λ v. v.values))) ordered)
  refused (refusals.Fault f) h = (h.0.few, h.1)
  refused (refusals.Full held) h = (h.0.few, ((h.1, h.2), build_fits m limit h.3))
  refused refusals.Memory h = tt

  pub not_built : (r : Result Parts BuildRefusal) → IfErr r (Refuses m order limit) → IfErr r (IsNotBuilt m limit)
  not_built (Ok p) h = tt
  not_built (Err e) h = refused e h

pub few_bits_of : (m : System) (order : List ℕ) (r : Result Parts BuildRefusal) → OnOk r (Accepts (types_of m) order) → OnOk r (state_bits m ≤ most_state_bits)
few_bits_of m order (Ok p) h = h.few
few_bits_of m order (Err e) h = tt
