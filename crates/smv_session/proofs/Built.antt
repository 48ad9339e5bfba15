-- The parts that are built are over the model.
use Rattle.std.proofs.Common.{◌≡◌, ◌∙◌, ℕ, List, Result, Ok, Err, IfOk}
use Rattle.kripke_model.specs.System.{System}
use Rattle.proof_text.specs.Written.{own_order}
use Rattle.trans_parts.specs.Building.{IsBuilt}
use Rattle.trans_parts.specs.declared.building.BuildRefusal.{BuildRefusal}
use Rattle.trans_parts.specs.declared.parts.Parts.{Parts}
use Rattle.smv_session.specs.Relation.{AreOver}

built_parts : (m copy : System) (order : List ℕ) (limit : ℕ) (p : Parts) → copy ≡ m → order ≡ own_order m → IsBuilt copy order limit p → AreOver m limit p
built_parts m copy order limit p same is built = record { model_is = built.model ∙ same; limit_is = built.limit_is; order_is = built.order_is ∙ is }

pub built_over : (m copy : System) (order : List ℕ) (limit : ℕ) (r : Result Parts BuildRefusal) → copy ≡ m → order ≡ own_order m → IfOk r (IsBuilt copy order limit) → IfOk r (AreOver m limit)
built_over m copy order limit (Ok p) same is built = built_parts m copy order limit p same is built
built_over m copy order limit (Err e) same is built = tt
