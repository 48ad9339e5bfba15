-- A proof that is tested, and the pins that the tests share.
use Rattle.std.specs.Prelude.{◌≡◌, true, false, List, [], ◌∷◌, ◌++◌}
use Rattle.std.specs.Global.{Vec}
use Rattle.kripke_model.specs.Ctl.{Ctl}
use Rattle.kripke_model.specs.Step.{IsState}
use Rattle.kripke_model.specs.System.{System, State}
use Rattle.kripke_model.specs.WellFormed.{ctl_of}
use Rattle.path_laws.specs.StateSet.{StateSet}
use Rattle.region_sets.specs.Sets.{Sets, In, IsLive, region}
use Rattle.region_sets.specs.Ranks.{AreLive}
use Rattle.fair_rules.specs.Block.{block_lines, proof_of}
use Rattle.fair_rules.specs.Checks.{Check, layer_lines, reach_lines}
use Rattle.fair_rules.specs.Claims as claims
use Rattle.fair_rules.specs.Rules as rules
use Rattle.fair_rules.specs.SetLists.{everything, nothing}
use Rattle.proof_form.specs.Form.{Proof}
use Rattle.proof_form.specs.Meaning.{block_of, obligations}
use Rattle.proof_form.specs.Pinned.{over_states, proof_slots}
use Rattle.proof_form.specs.Shape.{IsInShape}
use Rattle.proof_lines.specs.declared.cases.Case.{Case}
use Rattle.proof_lines.specs.declared.cases.Ends.{Ends}
use Rattle.claim_sets.specs.declared.claims.Claim.{Claim}
use Rattle.kripke_model.specs.Leaves.{HasModelLeaves}
use Rattle.claim_sets.specs.ConstraintClaims.{AreFitting, lists_claims_slots, model_sides}

-- the lines of what entries share
abbrev pub shared : List StateSet → List StateSet → List rules.Layer → StateSet
    → List (List StateSet) → List (List Check)
shared visited avoided layers fair reaches
    = ([] ∷ layer_lines avoided everything nothing nothing layers)
    ++ ([] ∷ reach_lines fair visited reaches)

-- the pins are live, and are what they say
pub record AreEnds (sets : Sets) (ends : Ends) : Type 0 where
  pub full_live : IsLive sets ends.full.now.slot
  pub empty_live : IsLive sets ends.empty.now.slot
  pub full : (s : State) → IsState sets.over s → In sets ends.full.now.slot s
  pub none : region sets ends.empty.now ≡ nothing

abbrev pub formula_in : Case → Ctl
formula_in case = ctl_of case.formula.now

-- the proof has the shape of one of the formula, and its pins are live
pub record IsCase (sets : Sets) (case : Case) : Type 0 where
  pub over : sets.over ≡ case.model.now
  pub leaves : HasModelLeaves case.model.now (formula_in case)
  pub live : AreLive sets (proof_slots case.proof.now)
  pub shape : IsInShape case.model.now (formula_in case) case.proof.now

-- the proof over the states of its pins
abbrev pub states_of : Sets → Case → Proof StateSet
states_of sets case = over_states sets case.proof.now

-- and as its entries' rules have it
abbrev pub own_proof : Sets → Case → claims.Proof
own_proof sets case = proof_of (block_of (states_of sets case))

-- the claims of the constraints' formulas
pub record AreLists (sets : Sets) (m : System) (lists : List (Vec Claim)) : Type 0 where
  pub fitting : AreFitting m lists
  pub live : AreLive sets (lists_claims_slots lists)

-- ---- the lines of a case

-- of its own part, where these are the claims of the constraints' formulas
abbrev pub claimed_block : Sets → Case → List (Vec Claim) → List (List Check)
claimed_block sets case lists = block_lines case.model.now
    (model_sides case.model.now sets lists true) (model_sides case.model.now sets lists false)
    (block_of (states_of sets case)) (formula_in case) 1

-- and of the whole proof
abbrev pub whole_lines : Sets → Case → List (List Check)
whole_lines sets case = obligations case.model.now (formula_in case) (states_of sets case)
