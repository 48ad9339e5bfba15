-- The claims of the constraints' formulas, over all paths.
use Rattle.std.specs.Prelude.{◌≡◌, ℕ, true, List, [], ◌∷◌, ◌++◌, length, Result, Ok, Err, OnOk}
use Rattle.std.specs.Global.{Vec}
use Rattle.kripke_model.specs.Ctl.{Ctl}
use Rattle.kripke_model.specs.Step.{IsState}
use Rattle.kripke_model.specs.System.{System, State}
use Rattle.kripke_model.specs.Leaves.{is_leaf}
use Rattle.region_sets.specs.declared.pins.Pin.{Pin}
use Rattle.region_sets.specs.declared.pins.SetRefusal.{SetRefusal}
use Rattle.region_sets.specs.Sets.{Sets, In, IsCall, IsLive, region}
use Rattle.region_sets.specs.Ranks.{AreLive, regions, slots}
use Rattle.fair_rules.specs.Claims as claims
use Rattle.fair_rules.specs.Claims.{join}
use Rattle.proof_form.specs.Form.{FreePart, free_sets, layer_sets}
use Rattle.claim_sets.specs.declared.claims.Claim.{Claim}
use Rattle.claim_sets.specs.Claimed.{AreClaims, claims_of, claims_slots}
use Rattle.claim_sets.specs.ConstraintClaims.{lists_claims_slots}

abbrev pub lists_result_slots : Result (Vec (Vec Claim)) SetRefusal → List ℕ
lists_result_slots (Ok lists) = lists_claims_slots lists.items
lists_result_slots (Err refusal) = []

-- the claims of a formula; a leaf has none
abbrev pub ArePathClaims : System → Sets → claims.Proof → Ctl → List Claim → Type 0
ArePathClaims m sets p f [] = is_leaf f ≡ true
ArePathClaims m sets p f (c ∷ cs) = AreClaims m sets (c ∷ cs) (claims_of m p f 1 0)

-- all states, and those of the part's layers
pub record IsFreeGround (sets : Sets) (states layers : Pin) (part : FreePart Pin) : Type 0 where
  pub full_live : IsLive sets states.slot
  pub nonfair_live : IsLive sets layers.slot
  pub part_live : AreLive sets (slots (free_sets part))
  pub full : (s : State) → IsState sets.over s → In sets states.slot s
  pub nonfair : region sets layers ≡ join (regions sets (layer_sets part.nonfair))

-- a call that adds one list that is as it should be, or none where it was refused
pub record IsListing {T : Type 0} (held size : ℕ) (before after : Sets)
    (old new : List (Vec Claim)) (Are : List Claim → Type 0)
    (result : Result T SetRefusal) : Type 0 where
  pub added : List (Vec Claim)
  pub items : new ≡ old ++ added
  pub call : IsCall held before after (lists_claims_slots added) result
  pub one : OnOk result
      ((list : Vec Claim) × (added ≡ list ∷ []) × (length (claims_slots list.items) ≡ size)
      × Are list.items)
