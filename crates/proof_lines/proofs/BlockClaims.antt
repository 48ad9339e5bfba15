-- The claims by which the lines of a proof from `nonfair` on are tested.
use Rattle.std.proofs.Common.{◌≡◌, ℕ, Bool, true, false, List, Result, sym, ◌∙◌, ap, subst}
use Rattle.std.specs.Prelude.{IfOk}
use Rattle.std.specs.Global.{Vec}
use Rattle.kripke_model.specs.System.{System}
use Rattle.region_sets.specs.declared.pins.Pin.{Pin}
use Rattle.region_sets.specs.declared.pins.SetRefusal.{SetRefusal}
use Rattle.region_sets.specs.Sets.{Sets, Adds, In, IsLive, is_one_of, region}
use Rattle.region_sets.specs.Ranks.{AreLive, regions, slots}
use Rattle.region_sets.proofs.Calls.{regions-same}
use Rattle.region_sets.proofs.Slots.{is_one_of-first}
use Rattle.region_sets.proofs.Changes.{stays}
use Rattle.fair_rules.specs.Block as blocks
use Rattle.fair_rules.specs.Block.{block_lines}
use Rattle.fair_rules.specs.Claims as claims
use Rattle.fair_rules.specs.Claims.{join, join_layers}
use Rattle.proof_form.specs.Form.{Layer, entries_sets, layer_sets}
use Rattle.proof_form.specs.Meaning.{block_of}
use Rattle.proof_lines.specs.declared.cases.Case.{Case}
use Rattle.proof_lines.specs.declared.cases.Ends.{Ends}
use Rattle.claim_sets.specs.declared.claims.Claim.{Claim}
use Rattle.claim_sets.specs.declared.entry_sets.Ground.{Ground}
use Rattle.proof_lines.specs.declared.frames.Frame.{Frame}
use Rattle.proof_lines.specs.Cases.{AreEnds, AreLists, IsCase, formula_in, own_proof, states_of}
use Rattle.claim_sets.specs.Claimed.{AreClaims, claims_of}
use Rattle.kripke_model.specs.Leaves.{HasModelLeaves}
use Rattle.claim_sets.specs.ConstraintClaims.{AreFitting, IsGiven, lists_claims_slots, model_sides}
use Rattle.claim_sets.specs.EntrySets.{IsGround, IsGroundOf, entry_slots, listed_in}
use Rattle.proof_lines.specs.Frames.{IsFrame, IsFrameOf}
use Rattle.proof_lines.specs.Tested.{AreTested}
use Rattle.proof_lines.proofs.CasesKept.{own_kept, states_kept}
use Rattle.claim_sets.proofs.ClaimPins.{if_ok}
use Rattle.claim_sets.proofs.FoundEntries.{layers_joined}
use Rattle.proof_lines.proofs.Framed.{frame_of_then}
use Rattle.claim_sets.proofs.Given.{model_sides_kept}
use Rattle.claim_sets.proofs.KeptProofs.{entries_live, fair_live, nonfair_live}

module _ (case : Case) (ends : Ends) (s0 : Sets) (nonfair : Pin) (is : IsCase s0 case) (are : AreEnds s0 ends) (live : IsLive s0 nonfair.slot)
    (joined : region s0 nonfair ≡ join (regions s0 (layer_sets case.proof.now.nonfair))) where
  abbrev pub p : claims.Proof
  p = own_proof s0 case

  layers_are : join_layers p.nonfair ≡ region s0 nonfair
  layers_are = layers_joined (region s0) case.proof.now.nonfair ∙ sym joined

  pub ground_is : (ground : Ground) → ends.full.now ≡ ground.full.now → nonfair ≡ ground.nonfair.now → slots (entries_sets case.proof.now.entries) ≡ entry_slots ground.entries → IsGround s0 ground
  ground_is ground full layers listed = record {
    full_live = subst (λ (x : Pin). IsLive s0 x.slot) full are.full_live;
    nonfair_live = subst (λ (x : Pin). IsLive s0 x.slot) layers live;
    entries_live = subst (λ ks. (k : ℕ) → is_one_of k ks ≡ true → IsLive s0 k) listed (entries_live s0 case.proof.now is.live);
    full = λ s state. subst (λ (x : Pin). In s0 x.slot s) full (are.full s state);
  }

  pub ground_of : (ground : Ground) → nonfair ≡ ground.nonfair.now → p.entries ≡ blocks.entry_of (listed_in s0 ground.entries) → IsGroundOf s0 ground p
  ground_of ground layers listed = record { nonfair = layers_are ∙ ap (region s0) layers; entries = listed }

  pub leaves_are : HasModelLeaves s0.over (formula_in case)
  leaves_are = subst (λ m. HasModelLeaves m (formula_in case)) (sym is.over) is.leaves

  pub frame_is : (frame : Frame) → ends.full.now ≡ frame.full.now → ends.empty.now ≡ frame.empty.now → case.proof.now.fair.inside ≡ frame.fair.now → nonfair ≡ frame.nonfair.now
      → IsGiven s0 frame.constraints → IsFrame s0 frame
  frame_is frame full empty fair layers given = record {
    full_live = subst (λ (x : Pin). IsLive s0 x.slot) full are.full_live;
    empty_live = subst (λ (x : Pin). IsLive s0 x.slot) empty are.empty_live;
    fair_live = subst (λ (x : Pin). IsLive s0 x.slot) fair (fair_live s0 case.proof.now is.live case.proof.now.fair.inside.slot (is_one_of-first case.proof.now.fair.inside.slot _));
    nonfair_live = subst (λ (x : Pin). IsLive s0 x.slot) layers live;
    full = λ s state. subst (λ (x : Pin). In s0 x.slot s) full (are.full s state);
    none = ap (region s0) (sym empty) ∙ are.none;
    given = given;
  }

  pub frame_of : (frame : Frame) → case.proof.now.fair.inside ≡ frame.fair.now → nonfair ≡ frame.nonfair.now → IsFrameOf s0 frame p
  frame_of frame fair layers = record { fair = ap (region s0) fair; nonfair = layers_are ∙ ap (region s0) layers }

  -- ---- once the formula's claims are made

  module _ (s1 : Sets) {xs : List ℕ} (adds : Adds s0 s1 xs) where
    pub own_frame_of : (frame : Frame) → IsFrame s0 frame → IsFrameOf s0 frame p → IsFrameOf s1 frame (own_proof s1 case)
    own_frame_of frame framed of = subst (λ q. IsFrameOf s1 frame q) (sym (own_kept s0 s1 adds case is)) (frame_of_then s0 s1 frame p adds framed of)

    pub own_claims : (cs given : List Claim) → given ≡ cs → AreClaims s0.over s1 cs (claims_of s0.over p (formula_in case) 1 0)
        → AreClaims case.model.now s1 given (claims_of case.model.now (own_proof s1 case) (formula_in case) 1 0)
    own_claims cs given same made =
        subst (λ xs. AreClaims case.model.now s1 xs (claims_of case.model.now (own_proof s1 case) (formula_in case) 1 0)) (sym same)
        (subst (λ q. AreClaims case.model.now s1 cs (claims_of case.model.now q (formula_in case) 1 0)) (sym (own_kept s0 s1 adds case is))
        (subst (λ m. AreClaims m s1 cs (claims_of m p (formula_in case) 1 0)) is.over made))

-- ---- the lines at a later time

pub block_before : (case : Case) (s0 s1 : Sets) {xs : List ℕ} (lists : List (Vec Claim)) → IsCase s0 case → Adds s0 s1 xs → AreLive s0 (lists_claims_slots lists) → (k : ℕ) (r : Result Bool SetRefusal) (after : ℕ)
    → IfOk r (λ good. AreTested case.model.now (block_lines case.model.now (model_sides case.model.now s1 lists true) (model_sides case.model.now s1 lists false) (block_of (states_of s1 case)) (formula_in case) 1) k good after)
    → IfOk r (λ good. AreTested case.model.now (block_lines case.model.now (model_sides case.model.now s0 lists true) (model_sides case.model.now s0 lists false) (block_of (states_of s0 case)) (formula_in case) 1) k good after)
block_before case s0 s1 {xs} lists is adds live k r after h =
    let visits = model_sides_kept s0 s1 xs adds case.model.now lists true live in
    let avoids = model_sides_kept s0 s1 xs adds case.model.now lists false live in
    let states = states_kept s0 s1 adds case is in
    if_ok r (λ good t. subst (λ (T : Type 0). T) (λ i. AreTested case.model.now (block_lines case.model.now (visits i) (avoids i) (block_of (states i)) (formula_in case) 1) k good after) t) h

-- the claims of the constraints are given
pub lists_given : (s : Sets) (m : System) (lists : List (Vec Claim)) → s.over ≡ m → AreLists s m lists → (m ≡ s.over) × AreFitting s.over lists
lists_given s m lists over are = (sym over, subst (λ o. AreFitting o lists) (sym over) are.fitting)

-- the states of all layers, once they are joined
pub joined_then : (s0 s1 : Sets) {xs : List ℕ} (case : Case) (nonfair : Pin) (layers : List (Layer Pin)) → IsCase s0 case → Adds s0 s1 xs → layers ≡ case.proof.now.nonfair
    → region s1 nonfair ≡ join (regions s0 (layer_sets layers)) → region s1 nonfair ≡ join (regions s1 (layer_sets case.proof.now.nonfair))
joined_then s0 s1 case nonfair layers is adds same joined =
    joined ∙ ap (λ ls. join (regions s0 (layer_sets ls))) same
    ∙ ap join (sym (regions-same s0 s1 (layer_sets case.proof.now.nonfair) (λ k h. stays adds k (nonfair_live s0 case.proof.now is.live k h))))
