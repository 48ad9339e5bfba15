-- What the lines of entries are tested with, later, and the sets of arguments that aren't there.
use Rattle.std.proofs.Common.{◌≡◌, ℕ, true, List, [], ◌∷◌, get_or, refl, sym, ◌∙◌, ap, subst}
use Rattle.std.specs.Global.{Vec}
use Rattle.kripke_model.specs.Signs.{ProofRule}
use Rattle.kripke_model.specs.Step.{IsState}
use Rattle.kripke_model.specs.System.{System, Condition}
use Rattle.path_laws.specs.StateSet.{StateSet}
use Rattle.region_sets.specs.declared.pins.Pin.{Pin}
use Rattle.region_sets.specs.Sets.{Sets, Adds, IsLive, has_state, region}
use Rattle.region_sets.proofs.Changes.{stays, stays_live}
use Rattle.fair_rules.specs.Claims as claims
use Rattle.fair_rules.specs.Claims.{absent_argument}
use Rattle.proof_form.specs.Agrees.{SameOn}
use Rattle.claim_sets.specs.declared.claims.Claim.{Claim}
use Rattle.proof_lines.specs.declared.frames.Frame.{Frame}
use Rattle.claim_sets.specs.Claimed.{AreClaims, ClaimView}
use Rattle.claim_sets.specs.ConstraintClaims.{HasClaims, HaveClaims, claims_at}
use Rattle.proof_lines.specs.Frames.{IsFrame, IsFrameOf, absent_pin}
use Rattle.claim_sets.proofs.Given.{given_kept}

pub frame_then : (a b : Sets) {xs : List ℕ} (frame : Frame) → Adds a b xs → IsFrame a frame → IsFrame b frame
frame_then a b {xs} frame p g = record {
  full_live = stays_live p frame.full.now.slot g.full_live;
  empty_live = stays_live p frame.empty.now.slot g.empty_live;
  fair_live = stays_live p frame.fair.now.slot g.fair_live;
  nonfair_live = stays_live p frame.nonfair.now.slot g.nonfair_live;
  full = λ s is. subst (λ o. has_state o s ≡ true) (sym (stays p frame.full.now.slot g.full_live)) (g.full s (subst (λ m. IsState m s) p.over is));
  none = ap has_state (stays p frame.empty.now.slot g.empty_live) ∙ g.none;
  given = given_kept a b xs p frame.constraints g.given;
}

pub frame_of_then : (a b : Sets) {xs : List ℕ} (frame : Frame) (q : claims.Proof) → Adds a b xs → IsFrame a frame → IsFrameOf a frame q → IsFrameOf b frame q
frame_of_then a b frame q p g of = record {
  fair = of.fair ∙ ap has_state (sym (stays p frame.fair.now.slot g.fair_live));
  nonfair = of.nonfair ∙ ap has_state (sym (stays p frame.nonfair.now.slot g.nonfair_live));
}

-- ---- an argument that isn't there

module _ (s : Sets) (frame : Frame) (is : IsFrame s frame) where
  pub absent_live : (rule : ProofRule) → IsLive s (absent_pin frame rule).slot
  absent_live ProofRule.EX = is.empty_live
  absent_live ProofRule.AX = is.empty_live
  absent_live ProofRule.EU = is.full_live
  absent_live ProofRule.AU = is.full_live
  absent_live ProofRule.ER = is.empty_live
  absent_live ProofRule.AR = is.empty_live

  empty_same : SameOn s.over (region s frame.empty.now) (absent_argument ProofRule.EX)
  empty_same st is_state = ap (λ (F : StateSet). F st) is.none

  pub absent_same : (rule : ProofRule) → SameOn s.over (region s (absent_pin frame rule)) (absent_argument rule)
  absent_same ProofRule.EX = empty_same
  absent_same ProofRule.AX = empty_same
  absent_same ProofRule.EU = is.full
  absent_same ProofRule.AU = is.full
  absent_same ProofRule.ER = empty_same
  absent_same ProofRule.AR = empty_same

-- ---- claims, after a test that left no pin

module _ (a b : Sets) (none : Adds a b []) where
  -- each pin stands for what it stood for
  pub regions_kept : region b ≡ region a
  regions_kept = λ i pin. has_state (none.kept pin.slot refl i)

  pin_kept : (pin : Pin) → region b pin ≡ region a pin
  pin_kept pin = ap has_state (none.kept pin.slot refl)

  claims_kept : (m : System) (cs : List Claim) (views : List ClaimView) → AreClaims m a cs views → AreClaims m b cs views
  claims_kept m cs views are = record {
    count = are.count;
    each = λ k d less. let is = are.each k d less in record {
      plus = λ s is_state. ap (λ (F : StateSet). F s) (pin_kept (get_or cs k d).plus) ∙ is.plus s is_state;
      minus = λ s is_state. ap (λ (F : StateSet). F s) (pin_kept (get_or cs k d).minus) ∙ is.minus s is_state;
      asks = is.asks;
    };
  }

  pub claims_then : (cs : List Claim) (views : System → List ClaimView) → AreClaims a.over a cs (views a.over) → AreClaims b.over b cs (views b.over)
  claims_then cs views are = subst (λ m. AreClaims m b cs (views m)) (sym none.over) (claims_kept a.over cs (views a.over) are)

  has_kept : (m : System) (p : claims.Proof) (c : Condition) (cs : List Claim) → HasClaims m a p c cs → HasClaims m b p c cs
  has_kept m p c [] h = h
  has_kept m p c (d ∷ cs) h = claims_kept m (d ∷ cs) _ h

  pub have_then : (proofs : ℕ → claims.Proof) (lists : List (Vec Claim)) → HaveClaims a.over a proofs lists → HaveClaims b.over b proofs lists
  have_then proofs lists have =
      subst (λ m. HaveClaims m b proofs lists) (sym none.over) (λ k c less. has_kept a.over (proofs k) (get_or a.over.constraints k c) (claims_at lists k) (have k c less))
