-- What an entry is asked, read off the claims of a formula's nodes.
use Rattle.std.proofs.Common.{◌≡◌, Result, ℕ, ◌-◌, ◌<◌, ◌≤◌, Bool, true, false, List, length, get_or, Option, sym, ◌∙◌, ap, subst, arith}
use Rattle.std.specs.Prelude.{IfOk}
use Rattle.kripke_model.specs.declared.expressions.PathOp.{PathOp}
use Rattle.kripke_model.specs.Ctl.{Ctl}
use Rattle.kripke_model.specs.Signs.{node_count, rule_of}
use Rattle.kripke_model.specs.System.{System}
use Rattle.path_laws.specs.StateSet.{StateSet}
use Rattle.region_sets.specs.declared.pins.Pin.{Pin}
use Rattle.region_sets.specs.declared.pins.SetRefusal.{SetRefusal}
use Rattle.region_sets.specs.Sets.{Sets, IsLive, region}
use Rattle.region_sets.specs.Ranks.{AreLive}
use Rattle.fair_rules.specs.Claims as claims
use Rattle.fair_rules.specs.Claims.{absent_argument}
use Rattle.fair_rules.specs.Block.{Demand, asked_lines, demand_at, entry_lines}
use Rattle.proof_form.specs.Agrees.{SameOn}
use Rattle.proof_form.specs.Form.{Entry, map_rule}
use Rattle.proof_form.specs.Meaning.{entry_of}
use Rattle.claim_sets.specs.declared.claims.Asks.{Asks}
use Rattle.claim_sets.specs.declared.claims.Asks.TheVariants as asks
use Rattle.claim_sets.specs.declared.claims.Claim.{Claim}
use Rattle.proof_lines.specs.declared.frames.Frame.{Frame}
use Rattle.claim_sets.specs.Claimed.{AreClaims, ClaimView, IsClaim, asked_by, claims_of, claims_slots, demand_in, side_of, signed, view_at}
use Rattle.claim_sets.specs.ConstraintClaims.{constraint_list}
use Rattle.proof_lines.specs.Frames.{IsFrame, IsFrameOf, absent_pin}
use Rattle.claim_sets.specs.Claimed.{AreBefore}
use Rattle.proof_lines.specs.Tested.{AreTested}
use Rattle.claim_sets.proofs.ClaimLists.{claims_before, demand_is}
use Rattle.claim_sets.proofs.ClaimPins.{claim_live, if_ok, side_live}
use Rattle.proof_lines.proofs.Counting.{none_tested}
use Rattle.proof_lines.proofs.Framed.{absent_same}

-- a claim's pin of a sign has the claimed set
pub side_same : (m : System) (s : Sets) (c : Claim) (v : ClaimView) (sign : Bool) (pin : Pin) → pin ≡ side_of c sign → IsClaim m s c v → SameOn m (region s pin) (signed v sign)
side_same m s c v sign pin is h = subst (λ (p : Pin). SameOn m (region s p) (signed v sign)) (sym is) (here sign)
  where
    here : (sign : Bool) → SameOn m (region s (side_of c sign)) (signed v sign)
    here true = h.plus
    here false = h.minus

abbrev pub no_pins : Claim
no_pins = record { plus = record { slot = 0 }; minus = record { slot = 0 }; asks = asks.Nothing }

pub part_live : (s : Sets) (cs : List Claim) (k : ℕ) (sign : Bool) (pin : Pin) → pin ≡ side_of (get_or cs k no_pins) sign → k < length cs → AreLive s (claims_slots cs) → IsLive s pin.slot
part_live s cs k sign pin is less live = subst (λ (p : Pin). IsLive s p.slot) (sym is) (side_live s (get_or cs k no_pins) sign (claim_live s cs k no_pins less live))

module _ (s : Sets) (frame : Frame) (cs : List Claim) (place : ℕ) (sign : Bool) (e : claims.Entry) where
  abbrev V : List StateSet
  V = constraint_list s frame.constraints true

  abbrev A : List StateSet
  A = constraint_list s frame.constraints false

  -- whatever the claims are, the lines of what is asked of the place were tested
  abbrev pub IsTestedAt : ℕ → Bool → ℕ → Type 0
  IsTestedAt before good after = (p : claims.Proof) (views : List ClaimView) → IsFrameOf s frame p → AreClaims s.over s cs views → AreBefore views
      → AreTested s.over (asked_lines V A p (demand_in views place sign) e) before good after

  module _ (less : place < length cs) (a : Asks) (own : (get_or cs place no_pins).asks ≡ a) where
    asks_is : (views : List ClaimView) → AreClaims s.over s cs views → (view_at views place).asks ≡ a
    asks_is views are = sym (are.each place no_pins less).asks ∙ own

    by_asks : (before : ℕ) (good : Bool) (after : ℕ)
        → ((p : claims.Proof) (views : List ClaimView) → IsFrameOf s frame p → AreClaims s.over s cs views → AreTested s.over (asked_lines V A p (asked_by (view_at views) place sign a) e) before good after)
        → IsTestedAt before good after
    by_asks before good after t p views of are _ = subst (λ (b : Asks). AreTested s.over (asked_lines V A p (asked_by (view_at views) place sign b) e) before good after) (sym (asks_is views are)) (t p views of are)

  -- nothing is asked
  pub asks_nothing : place < length cs → (get_or cs place no_pins).asks ≡ asks.Nothing → (before : ℕ) → IsTestedAt before true before
  asks_nothing less own before = by_asks less asks.Nothing own before true before (λ p views of are. none_tested s.over before)

  -- what was tested by the sets of the arguments
  abbrev pub IsTestedFor : Pin → Pin → ℕ → Bool → ℕ → Type 0
  IsTestedFor first last before good after = (p : claims.Proof) (d : Demand) → IsFrameOf s frame p → SameOn s.over (region s first) d.first → SameOn s.over (region s last) d.last
      → AreTested s.over (entry_lines V A p d e) before good after

  pub asks_one : IsFrame s frame → place < length cs → (op : PathOp) → (get_or cs place no_pins).asks ≡ asks.One op → (first last : Pin) → first ≡ absent_pin frame (rule_of op sign)
      → last ≡ side_of (get_or cs (place - 1) no_pins) sign → (before : ℕ) (r : Result Bool SetRefusal) (after : ℕ) → IfOk r (λ good. IsTestedFor first last before good after) → IfOk r (λ good. IsTestedAt before good after)
  asks_one is less op own first last first_is last_is before r after t = if_ok r (λ good h. by_asks less (asks.One op) own before good after (λ p views of are.
      h p (record { rule = rule_of op sign; first = absent_argument (rule_of op sign); last = signed (view_at views (place - 1)) sign }) of
      (subst (λ (q : Pin). SameOn s.over (region s q) (absent_argument (rule_of op sign))) (sym first_is) (absent_same s frame is (rule_of op sign)))
      (side_same s.over s (get_or cs (place - 1) no_pins) (view_at views (place - 1)) sign last last_is (are.each (place - 1) no_pins (omega (arith, less)))))) t

-- an entry for a node is asked what the claim at its place asks
pub asked_is : (s : Sets) (frame : Frame) (cs : List Claim) (node : ℕ) (sign : Bool) (e : claims.Entry) (before : ℕ) (r : Result Bool SetRefusal) (after : ℕ) → 1 ≤ node → node ≤ length cs
    → IfOk r (λ good. IsTestedAt s frame cs (length cs - node) sign e before good after)
    → IfOk r (λ good. (p : claims.Proof) (f : Ctl) → IsFrameOf s frame p → length cs ≡ node_count f → AreClaims s.over s cs (claims_of s.over p f 1 0)
    → AreTested s.over (asked_lines (constraint_list s frame.constraints true) (constraint_list s frame.constraints false) p (demand_at s.over p f 1 node sign) e) before good after)
asked_is s frame cs node sign e before r after some le t = if_ok r (λ good h p f of count are.
    let views : List ClaimView = claims_of s.over p f 1 0 in
    let place : length cs - node ≡ node_count f - node = ap (λ n. n - node) count in
    let le_count : node ≤ node_count f = omega (arith, le, count) in
    subst (λ (o : Option Demand). AreTested s.over (asked_lines (constraint_list s frame.constraints true) (constraint_list s frame.constraints false) p o e) before good after)
    (ap (λ k. demand_in views k sign) place ∙ sym (demand_is s.over p f node sign some le_count))
    (h p views of are (claims_before s.over p f))) t

-- the same where the entry is read off its own fields
pub asked_entry_is : (s : Sets) (frame : Frame) (cs : List Claim) (own e : Entry Pin) → own ≡ e → (before : ℕ) (r : Result Bool SetRefusal) (after : ℕ) → 1 ≤ e.node → e.node ≤ length cs
    → IfOk r (λ good. IsTestedAt s frame cs (length cs - own.node) own.plus (entry_of (map_rule (region s) own.rule)) before good after)
    → IfOk r (λ good. (p : claims.Proof) (f : Ctl) → IsFrameOf s frame p → length cs ≡ node_count f → AreClaims s.over s cs (claims_of s.over p f 1 0)
    → AreTested s.over (asked_lines (constraint_list s frame.constraints true) (constraint_list s frame.constraints false) p (demand_at s.over p f 1 e.node e.plus) (entry_of (map_rule (region s) e.rule))) before good after)
asked_entry_is s frame cs own e is before r after some le t =
    asked_is s frame cs e.node e.plus (entry_of (map_rule (region s) e.rule)) before r after some le
    (subst (λ (x : Entry Pin). IfOk r (λ good. IsTestedAt s frame cs (length cs - x.node) x.plus (entry_of (map_rule (region s) x.rule)) before good after)) is t)
