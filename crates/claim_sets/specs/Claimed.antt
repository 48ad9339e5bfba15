-- The sets that a proof claims for the nodes of a formula, as a list of pins.
use Rattle.std.specs.Prelude.{◌≡◌, ℕ, ◌+◌, ◌-◌, ◌<◌, ◌≤◌, Bool, true, false, not, List, [], ◌∷◌, ◌++◌, length, map, slice_index_or, Option, Some, None, Result, Ok, Err, IfOk, OnOk}
use Rattle.std.specs.Global.{Vec}
use Rattle.kripke_model.specs.Ctl.{Ctl}
use Rattle.kripke_model.specs.Leaves.{IsModelLeaf}
use Rattle.kripke_model.specs.Evaluation.{eval}
use Rattle.kripke_model.specs.Signs.{rule_of, until_rule, node_count}
use Rattle.kripke_model.specs.System.{System}
use Rattle.kripke_model.specs.Term.{Term}
use Rattle.path_laws.specs.StateSet.{StateSet}
use Rattle.region_sets.specs.declared.pins.Pin.{Pin}
use Rattle.region_sets.specs.declared.pins.SetRefusal.{SetRefusal}
use Rattle.region_sets.specs.Sets.{Sets, IsCall, pin_slots, region}
use Rattle.fair_rules.specs.SetLists.{nothing}
use Rattle.fair_rules.specs.Claims as claims
use Rattle.fair_rules.specs.Claims.{either, both, entry_set, claimed, leaf_set, absent_argument}
use Rattle.fair_rules.specs.Block.{Demand}
use Rattle.proof_form.specs.declared.preorder.Unary.{Unary}
use Rattle.proof_form.specs.declared.preorder.Unary.TheVariants as unary
use Rattle.proof_form.specs.declared.preorder.Binary.{Binary}
use Rattle.proof_form.specs.declared.preorder.Binary.TheVariants as binary
use Rattle.claim_sets.specs.declared.claims.Asks.{Asks}
use Rattle.claim_sets.specs.declared.claims.Asks.TheVariants as asks
use Rattle.claim_sets.specs.declared.claims.Claim.{Claim}
use Rattle.proof_form.specs.Agrees.{SameOn}
use Rattle.proof_form.specs.Preorder.{NodeView}

-- ---- the claimed sets in a list: those of the last part's nodes, then the first one's, then the node's own

-- where the node is claimed true, and false, and what it asks of its entry
pub record ClaimView : Type 0 where
  pub plus : StateSet
  pub minus : StateSet
  pub asks : Asks

abbrev pub signed : ClaimView → Bool → StateSet
signed v true = v.plus
signed v false = v.minus

abbrev pub no_claim : ClaimView
no_claim = record { plus = nothing; minus = nothing; asks = asks.Nothing }

abbrev pub view_at : List ClaimView → ℕ → ClaimView
view_at views k = slice_index_or views k no_claim

abbrev pub claim_of : System → claims.Proof → Ctl → ℕ → Asks → ClaimView
claim_of m p f n a = record { plus = claimed m p f n true; minus = claimed m p f n false; asks = a }

-- of a formula whose first node has number n, in a list with so many in front of them
abbrev pub claims_of : System → claims.Proof → Ctl → ℕ → ℕ → List ClaimView
claims_of m p (Ctl.Leaf e) n before = claim_of m p (Ctl.Leaf e) n asks.Nothing ∷ []
claims_of m p (Ctl.Not f) n before
    = claims_of m p f (n + 1) before ++ (claim_of m p (Ctl.Not f) n asks.Nothing ∷ [])
claims_of m p (Ctl.And f g) n before =
    claims_of m p g (n + 1 + node_count f) before
    ++ (claims_of m p f (n + 1) (before + node_count g)
    ++ (claim_of m p (Ctl.And f g) n asks.Nothing ∷ []))
claims_of m p (Ctl.Or f g) n before =
    claims_of m p g (n + 1 + node_count f) before
    ++ (claims_of m p f (n + 1) (before + node_count g)
    ++ (claim_of m p (Ctl.Or f g) n asks.Nothing ∷ []))
claims_of m p (Ctl.Implies f g) n before =
    claims_of m p g (n + 1 + node_count f) before
    ++ (claims_of m p f (n + 1) (before + node_count g)
    ++ (claim_of m p (Ctl.Implies f g) n asks.Nothing ∷ []))
claims_of m p (Ctl.Iff f g) n before =
    claims_of m p g (n + 1 + node_count f) before
    ++ (claims_of m p f (n + 1) (before + node_count g)
    ++ (claim_of m p (Ctl.Iff f g) n asks.Nothing ∷ []))
claims_of m p (Ctl.Quant op f) n before
    = claims_of m p f (n + 1) before ++ (claim_of m p (Ctl.Quant op f) n (asks.One op) ∷ [])
claims_of m p (Ctl.Until all f g) n before =
    claims_of m p g (n + 1 + node_count f) before
    ++ (claims_of m p f (n + 1) (before + node_count g)
    ++ (claim_of m p (Ctl.Until all f g) n (asks.Two all (before + node_count g - 1)) ∷ []))

-- what is asked of the entry of a sign at a place, where `at` has the claims
abbrev pub asked_by : (ℕ → ClaimView) → ℕ → Bool → Asks → Option Demand
asked_by at place sign asks.Nothing = None
asked_by at place sign (asks.One op)
    = Some (record {
      rule = rule_of op sign;
      first = absent_argument (rule_of op sign);
      last = signed (at (place - 1)) sign;
    })
asked_by at place sign (asks.Two all last)
    = Some (record {
      rule = until_rule all sign;
      first = signed (at (place - 1)) sign;
      last = signed (at last) sign;
    })

abbrev pub demand_in : List ClaimView → ℕ → Bool → Option Demand
demand_in views place sign = asked_by (view_at views) place sign (view_at views place).asks

-- ---- the claims of a node's parts stand before it, of the first one right before

abbrev pub AsksBefore : ℕ → Asks → Type 0
AsksBefore place asks.Nothing = Unit {0}
AsksBefore place (asks.One op) = 1 ≤ place
AsksBefore place (asks.Two all last) = (1 ≤ place) × (last < place)

abbrev pub AreBefore : List ClaimView → Type 0
AreBefore views = (k : ℕ) → k < length views → AsksBefore k (view_at views k).asks

-- ---- as pins

abbrev pub claim_slots : Claim → List ℕ
claim_slots c = c.plus.slot ∷ (c.minus.slot ∷ [])

abbrev pub claims_slots : List Claim → List ℕ
claims_slots [] = []
claims_slots (c ∷ cs) = claim_slots c ++ claims_slots cs

abbrev pub claim_result_slots : Result Claim SetRefusal → List ℕ
claim_result_slots (Ok c) = claim_slots c
claim_result_slots (Err refusal) = []

abbrev pub claims_result_slots : Result (Vec Claim) SetRefusal → List ℕ
claims_result_slots (Ok cs) = claims_slots cs.items
claims_result_slots (Err refusal) = []

-- the pins stand for the sets, on the states of the model
pub record IsClaim (m : System) (now : Sets) (c : Claim) (v : ClaimView) : Type 0 where
  pub plus : SameOn m (region now c.plus) v.plus
  pub minus : SameOn m (region now c.minus) v.minus
  pub asks : c.asks ≡ v.asks

-- as far as the list of claims goes
abbrev pub AreSoFar : System → Sets → List Claim → (ℕ → ClaimView) → Type 0
AreSoFar m now cs at
    = (k : ℕ) (d : Claim) → k < length cs → IsClaim m now (slice_index_or cs k d) (at k)

pub record AreClaims (m : System) (now : Sets) (cs : List Claim)
    (views : List ClaimView) : Type 0 where
  pub count : length cs ≡ length views
  pub each : AreSoFar m now cs (view_at views)

-- ---- one node, by those before it

abbrev pub side_of : Claim → Bool → Pin
side_of c true = c.plus
side_of c false = c.minus

abbrev pub seen_claim : Sets → Claim → ClaimView
seen_claim sets c = record { plus = region sets c.plus; minus = region sets c.minus; asks = c.asks }

abbrev pub seen_claims : Sets → List Claim → List ClaimView
seen_claims sets cs = map (seen_claim sets) cs

abbrev pub connected : Bool → StateSet → StateSet → StateSet
connected true F G = both F G
connected false F G = either F G

abbrev pub leaf_view : System → Term → ClaimView
leaf_view m e
    = record {
      plus = λ s. leaf_set true (eval m e s s);
      minus = λ s. leaf_set false (eval m e s s);
      asks = asks.Nothing;
    }

-- the set of a sign of the node with this number, by the claims of its parts
abbrev pub one_set : claims.Proof → ℕ → Unary → Bool → ClaimView → StateSet
one_set p i unary.Not sign f = signed f (not sign)
one_set p i (unary.Quantified op) sign f = entry_set p.nonfair (p.entries i sign) (signed f sign)

abbrev pub two_set : claims.Proof → ℕ → Binary → Bool → ClaimView → ClaimView → StateSet
two_set p i binary.And true f g = both f.plus g.plus
two_set p i binary.And false f g = either f.minus g.minus
two_set p i binary.Or true f g = either f.plus g.plus
two_set p i binary.Or false f g = both f.minus g.minus
two_set p i binary.Implies true f g = either f.minus g.plus
two_set p i binary.Implies false f g = both f.plus g.minus
two_set p i binary.Iff true f g = either (both f.plus g.plus) (both f.minus g.minus)
two_set p i binary.Iff false f g = either (both f.plus g.minus) (both f.minus g.plus)
two_set p i (binary.Until all) sign f g = entry_set p.nonfair (p.entries i sign) (signed g sign)

abbrev pub one_asks : Unary → Asks
one_asks unary.Not = asks.Nothing
one_asks (unary.Quantified op) = asks.One op

abbrev pub two_asks : Binary → ℕ → Asks
two_asks (binary.Until all) last = asks.Two all last
two_asks kind last = asks.Nothing

abbrev pub one_view : claims.Proof → ℕ → Unary → ClaimView → ClaimView
one_view p i kind f
    = record {
      plus = one_set p i kind true f;
      minus = one_set p i kind false f;
      asks = one_asks kind;
    }

abbrev pub two_view : claims.Proof → ℕ → Binary → ℕ → ClaimView → ClaimView → ClaimView
two_view p i kind last f g
    = record {
      plus = two_set p i kind true f g;
      minus = two_set p i kind false f g;
      asks = two_asks kind last;
    }

-- the claim of the node at this place, where `at` has the claims before it
abbrev pub node_view_at : System → claims.Proof → ℕ → NodeView → (ℕ → ClaimView) → ℕ → ClaimView
node_view_at m p i (NodeView.Leaf e) at place = leaf_view m e
node_view_at m p i (NodeView.One kind) at place = one_view p i kind (at (place - 1))
node_view_at m p i (NodeView.Two kind last) at place
    = two_view p i kind last (at (place - 1)) (at last)

-- its parts stand before it, and a leaf is one of the model's
abbrev pub IsPlaced : System → ℕ → NodeView → Type 0
IsPlaced m place (NodeView.Leaf e) = IsModelLeaf m e
IsPlaced m place (NodeView.One kind) = 1 ≤ place
IsPlaced m place (NodeView.Two kind last) = (1 ≤ place) × (last < place)

abbrev pub ArePlaced : System → List NodeView → Type 0
ArePlaced m nodes
    = (k : ℕ) (d : NodeView) → k < length nodes → IsPlaced m k (slice_index_or nodes k d)

-- each claim is that of its node by those before it, where the last node has number 1
abbrev pub Follows : System → claims.Proof → List NodeView → (ℕ → ClaimView) → Type 0
Follows m p nodes at
    = (k : ℕ) (d : NodeView) → k < length nodes
    → at k ≡ node_view_at m p (length nodes - k) (slice_index_or nodes k d) at k

-- a call that adds one claim that is as it should be, or none where it was refused
pub record IsAdding {T : Type 0} (held : ℕ) (before after : Sets) (old new : List Claim)
    (Is : Claim → Type 0) (result : Result T SetRefusal) : Type 0 where
  pub added : List Claim
  pub items : new ≡ old ++ added
  pub call : IsCall held before after (claims_slots added) result
  pub one : OnOk result ((c : Claim) × (added ≡ c ∷ []) × Is c)

-- the claim has both pins where there was a second one, and else the first was released
pub record IsPaired (before after : Sets) (plus : Pin) (minus : Result Pin SetRefusal) (a : Asks)
    (result : Result Claim SetRefusal) : Type 0 where
  pub call : (start : Sets) (held : ℕ)
      → IsCall held start before (plus.slot ∷ pin_slots minus) minus
      → IsCall held start after (claim_result_slots result) result
  pub one : IfOk result
      (λ c. (after ≡ before) × (c.plus ≡ plus) × (minus ≡ Ok c.minus) × (c.asks ≡ a))
