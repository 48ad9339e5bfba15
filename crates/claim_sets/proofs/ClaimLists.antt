-- The list of a formula's claims, by its parts.
use Rattle.std.proofs.Common.{◌≡◌, ◌⊎◌, ℕ, ◌+◌, ◌-◌, ◌<◌, ◌≤◌, Bool, true, false, List, [], ◌∷◌, length, get_or, Some, None, refl, sym, ◌∙◌, ap, subst, arith}
use Rattle.std.specs.Option.{option_and_then}
use Rattle.kripke_model.specs.Ctl.{Ctl}
use Rattle.kripke_model.specs.Leaves.{IsModelLeaf, HasModelLeaves}
use Rattle.kripke_model.specs.Signs.{rule_of, until_rule, node_count}
use Rattle.kripke_model.specs.System.{System}
use Rattle.fair_rules.specs.Claims as claims
use Rattle.fair_rules.specs.Block.{demand, demand_at}
use Rattle.fair_rules.specs.Nodes.{node_at}
use Rattle.fair_rules.proofs.Nodes.{parts, some_nodes, own_node, node_range, some_node, parts_there}
use Rattle.proof_form.specs.declared.preorder.Unary.{Unary}
use Rattle.proof_form.specs.declared.preorder.Unary.TheVariants as unary
use Rattle.proof_form.specs.declared.preorder.Binary.{Binary}
use Rattle.proof_form.specs.declared.preorder.Binary.TheVariants as binary
use Rattle.claim_sets.specs.declared.claims.Asks.{Asks}
use Rattle.claim_sets.specs.declared.claims.Asks.TheVariants as asks
use Rattle.proof_form.specs.Preorder.{NodeView, one_of, two_of, nodes_from}
use Rattle.claim_sets.specs.Claimed.{AreBefore, AsksBefore, ArePlaced, ClaimView, Follows, IsPlaced, asked_by, claim_of, claims_of, demand_in, no_claim, node_view_at, one_asks, one_view, signed, two_asks, two_view, view_at}
use Rattle.proof_form.proofs.NodeLists.{joined, one_each, at_node}
use Rattle.proof_form.proofs.Preordered.{own_view, nodes_length, view_there}
use Rattle.proof_form.proofs.RuleAt.{no_node}
use Rattle.claim_sets.proofs.Placed.{IsPlacedBy, placed_by}

module _ (m : System) (p : claims.Proof) where
  -- what a node asks, in a list with so many in front of the claims of its parts
  abbrev pub root_asks : Ctl → ℕ → Asks
  root_asks (Ctl.Quant op f) b = asks.One op
  root_asks (Ctl.Until all f g) b = asks.Two all (b + node_count g - 1)
  root_asks f b = asks.Nothing

  abbrev root_claim : Ctl → ℕ → ℕ → ClaimView
  root_claim c n b = claim_of m p c n (root_asks c b)

  by_claims : (c : Ctl) (n b : ℕ) → claims_of m p c n b ≡ joined no_claim (claims_of m p) root_claim (parts c) n b (root_claim c n b ∷ [])
  by_claims (Ctl.Leaf e) n b = refl
  by_claims (Ctl.Not g) n b = refl
  by_claims (Ctl.And g h) n b = refl
  by_claims (Ctl.Or g h) n b = refl
  by_claims (Ctl.Implies g h) n b = refl
  by_claims (Ctl.Iff g h) n b = refl
  by_claims (Ctl.Quant op g) n b = refl
  by_claims (Ctl.Until all g h) n b = refl

  -- there is one for each node
  pub claims_length : (f : Ctl) (n b : ℕ) → length (claims_of m p f n b) ≡ node_count f
  claims_length f n b = one_each no_claim (claims_of m p) root_claim by_claims f n b

  -- the formula's own claim is the last one
  pub root : (f : Ctl) (n b k : ℕ) → k + 1 ≡ node_count f → view_at (claims_of m p f n b) k ≡ claim_of m p f n (root_asks f b)
  root f n b k e =
      at_node no_claim (claims_of m p) root_claim by_claims f n b n k f (own_node f n n refl) (omega (arith, e))
      ∙ ap (root_claim f n) (omega (arith, e))

  -- a node's claim, by those of its parts
  one_own : (kind : Unary) (f : Ctl) (n : ℕ) (a : Asks) → claim_of m p (one_of kind f) n (one_asks kind) ≡ one_view p n kind (claim_of m p f (n + 1) a)
  one_own unary.Not f n a = refl
  one_own (unary.Quantified op) f n a = λ i. record { plus = plus_of i; minus = minus_of i; asks = asks.One op }
    where
      plus_of : (claim_of m p (Ctl.Quant op f) n (asks.One op)).plus ≡ (one_view p n (unary.Quantified op) (claim_of m p f (n + 1) a)).plus
      plus_of = refl

      minus_of : (claim_of m p (Ctl.Quant op f) n (asks.One op)).minus ≡ (one_view p n (unary.Quantified op) (claim_of m p f (n + 1) a)).minus
      minus_of = refl

  two_own : (kind : Binary) (f g : Ctl) (n last : ℕ) (a c : Asks)
      → claim_of m p (two_of kind f g) n (two_asks kind last) ≡ two_view p n kind last (claim_of m p f (n + 1) a) (claim_of m p g (n + 1 + node_count f) c)
  two_own binary.And f g n last a c = refl
  two_own binary.Or f g n last a c = refl
  two_own binary.Implies f g n last a c = refl
  two_own binary.Iff f g n last a c = refl
  two_own (binary.Until all) f g n last a c = refl

  claimed_signed : (f : Ctl) (n : ℕ) (a : Asks) (sign : Bool) → claims.claimed m p f n sign ≡ signed (claim_of m p f n a) sign
  claimed_signed f n a true = refl
  claimed_signed f n a false = refl

  -- ---- each claim is that of its node by those before it

  module _ (f : Ctl) where
    abbrev at : ℕ → ClaimView
    at = view_at (claims_of m p f 1 0)

    -- the claim of node i at its place
    there : (i k : ℕ) (c : Ctl) → node_at f 1 i ≡ Some c → k + i ≡ node_count f → at k ≡ root_claim c i (k + 1 - node_count c)
    there i k c is e = at_node no_claim (claims_of m p) root_claim by_claims f 1 0 i k c is (omega (arith, e)) ∙ ap (root_claim c i) (omega arith)

    module _ (i k b : ℕ) (e : k + i ≡ node_count f) where
      -- the first part's claim stands right before the node's, and the last one's before those of the first part
      first_there : (g : Ctl) → node_at f 1 (i + 1) ≡ Some g → 2 ≤ k + 1 → at (k - 1) ≡ root_claim g (i + 1) (k - 1 + 1 - node_count g)
      first_there g is le = there (i + 1) (k - 1) g is (omega (arith, e, le))

      last_there : (g h : Ctl) → node_at f 1 (i + 1 + node_count g) ≡ Some h → b + (1 + node_count g + node_count h) ≡ k + 1
          → at (b + node_count h - 1) ≡ root_claim h (i + 1 + node_count g) (b + node_count h - 1 + 1 - node_count h)
      last_there g h is size = there (i + 1 + node_count g) (b + node_count h - 1) h is (omega (arith, e, size, some_nodes h))

      one_goes : (kind : Unary) (g : Ctl) → node_at f 1 (i + 1) ≡ Some g → b + (1 + node_count g) ≡ k + 1
          → claim_of m p (one_of kind g) i (one_asks kind) ≡ node_view_at m p i (NodeView.One kind) at k
      one_goes kind g is size =
          one_own kind g i (root_asks g (k - 1 + 1 - node_count g)) ∙ ap (one_view p i kind) (sym (first_there g is (omega (arith, size, some_nodes g))))

      two_goes : (kind : Binary) (g h : Ctl) → (node_at f 1 (i + 1) ≡ Some g) × (node_at f 1 (i + 1 + node_count g) ≡ Some h) → b + (1 + node_count g + node_count h) ≡ k + 1
          → claim_of m p (two_of kind g h) i (two_asks kind (b + node_count h - 1)) ≡ node_view_at m p i (NodeView.Two kind (b + node_count h - 1)) at k
      two_goes kind g h is size =
          two_own kind g h i (b + node_count h - 1) (root_asks g (k - 1 + 1 - node_count g)) (root_asks h (b + node_count h - 1 + 1 - node_count h))
          ∙ ap (λ v. two_view p i kind (b + node_count h - 1) v (root_claim h (i + 1 + node_count g) (b + node_count h - 1 + 1 - node_count h))) (sym (first_there g is.0 (omega (arith, size, some_nodes g))))
          ∙ ap (two_view p i kind (b + node_count h - 1) (at (k - 1))) (sym (last_there g h is.1 size))

      goes : (c : Ctl) → node_at f 1 i ≡ Some c → b + node_count c ≡ k + 1 → root_claim c i b ≡ node_view_at m p i (own_view c b) at k
      goes (Ctl.Leaf e) is size = refl
      goes (Ctl.Not g) is size = one_goes unary.Not g (parts_there f 1 i (Ctl.Not g) is) size
      goes (Ctl.And g h) is size = two_goes binary.And g h (parts_there f 1 i (Ctl.And g h) is) size
      goes (Ctl.Or g h) is size = two_goes binary.Or g h (parts_there f 1 i (Ctl.Or g h) is) size
      goes (Ctl.Implies g h) is size = two_goes binary.Implies g h (parts_there f 1 i (Ctl.Implies g h) is) size
      goes (Ctl.Iff g h) is size = two_goes binary.Iff g h (parts_there f 1 i (Ctl.Iff g h) is) size
      goes (Ctl.Quant op g) is size = one_goes (unary.Quantified op) g (parts_there f 1 i (Ctl.Quant op g) is) size
      goes (Ctl.Until all g h) is size = two_goes (binary.Until all) g h (parts_there f 1 i (Ctl.Until all g h) is) size

      -- and asks what is asked of its node
      asks_own : (sign : Bool) (c : Ctl) → node_at f 1 i ≡ Some c → b + node_count c ≡ k + 1 → demand m p c i sign ≡ asked_by at k sign (root_asks c b)
      asks_own sign (Ctl.Quant op g) is size =
          ap (λ F. Some (record { rule = rule_of op sign; first = claims.absent_argument (rule_of op sign); last = F }))
          (claimed_signed g (i + 1) (root_asks g (k - 1 + 1 - node_count g)) sign
          ∙ ap (λ w. signed w sign) (sym (first_there g (parts_there f 1 i (Ctl.Quant op g) is) (omega (arith, size, some_nodes g)))))
      asks_own sign (Ctl.Until all g h) is size =
          let r = parts_there f 1 i (Ctl.Until all g h) is in
          ap (λ F. Some (record { rule = until_rule all sign; first = F; last = claims.claimed m p h (i + 1 + node_count g) sign }))
          (claimed_signed g (i + 1) (root_asks g (k - 1 + 1 - node_count g)) sign ∙ ap (λ w. signed w sign) (sym (first_there g r.0 (omega (arith, size, some_nodes g)))))
          ∙ ap (λ G. Some (record { rule = until_rule all sign; first = signed (at (k - 1)) sign; last = G }))
          (claimed_signed h (i + 1 + node_count g) (root_asks h (b + node_count h - 1 + 1 - node_count h)) sign ∙ ap (λ w. signed w sign) (sym (last_there g h r.1 size)))
      asks_own sign _ is size = refl

    in_front : (i k : ℕ) (c : Ctl) → node_at f 1 i ≡ Some c → k + i ≡ node_count f → k + 1 - node_count c + node_count c ≡ k + 1
    in_front i k c is e = omega (arith, e, (node_range f 1 i c is).1)

    follows_at : (i k : ℕ) (d : NodeView) (c : Ctl) → node_at f 1 i ≡ Some c → k + i ≡ node_count f → at k ≡ node_view_at m p i (get_or (nodes_from f 0) k d) at k
    follows_at i k d c is e =
        there i k c is e ∙ goes i k (k + 1 - node_count c) e c is (in_front i k c is e)
        ∙ ap (λ v. node_view_at m p i v at k) (sym (view_there f i k d c is e))

    asked_at : (i k : ℕ) (sign : Bool) (c : Ctl) → node_at f 1 i ≡ Some c → k + i ≡ node_count f → demand_at m p f 1 i sign ≡ asked_by at k sign (at k).asks
    asked_at i k sign c is e =
        ap (option_and_then (λ g. demand m p g i sign)) is ∙ asks_own i k (k + 1 - node_count c) e sign c is (in_front i k c is e)
        ∙ ap (asked_by at k sign) (sym (ap (λ (v : ClaimView). v.asks) (there i k c is e)))

  pub follows : (f : Ctl) → Follows m p (nodes_from f 0) (view_at (claims_of m p f 1 0))
  follows f k d lt =
      let (c, is) = some_node f 1 (length (nodes_from f 0) - k) (omega (arith, lt)) (omega (arith, lt, nodes_length f 0)) in
      follows_at f (length (nodes_from f 0) - k) k d c is (omega (arith, lt, nodes_length f 0))

-- ---- what is asked

-- what is asked of a node is what is asked at its place of the list
pub demand_is : (m : System) (p : claims.Proof) (f : Ctl) (i : ℕ) (sign : Bool) → 1 ≤ i → i ≤ node_count f → demand_at m p f 1 i sign ≡ demand_in (claims_of m p f 1 0) (node_count f - i) sign
demand_is m p f i sign some le = let (c, is) = some_node f 1 i some (omega (arith, le)) in asked_at m p f i (node_count f - i) sign c is (omega (arith, le))

-- and of no other number anything is asked
pub no_demand : (m : System) (p : claims.Proof) (f : Ctl) (i : ℕ) (sign : Bool) → (i ≡ 0) ⊎ (node_count f < i) → demand_at m p f 1 i sign ≡ None
no_demand m p f i sign out = ap (option_and_then (λ g. demand m p g i sign)) (no_node f i out)

-- ---- the parts of each node stand before it

placed_is : (m : System) (place : ℕ) (node : NodeView) → IsPlacedBy (IsModelLeaf m) place node → IsPlaced m place node
placed_is m place (NodeView.Leaf e) h = h
placed_is m place (NodeView.One kind) h = h
placed_is m place (NodeView.Two kind last) h = h

pub are_placed : (m : System) (f : Ctl) → HasModelLeaves m f → ArePlaced m (nodes_from f 0)
are_placed m f leaves k d lt = placed_is m k (get_or (nodes_from f 0) k d) (placed_by (IsModelLeaf m) f leaves k d lt)

node_before : (m : System) (p : claims.Proof) (i place : ℕ) (node : NodeView) (at : ℕ → ClaimView) → IsPlacedBy (λ t. Unit {0}) place node → AsksBefore place (node_view_at m p i node at place).asks
node_before m p i place (NodeView.Leaf e) at h = tt
node_before m p i place (NodeView.One unary.Not) at h = tt
node_before m p i place (NodeView.One (unary.Quantified op)) at h = h
node_before m p i place (NodeView.Two binary.And last) at h = tt
node_before m p i place (NodeView.Two binary.Or last) at h = tt
node_before m p i place (NodeView.Two binary.Implies last) at h = tt
node_before m p i place (NodeView.Two binary.Iff last) at h = tt
node_before m p i place (NodeView.Two (binary.Until all) last) at h = h

-- so a claim asks for parts that stand before it
pub claims_before : (m : System) (p : claims.Proof) (f : Ctl) → AreBefore (claims_of m p f 1 0)
claims_before m p f k lt =
    let views : List ClaimView = claims_of m p f 1 0 in
    let node : NodeView = get_or (nodes_from f 0) k (NodeView.One unary.Not) in
    let here : k < length (nodes_from f 0) = omega (arith, lt, claims_length m p f 1 0, nodes_length f 0) in
    subst (λ (v : ClaimView). AsksBefore k v.asks) (sym (follows m p f k (NodeView.One unary.Not) here))
    (node_before m p (length (nodes_from f 0) - k) k node (view_at views) (placed_by (λ t. Unit {0}) f (λ t h. tt) k (NodeView.One unary.Not) here))
