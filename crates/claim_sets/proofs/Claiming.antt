-- Claims that are made one after another.
use Rattle.std.proofs.Common.{◌≡◌, inl, inr, ℕ, zero, suc, ◌+◌, ◌*◌, ◌-◌, ◌<◌, Bool, true, false, not, ◌&&◌, ◌||◌, List, [], ◌∷◌, ◌++◌, length, get_or, Result, Ok, Err, refl, sym, ◌∙◌, ap, subst, arith, length-append, append-nil}
use Rattle.std.proofs.lemmas.Bool.{cases_lt}
use Rattle.std.proofs.lemmas.List.{get_or_append_left, get_or-append-add}
use Rattle.kripke_model.specs.System.{System}
use Rattle.path_laws.specs.StateSet.{StateSet}
use Rattle.region_sets.specs.declared.pins.SetRefusal.{SetRefusal}
use Rattle.region_sets.specs.declared.pins.SetRefusal.TheVariants.{Memory}
use Rattle.region_sets.specs.Sets.{Sets, Adds, IsCall, is_one_of}
use Rattle.region_sets.proofs.Changes.{stays, adds_nothing}
use Rattle.region_sets.proofs.Calls.{then_call, let_go}
use Rattle.fair_rules.specs.Rules as rules
use Rattle.fair_rules.specs.Claims as claims
use Rattle.fair_rules.specs.Claims.{either, both, join_layers, join, entry_set}
use Rattle.proof_form.specs.declared.preorder.Unary.{Unary}
use Rattle.proof_form.specs.declared.preorder.Unary.TheVariants as unary
use Rattle.proof_form.specs.declared.preorder.Binary.{Binary}
use Rattle.proof_form.specs.declared.preorder.Binary.TheVariants as binary
use Rattle.claim_sets.specs.declared.claims.Claim.{Claim}
use Rattle.claim_sets.specs.declared.entry_sets.Ground.{Ground}
use Rattle.claim_sets.specs.EntrySets.{IsGround, IsGroundOf}
use Rattle.proof_form.specs.Preorder.{NodeView, node_view, node_views}
use Rattle.proof_form.specs.Agrees.{SameOn}
use Rattle.claim_sets.specs.Claimed.{AreSoFar, ArePlaced, ClaimView, Follows, IsAdding, IsClaim, IsPlaced, claim_slots, claims_slots, node_view_at, one_set, seen_claim, seen_claims, signed, two_set, view_at}
use Rattle.claim_sets.proofs.Grounds.{ground_of_then}
use Rattle.claim_sets.proofs.ClaimPins.{to_ok, to_err, to_memory, claims_append, claims_pins, seen_same, seen_at, claim_among}

-- ---- sets that agree on the states of the model make sets that do

module _ (m : System) where
  pub record Agree (v w : ClaimView) : Type 0 where
    pub plus : SameOn m v.plus w.plus
    pub minus : SameOn m v.minus w.minus

  signed_same : (v w : ClaimView) → Agree v w → (sign : Bool) → SameOn m (signed v sign) (signed w sign)
  signed_same v w a true = a.plus
  signed_same v w a false = a.minus

  entry_same : (ls : List rules.Layer) (e : claims.Entry) (g h : StateSet) → SameOn m g h → SameOn m (entry_set ls e g) (entry_set ls e h)
  entry_same ls claims.Entry.Absent g h a = λ s is. refl
  entry_same ls (claims.Entry.EX set) g h a = λ s is. refl
  entry_same ls (claims.Entry.AX set) g h a = λ s is. refl
  entry_same ls (claims.Entry.EU sets) g h a = λ s is. refl
  entry_same ls (claims.Entry.AU layers) g h a = λ s is. λ i. a s is i || (join_layers ls s || join_layers layers s)
  entry_same ls (claims.Entry.AR set) g h a = λ s is. refl
  entry_same ls (claims.Entry.ER set reaches untils) g h a = λ s is. refl

  one_same : (p : claims.Proof) (i : ℕ) (kind : Unary) (sign : Bool) (f f' : ClaimView) → Agree f f' → SameOn m (one_set p i kind sign f) (one_set p i kind sign f')
  one_same p i unary.Not sign f f' a = signed_same f f' a (not sign)
  one_same p i (unary.Quantified op) sign f f' a = entry_same p.nonfair (p.entries i sign) (signed f sign) (signed f' sign) (signed_same f f' a sign)

  two_same : (p : claims.Proof) (i : ℕ) (kind : Binary) (sign : Bool) (f f' g g' : ClaimView) → Agree f f' → Agree g g' → SameOn m (two_set p i kind sign f g) (two_set p i kind sign f' g')
  two_same p i binary.And true f f' g g' a b = λ s is. λ j. a.plus s is j && b.plus s is j
  two_same p i binary.And false f f' g g' a b = λ s is. λ j. a.minus s is j || b.minus s is j
  two_same p i binary.Or true f f' g g' a b = λ s is. λ j. a.plus s is j || b.plus s is j
  two_same p i binary.Or false f f' g g' a b = λ s is. λ j. a.minus s is j && b.minus s is j
  two_same p i binary.Implies true f f' g g' a b = λ s is. λ j. a.minus s is j || b.plus s is j
  two_same p i binary.Implies false f f' g g' a b = λ s is. λ j. a.plus s is j && b.minus s is j
  two_same p i binary.Iff true f f' g g' a b = λ s is. λ j. (a.plus s is j && b.plus s is j) || (a.minus s is j && b.minus s is j)
  two_same p i binary.Iff false f f' g g' a b = λ s is. λ j. (a.plus s is j && b.minus s is j) || (a.minus s is j && b.plus s is j)
  two_same p i (binary.Until all) sign f f' g g' a b = entry_same p.nonfair (p.entries i sign) (signed g sign) (signed g' sign) (signed_same g g' b sign)

  -- a claim made of others is one made of those that they stand for
  pub claim_moves : (now : Sets) (c : Claim) (p : claims.Proof) (i : ℕ) (node : NodeView) (at at' : ℕ → ClaimView) (place : ℕ) → IsPlaced m place node
      → ((k : ℕ) → k < place → Agree (at k) (at' k)) → IsClaim m now c (node_view_at m p i node at place) → IsClaim m now c (node_view_at m p i node at' place)
  claim_moves now c p i (NodeView.Leaf e) at at' place placed a is = is
  claim_moves now c p i (NodeView.One kind) at at' place placed a is = record {
    plus = λ s h. is.plus s h ∙ one_same p i kind true (at (place - 1)) (at' (place - 1)) (a (place - 1) (omega (arith, placed))) s h;
    minus = λ s h. is.minus s h ∙ one_same p i kind false (at (place - 1)) (at' (place - 1)) (a (place - 1) (omega (arith, placed))) s h;
    asks = is.asks;
  }
  claim_moves now c p i (NodeView.Two kind last) at at' place placed a is = record {
    plus = λ s h. is.plus s h ∙ two_same p i kind true (at (place - 1)) (at' (place - 1)) (at last) (at' last) (a (place - 1) (omega (arith, placed.0))) (a last placed.1) s h;
    minus = λ s h. is.minus s h ∙ two_same p i kind false (at (place - 1)) (at' (place - 1)) (at last) (at' last) (a (place - 1) (omega (arith, placed.0))) (a last placed.1) s h;
    asks = is.asks;
  }

  pub claim_later : (a b : Sets) (c : Claim) (v : ClaimView) → ((k : ℕ) → is_one_of k (claim_slots c) ≡ true → b.pins k ≡ a.pins k) → IsClaim m a c v → IsClaim m b c v
  claim_later a b c v kept is =
      let same : seen_claim b c ≡ seen_claim a c = seen_same a b c kept in record {
        plus = λ s h. ap (λ (w : ClaimView). w.plus s) same ∙ is.plus s h;
        minus = λ s h. ap (λ (w : ClaimView). w.minus s) same ∙ is.minus s h;
        asks = is.asks;
      }

  -- what the claims so far stand for
  pub so_far : (now : Sets) (cs : List Claim) (at : ℕ → ClaimView) → AreSoFar m now cs at → (k : ℕ) → k < length cs → Agree (view_at (seen_claims now cs) k) (at k)
  so_far now [] at are k lt = absurd (omega (arith, lt))
  so_far now (c ∷ cs) at are k lt =
      let is : IsClaim m now (get_or (c ∷ cs) k c) (at k) = are k c lt in
      subst (λ (w : ClaimView). Agree w (at k)) (sym (seen_at now (c ∷ cs) k c lt)) (record { plus = is.plus; minus = is.minus })

-- ---- the claims of a list of nodes

pub record IsClaiming (size : ℕ) (ground : Ground) (nodes : List NodeView) (s0 s : Sets) (k : ℕ) (cs : List Claim) : Type 0 where
  pub call : IsCall (2 * size + 4) {T = Unit {0}} s0 s (claims_slots cs) (Ok tt)
  pub count : length cs ≡ k
  pub each : (p : claims.Proof) (at : ℕ → ClaimView) → IsGroundOf s0 ground p → Follows s0.over p nodes at → AreSoFar s0.over s cs at

pub claiming_none : (size : ℕ) (ground : Ground) (nodes : List NodeView) (s : Sets) (cs : List Claim) → cs ≡ [] → IsClaiming size ground nodes s s 0 cs
claiming_none size ground nodes s cs none = subst (λ xs. IsClaiming size ground nodes s s 0 xs) (sym none) (record {
  call = record { pins = adds_nothing s; refusal = tt; fulls = omega arith; spare = λ room. refl };
  count = refl;
  each = λ p at of goes k d lt. absurd (omega (arith, lt));
})

module _ (size : ℕ) (ground : Ground) (nodes : List NodeView) (s0 s s' : Sets) (k number : ℕ) (cs new : List Claim) (node : NodeView) (ok : IsGround s0 ground) (i : IsClaiming size ground nodes s0 s k cs)
    (sized : length nodes ≡ size) (num : number ≡ size - k)
    (lt : k < size) (is : (d : NodeView) → node ≡ get_or nodes k d) (placed : ArePlaced s0.over nodes) where
  pub placed_there : IsPlaced s.over (length cs) node
  placed_there = subst (λ m. IsPlaced m (length cs) node) (sym i.call.pins.over)
      (subst (λ j. IsPlaced s0.over j node) (sym i.count) (subst (λ x. IsPlaced s0.over k x) (sym (is node)) (placed k node (omega (arith, lt, sized)))))

  abbrev Made : Claim → Type 0
  Made c = (p : claims.Proof) → IsGroundOf s ground p → IsClaim s.over s' c (node_view_at s.over p number node (view_at (seen_claims s cs)) (length cs))

  slots_are : {T : Type 0} {r : Result T SetRefusal} (a : IsAdding 4 s s' cs new Made r) → claims_slots cs ++ claims_slots a.added ≡ claims_slots new
  slots_are a = sym (claims_append cs a.added) ∙ ap claims_slots (sym a.items)

  pub claiming_call : {T : Type 0} (r : Result T SetRefusal) → IsAdding 4 s s' cs new Made r → IsCall (2 * size + 4) s0 s' (claims_slots new) r
  claiming_call r a = subst (λ ks. IsCall (2 * size + 4) s0 s' ks r) (slots_are a)
      (then_call (2 * size + 4) i.call a.call (omega arith) (omega (arith, claims_pins cs, i.count, lt)))

  pub claiming_more : {T : Type 0} (x : T) → IsAdding 4 s s' cs new Made (Ok x) → IsClaiming size ground nodes s0 s' (k + 1) new
  claiming_more x a = record {
    call = to_ok tt (claiming_call (Ok x) a);
    count = ap length items ∙ omega (arith, length-append cs (c ∷ []), i.count);
    each = λ p at of goes j d lt'. subst (λ xs. (d : Claim) → IsClaim s0.over s' (get_or xs j d) (at j)) (sym items) (each p at of goes j (omega (arith, lt', ap length items, length-append cs (c ∷ [])))) d;
  }
    where
      c : Claim
      c = a.one.0

      items : new ≡ cs ++ (c ∷ [])
      items = a.items ∙ ap (λ xs. cs ++ xs) a.one.1

      own : (p : claims.Proof) (at : ℕ → ClaimView) → IsGroundOf s0 ground p → Follows s0.over p nodes at → IsClaim s0.over s' c (at k)
      own p at of goes =
          let same : number ≡ length nodes - k = omega (arith, num, sized) in
          let made : IsClaim s.over s' c (node_view_at s.over p (length nodes - k) node (view_at (seen_claims s cs)) (length cs)) =
          subst (λ j. IsClaim s.over s' c (node_view_at s.over p j node (view_at (seen_claims s cs)) (length cs))) same (a.one.2 p (ground_of_then s0 s ground p i.call.pins ok of)) in
          let here : IsClaim s0.over s' c (node_view_at s0.over p (length nodes - k) node (view_at (seen_claims s cs)) k) =
          subst (λ m. IsClaim m s' c (node_view_at m p (length nodes - k) node (view_at (seen_claims s cs)) k)) i.call.pins.over
          (subst (λ j. IsClaim s.over s' c (node_view_at s.over p (length nodes - k) node (view_at (seen_claims s cs)) j)) i.count made) in
          subst (λ v. IsClaim s0.over s' c v) (sym (goes k node (omega (arith, lt, sized))))
          (subst (λ x. IsClaim s0.over s' c (node_view_at s0.over p (length nodes - k) x at k)) (is node)
          (claim_moves s0.over s' c p (length nodes - k) node (view_at (seen_claims s cs)) at k (subst (λ x. IsPlaced s0.over k x) (sym (is node)) (placed k node (omega (arith, lt, sized))))
          (λ j before. so_far s0.over s cs at (i.each p at of goes) j (omega (arith, before, i.count))) here))

      each : (p : claims.Proof) (at : ℕ → ClaimView) → IsGroundOf s0 ground p → Follows s0.over p nodes at → (j : ℕ) → j < length cs + 1 → (d : Claim) → IsClaim s0.over s' (get_or (cs ++ (c ∷ [])) j d) (at j)
      each p at of goes j lt' d = elim (cases_lt j (length cs)) [
        | inl before ↦ subst (λ x. IsClaim s0.over s' x (at j)) (sym (get_or_append_left cs (c ∷ []) d j before))
            (claim_later s0.over s s' (get_or cs j d) (at j) (λ h e. stays a.call.pins h (i.call.pins.there h (claim_among cs j d h before e))) (i.each p at of goes j d before))
        | inr past ↦ subst (λ x. IsClaim s0.over s' x (at j)) (sym (ap (λ h. get_or (cs ++ (c ∷ [])) h d) (omega (arith, past, lt')) ∙ get_or-append-add cs (c ∷ []) 0 d))
            (subst (λ h. IsClaim s0.over s' c (at h)) (omega (arith, past, lt', i.count)) (own p at of goes))
      ]

-- ---- one more claim

pub added_one : {T : Type 0} (s s' : Sets) (claim : Result Claim SetRefusal) (made : Claim) (x : T) (cs new : List Claim) (Is : Claim → Type 0) → new ≡ cs ++ (made ∷ [])
    → IsCall 4 s s' (claim_slots made) claim → Is made → IsAdding 4 s s' cs new Is (Ok x)
added_one s s' claim made x cs new Is items call is = record {
  added = made ∷ [];
  items = items;
  call = to_ok x (subst (λ ks. IsCall 4 s s' ks claim) (sym (append-nil (claim_slots made))) call);
  one = (made, refl, is);
}

pub added_none : {T : Type 0} (s s' : Sets) (refusal : SetRefusal) (cs new : List Claim) (Is : Claim → Type 0) → new ≡ cs → IsCall 4 {T = Claim} s s' [] (Err refusal) → IsAdding {T = T} 4 s s' cs new Is (Err refusal)
added_none s s' refusal cs new Is items call = record {
  added = [];
  items = items ∙ sym (append-nil cs);
  call = to_err refusal call;
  one = tt;
}

pub added_full : {T : Type 0} (s s' s'' : Sets) (claim : Result Claim SetRefusal) (made : Claim) (cs new : List Claim) (Is : Claim → Type 0) → new ≡ cs → IsCall 4 s s' (claim_slots made) claim
    → Adds s'' s' (claim_slots made) → s''.fulls ≡ s'.fulls → IsAdding {T = T} 4 s s'' cs new Is (Err Memory)
added_full s s' s'' claim made cs new Is items call out fulls = record {
  added = [];
  items = items ∙ sym (append-nil cs);
  call = to_memory (let_go {xs = claim_slots made} {ys = []} (subst (λ ks. IsCall 4 s s' ks claim) (sym (append-nil (claim_slots made))) call) out fulls);
  one = tt;
}
