-- The pins of claims, and calls that make them.
use Rattle.std.proofs.Common.{◌≡◌, ◌⊎◌, inl, inr, ℕ, zero, suc, ◌*◌, ◌-◌, ◌<◌, Bool, true, false, not, List, [], ◌∷◌, ◌++◌, length, get_or, Result, Ok, Err, refl, sym, ◌∙◌, ap, subst, arith, length-append, append_assoc}
use Rattle.std.specs.Prelude.{IfOk, OnOk}
use Rattle.std.proofs.lemmas.Bool.{false≢true, or_left, or_right, or_cases}
use Rattle.kripke_model.specs.Evaluation.{Holds, eval}
use Rattle.kripke_model.specs.Step.{IsState}
use Rattle.kripke_model.specs.System.{System, State}
use Rattle.kripke_model.specs.Term.{Term}
use Rattle.path_laws.specs.StateSet.{StateSet}
use Rattle.region_sets.specs.declared.pins.Pin.{Pin}
use Rattle.region_sets.specs.declared.pins.SetRefusal.{SetRefusal}
use Rattle.region_sets.specs.declared.pins.SetRefusal.TheVariants.{Memory}
use Rattle.region_sets.specs.Sets.{Sets, Adds, In, IsCall, IsLive, Stands, has_state, is_one_of, pin_slots, region}
use Rattle.region_sets.specs.Ranks.{AreLive}
use Rattle.region_sets.proofs.Slots.{is_one_of-left, is_one_of-right, is_one_of-first}
use Rattle.region_sets.proofs.Changes.{stays, adds_after, takes_back}
use Rattle.region_sets.proofs.Calls.{then_call, let_go, stays_over_release, In-at}
use Rattle.fair_rules.specs.Claims as claims
use Rattle.fair_rules.specs.Claims.{either, both, is_one, leaf_set, entry_set}
use Rattle.fair_rules.proofs.Fixpoints.{same_set}
use Rattle.fair_rules.proofs.ClaimsSound.{one_is}
use Rattle.proof_form.specs.declared.preorder.Unary.{Unary}
use Rattle.proof_form.specs.declared.preorder.Binary.{Binary}
use Rattle.proof_form.specs.declared.preorder.Binary.TheVariants as binary
use Rattle.claim_sets.specs.declared.claims.Asks.{Asks}
use Rattle.claim_sets.specs.declared.claims.Claim.{Claim}
use Rattle.claim_sets.specs.declared.entry_sets.Ground.{Ground}
use Rattle.claim_sets.specs.EntrySets.{IsGround, IsGroundOf}
use Rattle.proof_form.specs.Preorder.{NodeView}
use Rattle.proof_form.specs.Agrees.{SameOn}
use Rattle.claim_sets.specs.Claimed.{ClaimView, IsClaim, IsPaired, claim_result_slots, claim_slots, claims_slots, connected, leaf_view, node_view_at, one_set, one_view, seen_claim, seen_claims, side_of, signed, two_set, two_view, view_at}
use Rattle.claim_sets.proofs.FoundEntries.{both_states, set_joined, set_met}
use Rattle.claim_sets.proofs.Grounds.{ground_of_then}

-- ---- answers

pub to_ok : {T U : Type 0} {h : ℕ} {a b : Sets} {xs : List ℕ} {r : Result T SetRefusal} (x : U) → IsCall h a b xs r → IsCall h {T = U} a b xs (Ok x)
to_ok x p = record { pins = p.pins; refusal = tt; fulls = p.fulls; spare = p.spare }

pub to_memory : {T U : Type 0} {h : ℕ} {a b : Sets} {xs : List ℕ} {r : Result T SetRefusal} → IsCall h a b xs r → IsCall h {T = U} a b xs (Err Memory)
to_memory p = record { pins = p.pins; refusal = tt; fulls = p.fulls; spare = p.spare }

pub to_err : {T U : Type 0} {h : ℕ} {a b : Sets} {xs : List ℕ} (e : SetRefusal) → IsCall h {T = T} a b xs (Err e) → IsCall h {T = U} a b xs (Err e)
to_err e p = record { pins = p.pins; refusal = p.refusal; fulls = p.fulls; spare = p.spare }

pub if_ok : {T : Type 0} {P Q : T → Type 0} (r : Result T SetRefusal) → ((x : T) → P x → Q x) → IfOk r P → IfOk r Q
if_ok (Ok x) f p = f x p
if_ok (Err e) f p = tt

pub on_ok : {T P Q : Type 0} (r : Result T SetRefusal) → (P → Q) → OnOk r P → OnOk r Q
on_ok (Ok x) f p = f p
on_ok (Err e) f p = tt

-- ---- a claim's pins

pub side_live : (now : Sets) (c : Claim) (sign : Bool) → AreLive now (claim_slots c) → IsLive now (side_of c sign).slot
side_live now c true live = live c.plus.slot (is_one_of-first c.plus.slot (c.minus.slot ∷ []))
side_live now c false live = live c.minus.slot (is_one_of-right c.minus.slot (c.plus.slot ∷ []) (c.minus.slot ∷ []) (is_one_of-first c.minus.slot []))

pub side_set : (now : Sets) (c : Claim) (sign : Bool) → region now (side_of c sign) ≡ signed (seen_claim now c) sign
side_set now c true = refl
side_set now c false = refl

pub seen_same : (a b : Sets) (c : Claim) → ((k : ℕ) → is_one_of k (claim_slots c) ≡ true → b.pins k ≡ a.pins k) → seen_claim b c ≡ seen_claim a c
seen_same a b c kept =
    let plus : region b c.plus ≡ region a c.plus = ap has_state (kept c.plus.slot (is_one_of-first c.plus.slot (c.minus.slot ∷ []))) in
    let minus : region b c.minus ≡ region a c.minus =
    ap has_state (kept c.minus.slot (is_one_of-right c.minus.slot (c.plus.slot ∷ []) (c.minus.slot ∷ []) (is_one_of-first c.minus.slot []))) in
    λ i. record { plus = plus i; minus = minus i; asks = c.asks }

pub claims_append : (xs ys : List Claim) → claims_slots (xs ++ ys) ≡ claims_slots xs ++ claims_slots ys
claims_append [] ys = refl
claims_append (x ∷ xs) ys = ap (λ ks. claim_slots x ++ ks) (claims_append xs ys) ∙ sym (append_assoc (claim_slots x) (claims_slots xs) (claims_slots ys))

pub claims_pins : (xs : List Claim) → length (claims_slots xs) ≡ 2 * length xs
claims_pins [] = refl
claims_pins (x ∷ xs) = omega (arith, length-append (claim_slots x) (claims_slots xs), claims_pins xs)

pub claim_among : (xs : List Claim) (i : ℕ) (d : Claim) (k : ℕ) → i < length xs → is_one_of k (claim_slots (get_or xs i d)) ≡ true → is_one_of k (claims_slots xs) ≡ true
claim_among [] i d k lt h = absurd (omega (arith, lt))
claim_among (x ∷ xs) zero d k lt h = is_one_of-left k (claim_slots x) (claims_slots xs) h
claim_among (x ∷ xs) (suc i) d k lt h = is_one_of-right k (claim_slots x) (claims_slots xs) (claim_among xs i d k (omega (arith, lt)) h)

pub claim_live : (now : Sets) (xs : List Claim) (i : ℕ) (d : Claim) → i < length xs → AreLive now (claims_slots xs) → AreLive now (claim_slots (get_or xs i d))
claim_live now xs i d lt live k h = live k (claim_among xs i d k lt h)

pub seen_at : (now : Sets) (xs : List Claim) (i : ℕ) (d : Claim) → i < length xs → view_at (seen_claims now xs) i ≡ seen_claim now (get_or xs i d)
seen_at now [] i d lt = absurd (omega (arith, lt))
seen_at now (x ∷ xs) zero d lt = refl
seen_at now (x ∷ xs) (suc i) d lt = seen_at now xs i d (omega (arith, lt))

any_default : (cs : List Claim) (k : ℕ) (d e : Claim) → k < length cs → get_or cs k d ≡ get_or cs k e
any_default [] k d e lt = absurd (omega (arith, lt))
any_default (c ∷ cs) zero d e lt = refl
any_default (c ∷ cs) (suc k) d e lt = any_default cs k d e (omega (arith, lt))

pub default_moves : (cs : List Claim) (k : ℕ) (d : Claim) → k < length cs → get_or cs k d ≡ get_or cs k (get_or cs k d)
default_moves cs k d lt = any_default cs k d (get_or cs k d) lt

-- ---- two sets, of which the second may have been refused

pub paired_ok : (s : Sets) (plus minus : Pin) (a : Asks) → IsPaired s s plus (Ok minus) a (Ok (record { plus = plus; minus = minus; asks = a }))
paired_ok s plus minus a = record {
  call = λ start held p. to_ok (record { plus = plus; minus = minus; asks = a }) p;
  one = (refl, refl, refl, refl);
}

pub paired_err : (s s' : Sets) (plus : Pin) (refusal : SetRefusal) (a : Asks) → Adds s' s (plus.slot ∷ []) → s'.fulls ≡ s.fulls → IsPaired s s' plus (Err refusal) a (Err refusal)
paired_err s s' plus refusal a out fulls = record {
  call = λ start held p. to_err {T = Pin} refusal (let_go {xs = plus.slot ∷ []} {ys = []} p out fulls);
  one = tt;
}

-- ---- sets of two pins

pub connect_met : (s0 s1 : Sets) (a b : Pin) (r : Result Pin SetRefusal) (meets : Bool) → meets ≡ true → IfOk r (λ pin. Stands s1 pin.slot (λ s. In s0 a.slot s × In s0 b.slot s))
    → IfOk r (λ pin. region s1 pin ≡ connected meets (region s0 a) (region s0 b))
connect_met s0 s1 a b r meets is h = subst (λ y. IfOk r (λ pin. region s1 pin ≡ connected y (region s0 a) (region s0 b))) (sym is) (set_met s0 s1 a.slot b.slot r h)

pub connect_joined : (s0 s1 : Sets) (a b : Pin) (r : Result Pin SetRefusal) (meets : Bool) → meets ≡ false → IfOk r (λ pin. Stands s1 pin.slot (λ s. In s0 a.slot s ⊎ In s0 b.slot s))
    → IfOk r (λ pin. region s1 pin ≡ connected meets (region s0 a) (region s0 b))
connect_joined s0 s1 a b r meets is h = subst (λ y. IfOk r (λ pin. region s1 pin ≡ connected y (region s0 a) (region s0 b))) (sym is) (set_joined s0 s1 a.slot b.slot r h)

pub agreement_set : (s0 s1 s2 s3 s4 s5 : Sets) (fp gp fm gm p q : ℕ) (r : Result Pin SetRefusal) → IsLive s0 fm → IsLive s0 gm
    → Adds s0 s1 (p ∷ []) → Stands s1 p (λ s. In s0 fp s × In s0 gp s)
    → Adds s1 s2 (q ∷ []) → Stands s2 q (λ s. In s1 fm s × In s1 gm s)
    → Adds s2 s3 (pin_slots r) → IfOk r (λ o. Stands s3 o.slot (λ s. In s2 p s ⊎ In s2 q s))
    → Adds s4 s3 (p ∷ []) → Adds s5 s4 (q ∷ [])
    → IfOk r (λ o. region s5 o ≡ either (both (has_state (s0.pins fp)) (has_state (s0.pins gp))) (both (has_state (s0.pins fm)) (has_state (s0.pins gm))))
agreement_set s0 s1 s2 s3 s4 s5 fp gp fm gm p q (Err refusal) lfm lgm p1 g1 p2 g2 p3 g3 r4 r5 = tt
agreement_set s0 s1 s2 s3 s4 s5 fp gp fm gm p q (Ok o) lfm lgm p1 g1 p2 g2 p3 g3 r4 r5 =
    ap has_state (stays_over_release (o.slot ∷ []) (takes_back {xs = p ∷ []} {ys = q ∷ o.slot ∷ []} whole r4) r5 o.slot (is_one_of-first o.slot [])
    ∙ stays_over_release {xs = p ∷ []} (q ∷ o.slot ∷ []) whole r4 o.slot (is_one_of-right o.slot (q ∷ []) (o.slot ∷ []) (is_one_of-first o.slot [])))
    ∙ same_set (region s3 o) (either (both (has_state (s0.pins fp)) (has_state (s0.pins gp))) (both (has_state (s0.pins fm)) (has_state (s0.pins gm)))) (λ s. (
      λ e. elim ((g3 s).0 e) [
        | inl h ↦ or_left (both (has_state (s0.pins fp)) (has_state (s0.pins gp)) s) (both (has_state (s0.pins fm)) (has_state (s0.pins gm)) s)
            ((both_states (has_state (s0.pins fp)) (has_state (s0.pins gp)) s).0 ((g1 s).0 ((In-at s1 s2 p s p_at2).0 h)))
        | inr h ↦ or_right (both (has_state (s0.pins fp)) (has_state (s0.pins gp)) s) (both (has_state (s0.pins fm)) (has_state (s0.pins gm)) s)
            (let m = (g2 s).0 h in (both_states (has_state (s0.pins fm)) (has_state (s0.pins gm)) s).0 ((In-at s0 s1 fm s (stays p1 fm lfm)).0 m.0, (In-at s0 s1 gm s (stays p1 gm lgm)).0 m.1))
      ],
      λ e. (g3 s).1 (elim (or_cases (both (has_state (s0.pins fp)) (has_state (s0.pins gp)) s) (both (has_state (s0.pins fm)) (has_state (s0.pins gm)) s) e) [
        | inl h ↦ inl ((In-at s1 s2 p s p_at2).1 ((g1 s).1 ((both_states (has_state (s0.pins fp)) (has_state (s0.pins gp)) s).1 h)))
        | inr h ↦ (let m = (both_states (has_state (s0.pins fm)) (has_state (s0.pins gm)) s).1 h in
            inr ((g2 s).1 ((In-at s0 s1 fm s (stays p1 fm lfm)).1 m.0, (In-at s0 s1 gm s (stays p1 gm lgm)).1 m.1)))
      ]),
    ))
  where
    whole : Adds s0 s3 ((p ∷ []) ++ (q ∷ o.slot ∷ []))
    whole = adds_after (adds_after p1 p2) p3

    p_at2 : s2.pins p ≡ s1.pins p
    p_at2 = stays p2 p (p1.there p (is_one_of-first p []))

-- ---- nodes of one part, and of two

pub by_kind : (p : claims.Proof) (i : ℕ) (kind known : Unary) (sign : Bool) (f : ClaimView) (X : StateSet) → kind ≡ known → X ≡ one_set p i known sign f → X ≡ one_set p i kind sign f
by_kind p i kind known sign f X is same = same ∙ ap (λ k. one_set p i k sign f) (sym is)

pub by_kinds : (p : claims.Proof) (i : ℕ) (kind known : Binary) (sign : Bool) (f g : ClaimView) (X : StateSet) → kind ≡ known → X ≡ two_set p i known sign f g → X ≡ two_set p i kind sign f g
by_kinds p i kind known sign f g X is same = same ∙ ap (λ k. two_set p i k sign f g) (sym is)

and_set : (p : claims.Proof) (i : ℕ) (sign : Bool) (f g : ClaimView) → connected sign (signed f sign) (signed g sign) ≡ two_set p i binary.And sign f g
and_set p i true f g = refl
and_set p i false f g = refl

or_set : (p : claims.Proof) (i : ℕ) (sign : Bool) (f g : ClaimView) → connected (not sign) (signed f sign) (signed g sign) ≡ two_set p i binary.Or sign f g
or_set p i true f g = refl
or_set p i false f g = refl

implies_set : (p : claims.Proof) (i : ℕ) (sign : Bool) (f g : ClaimView) → connected (not sign) (signed f (not sign)) (signed g sign) ≡ two_set p i binary.Implies sign f g
implies_set p i true f g = refl
implies_set p i false f g = refl

iff_set : (p : claims.Proof) (i : ℕ) (sign : Bool) (f g : ClaimView) → either (both f.plus (signed g sign)) (both f.minus (signed g (not sign))) ≡ two_set p i binary.Iff sign f g
iff_set p i true f g = refl
iff_set p i false f g = refl

sides : (now : Sets) (b : Bool) (f g : Claim) (x y : Bool) → connected b (region now (side_of f x)) (region now (side_of g y)) ≡ connected b (signed (seen_claim now f) x) (signed (seen_claim now g) y)
sides now b f g x y = ap (λ F. connected b F (region now (side_of g y))) (side_set now f x) ∙ ap (connected b (signed (seen_claim now f) x)) (side_set now g y)

pub connected_at : (now : Sets) (b : Bool) (x y x' y' : Pin) → x ≡ x' → y ≡ y' → connected b (region now x) (region now y) ≡ connected b (region now x') (region now y')
connected_at now b x y x' y' e f = λ i. connected b (region now (e i)) (region now (f i))

module _ (s0 s1 : Sets) (p : claims.Proof) (i : ℕ) (sign : Bool) (f g : Claim) (pin : Pin) where
  pub and_is : (kind : Binary) → kind ≡ binary.And → region s1 pin ≡ connected sign (region s0 (side_of f sign)) (region s0 (side_of g sign)) → region s1 pin ≡ two_set p i kind sign (seen_claim s0 f) (seen_claim s0 g)
  and_is kind is h = by_kinds p i kind binary.And sign (seen_claim s0 f) (seen_claim s0 g) (region s1 pin) is (h ∙ sides s0 sign f g sign sign ∙ and_set p i sign (seen_claim s0 f) (seen_claim s0 g))

  pub or_is : (kind : Binary) → kind ≡ binary.Or → region s1 pin ≡ connected (not sign) (region s0 (side_of f sign)) (region s0 (side_of g sign)) → region s1 pin ≡ two_set p i kind sign (seen_claim s0 f) (seen_claim s0 g)
  or_is kind is h = by_kinds p i kind binary.Or sign (seen_claim s0 f) (seen_claim s0 g) (region s1 pin) is (h ∙ sides s0 (not sign) f g sign sign ∙ or_set p i sign (seen_claim s0 f) (seen_claim s0 g))

  pub implies_is : (kind : Binary) → kind ≡ binary.Implies → region s1 pin ≡ connected (not sign) (region s0 (side_of f (not sign))) (region s0 (side_of g sign))
      → region s1 pin ≡ two_set p i kind sign (seen_claim s0 f) (seen_claim s0 g)
  implies_is kind is h =
      by_kinds p i kind binary.Implies sign (seen_claim s0 f) (seen_claim s0 g) (region s1 pin) is (h ∙ sides s0 (not sign) f g (not sign) sign ∙ implies_set p i sign (seen_claim s0 f) (seen_claim s0 g))

  pub iff_is : (kind : Binary) → kind ≡ binary.Iff
      → region s1 pin ≡ either (both (region s0 f.plus) (region s0 (side_of g sign))) (both (region s0 f.minus) (region s0 (side_of g (not sign))))
      → region s1 pin ≡ two_set p i kind sign (seen_claim s0 f) (seen_claim s0 g)
  iff_is kind is h = by_kinds p i kind binary.Iff sign (seen_claim s0 f) (seen_claim s0 g) (region s1 pin) is
      (h ∙ ap (λ G. either (both (region s0 f.plus) G) (both (region s0 f.minus) (region s0 (side_of g (not sign))))) (side_set s0 g sign)
      ∙ ap (λ G. either (both (region s0 f.plus) (signed (seen_claim s0 g) sign)) (both (region s0 f.minus) G)) (side_set s0 g (not sign))
      ∙ iff_set p i sign (seen_claim s0 f) (seen_claim s0 g))

  pub until_is : (all : Bool) (kind : Binary) → kind ≡ binary.Until all → region s1 pin ≡ entry_set p.nonfair (p.entries i sign) (region s0 (side_of g sign))
      → region s1 pin ≡ two_set p i kind sign (seen_claim s0 f) (seen_claim s0 g)
  until_is all kind is h = by_kinds p i kind (binary.Until all) sign (seen_claim s0 f) (seen_claim s0 g) (region s1 pin) is (h ∙ ap (entry_set p.nonfair (p.entries i sign)) (side_set s0 g sign))

-- ---- leaves

same_bool : (a b : Bool) → (a ≡ true → b ≡ true) → (b ≡ true → a ≡ true) → a ≡ b
same_bool true true f g = refl
same_bool false false f g = refl
same_bool true false f g = sym (f refl)
same_bool false true f g = g refl

not_false : (b : Bool) → (b ≡ true → ⊥) → not b ≡ true
not_false true f = absurd (f refl)
not_false false f = refl

not_true : (b : Bool) → not b ≡ true → b ≡ true → ⊥
not_true true e is = false≢true e
not_true false e is = false≢true is

pub leaf_is : (m : System) (e : Term) (s0 s1 s2 : Sets) (full plus minus : ℕ) → ((s : State) → IsState m s → In s0 full s) → IsLive s0 full
    → Adds s0 s1 (plus ∷ []) → Stands s1 plus (λ s. IsState m s × Holds m e s s) → Adds s1 s2 (minus ∷ []) → Stands s2 minus (λ s. In s1 full s × (In s1 plus s → ⊥))
    → SameOn m (has_state (s2.pins plus)) (λ s. leaf_set true (eval m e s s)) × SameOn m (has_state (s2.pins minus)) (λ s. leaf_set false (eval m e s s))
leaf_is m e s0 s1 s2 full plus minus all live p plus_is q minus_is = (
  λ s is. ap (λ o. has_state o s) (stays q plus (p.there plus (is_one_of-first plus []))) ∙ plus_at s is,
  λ s is. same_bool (has_state (s2.pins minus) s) (not (is_one (eval m e s s)))
      (λ h. not_false (is_one (eval m e s s)) (λ one. ((minus_is s).0 h).1 (plus_at s is ∙ one)))
      (λ h. (minus_is s).1 ((In-at s0 s1 full s (stays p full live)).1 (all s is), λ there. not_true (is_one (eval m e s s)) h (sym (plus_at s is) ∙ there))),
)
  where
    plus_at : (s : State) → IsState m s → has_state (s1.pins plus) s ≡ is_one (eval m e s s)
    plus_at s is = same_bool (has_state (s1.pins plus) s) (is_one (eval m e s s)) (λ h. ap is_one ((plus_is s).0 h).1) (λ h. (plus_is s).1 (is, one_is (eval m e s s) h))

-- ---- one claim

pub leaf_claimed : (m : System) (e : Term) (s0 s1 s2 s3 : Sets) (full : ℕ) (plus : Pin) (minus : Result Pin SetRefusal) (a : Asks) (r : Result Claim SetRefusal) → ((s : State) → IsState m s → In s0 full s) → IsLive s0 full
    → Adds s0 s1 (plus.slot ∷ []) → Stands s1 plus.slot (λ s. IsState m s × Holds m e s s) → Adds s1 s2 (pin_slots minus)
    → IfOk minus (λ q. Stands s2 q.slot (λ s. In s1 full s × (In s1 plus.slot s → ⊥))) → IsPaired s2 s3 plus minus a r → a ≡ (leaf_view m e).asks
    → IfOk r (λ c. IsClaim m s3 c (leaf_view m e))
leaf_claimed m e s0 s1 s2 s3 full plus minus a r all live p plus_is q minus_is pair asks_is = if_ok r (λ c (same, plus_same, minus_same, asks_same).
    let sets = leaf_is m e s0 s1 s2 full plus.slot c.minus.slot all live p plus_is (subst (λ x. Adds s1 s2 (pin_slots x)) minus_same q)
    (subst (λ x. IfOk x (λ y. Stands s2 y.slot (λ s. In s1 full s × (In s1 plus.slot s → ⊥)))) minus_same minus_is) in record {
      plus = λ s is. ap (λ t. region t c.plus s) same ∙ ap (λ x. region s2 x s) plus_same ∙ sets.0 s is;
      minus = λ s is. ap (λ t. region t c.minus s) same ∙ sets.1 s is;
      asks = asks_same ∙ asks_is;
    }) pair.one

pub paired_call : (s0 s1 s2 s3 : Sets) (plus : Pin) (minus : Result Pin SetRefusal) (a : Asks) (r : Result Claim SetRefusal) → IsCall 3 {T = Pin} s0 s1 (plus.slot ∷ []) (Ok plus) → IsCall 3 s1 s2 (pin_slots minus) minus
    → IsPaired s2 s3 plus minus a r → IsCall 4 s0 s3 (claim_result_slots r) r
paired_call s0 s1 s2 s3 plus minus a r p q pair = pair.call s0 4 (then_call {xs = plus.slot ∷ []} 4 p q (omega arith) (omega arith))

-- the claim of two sets that are known for each proof
pub paired_view : {P : Type 0} (X Y : P → StateSet) (s1 s2 s3 : Sets) (plus : Pin) (minus : Result Pin SetRefusal) (a b : Asks) (r : Result Claim SetRefusal) → IsLive s1 plus.slot → Adds s1 s2 (pin_slots minus)
    → ((p : P) → region s1 plus ≡ X p) → IfOk minus (λ q. (p : P) → region s2 q ≡ Y p) → IsPaired s2 s3 plus minus a r → a ≡ b
    → IfOk r (λ c. (p : P) → seen_claim s3 c ≡ record { plus = X p; minus = Y p; asks = b })
paired_view {P} X Y s1 s2 s3 plus minus a b r live q plus_is minus_is pair asks_is = if_ok r (λ c (same, plus_same, minus_same, asks_same) p.
    let first : region s3 c.plus ≡ X p = ap (λ t. region t c.plus) same ∙ ap (region s2) plus_same ∙ ap has_state (stays q plus.slot live) ∙ plus_is p in
    let last : region s3 c.minus ≡ Y p = ap (λ t. region t c.minus) same ∙ subst (λ x. IfOk x (λ y. (o : P) → region s2 y ≡ Y o)) minus_same minus_is p in
    let asked : c.asks ≡ b = asks_same ∙ asks_is in
    λ i. record { plus = first i; minus = last i; asks = asked i }) pair.one

abbrev GroundProof : Sets → Ground → Type 0
GroundProof s ground = (p : claims.Proof) × IsGroundOf s ground p

pub unary_view : (ground : Ground) (kind : Unary) (i : ℕ) (f : Claim) (s0 s1 s2 s3 : Sets) (plus : Pin) (minus : Result Pin SetRefusal) (a b : Asks) (r : Result Claim SetRefusal) → IsGround s0 ground → AreLive s0 (claim_slots f)
    → IsCall 3 {T = Pin} s0 s1 (plus.slot ∷ []) (Ok plus) → ((p : claims.Proof) → IsGroundOf s0 ground p → region s1 plus ≡ one_set p i kind true (seen_claim s0 f))
    → Adds s1 s2 (pin_slots minus) → IfOk minus (λ q. (p : claims.Proof) → IsGroundOf s1 ground p → region s2 q ≡ one_set p i kind false (seen_claim s1 f))
    → IsPaired s2 s3 plus minus a r → a ≡ b
    → IfOk r (λ c. (p : claims.Proof) → IsGroundOf s0 ground p → seen_claim s3 c ≡ record { plus = one_set p i kind true (seen_claim s0 f); minus = one_set p i kind false (seen_claim s0 f); asks = b })
unary_view ground kind i f s0 s1 s2 s3 plus minus a b r g live p plus_is q minus_is pair asks_is =
    if_ok r (λ c h o of. h (o, of))
    (paired_view (λ (x : GroundProof s0 ground). one_set x.0 i kind true (seen_claim s0 f)) (λ (x : GroundProof s0 ground). one_set x.0 i kind false (seen_claim s0 f)) s1 s2 s3 plus minus a b r
    (p.pins.there plus.slot (is_one_of-first plus.slot [])) q (λ x. plus_is x.0 x.1)
    (if_ok minus (λ y h x. h x.0 (ground_of_then s0 s1 ground x.0 p.pins g x.1) ∙ ap (one_set x.0 i kind false) (seen_same s0 s1 f (λ k e. stays p.pins k (live k e)))) minus_is) pair asks_is)

pub binary_view : (ground : Ground) (kind : Binary) (i : ℕ) (f h : Claim) (s0 s1 s2 s3 : Sets) (plus : Pin) (minus : Result Pin SetRefusal) (a b : Asks) (r : Result Claim SetRefusal) → IsGround s0 ground
    → AreLive s0 (claim_slots f) → AreLive s0 (claim_slots h)
    → IsCall 3 {T = Pin} s0 s1 (plus.slot ∷ []) (Ok plus) → ((p : claims.Proof) → IsGroundOf s0 ground p → region s1 plus ≡ two_set p i kind true (seen_claim s0 f) (seen_claim s0 h))
    → Adds s1 s2 (pin_slots minus) → IfOk minus (λ q. (p : claims.Proof) → IsGroundOf s1 ground p → region s2 q ≡ two_set p i kind false (seen_claim s1 f) (seen_claim s1 h))
    → IsPaired s2 s3 plus minus a r → a ≡ b
    → IfOk r (λ c. (p : claims.Proof) → IsGroundOf s0 ground p
    → seen_claim s3 c ≡ record { plus = two_set p i kind true (seen_claim s0 f) (seen_claim s0 h); minus = two_set p i kind false (seen_claim s0 f) (seen_claim s0 h); asks = b })
binary_view ground kind i f h s0 s1 s2 s3 plus minus a b r g live_f live_h p plus_is q minus_is pair asks_is =
    if_ok r (λ c e o of. e (o, of))
    (paired_view (λ (x : GroundProof s0 ground). two_set x.0 i kind true (seen_claim s0 f) (seen_claim s0 h)) (λ (x : GroundProof s0 ground). two_set x.0 i kind false (seen_claim s0 f) (seen_claim s0 h)) s1 s2 s3 plus minus a b r
    (p.pins.there plus.slot (is_one_of-first plus.slot [])) q (λ x. plus_is x.0 x.1)
    (if_ok minus (λ y e x. e x.0 (ground_of_then s0 s1 ground x.0 p.pins g x.1)
    ∙ ap (λ v. two_set x.0 i kind false v (seen_claim s1 h)) (seen_same s0 s1 f (λ k t. stays p.pins k (live_f k t)))
    ∙ ap (two_set x.0 i kind false (seen_claim s0 f)) (seen_same s0 s1 h (λ k t. stays p.pins k (live_h k t)))) minus_is) pair asks_is)

-- ---- a node's claim by those before it

pub is_seen : (m : System) (now : Sets) (c : Claim) (v : ClaimView) → seen_claim now c ≡ v → IsClaim m now c v
is_seen m now c v e = record {
  plus = λ s is. ap (λ (w : ClaimView). w.plus s) e;
  minus = λ s is. ap (λ (w : ClaimView). w.minus s) e;
  asks = ap (λ (w : ClaimView). w.asks) e;
}

module _ (m : System) (s0 s1 : Sets) (ground : Ground) (i : ℕ) (cs : List Claim) (r : Result Claim SetRefusal) where
  abbrev Comes : NodeView → Type 0
  Comes node = IfOk r (λ c. (p : claims.Proof) → IsGroundOf s0 ground p → IsClaim m s1 c (node_view_at m p i node (view_at (seen_claims s0 cs)) (length cs)))

  pub leaf_comes : (e : Term) (node : NodeView) → node ≡ NodeView.Leaf e → IfOk r (λ c. IsClaim m s1 c (leaf_view m e)) → Comes node
  leaf_comes e node is h = subst Comes (sym is) (if_ok r (λ c x p of. x) h)

  pub one_comes : (kind : Unary) (node : NodeView) (f : Claim) (at : ℕ) → node ≡ NodeView.One kind → at ≡ length cs - 1 → at < length cs → f ≡ get_or cs at f
      → IfOk r (λ c. (p : claims.Proof) → IsGroundOf s0 ground p → seen_claim s1 c ≡ one_view p i kind (seen_claim s0 f)) → Comes node
  one_comes kind node f at is place lt f_is h = subst Comes (sym is)
      (if_ok r (λ c x p of. is_seen m s1 c (one_view p i kind (view_at (seen_claims s0 cs) (length cs - 1))) (x p of ∙ ap (one_view p i kind) (sym (at_f at place lt)))) h)
    where
      at_f : (k : ℕ) → k ≡ length cs - 1 → k < length cs → view_at (seen_claims s0 cs) (length cs - 1) ≡ seen_claim s0 f
      at_f k e l = ap (view_at (seen_claims s0 cs)) (sym place) ∙ seen_at s0 cs at f lt ∙ ap (seen_claim s0) (sym f_is)

  pub two_comes : (kind : Binary) (last : ℕ) (node : NodeView) (f g : Claim) (at : ℕ) → node ≡ NodeView.Two kind last → at ≡ length cs - 1 → at < length cs → last < length cs → f ≡ get_or cs at f → g ≡ get_or cs last g
      → IfOk r (λ c. (p : claims.Proof) → IsGroundOf s0 ground p → seen_claim s1 c ≡ two_view p i kind last (seen_claim s0 f) (seen_claim s0 g)) → Comes node
  two_comes kind last node f g at is place lt lt_g f_is g_is h = subst Comes (sym is)
      (if_ok r (λ c x p of. is_seen m s1 c (two_view p i kind last (view_at (seen_claims s0 cs) (length cs - 1)) (view_at (seen_claims s0 cs) last))
      (x p of ∙ ap (λ v. two_view p i kind last v (seen_claim s0 g)) (sym at_f) ∙ ap (two_view p i kind last (view_at (seen_claims s0 cs) (length cs - 1))) (sym at_g))) h)
    where
      at_f : view_at (seen_claims s0 cs) (length cs - 1) ≡ seen_claim s0 f
      at_f = ap (view_at (seen_claims s0 cs)) (sym place) ∙ seen_at s0 cs at f lt ∙ ap (seen_claim s0) (sym f_is)

      at_g : view_at (seen_claims s0 cs) last ≡ seen_claim s0 g
      at_g = seen_at s0 cs last g lt_g ∙ ap (seen_claim s0) (sym g_is)
