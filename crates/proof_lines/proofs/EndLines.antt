-- The lines of the claim, by the pins of the formula's own claim.
use Rattle.std.proofs.Common.{◌≡◌, ℕ, ◌-◌, ◌≤◌, Bool, true, false, List, [], ◌∷◌, length, get_or, Option, Some, None, Result, refl, sym, ◌∙◌, subst, arith}
use Rattle.std.specs.Prelude.{IfOk}
use Rattle.std.proofs.lemmas.List.Elements.{All-nil, All-cons, All-head}
use Rattle.kripke_model.specs.Ctl.{Ctl}
use Rattle.kripke_model.specs.Signs.{node_count}
use Rattle.kripke_model.specs.System.{System, State}
use Rattle.path_laws.specs.StateSet.{StateSet}
use Rattle.region_sets.specs.declared.pins.SetRefusal.{SetRefusal}
use Rattle.region_sets.specs.Sets.{Sets, IsLive, region}
use Rattle.region_sets.specs.Ranks.{AreLive}
use Rattle.fair_rules.specs.Block.{claim_lines}
use Rattle.fair_rules.specs.Checks.{Check, IsMet}
use Rattle.fair_rules.specs.Claims as claims
use Rattle.claim_sets.specs.declared.claims.Claim.{Claim}
use Rattle.claim_sets.specs.Claimed.{AreClaims, IsClaim, claim_of, claim_slots, claims_of, claims_slots, side_of}
use Rattle.proof_lines.specs.Tested.{AreTested, next_count}
use Rattle.claim_sets.proofs.ClaimPins.{claim_live, default_moves, if_ok, side_live}
use Rattle.claim_sets.proofs.ClaimLists.{claims_length, root, root_asks}
use Rattle.proof_lines.proofs.Counting.{none_tested, one_fails, one_holds}
use Rattle.proof_lines.proofs.ReachLines.{tested_agrees}

module _ (m : System) where
  -- one test in a line
  pub test_fails : (c : Check) (rest : List (List Check)) (k : ℕ) → (IsMet m c → ⊥) → AreTested m ((c ∷ []) ∷ rest) k false k
  test_fails c rest k h = one_fails m (c ∷ []) rest k (λ all. h (All-head (IsMet m) c [] all))

  pub test_holds : (c : Check) (rest : List (List Check)) (k next : ℕ) (good : Bool) (after : ℕ) → IsMet m c → next ≡ next_count k → AreTested m rest next good after
      → AreTested m ((c ∷ []) ∷ rest) k good after
  test_holds c rest k next good after h e t = one_holds m (c ∷ []) rest k next good after (All-cons (IsMet m) c [] h (All-nil (IsMet m))) e t

  pub start_holds : (F : StateSet) (k next : ℕ) → IsMet m (Check.Starts F) → next ≡ next_count k → AreTested m ((Check.Starts F ∷ []) ∷ []) k true next
  start_holds F k next h e = test_holds (Check.Starts F) [] k next true next h e (none_tested m next)

  pub begin_holds : (s : State) (F : StateSet) (k next last : ℕ) → IsMet m (Check.Begins s F) → next ≡ next_count k → last ≡ next_count next
      → AreTested m ((Check.Begins s F ∷ []) ∷ [] ∷ []) k true last
  begin_holds s F k next last h e l = test_holds (Check.Begins s F) ([] ∷ []) k next true last h e (one_holds m [] [] next last true last (All-nil (IsMet m)) l (none_tested m last))

pub last_claim : (cs : List Claim) (d : Claim) → 1 ≤ length cs → get_or cs (length cs - 1) d ≡ get_or cs (length cs - 1) (get_or cs (length cs - 1) d)
last_claim cs d some = default_moves cs (length cs - 1) d (omega (arith, some))

-- the claim of the formula is the last one
module _ (m : System) (now : Sets) (cs : List Claim) (c : Claim) (at : ℕ) (some : 1 ≤ length cs) (place : at ≡ length cs - 1) (is : c ≡ get_or cs at c) where
  pub own_live : AreLive now (claims_slots cs) → (sign : Bool) → IsLive now (side_of c sign).slot
  own_live live sign = side_live now c sign (subst (λ (x : Claim). AreLive now (claim_slots x)) (sym is) (claim_live now cs at c (omega (arith, some, place)) live))

  own_is : (p : claims.Proof) (f : Ctl) → AreClaims m now cs (claims_of m p f 1 0) → IsClaim m now c (claim_of m p f 1 (root_asks m p f 0))
  own_is p f are =
      let size : length cs ≡ node_count f = are.count ∙ claims_length m p f 1 0 in
      subst (λ (x : Claim). IsClaim m now x (claim_of m p f 1 (root_asks m p f 0))) (sym is)
      (subst (λ v. IsClaim m now (get_or cs at c) v) (root m p f 1 0 at (omega (arith, some, place, size))) (are.each at c (omega (arith, some, place))))

  pub true_end : (given : Option State) → given ≡ None → (n : System) → n ≡ m → (k : ℕ) (r : Result Bool SetRefusal) (after : ℕ)
      → IfOk r (λ good. AreTested n ((Check.Starts (region now c.plus) ∷ []) ∷ []) k good after)
      → IfOk r (λ good. (p : claims.Proof) (f : Ctl) → AreClaims m now cs (claims_of m p f 1 0) → AreTested m (claim_lines m p f 1 given) k good after)
  true_end given none n over k r after h = if_ok r (λ good t p f are.
      subst (λ o. AreTested m (claim_lines m p f 1 o) k good after) (sym none)
      (tested_agrees m ((Check.Starts (region now c.plus) ∷ []) ∷ []) (claim_lines m p f 1 None) (((own_is p f are).plus, tt), tt) k good after
      (subst (λ o. AreTested o ((Check.Starts (region now c.plus) ∷ []) ∷ []) k good after) over t))) h

  pub false_end : (given : Option State) (s : State) → given ≡ Some s → (k : ℕ) (good : Bool) (after : ℕ) → AreTested m ((Check.Begins s (region now c.minus) ∷ []) ∷ [] ∷ []) k good after
      → (p : claims.Proof) (f : Ctl) → AreClaims m now cs (claims_of m p f 1 0) → AreTested m (claim_lines m p f 1 given) k good after
  false_end given s some_is k good after t p f are =
      subst (λ o. AreTested m (claim_lines m p f 1 o) k good after) (sym some_is)
      (tested_agrees m ((Check.Begins s (region now c.minus) ∷ []) ∷ [] ∷ []) (claim_lines m p f 1 (Some s)) (((refl, (own_is p f are).minus), tt), (tt, tt)) k good after t)
