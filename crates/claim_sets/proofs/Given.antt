-- The sets of the constraints stay what they are while pins come and go.
use Rattle.std.proofs.Common.{◌≡◌, ℕ, suc, ◌+◌, Bool, List, [], ◌∷◌, length, Option, Some, None, refl, sym, ◌∙◌, ap, subst, arith}
use Rattle.std.specs.Prelude.{max}
use Rattle.std.specs.Global.{Vec}
use Rattle.kripke_model.specs.System.{System, Condition}
use Rattle.path_laws.specs.StateSet.{StateSet}
use Rattle.region_sets.specs.Sets.{Sets, Adds}
use Rattle.region_sets.specs.Ranks.{AreLive}
use Rattle.region_sets.proofs.Changes.{stays, stays_live}
use Rattle.fair_rules.specs.LeafConstraints.{one_at_least}
use Rattle.claim_sets.specs.declared.claims.Claim.{Claim}
use Rattle.claim_sets.specs.declared.constraint_pins.Constraints.{Constraints}
use Rattle.claim_sets.specs.declared.constraint_pins.Constraints.TheVariants as constraints
use Rattle.claim_sets.specs.Claimed.{signed}
use Rattle.claim_sets.specs.ConstraintClaims.{IsGiven, IsOver, claims_at, constraint_list, constraints_count, holding, lists_claims_slots, model_sides, own_claim, side_or, sides_from, whole}
use Rattle.claim_sets.proofs.ClaimPins.{seen_same}
use Rattle.claim_sets.proofs.ConstraintSides.{own_live}

module _ (a b : Sets) (xs : List ℕ) (adds : Adds a b xs) where
  sides_kept : (m : System) (lists : List (Vec Claim)) (sign : Bool) (k : ℕ) (cs : List Condition) → AreLive a (lists_claims_slots lists) → sides_from m b lists sign k cs ≡ sides_from m a lists sign k cs
  sides_kept m lists sign k [] live = refl
  sides_kept m lists sign k (c ∷ cs) live = λ i. here (own_claim (claims_at lists k)) refl i ∷ sides_kept m lists sign (k + 1) cs live i
    where
      here : (o : Option Claim) → own_claim (claims_at lists k) ≡ o → side_or b sign (holding m sign c) o ≡ side_or a sign (holding m sign c) o
      here None e = refl
      here (Some d) e = ap (λ v. signed v sign) (seen_same a b d (λ i h. stays adds i (own_live a lists k d live e i h)))

  pub model_sides_kept : (m : System) (lists : List (Vec Claim)) (sign : Bool) → AreLive a (lists_claims_slots lists) → model_sides m b lists sign ≡ model_sides m a lists sign
  model_sides_kept m lists sign live = ap (one_at_least (whole sign)) (sides_kept m lists sign 0 m.constraints live)

  pub list_kept : (c : Constraints) (sign : Bool) → IsGiven a c → constraint_list b c sign ≡ constraint_list a c sign
  list_kept constraints.All sign given = refl
  list_kept (constraints.Model model lists) sign given = ap (one_at_least (whole sign)) (sides_kept model.now lists.now sign 0 model.now.constraints given.live)

  pub given_kept : (c : Constraints) → IsGiven a c → IsGiven b c
  given_kept c given = record { over = subst (λ m. IsOver m c) (sym adds.over) given.over; live = λ k h. stays_live adds k (given.live k h) }

count_from : (m : System) (sets : Sets) (lists : List (Vec Claim)) (sign : Bool) (k : ℕ) (cs : List Condition) → length (sides_from m sets lists sign k cs) ≡ length cs
count_from m sets lists sign k [] = refl
count_from m sets lists sign k (c ∷ cs) = ap suc (count_from m sets lists sign (k + 1) cs)

at_least : (F : StateSet) (sets : List StateSet) → length (one_at_least F sets) ≡ max 1 (length sets)
at_least F [] = refl
at_least F (G ∷ sets) = omega arith

pub list_count : (now : Sets) (c : Constraints) (sign : Bool) → length (constraint_list now c sign) ≡ constraints_count c
list_count now constraints.All sign = refl
list_count now (constraints.Model model lists) sign =
    at_least (whole sign) (sides_from model.now now lists.now sign 0 model.now.constraints) ∙ ap (max 1) (count_from model.now now lists.now sign 0 model.now.constraints)
