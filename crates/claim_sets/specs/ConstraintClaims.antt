-- The claimed sets of the constraints, as lists of claims or as sets of the constraints themselves.
use Rattle.std.specs.Prelude.{◌≡◌, ℕ, zero, suc, ◌+◌, ◌-◌, ◌<◌, ◌≤◌, Bool, true, false, List, [], ◌∷◌, ◌++◌, length, slice_get, slice_index_or, Option, Some, None}
use Rattle.std.specs.Global.{Vec}
use Rattle.kripke_model.specs.Ctl.{formula_of}
use Rattle.kripke_model.specs.Evaluation.{eval}
use Rattle.kripke_model.specs.System.{System, Condition, constraint_count}
use Rattle.kripke_model.specs.Term.{has_path_operator}
use Rattle.path_laws.specs.StateSet.{StateSet}
use Rattle.region_sets.specs.Sets.{Sets, IsLeafConstraint}
use Rattle.region_sets.specs.Ranks.{AreLive}
use Rattle.fair_rules.specs.SetLists.{everything, nothing}
use Rattle.fair_rules.specs.Claims as claims
use Rattle.fair_rules.specs.Claims.{leaf_set}
use Rattle.fair_rules.specs.LeafConstraints.{one_at_least}
use Rattle.claim_sets.specs.declared.claims.Claim.{Claim}
use Rattle.claim_sets.specs.declared.constraint_pins.Constraints.{Constraints}
use Rattle.claim_sets.specs.declared.constraint_pins.Constraints.TheVariants as constraints
use Rattle.claim_sets.specs.Claimed.{AreClaims, claims_of, claims_slots, seen_claim, signed}

-- ---- lists of claims

-- those of constraint k, counted from 0
abbrev pub claims_at : List (Vec Claim) → ℕ → List Claim
claims_at [] k = []
claims_at (list ∷ lists) zero = list.items
claims_at (list ∷ lists) (suc k) = claims_at lists k

-- a formula's own claim is the last one
abbrev pub own_claim : List Claim → Option Claim
own_claim cs = slice_get cs (length cs - 1)

abbrev pub lists_claims_slots : List (Vec Claim) → List ℕ
lists_claims_slots [] = []
lists_claims_slots (list ∷ lists) = claims_slots list.items ++ lists_claims_slots lists

abbrev pub constraint_claims_slots : Constraints → List ℕ
constraint_claims_slots constraints.All = []
constraint_claims_slots (constraints.Model model lists) = lists_claims_slots lists.now

-- a constraint without claims holds no path operator
pub record AreFitting (m : System) (lists : List (Vec Claim)) : Type 0 where
  pub few : length lists ≤ length m.constraints
  pub leaf : (k : ℕ) → claims_at lists k ≡ [] → IsLeafConstraint m (k + 1)

abbrev pub IsOver : System → Constraints → Type 0
IsOver m constraints.All = Unit {0}
IsOver m (constraints.Model model lists) = (model.now ≡ m) × AreFitting m lists.now

-- how many there are
abbrev pub constraints_count : Constraints → ℕ
constraints_count constraints.All = 1
constraints_count (constraints.Model model lists) = constraint_count model.now

-- ---- their sets

abbrev pub whole : Bool → StateSet
whole true = everything
whole false = nothing

-- the states where a constraint is 1, or the others
abbrev pub holding : System → Bool → Condition → StateSet
holding m sign c = λ s. leaf_set sign (eval m c.expr s s)

-- of a formula the set of its own claim
abbrev pub side_or : Sets → Bool → StateSet → Option Claim → StateSet
side_or sets sign F None = F
side_or sets sign F (Some c) = signed (seen_claim sets c) sign

abbrev pub sides_from : System → Sets → List (Vec Claim) → Bool → ℕ → List Condition → List StateSet
sides_from m sets lists sign k [] = []
sides_from m sets lists sign k (c ∷ cs)
    = side_or sets sign (holding m sign c) (own_claim (claims_at lists k))
    ∷ sides_from m sets lists sign (k + 1) cs

abbrev pub model_sides : System → Sets → List (Vec Claim) → Bool → List StateSet
model_sides m sets lists sign
    = one_at_least (whole sign) (sides_from m sets lists sign 0 m.constraints)

-- for each constraint the states where it is claimed true, or where it is claimed false
abbrev pub constraint_list : Sets → Constraints → Bool → List StateSet
constraint_list sets constraints.All sign = whole sign ∷ []
constraint_list sets (constraints.Model model lists) sign
    = model_sides model.now sets lists.now sign

-- constraint k, counted from 0, where it holds no path operator; past the end each state meets it
abbrev pub leaf_or_whole : System → Bool → Option Condition → StateSet
leaf_or_whole m sign None = whole sign
leaf_or_whole m sign (Some c) = holding m sign c

abbrev pub leaf_side : System → Bool → ℕ → StateSet
leaf_side m sign k = leaf_or_whole m sign (slice_get m.constraints k)

-- the claims of a constraint, where it holds a path operator, are those of its formula
abbrev pub HasClaims : System → Sets → claims.Proof → Condition → List Claim → Type 0
HasClaims m sets p c [] = has_path_operator c.expr ≡ false
HasClaims m sets p c (d ∷ cs) = AreClaims m sets (d ∷ cs) (claims_of m p (formula_of c.expr) 1 0)

abbrev pub HaveClaims : System → Sets → (ℕ → claims.Proof) → List (Vec Claim) → Type 0
HaveClaims m sets proofs lists
    = (k : ℕ) (c : Condition) → k < length m.constraints
    → HasClaims m sets (proofs k) (slice_index_or m.constraints k c) (claims_at lists k)

-- they are those of the sets' model, and their claims are live
pub record IsGiven (now : Sets) (c : Constraints) : Type 0 where
  pub over : IsOver now.over c
  pub live : AreLive now (constraint_claims_slots c)
