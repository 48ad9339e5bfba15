-- The sets of the constraints, place by place.
use Rattle.std.proofs.Common.{◌≡◌, ◌↔◌, inl, inr, ℕ, zero, suc, ◌+◌, ◌-◌, ◌<◌, ◌≤◌, Bool, true, false, not, List, [], ◌∷◌, ◌++◌, length, get_or, Option, Some, None, Result, Ok, Err, refl, sym, ◌∙◌, ap, subst, arith}
use Rattle.std.specs.Prelude.{IfOk, MatchOption, slice_get}
use Rattle.std.specs.Global.{Vec}
use Rattle.std.proofs.lemmas.Bool.{both_ways, cases_lt, false≢true, false_from_ne_true, not_from_false}
use Rattle.kripke_model.specs.Ctl.{Ctl, formula_of}
use Rattle.kripke_model.specs.Signs.{node_count}
use Rattle.kripke_model.specs.Step.{IsState}
use Rattle.kripke_model.specs.System.{System, State, Condition, constraint_count}
use Rattle.kripke_model.specs.Term.{Term}
use Rattle.path_laws.specs.StateSet.{StateSet}
use Rattle.region_sets.specs.declared.pins.Pin.{Pin}
use Rattle.region_sets.specs.declared.pins.SetRefusal.{SetRefusal}
use Rattle.region_sets.specs.Sets.{Sets, Adds, In, IsLeafConstraint, MeetsConstraint, Stands, has_state, is_one_of, pin_slots, region}
use Rattle.region_sets.specs.Ranks.{AreLive}
use Rattle.region_sets.proofs.Slots.{is_one_of-left, is_one_of-right, is_one_of-first}
use Rattle.region_sets.proofs.Changes.{adds_after, stays, takes_back}
use Rattle.region_sets.proofs.Calls.{In-at, stays_over_release}
use Rattle.fair_rules.specs.SetLists.{set_at}
use Rattle.fair_rules.specs.Claims as claims
use Rattle.fair_rules.specs.Claims.{claimed, is_one}
use Rattle.fair_rules.proofs.ClaimsSound.{one_is}
use Rattle.kripke_model.specs.Evaluation.{Holds, eval}
use Rattle.fair_rules.specs.FreePart.{claimed_from, claimed_visited, claimed_avoided}
use Rattle.fair_rules.specs.LeafConstraints.{one_at_least}
use Rattle.fair_rules.proofs.LeafSets.{formula_is_leaf}
use Rattle.claim_sets.specs.declared.claims.Claim.{Claim}
use Rattle.proof_form.specs.Agrees.{SameOn}
use Rattle.claim_sets.specs.Claimed.{IsClaim, claim_of, claim_slots, claims_slots, seen_claim, side_of, signed}
use Rattle.claim_sets.specs.ConstraintClaims.{AreFitting, HasClaims, HaveClaims, claims_at, holding, leaf_or_whole, leaf_side, lists_claims_slots, model_sides, own_claim, side_or, sides_from, whole}
use Rattle.claim_sets.proofs.ClaimPins.{claim_among, if_ok, side_set}
use Rattle.claim_sets.proofs.FoundEntries.{set_copied}
use Rattle.claim_sets.proofs.ClaimLists.{claims_length, root, root_asks}

pub got : {A : Type 0} (xs : List A) (i : ℕ) (d : A) → i < length xs → slice_get xs i ≡ Some (get_or xs i d)
got [] i d lt = absurd (omega (arith, lt))
got (x ∷ xs) zero d lt = refl
got (x ∷ xs) (suc i) d lt = got xs i d (omega (arith, lt))

-- ---- the claims of a constraint

pub past_lists : (lists : List (Vec Claim)) (k : ℕ) → length lists ≤ k → claims_at lists k ≡ []
past_lists [] k le = refl
past_lists (l ∷ lists) zero le = absurd (omega (arith, le))
past_lists (l ∷ lists) (suc k) le = past_lists lists k (omega (arith, le))

pub list_at : (lists : List (Vec Claim)) (k : ℕ) (d : Vec Claim) → k < length lists → claims_at lists k ≡ (get_or lists k d).items
list_at [] k d lt = absurd (omega (arith, lt))
list_at (l ∷ lists) zero d lt = refl
list_at (l ∷ lists) (suc k) d lt = list_at lists k d (omega (arith, lt))

some_own : (cs : List Claim) (d : Claim) → 0 < length cs → own_claim cs ≡ Some (get_or cs (length cs - 1) d)
some_own cs d some = got cs (length cs - 1) d (omega (arith, some))

none_some : {A : Type 0} {X : Type 0} (x : A) → None ≡ Some x → X
none_some x h = absurd (cc)

pub none_own : (cs : List Claim) → own_claim cs ≡ None → cs ≡ []
none_own [] h = refl
none_own (c ∷ cs) h = none_some (get_or (c ∷ cs) (length (c ∷ cs) - 1) c) (sym h ∙ some_own (c ∷ cs) c (omega arith))

pub in_lists : (lists : List (Vec Claim)) (i k : ℕ) → is_one_of k (claims_slots (claims_at lists i)) ≡ true → is_one_of k (lists_claims_slots lists) ≡ true
in_lists [] i k h = h
in_lists (l ∷ lists) zero k h = is_one_of-left k (claims_slots l.items) (lists_claims_slots lists) h
in_lists (l ∷ lists) (suc i) k h = is_one_of-right k (claims_slots l.items) (lists_claims_slots lists) (in_lists lists i k h)

own_among : (cs : List Claim) (c : Claim) (k : ℕ) → own_claim cs ≡ Some c → is_one_of k (claim_slots c) ≡ true → is_one_of k (claims_slots cs) ≡ true
own_among [] c k is h = none_some c is
own_among (d ∷ cs) c k is h =
    let same : c ≡ get_or (d ∷ cs) (length (d ∷ cs) - 1) c = some_is (sym is ∙ some_own (d ∷ cs) c (omega arith)) in
    claim_among (d ∷ cs) (length (d ∷ cs) - 1) c k (omega arith) (subst (λ x. is_one_of k (claim_slots x) ≡ true) same h)
  where
    some_is : {x y : Claim} → Some x ≡ Some y → x ≡ y
    some_is {x} {y} e = ap (λ o. or_else o) e
      where
        or_else : Option Claim → Claim
        or_else (Some z) = z
        or_else None = x

pub own_live : (now : Sets) (lists : List (Vec Claim)) (i : ℕ) (c : Claim) → AreLive now (lists_claims_slots lists) → own_claim (claims_at lists i) ≡ Some c → AreLive now (claim_slots c)
own_live now lists i c live is k h = live k (in_lists lists i k (own_among (claims_at lists i) c k is h))

-- ---- the set at a place

module _ (m : System) (sets : Sets) (lists : List (Vec Claim)) (sign : Bool) where
  no_condition : Condition
  no_condition = record { expr = Term.Running 0; line = 0 }

  abbrev side : Condition → ℕ → StateSet
  side c k = side_or sets sign (holding m sign c) (own_claim (claims_at lists k))

  sides_at : (cs : List Condition) (j i : ℕ) (d : Condition) → i < length cs → set_at (sides_from m sets lists sign j cs) i ≡ side (get_or cs i d) (j + i)
  sides_at [] j i d lt = absurd (omega (arith, lt))
  sides_at (c ∷ cs) j zero d lt = ap (side c) (omega arith)
  sides_at (c ∷ cs) j (suc i) d lt = sides_at cs (j + 1) i d (omega (arith, lt)) ∙ ap (side (get_or cs i d)) (omega arith)

  at_least : (F : StateSet) (cs : List Condition) (i : ℕ) → 0 < length cs → set_at (one_at_least F (sides_from m sets lists sign 0 cs)) i ≡ set_at (sides_from m sets lists sign 0 cs) i
  at_least F [] i some = absurd (omega (arith, some))
  at_least F (c ∷ cs) i some = refl

  inside_at : (i : ℕ) → i < length m.constraints → set_at (model_sides m sets lists sign) i ≡ side (get_or m.constraints i no_condition) i
  inside_at i lt = at_least (whole sign) m.constraints i (omega (arith, lt)) ∙ sides_at m.constraints 0 i no_condition lt ∙ ap (side (get_or m.constraints i no_condition)) (omega arith)

  pub claim_at_place : (i : ℕ) (c : Claim) → AreFitting m lists → own_claim (claims_at lists i) ≡ Some c → set_at (model_sides m sets lists sign) i ≡ signed (seen_claim sets c) sign
  claim_at_place i c fit is = elim (cases_lt i (length lists)) [
    | inl lt ↦ inside_at i (omega (arith, lt, fit.few)) ∙ ap (side_or sets sign (holding m sign (get_or m.constraints i no_condition))) is
    | inr le ↦ none_some c (sym (ap own_claim (past_lists lists i (omega (arith, le)))) ∙ is)
  ]

  none_declared : (cs : List Condition) (i : ℕ) → length cs ≡ 0 → i ≡ 0 → set_at (one_at_least (whole sign) (sides_from m sets lists sign 0 cs)) i ≡ leaf_or_whole m sign (slice_get cs i)
  none_declared [] zero e f = refl
  none_declared [] (suc i) e f = absurd (omega (arith, f))
  none_declared (c ∷ cs) i e f = absurd (omega (arith, e))

  pub leaf_at_place : (i : ℕ) → i < constraint_count m → own_claim (claims_at lists i) ≡ None → set_at (model_sides m sets lists sign) i ≡ leaf_side m sign i
  leaf_at_place i lt is = elim (cases_lt i (length m.constraints)) [
    | inl inside ↦ inside_at i inside ∙ ap (side_or sets sign (holding m sign (get_or m.constraints i no_condition))) is ∙ ap (leaf_or_whole m sign) (sym (got m.constraints i no_condition inside))
    | inr past ↦ none_declared m.constraints i (omega (arith, lt, past)) (omega (arith, lt, past))
  ]

-- ---- they are those of proofs of the constraints' formulas

module _ (m : System) (sets : Sets) (lists : List (Vec Claim)) (proofs : ℕ → claims.Proof) where
  side_same : (p : claims.Proof) (c : Condition) (cs : List Claim) (sign : Bool) → HasClaims m sets p c cs
      → SameOn m (side_or sets sign (holding m sign c) (own_claim cs)) (claimed m p (formula_of c.expr) 1 sign)
  side_same p c [] sign leaf = λ s is. ap (λ f. claimed m p f 1 sign s) (sym (formula_is_leaf c.expr leaf))
  side_same p c (d ∷ cs) sign are = λ s is. ap (λ o. side_or sets sign (holding m sign c) o s) (some_own (d ∷ cs) d (omega arith)) ∙ signed_is sign s is
    where
      f : Ctl
      f = formula_of c.expr

      last : ℕ
      last = length (d ∷ cs) - 1

      size : length (d ∷ cs) ≡ node_count f
      size = are.count ∙ claims_length m p f 1 0

      here : IsClaim m sets (get_or (d ∷ cs) last d) (claim_of m p f 1 (root_asks m p f 0))
      here = subst (λ v. IsClaim m sets (get_or (d ∷ cs) last d) v) (root m p f 1 0 last (omega (arith, size))) (are.each last d (omega arith))

      signed_is : (b : Bool) (s : State) → IsState m s → signed (seen_claim sets (get_or (d ∷ cs) last d)) b s ≡ claimed m p f 1 b s
      signed_is true s is = here.plus s is
      signed_is false s is = here.minus s is

  from_same : (sign : Bool) (cs : List Condition) (j : ℕ) → ((k : ℕ) (c : Condition) → k < length cs → HasClaims m sets (proofs (j + k)) (get_or cs k c) (claims_at lists (j + k)))
      → (i : ℕ) → SameOn m (set_at (sides_from m sets lists sign j cs) i) (set_at (claimed_from m proofs sign j cs) i)
  from_same sign [] j h i = λ s is. refl
  from_same sign (c ∷ cs) j h zero =
      side_same (proofs j) c (claims_at lists j) sign (subst (λ k. HasClaims m sets (proofs k) c (claims_at lists k)) (omega arith) (h 0 c (omega arith)))
  from_same sign (c ∷ cs) j h (suc i) =
      from_same sign cs (j + 1) (λ k d lt. subst (λ x. HasClaims m sets (proofs x) (get_or cs k d) (claims_at lists x)) (omega arith) (h (suc k) d (omega (arith, lt)))) i

  list_same : (sign : Bool) (cs : List Condition) → ((k : ℕ) (c : Condition) → k < length cs → HasClaims m sets (proofs k) (get_or cs k c) (claims_at lists k))
      → (i : ℕ) → SameOn m (set_at (one_at_least (whole sign) (sides_from m sets lists sign 0 cs)) i) (set_at (one_at_least (whole sign) (claimed_from m proofs sign 0 cs)) i)
  list_same sign [] h i = λ s is. refl
  list_same sign (c ∷ cs) h i =
      from_same sign (c ∷ cs) 0 (λ k d lt. subst (λ x. HasClaims m sets (proofs x) (get_or (c ∷ cs) k d) (claims_at lists x)) (omega arith) (h k d lt)) i

  -- where each constraint is claimed true
  pub visited_same : HaveClaims m sets proofs lists → (i : ℕ) → SameOn m (set_at (model_sides m sets lists true) i) (set_at (claimed_visited m proofs) i)
  visited_same have = list_same true m.constraints have

  -- and where it is claimed false
  pub avoided_same : HaveClaims m sets proofs lists → (i : ℕ) → SameOn m (set_at (model_sides m sets lists false) i) (set_at (claimed_avoided m proofs) i)
  avoided_same have = list_same false m.constraints have

  -- the lists are of one length
  sides_count : (sign : Bool) (cs : List Condition) (j : ℕ) → length (sides_from m sets lists sign j cs) ≡ length (claimed_from m proofs sign j cs)
  sides_count sign [] j = refl
  sides_count sign (c ∷ cs) j = ap suc (sides_count sign cs (j + 1))

  whole_count : (sign : Bool) (cs : List Condition) → length (one_at_least (whole sign) (sides_from m sets lists sign 0 cs)) ≡ length (one_at_least (whole sign) (claimed_from m proofs sign 0 cs))
  whole_count sign [] = refl
  whole_count sign (c ∷ cs) = sides_count sign (c ∷ cs) 0

  pub visited_count : length (model_sides m sets lists true) ≡ length (claimed_visited m proofs)
  visited_count = whole_count true m.constraints

  pub avoided_count : length (model_sides m sets lists false) ≡ length (claimed_avoided m proofs)
  avoided_count = whole_count false m.constraints

-- ---- pins of constraints that are no formulas

same_bool : (a b : Bool) → (a ≡ true → b ≡ true) → (b ≡ true → a ≡ true) → a ≡ b
same_bool true true f g = refl
same_bool false false f g = refl
same_bool true false f g = sym (f refl)
same_bool false true f g = g refl

module _ (m : System) (s : State) where
  met_is : (o : Option Condition) → MatchOption o (Unit {0}) (λ c. Holds m c.expr s s) ↔ (leaf_or_whole m true o s ≡ true)
  met_is None = (λ _. refl, λ _. tt)
  met_is (Some c) = (λ h. ap is_one h, λ e. one_is (eval m c.expr s s) e)

  unmet_is : (o : Option Condition) → leaf_or_whole m false o s ≡ not (leaf_or_whole m true o s)
  unmet_is None = refl
  unmet_is (Some c) = refl

pub all_set : (m : System) (s1 : Sets) (r : Result Pin SetRefusal) (all : Bool) → all ≡ true → IfOk r (λ pin. Stands s1 pin.slot (λ s. IsState m s)) → IfOk r (λ pin. SameOn m (region s1 pin) (whole all))
all_set m s1 r all is h = subst (λ b. IfOk r (λ pin. SameOn m (region s1 pin) (whole b))) (sym is) (if_ok r (λ pin stands s at. (stands s).1 at) h)

pub none_set : (m : System) (s1 : Sets) (r : Result Pin SetRefusal) (all : Bool) → all ≡ false → IfOk r (λ pin. Stands s1 pin.slot (λ s. ⊥)) → IfOk r (λ pin. SameOn m (region s1 pin) (whole all))
none_set m s1 r all is h =
    subst (λ b. IfOk r (λ pin. SameOn m (region s1 pin) (whole b))) (sym is) (if_ok r (λ pin stands s at. false_from_ne_true (region s1 pin s) (λ e. absurd ((stands s).0 e))) h)

pub met_set : (m : System) (s1 : Sets) (k : ℕ) (r : Result Pin SetRefusal) (sign : Bool) → sign ≡ true → IfOk r (λ pin. Stands s1 pin.slot (λ s. IsState m s × MeetsConstraint m k s))
    → IfOk r (λ pin. SameOn m (region s1 pin) (leaf_side m sign (k - 1)))
met_set m s1 k r sign is h = subst (λ b. IfOk r (λ pin. SameOn m (region s1 pin) (leaf_side m b (k - 1)))) (sym is)
    (if_ok r (λ pin stands s at. same_bool (region s1 pin s) (leaf_side m true (k - 1) s)
    (λ e. (met_is m s (slice_get m.constraints (k - 1))).0 ((stands s).0 e).1) (λ e. (stands s).1 (at, (met_is m s (slice_get m.constraints (k - 1))).1 e))) h)

pub unmet_at : (m : System) (s1 : Sets) (k : ℕ) (r : Result Pin SetRefusal) (sign : Bool) → sign ≡ false → IfOk r (λ pin. SameOn m (region s1 pin) (leaf_side m false (k - 1)))
    → IfOk r (λ pin. SameOn m (region s1 pin) (leaf_side m sign (k - 1)))
unmet_at m s1 k r sign is h = subst (λ b. IfOk r (λ pin. SameOn m (region s1 pin) (leaf_side m b (k - 1)))) (sym is) h

pub unmet_set : (m : System) (k : ℕ) (s0 s1 s2 s3 s4 s5 : Sets) (p q : ℕ) (r : Result Pin SetRefusal) → Adds s0 s1 (p ∷ []) → Stands s1 p (λ s. IsState m s)
    → Adds s1 s2 (q ∷ []) → Stands s2 q (λ s. IsState m s × MeetsConstraint m k s)
    → Adds s2 s3 (pin_slots r) → IfOk r (λ o. Stands s3 o.slot (λ s. In s2 p s × (In s2 q s → ⊥)))
    → Adds s4 s3 (p ∷ []) → Adds s5 s4 (q ∷ []) → IfOk r (λ o. SameOn m (region s5 o) (leaf_side m false (k - 1)))
unmet_set m k s0 s1 s2 s3 s4 s5 p q (Err refusal) p1 g1 p2 g2 p3 g3 r4 r5 = tt
unmet_set m k s0 s1 s2 s3 s4 s5 p q (Ok o) p1 g1 p2 g2 p3 g3 r4 r5 = λ s at. ap (λ x. has_state x s) kept ∙ set_is s at ∙ sym (unmet_is m s (slice_get m.constraints (k - 1)))
  where
    whole_call : Adds s0 s3 ((p ∷ []) ++ (q ∷ o.slot ∷ []))
    whole_call = adds_after (adds_after p1 p2) p3

    kept : s5.pins o.slot ≡ s3.pins o.slot
    kept =
        stays_over_release (o.slot ∷ []) (takes_back {xs = p ∷ []} {ys = q ∷ o.slot ∷ []} whole_call r4) r5 o.slot (is_one_of-first o.slot [])
        ∙ stays_over_release {xs = p ∷ []} (q ∷ o.slot ∷ []) whole_call r4 o.slot (is_one_of-right o.slot (q ∷ []) (o.slot ∷ []) (is_one_of-first o.slot []))

    p_at2 : s2.pins p ≡ s1.pins p
    p_at2 = stays p2 p (p1.there p (is_one_of-first p []))

    met : State → Bool
    met s = leaf_side m true (k - 1) s

    set_is : (s : State) → IsState m s → has_state (s3.pins o.slot) s ≡ not (met s)
    set_is s at = same_bool (has_state (s3.pins o.slot) s) (not (met s))
        (λ e. not_from_false (met s) (false_from_ne_true (met s) (λ yes_met. ((g3 s).0 e).1 ((g2 s).1 (at, (met_is m s (slice_get m.constraints (k - 1))).1 yes_met)))))
        (λ e. (g3 s).1 ((In-at s1 s2 p s p_at2).1 ((g1 s).1 at), λ there. both_ways (met s) (false_from_not (met s) e) ((met_is m s (slice_get m.constraints (k - 1))).0 ((g2 s).0 there).1)))
      where
        false_from_not : (b : Bool) → not b ≡ true → b ≡ false
        false_from_not true e = absurd (false≢true e)
        false_from_not false e = refl

-- ---- the pins of constraints

pub claim_pin : (m : System) (s0 s1 : Sets) (lists : List (Vec Claim)) (k : ℕ) (sign : Bool) (c : Claim) (side : Pin) (r : Result Pin SetRefusal) → AreFitting m lists → own_claim (claims_at lists (k - 1)) ≡ Some c
    → side ≡ side_of c sign → IfOk r (λ pin. Stands s1 pin.slot (λ s. In s0 side.slot s)) → IfOk r (λ pin. SameOn m (region s1 pin) (set_at (model_sides m s0 lists sign) (k - 1)))
claim_pin m s0 s1 lists k sign c side r fit is side_is h =
    if_ok r (λ pin same s at. ap (λ F. F s) (same ∙ ap (region s0) side_is ∙ side_set s0 c sign ∙ sym (claim_at_place m s0 lists sign (k - 1) c fit is))) (set_copied s0 s1 side.slot r h)

pub leaf_pin_at : (m : System) (s0 s1 : Sets) (lists : List (Vec Claim)) (k : ℕ) (sign : Bool) (r : Result Pin SetRefusal) → 1 ≤ k → k ≤ constraint_count m → own_claim (claims_at lists (k - 1)) ≡ None
    → IfOk r (λ pin. SameOn m (region s1 pin) (leaf_side m sign (k - 1))) → IfOk r (λ pin. SameOn m (region s1 pin) (set_at (model_sides m s0 lists sign) (k - 1)))
leaf_pin_at m s0 s1 lists k sign r some within is h =
    if_ok r (λ pin same s at. same s at ∙ ap (λ F. F s) (sym (leaf_at_place m s0 lists sign (k - 1) (omega (arith, some, within)) is))) h

pub is_leaf_at : (m : System) (lists : List (Vec Claim)) (k : ℕ) → AreFitting m lists → 1 ≤ k → own_claim (claims_at lists (k - 1)) ≡ None → IsLeafConstraint m k
is_leaf_at m lists k fit some is = subst (λ j. IsLeafConstraint m j) (omega (arith, some)) (fit.leaf (k - 1) (none_own (claims_at lists (k - 1)) is))

empty_own : (cs : List Claim) → length cs ≡ 0 → own_claim cs ≡ None
empty_own [] e = refl
empty_own (c ∷ cs) e = absurd (omega (arith, e))

pub no_list : (lists : List (Vec Claim)) (i : ℕ) → length lists ≤ i → None ≡ own_claim (claims_at lists i)
no_list lists i le = sym (ap own_claim (past_lists lists i le))

pub empty_list : (lists : List (Vec Claim)) (i : ℕ) (list : Vec Claim) → i < length lists → list ≡ get_or lists i list → length list.items ≡ 0 → None ≡ own_claim (claims_at lists i)
empty_list lists i list lt is e = sym (ap own_claim (list_at lists i list lt ∙ ap (λ (v : Vec Claim). v.items) (sym is)) ∙ empty_own list.items e)

pub last_of_list : (lists : List (Vec Claim)) (i j : ℕ) (list : Vec Claim) (x : Claim) → i < length lists → list ≡ get_or lists i list → 0 < length list.items → j ≡ length list.items - 1 → x ≡ get_or list.items j x
    → Some x ≡ own_claim (claims_at lists i)
last_of_list lists i j list x lt is some place x_is =
    sym (ap own_claim (list_at lists i list lt ∙ ap (λ (v : Vec Claim). v.items) (sym is)) ∙ some_own list.items x some ∙ ap Some (ap (λ n. get_or list.items n x) (sym place) ∙ sym x_is))
