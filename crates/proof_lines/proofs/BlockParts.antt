-- The lines of a proof from `nonfair` on, one part behind another.
use Rattle.std.proofs.Common.{◌≡◌, ℕ, ◌+◌, ◌≤◌, Bool, true, false, List, [], ◌∷◌, ◌++◌, length, map, Option, Result, refl, sym, ◌∙◌, ap, subst, arith, append_assoc}
use Rattle.std.specs.Prelude.{All, IfOk, IfSome}
use Rattle.kripke_model.specs.Ctl.{Ctl}
use Rattle.kripke_model.specs.Signs.{node_count}
use Rattle.kripke_model.specs.Step.{IsState}
use Rattle.kripke_model.specs.System.{State, System, constraint_count}
use Rattle.path_laws.specs.StateSet.{StateSet}
use Rattle.region_sets.specs.declared.pins.Pin.{Pin}
use Rattle.region_sets.specs.declared.pins.SetRefusal.{SetRefusal}
use Rattle.region_sets.specs.Sets.{Sets, Adds, region}
use Rattle.region_sets.specs.Ranks.{AreLive, slots}
use Rattle.region_sets.proofs.Changes.{stays_live}
use Rattle.fair_rules.specs.Block.{block_lines, claim_lines, listed_lines}
use Rattle.fair_rules.specs.Checks.{Check, layer_lines, reach_lines}
use Rattle.fair_rules.specs.Claims as claims
use Rattle.fair_rules.specs.SetLists.{everything, nothing}
use Rattle.proof_form.specs.Form.{Entry, FairPart, Layer, entries_sets, fair_sets, layer_sets, map_entry, map_layer}
use Rattle.proof_form.specs.Meaning.{block_of, layer_of, listed_of}
use Rattle.proof_form.specs.Shape.{Avoids, FitsConstraints, HasRule}
use Rattle.fair_rules.proofs.Nodes.{some_nodes}
use Rattle.proof_lines.specs.declared.cases.Case.{Case}
use Rattle.claim_sets.specs.declared.claims.Claim.{Claim}
use Rattle.proof_lines.specs.declared.frames.Frame.{Frame}
use Rattle.proof_lines.specs.Cases.{IsCase, formula_in, own_proof, shared, states_of}
use Rattle.claim_sets.specs.Claimed.{AreClaims, claims_of}
use Rattle.claim_sets.specs.ConstraintClaims.{constraint_list, constraints_count}
use Rattle.proof_lines.specs.Frames.{IsFrame, IsFrameOf}
use Rattle.proof_lines.specs.Tested.{AreTested}
use Rattle.claim_sets.proofs.ClaimLists.{claims_length}
use Rattle.claim_sets.proofs.ClaimPins.{if_ok}
use Rattle.proof_lines.proofs.Counting.{left_fails, then_tested}
use Rattle.proof_lines.proofs.EntryNumbers.{numbers_there}
use Rattle.proof_lines.proofs.Framed.{frame_of_then, regions_kept}
use Rattle.claim_sets.proofs.FreeClaimLists.{claims_later}
use Rattle.claim_sets.proofs.Given.{list_kept}
use Rattle.claim_sets.proofs.KeptProofs.{entries_live, fair_live, nonfair_live}

-- ---- what entries share

abbrev pub first_part : Sets → Frame → List (Layer Pin) → List (List Check)
first_part s frame layers = [] ∷ layer_lines (constraint_list s frame.constraints false) everything nothing nothing (map layer_of (map (map_layer (region s)) layers))

pub shared_tested : (s0 s1 : Sets) (frame : Frame) (xs : List (List Check)) (inside : Pin) (reach : List (List Pin)) (k mid : ℕ) (r : Result Bool SetRefusal) (after : ℕ) → Adds s0 s1 [] → IsFrame s0 frame
    → AreTested s0.over xs k true mid
    → IfOk r (λ good. AreTested s1.over ([] ∷ reach_lines (region s1 inside) (constraint_list s1 frame.constraints true) (map (map (region s1)) reach)) mid good after)
    → IfOk r (λ good. AreTested s0.over (xs ++ ([] ∷ reach_lines (region s0 inside) (constraint_list s0 frame.constraints true) (map (map (region s0)) reach))) k good after)
shared_tested s0 s1 frame xs inside reach k mid r after none is t h =
    let regions_are : region s1 ≡ region s0 = regions_kept s0 s1 none in
    let visits_are = list_kept s0 s1 [] none frame.constraints true is.given in
    if_ok r (λ good u.
    then_tested s0.over xs ([] ∷ reach_lines (region s0 inside) (constraint_list s0 frame.constraints true) (map (map (region s0)) reach)) k mid good after t
    (subst (λ (T : Type 0). T) (λ i. AreTested (none.over i) ([] ∷ reach_lines (regions_are i inside) (visits_are i) (map (map (regions_are i)) reach)) mid good after) u)) h

-- ---- the whole block

module _ (case : Case) (frame : Frame) (s0 : Sets) (cs : List Claim) (is : IsCase s0 case) (framed : IsFrame s0 frame) (of : IsFrameOf s0 frame (own_proof s0 case))
    (are : AreClaims case.model.now s0 cs (claims_of case.model.now (own_proof s0 case) (formula_in case) 1 0)) where
  abbrev pub m : System
  m = case.model.now

  abbrev pub f : Ctl
  f = formula_in case

  abbrev pub p : claims.Proof
  p = own_proof s0 case

  abbrev pub V : List StateSet
  V = constraint_list s0 frame.constraints true

  abbrev pub A : List StateSet
  A = constraint_list s0 frame.constraints false

  abbrev pub layer_part : List (List Check)
  layer_part = [] ∷ layer_lines A everything nothing nothing (map layer_of (map (map_layer (region s0)) case.proof.now.nonfair))

  abbrev pub reach_part : List (List Check)
  reach_part = [] ∷ reach_lines (region s0 case.proof.now.fair.inside) V (map (map (region s0)) case.proof.now.fair.reach)

  abbrev pub entry_part : List (List Check)
  entry_part = listed_lines m V A p f 1 (map listed_of (map (map_entry (region s0)) case.proof.now.entries))

  abbrev pub end_part : List (List Check)
  end_part = claim_lines m p f 1 case.proof.now.at

  abbrev pub whole : List (List Check)
  whole = block_lines m V A (block_of (states_of s0 case)) f 1

  whole_is : (layer_part ++ reach_part) ++ (entry_part ++ end_part) ≡ whole
  whole_is = append_assoc layer_part reach_part (entry_part ++ end_part)

  pub size : length cs ≡ node_count f
  size = are.count ∙ claims_length m p f 1 0

  at_model : (k : ℕ) (good : Bool) (after : ℕ) → AreTested s0.over (layer_part ++ reach_part) k good after → AreTested m (layer_part ++ reach_part) k good after
  at_model k good after t = subst (λ o. AreTested o (layer_part ++ reach_part) k good after) is.over t

  -- what was tested of the proof's parts as they were read
  abbrev pub SharedTested : List (Layer Pin) → FairPart Pin → ℕ → Bool → ℕ → Type 0
  SharedTested layers fair k good after =
      AreTested s0.over (shared V A (map layer_of (map (map_layer (region s0)) layers)) (region s0 fair.inside) (map (map (region s0)) fair.reach)) k good after

  module _ (layers : List (Layer Pin)) (fair : FairPart Pin) (entries : List (Entry Pin)) (at : Option State)
      (layers_are : layers ≡ case.proof.now.nonfair) (fair_is : fair ≡ case.proof.now.fair) (entries_are : entries ≡ case.proof.now.entries) (at_is : at ≡ case.proof.now.at) where
    -- ---- what its tests ask for

    pub some_claims : 1 ≤ length cs
    some_claims = omega (arith, size, some_nodes f)

    pub layers_live : AreLive s0 (slots (layer_sets layers))
    layers_live = subst (λ ls. AreLive s0 (slots (layer_sets ls))) (sym layers_are) (nonfair_live s0 case.proof.now is.live)

    pub fair_alive : AreLive s0 (slots (fair_sets fair))
    fair_alive = subst (λ (x : FairPart Pin). AreLive s0 (slots (fair_sets x))) (sym fair_is) (fair_live s0 case.proof.now is.live)

    pub entries_alive : (s1 : Sets) → Adds s0 s1 [] → AreLive s1 (slots (entries_sets entries))
    entries_alive s1 none k h = stays_live none k (subst (λ es. AreLive s0 (slots (entries_sets es))) (sym entries_are) (entries_live s0 case.proof.now is.live) k h)

    pub entries_number : All (λ e. (1 ≤ e.node) × (e.node ≤ length cs)) entries
    entries_number = numbers_there f (length cs) entries size (subst (λ es. All (HasRule f) es) (sym entries_are) is.shape.rules)

    pub state_there : IfSome at (IsState m)
    state_there = subst (λ o. IfSome o (IsState m)) (sym at_is) is.shape.at_state

    module _ (count : constraints_count frame.constraints ≡ constraint_count m) where
      pub layers_avoid : All (Avoids (constraints_count frame.constraints)) layers
      layers_avoid = subst (λ ls. All (Avoids (constraints_count frame.constraints)) ls) (sym layers_are) (subst (λ n. All (Avoids n) case.proof.now.nonfair) (sym count) is.shape.avoided)

      pub reach_count : length fair.reach ≡ constraints_count frame.constraints
      reach_count = ap (λ (x : FairPart Pin). length x.reach) fair_is ∙ is.shape.reach ∙ sym count

      pub entries_fit : All (λ e. FitsConstraints (constraints_count frame.constraints) e.rule) entries
      entries_fit = subst (λ es. All (λ e. FitsConstraints (constraints_count frame.constraints) e.rule) es) (sym entries_are)
          (subst (λ n. All (λ e. FitsConstraints n e.rule) case.proof.now.entries) (sym count) is.shape.fits)

    -- ---- its lines

    shared_as : (k : ℕ) (good : Bool) (after : ℕ) → SharedTested layers fair k good after → AreTested m (layer_part ++ reach_part) k good after
    shared_as k good after t =
        at_model k good after
        (subst (λ (T : Type 0). T)
        (λ i. AreTested s0.over (shared V A (map layer_of (map (map_layer (region s0)) (layers_are i))) (region s0 (fair_is i).inside) (map (map (region s0)) (fair_is i).reach)) k good after) t)

    pub shared_fails : (k after : ℕ) → SharedTested layers fair k false after → AreTested m whole k false after
    shared_fails k after t = subst (λ xs. AreTested m xs k false after) whole_is (left_fails m (layer_part ++ reach_part) (entry_part ++ end_part) k after (shared_as k false after t))

    module _ (s1 : Sets) (none : Adds s0 s1 []) (k mid : ℕ) (held : SharedTested layers fair k true mid) where
      claims_there : AreClaims m s1 cs (claims_of m p f 1 0)
      claims_there = claims_later m s0 s1 cs (claims_of m p f 1 0) (λ i h. none.kept i refl) are

      over_is : s1.over ≡ m
      over_is = none.over ∙ is.over

      abbrev pub EntriesTested : Bool → ℕ → Type 0
      EntriesTested good next = (q : claims.Proof) (g : Ctl) → IsFrameOf s1 frame q → length cs ≡ node_count g → AreClaims s1.over s1 cs (claims_of s1.over q g 1 0)
          → AreTested s1.over (listed_lines s1.over (constraint_list s1 frame.constraints true) (constraint_list s1 frame.constraints false) q g 1 (map listed_of (map (map_entry (region s1)) entries))) mid good next

      entries_tested : (good : Bool) (next : ℕ) → EntriesTested good next → AreTested m entry_part mid good next
      entries_tested good next t =
          let regions_are : region s1 ≡ region s0 = regions_kept s0 s1 none in
          let visits_are = list_kept s0 s1 [] none frame.constraints true framed.given in
          let avoids_are = list_kept s0 s1 [] none frame.constraints false framed.given in
          subst (λ (T : Type 0). T) (λ i. AreTested (over_is i) (listed_lines (over_is i) (visits_are i) (avoids_are i) p f 1 (map listed_of (map (map_entry (regions_are i)) (entries_are i)))) mid good next)
          (t p f (frame_of_then s0 s1 frame p none framed of) size (subst (λ o. AreClaims o s1 cs (claims_of o p f 1 0)) (sym over_is) claims_there))

      pub entries_fail : (next : ℕ) → EntriesTested false next → AreTested m whole k false next
      entries_fail next t = subst (λ xs. AreTested m xs k false next) whole_is
          (then_tested m (layer_part ++ reach_part) (entry_part ++ end_part) k mid false next (shared_as k true mid held)
          (left_fails m entry_part end_part mid next (entries_tested false next t)))

      pub ends_tested : (s2 : Sets) → Adds s1 s2 [] → (next : ℕ) → EntriesTested true next → (r : Result Bool SetRefusal) (after : ℕ)
          → IfOk r (λ good. (q : claims.Proof) (g : Ctl) → AreClaims m s2 cs (claims_of m q g 1 0) → AreTested m (claim_lines m q g 1 at) next good after)
          → IfOk r (λ good. AreTested m whole k good after)
      ends_tested s2 more next t r after h = if_ok r (λ good u.
          subst (λ xs. AreTested m xs k good after) whole_is
          (then_tested m (layer_part ++ reach_part) (entry_part ++ end_part) k mid good after (shared_as k true mid held)
          (then_tested m entry_part end_part mid next good after (entries_tested true next t)
          (subst (λ o. AreTested m (claim_lines m p f 1 o) next good after) at_is
          (u p f (claims_later m s1 s2 cs (claims_of m p f 1 0) (λ i e. more.kept i refl) claims_there)))))) h
