-- The lines of a whole proof: those of the free part, then those from `nonfair` on.
use Rattle.std.proofs.Common.{◌≡◌, ◌↔◌, ℕ, zero, suc, ◌+◌, ◌*◌, ◌-◌, ◌<◌, ◌≤◌, Bool, true, false, List, [], ◌∷◌, ◌++◌, length, map, get_or, Option, Some, None, Result, inl, inr, refl, sym, ◌∙◌, ap, subst, arith}
use Rattle.std.specs.Prelude.{◌⊎◌, IfOk, IsSomeAnd, IsTrue, option_map, slice_get}
use Rattle.std.specs.Global.{Vec}
use Rattle.std.proofs.lemmas.Bool.{cases_lt, false≢true}
use Rattle.std.proofs.lemmas.List.{get_or-map, get_or_default, length-map}
use Rattle.kripke_model.specs.declared.expressions.Formula.{Formula}
use Rattle.kripke_model.specs.Ctl.{Ctl, formula_of}
use Rattle.kripke_model.specs.Signs.{node_count}
use Rattle.kripke_model.specs.Step.{IsState}
use Rattle.kripke_model.specs.System.{Condition, State, System}
use Rattle.kripke_model.specs.Term.{Term}
use Rattle.kripke_model.specs.WellFormed.{ctl_of}
use Rattle.path_laws.specs.StateSet.{StateSet}
use Rattle.region_sets.specs.declared.pins.Pin.{Pin}
use Rattle.region_sets.specs.declared.pins.SetRefusal.{SetRefusal}
use Rattle.region_sets.specs.Sets.{Sets, Adds, In, IsLive, Stands, has_state, region}
use Rattle.region_sets.specs.Ranks.{AreLive, regions, slots}
use Rattle.region_sets.proofs.Slots.{is_one_of-first}
use Rattle.region_sets.proofs.Changes.{stays, stays_live}
use Rattle.region_sets.proofs.Calls.{regions-same}
use Rattle.fair_rules.specs.Block.{Block, block_lines}
use Rattle.fair_rules.specs.Checks.{Check}
use Rattle.fair_rules.specs.Claims as claims
use Rattle.fair_rules.specs.Claims.{join}
use Rattle.fair_rules.specs.FreePart.{claimed_avoided, claimed_visited, constraint_nodes}
use Rattle.fair_rules.specs.SetLists.{set_at}
use Rattle.proof_form.specs.Agrees.{SameOn}
use Rattle.proof_form.specs.Form.{FreePart, Proof, free_sets, free_sets_of, layer_sets, map_free}
use Rattle.proof_form.specs.Meaning.{ClaimHolds, IsProofOf, ProofsSound, ProvesSpec, block_of, free_lines, free_proof, obligations}
use Rattle.proof_form.specs.Pinned.{over_states, proof_slots, spec_nodes, test_pins}
use Rattle.proof_form.specs.Shape.{FitsFreely, IsFreeInShape, IsInShape, spec_formula}
use Rattle.proof_form.proofs.Agree.{AgreeSets, block_agree, more_sets, no_sets}
use Rattle.proof_form.proofs.KeptShapes.{shape_back, shape_kept}
use Rattle.proof_lines.specs.declared.cases.Case.{Case}
use Rattle.proof_lines.specs.declared.cases.Ends.{Ends}
use Rattle.claim_sets.specs.declared.claims.Claim.{Claim}
use Rattle.proof_lines.specs.Cases.{AreEnds, AreLists, IsCase, formula_in, states_of}
use Rattle.kripke_model.specs.Leaves.{HasModelLeaves}
use Rattle.claim_sets.specs.ConstraintClaims.{HaveClaims, model_sides}
use Rattle.claim_sets.specs.FreeClaims.{IsFreeGround}
use Rattle.proof_lines.specs.Tested.{AreTested}
use Rattle.proof_lines.proofs.BlockClaims.{block_before}
use Rattle.proof_lines.proofs.CasesKept.{states_kept}
use Rattle.claim_sets.proofs.ClaimPins.{if_ok}
use Rattle.claim_sets.proofs.ConstraintSides.{avoided_count, avoided_same, got, visited_count, visited_same}
use Rattle.proof_lines.proofs.Counting.{left_fails, then_tested}
use Rattle.claim_sets.proofs.FreeClaimLists.{fits_by}
use Rattle.claim_sets.proofs.KeptProofs.{free_kept, free_live, proof_kept}
use Rattle.proof_lines.proofs.ReachLines.{tested_agrees}
use Rattle.claim_sets.proofs.Regions.{none_is}
use Rattle.proof_lines.proofs.SharedLines.{own_block}

-- ---- the constraints' sets are those that the free part claims

sets_agree : (m : System) (xs ys : List StateSet) → length xs ≡ length ys → ((i : ℕ) → SameOn m (set_at xs i) (set_at ys i)) → AgreeSets m xs ys
sets_agree m [] [] e h = no_sets
sets_agree m [] (y ∷ ys) e h = absurd (omega (arith, e))
sets_agree m (x ∷ xs) [] e h = absurd (omega (arith, e))
sets_agree m (x ∷ xs) (y ∷ ys) e h = more_sets (h 0) (sets_agree m xs ys (omega (arith, e)) (λ i. h (suc i)))

pub as_claimed : (m : System) (s : Sets) (lists : List (Vec Claim)) (proofs : ℕ → claims.Proof) (b : Block) (f : Ctl) → HaveClaims m s proofs lists → (k : ℕ) (good : Bool) (after : ℕ)
    → AreTested m (block_lines m (model_sides m s lists true) (model_sides m s lists false) b f 1) k good after → AreTested m (block_lines m (claimed_visited m proofs) (claimed_avoided m proofs) b f 1) k good after
as_claimed m s lists proofs b f have k good after t =
    tested_agrees m (block_lines m (model_sides m s lists true) (model_sides m s lists false) b f 1) (block_lines m (claimed_visited m proofs) (claimed_avoided m proofs) b f 1)
    (block_agree m (model_sides m s lists true) (claimed_visited m proofs) (model_sides m s lists false) (claimed_avoided m proofs)
    (sets_agree m (model_sides m s lists true) (claimed_visited m proofs) (visited_count m s lists proofs) (visited_same m s lists proofs have))
    (sets_agree m (model_sides m s lists false) (claimed_avoided m proofs) (avoided_count m s lists proofs) (avoided_same m s lists proofs have)) b b (own_block m b) f 1) k good after t

module _ (case : Case) (s0 : Sets) (is : IsCase s0 case) where
  abbrev pub m : System
  m = case.model.now

  abbrev pub whole : List (List Check)
  whole = obligations m (formula_in case) (states_of s0 case)

  abbrev pub block : List (Vec Claim) → List (List Check)
  block lists = block_lines m (model_sides m s0 lists true) (model_sides m s0 lists false) (block_of (states_of s0 case)) (formula_in case) 1

  -- ---- without a free part

  module _ (none : case.proof.now.free ≡ None) where
    leaves : FitsFreely {A = Pin} m None
    leaves = subst (λ o. FitsFreely m o) none is.shape.free

    have : HaveClaims m s0 (free_proof None) []
    have k c lt = leaves k c lt

    pub no_lists : AreLists s0 m []
    no_lists = record { fitting = fits_by m s0 (free_proof None) [] (omega arith) have; live = λ k h. absurd (false≢true h) }

    pub without_part : (k : ℕ) (r : Result Bool SetRefusal) (after : ℕ) → IfOk r (λ good. AreTested m (block []) k good after) → IfOk r (λ good. AreTested m whole k good after)
    without_part k r after h = if_ok r (λ good t.
        subst (λ o. AreTested m (free_lines m o ++ block_lines m (claimed_visited m (free_proof o)) (claimed_avoided m (free_proof o)) (block_of (states_of s0 case)) (formula_in case) 1) k good after)
        (sym (ap (option_map (map_free (region s0))) none))
        (as_claimed m s0 [] (free_proof None) (block_of (states_of s0 case)) (formula_in case) have k good after t)) h

  -- ---- with one

  module _ (part : FreePart Pin) (some : case.proof.now.free ≡ Some part) where
    abbrev pub over_part : FreePart StateSet
    over_part = map_free (region s0) part

    pub part_shape : IsFreeInShape m part
    part_shape = (subst (λ o. FitsFreely m o) some is.shape.free).1

    pub part_live : AreLive s0 (slots (free_sets part))
    part_live = subst (λ o. AreLive s0 (slots (free_sets_of o))) some (free_live s0 case.proof.now is.live)

    from_parts : (k : ℕ) (good : Bool) (after : ℕ)
        → AreTested m (free_lines m (Some over_part) ++ block_lines m (claimed_visited m (free_proof (Some over_part))) (claimed_avoided m (free_proof (Some over_part))) (block_of (states_of s0 case)) (formula_in case) 1) k good after
        → AreTested m whole k good after
    from_parts k good after t =
        subst (λ o. AreTested m (free_lines m o ++ block_lines m (claimed_visited m (free_proof o)) (claimed_avoided m (free_proof o)) (block_of (states_of s0 case)) (formula_in case) 1) k good after)
        (sym (ap (option_map (map_free (region s0))) some)) t

    pub part_fails : (k after : ℕ) → AreTested m (free_lines m (Some over_part)) k false after → AreTested m whole k false after
    part_fails k after t = from_parts k false after (left_fails m (free_lines m (Some over_part))
        (block_lines m (claimed_visited m (free_proof (Some over_part))) (claimed_avoided m (free_proof (Some over_part))) (block_of (states_of s0 case)) (formula_in case) 1) k after t)

    pub part_then : (lists : List (Vec Claim)) → AreLists s0 m lists → HaveClaims m s0 (free_proof (Some over_part)) lists → (s1 : Sets) → Adds s0 s1 [] → (k mid : ℕ) → AreTested m (free_lines m (Some over_part)) k true mid
        → (r : Result Bool SetRefusal) (after : ℕ)
        → IfOk r (λ good. AreTested m (block_lines m (model_sides m s1 lists true) (model_sides m s1 lists false) (block_of (states_of s1 case)) (formula_in case) 1) mid good after)
        → IfOk r (λ good. AreTested m whole k good after)
    part_then lists are have s1 none k mid held r after h = if_ok r (λ good t.
        from_parts k good after (then_tested m (free_lines m (Some over_part))
        (block_lines m (claimed_visited m (free_proof (Some over_part))) (claimed_avoided m (free_proof (Some over_part))) (block_of (states_of s0 case)) (formula_in case) 1) k mid good after held
        (as_claimed m s0 lists (free_proof (Some over_part)) (block_of (states_of s0 case)) (formula_in case) have mid good after t)))
        (block_before case s0 s1 lists is none are.live mid r after h)

  -- the lines at a later time
  pub whole_before : (s1 : Sets) {xs : List ℕ} → Adds s0 s1 xs → (k : ℕ) (r : Result Bool SetRefusal) (after : ℕ) → IfOk r (λ good. AreTested m (obligations m (formula_in case) (states_of s1 case)) k good after)
      → IfOk r (λ good. AreTested m whole k good after)
  whole_before s1 adds k r after h =
      subst (λ q. IfOk r (λ good. AreTested m (obligations m (formula_in case) q) k good after)) (states_kept s0 s1 adds case is) h

-- ---- what the free part is made of

pub part_ground : (s0 s1 : Sets) {xs : List ℕ} (ends : Ends) (nonfair : Pin) (part : FreePart Pin) → Adds s0 s1 xs → AreLive s0 (slots (free_sets part)) → IsLive s1 ends.full.now.slot
    → ((s : State) → IsState s1.over s → In s1 ends.full.now.slot s) → IsLive s1 nonfair.slot → AreLive s0 (slots (layer_sets part.nonfair)) → region s1 nonfair ≡ join (regions s0 (layer_sets part.nonfair))
    → IsFreeGround s1 ends.full.now nonfair part
part_ground s0 s1 ends nonfair part adds live full_live full nonfair_live layers joined = record {
  full_live = full_live;
  nonfair_live = nonfair_live;
  part_live = λ k h. stays_live adds k (live k h);
  full = full;
  nonfair = joined ∙ ap join (sym (regions-same s0 s1 (layer_sets part.nonfair) (λ k h. stays adds k (layers k h))));
}

pub claims_after : (m : System) (s0 s1 : Sets) {xs : List ℕ} (part : FreePart Pin) (lists : List (Vec Claim)) → Adds s0 s1 xs → AreLive s0 (slots (free_sets part))
    → HaveClaims m s1 (free_proof (Some (map_free (region s0) part))) lists → HaveClaims m s1 (free_proof (Some (map_free (region s1) part))) lists
claims_after m s0 s1 part lists adds live have = subst (λ q. HaveClaims m s1 (free_proof (Some q)) lists) (sym (free_kept s0 s1 part adds live)) have

-- ---- all states and none

pub ends_are : (s0 s1 s2 : Sets) (full empty : Pin) (ends : Ends) → full ≡ ends.full.now → empty ≡ ends.empty.now → Adds s0 s1 (full.slot ∷ []) → Stands s1 full.slot (λ s. IsState s0.over s)
    → Adds s1 s2 (empty.slot ∷ []) → Stands s2 empty.slot (λ s. ⊥) → AreEnds s2 ends
ends_are s0 s1 s2 full empty ends full_is empty_is first all more none = record {
  full_live = subst (λ (x : Pin). IsLive s2 x.slot) full_is (stays_live more full.slot (first.there full.slot (is_one_of-first full.slot [])));
  empty_live = subst (λ (x : Pin). IsLive s2 x.slot) empty_is (more.there empty.slot (is_one_of-first empty.slot []));
  full = λ s state. subst (λ (x : Pin). In s2 x.slot s) full_is
      (subst (λ o. has_state o s ≡ true) (sym (stays more full.slot (first.there full.slot (is_one_of-first full.slot []))))
      ((all s).1 (subst (λ m. IsState m s) (more.over ∙ first.over) state)));
  none = ap (region s2) (sym empty_is) ∙ none_is s2 empty.slot none;
}

pub tested_before : (m : System) (f : Ctl) (s0 s1 : Sets) {xs : List ℕ} (proof : Proof Pin) → Adds s0 s1 xs → AreLive s0 (proof_slots proof) → (k : ℕ) (r : Result Bool SetRefusal) (after : ℕ)
    → IfOk r (λ good. AreTested m (obligations m f (over_states s1 proof)) k good after) → IfOk r (λ good. AreTested m (obligations m f (over_states s0 proof)) k good after)
tested_before m f s0 s1 proof adds live k r after h = subst (λ q. IfOk r (λ good. AreTested m (obligations m f q) k good after)) (proof_kept s0 s1 proof adds live) h

-- ---- the verdict

module _ (m : System) (f : Ctl) (s : Sets) (proof : Proof Pin) where
  pub out_of_shape : (IsInShape m f proof → ⊥) → IsProofOf m f (over_states s proof) → ⊥
  out_of_shape out h = out (shape_back (region s) m f proof h.shape)

  verdict : IsInShape m f proof → (good : Bool) (before after : ℕ) → AreTested m (obligations m f (over_states s proof)) before good after → IsTrue good ↔ IsProofOf m f (over_states s proof)
  verdict shape true before after t = (λ e. record { shape = shape_kept (region s) m f proof shape; lines = t.0 }, λ h. refl)
  verdict shape false before after t = (λ e. absurd (false≢true e), λ h. absurd (t.1.1 (h.lines t.0)))

  pub verdict_result : IsInShape m f proof → (r : Result Bool SetRefusal) (before after : ℕ) → IfOk r (λ good. AreTested m (obligations m f (over_states s proof)) before good after)
      → IfOk r (λ good. IsTrue good ↔ IsProofOf m f (over_states s proof))
  verdict_result shape r before after h = if_ok r (λ good t. verdict shape good before after t) h

-- ---- the formula of a specification

none_got : (xs : List Condition) (i : ℕ) → length xs ≤ i → slice_get xs i ≡ None
none_got [] i le = refl
none_got (x ∷ xs) zero le = absurd (omega (arith, le))
none_got (x ∷ xs) (suc i) le = none_got xs i (omega (arith, le))

module _ (m : System) (formulas : List Formula) (same : map ctl_of formulas ≡ map (λ c. formula_of c.expr) m.specs) where
  count : length formulas ≡ length m.specs
  count = sym (length-map formulas ctl_of) ∙ ap length same ∙ length-map m.specs (λ (c : Condition). formula_of c.expr)

  pub no_formula : (j : ℕ) → (j ≡ 0) ⊎ (length formulas < j) → None ≡ spec_formula m j
  no_formula zero out = refl
  no_formula (suc n) (inl e) = absurd (omega (arith, e))
  no_formula (suc n) (inr lt) = sym (ap (option_map (λ (c : Condition). formula_of c.expr)) (none_got m.specs n (omega (arith, count, lt))))

  pub formula_there : (j i : ℕ) → i + 1 ≡ j → i < length formulas → (formula : Formula) → formula ≡ get_or formulas i formula → Some (ctl_of formula) ≡ spec_formula m j
  formula_there j i at lt formula is =
      let here : i < length m.specs = omega (arith, lt, count) in
      let c : Condition = record { expr = Term.Running 0; line = 0 } in
      let next : suc i ≡ j = omega (arith, at) in
      subst (λ n. Some (ctl_of formula) ≡ spec_formula m n) next
      (sym (ap (option_map (λ (x : Condition). formula_of x.expr)) (got m.specs i c here)
      ∙ ap Some (sym (get_or-map (λ (x : Condition). formula_of x.expr) m.specs i c (ctl_of formula) here) ∙ ap (λ xs. get_or xs i (ctl_of formula)) (sym same)
      ∙ get_or-map ctl_of formulas i formula (ctl_of formula) lt ∙ ap ctl_of (sym is))))

-- the model with these specifications
abbrev with_specs : System → List Condition → System
with_specs m xs = record {
  symbols = m.symbols;
  vars = m.vars;
  selector = m.selector;
  processes = m.processes;
  assigns = m.assigns;
  inits = m.inits;
  invars = m.invars;
  trans = m.trans;
  constraints = m.constraints;
  specs = xs;
}

none_some : {X : Type 0} (x : Ctl) → None ≡ Some x → X
none_some x h = absurd (cc)

some_is : {x y : Ctl} → Some x ≡ Some y → x ≡ y
some_is {x} {y} h = ap (λ o. or_else o) h
  where
    or_else : Option Ctl → Ctl
    or_else (Some z) = z
    or_else None = x

nodes_with : (m : System) (f : Ctl) (xs : List Condition) (n : ℕ) → Some f ≡ spec_formula (with_specs m xs) (suc n) → node_count f ≡ spec_nodes (with_specs m xs) (suc n)
nodes_with m f [] n e = none_some f (sym e)
nodes_with m f (c ∷ cs) zero e = ap node_count (some_is e)
nodes_with m f (c ∷ cs) (suc n) e = nodes_with m f cs n e

nodes_are : (m : System) (f : Ctl) (j : ℕ) → Some f ≡ spec_formula m j → node_count f ≡ spec_nodes m j
nodes_are m f zero e = none_some f (sym e)
nodes_are m f (suc n) e = nodes_with m f m.specs n e

-- ---- a specification's proof

module _ (m : System) (j : ℕ) (p : Proof StateSet) where
  pub none_proves : None ≡ spec_formula m j → ProvesSpec m j p → ⊥
  none_proves none h = subst (λ o. IsSomeAnd o (λ f. IsProofOf m f p)) (sym none) h

  pub spec_proved : (f : Ctl) → Some f ≡ spec_formula m j → (r : Result Bool SetRefusal) → IfOk r (λ good. IsTrue good ↔ IsProofOf m f p) → IfOk r (λ good. IsTrue good ↔ ProvesSpec m j p)
  spec_proved f is r h = if_ok r (λ good a. (
    λ e. subst (λ o. IsSomeAnd o (λ g. IsProofOf m g p)) is (a.0 e),
    λ k. a.1 (subst (λ o. IsSomeAnd o (λ g. IsProofOf m g p)) (sym is) k),
  )) h

  pub sound_result : ProofsSound m → (r : Result Bool SetRefusal) → IfOk r (λ good. IsTrue good ↔ ProvesSpec m j p) → IfOk r (λ good. IsTrue good → ClaimHolds m j p.claim)
  sound_result law r h = if_ok r (λ good a e. law j p (a.0 e)) h

  -- so many nodes
  pub spec_size : (f : Ctl) → Some f ≡ spec_formula m j → 8 * (node_count f + constraint_nodes m + 2) ≡ test_pins m j
  spec_size f is = ap (λ n. 8 * (n + constraint_nodes m + 2)) (nodes_are m f j is)

  -- the formula has the model's leaves alone
  pub spec_leaves : (f : Ctl) → Some f ≡ spec_formula m j → HasModelLeaves m f
  spec_leaves f is = go j is
    where
      go : (n : ℕ) → Some f ≡ spec_formula m n → HasModelLeaves m f
      go zero e = none_some f (sym e)
      go (suc n) e = elim (cases_lt n (length m.specs)) [
        | inl lt ↦
            let c : Condition = record { expr = Term.Running 0; line = 0 } in
            let same : Some f ≡ Some (formula_of (get_or m.specs n c).expr) = e ∙ ap (option_map (λ (x : Condition). formula_of x.expr)) (got m.specs n c lt) in
            subst (λ g. HasModelLeaves m g) (sym (some_is same)) (λ t leaf. inr (n, get_or m.specs n c, lt, get_or_default m.specs n (get_or m.specs n c) c lt, leaf))
        | inr past ↦ none_some f (sym (e ∙ ap (option_map (λ (x : Condition). formula_of x.expr)) (none_got m.specs n (omega (arith, past)))))
      ]
