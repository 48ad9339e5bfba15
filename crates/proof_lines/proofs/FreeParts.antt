-- The lines of the free part, one part behind another.
use Rattle.std.proofs.Common.{◌≡◌, ℕ, ◌+◌, ◌-◌, ◌≤◌, Bool, true, false, List, [], ◌∷◌, ◌++◌, length, map, Some, Result, sym, ◌∙◌, ap, subst, append_assoc}
use Rattle.std.specs.Prelude.{All, IfOk}
use Rattle.std.specs.Global.{Vec}
use Rattle.path_laws.specs.StateSet.{StateSet}
use Rattle.region_sets.specs.declared.pins.Pin.{Pin}
use Rattle.region_sets.specs.declared.pins.SetRefusal.{SetRefusal}
use Rattle.region_sets.specs.Sets.{Sets, Adds, In, IsLive, region}
use Rattle.region_sets.specs.Ranks.{AreLive, slots}
use Rattle.region_sets.proofs.Changes.{stays_live}
use Rattle.region_sets.proofs.Slots.{is_one_of-first}
use Rattle.fair_rules.specs.Checks.{Check, layer_lines, reach_lines}
use Rattle.fair_rules.specs.SetLists.{everything, nothing}
use Rattle.proof_form.specs.Form.{FairPart, FreeEntry, FreePart, Layer, entries_sets, fair_sets, free_sets, layer_sets, map_free, map_free_entry, map_layer}
use Rattle.proof_form.specs.Shape.{Avoids, FitsConstraints, HasConstraintRule, IsFreeInShape}
use Rattle.proof_form.specs.Meaning.{free_avoided, free_entry_lines, free_lines, free_proof, free_visited, layer_of}
use Rattle.proof_lines.specs.declared.cases.Ends.{Ends}
use Rattle.claim_sets.specs.declared.claims.Claim.{Claim}
use Rattle.claim_sets.specs.declared.constraint_pins.Constraints.TheVariants as constraints
use Rattle.proof_lines.specs.declared.frames.Frame.{Frame}
use Rattle.proof_lines.specs.Cases.{AreEnds, shared}
use Rattle.claim_sets.specs.ConstraintClaims.{HaveClaims, IsGiven, claims_at, constraint_list, constraints_count}
use Rattle.claim_sets.specs.FreeClaims.{IsFreeGround}
use Rattle.proof_lines.specs.Frames.{IsFrame, IsFrameOf}
use Rattle.proof_lines.specs.Tested.{AreTested, next_count}
use Rattle.claim_sets.proofs.ClaimPins.{if_ok}
use Rattle.proof_lines.proofs.Counting.{left_fails, then_tested}
use Rattle.claim_sets.proofs.FoundEntries.{layers_joined}
use Rattle.proof_lines.proofs.EntryNumbers.{free_constraints_there, free_numbers_there}
use Rattle.proof_lines.proofs.Framed.{frame_of_then, have_then, regions_kept}
use Rattle.claim_sets.proofs.KeptProofs.{part_entries_live, part_fair_live, part_layers_live}
use Rattle.proof_lines.proofs.SharedLines.{blank_line}

-- ---- the lines of the part

module _ (s0 : Sets) (frame : Frame) (part : FreePart Pin) (lists : List (Vec Claim)) (framed : IsFrame s0 frame) (all : frame.constraints ≡ constraints.All)
    (of : (k : ℕ) → IsFrameOf s0 frame (free_proof (Some (map_free (region s0) part)) k)) (have : HaveClaims s0.over s0 (free_proof (Some (map_free (region s0) part))) lists) where
  abbrev pub over_part : FreePart StateSet
  over_part = map_free (region s0) part

  abbrev pub layer_part : List StateSet → List (List Check)
  layer_part A = [] ∷ layer_lines A everything nothing nothing (map layer_of over_part.nonfair)

  abbrev pub reach_part : List StateSet → List (List Check)
  reach_part V = [] ∷ reach_lines over_part.fair.inside V over_part.fair.reach

  abbrev pub entry_part : List (List Check)
  entry_part = free_entry_lines s0.over over_part over_part.entries

  abbrev pub whole : List (List Check)
  whole = free_lines s0.over (Some over_part)

  shared_is : constraint_list s0 frame.constraints true ≡ free_visited
  shared_is = ap (λ c. constraint_list s0 c true) all

  avoided_is : constraint_list s0 frame.constraints false ≡ free_avoided
  avoided_is = ap (λ c. constraint_list s0 c false) all

  whole_is : (layer_part free_avoided ++ reach_part free_visited) ++ entry_part ≡ layer_part free_avoided ++ (reach_part free_visited ++ entry_part)
  whole_is = append_assoc (layer_part free_avoided) (reach_part free_visited) entry_part

  module _ (layers : List (Layer Pin)) (fair : FairPart Pin) (entries : List (FreeEntry Pin))
      (layers_are : layers ≡ part.nonfair) (fair_is : fair ≡ part.fair) (entries_are : entries ≡ part.entries) where
    -- ---- what its tests ask for

    one_constraint : constraints_count frame.constraints ≡ 1
    one_constraint = ap constraints_count all

    pub part_layers_avoid : IsFreeInShape s0.over part → All (Avoids (constraints_count frame.constraints)) layers
    part_layers_avoid shape = subst (λ ls. All (Avoids (constraints_count frame.constraints)) ls) (sym layers_are) (subst (λ n. All (Avoids n) part.nonfair) (sym one_constraint) shape.avoided)

    pub part_reach_count : IsFreeInShape s0.over part → length fair.reach ≡ constraints_count frame.constraints
    part_reach_count shape = ap (λ (x : FairPart Pin). length x.reach) fair_is ∙ shape.reach ∙ sym one_constraint

    pub part_layers_alive : AreLive s0 (slots (free_sets part)) → AreLive s0 (slots (layer_sets layers))
    part_layers_alive live = subst (λ ls. AreLive s0 (slots (layer_sets ls))) (sym layers_are) (part_layers_live s0 part live)

    pub part_fair_alive : AreLive s0 (slots (free_sets part)) → AreLive s0 (slots (fair_sets fair))
    part_fair_alive live = subst (λ (x : FairPart Pin). AreLive s0 (slots (fair_sets x))) (sym fair_is) (part_fair_live s0 part live)

    pub part_entries_alive : (s1 : Sets) → Adds s0 s1 [] → AreLive s0 (slots (free_sets part)) → AreLive s1 (slots (entries_sets (map (λ e. e.entry) entries)))
    part_entries_alive s1 none live k h = stays_live none k (subst (λ es. AreLive s0 (slots (entries_sets (map (λ e. e.entry) es)))) (sym entries_are) (part_entries_live s0 part live) k h)

    entry_rules : IsFreeInShape s0.over part → All (HasConstraintRule s0.over) entries
    entry_rules shape = subst (λ es. All (HasConstraintRule s0.over) es) (sym entries_are) shape.rules

    pub part_entries_named : IsFreeInShape s0.over part → length lists ≡ length s0.over.constraints → All (λ e. (1 ≤ e.constraint) × (e.constraint ≤ length lists)) entries
    part_entries_named shape count = free_constraints_there s0.over s0 (free_proof (Some over_part)) lists count entries (entry_rules shape)

    pub part_entries_numbered : IsFreeInShape s0.over part → length lists ≡ length s0.over.constraints → All (λ e. (1 ≤ e.entry.node) × (e.entry.node ≤ length (claims_at lists (e.constraint - 1)))) entries
    part_entries_numbered shape count = free_numbers_there s0.over s0 (free_proof (Some over_part)) lists count entries have (entry_rules shape)

    pub part_entries_fit : IsFreeInShape s0.over part → All (λ e. FitsConstraints 1 e.entry.rule) entries
    part_entries_fit shape = subst (λ es. All (λ e. FitsConstraints 1 e.entry.rule) es) (sym entries_are) shape.fits

    -- ---- its lines

    abbrev pub GivenTested : ℕ → Bool → ℕ → Type 0
    GivenTested k good after =
        AreTested s0.over (shared (constraint_list s0 frame.constraints true) (constraint_list s0 frame.constraints false) (map layer_of (map (map_layer (region s0)) layers)) (region s0 fair.inside) (map (map (region s0)) fair.reach)) k good after

    module _ (first begun : ℕ) (counts : begun ≡ next_count first) where
      from_blank : (good : Bool) (after : ℕ) → AreTested s0.over ((layer_part free_avoided ++ reach_part free_visited) ++ entry_part) begun good after → AreTested s0.over whole first good after
      from_blank good after t = blank_line s0.over (layer_part free_avoided ++ (reach_part free_visited ++ entry_part)) first begun good after counts
          (subst (λ xs. AreTested s0.over xs begun good after) whole_is t)

      given_as : (good : Bool) (after : ℕ) → GivenTested begun good after → AreTested s0.over (layer_part free_avoided ++ reach_part free_visited) begun good after
      given_as good after t =
          subst (λ (T : Type 0). T)
          (λ i. AreTested s0.over (shared (shared_is i) (avoided_is i) (map layer_of (map (map_layer (region s0)) (layers_are i))) (region s0 (fair_is i).inside) (map (map (region s0)) (fair_is i).reach)) begun good after) t

      pub shared_fails : (after : ℕ) → GivenTested begun false after → AreTested s0.over whole first false after
      shared_fails after t = from_blank false after (left_fails s0.over (layer_part free_avoided ++ reach_part free_visited) entry_part begun after (given_as false after t))

      pub entries_tested : (s1 : Sets) → Adds s0 s1 [] → (mid : ℕ) → GivenTested begun true mid → (r : Result Bool SetRefusal) (after : ℕ)
          → IfOk r (λ good. (q : FreePart StateSet) → ((k : ℕ) → IsFrameOf s1 frame (free_proof (Some q) k)) → HaveClaims s1.over s1 (free_proof (Some q)) lists
          → AreTested s1.over (free_entry_lines s1.over q (map (map_free_entry (region s1)) entries)) mid good after)
          → IfOk r (λ good. AreTested s0.over whole first good after)
      entries_tested s1 none mid held r after h =
          let regions_are : region s1 ≡ region s0 = regions_kept s0 s1 none in
          let there : HaveClaims s1.over s1 (free_proof (Some over_part)) lists = have_then s0 s1 none (free_proof (Some over_part)) lists have in
          if_ok r (λ good u.
          from_blank good after (then_tested s0.over (layer_part free_avoided ++ reach_part free_visited) entry_part begun mid good after (given_as true mid held)
          (subst (λ (T : Type 0). T) (λ i. AreTested (none.over i) (free_entry_lines (none.over i) over_part (map (map_free_entry (regions_are i)) (entries_are i))) mid good after)
          (u over_part (λ k. frame_of_then s0 s1 frame (free_proof (Some over_part) k) none framed (of k)) there)))) h

-- ---- its frame

module _ (s0 : Sets) (ends : Ends) (nonfair : Pin) (part : FreePart Pin) (are : AreEnds s0 ends) (ground : IsFreeGround s0 ends.full.now nonfair part) where
  pub part_frame : (frame : Frame) → ends.full.now ≡ frame.full.now → ends.empty.now ≡ frame.empty.now → part.fair.inside ≡ frame.fair.now → nonfair ≡ frame.nonfair.now
      → IsGiven s0 frame.constraints → IsFrame s0 frame
  part_frame frame full empty fair layers given = record {
    full_live = subst (λ (x : Pin). IsLive s0 x.slot) full are.full_live;
    empty_live = subst (λ (x : Pin). IsLive s0 x.slot) empty are.empty_live;
    fair_live = subst (λ (x : Pin). IsLive s0 x.slot) fair (part_fair_live s0 part ground.part_live part.fair.inside.slot (is_one_of-first part.fair.inside.slot _));
    nonfair_live = subst (λ (x : Pin). IsLive s0 x.slot) layers ground.nonfair_live;
    full = λ s state. subst (λ (x : Pin). In s0 x.slot s) full (are.full s state);
    none = ap (region s0) (sym empty) ∙ are.none;
    given = given;
  }

  pub part_frame_of : (frame : Frame) → part.fair.inside ≡ frame.fair.now → nonfair ≡ frame.nonfair.now → (k : ℕ) → IsFrameOf s0 frame (free_proof (Some (map_free (region s0) part)) k)
  part_frame_of frame fair layers k = record {
    fair = ap (region s0) fair;
    nonfair = layers_joined (region s0) part.nonfair ∙ sym ground.nonfair ∙ ap (region s0) layers;
  }
