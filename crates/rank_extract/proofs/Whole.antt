-- A whole proof, from its main part and its free part.
use Rattle.std.proofs.Common.{◌≡◌, ℕ, zero, suc, ◌+◌, ◌*◌, ◌<◌, ◌≤◌, Bool, [], ◌++◌, length, Option, None, is_none, All, Ok, Err, sym, ◌∙◌, ap, subst, arith, length-append}
use Rattle.std.specs.Prelude.{option_map}
use Rattle.std.proofs.Math.Nat.{mul_assoc}
use Rattle.std.proofs.lemmas.Nat.{mul-le}
use Rattle.kripke_model.specs.Ctl.{Ctl}
use Rattle.kripke_model.specs.Signs.{node_count}
use Rattle.kripke_model.specs.System.{System, State, constraint_count}
use Rattle.path_laws.specs.StateSet.{StateSet}
use Rattle.fair_rules.specs.FreePart.{constraint_nodes}
use Rattle.region_sets.specs.declared.pins.Pin.{Pin}
use Rattle.region_sets.specs.declared.pins.SetRefusal.{SetRefusal}
use Rattle.region_sets.specs.Sets.{Sets, Adds, IsCall, region}
use Rattle.region_sets.specs.Ranks.{slots, list_regions}
use Rattle.path_laws.specs.StateCount.{state_count}
use Rattle.region_sets.proofs.Changes.{swaps}
use Rattle.region_sets.proofs.Calls.{then_call, let_go, holds_more, reorders}
use Rattle.region_sets.proofs.Released.{slots-append}
use Rattle.fair_fixpoint.specs.declared.runs.Run.{Run}
use Rattle.fair_fixpoint.specs.Formulas.{node_pins}
use Rattle.fair_fixpoint.specs.Runs.{layer_views}
use Rattle.fair_fixpoint.specs.SatSets.{node_of, pin_bound}
use Rattle.fair_fixpoint.proofs.Bounds.{within_bound}
use Rattle.fair_fixpoint.proofs.Walked.{some_nodes}
use Rattle.proof_form.specs.Form.{FreePart, Proof, map_free, free_sets_of}
use Rattle.proof_form.specs.Meaning.{IsProofOf}
use Rattle.proof_form.specs.Pinned.{over_states, proof_slots}
use Rattle.rank_extract.specs.declared.written.MainPart.{MainPart}
use Rattle.rank_extract.specs.Extracts.{IsLiveRun, run_proof}
use Rattle.rank_extract.specs.Made.{IsMade}
use Rattle.rank_extract.specs.Parts.{main_sets, main_own, main_seen, main_size}
use Rattle.rank_extract.proofs.Adding.{to_err, to_ok}
use Rattle.rank_extract.proofs.Makes.{first_view}
use Rattle.rank_extract.proofs.Parts.{main_kind}
use Rattle.rank_extract.proofs.WrittenFew.{written_few}

-- ---- how many pins it has

abbrev room : System → ℕ → ℕ
room m n = pin_bound m n (state_count m)

-- there is a state
pub some_room : (m : System) → All (λ v. 0 < length v.values) m.vars → 1 ≤ state_count m
some_room m inhabited = some (state_count m) (within_bound m 0 (state_count m) inhabited (omega arith))
  where
    some : (s : ℕ) → 1 * node_pins m (constraint_count m) + constraint_count m + 7 + 1 ≤ 4 * (0 + 2) * (constraint_count m + 2) * s → 1 ≤ s
    some zero h = absurd (omega (arith, h))
    some (suc s) h = omega arith

both_fit : (m : System) (n k : ℕ) → 1 ≤ n → 1 ≤ state_count m → (n + 1) * node_pins m (constraint_count m) + room m k ≤ room m (n + k)
both_fit m n k some states =
    omega (
      arith,
      mul_assoc (4 * (k + 2)) (constraint_count m + 2) (state_count m),
      mul_assoc (4 * (n + k + 2)) (constraint_count m + 2) (state_count m),
      fit n k ((constraint_count m + 2) * state_count m) some (omega (arith, mul-le 3 1 (constraint_count m + 2) (state_count m) (omega arith) states)),
    )
  where
    fit : (n k b : ℕ) → 1 ≤ n → 3 ≤ b → (n + 1) * (b + 3) + 4 * (k + 2) * b ≤ 4 * (n + k + 2) * b
    fit n k b some wide = omega (arith, mul-le n 3 n b (omega arith) wide, mul-le 1 b n b some (omega arith), wide, some)

module _ (m : System) (f : Ctl) (s0 : Sets) (run : Run) (live : IsLiveRun m f s0 run) (st : Option State) where
  main_few : main_size (run_proof f s0 run st None) ≤ (node_count f + 1) * node_pins m (constraint_count m)
  main_few =
      let r = live.run_of in
      subst (λ n. main_size (run_proof f s0 run st None) ≤ (node_count f + 1) * node_pins m n) r.constraints.count
      (written_few m r.visited live.within (region s0 run.fair) (layer_views s0 run.nonfair.items) (list_regions s0 run.reach.items) (node_of s0 run.nodes.items) f r.over.parted r.over.nodes.computed st)

  pub main_fits : All (λ v. 0 < length v.values) m.vars → main_size (run_proof f s0 run st None) + room m (constraint_nodes m) ≤ room m (node_count f + constraint_nodes m)
  main_fits inhabited = omega (arith, main_few, both_fit m (node_count f) (constraint_nodes m) (some_nodes f) (some_room m inhabited))

  module _ (inhabited : All (λ v. 0 < length v.values) m.vars) (n : ℕ) (n_is : n ≡ node_count f) where
    fits : main_size (run_proof f s0 run st None) + room m (constraint_nodes m) ≤ room m (n + constraint_nodes m)
    fits = subst (λ k. main_size (run_proof f s0 run st None) + room m (constraint_nodes m) ≤ room m (k + constraint_nodes m)) (sym n_is) (main_fits inhabited)

    pub main_call_refused : {T : Type 0} {s1 : Sets} {e : SetRefusal} → IsMade {X = MainPart} main_own (main_seen st) main_size s0 s1 (run_proof f s0 run st None) (Err e)
        → IsCall (room m (n + constraint_nodes m)) {T = T} s0 s1 [] (Err e)
    main_call_refused {T} {s1} {e} p = to_err e (holds_more (room m (n + constraint_nodes m)) (omega (arith, fits)) p.call)

    -- ---- the main part, and a free part after it

    module _ {s1 : Sets} (main : MainPart) (p : IsMade main_own (main_seen st) main_size s0 s1 (run_proof f s0 run st None) (Ok main)) where
      main_length : length (main_own main) ≡ main_size (run_proof f s0 run st None)
      main_length = (main_kind st).sized s1 main ∙ ap main_size p.view

      pub free_call_refused : {T U : Type 0} {s2 s3 : Sets} {e : SetRefusal} → IsCall (room m (constraint_nodes m)) {T = T} s1 s2 [] (Err e) → Adds s3 s2 (main_own main) → s3.fulls ≡ s2.fulls
          → IsCall (room m (n + constraint_nodes m)) {T = U} s0 s3 [] (Err e)
      free_call_refused {T} {U} {s2} {s3} {e} q back fulls =
          to_err e (let_go {xs = main_own main} {ys = []} (then_call (room m (n + constraint_nodes m)) p.call q (omega (arith, fits)) (omega (arith, fits, main_length))) back fulls)

      module _ (free : Option (FreePart Pin)) (claim : Bool) where
        abbrev whole : Proof Pin
        whole = record { claim = claim; free = free; nonfair = main.nonfair.items; fair = main.fair; entries = main.entries.items; at = st }

        slots_are : proof_slots whole ≡ slots (free_sets_of free) ++ main_own main
        slots_are = slots-append (free_sets_of free) (main_sets main)

        pub whole_few : length (slots (free_sets_of free)) ≤ room m (constraint_nodes m) → length (proof_slots whole) ≤ room m (n + constraint_nodes m)
        whole_few few = omega (arith, ap length slots_are, length-append (slots (free_sets_of free)) (main_own main), main_length, few, fits)

        module _ {s2 : Sets} (q : IsCall (room m (constraint_nodes m)) s1 s2 (slots (free_sets_of free)) (Ok free)) where
          pub whole_call : {U : Type 0} (x : U) → IsCall (room m (n + constraint_nodes m)) s0 s2 (proof_slots whole) (Ok x)
          whole_call x =
              let both = then_call (room m (n + constraint_nodes m)) p.call q (omega (arith, fits)) (omega (arith, fits, main_length)) in
              to_ok x (subst (λ ks. IsCall (room m (n + constraint_nodes m)) s0 s2 ks (Ok free)) (sym slots_are) (reorders both (swaps (main_own main) (slots (free_sets_of free)) both.pins)))

          whole_view : claim ≡ is_none st → over_states s2 whole ≡ run_proof f s0 run st (option_map (map_free (region s2)) free)
          whole_view is =
              ap (λ (b : Bool). over_states s2 (record { claim = b; free = free; nonfair = main.nonfair.items; fair = main.fair; entries = main.entries.items; at = st })) is
              ∙ ap (λ (v : Proof StateSet). record v { free = option_map (map_free (region s2)) free }) (first_view (main_kind st) main p q.pins)

          pub whole_proves : claim ≡ is_none st → IsProofOf m f (run_proof f s0 run st (option_map (map_free (region s2)) free)) → IsProofOf m f (over_states s2 whole)
          whole_proves is proves = subst (λ v. IsProofOf m f v) (sym (whole_view is)) proves
