-- What is written for the constraints' formulas is a whole free part.
use Rattle.std.proofs.Common.{◌≡◌, inl, inr, ℕ, suc, ◌+◌, ◌-◌, ◌<◌, true, false, List, [], ◌∷◌, ◌++◌, length, map, get_or, All, Option, Some, IsSomeAnd, option_map, refl, sym, ◌∙◌, ap, subst, arith, append_assoc}
use Rattle.std.specs.Option.{option_and_then}
use Rattle.std.proofs.lemmas.List.{length-map, get_or-map}
use Rattle.std.proofs.lemmas.List.Elements.{All-nil}
use Rattle.std.proofs.lemmas.Option.{slice_get-get_or}
use Rattle.kripke_model.specs.Ctl.{Ctl, formula_of}
use Rattle.kripke_model.specs.Leaves.{HasLeafConstraints}
use Rattle.kripke_model.specs.Step.{IsState}
use Rattle.kripke_model.specs.System.{System, State, Condition}
use Rattle.kripke_model.specs.Term.{Term}
use Rattle.kripke_model.specs.Truth.{FreeSat}
use Rattle.path_laws.specs.StateSet.{StateSet, ◌∈◌}
use Rattle.fair_rules.specs.Block as blocks
use Rattle.fair_rules.specs.Block.{asked_lines, demand_at, listed_lines}
use Rattle.fair_rules.specs.Checks.{Check, AllHold, layer_lines, reach_lines}
use Rattle.fair_rules.specs.Claims as claims
use Rattle.fair_rules.specs.FreePart.{path_nodes}
use Rattle.fair_rules.specs.SetLists.{everything, nothing}
use Rattle.fair_rules.proofs.Blocks.{nonfair_lines_hold}
use Rattle.fair_rules.proofs.Checks.{hold_both, reach_lines_hold}
use Rattle.fair_fixpoint.specs.ConstraintSets.{IsWhole}
use Rattle.fair_fixpoint.specs.Pruned.{IsPrunedTo}
use Rattle.fair_fixpoint.specs.Runs.{LayerView}
use Rattle.proof_form.specs.Form.{Entry, FreeEntry, FreePart}
use Rattle.proof_form.specs.Meaning.{entry_of, listed_of, entries_for, free_proof, free_visited, free_avoided, free_demand, free_entry_lines, free_lines}
use Rattle.proof_form.specs.Shape.{Avoids, FitsConstraints, HasConstraintRule, HasRule, constraint_formula}
use Rattle.proof_form.proofs.Asked.{all_asked}
use Rattle.rank_extract.specs.FreeMade.{AreBothSigns, AreWrittenFor, numbered, numbered_from, written_free}
use Rattle.rank_extract.specs.Given.{written_layer, wanted}
use Rattle.rank_extract.specs.Laws.{IsWholeFree}
use Rattle.fair_rules.proofs.Nodes.{own_node}
use Rattle.rank_extract.proofs.FreeEntries.{EachPart, part_first, part_rest, found_for, all_numbered, numbered_rising}
use Rattle.rank_extract.proofs.FreeRules.{nonfair, nonfair_met, fair_met, free_rules, entries_met, claimed_true, claimed_false}
use Rattle.rank_extract.proofs.LeafCover.{leaf_true, leaf_false}
use Rattle.rank_extract.proofs.Lines.{listed_hold, no_lines, plain_line}
use Rattle.rank_extract.proofs.NodeEntries.{avoid_all}
use Rattle.rank_extract.proofs.Proves.{all_found, own_list}
use Rattle.rank_extract.proofs.Shaped.{AreRising, all_of, wanted_rising, wanted_shaped}

-- a formula without path operators is a leaf
leaf_or_path : (P : Ctl → Type 0) (f : Ctl) → path_nodes f ≡ 0 → ((e : Term) → P (Ctl.Leaf e)) → P f
leaf_or_path P (Ctl.Leaf e) none h = h e
leaf_or_path P (Ctl.Not f) none h = absurd (omega (arith, none))
leaf_or_path P (Ctl.And f g) none h = absurd (omega (arith, none))
leaf_or_path P (Ctl.Or f g) none h = absurd (omega (arith, none))
leaf_or_path P (Ctl.Implies f g) none h = absurd (omega (arith, none))
leaf_or_path P (Ctl.Iff f g) none h = absurd (omega (arith, none))
leaf_or_path P (Ctl.Quant op f) none h = absurd (omega (arith, none))
leaf_or_path P (Ctl.Until all f g) none h = absurd (omega (arith, none))

abbrev pub formulas : System → List Ctl
formulas m = map (λ c. formula_of c.expr) m.constraints

module _ (m : System) (visited : List StateSet) (whole : IsWhole m visited) (Z fair : StateSet) (layers : List LayerView) (reaches : List (List StateSet))
    (all : (s : State) → IsState m s → s ∈ Z) (pruned : IsPrunedTo m visited Z layers fair reaches) (parts : List (List (Entry StateSet)))
    (written : AreWrittenFor m visited Z fair (formulas m) parts) where
  abbrev part : FreePart StateSet
  part = written_free fair layers reaches parts

  abbrev formula_at : ℕ → Condition → Ctl
  formula_at k c = formula_of (get_or m.constraints k c).expr

  abbrev part_at : ℕ → List (Entry StateSet)
  part_at k = get_or parts k []

  how_many : length parts ≡ length m.constraints
  how_many = written.count ∙ length-map m.constraints (λ c. formula_of c.expr)

  written_at : (k : ℕ) (c : Condition) → k < length m.constraints → AreBothSigns m visited Z fair (formula_at k c) (part_at k)
  written_at k c lt =
      subst (λ f. AreBothSigns m visited Z fair f (part_at k)) (get_or-map (λ (x : Condition). formula_of x.expr) m.constraints k c (formula_of c.expr) lt)
      (written.each k (omega (arith, lt, length-map m.constraints (λ (x : Condition). formula_of x.expr))) (formula_of c.expr) [])

  -- ---- the entries of one constraint

  entries_at : (k : ℕ) → k < length m.constraints → entries_for (k + 1) part.entries ≡ map listed_of (part_at k)
  entries_at k lt = found_for 1 k (k + 1) parts (omega arith) (omega (arith, lt, how_many))

  abbrev with_entries : List (Entry StateSet) → claims.Proof
  with_entries es = record { nonfair = nonfair m visited whole Z fair layers reaches all pruned; fair = fair; reaches = reaches; entries = blocks.entry_of (map listed_of es) }

  proof_is : (k : ℕ) → k < length m.constraints → free_proof (Some part) k ≡ with_entries (part_at k)
  proof_is k lt = ap (λ ls. let p : claims.Proof = record { nonfair = nonfair m visited whole Z fair layers reaches all pruned; fair = fair; reaches = reaches; entries = blocks.entry_of ls } in p) (entries_at k lt)

  constraint_is : (k : ℕ) (c : Condition) → k < length m.constraints → constraint_formula m (k + 1) ≡ Some (formula_at k c)
  constraint_is k c lt =
      let e : k + 1 ≡ suc k = omega arith in
      ap (constraint_formula m) e ∙ ap (option_map (λ d. formula_of d.expr)) (slice_get-get_or m.constraints k c lt)

  -- ---- what is shown of each constraint

  both_shaped : (f : Ctl) (es : List (Entry StateSet)) → AreBothSigns m visited Z fair f es → All (λ e. HasRule f e × FitsConstraints (length visited) e.rule) es
  both_shaped f es (inl leaf) = subst (All (λ e. HasRule f e × FitsConstraints (length visited) e.rule)) (sym leaf.1) (All-nil (λ e. HasRule f e × FitsConstraints (length visited) e.rule))
  both_shaped f es (inr (at, computed, is)) =
      subst (All (λ e. HasRule f e × FitsConstraints (length visited) e.rule)) (sym is)
      (all_of (λ e. HasRule f e × FitsConstraints (length visited) e.rule) (wanted fair at f 1 true true) (wanted_shaped fair at m visited Z f f 1 true true computed (own_node f 1 1 refl)))

  both_rising : (f : Ctl) (es : List (Entry StateSet)) → AreBothSigns m visited Z fair f es → AreRising es
  both_rising f es (inl leaf) = subst AreRising (sym leaf.1) tt
  both_rising f es (inr (at, computed, is)) = subst AreRising (sym is) (wanted_rising fair at f 1 true true)

  both_lines : (f : Ctl) (es : List (Entry StateSet)) → AreBothSigns m visited Z fair f es
      → AllHold m (listed_lines m free_visited free_avoided (with_entries es) f 1 (map listed_of es))
  both_lines f es (inl leaf) = subst (λ xs. AllHold m (listed_lines m free_visited free_avoided (with_entries xs) f 1 (map listed_of xs))) (sym leaf.1) (no_lines m)
  both_lines f es (inr (at, computed, is)) =
      subst (λ xs. AllHold m (listed_lines m free_visited free_avoided (with_entries xs) f 1 (map listed_of xs))) (sym is)
      (let own = wanted fair at f 1 true true in
      listed_hold m free_visited free_avoided (free_rules m visited whole Z fair layers reaches all pruned f at computed) f 1 (map listed_of own)
      (entries_met m visited whole Z fair layers reaches all pruned f at computed)
      (all_asked m (with_entries own) f own (λ i d lt. (both_shaped f own (inr (at, computed, refl)) i d lt).0))
      (own_list m free_visited free_avoided (with_entries own) own (all_found own (wanted_rising fair at f 1 true true))))

  both_true : (f : Ctl) (es : List (Entry StateSet)) → AreBothSigns m visited Z fair f es → (s : State) → IsState m s → FreeSat m f s → s ∈ claims.claimed m (with_entries es) f 1 true
  both_true f es (inl leaf) s is_state holds = leaf_or_path (λ f. FreeSat m f s → s ∈ claims.claimed m (with_entries es) f 1 true) f leaf.0 (λ e holds. leaf_true m (with_entries es) e s holds) holds
  both_true f es (inr (at, computed, is)) s is_state holds =
      subst (λ xs. s ∈ claims.claimed m (with_entries xs) f 1 true) (sym is) (claimed_true m visited whole Z fair layers reaches all pruned f at computed s is_state holds)

  both_false : (f : Ctl) (es : List (Entry StateSet)) → AreBothSigns m visited Z fair f es → (s : State) → IsState m s → (FreeSat m f s → ⊥) → s ∈ claims.claimed m (with_entries es) f 1 false
  both_false f es (inl leaf) s is_state fails = leaf_or_path (λ f. (FreeSat m f s → ⊥) → s ∈ claims.claimed m (with_entries es) f 1 false) f leaf.0 (λ e fails. leaf_false m (with_entries es) e s fails) fails
  both_false f es (inr (at, computed, is)) s is_state fails =
      subst (λ xs. s ∈ claims.claimed m (with_entries xs) f 1 false) (sym is) (claimed_false m visited whole Z fair layers reaches all pruned f at computed s is_state fails)

  -- ---- the lines

  abbrev entry_lines_at : Entry StateSet → ℕ → Option Ctl → List (List Check)
  entry_lines_at e n o =
      asked_lines free_visited free_avoided (free_proof (Some part) n) (option_and_then (λ g. demand_at m (free_proof (Some part) n) g 1 e.node e.plus) o) (entry_of e.rule)

  -- those of the entries of one constraint
  own_lines : (k : ℕ) (f : Ctl) (p : claims.Proof) (es : List (Entry StateSet)) → constraint_formula m (k + 1) ≡ Some f → free_proof (Some part) k ≡ p
      → free_entry_lines m part (map (numbered (k + 1)) es) ≡ listed_lines m free_visited free_avoided p f 1 (map listed_of es)
  own_lines k f p [] formula proof = refl
  own_lines k f p (e ∷ es) formula proof =
      ap (λ ls. entry_lines_at e (k + 1 - 1) (constraint_formula m (k + 1)) ++ ls) (own_lines k f p es formula proof)
      ∙ ap (λ n. entry_lines_at e n (constraint_formula m (k + 1)) ++ listed_lines m free_visited free_avoided p f 1 (map listed_of es)) (let same : k + 1 - 1 ≡ k = omega arith in same)
      ∙ ap (λ o. entry_lines_at e k o ++ listed_lines m free_visited free_avoided p f 1 (map listed_of es)) formula
      ∙ ap (λ q. asked_lines free_visited free_avoided q (demand_at m q f 1 e.node e.plus) (entry_of e.rule) ++ listed_lines m free_visited free_avoided p f 1 (map listed_of es)) proof

  lines_both : (xs ys : List (FreeEntry StateSet)) → AllHold m (free_entry_lines m part xs) → AllHold m (free_entry_lines m part ys) → AllHold m (free_entry_lines m part (xs ++ ys))
  lines_both xs ys h k = subst (AllHold m) (sym (joined xs)) (hold_both m (free_entry_lines m part xs) (free_entry_lines m part ys) h k)
    where
      joined : (xs : List (FreeEntry StateSet)) → free_entry_lines m part (xs ++ ys) ≡ free_entry_lines m part xs ++ free_entry_lines m part ys
      joined [] = refl
      joined (x ∷ xs) =
          let own = asked_lines free_visited free_avoided (free_proof (Some part) (x.constraint - 1)) (free_demand m part x) (entry_of x.entry.rule) in
          ap (λ ls. own ++ ls) (joined xs) ∙ sym (append_assoc own (free_entry_lines m part xs) (free_entry_lines m part ys))

  lines_from : (i : ℕ) (rest : List (List (Entry StateSet))) → EachPart (λ k es. AllHold m (free_entry_lines m part (map (numbered k) es))) i rest → AllHold m (free_entry_lines m part (numbered_from i rest))
  lines_from i [] h = no_lines m
  lines_from i (es ∷ rest) h =
      lines_both (map (numbered i) es) (numbered_from (i + 1) rest)
      (part_first (λ k es. AllHold m (free_entry_lines m part (map (numbered k) es))) i es rest h)
      (lines_from (i + 1) rest (part_rest (λ k es. AllHold m (free_entry_lines m part (map (numbered k) es))) i es rest h))

  abbrev any : Condition
  any = record { expr = Term.Running 0; line = 0 }

  -- what each constraint's entries have, where constraints are counted from 1
  each_part : (P : ℕ → List (Entry StateSet) → Type 0) → ((k : ℕ) → k < length m.constraints → P (k + 1) (part_at k)) → EachPart P 1 parts
  each_part P h = λ j lt. subst (λ n. P n (part_at j)) (let e : j + 1 ≡ 1 + j = omega arith in e) (h j (omega (arith, lt, how_many)))

  entries_hold : AllHold m (free_entry_lines m part part.entries)
  entries_hold = lines_from 1 parts (each_part (λ k es. AllHold m (free_entry_lines m part (map (numbered k) es)))
      (λ k lt. subst (AllHold m) (sym (own_lines k (formula_at k any) (with_entries (part_at k)) (part_at k) (constraint_is k any lt) (proof_is k lt))) (both_lines (formula_at k any) (part_at k) (written_at k any lt))))

  abbrev removed : List (List Check)
  removed = layer_lines free_avoided everything nothing nothing (nonfair m visited whole Z fair layers reaches all pruned)

  abbrev reached : List (List Check)
  reached = reach_lines fair free_visited reaches

  abbrev entered : List (List Check)
  entered = free_entry_lines m part part.entries

  all_lines : AllHold m (free_lines m (Some part))
  all_lines =
      plain_line m (([] ∷ removed) ++ (([] ∷ reached) ++ entered))
      (hold_both m ([] ∷ removed) (([] ∷ reached) ++ entered)
      (plain_line m removed ((nonfair_lines_hold m free_visited free_avoided (nonfair m visited whole Z fair layers reaches all pruned)).1 (nonfair_met m visited whole Z fair layers reaches all pruned)))
      (hold_both m ([] ∷ reached) entered (plain_line m reached ((reach_lines_hold m fair free_visited reaches).1 (fair_met m visited whole Z fair layers reaches all pruned (blocks.entry_of [])))) entries_hold))

  -- ---- the shape, and the whole part

  one : length visited ≡ 1
  one = whole.0

  pub whole_free : (HasLeafConstraints m → ⊥) → IsWholeFree m (Some part)
  whole_free paths = record {
    fits = (
      paths,
      record {
        rising = numbered_rising 1 parts (each_part (λ k es. AreRising es) (λ k lt. both_rising (formula_at k any) (part_at k) (written_at k any lt)));
        rules = all_numbered (HasConstraintRule m) 1 parts (each_part (λ k es. All (λ e. HasConstraintRule m (numbered k e)) es)
            (λ k lt i d within. subst (λ o. IsSomeAnd o (λ f. HasRule f (get_or (part_at k) i d))) (sym (constraint_is k any lt)) (both_shaped (formula_at k any) (part_at k) (written_at k any lt) i d within).0));
        avoided = subst (λ n. All (Avoids {A = StateSet} n) (map written_layer layers)) one (avoid_all (length visited) layers pruned.avoids);
        reach = pruned.kept.lists ∙ one;
        fits = all_numbered (λ e. FitsConstraints 1 e.entry.rule) 1 parts (each_part (λ k es. All (λ e. FitsConstraints 1 e.rule) es)
            (λ k lt i d within. subst (λ n. FitsConstraints n (get_or (part_at k) i d).rule) one (both_shaped (formula_at k any) (part_at k) (written_at k any lt) i d within).1));
      },
    );
    lines = all_lines;
    true_there = λ k c lt s is_state holds. subst (λ p. s ∈ claims.claimed m p (formula_at k c) 1 true) (sym (proof_is k lt)) (both_true (formula_at k c) (part_at k) (written_at k c lt) s is_state holds);
    false_there = λ k c lt s is_state fails. subst (λ p. s ∈ claims.claimed m p (formula_at k c) 1 false) (sym (proof_is k lt)) (both_false (formula_at k c) (part_at k) (written_at k c lt) s is_state fails);
  }
