-- A proof has at most as many pins as a run is held by.
use Rattle.std.proofs.Common.{◌≡◌, ℕ, ◌+◌, ◌*◌, ◌<◌, ◌≤◌, List, [], ◌∷◌, ◌++◌, length, map, flat_map, Option, None, is_none, is_some, All, refl, sym, subst, arith, length-append}
use Rattle.std.proofs.lemmas.Nat.{mul-le}
use Rattle.kripke_model.specs.Ctl.{Ctl}
use Rattle.kripke_model.specs.Signs.{node_count}
use Rattle.kripke_model.specs.System.{System, State, constraint_count}
use Rattle.path_laws.specs.StateSet.{StateSet}
use Rattle.path_laws.specs.StateCount.{state_count}
use Rattle.fair_fixpoint.specs.Formulas.{node_pins}
use Rattle.fair_fixpoint.specs.Nodes.{NodeView, AreComputed}
use Rattle.fair_fixpoint.specs.Pruned.{IsPrunedTo}
use Rattle.fair_fixpoint.specs.Runs.{LayerView}
use Rattle.fair_fixpoint.specs.SatSets.{pin_bound}
use Rattle.fair_fixpoint.proofs.Bounds.{within_bound}
use Rattle.proof_form.specs.Form.{Entry, layer_sets, rule_sets, entries_sets, sets_of}
use Rattle.rank_extract.specs.Given.{written_layer, wanted, written_proof}
use Rattle.rank_extract.specs.Made.{total, entry_size}
use Rattle.rank_extract.proofs.Sizes.{wanted_few, ground_few}

entries_total : (es : List (Entry StateSet)) → length (entries_sets es) ≡ total entry_size es
entries_total [] = refl
entries_total (e ∷ es) = omega (arith, length-append (rule_sets e.rule) (entries_sets es), entries_total es)

layers_total : (ls : List LayerView) → length (layer_sets (map written_layer ls)) ≡ length ls
layers_total [] = refl
layers_total (l ∷ ls) = omega (arith, layers_total ls)

module _ (m : System) (visited : List StateSet) (Z fair : StateSet) (layers : List LayerView) (reaches : List (List StateSet)) (at : ℕ → NodeView) (f : Ctl)
    (pruned : IsPrunedTo m visited Z layers fair reaches) (computed : AreComputed m visited Z fair at f 1) (st : Option State) where
  pub written_few : length (sets_of (written_proof f fair layers reaches at st None)) ≤ (node_count f + 1) * node_pins m (length visited)
  written_few =
      let es : List (Entry StateSet) = wanted fair at f 1 (is_none st) (is_some st) in
      let entries : length (entries_sets es) ≤ node_count f * node_pins m (length visited) = subst (λ n. n ≤ node_count f * node_pins m (length visited)) (sym (entries_total es)) (wanted_few m visited Z fair at f 1 (is_none st) (is_some st) computed) in
      let ground = ground_few m visited Z fair at layers reaches pruned in
      omega (
        arith,
        entries,
        ground,
        layers_total layers,
        length-append (layer_sets (map written_layer layers)) ((fair ∷ flat_map (λ sets. sets) reaches) ++ entries_sets es),
        length-append (fair ∷ flat_map (λ sets. sets) reaches) (entries_sets es),
      )

  -- so it is within the bound
  pub written_within : (more states : ℕ) → length visited ≡ constraint_count m → All (λ v. 0 < length v.values) m.vars → state_count m ≤ states
      → length (sets_of (written_proof f fair layers reaches at st None)) ≤ pin_bound m (node_count f + more) states
  written_within more states same inhabited le =
      let few : length (sets_of (written_proof f fair layers reaches at st None)) ≤ (node_count f + 1) * node_pins m (constraint_count m) =
      subst (λ n. length (sets_of (written_proof f fair layers reaches at st None)) ≤ (node_count f + 1) * node_pins m n) same written_few in
      let more_nodes : (node_count f + 1) * node_pins m (constraint_count m) ≤ (node_count f + more + 1) * node_pins m (constraint_count m) =
      mul-le (node_count f + 1) (node_pins m (constraint_count m)) (node_count f + more + 1) (node_pins m (constraint_count m)) (omega arith) (omega arith) in
      omega (arith, few, more_nodes, within_bound m (node_count f + more) states inhabited le)
