-- Proofs whose pins stay live stand for what they stood for.
use Rattle.std.proofs.Common.{◌≡◌, ℕ, List, [], ◌∷◌, ◌++◌, map, Option, Some, None, refl, ap}
use Rattle.std.specs.Prelude.{option_map}
use Rattle.region_sets.specs.declared.pins.Pin.{Pin}
use Rattle.region_sets.specs.Sets.{Sets, Adds, region}
use Rattle.region_sets.specs.Ranks.{AreLive, slots}
use Rattle.region_sets.proofs.Changes.{stays}
use Rattle.proof_form.specs.Form.{FairPart, FreePart, Proof, entries_sets, fair_sets, free_sets, free_sets_of, layer_sets, map_fair, map_free}
use Rattle.proof_form.specs.Pinned.{over_states, proof_slots}
use Rattle.proof_form.proofs.Copied.{live_left, live_right}
use Rattle.claim_sets.proofs.Grounds.{Keeps, entries_same, first_same, free_entries_same, keeps_left, keeps_right, layers_same, lists_same}
use Rattle.std.specs.List.{flat_map}

module _ (a b : Sets) where
  fair_same : (p : FairPart Pin) → Keeps a b (slots (fair_sets p)) → map_fair (region b) p ≡ map_fair (region a) p
  fair_same p h =
      let inside : region b p.inside ≡ region a p.inside = first_same a b p.inside (flat_map (λ sets. sets) p.reach) h in
      let reach : map (map (region b)) p.reach ≡ map (map (region a)) p.reach = lists_same a b p.reach (keeps_right a b (p.inside ∷ []) (flat_map (λ sets. sets) p.reach) h) in
      λ i. record { inside = inside i; reach = reach i }

  pub free_same : (p : FreePart Pin) → Keeps a b (slots (free_sets p)) → map_free (region b) p ≡ map_free (region a) p
  free_same p h =
      let entries = entries_sets (map (λ e. e.entry) p.entries) in
      let behind : Keeps a b (slots (fair_sets p.fair ++ entries)) = keeps_right a b (layer_sets p.nonfair) (fair_sets p.fair ++ entries) h in
      let nonfair = layers_same a b p.nonfair (keeps_left a b (layer_sets p.nonfair) (fair_sets p.fair ++ entries) h) in
      let fair = fair_same p.fair (keeps_left a b (fair_sets p.fair) entries behind) in
      let listed = free_entries_same a b p.entries (keeps_right a b (fair_sets p.fair) entries behind) in
      λ i. record { nonfair = nonfair i; fair = fair i; entries = listed i }

  free_same_of : (o : Option (FreePart Pin)) → Keeps a b (slots (free_sets_of o)) → option_map (map_free (region b)) o ≡ option_map (map_free (region a)) o
  free_same_of None h = refl
  free_same_of (Some part) h = ap Some (free_same part h)

  pub proof_same : (p : Proof Pin) → Keeps a b (proof_slots p) → over_states b p ≡ over_states a p
  proof_same p h =
      let rest = layer_sets p.nonfair ++ (fair_sets p.fair ++ entries_sets p.entries) in
      let after_free : Keeps a b (slots rest) = keeps_right a b (free_sets_of p.free) rest h in
      let behind : Keeps a b (slots (fair_sets p.fair ++ entries_sets p.entries)) = keeps_right a b (layer_sets p.nonfair) (fair_sets p.fair ++ entries_sets p.entries) after_free in
      let free = free_same_of p.free (keeps_left a b (free_sets_of p.free) rest h) in
      let nonfair = layers_same a b p.nonfair (keeps_left a b (layer_sets p.nonfair) (fair_sets p.fair ++ entries_sets p.entries) after_free) in
      let fair = fair_same p.fair (keeps_left a b (fair_sets p.fair) (entries_sets p.entries) behind) in
      let entries = entries_same a b p.entries (keeps_right a b (fair_sets p.fair) (entries_sets p.entries) behind) in
      λ i. record { claim = p.claim; free = free i; nonfair = nonfair i; fair = fair i; entries = entries i; at = p.at }

pub free_kept : (a b : Sets) {xs : List ℕ} (p : FreePart Pin) → Adds a b xs → AreLive a (slots (free_sets p)) → map_free (region b) p ≡ map_free (region a) p
free_kept a b p adds live = free_same a b p (λ k h. stays adds k (live k h))

pub proof_kept : (a b : Sets) {xs : List ℕ} (p : Proof Pin) → Adds a b xs → AreLive a (proof_slots p) → over_states b p ≡ over_states a p
proof_kept a b p adds live = proof_same a b p (λ k h. stays adds k (live k h))

-- ---- a whole proof's parts

module _ (now : Sets) (p : Proof Pin) (live : AreLive now (proof_slots p)) where
  abbrev pub rest_of : List Pin
  rest_of = layer_sets p.nonfair ++ (fair_sets p.fair ++ entries_sets p.entries)

  after_free_live : AreLive now (slots rest_of)
  after_free_live = live_right now (free_sets_of p.free) rest_of live

  after_layers_live : AreLive now (slots (fair_sets p.fair ++ entries_sets p.entries))
  after_layers_live = live_right now (layer_sets p.nonfair) (fair_sets p.fair ++ entries_sets p.entries) after_free_live

  pub free_live : AreLive now (slots (free_sets_of p.free))
  free_live = live_left now (free_sets_of p.free) rest_of live

  pub nonfair_live : AreLive now (slots (layer_sets p.nonfair))
  nonfair_live = live_left now (layer_sets p.nonfair) (fair_sets p.fair ++ entries_sets p.entries) after_free_live

  pub fair_live : AreLive now (slots (fair_sets p.fair))
  fair_live = live_left now (fair_sets p.fair) (entries_sets p.entries) after_layers_live

  pub entries_live : AreLive now (slots (entries_sets p.entries))
  entries_live = live_right now (fair_sets p.fair) (entries_sets p.entries) after_layers_live

module _ (now : Sets) (p : FreePart Pin) (live : AreLive now (slots (free_sets p))) where
  abbrev pub listed_sets : List Pin
  listed_sets = entries_sets (map (λ e. e.entry) p.entries)

  pub part_layers_live : AreLive now (slots (layer_sets p.nonfair))
  part_layers_live = live_left now (layer_sets p.nonfair) (fair_sets p.fair ++ listed_sets) live

  after_part_layers : AreLive now (slots (fair_sets p.fair ++ listed_sets))
  after_part_layers = live_right now (layer_sets p.nonfair) (fair_sets p.fair ++ listed_sets) live

  pub part_fair_live : AreLive now (slots (fair_sets p.fair))
  part_fair_live = live_left now (fair_sets p.fair) listed_sets after_part_layers

  pub part_entries_live : AreLive now (slots listed_sets)
  part_entries_live = live_right now (fair_sets p.fair) listed_sets after_part_layers
