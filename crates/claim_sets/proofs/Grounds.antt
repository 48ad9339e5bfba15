-- What claimed sets are made of, later.
use Rattle.std.proofs.Common.{◌≡◌, ℕ, true, List, [], ◌∷◌, ◌++◌, map, refl, sym, ◌∙◌, ap, subst}
use Rattle.std.specs.List.{flat_map}
use Rattle.kripke_model.specs.Step.{IsState}
use Rattle.region_sets.specs.declared.pins.Pin.{Pin}
use Rattle.region_sets.specs.Sets.{Sets, Adds, has_state, is_one_of, region}
use Rattle.region_sets.specs.Ranks.{slots}
use Rattle.region_sets.proofs.Slots.{is_one_of-left, is_one_of-right, is_one_of-first}
use Rattle.region_sets.proofs.Changes.{stays, stays_live}
use Rattle.region_sets.proofs.Calls.{regions-same}
use Rattle.region_sets.proofs.Released.{slots-append}
use Rattle.fair_rules.specs.Claims as claims
use Rattle.fair_rules.specs.Block as blocks
use Rattle.fair_rules.specs.Block.{Listed}
use Rattle.claim_sets.specs.declared.entry_sets.Entries.{Entries}
use Rattle.claim_sets.specs.declared.entry_sets.Entries.TheVariants as entries
use Rattle.claim_sets.specs.declared.entry_sets.Ground.{Ground}
use Rattle.proof_form.specs.Form as form
use Rattle.proof_form.specs.Form.{Entry, FreeEntry, FairPart, Layer, EX, AX, AR, EU, AU, ER, entries_sets, fair_sets, layer_sets, map_entry, map_free_entry, map_layer, map_rule, rule_sets}
use Rattle.proof_form.specs.Meaning.{listed_of, entries_for}
use Rattle.claim_sets.specs.EntrySets.{IsGround, IsGroundOf, entry_slots, listed_in}

-- the slots' pins stand for what they stood for
abbrev pub Keeps : Sets → Sets → List ℕ → Type 0
Keeps a b ks = (k : ℕ) → is_one_of k ks ≡ true → b.pins k ≡ a.pins k

module _ (a b : Sets) where
  pub keeps_left : (xs ys : List Pin) → Keeps a b (slots (xs ++ ys)) → Keeps a b (slots xs)
  keeps_left xs ys h k e = h k (subst (λ ks. is_one_of k ks ≡ true) (sym (slots-append xs ys)) (is_one_of-left k (slots xs) (slots ys) e))

  pub keeps_right : (xs ys : List Pin) → Keeps a b (slots (xs ++ ys)) → Keeps a b (slots ys)
  keeps_right xs ys h k e = h k (subst (λ ks. is_one_of k ks ≡ true) (sym (slots-append xs ys)) (is_one_of-right k (slots xs) (slots ys) e))

  pub first_same : (pin : Pin) (pins : List Pin) → Keeps a b (slots (pin ∷ pins)) → region b pin ≡ region a pin
  first_same pin pins h = ap has_state (h pin.slot (is_one_of-first pin.slot (slots pins)))

  pub layers_same : (ls : List (Layer Pin)) → Keeps a b (slots (layer_sets ls)) → map (map_layer (region b)) ls ≡ map (map_layer (region a)) ls
  layers_same [] h = refl
  layers_same (l ∷ ls) h =
      let one : region b l.set ≡ region a l.set = first_same l.set (layer_sets ls) h in
      let rest : map (map_layer (region b)) ls ≡ map (map_layer (region a)) ls = layers_same ls (keeps_right (l.set ∷ []) (layer_sets ls) h) in
      λ i. record { avoid = l.avoid; set = one i } ∷ rest i

  pub lists_same : (xs : List (List Pin)) → Keeps a b (slots (flat_map (λ sets. sets) xs)) → map (map (region b)) xs ≡ map (map (region a)) xs
  lists_same [] h = refl
  lists_same (x ∷ xs) h =
      let one : map (region b) x ≡ map (region a) x = regions-same a b x (keeps_left x (flat_map (λ sets. sets) xs) h) in
      let rest : map (map (region b)) xs ≡ map (map (region a)) xs = lists_same xs (keeps_right x (flat_map (λ sets. sets) xs) h) in
      λ i. one i ∷ rest i

  rule_same : (r : form.Rule Pin) → Keeps a b (slots (rule_sets r)) → map_rule (region b) r ≡ map_rule (region a) r
  rule_same (EX set) h = ap EX (first_same set [] h)
  rule_same (AX set) h = ap AX (first_same set [] h)
  rule_same (AR set) h = ap AR (first_same set [] h)
  rule_same (EU sets) h = ap EU (regions-same a b sets h)
  rule_same (AU layers) h = ap AU (layers_same layers h)
  rule_same (ER fair untils) h =
      let part : Keeps a b (slots (fair_sets fair)) = keeps_left (fair_sets fair) untils h in
      let inside : region b fair.inside ≡ region a fair.inside = first_same fair.inside (flat_map (λ sets. sets) fair.reach) part in
      let reach : map (map (region b)) fair.reach ≡ map (map (region a)) fair.reach = lists_same fair.reach (keeps_right (fair.inside ∷ []) (flat_map (λ sets. sets) fair.reach) part) in
      let until : map (region b) untils ≡ map (region a) untils = regions-same a b untils (keeps_right (fair_sets fair) untils h) in
      λ i. ER (record { inside = inside i; reach = reach i }) (until i)

  entry_same : (e : Entry Pin) → Keeps a b (slots (rule_sets e.rule)) → map_entry (region b) e ≡ map_entry (region a) e
  entry_same e h =
      let rule : map_rule (region b) e.rule ≡ map_rule (region a) e.rule = rule_same e.rule h in
      λ i. record { node = e.node; plus = e.plus; rule = rule i }

  pub entries_same : (es : List (Entry Pin)) → Keeps a b (slots (entries_sets es)) → map (map_entry (region b)) es ≡ map (map_entry (region a)) es
  entries_same [] h = refl
  entries_same (e ∷ es) h =
      let one : map_entry (region b) e ≡ map_entry (region a) e = entry_same e (keeps_left (rule_sets e.rule) (entries_sets es) h) in
      let rest : map (map_entry (region b)) es ≡ map (map_entry (region a)) es = entries_same es (keeps_right (rule_sets e.rule) (entries_sets es) h) in
      λ i. one i ∷ rest i

  pub free_entries_same : (es : List (FreeEntry Pin)) → Keeps a b (slots (entries_sets (map (λ e. e.entry) es))) → map (map_free_entry (region b)) es ≡ map (map_free_entry (region a)) es
  free_entries_same [] h = refl
  free_entries_same (e ∷ es) h =
      let one : map_entry (region b) e.entry ≡ map_entry (region a) e.entry = entry_same e.entry (keeps_left (rule_sets e.entry.rule) (entries_sets (map (λ (f : FreeEntry Pin). f.entry) es)) h) in
      let rest : map (map_free_entry (region b)) es ≡ map (map_free_entry (region a)) es = free_entries_same es (keeps_right (rule_sets e.entry.rule) (entries_sets (map (λ (f : FreeEntry Pin). f.entry) es)) h) in
      λ i. record { constraint = e.constraint; entry = one i } ∷ rest i

  pub listed_same : (es : Entries) → Keeps a b (entry_slots es) → listed_in b es ≡ listed_in a es
  listed_same (entries.Own es) h = ap (map listed_of) (entries_same es.now h)
  listed_same (entries.Of k es) h = ap (entries_for k) (free_entries_same es.now h)

pub ground_then : (a b : Sets) {xs : List ℕ} (ground : Ground) → Adds a b xs → IsGround a ground → IsGround b ground
ground_then a b ground p g = record {
  full_live = stays_live p ground.full.now.slot g.full_live;
  nonfair_live = stays_live p ground.nonfair.now.slot g.nonfair_live;
  entries_live = λ k h. stays_live p k (g.entries_live k h);
  full = λ s is. subst (λ o. has_state o s ≡ true) (sym (stays p ground.full.now.slot g.full_live)) (g.full s (subst (λ m. IsState m s) p.over is));
}

pub ground_of_then : (a b : Sets) {xs : List ℕ} (ground : Ground) (q : claims.Proof) → Adds a b xs → IsGround a ground → IsGroundOf a ground q → IsGroundOf b ground q
ground_of_then a b ground q p g of = record {
  nonfair = of.nonfair ∙ ap has_state (sym (stays p ground.nonfair.now.slot g.nonfair_live));
  entries = of.entries ∙ ap blocks.entry_of (sym (listed_same a b ground.entries (λ k h. stays p k (g.entries_live k h))));
}
