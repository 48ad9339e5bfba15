-- Copies of the sets of a run, and what holds them.
use Rattle.std.specs.Prelude.{◌≡◌, ℕ, ◌+◌, List, [], ◌∷◌, ◌++◌, length, map, flat_map, Result, Ok, Err, IfOk}
use Rattle.std.specs.Global.{Vec}
use Rattle.path_laws.specs.StateSet.{StateSet}
use Rattle.region_sets.specs.declared.pins.Pin.{Pin}
use Rattle.region_sets.specs.declared.pins.SetRefusal.{SetRefusal}
use Rattle.region_sets.specs.Sets.{Sets, IsCall, region}
use Rattle.region_sets.specs.Ranks.{slots, regions, lists_slots, list_regions}
use Rattle.proof_form.specs.declared.form.Rule.{Rule as Given}
use Rattle.proof_form.specs.Seen.{seen_rule}
use Rattle.proof_form.specs.Form.{Layer, FairPart, Rule, Entry, map_layer, map_fair, map_rule, map_entry, layer_sets, fair_sets, rule_sets, entries_sets}

-- how many sets there are in all
abbrev pub total : {A : Type 0} → (A → ℕ) → List A → ℕ
total size [] = 0
total size (v ∷ vs) = size v + total size vs

-- the slots of the pins in an answer
abbrev pub made_slots : {X : Type 0} → (X → List ℕ) → Result X SetRefusal → List ℕ
made_slots own (Ok x) = own x
made_slots own (Err refusal) = []

-- A call that gives what has these sets, and pins of its own for them. `own` are the slots of what it gives, `seen` is
-- what that stands for, and `size` is how many sets it has.
pub record IsMade {X A : Type 0} (own : X → List ℕ) (seen : Sets → X → A) (size : A → ℕ)
    (before after : Sets) (v : A) (result : Result X SetRefusal) : Type 0 where
  pub call : IsCall (size v) before after (made_slots own result) result
  pub view : IfOk result (λ x. seen after x ≡ v)

-- A call that adds to a list what has these sets in turn, or the first ones of them where one was refused.
pub record AreAdded {X A T : Type 0} (own : X → List ℕ) (seen : Sets → X → A) (size : A → ℕ)
    (before after : Sets) (vs : List A) (old new : List X)
    (result : Result T SetRefusal) : Type 0 where
  pub added : List X
  pub longer : new ≡ old ++ added
  pub call : IsCall (total size vs) before after (flat_map own added) result
  pub views : IfOk result (λ _. map (seen after) added ≡ vs)

-- ---- a pin, a list of pins, a layer, a fair part, an entry's rule, an entry

abbrev pub pin_own : Pin → List ℕ
pin_own pin = pin.slot ∷ []

abbrev pub one : {A : Type 0} → A → ℕ
one v = 1

abbrev pub list_own : Vec Pin → List ℕ
list_own list = slots list.items

abbrev pub list_seen : Sets → Vec Pin → List StateSet
list_seen sets list = regions sets list.items

abbrev pub many : {A : Type 0} → List A → ℕ
many vs = length vs

abbrev pub lists_own : Vec (Vec Pin) → List ℕ
lists_own lists = lists_slots lists.items

abbrev pub lists_seen : Sets → Vec (Vec Pin) → List (List StateSet)
lists_seen sets lists = list_regions sets lists.items

abbrev pub layer_own : Layer Pin → List ℕ
layer_own layer = layer.set.slot ∷ []

abbrev pub layer_seen : Sets → Layer Pin → Layer StateSet
layer_seen sets layer = map_layer (region sets) layer

abbrev pub layers_own : Vec (Layer Pin) → List ℕ
layers_own layers = slots (layer_sets layers.items)

abbrev pub layers_seen : Sets → Vec (Layer Pin) → List (Layer StateSet)
layers_seen sets layers = map (layer_seen sets) layers.items

abbrev pub fair_of : StateSet → List (List StateSet) → FairPart StateSet
fair_of inside reach = record { inside = inside; reach = reach }

abbrev pub fair_own : FairPart Pin → List ℕ
fair_own part = slots (fair_sets part)

abbrev pub fair_seen : Sets → FairPart Pin → FairPart StateSet
fair_seen sets part = map_fair (region sets) part

abbrev pub fair_size : FairPart StateSet → ℕ
fair_size part = length (fair_sets part)

abbrev pub rule_own : Given Pin → List ℕ
rule_own rule = slots (rule_sets (seen_rule rule))

abbrev pub rule_seen : Sets → Given Pin → Rule StateSet
rule_seen sets rule = map_rule (region sets) (seen_rule rule)

abbrev pub rule_size : Rule StateSet → ℕ
rule_size rule = length (rule_sets rule)

abbrev pub entry_own : Entry Pin → List ℕ
entry_own entry = slots (rule_sets entry.rule)

abbrev pub entry_seen : Sets → Entry Pin → Entry StateSet
entry_seen sets entry = map_entry (region sets) entry

abbrev pub entries_own : Vec (Entry Pin) → List ℕ
entries_own entries = slots (entries_sets entries.items)

abbrev pub entries_seen : Sets → Vec (Entry Pin) → List (Entry StateSet)
entries_seen sets entries = map (entry_seen sets) entries.items

abbrev pub entry_size : Entry StateSet → ℕ
entry_size entry = length (rule_sets entry.rule)
