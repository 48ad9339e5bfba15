-- Pins, lists of pins, layers, fair parts, rules and entries stand for the same where their pins do.
use Rattle.std.proofs.Common.{◌≡◌, ℕ, true, List, [], ◌∷◌, ◌++◌, length, map, flat_map, refl, sym, ◌∙◌, ap, ap₂, subst, arith, length-append}
use Rattle.std.specs.Global.{Vec}
use Rattle.std.proofs.lemmas.List.{length-map}
use Rattle.path_laws.specs.StateSet.{StateSet}
use Rattle.region_sets.specs.declared.pins.Pin.{Pin}
use Rattle.region_sets.specs.Sets.{Sets, has_state, is_one_of, region}
use Rattle.region_sets.specs.Ranks.{slots, regions, lists_slots}
use Rattle.region_sets.proofs.Slots.{is_one_of-first, is_one_of-left, is_one_of-right}
use Rattle.region_sets.proofs.Calls.{regions-same}
use Rattle.region_sets.proofs.Released.{slots-append}
use Rattle.proof_form.specs.Form.{Layer, FairPart, Rule, EX, AX, AR, EU, AU, ER, Entry, map_layer, map_fair, map_rule, layer_sets, fair_sets, rule_sets, entries_sets}
use Rattle.proof_form.specs.Seen.{seen_rule}
use Rattle.rank_extract.specs.Made.{total, one, many, pin_own, list_own, list_seen, layer_own, layer_seen, fair_own, fair_seen, fair_size, rule_own, rule_seen, rule_size, entry_own, entry_seen, entry_size}
use Rattle.rank_extract.proofs.Adding.{IsKind}

-- what a pin's slot stood for it still stands for
abbrev pub Stays : Sets → Sets → List ℕ → Type 0
Stays a b slots = (k : ℕ) → is_one_of k slots ≡ true → b.pins k ≡ a.pins k

pub stays_left : (a b : Sets) (xs ys : List Pin) → Stays a b (slots (xs ++ ys)) → Stays a b (slots xs)
stays_left a b xs ys h k e = h k (subst (λ ks. is_one_of k ks ≡ true) (sym (slots-append xs ys)) (is_one_of-left k (slots xs) (slots ys) e))

pub stays_right : (a b : Sets) (xs ys : List Pin) → Stays a b (slots (xs ++ ys)) → Stays a b (slots ys)
stays_right a b xs ys h k e = h k (subst (λ ks. is_one_of k ks ≡ true) (sym (slots-append xs ys)) (is_one_of-right k (slots xs) (slots ys) e))

region_same : (a b : Sets) (pin : Pin) → Stays a b (pin.slot ∷ []) → region b pin ≡ region a pin
region_same a b pin h = ap has_state (h pin.slot (is_one_of-first pin.slot []))

pub pin_kind : IsKind pin_own region one
pin_kind = record { sized = λ s x. refl; stable = λ a b x h. region_same a b x h }

pub list_kind : IsKind list_own list_seen many
list_kind = record {
  sized = λ s x. length-map x.items (λ (p : Pin). p.slot) ∙ sym (length-map x.items (λ (p : Pin). has_state (s.pins p.slot)));
  stable = λ a b x h. regions-same a b x.items h;
}

pub layer_kind : IsKind layer_own layer_seen one
layer_kind = record {
  sized = λ s x. refl;
  stable = λ a b x h. ap (λ (F : StateSet). record { avoid = x.avoid; set = F }) (region_same a b x.set h);
}

-- ---- parts of a proof

-- the set of each pin
each_region : (s : Sets) (pins : List Pin) → map (region s) pins ≡ regions s pins
each_region s pins = refl

lists_same : (a b : Sets) (lists : List (List Pin)) → Stays a b (slots (flat_map (λ sets. sets) lists)) → map (map (region b)) lists ≡ map (map (region a)) lists
lists_same a b [] h = refl
lists_same a b (x ∷ xs) h =
    ap₂ (λ y ys. y ∷ ys) (regions-same a b x (stays_left a b x (flat_map (λ sets. sets) xs) h)) (lists_same a b xs (stays_right a b x (flat_map (λ sets. sets) xs) h))

layers_same : (a b : Sets) (layers : List (Layer Pin)) → Stays a b (slots (layer_sets layers)) → map (map_layer (region b)) layers ≡ map (map_layer (region a)) layers
layers_same a b [] h = refl
layers_same a b (l ∷ ls) h = ap₂ (λ x xs. x ∷ xs)
    (ap (λ (F : StateSet). record { avoid = l.avoid; set = F }) (region_same a b l.set (stays_left a b (l.set ∷ []) (layer_sets ls) h)))
    (layers_same a b ls (stays_right a b (l.set ∷ []) (layer_sets ls) h))

fair_same : (a b : Sets) (part : FairPart Pin) → Stays a b (slots (fair_sets part)) → map_fair (region b) part ≡ map_fair (region a) part
fair_same a b part h = λ i. record {
  inside = region_same a b part.inside (stays_left a b (part.inside ∷ []) (flat_map (λ sets. sets) part.reach) h) i;
  reach = lists_same a b part.reach (stays_right a b (part.inside ∷ []) (flat_map (λ sets. sets) part.reach) h) i;
}

rule_same : (a b : Sets) (rule : Rule Pin) → Stays a b (slots (rule_sets rule)) → map_rule (region b) rule ≡ map_rule (region a) rule
rule_same a b (EX set) h = ap EX (region_same a b set h)
rule_same a b (AX set) h = ap AX (region_same a b set h)
rule_same a b (AR set) h = ap AR (region_same a b set h)
rule_same a b (EU sets) h = ap EU (regions-same a b sets h)
rule_same a b (AU layers) h = ap AU (layers_same a b layers h)
rule_same a b (ER fair untils) h = ap₂ (λ f us. ER f us) (fair_same a b fair (stays_left a b (fair_sets fair) untils h)) (regions-same a b untils (stays_right a b (fair_sets fair) untils h))

-- ---- as many sets as pins

flat_size : (s : Sets) (lists : List (List Pin)) → length (flat_map (λ sets. sets) (map (map (region s)) lists)) ≡ length (flat_map (λ sets. sets) lists)
flat_size s [] = refl
flat_size s (x ∷ xs) =
    omega (arith, length-append x (flat_map (λ sets. sets) xs), length-append (map (region s) x) (flat_map (λ sets. sets) (map (map (region s)) xs)), length-map x (region s), flat_size s xs)

layers_size : (s : Sets) (layers : List (Layer Pin)) → length (layer_sets (map (map_layer (region s)) layers)) ≡ length (layer_sets layers)
layers_size s [] = refl
layers_size s (l ∷ ls) = omega (arith, layers_size s ls)

fair_sized : (s : Sets) (part : FairPart Pin) → length (fair_sets (map_fair (region s) part)) ≡ length (fair_sets part)
fair_sized s part = omega (arith, flat_size s part.reach)

rule_sized : (s : Sets) (rule : Rule Pin) → length (rule_sets (map_rule (region s) rule)) ≡ length (rule_sets rule)
rule_sized s (EX set) = refl
rule_sized s (AX set) = refl
rule_sized s (AR set) = refl
rule_sized s (EU sets) = length-map sets (region s)
rule_sized s (AU layers) = layers_size s layers
rule_sized s (ER fair untils) =
    omega (arith, length-append (fair_sets fair) untils, length-append (fair_sets (map_fair (region s) fair)) (map (region s) untils), fair_sized s fair, length-map untils (region s))

slots_size : (pins : List Pin) → length (slots pins) ≡ length pins
slots_size pins = length-map pins (λ (p : Pin). p.slot)

pub fair_kind : IsKind fair_own fair_seen fair_size
fair_kind = record { sized = λ s x. slots_size (fair_sets x) ∙ sym (fair_sized s x); stable = fair_same }

pub rule_kind : IsKind rule_own rule_seen rule_size
rule_kind = record { sized = λ s x. slots_size (rule_sets (seen_rule x)) ∙ sym (rule_sized s (seen_rule x)); stable = λ a b x h. rule_same a b (seen_rule x) h }

pub entry_kind : IsKind entry_own entry_seen entry_size
entry_kind = record {
  sized = λ s x. slots_size (rule_sets x.rule) ∙ sym (rule_sized s x.rule);
  stable = λ a b x h. ap (λ (r : Rule StateSet). record { node = x.node; plus = x.plus; rule = r }) (rule_same a b x.rule h);
}

-- ---- lists of them

pub flat_pins : (pins : List Pin) → flat_map pin_own pins ≡ slots pins
flat_pins [] = refl
flat_pins (p ∷ ps) = ap (λ ks. p.slot ∷ ks) (flat_pins ps)

pub flat_lists : (lists : List (Vec Pin)) → flat_map list_own lists ≡ lists_slots lists
flat_lists [] = refl
flat_lists (l ∷ ls) = ap (λ ks. slots l.items ++ ks) (flat_lists ls)

pub flat_layers : (layers : List (Layer Pin)) → flat_map layer_own layers ≡ slots (layer_sets layers)
flat_layers [] = refl
flat_layers (l ∷ ls) = ap (λ ks. l.set.slot ∷ ks) (flat_layers ls)

pub flat_entries : (entries : List (Entry Pin)) → flat_map entry_own entries ≡ slots (entries_sets entries)
flat_entries [] = refl
flat_entries (e ∷ es) = ap (λ ks. slots (rule_sets e.rule) ++ ks) (flat_entries es) ∙ sym (slots-append (rule_sets e.rule) (entries_sets es))

-- a list has as many pins as sets
pub total_one : {A : Type 0} (vs : List A) → total one vs ≡ length vs
total_one [] = refl
total_one (v ∷ vs) = omega (arith, total_one vs)
