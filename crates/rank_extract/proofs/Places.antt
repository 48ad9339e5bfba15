-- What is found at a place of a list of sets that is copied.
use Rattle.std.proofs.Common.{◌≡◌, ℕ, zero, suc, ◌<◌, true, List, [], ◌∷◌, length, map, get_or, sym, ◌∙◌, ap, subst, arith}
use Rattle.std.specs.Global.{Vec}
use Rattle.std.proofs.lemmas.List.{get_or-map, get_or_default, length-map}
use Rattle.std.proofs.lemmas.Bool.{or_right}
use Rattle.path_laws.specs.StateSet.{StateSet}
use Rattle.fair_rules.specs.SetLists.{nothing}
use Rattle.region_sets.specs.declared.pins.Pin.{Pin}
use Rattle.region_sets.specs.Sets.{Sets, Adds, IsLive, is_one_of, region, has_state}
use Rattle.region_sets.specs.Ranks.{slots, regions, lists_slots, list_regions, AreLive}
use Rattle.region_sets.proofs.Slots.{is_one_of-first, is_one_of-left, is_one_of-right}
use Rattle.region_sets.proofs.Changes.{stays, stays_live}
use Rattle.region_sets.proofs.Calls.{regions-same}
use Rattle.fair_fixpoint.specs.declared.runs.RunLayer.{RunLayer}
use Rattle.fair_fixpoint.specs.Runs.{layer_view, layer_views, layers_slots}
use Rattle.proof_form.specs.Form.{Layer}
use Rattle.rank_extract.specs.Given.{written_layer}
use Rattle.rank_extract.proofs.Makes.{region_stays, all_stay, slot_at}

-- past the end of a list of layers
abbrev pub no_layer : Layer StateSet
no_layer = record { avoid = 0; set = nothing }

-- what stands at a place of a list, whatever stands past its end
pub itself : {A : Type 0} (xs : List A) (k : ℕ) (d : A) → k < length xs → get_or xs k d ≡ get_or xs k (get_or xs k d)
itself xs k d lt = get_or_default xs k d (get_or xs k d) lt

module _ {a b : Sets} {xs : List ℕ} (p : Adds a b xs) where
  -- ---- pins

  pub pin_lives : (pins : List Pin) (k : ℕ) (pin : Pin) → AreLive a (slots pins) → k < length pins → pin ≡ get_or pins k pin → IsLive a pin.slot
  pin_lives pins k pin live lt is = live pin.slot (subst (λ (q : Pin). is_one_of q.slot (slots pins) ≡ true) (sym is) (slot_at pins k pin lt))

  pub pin_live : (pins : List Pin) (k : ℕ) (pin : Pin) → AreLive a (slots pins) → k < length pins → pin ≡ get_or pins k pin → IsLive b pin.slot
  pin_live pins k pin live lt is = stays_live p pin.slot (pin_lives pins k pin live lt is)

  pub pin_there : (pins : List Pin) (k : ℕ) (pin : Pin) → AreLive a (slots pins) → k < length pins → pin ≡ get_or pins k pin → region b pin ≡ get_or (regions a pins) k nothing
  pin_there pins k pin live lt is =
      region_stays pin p (pin_lives pins k pin live lt is) ∙ ap (region a) is ∙ sym (get_or-map (λ (q : Pin). has_state (a.pins q.slot)) pins k pin nothing lt)

  -- ---- lists of pins

  within_lists : (lists : List (Vec Pin)) (k : ℕ) (d : Vec Pin) → k < length lists → (j : ℕ) → is_one_of j (slots (get_or lists k d).items) ≡ true → is_one_of j (lists_slots lists) ≡ true
  within_lists [] k d lt j e = absurd (omega arith)
  within_lists (l ∷ ls) zero d lt j e = is_one_of-left j (slots l.items) (lists_slots ls) e
  within_lists (l ∷ ls) (suc k) d lt j e = is_one_of-right j (slots l.items) (lists_slots ls) (within_lists ls k d (omega arith) j e)

  list_lives : (lists : List (Vec Pin)) (k : ℕ) (list : Vec Pin) → AreLive a (lists_slots lists) → k < length lists → list ≡ get_or lists k list → AreLive a (slots list.items)
  list_lives lists k list live lt is j e = live j (within_lists lists k list lt j (subst (λ (l : Vec Pin). is_one_of j (slots l.items) ≡ true) is e))

  pub list_live : (lists : List (Vec Pin)) (k : ℕ) (list : Vec Pin) (pins : List Pin) → pins ≡ list.items → AreLive a (lists_slots lists) → k < length lists → list ≡ get_or lists k list → AreLive b (slots pins)
  list_live lists k list pins same live lt is = subst (λ (ps : List Pin). AreLive b (slots ps)) (sym same) (all_stay (slots list.items) p (list_lives lists k list live lt is))

  pub list_there : (lists : List (Vec Pin)) (k : ℕ) (list : Vec Pin) (pins : List Pin) → pins ≡ list.items → AreLive a (lists_slots lists) → k < length lists → list ≡ get_or lists k list
      → regions b pins ≡ get_or (list_regions a lists) k []
  list_there lists k list pins same live lt is =
      ap (regions b) same
      ∙ regions-same a b list.items (λ j e. stays p j (list_lives lists k list live lt is j e))
      ∙ ap (λ (l : Vec Pin). regions a l.items) is ∙ sym (get_or-map (λ (l : Vec Pin). regions a l.items) lists k list [] lt)

  -- ---- layers

  within_layers : (layers : List RunLayer) (k : ℕ) (d : RunLayer) → k < length layers → is_one_of (get_or layers k d).set.slot (layers_slots layers) ≡ true
  within_layers [] k d lt = absurd (omega arith)
  within_layers (l ∷ ls) zero d lt = is_one_of-first l.set.slot (layers_slots ls)
  within_layers (l ∷ ls) (suc k) d lt = or_right _ _ (within_layers ls k d (omega arith))

  layer_lives : (layers : List RunLayer) (k : ℕ) (layer : RunLayer) → AreLive a (layers_slots layers) → k < length layers → layer ≡ get_or layers k layer → IsLive a layer.set.slot
  layer_lives layers k layer live lt is = live layer.set.slot (subst (λ (l : RunLayer). is_one_of l.set.slot (layers_slots layers) ≡ true) (sym is) (within_layers layers k layer lt))

  pub layer_live : (layers : List RunLayer) (k : ℕ) (layer : RunLayer) → AreLive a (layers_slots layers) → k < length layers → layer ≡ get_or layers k layer → IsLive b layer.set.slot
  layer_live layers k layer live lt is = stays_live p layer.set.slot (layer_lives layers k layer live lt is)

  pub layer_there : (layers : List RunLayer) (k : ℕ) (layer : RunLayer) → AreLive a (layers_slots layers) → k < length layers → layer ≡ get_or layers k layer
      → written_layer (layer_view b layer) ≡ get_or (map written_layer (layer_views a layers)) k no_layer
  layer_there layers k layer live lt is =
      ap (λ (F : StateSet). written_layer (record { avoid = layer.avoid; states = F })) (region_stays layer.set p (layer_lives layers k layer live lt is))
      ∙ ap (λ (l : RunLayer). written_layer (layer_view a l)) is
      ∙ sym (get_or-map written_layer (layer_views a layers) k (layer_view a layer) no_layer (omega (arith, lt, length-map layers (layer_view a)))
      ∙ ap written_layer (get_or-map (layer_view a) layers k layer (layer_view a layer) lt))

-- ---- as many sets as there are pins

pub few_regions : (s : Sets) (pins : List Pin) (k : ℕ) → k < length pins → k < length (regions s pins)
few_regions s pins k lt = omega (arith, lt, length-map pins (λ (q : Pin). has_state (s.pins q.slot)))

pub few_lists : (s : Sets) (lists : List (Vec Pin)) (k : ℕ) → k < length lists → k < length (list_regions s lists)
few_lists s lists k lt = omega (arith, lt, length-map lists (λ (l : Vec Pin). regions s l.items))

pub few_layers : (s : Sets) (layers : List RunLayer) (k : ℕ) → k < length layers → k < length (map written_layer (layer_views s layers))
few_layers s layers k lt = omega (arith, lt, length-map layers (layer_view s), length-map (layer_views s layers) written_layer)
