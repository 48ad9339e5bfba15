-- Proofs whose sets are pins: what they stand for, and which slots they hold.
use Rattle.std.specs.Prelude.{◌≡◌, ◌↔◌, ℕ, ◌+◌, ◌*◌, List, [], length, map, Option, Some, None, Result, Ok, Err}
use Rattle.std.specs.List.{AllZip, range_with_len, slice_index_or}
use Rattle.kripke_model.specs.Ctl.{Ctl}
use Rattle.kripke_model.specs.Signs.{node_count}
use Rattle.kripke_model.specs.System.{System, State}
use Rattle.path_laws.specs.StateSet.{StateSet}
use Rattle.fair_rules.specs.Rules as rules
use Rattle.fair_rules.specs.FreePart.{constraint_nodes}
use Rattle.region_sets.specs.declared.pins.Pin.{Pin}
use Rattle.region_sets.specs.declared.pins.SetRefusal.{SetRefusal}
use Rattle.region_sets.specs.Sets.{Sets, In, region}
use Rattle.region_sets.specs.Ranks.{slots}
use Rattle.proof_form.specs.Form.{Layer, Proof, map_layer, map_proof, sets_of}
use Rattle.proof_form.specs.Meaning.{layer_of}
use Rattle.proof_form.specs.Shape.{spec_formula}

-- the proof over the states that the pins stand for
abbrev pub over_states : Sets → Proof Pin → Proof StateSet
over_states sets p = map_proof (region sets) p

-- layers over the states of their pins, as the rules have them
abbrev pub layer_over : Sets → Layer Pin → rules.Layer
layer_over sets l = layer_of (map_layer (region sets) l)

abbrev pub layers_over : Sets → List (Layer Pin) → List rules.Layer
layers_over sets layers = map (layer_over sets) layers

abbrev pub proof_slots : Proof Pin → List ℕ
proof_slots p = slots (sets_of p)

abbrev pub proof_result_slots : Result (Proof Pin) SetRefusal → List ℕ
proof_result_slots (Ok p) = proof_slots p
proof_result_slots (Err refusal) = []

-- each of the later pins has the states that its fellow had before
abbrev pub AreCopies : Sets → Sets → List Pin → List Pin → Type 0
AreCopies before after pins copies
    = AllZip (λ (pin copy : Pin). (s : State)
    → In after copy.slot s ↔ In before pin.slot s) pins copies

-- how many nodes specification j has
abbrev pub spec_nodes : System → ℕ → ℕ
spec_nodes m j = nodes_in (spec_formula m j)
  where
    nodes_in : Option Ctl → ℕ
    nodes_in None = 0
    nodes_in (Some f) = node_count f

-- so many pins are held at a time while a proof of specification j is tested
abbrev pub test_pins : System → ℕ → ℕ
test_pins m j = 8 * (spec_nodes m j + constraint_nodes m + 2)

-- Numbers in place of the sets of a proof: one proof over the places 0, 1, 2, .. is the first with the sets at these places, and
-- the second with the numbers there.
pub record IsFilled {A : Type 0} (p : Proof A) (numbers : List ℕ) (filled : Proof ℕ) : Type 0 where
  pub places : Proof ℕ
  pub counted : sets_of places ≡ range_with_len 0 (length (sets_of p))
  pub here : (d : A) → map_proof (λ k. slice_index_or (sets_of p) k d) places ≡ p
  pub there : map_proof (λ k. slice_index_or numbers k 0) places ≡ filled
