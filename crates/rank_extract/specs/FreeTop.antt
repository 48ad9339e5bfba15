-- A free part that is made of layers, a fair part and entries.
use Rattle.std.specs.Prelude.{◌≡◌, ℕ, ◌+◌, ◌≤◌, List, ◌++◌, length, map, Result, IfOk}
use Rattle.kripke_model.specs.Ctl.{Ctl}
use Rattle.kripke_model.specs.System.{System}
use Rattle.path_laws.specs.StateSet.{StateSet}
use Rattle.region_sets.specs.declared.pins.Pin.{Pin}
use Rattle.region_sets.specs.declared.pins.SetRefusal.{SetRefusal}
use Rattle.region_sets.specs.Ranks.{slots, list_regions}
use Rattle.region_sets.specs.Sets.{Sets, IsCall, region}
use Rattle.fair_fixpoint.specs.declared.pruning.Pruned.{Pruned}
use Rattle.fair_fixpoint.specs.Formulas.{node_pins}
use Rattle.fair_fixpoint.specs.Pruned.{IsPrunedTo}
use Rattle.fair_fixpoint.specs.Runs.{LayerView, layer_views}
use Rattle.proof_form.specs.Form.{Layer, FairPart, Entry, FreePart, layer_sets, fair_sets}
use Rattle.rank_extract.specs.declared.free_whole.Base.{Base}
use Rattle.rank_extract.specs.FreeMade.{AreWrittenFor, formulas_hold, written_free}
use Rattle.rank_extract.specs.Given.{written_layer}
use Rattle.rank_extract.specs.Made.{fair_of, fair_seen, fair_size, layers_seen, many}

-- ---- the layers and the fair part

abbrev pub base_sets : Base → List Pin
base_sets base = layer_sets base.nonfair.items ++ fair_sets base.fair

abbrev pub base_own : Base → List ℕ
base_own base = slots (base_sets base)

abbrev pub base_seen : Sets → Base → List (Layer StateSet) × FairPart StateSet
base_seen sets base = (layers_seen sets base.nonfair, fair_seen sets base.fair)

abbrev pub base_size : List (Layer StateSet) × FairPart StateSet → ℕ
base_size v = many v.0 + fair_size v.1

-- as they are written of what is left when layers are taken away
abbrev pub pruned_base : Sets → Pruned → List (Layer StateSet) × FairPart StateSet
pruned_base now p
    = (
      map written_layer (layer_views now p.layers.items),
      fair_of (region now p.left)
          (list_regions now p.reach.items),
    )

-- ---- with the entries

abbrev pub part_hold : System → ℕ → ℕ
part_hold m n = formulas_hold m n + node_pins m 1

-- the free part is written of these sets, and of some nodes of each formula
pub record IsPartMade {T : Type 0} (h : ℕ) (m : System) (visited : List StateSet)
    (Z fair : StateSet) (layers : List LayerView) (reaches : List (List StateSet)) (fs : List Ctl)
    (before after : Sets) (slots : List ℕ) (seen : T → FreePart StateSet)
    (result : Result T SetRefusal) : Type 0 where
  pub call : IsCall h before after slots result
  pub few : length slots ≤ h
  pub written : IfOk result
      (λ part. (parts : List (List (Entry StateSet))) × AreWrittenFor m visited Z fair fs parts
      × (seen part ≡ written_free fair layers reaches parts))

-- a free part is written of what is left of Z when layers are taken away
abbrev pub IsFreeOf : System → List StateSet → StateSet → List Ctl → FreePart StateSet → Type 0
IsFreeOf m visited Z fs part =
    (fair : StateSet) × (layers : List LayerView) × (reaches : List (List StateSet))
    × (parts : List (List (Entry StateSet)))
    × IsPrunedTo m visited Z layers fair reaches × AreWrittenFor m visited Z fair fs parts
    × (part ≡ written_free fair layers reaches parts)

-- so many pins are held at a time
abbrev pub over_hold : System → ℕ → ℕ
over_hold m n = part_hold m n + node_pins m 1 + 3
