-- The pins of a main part, released in turn.
use Rattle.std.proofs.Common.{List, ◌++◌, refl}
use Rattle.region_sets.specs.declared.pins.Pin.{Pin}
use Rattle.region_sets.specs.Sets.{Sets, Adds, AreDistinct}
use Rattle.region_sets.specs.Ranks.{slots, AreLive}
use Rattle.proof_form.specs.Form.{layer_sets, fair_sets, entries_sets}
use Rattle.proof_form.proofs.Copied.{first_live}
use Rattle.proof_form.proofs.Ended.{first_once, second_once, left_live, both_ended}
use Rattle.rank_extract.specs.declared.written.MainPart.{MainPart}
use Rattle.rank_extract.specs.Parts.{main_sets, main_own}

module _ (a : Sets) (x : MainPart) (live : AreLive a (main_own x)) (once : AreDistinct (main_own x)) where
  abbrev layers : List Pin
  layers = layer_sets x.nonfair.items

  abbrev fairs : List Pin
  fairs = fair_sets x.fair

  abbrev entries : List Pin
  entries = entries_sets x.entries.items

  pub layers_live : AreLive a (slots (layer_sets x.nonfair.items))
  layers_live = first_live a (main_sets x) layers (fairs ++ entries) refl live

  pub layers_once : AreDistinct (slots (layer_sets x.nonfair.items))
  layers_once = first_once a (main_sets x) layers (fairs ++ entries) refl live once

  rest_once : AreDistinct (slots (fairs ++ entries))
  rest_once = second_once a (main_sets x) layers (fairs ++ entries) refl live once

  module _ {b : Sets} (p : Adds b a (slots (layer_sets x.nonfair.items))) where
    rest_live : AreLive b (slots (fairs ++ entries))
    rest_live = left_live a (main_sets x) layers (fairs ++ entries) refl live once p

    pub fair_live : AreLive b (slots (fair_sets x.fair))
    fair_live = first_live b (fairs ++ entries) fairs entries refl rest_live

    pub fair_once : AreDistinct (slots (fair_sets x.fair))
    fair_once = first_once b (fairs ++ entries) fairs entries refl rest_live rest_once

    pub entries_once : AreDistinct (slots (entries_sets x.entries.items))
    entries_once = second_once b (fairs ++ entries) fairs entries refl rest_live rest_once

    module _ {c : Sets} (q : Adds c b (slots (fair_sets x.fair))) where
      pub entries_live : AreLive c (slots (entries_sets x.entries.items))
      entries_live = left_live b (fairs ++ entries) fairs entries refl rest_live rest_once q

      pub all_ended : {d : Sets} → Adds d c (slots (entries_sets x.entries.items)) → Adds d a (main_own x)
      all_ended r = both_ended a (main_sets x) layers (fairs ++ entries) refl live once p (both_ended b (fairs ++ entries) fairs entries refl rest_live rest_once q r)
