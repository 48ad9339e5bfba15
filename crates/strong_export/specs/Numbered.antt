-- Certificates by the numbers of their sets in a list of nodes.
use Rattle.std.specs.Prelude.{◌≡◌, List, [], ◌∷◌, drop, length, map, slice_index}
use Rattle.bdd_walk.specs.declared.list.NodeList.{NodeList}
use Rattle.bdd_walk.specs.List.{IsGoodList, nodes_of, roots_of}
use Rattle.bit_encode.specs.Code.{state_bits}
use Rattle.diagram_sets.specs.Exports.{HaveStates, coding_by}
use Rattle.region_sets.specs.declared.pins.Pin.{Pin}
use Rattle.region_sets.specs.Ranks.{slots}
use Rattle.region_sets.specs.Sets.{Sets}
use Rattle.command_replies.specs.SeenRows.{seen_row}
use Rattle.command_replies.specs.declared.certificate.NodeCertificate.{NodeCertificate}
use Rattle.strong_fair.specs.Form.{Row}
use Rattle.strong_fair.specs.declared.certificate.Reason.{Reason}

-- the list has a root for each pin, in order, which has value 1 at the codes of the pin's states
pub record HasSets (sets : Sets) (pins : List Pin) (list : NodeList) : Type 0 where
  pub good : IsGoodList (state_bits sets.over) list
  pub as_many : length (roots_of list) ≡ length pins
  pub states : HaveStates sets (coding_by sets) (slots pins) list

-- rows with these reasons and sets
abbrev pub rows_with : {A : Type 0} → List Reason → List A → List (Row A)
rows_with [] sets = []
rows_with (reason ∷ reasons) [] = []
rows_with (reason ∷ reasons) (set ∷ sets) =
    record { set = set; reason = reason } ∷ rows_with reasons sets

-- the certificate is over the list's nodes, its sets are the roots, and its rows have these reasons
pub record IsNumbered (list : NodeList) (reasons : List Reason) (c : NodeCertificate) : Type 0 where
  pub nodes : c.nodes.items ≡ nodes_of list
  pub inside : c.inside ≡ slice_index (roots_of list) 0
  pub rows : map seen_row c.rows.items ≡ rows_with reasons (drop 1 (roots_of list))
