-- Numbers that have a place, and the pins there.
use Rattle.std.proofs.Common.{◌≡◌, ℕ, zero, suc, ◌<◌, true, List, [], ◌∷◌, map, length, sym, ◌∙◌, ap, subst, arith, slice_index}
use Rattle.std.specs.Prelude.{◌==◌}
use Rattle.std.proofs.lemmas.Bool.{or_right}
use Rattle.std.proofs.lemmas.List.{length-map, get_or-map}
use Rattle.bdd_walk.specs.declared.list.NodeList.{NodeList}
use Rattle.bdd_walk.specs.List.{nodes_of, roots_of}
use Rattle.region_sets.specs.declared.pins.Pin.{Pin}
use Rattle.region_sets.specs.Sets.{IsLive, is_one_of}
use Rattle.region_sets.specs.Ranks.{slots}
use Rattle.region_sets.proofs.Slots.{is_one_of-first}
use Rattle.diagram_sets.specs.declared.sets.DiagramSets.{DiagramSets}
use Rattle.diagram_sets.specs.Exports.{coding_in, HaveStates}
use Rattle.proof_checker.specs.Imported.{HasNumber, HasPlaces, seen_in}

among : (xs : List ℕ) (k : ℕ) → k < length xs → is_one_of (slice_index xs k) xs ≡ true
among [] k lt = absurd (omega (arith, lt))
among (x ∷ xs) zero lt = is_one_of-first x xs
among (x ∷ xs) (suc k) lt = or_right (slice_index xs k == x) (is_one_of (slice_index xs k) xs) (among xs k (omega (arith, lt)))

pub places_imported : (x : DiagramSets) (list : NodeList) (places : List ℕ) (pins : List Pin) (table : List ℕ) → length pins ≡ length (roots_of list)
    → ((k : ℕ) → is_one_of k (slots pins) ≡ true → IsLive (seen_in x) k) → HaveStates (seen_in x) (coding_in x) (slots pins) list
    → table ≡ map (λ place. slice_index (slots pins) place) places → HasPlaces x list places table
places_imported x list places pins table as_many live have is number known within =
    let k = slice_index places number in
    let at : slice_index table number ≡ slice_index (slots pins) k = ap (λ t. slice_index t number) is ∙ get_or-map (λ place. slice_index (slots pins) place) places number 0 0 known in
    let lt : k < length (slots pins) = omega (arith, within, as_many, length-map pins (λ pin. pin.slot)) in
    subst (λ slot. HasNumber x (nodes_of list) slot (slice_index (roots_of list) k)) (sym at) (record { live = live (slice_index (slots pins) k) (among (slots pins) k lt); states = have k lt })
