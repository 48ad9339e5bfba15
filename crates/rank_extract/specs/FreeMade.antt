-- What is written for the constraints' formulas, over all paths.
use Rattle.std.specs.Prelude.{◌≡◌, ◌⊎◌, ℕ, ◌+◌, ◌*◌, ◌<◌, true, List, [], ◌∷◌, ◌++◌, length, map, flat_map, slice_index_or, Option, Result, Ok, Err, IfOk, IfErr}
use Rattle.std.specs.Global.{Vec}
use Rattle.kripke_model.specs.Ctl.{Ctl}
use Rattle.kripke_model.specs.System.{System}
use Rattle.path_laws.specs.StateSet.{StateSet}
use Rattle.region_sets.specs.declared.pins.Pin.{Pin}
use Rattle.region_sets.specs.declared.pins.SetRefusal.{SetRefusal}
use Rattle.region_sets.specs.declared.pins.SetRefusal.TheVariants.{Memory}
use Rattle.region_sets.specs.Ranks.{slots}
use Rattle.region_sets.specs.Sets.{Sets, Adds, IsCall, region}
use Rattle.path_laws.specs.StateCount.{state_count}
use Rattle.fair_rules.specs.FreePart.{constraint_nodes, path_nodes}
use Rattle.fair_fixpoint.specs.Formulas.{node_pins}
use Rattle.fair_fixpoint.specs.Runs.{LayerView}
use Rattle.fair_fixpoint.specs.Nodes.{NodeView, AreComputed}
use Rattle.fair_fixpoint.specs.SatSets.{pin_bound}
use Rattle.proof_form.specs.Form.{Entry, FreeEntry, FreePart, entries_sets, free_sets, free_sets_of, map_free_entry}
use Rattle.rank_extract.specs.Given.{written_layer, wanted}
use Rattle.rank_extract.specs.Made.{entry_own, entry_size}

-- the entry is for constraint k, counted from 1
abbrev pub numbered : {A : Type 0} → ℕ → Entry A → FreeEntry A
numbered k e = record { constraint = k; entry = e }

-- the entries of each constraint from number k on
abbrev pub numbered_from : {A : Type 0} → ℕ → List (List (Entry A)) → List (FreeEntry A)
numbered_from k [] = []
numbered_from k (es ∷ parts) = map (numbered k) es ++ numbered_from (k + 1) parts

-- the entries are those of a formula for both of its signs, by the sets of its nodes
abbrev pub AreOfFormula : System → List StateSet → StateSet → StateSet → Ctl → List (Entry StateSet)
    → Type 0
AreOfFormula m visited Z fair f es
    = (at : ℕ → NodeView) × AreComputed m visited Z fair at f 1
    × (es ≡ wanted fair at f 1 true true)

-- or there are none, where it is a leaf
abbrev pub AreBothSigns : System → List StateSet → StateSet → StateSet → Ctl → List (Entry StateSet)
    → Type 0
AreBothSigns m visited Z fair f es
    = ((path_nodes f ≡ 0) × (es ≡ [])) ⊎ AreOfFormula m visited Z fair f es

-- and so for each of the formulas
pub record AreWrittenFor (m : System) (visited : List StateSet) (Z fair : StateSet) (fs : List Ctl)
    (parts : List (List (Entry StateSet))) : Type 0 where
  pub count : length parts ≡ length fs
  pub each : (k : ℕ) → k < length fs → (f : Ctl) (es : List (Entry StateSet))
      → AreBothSigns m visited Z fair (slice_index_or fs k f) (slice_index_or parts k es)

-- the entries are those of the constraints' formulas, in order
abbrev pub AreAllEntries : System → List StateSet → StateSet → StateSet → List Ctl
    → List (FreeEntry StateSet) → Type 0
AreAllEntries m visited Z fair fs es
    = (parts : List (List (Entry StateSet))) × AreWrittenFor m visited Z fair fs parts
    × (es ≡ numbered_from 1 parts)

-- the free part that is written
abbrev pub written_free : StateSet → List LayerView → List (List StateSet)
    → List (List (Entry StateSet)) → FreePart StateSet
written_free fair layers reaches parts = record {
  nonfair = map written_layer layers;
  fair = record { inside = fair; reach = reaches };
  entries = numbered_from 1 parts;
}

-- ---- its pins

abbrev pub free_own : FreeEntry Pin → List ℕ
free_own e = entry_own e.entry

abbrev pub free_seen : Sets → FreeEntry Pin → FreeEntry StateSet
free_seen sets e = map_free_entry (region sets) e

abbrev pub free_size : FreeEntry StateSet → ℕ
free_size e = entry_size e.entry

abbrev pub free_entries_own : Vec (FreeEntry Pin) → List ℕ
free_entries_own entries = slots (entries_sets (map (λ e. e.entry) entries.items))

abbrev pub free_entries_seen : Sets → Vec (FreeEntry Pin) → List (FreeEntry StateSet)
free_entries_seen sets entries = map (free_seen sets) entries.items

abbrev pub part_result_slots : Result (FreePart Pin) SetRefusal → List ℕ
part_result_slots (Ok part) = slots (free_sets part)
part_result_slots (Err refusal) = []

abbrev pub free_result_slots : Result (Option (FreePart Pin)) SetRefusal → List ℕ
free_result_slots (Ok free) = slots (free_sets_of free)
free_result_slots (Err refusal) = []

-- A call that moves entries to the end of a list, as those of constraint k, or the first ones of them where there was no
-- room: then the others are released.
pub record AreMoved {T : Type 0} (k : ℕ) (before after : Sets) (own : List (Entry Pin))
    (old new : List (FreeEntry Pin)) (result : Result T SetRefusal) : Type 0 where
  pub moved : List (Entry Pin)
  pub rest : List (Entry Pin)
  pub parted : own ≡ moved ++ rest
  pub longer : new ≡ old ++ map (numbered k) moved
  pub back : Adds after before (slots (entries_sets rest))
  pub fulls : after.fulls ≡ before.fulls
  pub refusal : IfErr result (λ refusal. refusal ≡ Memory)
  pub all : IfOk result (λ _. rest ≡ [])

-- A call that adds to a list the entries of some formulas, from constraint k on, or the first ones of them where one was
-- refused. The pins are those of what was added.
pub record AreFormulasAdded {T : Type 0} (held : ℕ) (m : System) (visited : List StateSet)
    (Z fair : StateSet) (before after : Sets) (k : ℕ) (fs : List Ctl)
    (old new : List (FreeEntry Pin)) (result : Result T SetRefusal) : Type 0 where
  pub added : List (FreeEntry Pin)
  pub longer : new ≡ old ++ added
  pub call : IsCall held before after (flat_map free_own added) result
  pub written : IfOk result
      (λ _. (parts : List (List (Entry StateSet))) × AreWrittenFor m visited Z fair fs parts
      × (map (free_seen after) added ≡ numbered_from k parts))

-- so many pins are held at a time for formulas of n nodes
abbrev pub formulas_hold : System → ℕ → ℕ
formulas_hold m n = 2 * n * node_pins m 1 + state_count m + 6

-- so many pins are held at a time for the free part, and at most so many are left
abbrev pub free_hold : System → ℕ
free_hold m = pin_bound m (constraint_nodes m) (state_count m)
