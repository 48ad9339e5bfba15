-- A proof over pins whose sets stand in a list of nodes, and its text by their numbers there.
use Rattle.std.specs.Prelude.{◌≡◌, ℕ, List, length}
use Rattle.bdd_walk.specs.declared.list.NodeList.{NodeList}
use Rattle.bdd_walk.specs.List.{nodes_of, roots_of, IsGoodList}
use Rattle.bit_encode.specs.Code.{state_bits}
use Rattle.kripke_model.specs.System.{System}
use Rattle.region_sets.specs.declared.pins.Pin.{Pin}
use Rattle.region_sets.specs.Sets.{Sets}
use Rattle.diagram_sets.specs.Exports.{HaveStates, coding_by}
use Rattle.proof_form.specs.Form.{Proof, sets_of}
use Rattle.proof_form.specs.Pinned.{IsFilled, proof_slots}
use Rattle.proof_text.specs.File.{Block}
use Rattle.proof_text.specs.Lines.{block_lines, text_of}

-- the list has a root for each set of the proof, in the order of the lines, which has value 1 at
-- the codes of the set's states
pub record HasSets (sets : Sets) (p : Proof Pin) (list : NodeList) : Type 0 where
  pub good : IsGoodList (state_bits sets.over) list
  pub as_many : length (roots_of list) ≡ length (sets_of p)
  pub states : HaveStates sets (coding_by sets) (proof_slots p) list

-- the block of specification j over the list's nodes, with this proof
abbrev pub block_with : ℕ → NodeList → Proof ℕ → Block
block_with j list p = record { spec = j; nodes = nodes_of list; proof = p; first = 0 }

-- the text is that of a block over the list's nodes, with its roots in the places of the proof's
-- sets
pub record IsTextOver (m : System) (j : ℕ) (p : Proof Pin) (list : NodeList) (text : List ℕ)
    : Type 0 where
  pub numbered : Proof ℕ
  pub filled : IsFilled p (roots_of list) numbered
  pub text_is : text ≡ text_of (block_lines m (block_with j list numbered))
