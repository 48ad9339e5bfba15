-- A proof over the nodes of a block that is tested.
use Rattle.std.specs.Prelude.{◌+◌, ◌<◌, ◌≤◌, ◌^◌, List, length, All}
use Rattle.bdd_nodes.specs.Table.{Has, IsGood}
use Rattle.bit_encode.specs.Code.{IsOrder, state_bits}
use Rattle.kripke_model.specs.Faults.{IsFaultless}
use Rattle.kripke_model.specs.Flat.{node_total}
use Rattle.kripke_model.specs.Signs.{node_count}
use Rattle.kripke_model.specs.WellFormed.{ctl_of}
use Rattle.fair_rules.specs.Checks.{Check}
use Rattle.fair_rules.specs.FreePart.{constraint_nodes}
use Rattle.proof_form.specs.Form.{map_proof, sets_of}
use Rattle.proof_form.specs.Meaning.{obligations}
use Rattle.proof_form.specs.Shape.{IsInShape}
use Rattle.kripke_model.specs.Leaves.{HasModelLeaves}
use Rattle.proof_checker.specs.declared.blocks.Given.{Given}
use Rattle.proof_checker.specs.Imported.{node_states}

-- what each line has to show, over the states of the nodes
abbrev pub given_lines : Given → List (List Check)
given_lines g
    = obligations g.model.now (ctl_of g.formula.now)
    (map_proof (node_states g.model.now g.order.now g.nodes.now) g.proof.now)

-- nothing in the model faults, its states have few bits, and the proof has the shape of one of the formula over good nodes
pub record IsGiven (g : Given) : Type 0 where
  pub faultless : IsFaultless g.model.now
  pub few : state_bits g.model.now ≤ 128
  pub ordered : IsOrder (length g.model.now.vars) g.order.now
  pub leaves : HasModelLeaves g.model.now (ctl_of g.formula.now)
  pub shape : IsInShape g.model.now (ctl_of g.formula.now) g.proof.now
  pub good : IsGood (state_bits g.model.now) g.nodes.now
  pub known : All (Has g.nodes.now) (sets_of g.proof.now)
  pub sizes : node_count (ctl_of g.formula.now) + constraint_nodes g.model.now
      ≤ node_total g.model.now
  pub small : length g.nodes.now + 2 < 2 ^ 32
