-- The entries that a claim needs, from the sets of a formula's nodes.
use Rattle.std.specs.Prelude.{ℕ, ◌+◌, Bool, true, false, not, ◌||◌, if◌then◌else◌, List, [], ◌∷◌, ◌++◌, map, Option, Some, None, is_none, is_some}
use Rattle.kripke_model.specs.Ctl.{Ctl}
use Rattle.kripke_model.specs.Signs.{node_count}
use Rattle.kripke_model.specs.Step.{IsState, Initial}
use Rattle.kripke_model.specs.System.{System, State}
use Rattle.path_laws.specs.StateSet.{StateSet, ◌∈◌}
use Rattle.fair_rules.specs.Claims.{both}
use Rattle.fair_rules.specs.Block.{same_sign}
use Rattle.fair_fixpoint.specs.Runs.{LayerView}
use Rattle.fair_fixpoint.specs.Nodes.{RanksView, NodeView}
use Rattle.fair_fixpoint.specs.NodeRules.{sign_set}
use Rattle.fair_fixpoint.specs.Formulas.{is_existential}
use Rattle.proof_form.specs.Form.{Layer, Rule, EX, AX, AR, EU, AU, ER, Entry, FreePart, Proof}

abbrev pub written_layer : LayerView → Layer StateSet
written_layer l = record { avoid = l.avoid; set = l.states }

-- what is written for a sign of a node, by the sets by which the node's sets grew; on one of the two signs the operator
-- speaks of some path
abbrev pub given : StateSet → Bool → StateSet → RanksView → Rule StateSet
given fair true set RanksView.Plain = EX set
given fair false set RanksView.Plain = AX set
given fair true set (RanksView.Reach sets) = EU sets
given fair false set (RanksView.Reach sets) = AR (both set fair)
given fair true set (RanksView.Layered layers inside reaches untils)
    = ER (record { inside = inside; reach = reaches }) untils
given fair false set (RanksView.Layered layers inside reaches untils)
    = AU (map written_layer layers)

-- the entry of node n, which speaks of some path where it is claimed `some`
abbrev pub entry_at : StateSet → (ℕ → NodeView) → ℕ → Bool → Bool → Entry StateSet
entry_at fair at n some sign
    = record {
      node = n;
      plus = sign;
      rule = given fair (same_sign some sign) (sign_set sign (at n)) (at n).ranks;
    }

-- its entries for the signs that are wanted
abbrev pub own_entries : StateSet → (ℕ → NodeView) → ℕ → Bool → Bool → Bool → List (Entry StateSet)
own_entries fair at n some plus minus =
    (if plus then entry_at fair at n some true ∷ [] else [])
    ++ (if minus then entry_at fair at n some false ∷ [] else [])

-- the entries of a formula whose first node has number n: of its temporal nodes, for the signs by which the signs that
-- are wanted of the formula are claimed
abbrev pub wanted : StateSet → (ℕ → NodeView) → Ctl → ℕ → Bool → Bool → List (Entry StateSet)
wanted fair at (Ctl.Leaf e) n plus minus = []
wanted fair at (Ctl.Not f) n plus minus = wanted fair at f (n + 1) minus plus
wanted fair at (Ctl.And f g) n plus minus
    = wanted fair at f (n + 1) plus minus ++ wanted fair at g (n + 1 + node_count f) plus minus
wanted fair at (Ctl.Or f g) n plus minus
    = wanted fair at f (n + 1) plus minus ++ wanted fair at g (n + 1 + node_count f) plus minus
wanted fair at (Ctl.Implies f g) n plus minus
    = wanted fair at f (n + 1) minus plus ++ wanted fair at g (n + 1 + node_count f) plus minus
wanted fair at (Ctl.Iff f g) n plus minus =
    wanted fair at f (n + 1) (plus || minus) (plus || minus) ++ wanted fair at g
    (n + 1 + node_count f) (plus || minus) (plus || minus)
wanted fair at (Ctl.Quant op f) n plus minus
    = own_entries fair at n (is_existential op) plus minus ++ wanted fair at f (n + 1) plus minus
wanted fair at (Ctl.Until all f g) n plus minus =
    own_entries fair at n (not all) plus minus
    ++ (wanted fair at f (n + 1) plus minus ++ wanted fair at g (n + 1 + node_count f) plus minus)

-- the sign is wanted
abbrev pub wants : Bool → Bool → Bool → Bool
wants plus minus true = plus
wants plus minus false = minus

-- ---- the whole proof

-- the proof that the formula is true, or that it isn't, as it is at the state
abbrev pub written_proof : Ctl → StateSet → List LayerView → List (List StateSet) → (ℕ → NodeView)
    → Option State → Option (FreePart StateSet) → Proof StateSet
written_proof f fair layers reaches at st free = record {
  claim = is_none st;
  free = free;
  nonfair = map written_layer layers;
  fair = record { inside = fair; reach = reaches };
  entries = wanted fair at f 1 (is_none st) (is_some st);
  at = st;
}

-- without a state, every initial state is in the node's positive set; a state is an initial one in its negative set
abbrev pub ShowsSets : System → NodeView → Option State → Type 0
ShowsSets m v None = (s : State) → IsState m s → Initial m s → s ∈ v.plus
ShowsSets m v (Some s) = IsState m s × Initial m s × s ∈ v.minus
