-- The entries of a node, and the signs that it asks of its parts.
use Rattle.std.specs.Prelude.{ℕ, Bool, true, false, not, ◌||◌, List, []}
use Rattle.path_laws.specs.StateSet.{StateSet}
use Rattle.region_sets.specs.declared.pins.Pin.{Pin}
use Rattle.region_sets.specs.Sets.{Sets, region}
use Rattle.fair_rules.specs.Block.{same_sign}
use Rattle.fair_fixpoint.specs.Found.{ranks_view}
use Rattle.fair_fixpoint.specs.declared.runs.NodeRun.{NodeRun}
use Rattle.fair_fixpoint.specs.declared.formulas.Connective.{Connective}
use Rattle.fair_fixpoint.specs.declared.formulas.Kind.{Kind}
use Rattle.fair_fixpoint.specs.declared.formulas.Kind.TheVariants.{Connected, Quantified, Between}
use Rattle.fair_fixpoint.specs.Nodes.{NodeView}
use Rattle.fair_fixpoint.specs.Formulas.{is_existential}
use Rattle.proof_form.specs.Form.{Entry}
use Rattle.rank_extract.specs.Given.{given, own_entries}

-- a connective has no entries of its own
abbrev pub kind_entries : StateSet → (ℕ → NodeView) → ℕ → Kind → Bool → Bool → List (Entry StateSet)
kind_entries fair at n (Connected c) plus minus = []
kind_entries fair at n (Quantified op) plus minus
    = own_entries fair at n (is_existential op) plus minus
kind_entries fair at n (Between all) plus minus = own_entries fair at n (not all) plus minus

-- the signs that are wanted of the first part, by those that are wanted of the node: most have the
-- same
abbrev pub first_plus : Kind → Bool → Bool → Bool
first_plus (Connected Connective.Not) plus minus = minus
first_plus (Connected Connective.Implies) plus minus = minus
first_plus (Connected Connective.Iff) plus minus = plus || minus
first_plus kind plus minus = plus

abbrev pub first_minus : Kind → Bool → Bool → Bool
first_minus (Connected Connective.Not) plus minus = plus
first_minus (Connected Connective.Implies) plus minus = plus
first_minus (Connected Connective.Iff) plus minus = plus || minus
first_minus kind plus minus = minus

-- and of the last one
abbrev pub last_plus : Kind → Bool → Bool → Bool
last_plus (Connected Connective.Iff) plus minus = plus || minus
last_plus kind plus minus = plus

abbrev pub last_minus : Kind → Bool → Bool → Bool
last_minus (Connected Connective.Iff) plus minus = plus || minus
last_minus kind plus minus = minus

-- ---- the pin of a sign

abbrev pub sign_pin : Bool → NodeRun → Pin
sign_pin true node = node.plus
sign_pin false node = node.minus

-- the entry of a sign of the node, which has number n
abbrev pub sign_entry : Sets → Pin → NodeRun → ℕ → Bool → Bool → Entry StateSet
sign_entry now fair node n some plus = record {
  node = n;
  plus = plus;
  rule = given (region now fair) (same_sign some plus) (region now (sign_pin plus node))
      (ranks_view now node.ranks);
}
