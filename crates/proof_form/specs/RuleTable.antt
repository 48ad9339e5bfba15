-- The rules of a formula's nodes, by the list of its nodes.
use Rattle.std.specs.Prelude.{◌≡◌, Bool, Option, Some, None}
use Rattle.kripke_model.specs.Signs.{ProofRule, rule_of, until_rule}
use Rattle.proof_form.specs.declared.preorder.Unary.TheVariants as unary
use Rattle.proof_form.specs.declared.preorder.Binary.TheVariants as binary
use Rattle.proof_form.specs.Preorder.{NodeView}
use Rattle.proof_form.specs.Form.{Entry}
use Rattle.proof_form.specs.Shape.{kind_of}

-- the rule by which a temporal node is claimed true, or false
abbrev pub node_rule : Bool → NodeView → Option ProofRule
node_rule sign (NodeView.One (unary.Quantified op)) = Some (rule_of op sign)
node_rule sign (NodeView.Two (binary.Until all) last) = Some (until_rule all sign)
node_rule sign node = None

-- the entry has the rule of its sign of the node
abbrev pub IsOfNode : {A : Type 0} → NodeView → Entry A → Type 0
IsOfNode node e = node_rule e.plus node ≡ Some (kind_of e.rule)
