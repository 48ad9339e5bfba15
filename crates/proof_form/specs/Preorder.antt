-- The nodes of a formula in a list: the last part's, then the first one's, then the node itself.
use Rattle.std.specs.Prelude.{◌≡◌, ℕ, ◌+◌, ◌-◌, List, [], ◌∷◌, ◌++◌, map}
use Rattle.kripke_model.specs.Ctl.{Ctl}
use Rattle.kripke_model.specs.Reading.{term_of}
use Rattle.kripke_model.specs.Signs.{node_count}
use Rattle.kripke_model.specs.Term.{Term}
use Rattle.kripke_model.specs.WellFormed.{ctl_of}
use Rattle.proof_form.specs.declared.preorder.Unary.{Unary}
use Rattle.proof_form.specs.declared.preorder.Unary.TheVariants as unary
use Rattle.proof_form.specs.declared.preorder.Binary.{Binary}
use Rattle.proof_form.specs.declared.preorder.Binary.TheVariants as binary
use Rattle.proof_form.specs.declared.preorder.Node.{Node}
use Rattle.proof_form.specs.declared.preorder.Node.TheVariants as node
use Rattle.proof_form.specs.declared.preorder.Shape.{Shape}
use Rattle.proof_form.specs.declared.preorder.Shape.TheVariants as shape

-- ---- formulas and their parts

abbrev pub one_of : Unary → Ctl → Ctl
one_of unary.Not f = Ctl.Not f
one_of (unary.Quantified op) f = Ctl.Quant op f

abbrev pub two_of : Binary → Ctl → Ctl → Ctl
two_of binary.And f g = Ctl.And f g
two_of binary.Or f g = Ctl.Or f g
two_of binary.Implies f g = Ctl.Implies f g
two_of binary.Iff f g = Ctl.Iff f g
two_of (binary.Until all) f g = Ctl.Until all f g

abbrev pub IsShapeOf : Shape → Ctl → Type 0
IsShapeOf (shape.Leaf e) c = c ≡ Ctl.Leaf (term_of e.now)
IsShapeOf (shape.One kind f) c = c ≡ one_of kind (ctl_of f.now)
IsShapeOf (shape.Two kind f g) c = c ≡ two_of kind (ctl_of f.now) (ctl_of g.now)

-- ---- the list

-- a node, where the last of two parts stands at the place
pub data NodeView : Type 0 where
  Leaf : (e : Term) → NodeView
  One : (kind : Unary) → NodeView
  Two : (kind : Binary) (last : ℕ) → NodeView

abbrev pub node_view : Node → NodeView
node_view (node.Leaf e) = NodeView.Leaf (term_of e.now)
node_view (node.One kind) = NodeView.One kind
node_view (node.Two kind last) = NodeView.Two kind last

abbrev pub node_views : List Node → List NodeView
node_views nodes = map node_view nodes

-- the nodes of a formula, in a list with so many in front of them
abbrev pub nodes_from : Ctl → ℕ → List NodeView
nodes_from (Ctl.Leaf e) before = NodeView.Leaf e ∷ []
nodes_from (Ctl.Not f) before = nodes_from f before ++ (NodeView.One unary.Not ∷ [])
nodes_from (Ctl.And f g) before
    = nodes_from g before
    ++ (nodes_from f (before + node_count g)
    ++ (NodeView.Two binary.And (before + node_count g - 1) ∷ []))
nodes_from (Ctl.Or f g) before
    = nodes_from g before
    ++ (nodes_from f (before + node_count g)
    ++ (NodeView.Two binary.Or (before + node_count g - 1) ∷ []))
nodes_from (Ctl.Implies f g) before =
    nodes_from g before
    ++ (nodes_from f (before + node_count g)
    ++ (NodeView.Two binary.Implies (before + node_count g - 1) ∷ []))
nodes_from (Ctl.Iff f g) before
    = nodes_from g before
    ++ (nodes_from f (before + node_count g)
    ++ (NodeView.Two binary.Iff (before + node_count g - 1) ∷ []))
nodes_from (Ctl.Quant op f) before
    = nodes_from f before ++ (NodeView.One (unary.Quantified op) ∷ [])
nodes_from (Ctl.Until all f g) before =
    nodes_from g before
    ++ (nodes_from f (before + node_count g)
    ++ (NodeView.Two (binary.Until all) (before + node_count g - 1) ∷ []))
