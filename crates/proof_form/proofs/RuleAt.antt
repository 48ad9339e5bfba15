-- The rule of a node's sign stands at its place of the list.
use Rattle.std.proofs.Common.{◌≡◌, ◌⊎◌, inl, inr, ℕ, ◌+◌, ◌-◌, ◌<◌, ◌≤◌, Bool, List, length, get_or, Option, Some, None, refl, sym, ◌∙◌, ap, arith}
use Rattle.std.specs.Prelude.{◌↔◌}
use Rattle.std.proofs.lemmas.List.{length-map}
use Rattle.std.specs.Option.{option_and_then}
use Rattle.kripke_model.specs.Ctl.{Ctl}
use Rattle.kripke_model.specs.Signs.{ProofRule, node_count}
use Rattle.fair_rules.specs.Nodes.{node_at}
use Rattle.fair_rules.proofs.Nodes.{some_node, no_node as none_there}
use Rattle.proof_form.specs.declared.preorder.Node.{Node}
use Rattle.proof_form.specs.Form.{Entry}
use Rattle.proof_form.specs.Preorder.{NodeView, node_view, node_views, nodes_from}
use Rattle.proof_form.specs.RuleTable.{IsOfNode, node_rule}
use Rattle.proof_form.specs.Shape.{HasRule, kind_of, rule_for}
use Rattle.proof_form.proofs.Preordered.{own_view, view_there, nodes_length, node_at as placed_node}

own_rule : (sign : Bool) (c : Ctl) (b : ℕ) → rule_for sign c ≡ node_rule sign (own_view c b)
own_rule sign (Ctl.Leaf e) b = refl
own_rule sign (Ctl.Not f) b = refl
own_rule sign (Ctl.And f g) b = refl
own_rule sign (Ctl.Or f g) b = refl
own_rule sign (Ctl.Implies f g) b = refl
own_rule sign (Ctl.Iff f g) b = refl
own_rule sign (Ctl.Quant op f) b = refl
own_rule sign (Ctl.Until all f g) b = refl

-- the rule of a node's sign is the one at its place
pub rule_is : (f : Ctl) (i : ℕ) (sign : Bool) (d : NodeView) → 1 ≤ i → i ≤ node_count f
    → option_and_then (rule_for sign) (node_at f 1 i) ≡ node_rule sign (get_or (nodes_from f 0) (node_count f - i) d)
rule_is f i sign d some le = let (c, at) = some_node f 1 i some (omega (arith, le)) in go (node_count f - i) c at (omega (arith, le))
  where
    go : (k : ℕ) (c : Ctl) → node_at f 1 i ≡ Some c → k + i ≡ node_count f → option_and_then (rule_for sign) (node_at f 1 i) ≡ node_rule sign (get_or (nodes_from f 0) k d)
    go k c at e = ap (option_and_then (rule_for sign)) at ∙ own_rule sign c (k + 1 - node_count c) ∙ ap (node_rule sign) (sym (view_there f i k d c at e))

-- and another number has none
pub no_node : (f : Ctl) (i : ℕ) → (i ≡ 0) ⊎ (node_count f < i) → node_at f 1 i ≡ None
no_node f i out = none_there f 1 i (elim out [ inl e ↦ inl (omega (arith, e)) | inr lt ↦ inr (omega (arith, lt)) ])

-- ---- entries

module _ {A : Type 0} (f : Ctl) (nodes : List Node) (e : Entry A) (is : node_views nodes ≡ nodes_from f 0) where
  count : length nodes ≡ node_count f
  count = sym (length-map nodes node_view) ∙ ap length is ∙ nodes_length f 0

  no_rule : {X : Type 0} {o : Option ProofRule} (r : ProofRule) → o ≡ None → o ≡ Some r → X
  no_rule r n s = absurd (none_is_some r (sym n ∙ s))
    where
      none_is_some : (r : ProofRule) → None ≡ Some r → ⊥
      none_is_some r h = absurd (cc)

  pub other_number : (e.node ≡ 0) ⊎ (length nodes < e.node) → HasRule f e → ⊥
  other_number out h = no_rule (kind_of e.rule) (ap (option_and_then (rule_for e.plus)) (no_node f e.node (elim out [ inl z ↦ inl z | inr lt ↦ inr (omega (arith, lt, count)) ]))) h

  pub rule_there : (x : Node) → 1 ≤ e.node → e.node ≤ length nodes → x ≡ get_or nodes (length nodes - e.node) x → IsOfNode (node_view x) e ↔ HasRule f e
  rule_there x some le at = (λ h. same ∙ h, λ h. sym same ∙ h)
    where
      same : option_and_then (rule_for e.plus) (node_at f 1 e.node) ≡ node_rule e.plus (node_view x)
      same = rule_is f e.node e.plus (node_view x) some (omega (arith, le, count))
          ∙ ap (λ k. node_rule e.plus (get_or (nodes_from f 0) k (node_view x))) (omega (arith, count))
          ∙ ap (node_rule e.plus) (sym (placed_node nodes (length nodes - e.node) x (omega (arith, some, le)) at (node_view x) ∙ ap (λ xs. get_or xs (length nodes - e.node) (node_view x)) is))
