-- In the list of a formula's nodes the parts of each node stand before it, of the first one right before.
use Rattle.std.proofs.Common.{◌≡◌, inl, inr, ℕ, ◌+◌, ◌-◌, ◌<◌, ◌≤◌, length, get_or, Some, refl, sym, subst, arith}
use Rattle.kripke_model.specs.Ctl.{Ctl}
use Rattle.kripke_model.specs.Leaves.{IsLeafOf}
use Rattle.kripke_model.specs.Signs.{node_count}
use Rattle.kripke_model.specs.Term.{Term}
use Rattle.fair_rules.specs.Nodes.{node_at}
use Rattle.fair_rules.proofs.Nodes.{OfParts, parts, some_nodes, some_node, node_range, inherited}
use Rattle.proof_form.specs.Preorder.{NodeView, nodes_from}
use Rattle.proof_form.proofs.Preordered.{own_view, nodes_length, view_there}

module _ (P : Term → Type 0) where
  -- a leaf has the property
  abbrev pub IsPlacedBy : ℕ → NodeView → Type 0
  IsPlacedBy place (NodeView.Leaf e) = P e
  IsPlacedBy place (NodeView.One kind) = 1 ≤ place
  IsPlacedBy place (NodeView.Two kind last) = (1 ≤ place) × (last < place)

  abbrev AllOf : Ctl → Type 0
  AllOf f = (t : Term) → IsLeafOf t f → P t

  leaves_below : (c : Ctl) (n : ℕ) → AllOf c → OfParts (λ f k. AllOf f) (parts c) n
  leaves_below (Ctl.Leaf e) n leaves = tt
  leaves_below (Ctl.Not f) n leaves = leaves
  leaves_below (Ctl.And f g) n leaves = (λ t h. leaves t (inl h), λ t h. leaves t (inr h))
  leaves_below (Ctl.Or f g) n leaves = (λ t h. leaves t (inl h), λ t h. leaves t (inr h))
  leaves_below (Ctl.Implies f g) n leaves = (λ t h. leaves t (inl h), λ t h. leaves t (inr h))
  leaves_below (Ctl.Iff f g) n leaves = (λ t h. leaves t (inl h), λ t h. leaves t (inr h))
  leaves_below (Ctl.Quant op f) n leaves = leaves
  leaves_below (Ctl.Until all f g) n leaves = (λ t h. leaves t (inl h), λ t h. leaves t (inr h))

  two_before : (f g : Ctl) (k b : ℕ) → b + (1 + node_count f + node_count g) ≡ k + 1 → (1 ≤ k) × (b + node_count g - 1 < k)
  two_before f g k b size = (omega (arith, size, some_nodes f), omega (arith, size, some_nodes f, some_nodes g))

  placed : (c : Ctl) (k b : ℕ) → AllOf c → b + node_count c ≡ k + 1 → IsPlacedBy k (own_view c b)
  placed (Ctl.Leaf e) k b leaves size = leaves e refl
  placed (Ctl.Not f) k b leaves size = omega (arith, size, some_nodes f)
  placed (Ctl.And f g) k b leaves size = two_before f g k b size
  placed (Ctl.Or f g) k b leaves size = two_before f g k b size
  placed (Ctl.Implies f g) k b leaves size = two_before f g k b size
  placed (Ctl.Iff f g) k b leaves size = two_before f g k b size
  placed (Ctl.Quant op f) k b leaves size = omega (arith, size, some_nodes f)
  placed (Ctl.Until all f g) k b leaves size = two_before f g k b size

  placed_at : (f : Ctl) → AllOf f → (i k : ℕ) (d : NodeView) → k + i ≡ node_count f → (c : Ctl) → node_at f 1 i ≡ Some c → IsPlacedBy k (get_or (nodes_from f 0) k d)
  placed_at f leaves i k d e c is =
      subst (λ v. IsPlacedBy k v) (sym (view_there f i k d c is e))
      (placed c k (k + 1 - node_count c) (inherited (λ g n. AllOf g) leaves_below f 1 i c is leaves) (omega (arith, e, (node_range f 1 i c is).1)))

  pub placed_by : (f : Ctl) → AllOf f → (k : ℕ) (d : NodeView) → k < length (nodes_from f 0) → IsPlacedBy k (get_or (nodes_from f 0) k d)
  placed_by f leaves k d lt =
      let (c, is) = some_node f 1 (node_count f - k) (omega (arith, lt, nodes_length f 0)) (omega (arith, lt)) in
      placed_at f leaves (node_count f - k) k d (omega (arith, lt, nodes_length f 0)) c is
