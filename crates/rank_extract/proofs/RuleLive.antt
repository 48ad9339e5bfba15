-- The sets by which a node's sets grew are live where the node's are.
use Rattle.std.proofs.Common.{ℕ, List, [], ◌∷◌, ◌++◌}
use Rattle.region_sets.specs.Sets.{Sets, IsLive}
use Rattle.region_sets.specs.Ranks.{slots, lists_slots, AreLive}
use Rattle.region_sets.proofs.Slots.{is_one_of-first, is_one_of-left, is_one_of-right}
use Rattle.fair_fixpoint.specs.declared.runs.Layered.{Layered}
use Rattle.fair_fixpoint.specs.declared.runs.NodeRun.{NodeRun}
use Rattle.fair_fixpoint.specs.Runs.{layers_slots, layered_slots, grown_slots, node_slots}

abbrev behind_layers : Layered → List ℕ
behind_layers l = l.inside.slot ∷ (lists_slots l.reach.items ++ slots l.until.items)

module _ (now : Sets) (l : Layered) (live : AreLive now (layered_slots l)) where
  pub layers_live : AreLive now (layers_slots l.layers.items)
  layers_live k e = live k (is_one_of-left k (layers_slots l.layers.items) (behind_layers l) e)

  pub inside_live : IsLive now l.inside.slot
  inside_live = live l.inside.slot (is_one_of-right l.inside.slot (layers_slots l.layers.items) (behind_layers l) (is_one_of-first l.inside.slot (lists_slots l.reach.items ++ slots l.until.items)))

  last_live : AreLive now (lists_slots l.reach.items ++ slots l.until.items)
  last_live k e = live k (is_one_of-right k (layers_slots l.layers.items) (behind_layers l) (is_one_of-right k (l.inside.slot ∷ []) (lists_slots l.reach.items ++ slots l.until.items) e))

  pub reach_live : AreLive now (lists_slots l.reach.items)
  reach_live k e = last_live k (is_one_of-left k (lists_slots l.reach.items) (slots l.until.items) e)

  pub until_live : AreLive now (slots l.until.items)
  until_live k e = last_live k (is_one_of-right k (lists_slots l.reach.items) (slots l.until.items) e)

module _ (now : Sets) (node : NodeRun) (live : AreLive now (node_slots node)) where
  pub plus_live : IsLive now node.plus.slot
  plus_live = live node.plus.slot (is_one_of-first node.plus.slot (node.minus.slot ∷ grown_slots node.ranks))

  pub minus_live : IsLive now node.minus.slot
  minus_live = live node.minus.slot (is_one_of-right node.minus.slot (node.plus.slot ∷ []) (node.minus.slot ∷ grown_slots node.ranks) (is_one_of-first node.minus.slot (grown_slots node.ranks)))

  pub ranks_live : AreLive now (grown_slots node.ranks)
  ranks_live k e = live k (is_one_of-right k (node.plus.slot ∷ (node.minus.slot ∷ [])) (grown_slots node.ranks) e)
