-- How many sets are written of a run.
use Rattle.std.proofs.Common.{◌≡◌, ℕ, suc, ◌+◌, ◌*◌, ◌<◌, ◌≤◌, Bool, true, false, not, ◌||◌, List, [], ◌∷◌, ◌++◌, length, map, flat_map, refl, subst, arith, length-append}
use Rattle.kripke_model.specs.declared.expressions.PathOp.{PathOp}
use Rattle.kripke_model.specs.Ctl.{Ctl}
use Rattle.kripke_model.specs.Signs.{node_count}
use Rattle.kripke_model.specs.System.{System}
use Rattle.path_laws.specs.StateSet.{StateSet}
use Rattle.path_laws.specs.StateCount.{state_count}
use Rattle.fair_rules.specs.Rules.{reach_at}
use Rattle.fair_fixpoint.specs.Runs.{LayerView}
use Rattle.fair_fixpoint.specs.Pruned.{IsPrunedTo, AreKept}
use Rattle.fair_fixpoint.specs.Nodes.{RanksView, NodeView, IsQuantNode, IsUntilNode, AreComputed}
use Rattle.fair_fixpoint.specs.Formulas.{is_existential, node_pins}
use Rattle.proof_form.specs.Form.{layer_sets, rule_sets}
use Rattle.rank_extract.specs.Given.{written_layer, given, own_entries, wanted}
use Rattle.rank_extract.specs.Made.{total, entry_size}
use Rattle.rank_extract.proofs.Adding.{total-append}

-- ---- lists

layer_count : (layers : List LayerView) → length (layer_sets (map written_layer layers)) ≡ length layers
layer_count [] = refl
layer_count (l ∷ ls) = omega (arith, layer_count ls)

lists_few : (N : ℕ) (lists : List (List StateSet)) → ((k : ℕ) → k < length lists → length (reach_at lists k) ≤ N) → length (flat_map (λ sets. sets) lists) ≤ length lists * N
lists_few N [] h = omega arith
lists_few N (l ∷ ls) h =
    let rest = lists_few N ls (λ k lt. h (suc k) (omega arith)) in
    let first = h 0 (omega arith) in
    omega (arith, length-append l (flat_map (λ sets. sets) ls), rest, first)

kept_few : (m : System) (visited : List StateSet) (W : StateSet) (reaches : List (List StateSet)) → AreKept m visited W reaches → length (flat_map (λ sets. sets) reaches) ≤ length visited * state_count m
kept_few m visited W reaches kept =
    let few = lists_few (state_count m) reaches (λ k lt. (kept.kept k (omega (arith, lt, kept.lists))).few) in
    subst (λ n. length (flat_map (λ sets. sets) reaches) ≤ n * state_count m) kept.lists few

-- ---- a node

-- so many sets in its ranks
abbrev FewRanks : System → ℕ → RanksView → Type 0
FewRanks m count RanksView.Plain = Unit {0}
FewRanks m count (RanksView.Reach sets) = length sets ≤ state_count m
FewRanks m count (RanksView.Layered layers inside reaches untils) =
    (length layers ≤ state_count m) × (length (flat_map (λ sets. sets) reaches) ≤ count * state_count m) × (length untils ≤ state_count m)

given_few : (m : System) (count : ℕ) (fair F G : StateSet) (ranks : RanksView) → FewRanks m count ranks
    → length (rule_sets (given fair true F ranks)) + length (rule_sets (given fair false G ranks)) ≤ node_pins m count
given_few m count fair F G RanksView.Plain few = omega arith
given_few m count fair F G (RanksView.Reach sets) few = omega (arith, few)
given_few m count fair F G (RanksView.Layered layers inside reaches untils) few =
    omega (arith, few.0, few.1, few.2, layer_count layers, length-append (inside ∷ flat_map (λ sets. sets) reaches) untils)

quant_few : (m : System) (visited : List StateSet) (Z fair : StateSet) (op : PathOp) (f v : NodeView) → IsQuantNode m visited Z fair op f v → FewRanks m (length visited) v.ranks
quant_few m visited Z fair op f v p = go op v.ranks p
  where
    go : (op : PathOp) (ranks : RanksView) → IsQuantNode m visited Z fair op f (record { plus = v.plus; minus = v.minus; ranks = ranks }) → FewRanks m (length visited) ranks
    go PathOp.EX RanksView.Plain p = tt
    go PathOp.AX RanksView.Plain p = tt
    go PathOp.EF (RanksView.Reach eu) p = p.few
    go PathOp.AG (RanksView.Reach eu) p = p.few
    go PathOp.EG (RanksView.Layered own W rs us) p = (p.stays.few, kept_few m visited W rs p.stays.kept, p.few)
    go PathOp.AF (RanksView.Layered own W rs us) p = (p.stays.few, kept_few m visited W rs p.stays.kept, p.few)
    go _ _ p = absurd p

until_few : (m : System) (visited : List StateSet) (fair : StateSet) (all : Bool) (f g v : NodeView) → IsUntilNode m visited fair all f g v → FewRanks m (length visited) v.ranks
until_few m visited fair all f g v p = go all v.ranks p
  where
    go : (all : Bool) (ranks : RanksView) → IsUntilNode m visited fair all f g (record { plus = v.plus; minus = v.minus; ranks = ranks }) → FewRanks m (length visited) ranks
    go false (RanksView.Reach eu) p = p.few
    go true (RanksView.Layered own W rs us) p = (p.stays.few, kept_few m visited W rs p.stays.kept, p.few)
    go _ _ p = absurd p

own_few : (m : System) (count : ℕ) (fair : StateSet) (at : ℕ → NodeView) (n : ℕ) (some plus minus : Bool) → FewRanks m count (at n).ranks
    → total entry_size (own_entries fair at n some plus minus) ≤ node_pins m count
own_few m count fair at n true true true few = omega (arith, given_few m count fair (at n).plus (at n).minus (at n).ranks few)
own_few m count fair at n true true false few = omega (arith, given_few m count fair (at n).plus (at n).minus (at n).ranks few)
own_few m count fair at n true false true few = omega (arith, given_few m count fair (at n).plus (at n).minus (at n).ranks few)
own_few m count fair at n true false false few = omega arith
own_few m count fair at n false true true few = omega (arith, given_few m count fair (at n).minus (at n).plus (at n).ranks few)
own_few m count fair at n false true false few = omega (arith, given_few m count fair (at n).minus (at n).plus (at n).ranks few)
own_few m count fair at n false false true few = omega (arith, given_few m count fair (at n).minus (at n).plus (at n).ranks few)
own_few m count fair at n false false false few = omega arith

-- ---- a formula

module _ (m : System) (visited : List StateSet) (Z fair : StateSet) (at : ℕ → NodeView) where
  abbrev each_node : ℕ
  each_node = node_pins m (length visited)

  add_two : (a b c x y z B : ℕ) → x ≤ B → y ≤ a * B → z ≤ b * B → c ≡ x + y + z → c ≤ (1 + a + b) * B
  add_two a b c x y z B h k l e = omega (arith, h, k, l, e)

  add_one : (a c x y B : ℕ) → x ≤ B → y ≤ a * B → c ≡ x + y → c ≤ (1 + a) * B
  add_one a c x y B h k e = omega (arith, h, k, e)

  parts_few : (f g : Ctl) (n : ℕ) (a b c d : Bool) → total entry_size (wanted fair at f (n + 1) a b) ≤ node_count f * each_node → total entry_size (wanted fair at g (n + 1 + node_count f) c d) ≤ node_count g * each_node
      → total entry_size (wanted fair at f (n + 1) a b ++ wanted fair at g (n + 1 + node_count f) c d) ≤ (1 + node_count f + node_count g) * each_node
  parts_few f g n a b c d h k =
      add_two (node_count f) (node_count g) (total entry_size (wanted fair at f (n + 1) a b ++ wanted fair at g (n + 1 + node_count f) c d)) 0
      (total entry_size (wanted fair at f (n + 1) a b)) (total entry_size (wanted fair at g (n + 1 + node_count f) c d)) each_node (omega arith) h k
      (omega (arith, total-append entry_size (wanted fair at f (n + 1) a b) (wanted fair at g (n + 1 + node_count f) c d)))

  pub wanted_few : (f : Ctl) (n : ℕ) (plus minus : Bool) → AreComputed m visited Z fair at f n → total entry_size (wanted fair at f n plus minus) ≤ node_count f * each_node
  wanted_few (Ctl.Leaf e) n plus minus c = omega arith
  wanted_few (Ctl.Not f) n plus minus c = add_one (node_count f) (total entry_size (wanted fair at f (n + 1) minus plus)) 0 (total entry_size (wanted fair at f (n + 1) minus plus)) each_node (omega arith) (wanted_few f (n + 1) minus plus c.2) (omega arith)
  wanted_few (Ctl.And f g) n plus minus c = parts_few f g n plus minus plus minus (wanted_few f (n + 1) plus minus c.2) (wanted_few g (n + 1 + node_count f) plus minus c.3)
  wanted_few (Ctl.Or f g) n plus minus c = parts_few f g n plus minus plus minus (wanted_few f (n + 1) plus minus c.2) (wanted_few g (n + 1 + node_count f) plus minus c.3)
  wanted_few (Ctl.Implies f g) n plus minus c = parts_few f g n minus plus plus minus (wanted_few f (n + 1) minus plus c.2) (wanted_few g (n + 1 + node_count f) plus minus c.3)
  wanted_few (Ctl.Iff f g) n plus minus c =
      parts_few f g n (plus || minus) (plus || minus) (plus || minus) (plus || minus) (wanted_few f (n + 1) (plus || minus) (plus || minus) c.2) (wanted_few g (n + 1 + node_count f) (plus || minus) (plus || minus) c.3)
  wanted_few (Ctl.Quant op f) n plus minus c =
      let own = own_entries fair at n (is_existential op) plus minus in
      let rest = wanted fair at f (n + 1) plus minus in
      add_one (node_count f) (total entry_size (own ++ rest)) (total entry_size own) (total entry_size rest) each_node
      (own_few m (length visited) fair at n (is_existential op) plus minus (quant_few m visited Z fair op (at (n + 1)) (at n) c.1)) (wanted_few f (n + 1) plus minus c.2) (total-append entry_size own rest)
  wanted_few (Ctl.Until all f g) n plus minus c =
      let own = own_entries fair at n (not all) plus minus in
      let first = wanted fair at f (n + 1) plus minus in
      let last = wanted fair at g (n + 1 + node_count f) plus minus in
      add_two (node_count f) (node_count g) (total entry_size (own ++ (first ++ last))) (total entry_size own) (total entry_size first) (total entry_size last) each_node
      (own_few m (length visited) fair at n (not all) plus minus (until_few m visited fair all (at (n + 1)) (at (n + 1 + node_count f)) (at n) c.1))
      (wanted_few f (n + 1) plus minus c.2) (wanted_few g (n + 1 + node_count f) plus minus c.3)
      (omega (arith, total-append entry_size own (first ++ last), total-append entry_size first last))

  -- the layers and the fair part
  pub ground_few : (layers : List LayerView) (reaches : List (List StateSet)) → IsPrunedTo m visited Z layers fair reaches
      → length layers + (1 + length (flat_map (λ sets. sets) reaches)) ≤ each_node
  ground_few layers reaches pruned = omega (arith, pruned.few, kept_few m visited fair reaches pruned.kept)
