-- Entries that are added for the signs of a node.
use Rattle.std.proofs.Common.{◌≡◌, ℕ, zero, suc, ◌-◌, ◌<◌, ◌≤◌, Bool, true, false, List, [], ◌∷◌, ◌++◌, length, get_or, Result, Ok, Err, refl, sym, ◌∙◌, ap, subst, arith}
use Rattle.std.proofs.lemmas.List.{get_or-map}
use Rattle.path_laws.specs.StateSet.{StateSet}
use Rattle.region_sets.specs.declared.pins.Pin.{Pin}
use Rattle.region_sets.specs.declared.pins.SetRefusal.{SetRefusal}
use Rattle.region_sets.specs.declared.pins.SetRefusal.TheVariants.{Memory}
use Rattle.region_sets.specs.Sets.{Sets, Adds, region}
use Rattle.region_sets.specs.Ranks.{AreLive}
use Rattle.region_sets.proofs.Slots.{is_one_of-left, is_one_of-right}
use Rattle.fair_rules.specs.SetLists.{nothing}
use Rattle.fair_rules.specs.Block.{same_sign}
use Rattle.fair_fixpoint.specs.declared.runs.NodeRun.{NodeRun}
use Rattle.fair_fixpoint.specs.Found.{ranks_view}
use Rattle.fair_fixpoint.specs.Formulas.{node_view}
use Rattle.fair_fixpoint.specs.NodeRules.{sign_set}
use Rattle.fair_fixpoint.specs.Nodes.{RanksView, NodeView}
use Rattle.fair_fixpoint.specs.Runs.{node_slots, nodes_slots}
use Rattle.fair_fixpoint.specs.SatSets.{node_of}
use Rattle.proof_form.specs.declared.form.Rule.{Rule as Given}
use Rattle.proof_form.specs.Form.{Rule, Entry}
use Rattle.proof_form.specs.Seen.{seen_rule}
use Rattle.rank_extract.specs.Given.{given, entry_at}
use Rattle.rank_extract.specs.Added.{AddsEntries}
use Rattle.rank_extract.specs.Made.{IsMade, rule_own, rule_seen, rule_size}
use Rattle.rank_extract.specs.Signs.{sign_pin, sign_entry}
use Rattle.rank_extract.proofs.Adding.{one_added, one_refused, one_released}
use Rattle.rank_extract.proofs.Holders.{entry_kind}

-- ---- a node of a list

node_there : (s : Sets) (nodes : List NodeRun) (n : ℕ) (d : NodeRun) → 1 ≤ n → n ≤ length nodes → node_of s nodes n ≡ node_view s (get_or nodes (n - 1) d)
node_there s nodes n d first there = get_or-map (node_view s) nodes (n - 1) d (record { plus = nothing; minus = nothing; ranks = RanksView.Plain }) (omega (arith, first, there))

pub node_live : (s : Sets) (nodes : List NodeRun) (k : ℕ) (d : NodeRun) → AreLive s (nodes_slots nodes) → k < length nodes → AreLive s (node_slots (get_or nodes k d))
node_live s [] k d live lt = absurd (omega arith)
node_live s (x ∷ xs) zero d live lt = λ j e. live j (is_one_of-left j (node_slots x) (nodes_slots xs) e)
node_live s (x ∷ xs) (suc k) d live lt = λ j e. node_live s xs k d (λ i h. live i (is_one_of-right i (node_slots x) (nodes_slots xs) h)) (omega arith) j e

sign_there : (s : Sets) (node : NodeRun) (plus : Bool) → region s (sign_pin plus node) ≡ sign_set plus (node_view s node)
sign_there s node true = refl
sign_there s node false = refl

-- the entry of a node's sign is of its set and of the sets by which it grew
pub entry_is : (s : Sets) (F : StateSet) (nodes : List NodeRun) (n : ℕ) (some plus : Bool) (d : NodeRun) → 1 ≤ n → n ≤ length nodes
    → record { node = n; plus = plus; rule = given F (same_sign some plus) (region s (sign_pin plus (get_or nodes (n - 1) d))) (ranks_view s (get_or nodes (n - 1) d).ranks) } ≡ entry_at F (node_of s nodes) n some plus
entry_is s F nodes n some plus d first there =
    let node : NodeRun = get_or nodes (n - 1) d in
    ap (λ (G : StateSet). record { node = n; plus = plus; rule = given F (same_sign some plus) G (ranks_view s node.ranks) }) (sign_there s node plus)
    ∙ ap (λ (v : NodeView). record { node = n; plus = plus; rule = given F (same_sign some plus) (sign_set plus v) v.ranks }) (sym (node_there s nodes n d first there))

-- ---- an entry that is made of a rule, and pushed

abbrev pub entry_by : ℕ → Bool → Rule StateSet → Entry StateSet
entry_by n plus v = record { node = n; plus = plus; rule = v }

module _ {a b : Sets} (n : ℕ) (plus : Bool) (v : Rule StateSet) where
  pub entry_added : {T : Type 0} (rule : Given Pin) (old new : List (Entry Pin)) (y : T) → IsMade rule_own rule_seen rule_size a b v (Ok rule) → new ≡ old ++ (record { node = n; plus = plus; rule = seen_rule rule } ∷ [])
      → AddsEntries a b (entry_by n plus v ∷ []) old new (Ok y)
  entry_added rule old new y made pushed =
      one_added entry_kind (record { node = n; plus = plus; rule = seen_rule rule }) old new y made.call (ap (λ (r : Rule StateSet). record { node = n; plus = plus; rule = r }) made.view) pushed

  pub entry_refused : {T : Type 0} {e : SetRefusal} (old : List (Entry Pin)) → IsMade {X = Given Pin} rule_own rule_seen rule_size a b v (Err e) → AddsEntries {T = T} a b (entry_by n plus v ∷ []) old old (Err e)
  entry_refused {T} {e} old made = one_refused entry_kind {T = T} {v = entry_by n plus v} e old made.call

  pub entry_released : {T : Type 0} {c : Sets} (rule : Given Pin) (old new : List (Entry Pin)) → IsMade rule_own rule_seen rule_size a b v (Ok rule) → Adds c b (rule_own rule) → c.fulls ≡ b.fulls → new ≡ old
      → AddsEntries {T = T} a c (entry_by n plus v ∷ []) old new (Err Memory)
  entry_released {T} {c} rule old new made back fulls same =
      one_released entry_kind {T = T} {v = entry_by n plus v} (record { node = n; plus = plus; rule = seen_rule rule }) old new made.call back fulls same

-- ---- by what is written for a sign of a node

abbrev sign_rule : Sets → Pin → NodeRun → Bool → Bool → Rule StateSet
sign_rule a fair node plus some_there = given (region a fair) some_there (region a (sign_pin plus node)) (ranks_view a node.ranks)

module _ {a b : Sets} (fair : Pin) (node : NodeRun) (n : ℕ) (some plus there : Bool) (there_is : there ≡ same_sign some plus) where
  by_sign : (r : Result (Given Pin) SetRefusal) → IsMade rule_own rule_seen rule_size a b (sign_rule a fair node plus there) r → IsMade rule_own rule_seen rule_size a b (sign_rule a fair node plus (same_sign some plus)) r
  by_sign r made = subst (λ (some_there : Bool). IsMade rule_own rule_seen rule_size a b (sign_rule a fair node plus some_there) r) there_is made

  pub sign_added : {T : Type 0} (rule : Given Pin) (old new : List (Entry Pin)) (y : T)
      → IsMade rule_own rule_seen rule_size a b (given (region a fair) there (region a (sign_pin plus node)) (ranks_view a node.ranks)) (Ok rule)
      → new ≡ old ++ (record { node = n; plus = plus; rule = seen_rule rule } ∷ []) → AddsEntries a b (sign_entry a fair node n some plus ∷ []) old new (Ok y)
  sign_added rule old new y made pushed = entry_added n plus (sign_rule a fair node plus (same_sign some plus)) rule old new y (by_sign (Ok rule) made) pushed

  pub sign_refused : {T : Type 0} {e : SetRefusal} (old : List (Entry Pin))
      → IsMade {X = Given Pin} rule_own rule_seen rule_size a b (given (region a fair) there (region a (sign_pin plus node)) (ranks_view a node.ranks)) (Err e)
      → AddsEntries {T = T} a b (sign_entry a fair node n some plus ∷ []) old old (Err e)
  sign_refused {T} {e} old made = entry_refused n plus (sign_rule a fair node plus (same_sign some plus)) {T = T} old (by_sign (Err e) made)

  pub sign_released : {T : Type 0} {c : Sets} (rule : Given Pin) (old new : List (Entry Pin))
      → IsMade rule_own rule_seen rule_size a b (given (region a fair) there (region a (sign_pin plus node)) (ranks_view a node.ranks)) (Ok rule)
      → Adds c b (rule_own rule) → c.fulls ≡ b.fulls → new ≡ old → AddsEntries {T = T} a c (sign_entry a fair node n some plus ∷ []) old new (Err Memory)
  sign_released {T} {c} rule old new made back fulls same = entry_released n plus (sign_rule a fair node plus (same_sign some plus)) {T = T} rule old new (by_sign (Ok rule) made) back fulls same

-- the entry of a node's sign where it is one of a list
pub sign_entry_is : (s : Sets) (fair : Pin) (nodes : List NodeRun) (n : ℕ) (some plus : Bool) (node : NodeRun) → 1 ≤ n → n ≤ length nodes → node ≡ get_or nodes (n - 1) node
    → sign_entry s fair node n some plus ≡ entry_at (region s fair) (node_of s nodes) n some plus
sign_entry_is s fair nodes n some plus node first there is =
    ap (λ (x : NodeRun). sign_entry s fair x n some plus) is ∙ entry_is s (region s fair) nodes n some plus node first there
