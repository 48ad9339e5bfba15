-- The pins of a run's parts, and what they stand for through a call.
use Rattle.std.proofs.Common.{◌≡◌, ℕ, Bool, List, [], ◌∷◌, ◌++◌, Option, is_none, is_some}
use Rattle.kripke_model.specs.Ctl.{Ctl}
use Rattle.kripke_model.specs.System.{State}
use Rattle.region_sets.specs.Sets.{Sets, Adds, IsLive, region}
use Rattle.region_sets.specs.Ranks.{lists_slots, list_regions, AreLive}
use Rattle.region_sets.proofs.Slots.{is_one_of-first, is_one_of-left, is_one_of-right}
use Rattle.region_sets.proofs.Changes.{stays}
use Rattle.fair_fixpoint.specs.declared.runs.Run.{Run}
use Rattle.fair_fixpoint.specs.Runs.{layers_slots, nodes_slots, run_slots}
use Rattle.fair_fixpoint.specs.SatSets.{node_of}
use Rattle.fair_fixpoint.proofs.Lists.{list_regions-same}
use Rattle.rank_extract.specs.Given.{wanted}
use Rattle.rank_extract.specs.Parts.{run_behind}
use Rattle.rank_extract.proofs.Wanted.{nodes_stay}
use Rattle.rank_extract.proofs.Makes.{region_stays}

abbrev behind : Run → List ℕ
behind run = run.fair.slot ∷ (lists_slots run.reach.items ++ nodes_slots run.nodes.items)

module _ (run : Run) (a : Sets) (live : AreLive a (run_slots run)) where
  pub nonfair_live : AreLive a (layers_slots run.nonfair.items)
  nonfair_live k e = live k (is_one_of-left k (layers_slots run.nonfair.items) (behind run) e)

  pub fair_live : IsLive a run.fair.slot
  fair_live = live run.fair.slot (is_one_of-right run.fair.slot (layers_slots run.nonfair.items) (behind run) (is_one_of-first run.fair.slot (lists_slots run.reach.items ++ nodes_slots run.nodes.items)))

  last_live : AreLive a (lists_slots run.reach.items ++ nodes_slots run.nodes.items)
  last_live k e = live k (is_one_of-right k (layers_slots run.nonfair.items) (behind run) (is_one_of-right k (run.fair.slot ∷ []) (lists_slots run.reach.items ++ nodes_slots run.nodes.items) e))

  pub reach_live : AreLive a (lists_slots run.reach.items)
  reach_live k e = last_live k (is_one_of-left k (lists_slots run.reach.items) (nodes_slots run.nodes.items) e)

  pub nodes_live : AreLive a (nodes_slots run.nodes.items)
  nodes_live k e = last_live k (is_one_of-right k (lists_slots run.reach.items) (nodes_slots run.nodes.items) e)

  -- ---- through a call

  module _ {b : Sets} {xs : List ℕ} (p : Adds a b xs) where
    pub fair_stays : region b run.fair ≡ region a run.fair
    fair_stays = region_stays run.fair p fair_live

    pub entries_stay : (f : Ctl) (plus minus : Bool) → wanted (region b run.fair) (node_of b run.nodes.items) f 1 plus minus ≡ wanted (region a run.fair) (node_of a run.nodes.items) f 1 plus minus
    entries_stay f plus minus = λ i. wanted (fair_stays i) (nodes_stay run.fair run.nodes.items fair_live nodes_live p i) f 1 plus minus

    pub reach_stays : list_regions b run.reach.items ≡ list_regions a run.reach.items
    reach_stays = list_regions-same a b run.reach.items (λ k e. stays p k (reach_live k e))

    pub behind_stays : (f : Ctl) (st : Option State) → run_behind f b run st ≡ run_behind f a run st
    behind_stays f st = λ i. (record { inside = fair_stays i; reach = reach_stays i }, entries_stay f (is_none st) (is_some st) i)
