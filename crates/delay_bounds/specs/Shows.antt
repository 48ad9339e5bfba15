-- What the proof of two delays has to show, of any two properties of states.
use Rattle.std.specs.Prelude.{◌≡◌, ℕ, zero, suc, ◌+◌, ◌-◌, ◌<◌, ◌≤◌, List, [], length}
use Rattle.std.specs.List.{slice_index_or}
use Rattle.kripke_model.specs.Term.{Term}
use Rattle.kripke_model.specs.System.{System, State}
use Rattle.kripke_model.specs.Step.{Initial}
use Rattle.kripke_model.specs.Path.{IsPath, at}
use Rattle.path_laws.specs.StateSet.{StateSet, ◌∈◌}
use Rattle.path_laws.specs.Live.{last_state}
use Rattle.fair_rules.specs.SetLists.{set_at}
use Rattle.state_reach.specs.Covers.{Always, AreSpread, Comes, Has, InSome, Keeps, Not, StepsInto}
use Rattle.state_reach.specs.States.{HoldsAt}
use Rattle.delay_bounds.specs.Form.{Shortest, Longest, DelayProof}

-- from place i on there is no Q, and as many states as there are steps
abbrev pub Waits : (State → Type 0) → List State → ℕ → ℕ → Type 0
Waits Q way i zero = length way ≡ i + 1
Waits Q way i (suc k) =
    (length way ≡ i + suc k)
    × ((j : ℕ) → i ≤ j → j < length way → Q (slice_index_or way j []) → ⊥)

-- ---- the obligations

abbrev pub ShowsShortest : System → (State → Type 0) → (State → Type 0) → Shortest StateSet → Type 0
ShowsShortest m P Q (Shortest.NoStart inside) = Keeps m P inside Always
ShowsShortest m P Q (Shortest.Never inside back way) =
    Keeps m P inside (λ s. s ∈ back) × Has m Q back × Has m (StepsInto m Always back) back
    × Comes m P way (length way - 1)
ShowsShortest m P Q (Shortest.Steps inside back way start) =
    Keeps m P inside (InSome back) × AreSpread m Q Always back
    × Comes m P way start × Q (last_state way) × (length way ≡ start + 1 + length back)

abbrev pub ShowsLongest : System → (State → Type 0) → (State → Type 0) → Longest StateSet → Type 0
ShowsLongest m P Q (Longest.NoStart inside) = Keeps m P inside Always
ShowsLongest m P Q (Longest.Endless lasso start) =
    IsPath m lasso × Initial m (at lasso 0) × P (at lasso start)
    × ((n : ℕ) → start ≤ n → Q (at lasso n) → ⊥)
ShowsLongest m P Q (Longest.Steps inside stay way start) =
    (0 < length stay) × Keeps m P inside (λ s. s ∈ set_at stay (length stay - 1))
    × AreSpread m (Not Q) (Not Q) stay
    × Comes m P way start × Waits Q way start (length stay - 1)

-- the proof of the delays from p to q
pub record ShowsDelays (m : System) (p q : Term) (proof : DelayProof StateSet) : Type 0 where
  pub shortest : ShowsShortest m (HoldsAt m p) (HoldsAt m q) proof.shortest
  pub longest : ShowsLongest m (HoldsAt m p) (HoldsAt m q) proof.longest
