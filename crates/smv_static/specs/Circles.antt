-- Which assignments lie on a cycle of the graph of two tables.
use Rattle.std.specs.Prelude.{◌≡◌, ◌⊎◌, ℕ, ◌+◌, ◌<◌, ◌≤◌, List, length, Contains}
use Rattle.std.specs.List.{slice_index_or}
use Rattle.kripke_model.specs.System.{System, Assignment}
use Rattle.kripke_model.specs.Static.{Graph, LeadsTo, HasWay, IsOnCycle}
use Rattle.smv_static.specs.Numbers.{row}
use Rattle.smv_static.specs.Groups.{IsGrouped, IsTable}
use Rattle.smv_static.specs.Ways.{LiesOnCycle}

-- the assignment's variable lies on a cycle
abbrev pub IsCircular : List (List ℕ) → List (List ℕ) → Assignment → Type 0
IsCircular base extra a = LiesOnCycle base extra a.var

-- the assignment at place k is P
abbrev pub HoldsOf : (Assignment → Type 0) → List Assignment → ℕ → Type 0
HoldsOf P assigns k = (d : Assignment) → P (slice_index_or assigns k d)

-- least is at most bound; if it is less it is one of these places, and P there; and P is at no smaller one of these places
pub record IsLeastAmong (P : Assignment → Type 0) (assigns : List Assignment) (places : List ℕ)
    (bound least : ℕ) : Type 0 where
  pub at_most : least ≤ bound
  pub holds : (least ≡ bound) ⊎ Contains places least × HoldsOf P assigns least
  pub none : (k : ℕ) → Contains places k → k < least → HoldsOf (λ a. P a → ⊥) assigns k

-- the first assignment that lies on a cycle, or how many there are if none does
pub record IsFirstCircular (m : System) (least : ℕ) : Type 0 where
  pub at_most : least ≤ length m.assigns
  pub holds : least < length m.assigns → HoldsOf (IsOnCycle m) m.assigns least
  pub none : (k : ℕ) → k < least → HoldsOf (λ a. IsOnCycle m a → ⊥) m.assigns k

-- the graph whose edges are those of group q and of the current values
abbrev pub IsGraphOf : ℕ → ℕ → Graph → Type 0
IsGraphOf processes q Graph.AtStart = q ≡ processes + 1
IsGraphOf processes q (Graph.InProcess p) = (q ≡ p) × (p < processes)

-- the assignment lies on a cycle of the graph
abbrev pub IsOnCycleOf : System → Graph → Assignment → Type 0
IsOnCycleOf m g a = (x : ℕ) × LeadsTo g a x × HasWay m g x a.var

-- none of the assignments before this place lies on a cycle of the graph
abbrev pub IsClear : System → Graph → ℕ → Type 0
IsClear m g least = (k : ℕ) → k < least → HoldsOf (λ a. IsOnCycleOf m g a → ⊥) m.assigns k

-- least is the bound, or the place of an assignment that lies on a cycle
abbrev pub IsFound : System → ℕ → ℕ → Type 0
IsFound m bound least
    = (least ≡ bound) ⊎ (least < length m.assigns) × HoldsOf (IsOnCycle m) m.assigns least

-- the tables that the graphs of the model are read from
pub record HasTables (m : System) (groups base : List (List ℕ))
    (processes variables : ℕ) : Type 0 where
  pub processes_are : processes ≡ length m.processes
  pub variables_are : variables ≡ length m.vars
  pub grouped : IsGrouped processes m.assigns groups
  pub table : IsTable m.assigns (row groups processes) base
