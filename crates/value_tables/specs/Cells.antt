-- Tables of cells: what an expression comes to, and the region where it does. A reading is one value or a fault.
use Rattle.std.specs.Prelude.{◌≡◌, ◌≢◌, ℕ, Bool, false, ◌&&◌, ◌==◌, List, [], ◌∷◌, map, Ok, Err, All, if◌then◌else◌}
use Rattle.std.specs.List.{list_any}
use Rattle.kripke_model.specs.declared.expressions.Value.{Value}
use Rattle.kripke_model.specs.declared.expressions.FaultKind.{FaultKind}
use Rattle.kripke_model.specs.Evaluation.{Checked, same}
use Rattle.bdd_nodes.specs.declared.store.Store.{Store}
use Rattle.bdd_nodes.specs.Store.{Has}
use Rattle.value_tables.specs.declared.cells.Cell.{Cell}

abbrev pub fault_number : FaultKind → ℕ
fault_number FaultKind.ManyValues = 0
fault_number FaultKind.NotNumber = 1
fault_number FaultKind.NotBoolean = 2
fault_number FaultKind.ZeroDivisor = 3
fault_number FaultKind.Overflow = 4
fault_number FaultKind.OutOfType = 5

abbrev pub same_reading : Checked Value → Checked Value → Bool
same_reading (Ok v) (Ok w) = same v w
same_reading (Err j) (Err k) = fault_number j == fault_number k
same_reading _ _ = false

-- what a result has: its values, or its fault
abbrev pub readings : Checked (List Value) → List (Checked Value)
readings (Ok vs) = map Ok vs
readings (Err kind) = Err kind ∷ []

-- some reading of the result passes the test
abbrev pub any_of : (Checked Value → Bool) → Checked (List Value) → Bool
any_of p c = list_any p (readings c)

-- some cell whose reading passes the test has value 1, where v gives the regions' values
abbrev pub any_cell : (ℕ → Bool) → (Checked Value → Bool) → List Cell → Bool
any_cell v p cells = list_any (λ c. p c.reading && v c.region) cells

-- a cell of this reading has value 1
abbrev pub shows : (ℕ → Bool) → List Cell → Checked Value → Bool
shows v cells k = any_cell v (same_reading k) cells

-- the cells with value 1 are the readings of the result
pub record Reads (v : ℕ → Bool) (cells : List Cell) (c : Checked (List Value)) : Type 0 where
  pub each : (k : Checked Value) → shows v cells k ≡ any_of (same_reading k) c

-- no reading stands twice
abbrev pub AreOnce : List (Checked Value) → Type 0
AreOnce [] = Unit {0}
AreOnce (k ∷ ks) = (list_any (same_reading k) ks ≡ false) × AreOnce ks

abbrev pub readings_in : List Cell → List (Checked Value)
readings_in cells = map (λ (c : Cell). c.reading) cells

-- cells of a store: each reading once, and no region is empty
pub record AreCells (s : Store) (cells : List Cell) : Type 0 where
  pub has : All (λ (c : Cell). Has s c.region) cells
  pub some : All (λ (c : Cell). c.region ≢ 0) cells
  pub once : AreOnce (readings_in cells)

-- the region of a reading: the empty one where no cell has it
abbrev pub region_at : List Cell → Checked Value → ℕ
region_at [] k = 0
region_at (c ∷ cells) k = if same_reading k c.reading then c.region else region_at cells k
