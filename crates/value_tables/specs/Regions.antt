-- What the regions of an expression's values and faults say.
use Rattle.std.specs.Prelude.{◌≡◌, ◌≢◌, ℕ, Bool, false, ◌&&◌, ◌==◌, List, [], ◌∷◌, ◌++◌, map, All, Ok, Err}
use Rattle.std.specs.List.{list_any}
use Rattle.kripke_model.specs.declared.expressions.Value.{Value}
use Rattle.kripke_model.specs.declared.expressions.FaultKind.{FaultKind}
use Rattle.kripke_model.specs.Term.{Term}
use Rattle.kripke_model.specs.System.{System, State}
use Rattle.kripke_model.specs.Step.{IsState}
use Rattle.kripke_model.specs.Evaluation.{Checked, eval, same, among, values}
use Rattle.bdd_nodes.specs.declared.store.Store.{Store}
use Rattle.bdd_nodes.specs.Store.{Has, value_of}
use Rattle.bit_encode.specs.Code.{Coding}
use Rattle.value_tables.specs.declared.cells.Cell.{Cell}
use Rattle.value_tables.specs.declared.value_regions.Row.{Row}
use Rattle.value_tables.specs.declared.value_regions.FaultRow.{FaultRow}
use Rattle.value_tables.specs.Cells.{fault_number}
use Rattle.value_tables.specs.Tables.{AreOnceValues}
use Rattle.value_tables.specs.States.{pair_code}

-- some row of this value has value 1 at the bits
abbrev pub has_value : Store → List Row → List Bool → Value → Bool
has_value s rows bits v = list_any (λ (r : Row). same v r.value && value_of s r.region bits) rows

-- some row of this fault has value 1 at the bits
abbrev pub has_fault : Store → List FaultRow → List Bool → FaultKind → Bool
has_fault s faults bits kind
    = list_any (λ (f : FaultRow). fault_number kind == fault_number f.kind
    && value_of s f.region bits) faults

abbrev pub among_faults : FaultKind → List FaultKind → Bool
among_faults kind kinds = list_any (λ k. fault_number kind == fault_number k) kinds

-- no fault stands twice
abbrev pub AreOnceFaults : List FaultKind → Type 0
AreOnceFaults [] = Unit {0}
AreOnceFaults (k ∷ kinds) = (among_faults k kinds ≡ false) × AreOnceFaults kinds

abbrev pub is_fault_kind : FaultKind → Checked (List Value) → Bool
is_fault_kind kind (Ok vs) = false
is_fault_kind kind (Err other) = fault_number kind == fault_number other

-- the rows of cells
abbrev pub rows_of : Checked Value → ℕ → List Row
rows_of (Ok v) r = record { value = v; region = r } ∷ []
rows_of (Err kind) r = []

abbrev pub faults_of : Checked Value → ℕ → List FaultRow
faults_of (Ok v) r = []
faults_of (Err kind) r = record { kind = kind; region = r } ∷ []

abbrev pub rows_in : List Cell → List Row
rows_in [] = []
rows_in (c ∷ cells) = rows_of c.reading c.region ++ rows_in cells

abbrev pub faults_in : List Cell → List FaultRow
faults_in [] = []
faults_in (c ∷ cells) = faults_of c.reading c.region ++ faults_in cells

-- at each pair of states the rows with value 1 are those of the expression's values, and the fault rows with value 1 are those of its fault
pub record AreRegions (s : Store) (c : Coding) (m : System) (e : Term) (rows : List Row)
    (faults : List FaultRow) : Type 0 where
  pub values_listed : (here next : State) → IsState m here → IsState m next → (v : Value)
      → has_value s rows (pair_code c here next) v ≡ among v (values m e here next)
  pub faults_listed : (here next : State) → IsState m here → IsState m next → (kind : FaultKind)
      → has_fault s faults (pair_code c here next) kind ≡ is_fault_kind kind (eval m e here next)
  pub values_differ : AreOnceValues (map (λ (r : Row). r.value) rows)
  pub kinds_differ : AreOnceFaults (map (λ (f : FaultRow). f.kind) faults)
  pub rows_are_there : All (λ (r : Row). Has s r.region) rows
  pub faults_are_there : All (λ (f : FaultRow). Has s f.region) faults
  pub no_row_is_empty : All (λ (r : Row). r.region ≢ 0) rows
  pub no_fault_is_empty : All (λ (f : FaultRow). f.region ≢ 0) faults
