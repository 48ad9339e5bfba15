-- Which assignments may stand side by side, read off flags.
use Rattle.std.specs.Prelude.{◌≡◌, ◌≢◌, ◌↔◌, ℕ, ◌+◌, ◌*◌, Bool, false, List, Any, IsTrue}
use Rattle.std.specs.List.{slice_index_or}
use Rattle.kripke_model.specs.declared.models.Part.{Part}
use Rattle.kripke_model.specs.System.{Assignment}
use Rattle.smv_static.specs.Groups.{group_of}

-- the variable has an initial or a next value
abbrev pub HasOther : List Assignment → ℕ → Type 0
HasOther assigns x = Any (λ b. (b.var ≡ x) × (b.part ≢ Part.Now)) assigns

-- the assignment's variable is flagged
abbrev pub IsFlagged : List Bool → Assignment → Type 0
IsFlagged flags a = IsTrue (slice_index_or flags a.var false)

-- the flag of x is set exactly where x has an initial or a next value
abbrev pub AreOtherFlags : List Assignment → List Bool → Type 0
AreOtherFlags assigns flags = (x : ℕ) → IsTrue (slice_index_or flags x false) ↔ HasOther assigns x

-- the cell of an assignment in a table with a row for each group and a column for each variable
abbrev pub cell_of : ℕ → ℕ → Assignment → ℕ
cell_of processes variables a = group_of processes a * variables + a.var
