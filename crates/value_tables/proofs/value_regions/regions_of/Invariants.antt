use Rattle.std.proofs.Common.{◌≡◌, take}
use Rattle.value_tables.specs.Regions.{rows_in, faults_in}
use Rattle.value_tables.proofs.value_regions.regions_of.Given as goal

-- the rows of the cells so far
abbrev pub invariant-loop-cell : goal.invariant-loop-cell
invariant-loop-cell l = record {
  rows : l.rows.items ≡ rows_in (take l.cell-index l.cells);
  faults : l.faults.items ≡ faults_in (take l.cell-index l.cells);
}
