use Rattle.std.proofs.Common.{take}
use Rattle.bdd_nodes.specs.Store.{value_of}
use Rattle.bdd_ops.specs.Engine.{store_of}
use Rattle.bdd_ops.specs.Kept.{IsRegion}
use Rattle.value_tables.specs.Work.{Keeps, Spends}
use Rattle.value_tables.specs.Cells.{any_cell}
use Rattle.value_tables.specs.Tables.{is_fault}
use Rattle.value_tables.proofs.counts.faulty_of.Given as goal

abbrev pub invariant-loop-cell : goal.invariant-loop-cell
invariant-loop-cell g l = record {
  region : IsRegion (store_of l.engine) l.faulty (λ bits. any_cell (λ q. value_of (store_of l.initial.engine) q bits) is_fault (take l.cell-index l.cells));
  keeps : Keeps l.initial.engine l.engine l.initial.steps l.steps;
  spends : Spends l.cell-index (store_of l.initial.engine) (store_of l.engine);
}
