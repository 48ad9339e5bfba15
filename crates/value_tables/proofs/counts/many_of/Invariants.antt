use Rattle.std.proofs.Common.{◌*◌, take}
use Rattle.std.specs.Prelude.{nat_lt}
use Rattle.bdd_nodes.specs.Store.{value_of}
use Rattle.bdd_ops.specs.Engine.{store_of}
use Rattle.bdd_ops.specs.Kept.{IsRegion}
use Rattle.value_tables.specs.Work.{Keeps, Spends}
use Rattle.value_tables.specs.Tables.{count_on}
use Rattle.value_tables.proofs.counts.many_of.Given as goal

abbrev pub invariant-loop-cell : goal.invariant-loop-cell
invariant-loop-cell g l = record {
  one : IsRegion (store_of l.engine) l.so_far.one (λ bits. nat_lt 0 (count_on (λ q. value_of (store_of l.initial.engine) q bits) (take l.cell-index l.cells)));
  two : IsRegion (store_of l.engine) l.so_far.two (λ bits. nat_lt 1 (count_on (λ q. value_of (store_of l.initial.engine) q bits) (take l.cell-index l.cells)));
  keeps : Keeps l.initial.engine l.engine l.initial.steps l.steps;
  spends : Spends (3 * l.cell-index) (store_of l.initial.engine) (store_of l.engine);
}
