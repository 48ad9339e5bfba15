use Rattle.std.proofs.Common.{◌≡◌, ◌+◌, ◌*◌, ◌≤◌, ◌&&◌, ◌||◌, Bool, List, length, take}
use Rattle.bdd_nodes.specs.Store.{value_of}
use Rattle.bdd_ops.specs.Engine.{store_of}
use Rattle.kripke_model.specs.declared.expressions.Value.{Value}
use Rattle.kripke_model.specs.Evaluation.{Checked}
use Rattle.value_tables.specs.Work.{Keeps, Spends}
use Rattle.value_tables.specs.Cells.{shows, any_cell, AreCells}
use Rattle.value_tables.specs.Pick.{becomes}
use Rattle.value_tables.specs.Weights.{overlaps}
use Rattle.value_tables.proofs.spread.spread.Given as goal

abbrev pub invariant-loop-cell : goal.invariant-loop-cell
invariant-loop-cell g l = record {
  cells : AreCells (store_of l.engine) l.out.items;
  shows : (bits : List Bool) (k : Checked Value) → shows (λ r. value_of (store_of l.engine) r bits) l.out.items k
      ≡ (shows (λ r. value_of (store_of l.initial.engine) r bits) l.initial.out.items k
      || (any_cell (λ r. value_of (store_of l.initial.engine) r bits) (becomes l.pick k) (take l.cell-index l.cells) && value_of (store_of l.initial.engine) l.within bits));
  few : length l.out.items ≤ length l.initial.out.items + l.cell-index;
  keeps : Keeps l.initial.engine l.engine l.initial.steps l.steps;
  thrifty : Spends (2 * overlaps (store_of l.initial.engine) (take l.cell-index l.cells) l.within) (store_of l.initial.engine) (store_of l.engine);
  spends : Spends (2 * l.cell-index) (store_of l.initial.engine) (store_of l.engine);
}
