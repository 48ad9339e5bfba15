use Rattle.std.proofs.Common.{◌≡◌, ◌*◌, ◌||◌, Bool, List, take}
use Rattle.bdd_nodes.specs.Store.{value_of}
use Rattle.bdd_ops.specs.Engine.{store_of}
use Rattle.kripke_model.specs.declared.expressions.Value.{Value}
use Rattle.kripke_model.specs.Evaluation.{Checked}
use Rattle.value_tables.specs.Work.{Keeps, Spends}
use Rattle.value_tables.specs.Cells.{shows, any_cell, AreCells}
use Rattle.value_tables.specs.Tables.{pairs_to}
use Rattle.value_tables.specs.Weights.{AreApart, weights}
use Rattle.value_tables.proofs.pairs.pair_up.Given as goal

abbrev pub invariant-loop-cell : goal.invariant-loop-cell
invariant-loop-cell g l = record {
  cells : AreCells (store_of l.engine) l.out.items;
  shows : (bits : List Bool) (k : Checked Value) → shows (λ r. value_of (store_of l.engine) r bits) l.out.items k
      ≡ (shows (λ r. value_of (store_of l.initial.engine) r bits) l.initial.out.items k
      || any_cell (λ r. value_of (store_of l.initial.engine) r bits) (pairs_to (λ r. value_of (store_of l.initial.engine) r bits) l.op k l.right) (take l.cell-index l.left));
  keeps : Keeps l.initial.engine l.engine l.initial.steps l.steps;
  thrifty : AreApart (store_of l.initial.engine) l.right → Spends (2 * weights (store_of l.initial.engine) (take l.cell-index l.left)) (store_of l.initial.engine) (store_of l.engine);
}
