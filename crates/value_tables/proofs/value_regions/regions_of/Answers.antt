use Rattle.std.proofs.Common.{◌∙◌, ◌++◌, ap, sym}
use Rattle.value_tables.specs.Regions.{rows_of, faults_of}
use Rattle.value_tables.proofs.RowLemmas.{rows_more, faults_more}
use Rattle.value_tables.proofs.value_regions.regions_of.Goals as goal

pub loop-cell-preserved : goal.loop-cell-preserved
loop-cell-preserved c = record {
  rows = c.in_ok-add_row.ensures.rows ∙ ap (λ rs. rs ++ rows_of c.cell-item.result.reading c.cell-item.result.region) c.loop-cell.invariant.rows
      ∙ sym (rows_more c.args.cells.now c.loop-cell.cell-index c.cell-item.result c.loop-cell-test.true c.cell-item.is);
  faults = c.in_ok-add_row.ensures.faults ∙ ap (λ fs. fs ++ faults_of c.cell-item.result.reading c.cell-item.result.region) c.loop-cell.invariant.faults
      ∙ sym (faults_more c.args.cells.now c.loop-cell.cell-index c.cell-item.result c.loop-cell-test.true c.cell-item.is);
}
