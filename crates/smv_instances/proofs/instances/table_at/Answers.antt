use Rattle.std.proofs.Common.{◌<◌, arith, length}
use Rattle.smv_instances.proofs.RowLemmas.{row_at, scope_of, table_at, within_tables}
use Rattle.smv_instances.proofs.instances.table_at.Goals as goal

pub index-requires : goal.index-requires
index-requires c =
    let r = c.requires in
    let scope = scope_of c.args.modules.now c.args.rows.now r.0 c.args.number r.1 r.2 in
    let row = row_at c.args.modules.now c.args.rows.now r.0 c.args.number c.index-rows-number.result scope.0 r.1 r.2 c.index-rows-number.is scope.1 in
    let within : c.index-rows-number.result.table < length c.args.modules.now.tables.items = within_tables _ _ _ row.table in
    omega (arith, within, c.args.modules.now.tables.ok.0)

pub returns : goal.returns
returns c = λ done s are at.
    let row = row_at c.args.modules.now c.args.rows.now done c.args.number c.index-rows-number.result s are c.requires.2 c.index-rows-number.is at in
    table_at c.args.modules.now c.index-rows-number.result.table _ c.index.result.now row.table c.index.ensures
