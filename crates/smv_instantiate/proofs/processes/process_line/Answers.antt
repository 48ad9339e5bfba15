use Rattle.std.proofs.Common.{sym, ◌∙◌, ap, ◌+◌, ◌<◌, arith, [], length, map, flat_map, take, drop}
use Rattle.std.specs.Prelude.{filter}
use Rattle.std.specs.List.{cons_option}
use Rattle.std.proofs.lemmas.Option.{slice_get_within, get_or_from_slice_get}
use Rattle.smv_instances.specs.Entries.{Entry}
use Rattle.smv_instances.specs.Instances.{Scope, instances, declares_process}
use Rattle.smv_instances.specs.Numbered.{plain_entry}
use Rattle.smv_instances.proofs.RowLemmas.{row_at, scope_of, table_at, within_tables}
use Rattle.smv_names.proofs.WrittenLemmas.{split_at}
use Rattle.smv_instantiate.proofs.ProcessSteps.{placed, is_process_entry, line_found, no_line, take_at}
use Rattle.smv_instantiate.proofs.processes.process_line.Goals as goal

pub index-table-requires : goal.index-table-requires
index-table-requires c =
    let p = c.requires.0 in let i = c.loop-row.row-index in
    let scope = scope_of c.args.modules.now c.args.rows.now (instances p) i c.requires.1 c.loop-row-test.true in
    let row = row_at c.args.modules.now c.args.rows.now (instances p) i c.row-item.result scope.0 c.requires.1 c.loop-row-test.true c.row-item.is scope.1 in
    let below : c.row-item.result.table < length c.args.modules.now.tables.items = within_tables _ _ _ row.table in
    omega (arith, below, c.args.modules.now.tables.ok.0)

pub returns-in-Some : goal.returns-in-Some
returns-in-Some c = λ p are.
    let i = c.loop-row.row-index in
    let scope = scope_of c.args.modules.now c.args.rows.now (instances p) i are c.loop-row-test.true in
    let row = row_at c.args.modules.now c.args.rows.now (instances p) i c.row-item.result scope.0 are c.loop-row-test.true c.row-item.is scope.1 in
    let table = table_at _ _ _ c.index-table.result.now row.table c.index-table.ensures in
    let found = ap (λ o. cons_option o []) (sym c.in-Some.is) ∙ c.body_line.ensures
    ∙ ap (λ es. map (λ e. e.line) (take 1 (filter (λ (e : Entry). declares_process e.entity) es))) (ap (map plain_entry) c.deref.ensures.value ∙ table.declares) in
    let split = split_at (instances p) i scope.0 (slice_get_within (instances p) i scope.0 scope.1) (sym (get_or_from_slice_get (instances p) i scope.0 scope.0 scope.1)) in
    line_found (take i (instances p)) (drop (i + 1) (instances p)) scope.0 c.in-Some.line (c.loop-row.invariant p are) found
    ∙ ap (λ ss. map (λ (e : Scope × Entry). e.1.line) (take 1 (filter is_process_entry (flat_map placed ss)))) split

pub loop-row-preserved : goal.loop-row-preserved
loop-row-preserved c = λ p are.
    let i = c.loop-row.row-index in
    let scope = scope_of c.args.modules.now c.args.rows.now (instances p) i are c.loop-row-test.true in
    let row = row_at c.args.modules.now c.args.rows.now (instances p) i c.row-item.result scope.0 are c.loop-row-test.true c.row-item.is scope.1 in
    let table = table_at _ _ _ c.index-table.result.now row.table c.index-table.ensures in
    let found = ap (λ o. cons_option o []) (sym c.in_default.is) ∙ c.body_line.ensures
    ∙ ap (λ es. map (λ e. e.line) (take 1 (filter (λ (e : Entry). declares_process e.entity) es))) (ap (map plain_entry) c.deref.ensures.value ∙ table.declares) in
    ap (λ ss. filter is_process_entry (flat_map placed ss)) (take_at (instances p) i scope.0 scope.1)
    ∙ no_line (take i (instances p)) scope.0 (c.loop-row.invariant p are) found
