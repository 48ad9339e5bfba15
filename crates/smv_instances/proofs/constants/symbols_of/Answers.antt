use Rattle.std.proofs.Common.{◌≡◌, sym, ◌∙◌, ap, ◌+◌, ◌<◌, arith, [], ◌∷◌, ◌++◌, length, map, flat_map, take, append-nil}
use Rattle.std.proofs.lemmas.List.{take_more}
use Rattle.std.proofs.lemmas.Grind.{flat_map-append}
use Rattle.std.proofs.lemmas.Option.{get_or_from_slice_get}
use Rattle.smv_instances.specs.Instances.{distinct_names}
use Rattle.smv_instances.specs.Numbered.{plain_entry}
use Rattle.smv_instances.specs.Symbols.{body_atoms, entry_atoms}
use Rattle.smv_instances.proofs.ListSteps.{take_whole}
use Rattle.smv_instances.proofs.RowLemmas.{row_at, scope_of, table_at, within_tables}
use Rattle.smv_instances.proofs.constants.symbols_of.Goals as goal

pub index-table-requires : goal.index-table-requires
index-table-requires c =
    let i = c.loop-row.row-index in
    let scope = scope_of c.args.modules.now c.args.rows.now c.requires.0 i c.requires.1 (omega arith) in
    let row = row_at c.args.modules.now c.args.rows.now c.requires.0 i c.row-item.result scope.0 c.requires.1 (omega arith) c.row-item.is scope.1 in
    let within : c.row-item.result.table < length c.args.modules.now.tables.items = within_tables _ _ _ row.table in
    omega (arith, within, c.args.modules.now.tables.ok.0)

pub loop-row-preserved : goal.loop-row-preserved
loop-row-preserved c = λ done are.
    let i = c.loop-row.row-index in
    let scope = scope_of c.args.modules.now c.args.rows.now done i are (omega arith) in
    let s = scope.0 in
    let row = row_at c.args.modules.now c.args.rows.now done i c.row-item.result s are (omega arith) c.row-item.is scope.1 in
    let table = table_at _ _ _ c.index-table.result.now row.table c.index-table.ensures in
    let front = flat_map body_atoms (take i done) in
    let lt : i < length done = omega (arith, are.lengths) in
    let own : entry_atoms (map plain_entry c.deref.result.now) ≡ body_atoms s = ap (λ es. entry_atoms (map plain_entry es)) c.deref.ensures.value ∙ ap entry_atoms table.declares in
    let more : flat_map body_atoms (take (i + 1) done) ≡ front ++ body_atoms s =
    ap (flat_map body_atoms) (take_more done i s lt ∙ ap (λ d. take i done ++ (d ∷ [])) (get_or_from_slice_get done i s s scope.1))
    ∙ flat_map-append body_atoms (take i done) (s ∷ []) ∙ ap (λ ns. front ++ ns) (append-nil (body_atoms s)) in
    c.in_ok-add_body.ensures front (c.loop-row.invariant done are) ∙ ap (λ ns. distinct_names (front ++ ns)) own ∙ ap distinct_names (sym more)

pub returns : goal.returns
returns c = λ done are. c.loop-row.invariant done are ∙ ap (λ xs. distinct_names (flat_map body_atoms xs)) (take_whole done c.loop-row.row-index (omega (arith, are.lengths)))
