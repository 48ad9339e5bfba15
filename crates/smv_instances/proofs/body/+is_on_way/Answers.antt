use Rattle.std.proofs.Common.{◌≡◌, sym, ◌∙◌, ap, subst, ◌<◌, arith, ◌||◌, true, false, length}
use Rattle.std.specs.List.{list_any}
use Rattle.std.specs.Str.{bytes_eq}
use Rattle.smv_instances.specs.Program.{Module}
use Rattle.smv_instances.specs.Instances.{module_of, modules_to}
use Rattle.smv_instances.specs.Walk.{IsStep}
use Rattle.smv_instances.proofs.RowLemmas.{row_at, scope_of, within_tables, table_at, name_first, main_way, around_of}
use Rattle.smv_instances.proofs.body.+is_on_way.Goals as goal

pub index-table-requires : goal.index-table-requires
index-table-requires t c =
    let scope = scope_of c.args.modules.now c.args.rows.now c.requires.0 c.args.number c.requires.1 c.requires.2 in
    let row = row_at c.args.modules.now c.args.rows.now c.requires.0 c.args.number c.index-rows-number.result scope.0 c.requires.1 c.requires.2 c.index-rows-number.is scope.1 in
    let within : c.index-rows-number.result.table < length c.args.modules.now.tables.items = within_tables _ _ _ row.table in
    omega (arith, within, c.args.modules.now.tables.ok.0)

pub returns-then-eq : goal.returns-then-eq
returns-then-eq t c = λ done s are at.
    let row = row_at c.args.modules.now c.args.rows.now done c.args.number c.index-rows-number.result s are c.requires.2 c.index-rows-number.is at in
    let table = table_at _ _ _ c.index-table.result.now row.table c.index-table.ensures in
    let first = name_first s in
    let named : c.index-table.result.now.source.now.name ≡ (module_of s).name = ap (λ (m : Module). m.name) table.read in
    let same : bytes_eq c.args.name.now (module_of s).name ≡ true = ap (bytes_eq c.args.name.now) (sym named) ∙ ap (λ x. bytes_eq x c.index-table.result.now.source.now.name) (sym c.as_bytes.ensures) ∙ ap (bytes_eq c.as_bytes.result.now) (sym c.as_bytes-2.ensures) ∙ sym c.if-eq.ensures in
    sym (ap (list_any (bytes_eq c.args.name.now)) first.1 ∙ ap (λ b. b || list_any (bytes_eq c.args.name.now) first.0) same)

pub is_on_way-requires : goal.is_on_way-requires
is_on_way-requires t c =
    let scope = scope_of c.args.modules.now c.args.rows.now c.requires.0 c.args.number c.requires.1 c.requires.2 in
    let row = row_at c.args.modules.now c.args.rows.now c.requires.0 c.args.number c.index-rows-number.result scope.0 c.requires.1 c.requires.2 c.index-rows-number.is scope.1 in
    let around = around_of c.requires.0 c.args.number c.in-Some.step scope.0 (subst (λ o. IsStep c.requires.0 c.args.number o scope.0) c.in-Some.is row.step) in
    let earlier : c.in-Some.step.around < c.args.number = around.earlier in
    (omega (arith, earlier, c.decreases), (c.requires.0, c.requires.1, omega (arith, earlier, c.requires.2)))

pub returns-in-Some : goal.returns-in-Some
returns-in-Some t c = λ done s are at.
    let row = row_at c.args.modules.now c.args.rows.now done c.args.number c.index-rows-number.result s are c.requires.2 c.index-rows-number.is at in
    let table = table_at _ _ _ c.index-table.result.now row.table c.index-table.ensures in
    let around = around_of done c.args.number c.in-Some.step s (subst (λ o. IsStep done c.args.number o s) c.in-Some.is row.step) in
    let named : c.index-table.result.now.source.now.name ≡ (module_of s).name = ap (λ (m : Module). m.name) table.read in
    let other : bytes_eq c.args.name.now (module_of s).name ≡ false = ap (bytes_eq c.args.name.now) (sym named) ∙ ap (λ x. bytes_eq x c.index-table.result.now.source.now.name) (sym c.as_bytes.ensures) ∙ ap (bytes_eq c.as_bytes.result.now) (sym c.as_bytes-2.ensures) ∙ sym c.if-eq.ensures in
    c.is_on_way.ensures done around.around are around.numbered ∙ sym (ap (list_any (bytes_eq c.args.name.now)) around.way ∙ ap (λ b. b || list_any (bytes_eq c.args.name.now) (modules_to around.around)) other)

pub returns-in-None : goal.returns-in-None
returns-in-None t c = λ done s are at.
    let row = row_at c.args.modules.now c.args.rows.now done c.args.number c.index-rows-number.result s are c.requires.2 c.index-rows-number.is at in
    let table = table_at _ _ _ c.index-table.result.now row.table c.index-table.ensures in
    let way = main_way done c.args.number s (subst (λ o. IsStep done c.args.number o s) c.in-None.is row.step) in
    let named : c.index-table.result.now.source.now.name ≡ (module_of s).name = ap (λ (m : Module). m.name) table.read in
    let other : bytes_eq c.args.name.now (module_of s).name ≡ false = ap (bytes_eq c.args.name.now) (sym named) ∙ ap (λ x. bytes_eq x c.index-table.result.now.source.now.name) (sym c.as_bytes.ensures) ∙ ap (bytes_eq c.as_bytes.result.now) (sym c.as_bytes-2.ensures) ∙ sym c.if-eq.ensures in
    sym (ap (list_any (bytes_eq c.args.name.now)) way ∙ ap (λ b. b || false) other)
