use Rattle.std.proofs.Common.{◌∙◌, List, true, false, ap}
use Rattle.kripke_model.specs.Reading.{term_of}
use Rattle.value_tables.specs.declared.cells.Cell.{Cell}
use Rattle.value_tables.specs.Regions.{rows_in, faults_in}
use Rattle.kripke_model.specs.Size.{term_nodes}
use Rattle.value_tables.specs.States.{state_shown, meaning_of}
use Rattle.bdd_nodes.specs.Store.{levels_of}
use Rattle.value_tables.proofs.GrowthLemmas.{growth}
use Rattle.value_tables.proofs.ReadingCounts.{table-few, eval_amount}
use Rattle.value_tables.proofs.RowLemmas.{regions_as, regions_are, rows_few}
use Rattle.value_tables.proofs.value_regions.table.Goals as goal

pub returns-clause-regions : goal.returns-clause-regions
returns-clause-regions g c =
    let s = c.build.new.engine.store in
    let cells : List Cell = c.in_ok-table.table.cells.items in
    regions_as s c.args.layout.now c.args.model.now (term_of c.args.expr.now) cells _ _
    (c.in-Ok.ensures.rows ∙ ap rows_in c.deref.ensures.value) (c.in-Ok.ensures.faults ∙ ap faults_in c.deref.ensures.value)
    (regions_are s c.args.layout.now c.args.model.now (term_of c.args.expr.now) cells _ c.codes_law.ensures.valid c.codes_law.ensures.fields c.places_law.ensures.within c.requires.laid.types c.in_ok-table.ensures.table)

pub returns-clause-growth : goal.returns-clause-growth
returns-clause-growth g c = growth c.args.engine.now.store c.build.new.engine.store (term_nodes (term_of c.args.expr.now)) c.build.ensures.spends

pub returns-in_err-table-clause-growth : goal.returns-in_err-table-clause-growth
returns-in_err-table-clause-growth g c = growth c.args.engine.now.store c.build.new.engine.store (term_nodes (term_of c.args.expr.now)) c.build.ensures.spends

pub returns-in_default-clause-growth : goal.returns-in_default-clause-growth
returns-in_default-clause-growth g c = growth c.args.engine.now.store c.build.new.engine.store (term_nodes (term_of c.args.expr.now)) c.build.ensures.spends

pub returns-clause-few : goal.returns-clause-few
returns-clause-few g c =
    let s = c.build.new.engine.store in
    let lay = c.args.layout.now in
    let m = c.args.model.now in
    let e = term_of c.args.expr.now in
    let cells : List Cell = c.in_ok-table.table.cells.items in
    rows_few cells _ _ (term_nodes e) (levels_of c.args.engine.now.store) (levels_of s) (c.in-Ok.ensures.rows ∙ ap rows_in c.deref.ensures.value) (c.in-Ok.ensures.faults ∙ ap faults_in c.deref.ensures.value) c.build.ensures.call.keeps.engine.grows.levels
    (table-few s cells c.in_ok-table.table.single (meaning_of lay m false e) (term_nodes e) c.in_ok-table.ensures.table (λ bits. eval_amount m e (state_shown lay false bits) (state_shown lay true bits)))
