use Rattle.std.proofs.Common.{get_or, sym, ap, ◌∙◌}
use Rattle.value_tables.specs.declared.cells.Cell.{Cell}
use Rattle.value_tables.specs.CellLists.{CellItems}
use Rattle.value_tables.proofs.CellListLemmas.{region_found, region_missing}
use Rattle.value_tables.proofs.cell_lists.CellList.region_of.Goals as goal

pub returns-in-Some : goal.returns-in-Some
returns-in-Some c =
    ap (λ (x : Cell). x.region) c.index.ensures
    ∙ ap (λ (t : CellItems). (get_or t.items c.in-Some.place c.index.result.now).region) c.self.view_is
    ∙ region_found c.args.reading c.index.result.now c.args.self.now.items c.in-Some.place (sym c.in-Some.ensures)

pub returns-in-None : goal.returns-in-None
returns-in-None c = region_missing c.args.reading c.args.self.now.items (sym c.in-None.ensures)
