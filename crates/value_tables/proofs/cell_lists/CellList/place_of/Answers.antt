use Rattle.std.proofs.Common.{ap, ◌∙◌}
use Rattle.std.specs.Prelude.{position}
use Rattle.value_tables.specs.declared.cells.Cell.{Cell}
use Rattle.value_tables.specs.Cells.{same_reading}
use Rattle.value_tables.specs.CellLists.{CellItems}
use Rattle.value_tables.proofs.CellListLemmas.{same_key, position_keys}
use Rattle.value_tables.proofs.cell_lists.CellList.place_of.Goals as goal

pub returns : goal.returns
returns c =
    c.get_index_of.ensures.index
    ∙ (λ j. position (same_key (c.key_of.ensures j)) (c.self.invariant j))
    ∙ position_keys c.args.reading c.self.inside.items.items
    ∙ ap (λ (t : CellItems). position (λ (x : Cell). same_reading c.args.reading x.reading) t.items) c.self.view_is
