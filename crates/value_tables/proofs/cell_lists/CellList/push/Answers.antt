use Rattle.std.proofs.Common.{◌≡◌, None, [], ◌∷◌, ◌++◌, List, sym, ap, ◌∙◌}
use Rattle.std.specs.Prelude.{position}
use Rattle.indexmap.specs.IndexSet.{insert_key}
use Rattle.value_tables.specs.declared.cells.Cell.{Cell}
use Rattle.value_tables.specs.Cells.{same_reading}
use Rattle.value_tables.specs.CellLists.{CellItems, keys_of}
use Rattle.value_tables.proofs.CellListLemmas.{same_key, keys_push}
use Rattle.value_tables.proofs.cell_lists.CellList.push.Goals as goal

pub invariant_of-self-2 : goal.invariant_of-self-2
invariant_of-self-2 c =
    let cell = c.args.cell in
    let cells = c.self.inside.items.items in
    let absent : position (λ (x : Cell). same_reading cell.reading x.reading) cells ≡ None =
    ap (λ (t : CellItems). position (λ (x : Cell). same_reading cell.reading x.reading) t.items) c.self.view_is ∙ c.requires in
    c.in_ok-insert.ensures.keys
    ∙ (λ j. insert_key same_key (c.self.invariant j) (c.key_of.ensures j))
    ∙ keys_push cells cell absent
    ∙ ap keys_of (sym (c.in_ok-push.ensures.items ∙ ap (λ (xs : List Cell). xs ++ cell ∷ []) c.reserve.ensures.items))
