use Rattle.std.proofs.Common.{sym, ap, ◌∙◌}
use Rattle.value_tables.specs.CellLists.{CellItems, keys_of, with_region}
use Rattle.value_tables.proofs.CellListLemmas.{with_region-set, keys-with_region}
use Rattle.value_tables.proofs.cell_lists.CellList.set_region.Goals as goal

pub invariant_of-self : goal.invariant_of-self
invariant_of-self c =
    let cells = c.self.inside.items.items in
    c.self.invariant ∙ sym (keys-with_region cells c.args.place c.args.region) ∙ ap keys_of (with_region-set cells c.args.place c.args.region c.index_mut.result.now c.index_mut.ensures.value)

pub returns : goal.returns
returns c =
    sym (with_region-set c.self.inside.items.items c.args.place c.args.region c.index_mut.result.now c.index_mut.ensures.value)
    ∙ ap (λ (t : CellItems). with_region t.items c.args.place c.args.region) c.self.view_is
