use Rattle.std.proofs.Common.{◌∙◌, ap, rules}
use Rattle.bdd_nodes.specs.Store.{value_of}
use Rattle.bdd_nodes.proofs.Tables.{Grows-then}
use Rattle.value_tables.specs.declared.pick.Pick.{Pick}
use Rattle.value_tables.specs.Cells.{any_cell, shows}
use Rattle.value_tables.specs.Pick.{becomes}
use Rattle.value_tables.proofs.RegionLemmas.{any_cell-grows, keeps_join}
use Rattle.value_tables.proofs.StepLemmas.{tested_each}
use Rattle.value_tables.proofs.operands.tested.Goals as goal

pub returns-clause-reads : goal.returns-clause-reads
returns-clause-reads g c =
    let s = c.args.engine.now.store in
    let a = c.many_in.new.engine.store in
    let b = c.outside.new.engine.store in
    let d = c.spread.new.engine.store in
    let cells = c.args.table.now.cells.items in
    let to_b = Grows-then s a b c.many_in.ensures.call.keeps.engine.grows c.outside.ensures.call.keeps.engine.grows in
    λ bits r h proper flag. record {
      each = λ k. tested_each (λ q. value_of s q bits) cells r c.requires.once h proper c.args.table.now.single flag c.args.test k _ _ _ _ _ _ _
          (c.in_ok-add.ensures.shows bits k)
          (c.in_ok-spread.ensures.shows bits k)
          (ap (λ xs. shows (λ q. value_of b q bits) xs k) c.new-out.ensures.items)
          (ap (any_cell (λ q. value_of b q bits) (becomes (Pick.Tested c.args.test) k)) c.deref.ensures.value ∙ any_cell-grows s b to_b cells c.requires.has bits (becomes (Pick.Tested c.args.test) k))
          (c.in_ok-one.ensures.region.value bits)
          ((Grows-then a b d c.outside.ensures.call.keeps.engine.grows c.spread.ensures.call.keeps.engine.grows).value c.in_ok-many.many c.in_ok-many.ensures.region.has bits)
          (c.in_ok-many.ensures.region.value bits);
    }

pub returns-in_err-add-clause-call : goal.returns-in_err-add-clause-call
returns-in_err-add-clause-call g c = record { keeps = keeps_join (keeps_join (keeps_join c.many_in.ensures.call.keeps c.outside.ensures.call.keeps) c.spread.ensures.call.keeps) c.add.ensures.call.keeps; held = search rules }

pub returns-clause-call : goal.returns-clause-call
returns-clause-call g c = record { keeps = keeps_join (keeps_join (keeps_join c.many_in.ensures.call.keeps c.outside.ensures.call.keeps) c.spread.ensures.call.keeps) c.add.ensures.call.keeps; held = search rules }

pub returns-in_err-spread-clause-call : goal.returns-in_err-spread-clause-call
returns-in_err-spread-clause-call g c = record { keeps = keeps_join (keeps_join c.many_in.ensures.call.keeps c.outside.ensures.call.keeps) c.spread.ensures.call.keeps; held = search rules }
