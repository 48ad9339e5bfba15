use Rattle.std.proofs.Common.{◌≡◌, ap, sym, ◌∙◌, ◌<◌, arith, Some, length, map, get_or}
use Rattle.std.proofs.lemmas.Option.{slice_get_within}
use Rattle.smv_instances.specs.Plain.{plain_expr}
use Rattle.smv_instances.specs.Entries.{Entity, Entry, entries}
use Rattle.smv_instances.specs.Instances.{module_of}
use Rattle.smv_instances.specs.Numbered.{plain_entry, plain_entity, scope_at}
use Rattle.smv_instances.proofs.RowLemmas.{some_at, table_at, within_tables}
use Rattle.smv_instances.proofs.InstanceLemmas.{is_row, entry_read, entry_declared, entry_place, child_number, declared_child, length_entries, length_ordinals, get_value}
use Rattle.smv_instances.proofs.FindLemmas.{formal_at}
use Rattle.smv_instances.proofs.instances.Instances.found_at.Goals as goal

pub index-table-requires : goal.index-table-requires
index-table-requires c =
    let row = is_row c.requires.0 c.args.self.now c.args.i c.index-row.result.now c.requires.1 c.requires.2 c.index-row.ensures c.requires.3 in
    let within : c.index-row.result.now.table < length c.args.self.now.modules.tables.items = within_tables _ _ _ row.table in
    omega (arith, within, c.args.self.now.modules.tables.ok.0)

pub index-entry-requires : goal.index-entry-requires
index-entry-requires c =
    let row = is_row c.requires.0 c.args.self.now c.args.i c.index-row.result.now c.requires.1 c.requires.2 c.index-row.ensures c.requires.3 in
    let table = table_at _ _ _ c.index-table.result.now row.table c.index-table.ensures in
    omega (arith, c.requires.4, length_entries _ _ table, c.index-table.result.now.entries.ok.0)

pub index-ordinal-requires : goal.index-ordinal-requires
index-ordinal-requires c =
    let row = is_row c.requires.0 c.args.self.now c.args.i c.index-row.result.now c.requires.1 c.requires.2 c.index-row.ensures c.requires.3 in
    let table = table_at _ _ _ c.index-table.result.now row.table c.index-table.ensures in
    omega (arith, c.requires.4, length_ordinals _ _ table, c.index-table.result.now.ordinals.ok.0)

pub index-requires : goal.index-requires
index-requires c =
    let p = c.requires.0 in
    let s = c.requires.1 in
    let row = is_row p c.args.self.now c.args.i c.index-row.result.now s c.requires.2 c.index-row.ensures c.requires.3 in
    let table = table_at _ _ _ c.index-table.result.now row.table c.index-table.ensures in
    let e = some_at (entries (module_of s)) c.args.place c.requires.4 in
    let entry : e.0 ≡ plain_entry c.index-entry.result.now = entry_read _ _ c.args.place _ e.0 table c.index-entry.ensures e.1 in
    let is : e.0.entity ≡ Entity.Instance c.in-Instance.process c.in-Instance.module.now (map plain_expr c.in-Instance.actuals.now) = ap (λ (d : Entry). d.entity) entry ∙ ap plain_entity c.in-Instance.is in
    let child = declared_child p c.args.self.now c.args.i s c.args.place e.0 _ _ _ c.requires.2 c.requires.3 e.1 is in
    let n = child_number p c.args.self.now c.args.i s c.index-row.result.now c.index-table.result.now c.args.place e.0 c.requires.2 c.requires.3 c.index-row.ensures table e.1 _ child.2 in
    let ordinal : c.index-ordinal.result.now ≡ n.ordinal = c.index-ordinal.ensures ∙ get_value _ c.args.place n.ordinal n.counted _ in
    let within : n.ordinal < length c.index-row.result.now.children.items = slice_get_within _ n.ordinal n.number n.kept in
    omega (arith, within, ordinal, c.index-row.result.now.children.ok.0)

pub returns-in-Parameter : goal.returns-in-Parameter
returns-in-Parameter c = λ p s e are at stands.
    let row = is_row p c.args.self.now c.args.i c.index-row.result.now s are c.index-row.ensures at in
    let table = table_at _ _ _ c.index-table.result.now row.table c.index-table.ensures in
    let entry : e ≡ plain_entry c.index-entry.result.now = entry_read _ _ c.args.place _ e table c.index-entry.ensures stands in
    let is : e.entity ≡ Entity.Parameter = ap (λ (d : Entry). d.entity) entry ∙ ap plain_entity c.in-Parameter.is in (
      entry_declared p c.args.self.now c.args.i s c.index-table.result.now c.args.place e are at table stands ∙ ap Some is,
      formal_at (module_of s) e.name c.args.place e (entry_place p c.args.self.now c.args.i s c.index-table.result.now c.args.place e are at table stands) stands is,
    )

pub returns-in-Stored : goal.returns-in-Stored
returns-in-Stored c = λ p s e are at stands.
    let row = is_row p c.args.self.now c.args.i c.index-row.result.now s are c.index-row.ensures at in
    let table = table_at _ _ _ c.index-table.result.now row.table c.index-table.ensures in
    let entry : e ≡ plain_entry c.index-entry.result.now = entry_read _ _ c.args.place _ e table c.index-entry.ensures stands in
    entry_declared p c.args.self.now c.args.i s c.index-table.result.now c.args.place e are at table stands ∙ ap (λ (d : Entry). Some d.entity) entry ∙ ap (λ x. Some (plain_entity x)) c.in-Stored.is

pub returns-in-Defined : goal.returns-in-Defined
returns-in-Defined c = λ p s e are at stands.
    let row = is_row p c.args.self.now c.args.i c.index-row.result.now s are c.index-row.ensures at in
    let table = table_at _ _ _ c.index-table.result.now row.table c.index-table.ensures in
    let entry : e ≡ plain_entry c.index-entry.result.now = entry_read _ _ c.args.place _ e table c.index-entry.ensures stands in
    entry_declared p c.args.self.now c.args.i s c.index-table.result.now c.args.place e are at table stands ∙ ap (λ (d : Entry). Some d.entity) entry ∙ ap (λ x. Some (plain_entity x)) c.in-Defined.is

pub returns-in-Instance : goal.returns-in-Instance
returns-in-Instance c = λ p s e are at stands.
    let row = is_row p c.args.self.now c.args.i c.index-row.result.now s are c.index-row.ensures at in
    let table = table_at _ _ _ c.index-table.result.now row.table c.index-table.ensures in
    let entry : e ≡ plain_entry c.index-entry.result.now = entry_read _ _ c.args.place _ e table c.index-entry.ensures stands in
    let is : e.entity ≡ Entity.Instance c.in-Instance.process c.in-Instance.module.now (map plain_expr c.in-Instance.actuals.now) = ap (λ (d : Entry). d.entity) entry ∙ ap plain_entity c.in-Instance.is in
    let child = declared_child p c.args.self.now c.args.i s c.args.place e _ _ _ are at stands is in
    let n = child_number p c.args.self.now c.args.i s c.index-row.result.now c.index-table.result.now c.args.place e are at c.index-row.ensures table stands _ child.2 in
    let ordinal : c.index-ordinal.result.now ≡ n.ordinal = c.index-ordinal.ensures ∙ get_value _ c.args.place n.ordinal n.counted _ in
    let number : c.index.result.now ≡ n.number = c.index.ensures ∙ ap (λ k. get_or c.index-row.result.now.children.items k c.index.result.now) ordinal ∙ get_value c.index-row.result.now.children.items n.ordinal n.number n.kept c.index.result.now in
    record {
      process = c.in-Instance.process;
      module_name = c.in-Instance.module.now;
      actuals = map plain_expr c.in-Instance.actuals.now;
      m = child.0;
      declared = entry_declared p c.args.self.now c.args.i s c.index-table.result.now c.args.place e are at table stands ∙ ap Some is;
      named = child.1;
      numbered = ap (scope_at p) number ∙ n.numbered ∙ sym n.is ∙ child.2;
    }
