use Rattle.std.proofs.Common.{refl, sym, ◌∙◌, ap, subst, map}
use Rattle.smv_instances.specs.declared.entries.Entry.{Entry as Line}
use Rattle.smv_instances.specs.Entries.{Entry}
use Rattle.smv_instances.specs.Numbered.{plain_entry}
use Rattle.smv_instances.specs.Tables.{IsFront, counts_from}
use Rattle.smv_instances.proofs.ListSteps.{map_map}
use Rattle.smv_instances.proofs.modules.table_of.Goals as goal

pub returns : goal.returns
returns c = record {
  read = refl;
  declares = c.in_ok-entries.ensures;
  ordered = c.in_ok-ordinals.ensures ∙ ap (λ xs. counts_from 0 (map plain_entry xs)) c.deref-2.ensures.value ∙ ap (counts_from 0) c.in_ok-entries.ensures;
  front = subst (λ xs. IsFront xs c.in_ok-names.names)
      (ap (map (λ (e : Line). e.name.now)) c.deref.ensures.value ∙ sym (map_map (λ (e : Entry). e.name) plain_entry c.in_ok-entries.entries.items) ∙ ap (map (λ (e : Entry). e.name)) c.in_ok-entries.ensures)
      c.in_ok-names.ensures;
}
