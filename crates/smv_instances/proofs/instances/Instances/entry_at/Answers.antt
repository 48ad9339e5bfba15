use Rattle.std.proofs.Common.{◌≡◌, ap, sym, ◌∙◌, None, false, ◌<◌, length, subst}
use Rattle.std.specs.List.{list_any}
use Rattle.std.specs.Str.{bytes_eq}
use Rattle.smv_instances.specs.Entries.{entity_in}
use Rattle.smv_instances.specs.Instances.{module_of, place_of, instances}
use Rattle.smv_instances.specs.Walk.{AreRows}
use Rattle.smv_instances.specs.Built.{IsEntryOf}
use Rattle.smv_instances.proofs.InstanceLemmas.{some_both, none_map, entry_found, entry_absent}
use Rattle.smv_instances.proofs.instances.Instances.entry_at.Goals as goal

pub returns-clause-some : goal.returns-clause-some
returns-clause-some c = λ p s are at.
    let t = c.table_at-table.result.now in
    let x = c.args.name.now in
    let table = c.table_at-table.ensures (instances p) s (subst (λ rows. AreRows c.args.self.now.modules rows (instances p)) (sym c.deref.ensures.value) are.are) at in
    some_both (λ k. k ≡ place_of t.names c.as_str.result.now) (λ k. k < length t.names) (IsEntryOf (module_of s) x) c.place.result c.place.ensures.place c.place.ensures.within
    (λ k is lt. entry_found p c.args.self.now c.args.i s t x k are at table (is ∙ ap (place_of t.names) c.as_str.ensures) lt)

pub returns-clause-none : goal.returns-clause-none
returns-clause-none c = λ p s are at.
    let t = c.table_at-table.result.now in
    let x = c.args.name.now in
    let table = c.table_at-table.ensures (instances p) s (subst (λ rows. AreRows c.args.self.now.modules rows (instances p)) (sym c.deref.ensures.value) are.are) at in
    none_map (list_any (bytes_eq c.as_str.result.now) t.names ≡ false) (entity_in (module_of s) x ≡ None) c.place.result c.place.ensures.none
    (λ none. entry_absent p c.args.self.now c.args.i s t x are at table (ap (λ y. list_any (bytes_eq y) t.names) (sym c.as_str.ensures) ∙ none))
