use Rattle.std.proofs.Common.{◌≡◌, ◌<◌, sym, ◌∙◌, ap, subst, arith, length}
use Rattle.std.specs.Prelude.{IfSome, IfNone, false}
use Rattle.std.specs.List.{list_any}
use Rattle.std.specs.Str.{bytes_eq}
use Rattle.std.proofs.lemmas.Option.{slice_get_within}
use Rattle.smv_instances.specs.Entries.{entries}
use Rattle.smv_instances.specs.Instances.{instances, module_of, place_of, spelled}
use Rattle.smv_instances.specs.Numbered.{plain_entry, plain_entity}
use Rattle.smv_instances.specs.Plain.{plain_type}
use Rattle.smv_instances.specs.Walk.{AreRows}
use Rattle.smv_instantiate.specs.Firsts.{first_element}
use Rattle.smv_instantiate.proofs.Members.{slice_in}
use Rattle.smv_instantiate.proofs.FirstLemmas.{first_is}
use Rattle.smv_instantiate.proofs.firsts.first_of.Goals as goal

pub spelled_name-requires : goal.spelled_name-requires
spelled_name-requires c =
    let h = c.requires in
    let rows = subst (λ z. AreRows c.args.instances.now.modules z (instances h.0)) (sym c.deref.ensures.value) h.2.are in
    let below = slice_get_within (instances h.0) c.args.i h.1 h.3 in
    let within : c.args.i < length c.deref.result.now = omega (arith, below, rows.lengths) in
    (c.args.instances.now.modules, (instances h.0, rows, within))

pub returns-in_ok-first-in-Stored : goal.returns-in_ok-first-in-Stored
returns-in_ok-first-in-Stored c = λ p s k are written named at stands type is.
    let rows = subst (λ z. AreRows c.args.instances.now.modules z (instances p)) (sym c.deref.ensures.value) are.are in
    let flat : c.in_ok-flat-in-Stored.flat ≡ spelled s c.args.entry.now.name.now = c.in_ok-flat-in-Stored.ensures c.args.instances.now.modules (instances p) s rows at in
    let first : c.in_ok-first-in-Stored.first ≡ first_element (plain_type c.in-Stored.plain.now) (spelled s c.args.entry.now.name.now) = c.in_ok-first-in-Stored.ensures ∙ ap (first_element (plain_type c.in-Stored.plain.now)) flat in
    first_is p are.silent written s (plain_entry c.args.entry.now) (plain_type c.in-Stored.plain.now) c.number.result (slice_in (instances p) c.args.i s at) (slice_in (entries (module_of s)) k (plain_entry c.args.entry.now) stands) (ap plain_entity c.in-Stored.is)
    (subst (λ ns. IfSome c.number.result (λ n. n ≡ place_of ns (first_element (plain_type c.in-Stored.plain.now) (spelled s c.args.entry.now.name.now)))) named (subst (λ z. IfSome c.number.result (λ n. n ≡ place_of c.args.names.now z)) first c.number.ensures.some))
    (subst (λ ns. IfNone c.number.result (list_any (bytes_eq (first_element (plain_type c.in-Stored.plain.now) (spelled s c.args.entry.now.name.now))) ns ≡ false)) named (subst (λ z. IfNone c.number.result (list_any (bytes_eq z) c.args.names.now ≡ false)) first c.number.ensures.none))
    type is
