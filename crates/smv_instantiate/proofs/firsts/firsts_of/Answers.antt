use Rattle.std.proofs.Common.{◌≡◌, ◌+◌, ◌<◌, sym, ◌∙◌, ap, subst, arith, [], ◌∷◌, ◌++◌, length, take, Some}
use Rattle.std.specs.Prelude.{slice_get}
use Rattle.std.specs.List.{AllZip}
use Rattle.std.proofs.lemmas.List.{length-map}
use Rattle.std.proofs.lemmas.Option.{slice_get_within}
use Rattle.smv_instances.specs.Entries.{entries}
use Rattle.smv_instances.specs.Instances.{all_entries, module_of}
use Rattle.smv_instances.specs.Numbered.{plain_entry}
use Rattle.smv_names.proofs.PairLemmas.{pairs_append}
use Rattle.smv_instantiate.specs.Firsts.{IsFirst}
use Rattle.smv_instantiate.proofs.Members.{some_same}
use Rattle.smv_instantiate.proofs.BodySteps.{read_mapped}
use Rattle.smv_instantiate.proofs.ProcessSteps.{take_at}
use Rattle.smv_instantiate.proofs.firsts.firsts_of.Goals as goal

pub loop-node-preserved : goal.loop-node-preserved
loop-node-preserved c = λ p targets written named.
    let node = c.loop-node.node in
    let below : c.loop-node.node < length (all_entries p) = omega (arith, c.loop-node-test.true, targets.started.nodes_are.all) in
    let at = c.entry-i.ensures p targets.started.nodes_are below in
    let held = c.index-entries-place.result in
    let read = c.entries.ensures p at.scope targets.started.instances_are at.numbered in
    let count : length c.entries.result.now ≡ length (entries (module_of at.scope)) = sym (length-map c.entries.result.now plain_entry) ∙ ap (λ es. length es) read in
    let within : c.entry-i.result.1 < length c.entries.result.now = omega (arith, count, slice_get_within (entries (module_of at.scope)) c.entry-i.result.1 at.entry at.stands) in
    let stands : slice_get (entries (module_of at.scope)) c.entry-i.result.1 ≡ Some (plain_entry held) = read_mapped plain_entry c.entries.result.now (entries (module_of at.scope)) c.entry-i.result.1 held read within c.index-entries-place.is in
    let first = c.in_ok-first_of.ensures p at.scope c.entry-i.result.1 targets.started.instances_are written named at.numbered stands in
    let here : IsFirst p c.in_ok-first_of.field-0 (at.scope, at.entry) = subst (λ e. IsFirst p c.in_ok-first_of.field-0 (at.scope, e)) (some_same (sym stands ∙ at.stands)) first in
    subst (λ z. AllZip (IsFirst p) z (take (node + 1) (all_entries p))) (sym c.in_ok-push.ensures.items)
    (subst (AllZip (IsFirst p) (c.loop-node.firsts.items ++ (c.in_ok-first_of.field-0 ∷ []))) (sym (take_at (all_entries p) node (at.scope, at.entry) at.is))
    (pairs_append (IsFirst p) c.loop-node.firsts.items (c.in_ok-first_of.field-0 ∷ []) (take node (all_entries p)) ((at.scope, at.entry) ∷ []) (c.loop-node.invariant p targets written named) (here, tt)))
