use Rattle.std.proofs.Common.{◌≡◌, ◌<◌, ◌+◌, ◌++◌, ◌∷◌, [], refl, sym, ◌∙◌, ap, arith, length}
use Rattle.std.proofs.lemmas.List.{length-map}
use Rattle.smv_instances.specs.Entries.{entries}
use Rattle.smv_instances.specs.Instances.{instances, module_of}
use Rattle.smv_instances.specs.Numbered.{plain_entry}
use Rattle.smv_names.specs.Abbreviations.{Abbreviation}
use Rattle.smv_names.specs.Nodes.{entries_before}
use Rattle.smv_names.proofs.FoundLemmas.{numbered_by}
use Rattle.smv_names.proofs.NodeLemmas.{entry_numbered, entries_more}
use Rattle.smv_names.proofs.WaitLemmas.{member_at}
use Rattle.smv_names.proofs.UseLemmas.{uses_at, uses_more}
use Rattle.smv_names.proofs.uses.push_entries.Goals as goal

pub find_used-requires : goal.find_used-requires
find_used-requires c =
    let p = c.requires.ready.0 in
    let s = member_at (instances p) c.args.i c.requires.ready.2 in
    let sized : length c.entries-place-end.result.now ≡ length (entries (module_of s.0)) =
    sym (length-map c.entries-place-end.result.now plain_entry) ∙ ap (λ xs. length xs) (c.entries-place-end.ensures p s.0 c.requires.ready.1.started.instances_are s.1) in
    (p, s.0, c.requires.ready.1, s.1, omega (arith, c.loop-place-test.true, sized))

pub loop-place-preserved : goal.loop-place-preserved
loop-place-preserved c = record {
  started = c.in_ok-push_node.ensures.started;
  uses = λ p are before.
      let within : c.args.i < length (instances p) = omega (arith, c.requires.ready.2, c.requires.ready.1.started.nodes_are.lengths, are.started.nodes_are.lengths) in
      let s = member_at (instances p) c.args.i within in
      let sized : length c.entries-place-end.result.now ≡ length (entries (module_of s.0)) =
      sym (length-map c.entries-place-end.result.now plain_entry) ∙ ap (λ xs. length xs) (c.entries-place-end.ensures p s.0 are.started.instances_are s.1) in
      let e = member_at (entries (module_of s.0)) c.loop-place.place (omega (arith, c.loop-place-test.true, sized)) in
      let n = entries_before p c.args.i + c.loop-place.place in
      let a : Abbreviation = record { scope = s.0; name = e.0.name } in
      let at = numbered_by p n s.0 e.0.name e.0 (entry_numbered p c.args.i c.loop-place.place s.0 e.0 s.1 e.1) refl in
      let firsts = c.loop-place.graph.firsts.items in
      let targets = c.loop-place.graph.targets.items in
      let used = c.find_used.new.found.numbers.items in
      let targets_are : c.push_node.new.graph.targets.items ≡ targets ++ used = c.in_ok-push_node.ensures.targets ∙ ap (λ z. targets ++ z) c.deref.ensures.value in
      let firsts_are : c.push_node.new.graph.firsts.items ≡ firsts ++ length (targets ++ used) ∷ [] = c.in_ok-push_node.ensures.firsts ∙ ap (λ z. firsts ++ length z ∷ []) targets_are in
      uses_at p firsts_are targets_are (omega arith) (uses_more p firsts targets used n a c.loop-place.invariant.started (c.loop-place.invariant.uses p are before) at (c.in_ok-find_used.ensures p s.0 e.0 are s.1 e.1));
}

pub returns-clause-uses : goal.returns-clause-uses
returns-clause-uses c p are before =
    let within : c.args.i < length (instances p) = omega (arith, c.requires.ready.2, c.requires.ready.1.started.nodes_are.lengths, are.started.nodes_are.lengths) in
    let s = member_at (instances p) c.args.i within in
    let sized : length c.entries-place-end.result.now ≡ length (entries (module_of s.0)) =
    sym (length-map c.entries-place-end.result.now plain_entry) ∙ ap (λ xs. length xs) (c.entries-place-end.ensures p s.0 are.started.instances_are s.1) in
    let all : entries_before p (c.args.i + 1) ≡ entries_before p c.args.i + c.loop-place.place = omega (arith, entries_more p c.args.i s.0 s.1, sized, c.loop-place-test.false, c.loop-place.auto.place-end) in
    uses_at p refl refl all (c.loop-place.invariant.uses p are before)
