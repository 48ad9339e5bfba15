use Rattle.std.proofs.Common.{sym, ◌∙◌, subst, rules}
use Rattle.std.specs.Prelude.{IfSome, None}
use Rattle.std.proofs.lemmas.Option.{slice_get_within, get_or_from_slice_get}
use Rattle.smv_instances.specs.Instances.{module_of}
use Rattle.smv_instances.specs.Built.{IsEntryOf}
use Rattle.smv_instantiate.proofs.Members.{some_same}
use Rattle.smv_instantiate.proofs.FirstLemmas.{first_held}
use Rattle.smv_instantiate.proofs.firsts.first_at.Goals as goal

pub node-requires : goal.node-requires
node-requires c =
    let h = c.requires in
    let is = subst (λ o. IfSome o (IsEntryOf (module_of h.1) c.args.name.now)) c.in-Some.is (c.entry_at.ensures.some h.0 h.1 h.3.started.instances_are h.5) in
    (h.0, h.1, is.entry, h.3.started.nodes_are, h.5, is.stands)

pub offset_bounds-firsts-node : goal.offset_bounds-firsts-node
offset_bounds-firsts-node c =
    let h = c.requires in
    let is = subst (λ o. IfSome o (IsEntryOf (module_of h.1) c.args.name.now)) c.in-Some.is (c.entry_at.ensures.some h.0 h.1 h.3.started.instances_are h.5) in
    let there = c.node.ensures h.0 h.1 h.3.started.nodes_are h.5 is.entry is.stands in
    let within = slice_get_within c.args.firsts.now c.node.result _ (first_held h.0 c.args.firsts.now c.node.result h.1 is.entry c.args.name.now h.2 h.4 there (some_same (sym is.declared ∙ h.6)) is.named) in
    search (rules, within)

pub bounds : goal.bounds
bounds c =
    let h = c.requires in
    let is = subst (λ o. IfSome o (IsEntryOf (module_of h.1) c.args.name.now)) c.in-Some.is (c.entry_at.ensures.some h.0 h.1 h.3.started.instances_are h.5) in
    let there = c.node.ensures h.0 h.1 h.3.started.nodes_are h.5 is.entry is.stands in
    slice_get_within c.args.firsts.now c.node.result _ (first_held h.0 c.args.firsts.now c.node.result h.1 is.entry c.args.name.now h.2 h.4 there (some_same (sym is.declared ∙ h.6)) is.named)

pub unreachable-requires-in_default-firsts : goal.unreachable-requires-in_default-firsts
unreachable-requires-in_default-firsts c =
    let h = c.requires in
    let is = subst (λ o. IfSome o (IsEntryOf (module_of h.1) c.args.name.now)) c.in-Some.is (c.entry_at.ensures.some h.0 h.1 h.3.started.instances_are h.5) in
    let there = c.node.ensures h.0 h.1 h.3.started.nodes_are h.5 is.entry is.stands in
    c.in_default-firsts.not-Some _ (get_or_from_slice_get c.args.firsts.now c.node.result _ None (first_held h.0 c.args.firsts.now c.node.result h.1 is.entry c.args.name.now h.2 h.4 there (some_same (sym is.declared ∙ h.6)) is.named))

pub returns : goal.returns
returns c = λ p s type targets firsts at given.
    let is = subst (λ o. IfSome o (IsEntryOf (module_of s) c.args.name.now)) c.in-Some.is (c.entry_at.ensures.some p s targets.started.instances_are at) in
    let there = c.node.ensures p s targets.started.nodes_are at is.entry is.stands in
    some_same (sym c.in-Some-firsts.is ∙ get_or_from_slice_get c.args.firsts.now c.node.result _ None (first_held p c.args.firsts.now c.node.result s is.entry c.args.name.now type firsts there (some_same (sym is.declared ∙ given)) is.named))
