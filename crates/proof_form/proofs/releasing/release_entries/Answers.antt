use Rattle.std.proofs.Common.{[], ◌++◌, sym, ◌∙◌, append-nil, refl}
use Rattle.region_sets.specs.Ranks.{slots}
use Rattle.region_sets.proofs.Changes.{adds_nothing, adds_after}
use Rattle.proof_form.specs.Form.{rule_sets, entries_sets}
use Rattle.proof_form.proofs.Pieces.{entries-append}
use Rattle.proof_form.proofs.Ended.{popped_live, popped_once, popped_split}
use Rattle.proof_form.proofs.releasing.release_entries.Goals as goal

pub loop-entry-init : goal.loop-entry-init
loop-entry-init g c = ([], sym (append-nil (slots ((entries_sets) c.args.entries.items))), adds_nothing _, refl)

pub release-requires-clause-live : goal.release-requires-clause-live
release-requires-clause-live g c =
    let i = c.loop-entry.invariant in
    popped_live (entries_sets) entries-append c.args.entries.items c.loop-entry.entries.items c.pop.new.self.items c.in-Some.entry (rule_sets c.in-Some.entry.rule) i.0 c.in-Some.ensures.items (append-nil _) c.requires.live c.requires.once i.1 i.2

pub release-requires-clause-once : goal.release-requires-clause-once
release-requires-clause-once g c =
    let i = c.loop-entry.invariant in
    popped_once (entries_sets) entries-append c.args.entries.items c.loop-entry.entries.items c.pop.new.self.items c.in-Some.entry (rule_sets c.in-Some.entry.rule) i.0 c.in-Some.ensures.items (append-nil _) c.requires.live c.requires.once i.1 i.2

pub loop-entry-preserved : goal.loop-entry-preserved
loop-entry-preserved g c =
    let i = c.loop-entry.invariant in
    (slots (rule_sets c.in-Some.entry.rule) ++ i.0, popped_split (entries_sets) entries-append c.args.entries.items c.loop-entry.entries.items c.pop.new.self.items c.in-Some.entry (rule_sets c.in-Some.entry.rule) i.0 c.in-Some.ensures.items (append-nil _) c.requires.live c.requires.once i.1 i.2, adds_after c.release.ensures.pins i.2, c.release.ensures.fulls ∙ i.3)
