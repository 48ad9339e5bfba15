use Rattle.std.proofs.Common.{[], ◌++◌, map, sym, ◌∙◌, ap, append-nil, refl}
use Rattle.region_sets.specs.Ranks.{slots}
use Rattle.region_sets.proofs.Changes.{adds_nothing, adds_after}
use Rattle.proof_form.specs.Form.{rule_sets, entries_sets}
use Rattle.proof_form.proofs.Pieces.{free_entries-append}
use Rattle.proof_form.proofs.Ended.{popped_live, popped_once, popped_split}
use Rattle.proof_form.proofs.releasing.release_free_entries.Goals as goal

pub loop-free-init : goal.loop-free-init
loop-free-init g c = ([], sym (append-nil (slots (entries_sets (map (λ e. e.entry) c.args.entries.items)))), adds_nothing _, refl)

pub release-requires-clause-live : goal.release-requires-clause-live
release-requires-clause-live g c =
    let i = c.loop-free.invariant in
    popped_live ((λ es. entries_sets (map (λ e. e.entry) es))) free_entries-append c.args.entries.items c.loop-free.entries.items c.pop.new.self.items c.in-Some.free (rule_sets c.free.inside.entry.rule) i.0 c.in-Some.ensures.items (append-nil _ ∙ ap (λ e. rule_sets e.entry.rule) (sym c.free.view_is)) c.requires.live c.requires.once i.1 i.2

pub release-requires-clause-once : goal.release-requires-clause-once
release-requires-clause-once g c =
    let i = c.loop-free.invariant in
    popped_once ((λ es. entries_sets (map (λ e. e.entry) es))) free_entries-append c.args.entries.items c.loop-free.entries.items c.pop.new.self.items c.in-Some.free (rule_sets c.free.inside.entry.rule) i.0 c.in-Some.ensures.items (append-nil _ ∙ ap (λ e. rule_sets e.entry.rule) (sym c.free.view_is)) c.requires.live c.requires.once i.1 i.2

pub loop-free-preserved : goal.loop-free-preserved
loop-free-preserved g c =
    let i = c.loop-free.invariant in
    (slots (rule_sets c.free.inside.entry.rule) ++ i.0, popped_split ((λ es. entries_sets (map (λ e. e.entry) es))) free_entries-append c.args.entries.items c.loop-free.entries.items c.pop.new.self.items c.in-Some.free (rule_sets c.free.inside.entry.rule) i.0 c.in-Some.ensures.items (append-nil _ ∙ ap (λ e. rule_sets e.entry.rule) (sym c.free.view_is)) c.requires.live c.requires.once i.1 i.2, adds_after c.release.ensures.pins i.2, c.release.ensures.fulls ∙ i.3)
