use Rattle.std.proofs.Common.{map, sym, ◌∙◌, ap, append-nil}
use Rattle.proof_form.specs.Form.{rule_sets, entries_sets}
use Rattle.proof_form.proofs.Pieces.{free_entries-append}
use Rattle.block_proofs.proofs.Marked.{marked_more}
use Rattle.block_proofs.proofs.marking.mark_free_entries.Goals as goal

pub loop-free-preserved : goal.loop-free-preserved
loop-free-preserved c =
    marked_more (λ es. entries_sets (map (λ e. e.entry) es)) free_entries-append c.args.entries.now c.loop-free.free-index c.free-item.result (rule_sets c.free.inside.entry.rule) c.loop-free-test.true
    (append-nil _ ∙ ap (λ e. rule_sets e.entry.rule) (sym c.free-item.is ∙ sym c.free.view_is)) c.loop-free.invariant c.mark_entry.ensures
