use Rattle.std.proofs.Common.{sym, ◌∙◌, ap, append-nil}
use Rattle.proof_form.specs.Form.{rule_sets, entries_sets}
use Rattle.proof_form.proofs.Pieces.{entries-append}
use Rattle.block_proofs.proofs.Marked.{marked_more}
use Rattle.block_proofs.proofs.marking.mark_entries.Goals as goal

pub loop-entry-preserved : goal.loop-entry-preserved
loop-entry-preserved c =
    marked_more entries_sets entries-append c.args.entries.now c.loop-entry.entry-index c.entry-item.result (rule_sets c.entry-item.result.rule) c.loop-entry-test.true
    (append-nil _ ∙ ap (λ e. rule_sets e.rule) (sym c.entry-item.is)) c.loop-entry.invariant c.mark_entry.ensures
