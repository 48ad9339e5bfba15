use Rattle.std.proofs.Common.{sym, ◌∙◌, ap, append-nil}
use Rattle.proof_form.specs.Form.{rule_sets, entries_sets}
use Rattle.std.proofs.lemmas.Result.{err_from_is_err_and}
use Rattle.proof_form.proofs.Pieces.{entries-append, next_live, next_copied, next_refused}
use Rattle.proof_form.proofs.gathering.copy_entries.Goals as goal

pub copy_entry-requires : goal.copy_entry-requires
copy_entry-requires g c =
    next_live entries_sets entries-append c.args.entries.now c.loop-entry.entry-index c.entry-item.result c.loop-entry-test.true (rule_sets c.entry-item.result.rule) (append-nil _ ∙ ap (λ e. rule_sets e.rule) (sym c.entry-item.is)) c.requires c.loop-entry.invariant

pub returns-in_err-copy_entry : goal.returns-in_err-copy_entry
returns-in_err-copy_entry g c =
    let p = err_from_is_err_and c.from_residual.result c.from_residual.ensures.1 in
    rw (p.1, p.2) (next_refused entries_sets entries-append c.args.entries.now c.loop-entry.entry-index c.entry-item.result c.loop-entry-test.true (rule_sets c.entry-item.result.rule) (append-nil _ ∙ ap (λ e. rule_sets e.rule) (sym c.entry-item.is)) c.requires c.loop-entry.invariant
    c.in_err-copy_entry.field-0.0 c.in_err-copy_entry.ensures)

pub loop-entry-preserved : goal.loop-entry-preserved
loop-entry-preserved g c =
    next_copied entries_sets entries-append c.args.entries.now c.loop-entry.entry-index c.entry-item.result c.loop-entry-test.true (rule_sets c.entry-item.result.rule) (append-nil _ ∙ ap (λ e. rule_sets e.rule) (sym c.entry-item.is)) c.requires c.loop-entry.invariant c.in_ok-copy_entry.ensures
