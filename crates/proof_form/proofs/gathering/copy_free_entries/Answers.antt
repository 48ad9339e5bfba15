use Rattle.std.proofs.Common.{map, sym, ◌∙◌, ap, append-nil}
use Rattle.proof_form.specs.Form.{rule_sets, entries_sets}
use Rattle.std.proofs.lemmas.Result.{err_from_is_err_and}
use Rattle.proof_form.proofs.Pieces.{free_entries-append, next_live, next_copied, next_refused}
use Rattle.proof_form.proofs.gathering.copy_free_entries.Goals as goal

pub copy_entry-requires : goal.copy_entry-requires
copy_entry-requires g c =
    next_live (λ es. entries_sets (map (λ e. e.entry) es)) free_entries-append c.args.entries.now c.loop-free.free-index c.free-item.result c.loop-free-test.true (rule_sets c.free.inside.entry.rule) (append-nil _ ∙ ap (λ e. rule_sets e.entry.rule) (sym c.free-item.is ∙ sym c.free.view_is)) c.requires c.loop-free.invariant

pub returns-in_err-copy_entry : goal.returns-in_err-copy_entry
returns-in_err-copy_entry g c =
    let p = err_from_is_err_and c.from_residual.result c.from_residual.ensures.1 in
    rw (p.1, p.2) (next_refused (λ es. entries_sets (map (λ e. e.entry) es)) free_entries-append c.args.entries.now c.loop-free.free-index c.free-item.result c.loop-free-test.true (rule_sets c.free.inside.entry.rule) (append-nil _ ∙ ap (λ e. rule_sets e.entry.rule) (sym c.free-item.is ∙ sym c.free.view_is)) c.requires c.loop-free.invariant
    c.in_err-copy_entry.field-0.0 c.in_err-copy_entry.ensures)

pub loop-free-preserved : goal.loop-free-preserved
loop-free-preserved g c =
    next_copied (λ es. entries_sets (map (λ e. e.entry) es)) free_entries-append c.args.entries.now c.loop-free.free-index c.free-item.result c.loop-free-test.true (rule_sets c.free.inside.entry.rule) (append-nil _ ∙ ap (λ e. rule_sets e.entry.rule) (sym c.free-item.is ∙ sym c.free.view_is)) c.requires c.loop-free.invariant c.in_ok-copy_entry.ensures
