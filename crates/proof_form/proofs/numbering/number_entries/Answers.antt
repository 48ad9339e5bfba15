use Rattle.std.proofs.Common.{◌≡◌, ◌+◌, take, sym, ◌∙◌, ap, subst, append-nil}
use Rattle.proof_form.specs.Form.{rule_sets, entries_sets, map_entry}
use Rattle.proof_form.specs.Filling.{AreTaken, blank, entry_form, entries_form}
use Rattle.proof_form.proofs.Pieces.{entries-append}
use Rattle.proof_form.proofs.Taken.{entries_size, room_left, form_more, filled_more}
use Rattle.proof_form.proofs.numbering.number_entries.Goals as goal

pub number_entry-requires : goal.number_entry-requires
number_entry-requires c =
    let v = c.loop-entry.invariant in
    room_left entries_sets entries-append c.args.entries.now c.loop-entry.entry-index c.entry-item.result (rule_sets c.entry-item.result.rule) c.args.numbers.now (entries_sets c.loop-entry.filled.items) _ _ c.loop-entry-test.true
    (append-nil _ ∙ ap (λ e. rule_sets e.rule) (sym c.entry-item.is)) c.requires v.1 (entries_size (take c.loop-entry.entry-index c.args.entries.now) c.loop-entry.filled.items v.0)

pub loop-entry-preserved : goal.loop-entry-preserved
loop-entry-preserved c =
    let v = c.loop-entry.invariant in
    subst (λ es. (entries_form es ≡ entries_form (take (c.loop-entry.entry-index + 1) c.args.entries.now)) × AreTaken c.args.numbers.now c.args.next.now c.number_entry.new.next (entries_sets es)) (sym c.in_ok-push.ensures.items) (
      form_more (map_entry blank) (map_entry blank) c.loop-entry.filled.items c.in_ok-number_entry.field-0 c.args.entries.now c.loop-entry.entry-index c.entry-item.result c.loop-entry-test.true v.0 (c.in_ok-number_entry.ensures.form ∙ ap entry_form c.entry-item.is),
      filled_more entries_sets entries-append c.loop-entry.filled.items c.in_ok-number_entry.field-0 (rule_sets c.in_ok-number_entry.field-0.rule) v.1 (append-nil _) c.in_ok-number_entry.ensures.numbers,
    )
