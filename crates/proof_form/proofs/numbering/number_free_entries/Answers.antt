use Rattle.std.proofs.Common.{◌≡◌, ◌+◌, map, take, sym, ◌∙◌, ap, subst, append-nil}
use Rattle.proof_form.specs.Form.{rule_sets, entries_sets, map_free_entry}
use Rattle.proof_form.specs.Filling.{AreTaken, blank, free_entries_form}
use Rattle.proof_form.proofs.Pieces.{free_entries-append}
use Rattle.proof_form.proofs.Taken.{free_entries_size, room_left, form_more, filled_more}
use Rattle.proof_form.proofs.numbering.number_free_entries.Goals as goal

pub number_entry-requires : goal.number_entry-requires
number_entry-requires c =
    let v = c.loop-free.invariant in
    room_left (λ es. entries_sets (map (λ e. e.entry) es)) free_entries-append c.args.entries.now c.loop-free.free-index c.free-item.result (rule_sets c.free.inside.entry.rule) c.args.numbers.now (entries_sets (map (λ e. e.entry) c.loop-free.filled.items)) _ _ c.loop-free-test.true
    (append-nil _ ∙ ap (λ e. rule_sets e.entry.rule) (sym c.free-item.is ∙ sym c.free.view_is)) c.requires v.1 (free_entries_size (take c.loop-free.free-index c.args.entries.now) c.loop-free.filled.items v.0)

pub loop-free-preserved : goal.loop-free-preserved
loop-free-preserved c =
    let v = c.loop-free.invariant in
    subst (λ es. (free_entries_form es ≡ free_entries_form (take (c.loop-free.free-index + 1) c.args.entries.now)) × AreTaken c.args.numbers.now c.args.next.now c.number_entry.new.next (entries_sets (map (λ e. e.entry) es))) (sym c.in_ok-push.ensures.items) (
      form_more (map_free_entry blank) (map_free_entry blank) c.loop-free.filled.items (record { constraint = c.free.inside.constraint; entry = c.in_ok-entry.entry }) c.args.entries.now c.loop-free.free-index c.free-item.result c.loop-free-test.true v.0
          (ap (λ e. record { constraint = c.free.inside.constraint; entry = e }) c.in_ok-entry.ensures.form ∙ ap (map_free_entry blank) (c.free.view_is ∙ c.free-item.is)),
      filled_more (λ es. entries_sets (map (λ e. e.entry) es)) free_entries-append c.loop-free.filled.items (record { constraint = c.free.inside.constraint; entry = c.in_ok-entry.entry }) (rule_sets c.in_ok-entry.entry.rule) v.1 (append-nil _) c.in_ok-entry.ensures.numbers,
    )
