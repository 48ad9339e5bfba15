use Rattle.std.proofs.Common.{◌++◌, map, refl, sym, ◌∙◌, ap}
use Rattle.proof_form.specs.Form.{layer_sets, fair_sets, entries_sets, free_sets}
use Rattle.proof_form.specs.Filling.{layers_form, free_entries_form, free_form}
use Rattle.proof_form.proofs.Taken.{layers_size, fair_size, first_room, second_room, taken_then}
use Rattle.proof_form.proofs.numbering.number_free.Goals as goal

pub number_layers-requires : goal.number_layers-requires
number_layers-requires c = first_room c.args.numbers.now c.args.next.now (free_sets c.args.part.now) (layer_sets c.deref.result.now) (fair_sets c.part.inside.fair ++ entries_sets (map (λ e. e.entry) c.part.inside.entries.items)) (ap free_sets (sym c.part.view_is) ∙ ap (λ ls. layer_sets ls ++ (fair_sets c.part.inside.fair ++ entries_sets (map (λ e. e.entry) c.part.inside.entries.items))) (sym c.deref.ensures.value)) c.requires

pub number_fair-requires : goal.number_fair-requires
number_fair-requires c = first_room c.args.numbers.now c.number_layers.new.next (fair_sets c.part.inside.fair ++ entries_sets (map (λ e. e.entry) c.part.inside.entries.items)) (fair_sets c.part.inside.fair) (entries_sets (map (λ e. e.entry) c.part.inside.entries.items)) refl (second_room c.args.numbers.now c.args.next.now (free_sets c.args.part.now) (layer_sets c.deref.result.now) (fair_sets c.part.inside.fair ++ entries_sets (map (λ e. e.entry) c.part.inside.entries.items)) (ap free_sets (sym c.part.view_is) ∙ ap (λ ls. layer_sets ls ++ (fair_sets c.part.inside.fair ++ entries_sets (map (λ e. e.entry) c.part.inside.entries.items))) (sym c.deref.ensures.value)) c.requires c.in_ok-nonfair.ensures.numbers (layers_size c.deref.result.now c.in_ok-nonfair.nonfair.items c.in_ok-nonfair.ensures.form))

pub number_free_entries-requires : goal.number_free_entries-requires
number_free_entries-requires c =
    second_room c.args.numbers.now c.number_layers.new.next (fair_sets c.part.inside.fair ++ entries_sets (map (λ e. e.entry) c.part.inside.entries.items)) (fair_sets c.part.inside.fair) (entries_sets (map (λ e. e.entry) c.deref-2.result.now)) (ap (λ es. fair_sets c.part.inside.fair ++ entries_sets (map (λ e. e.entry) es)) (sym c.deref-2.ensures.value)) (second_room c.args.numbers.now c.args.next.now (free_sets c.args.part.now) (layer_sets c.deref.result.now) (fair_sets c.part.inside.fair ++ entries_sets (map (λ e. e.entry) c.part.inside.entries.items)) (ap free_sets (sym c.part.view_is) ∙ ap (λ ls. layer_sets ls ++ (fair_sets c.part.inside.fair ++ entries_sets (map (λ e. e.entry) c.part.inside.entries.items))) (sym c.deref.ensures.value)) c.requires c.in_ok-nonfair.ensures.numbers (layers_size c.deref.result.now c.in_ok-nonfair.nonfair.items c.in_ok-nonfair.ensures.form))
    c.in_ok-fair.ensures.numbers (fair_size c.part.inside.fair c.in_ok-fair.fair c.in_ok-fair.ensures.form)

pub returns-clause-form : goal.returns-clause-form
returns-clause-form c =
    let layers = c.in_ok-nonfair.ensures.form ∙ ap layers_form c.deref.ensures.value in
    let entries = c.in_ok-entries.ensures.form ∙ ap free_entries_form c.deref-2.ensures.value in
    (λ i. record { nonfair = layers i; fair = c.in_ok-fair.ensures.form i; entries = entries i }) ∙ ap free_form c.part.view_is

pub returns-clause-numbers : goal.returns-clause-numbers
returns-clause-numbers c =
    taken_then c.in_ok-nonfair.ensures.numbers (taken_then c.in_ok-fair.ensures.numbers c.in_ok-entries.ensures.numbers)
