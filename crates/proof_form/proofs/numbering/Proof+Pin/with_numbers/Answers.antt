use Rattle.std.proofs.Common.{◌≡◌, ◌++◌, ℕ, refl, sym, ◌∙◌, ap, subst, arith}
use Rattle.proof_form.specs.Form.{FairPart, Proof, layer_sets, fair_sets, entries_sets, free_sets_of, sets_of}
use Rattle.proof_form.specs.Filling.{layers_form, entries_form, proof_form_of}
use Rattle.proof_form.specs.Pinned.{IsFilled}
use Rattle.proof_form.proofs.Counted.{same_form_filled}
use Rattle.proof_form.proofs.Taken.{layers_size, fair_size, free_size, proof_size, all_taken, first_room, second_room, taken_then}
use Rattle.proof_form.proofs.numbering.Proof+Pin.with_numbers.Goals as goal

pub number_free_part-requires : goal.number_free_part-requires
number_free_part-requires c = first_room c.args.numbers.now 0 (sets_of c.args.self.now) (free_sets_of c.self.inside.free) (layer_sets c.self.inside.nonfair.items ++ (fair_sets c.self.inside.fair ++ entries_sets c.self.inside.entries.items)) (ap sets_of (sym c.self.view_is)) (omega (arith, c.requires))

pub number_layers-requires : goal.number_layers-requires
number_layers-requires c = first_room c.args.numbers.now c.number_free_part.new.next (layer_sets c.self.inside.nonfair.items ++ (fair_sets c.self.inside.fair ++ entries_sets c.self.inside.entries.items)) (layer_sets c.deref.result.now) (fair_sets c.self.inside.fair ++ entries_sets c.self.inside.entries.items) (ap (λ ls. layer_sets ls ++ (fair_sets c.self.inside.fair ++ entries_sets c.self.inside.entries.items)) (sym c.deref.ensures.value)) (second_room c.args.numbers.now 0 (sets_of c.args.self.now) (free_sets_of c.self.inside.free) (layer_sets c.self.inside.nonfair.items ++ (fair_sets c.self.inside.fair ++ entries_sets c.self.inside.entries.items)) (ap sets_of (sym c.self.view_is)) (omega (arith, c.requires)) c.in_ok-free.ensures.numbers (free_size c.self.inside.free c.in_ok-free.free c.in_ok-free.ensures.form))

pub number_fair-requires : goal.number_fair-requires
number_fair-requires c = first_room c.args.numbers.now c.number_layers.new.next (fair_sets c.self.inside.fair ++ entries_sets c.self.inside.entries.items) (fair_sets c.self.inside.fair) (entries_sets c.self.inside.entries.items) refl (second_room c.args.numbers.now c.number_free_part.new.next (layer_sets c.self.inside.nonfair.items ++ (fair_sets c.self.inside.fair ++ entries_sets c.self.inside.entries.items)) (layer_sets c.deref.result.now) (fair_sets c.self.inside.fair ++ entries_sets c.self.inside.entries.items) (ap (λ ls. layer_sets ls ++ (fair_sets c.self.inside.fair ++ entries_sets c.self.inside.entries.items)) (sym c.deref.ensures.value)) (second_room c.args.numbers.now 0 (sets_of c.args.self.now) (free_sets_of c.self.inside.free) (layer_sets c.self.inside.nonfair.items ++ (fair_sets c.self.inside.fair ++ entries_sets c.self.inside.entries.items)) (ap sets_of (sym c.self.view_is)) (omega (arith, c.requires)) c.in_ok-free.ensures.numbers (free_size c.self.inside.free c.in_ok-free.free c.in_ok-free.ensures.form)) c.in_ok-nonfair.ensures.numbers (layers_size c.deref.result.now c.in_ok-nonfair.nonfair.items c.in_ok-nonfair.ensures.form))

pub number_entries-requires : goal.number_entries-requires
number_entries-requires c =
    second_room c.args.numbers.now c.number_layers.new.next (fair_sets c.self.inside.fair ++ entries_sets c.self.inside.entries.items) (fair_sets c.self.inside.fair) (entries_sets c.deref-2.result.now) (ap (λ es. fair_sets c.self.inside.fair ++ entries_sets es) (sym c.deref-2.ensures.value)) (second_room c.args.numbers.now c.number_free_part.new.next (layer_sets c.self.inside.nonfair.items ++ (fair_sets c.self.inside.fair ++ entries_sets c.self.inside.entries.items)) (layer_sets c.deref.result.now) (fair_sets c.self.inside.fair ++ entries_sets c.self.inside.entries.items) (ap (λ ls. layer_sets ls ++ (fair_sets c.self.inside.fair ++ entries_sets c.self.inside.entries.items)) (sym c.deref.ensures.value)) (second_room c.args.numbers.now 0 (sets_of c.args.self.now) (free_sets_of c.self.inside.free) (layer_sets c.self.inside.nonfair.items ++ (fair_sets c.self.inside.fair ++ entries_sets c.self.inside.entries.items)) (ap sets_of (sym c.self.view_is)) (omega (arith, c.requires)) c.in_ok-free.ensures.numbers (free_size c.self.inside.free c.in_ok-free.free c.in_ok-free.ensures.form)) c.in_ok-nonfair.ensures.numbers (layers_size c.deref.result.now c.in_ok-nonfair.nonfair.items c.in_ok-nonfair.ensures.form))
    c.in_ok-fair.ensures.numbers (fair_size c.self.inside.fair c.in_ok-fair.fair c.in_ok-fair.ensures.form)

pub returns : goal.returns
returns c =
    let filled : Proof ℕ = record {
      claim = c.self.inside.claim;
      free = c.in_ok-free.free;
      nonfair = c.in_ok-nonfair.nonfair.items;
      fair = c.in_ok-fair.fair;
      entries = c.in_ok-entries.entries.items;
      at = c.in_ok-copy_state.field-0;
    } in
    let layers = c.in_ok-nonfair.ensures.form ∙ ap layers_form c.deref.ensures.value in
    let entries = c.in_ok-entries.ensures.form ∙ ap entries_form c.deref-2.ensures.value in
    let form : proof_form_of filled ≡ proof_form_of c.args.self.now =
    (λ i. record {
      claim = c.self.inside.claim;
      free = c.in_ok-free.ensures.form i;
      nonfair = layers i;
      fair = c.in_ok-fair.ensures.form i;
      entries = entries i;
      at = c.in_ok-copy_state.ensures i;
    }) ∙ ap proof_form_of c.self.view_is in
    let taken = taken_then c.in_ok-free.ensures.numbers (taken_then c.in_ok-nonfair.ensures.numbers (taken_then c.in_ok-fair.ensures.numbers c.in_ok-entries.ensures.numbers)) in
    let with_fair : FairPart ℕ → Proof ℕ = λ fair. record {
      claim = filled.claim;
      free = filled.free;
      nonfair = filled.nonfair;
      fair = fair;
      entries = filled.entries;
      at = filled.at;
    } in
    subst (λ (fair : FairPart ℕ). IsFilled c.args.self.now c.args.numbers.now (with_fair fair)) (sym c.fair.view_is)
    (same_form_filled c.args.self.now filled c.args.numbers.now form (all_taken taken (proof_size c.args.self.now filled form ∙ sym c.requires)))
