use Rattle.std.proofs.Common.{[], ◌∷◌, refl, sym, ◌∙◌, ap}
use Rattle.std.specs.Prelude.{flat_map}
use Rattle.proof_form.specs.Form.{fair_sets}
use Rattle.proof_form.specs.Filling.{fair_form, lists_of, lists_form}
use Rattle.proof_form.proofs.Taken.{second_room, taken_then}
use Rattle.proof_form.proofs.numbering.number_fair.Goals as goal

pub number_lists-requires : goal.number_lists-requires
number_lists-requires c =
    second_room c.args.numbers.now c.args.next.now (fair_sets c.args.part.now) (c.part.inside.inside ∷ []) (flat_map (λ sets. sets) (lists_of c.deref.result.now)) (ap fair_sets (sym c.part.view_is) ∙ ap (λ ls. c.part.inside.inside ∷ flat_map (λ sets. sets) (lists_of ls)) (sym c.deref.ensures.value)) c.requires c.take_number-inside.ensures refl

pub returns-clause-form : goal.returns-clause-form
returns-clause-form c =
    ap (λ ls. record { inside = tt; reach = ls }) (c.in_ok-reach.ensures.form ∙ ap (λ ls. lists_form (lists_of ls)) c.deref.ensures.value) ∙ ap fair_form c.part.view_is

pub returns-clause-numbers : goal.returns-clause-numbers
returns-clause-numbers c = taken_then c.take_number-inside.ensures c.in_ok-reach.ensures.numbers
