use Rattle.std.proofs.Common.{[], ◌∷◌, sym, ◌∙◌, ap}
use Rattle.std.specs.Prelude.{flat_map}
use Rattle.std.proofs.lemmas.Result.{err_from_is_err_and}
use Rattle.region_sets.proofs.Slots.{is_one_of-first}
use Rattle.proof_form.specs.Filling.{lists_of}
use Rattle.proof_form.specs.Form.{fair_sets}
use Rattle.proof_form.proofs.Copied.{first_live, second_live, first_refused, both_copied}
use Rattle.proof_form.proofs.gathering.copy_fair.Goals as goal

pub copy_set-requires : goal.copy_set-requires
copy_set-requires g c =
    first_live (g.S.StateSets.seen c.args.sets.now) (fair_sets c.args.part.now) (c.part.inside.inside ∷ []) (flat_map (λ sets. sets) (lists_of c.part.inside.reach.items)) (ap fair_sets (sym c.part.view_is)) c.requires
    c.part.inside.inside.slot (is_one_of-first c.part.inside.inside.slot [])

pub returns-in_err-copy_set : goal.returns-in_err-copy_set
returns-in_err-copy_set g c =
    let p = err_from_is_err_and c.from_residual.result c.from_residual.ensures.1 in
    rw (p.1, p.2) (first_refused (g.S.StateSets.seen c.args.sets.now) (fair_sets c.args.part.now) (c.part.inside.inside ∷ []) (flat_map (λ sets. sets) (lists_of c.part.inside.reach.items)) (ap fair_sets (sym c.part.view_is)) c.requires
    c.in_err-copy_set.field-0.0 c.in_err-copy_set.ensures)

pub copy_lists-requires : goal.copy_lists-requires
copy_lists-requires g c =
    second_live (g.S.StateSets.seen c.args.sets.now) (fair_sets c.args.part.now) (c.part.inside.inside ∷ []) (flat_map (λ sets. sets) (lists_of c.deref.result.now))
    (ap fair_sets (sym c.part.view_is) ∙ ap (λ ls. c.part.inside.inside ∷ flat_map (λ sets. sets) (lists_of ls)) (sym c.deref.ensures.value)) c.requires c.in_ok-copy_set.ensures

pub returns : goal.returns
returns g c =
    both_copied (g.S.StateSets.seen c.args.sets.now) (fair_sets c.args.part.now) (c.part.inside.inside ∷ []) (flat_map (λ sets. sets) (lists_of c.deref.result.now))
    (ap fair_sets (sym c.part.view_is) ∙ ap (λ ls. c.part.inside.inside ∷ flat_map (λ sets. sets) (lists_of ls)) (sym c.deref.ensures.value)) c.requires c.in_ok-copy_set.ensures c.copy_lists.ensures
