use Rattle.std.proofs.Common.{◌∷◌, [], Err, sym, subst}
use Rattle.region_sets.specs.declared.pins.SetRefusal.TheVariants.{Memory}
use Rattle.region_sets.specs.Sets.{Adds}
use Rattle.proof_form.specs.Copying.{AreCopied}
use Rattle.proof_form.proofs.Copied.{one_released}
use Rattle.proof_form.proofs.gathering.copy_set.Goals as goal

pub returns-in-Err : goal.returns-in-Err
returns-in-Err g c =
    subst (λ ps. AreCopied {T = Unit {0}} (g.S.StateSets.seen c.args.sets.now) (g.S.StateSets.seen c.release.new.self) (c.args.set.now ∷ []) c.args.copies.now.items ps (Err Memory)) (sym c.in-Err.ensures.items)
    (one_released c.args.set.now c.in_ok-copy.copy c.args.copies.now.items c.in_ok-copy.ensures.call
    (subst (λ x. Adds (g.S.StateSets.seen c.release.new.self) (g.S.StateSets.seen c.copy.new.self) (x.slot ∷ [])) c.in-Err.ensures.value_returned c.release.ensures.pins) c.release.ensures.fulls)
