use Rattle.std.proofs.Common.{refl, sym, subst, [], ◌∷◌, ◌++◌}
use Rattle.smv_instantiate.specs.declared.items.Item.{Item as Held}
use Rattle.smv_instantiate.specs.Items.{plain_assigned, plain_item}
use Rattle.smv_instantiate.specs.Parts.{AreParts}
use Rattle.smv_instantiate.specs.Passes.{IsExpandable}
use Rattle.smv_instantiate.proofs.PartLemmas.{assignment_added}
use Rattle.smv_instantiate.proofs.parts.push_item.Goals as goal

pub returns-in_ok-push-in-Assigns : goal.returns-in_ok-push-in-Assigns
returns-in_ok-push-in-Assigns c = λ p s before tables at h are.
    let old = c.args.parts.now in
    subst (λ (i : Held). AreParts p (before ++ ((s, plain_item i) ∷ [])) (record { assigns = c.push.new.self; inits = old.inits; invars = old.invars; trans = old.trans; constraints = old.constraints; specs = old.specs })) (sym c.in-Assigns.is)
    (assignment_added p before s old _ are (plain_assigned c.in-Assigns.assignment.now) c.in_ok-flat-in-Assigns.flat
    (c.in_ok-flat-in-Assigns.ensures p s tables at (subst (λ (i : Held). IsExpandable p (s, plain_item i)) c.in-Assigns.is h)) c.in_ok-push-in-Assigns.ensures.items refl refl refl refl refl)
