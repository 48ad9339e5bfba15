use Rattle.std.proofs.Common.{refl, subst, inr}
use Rattle.kripke_model.proofs.FirstLemmas.{silent_refuse}
use Rattle.smv_names.specs.Written.{plain_path}
use Rattle.smv_instantiate.specs.Expansion.{IsSelected}
use Rattle.smv_instantiate.proofs.checks.check_left.Goals as goal

pub selected-requires : goal.selected-requires
selected-requires c = let r = c.requires in (r.0, r.1, r.2.expands, r.3)

pub returns-in-Some : goal.returns-in-Some
returns-in-Some c = λ p s tables at.
    let one = subst (λ o. IsSelected p s (plain_path c.args.left.now.path) o) c.in-Some.is (c.in_ok-selected.ensures p s tables.expands at) in
    ((_, one), silent_refuse (λ never. never _ one))

pub returns-in-None : goal.returns-in-None
returns-in-None c = λ p s tables at.
    inr (refl, subst (λ o. IsSelected p s (plain_path c.args.left.now.path) o) c.in-None.is (c.in_ok-selected.ensures p s tables.expands at))
