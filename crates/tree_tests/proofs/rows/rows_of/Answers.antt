use Rattle.std.proofs.Common.{List, ℕ, [], ◌∷◌, sym, ◌∙◌, ap, subst}
use Rattle.kripke_model.specs.Leaves.{IsModelLeaf}
use Rattle.kripke_model.specs.Reading.{term_of}
use Rattle.kripke_model.specs.System.{System}
use Rattle.region_sets.specs.Sets.{Adds}
use Rattle.region_sets.proofs.Changes.{adds_after}
use Rattle.strong_fair.specs.Pinned.{row_slots}
use Rattle.strong_fair.proofs.RowLists.{rows_append}
use Rattle.tree_tests.proofs.rows.rows_of.Goals as goal

pub set_of-requires : goal.set_of-requires
set_of-requires g c = subst (λ (m : System). IsModelLeaf m (term_of c.args.leaf.now)) (sym c.loop-which.invariant.over) c.requires

pub loop-which-preserved : goal.loop-which-preserved
loop-which-preserved g c =
    subst (λ (ks : List ℕ). Adds (g.S.StateSets.seen c.args.sets.now) (g.S.StateSets.seen c.set_of.new.sets) ks)
    (sym (ap row_slots c.in_default.ensures.items ∙ rows_append c.loop-which.rows.items _))
    (adds_after c.loop-which.invariant c.in-Ok.ensures)
