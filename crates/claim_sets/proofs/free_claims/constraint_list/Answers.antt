use Rattle.std.proofs.Common.{map, refl, sym, ◌∙◌, ap}
use Rattle.kripke_model.specs.WellFormed.{ctl_of}
use Rattle.region_sets.specs.Ranks.{slots}
use Rattle.region_sets.specs.Sets.{region}
use Rattle.proof_form.specs.Form.{entries_sets, map_free_entry}
use Rattle.proof_form.specs.Meaning.{entries_for}
use Rattle.claim_sets.proofs.FreeClaimLists.{free_ground_is, listed_claims}
use Rattle.claim_sets.proofs.free_claims.constraint_list.Goals as goal

pub path_claims-requires-clause-ground : goal.path_claims-requires-clause-ground
path_claims-requires-clause-ground g c =
    free_ground_is (g.S.StateSets.seen c.args.sets.now) c.args.full.now c.args.nonfair.now c.args.part.now c.requires.ground _ refl refl
    (ap (λ es. slots (entries_sets (map (λ e. e.entry) es))) (sym (c.deref.ensures.value ∙ ap (λ p. p.entries) c.part.view_is)))

pub returns-clause-claims : goal.returns-clause-claims
returns-clause-claims g c =
    let start = g.S.StateSets.seen c.args.sets.now in
    listed_claims start c.args.full.now c.args.nonfair.now c.args.part.now c.requires.ground start.over (ctl_of c.args.formula.now) (g.S.StateSets.seen c.path_claims.new.sets) c.args.k c.path_claims.result _ refl
    (ap (λ es. entries_for c.args.k (map (map_free_entry (region start)) es)) (sym (c.deref.ensures.value ∙ ap (λ p. p.entries) c.part.view_is))) c.path_claims.ensures.claims
