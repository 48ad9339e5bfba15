use Rattle.std.proofs.Common.{subst}
use Rattle.std.proofs.lemmas.Option.{slice_get_within}
use Rattle.smv_instances.specs.Numbered.{IsFound}
use Rattle.smv_instances.proofs.RowLemmas.{some_at}
use Rattle.smv_instances.proofs.instances.Instances.find.Goals as goal
use Rattle.smv_instances.specs.Instances.{instances}

pub found_at-requires : goal.found_at-requires
found_at-requires c =
    let s = some_at (instances c.requires.0) c.args.i c.requires.2 in
    let entry = c.in_ok-place.ensures.some c.requires.0 s.0 c.requires.1 s.1 in
    (c.requires.0, s.0, c.requires.1, s.1, slice_get_within _ c.in_ok-place.place entry.entry entry.stands)

pub returns-clause-some : goal.returns-clause-some
returns-clause-some c = λ p s are at.
    let entry = c.in_ok-place.ensures.some p s are at in
    subst (λ x. IsFound p s x c.found_at.result) entry.named (c.found_at.ensures p s entry.entry are at entry.stands)
