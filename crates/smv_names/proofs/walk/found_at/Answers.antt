use Rattle.std.proofs.Common.{subst}
use Rattle.std.proofs.lemmas.Option.{slice_get_within}
use Rattle.smv_instances.specs.Instances.{instances}
use Rattle.smv_instances.specs.Numbered.{IsFound}
use Rattle.smv_names.proofs.WaitLemmas.{member_at}
use Rattle.smv_names.proofs.walk.found_at.Goals as goal

pub found_at-found-requires : goal.found_at-found-requires
found_at-found-requires c =
    let s = member_at (instances c.requires.0) c.args.i c.requires.2 in
    let e = c.in_ok-place.ensures.some c.requires.0 s.0 c.requires.1 s.1 in
    (c.requires.0, s.0, c.requires.1, s.1, slice_get_within _ c.in_ok-place.place e.entry e.stands)

pub returns-then-stands-clause-some : goal.returns-then-stands-clause-some
returns-then-stands-clause-some c p s are at =
    let e = c.in_ok-place.ensures.some p s are at in
    let found = subst (λ x. IsFound p s x c.found_at-found.result) e.named (c.found_at-found.ensures p s e.entry are at e.stands) in
    (e, found, c.stands.ensures.something p s c.args.name.now are at found c.if-stands.true)

pub returns-clause-none : goal.returns-clause-none
returns-clause-none c p s are at =
    let e = c.in_ok-place.ensures.some p s are at in
    let found = subst (λ x. IsFound p s x c.found_at-found.result) e.named (c.found_at-found.ensures p s e.entry are at e.stands) in
    c.stands.ensures.nothing p s c.args.name.now are at found c.if-stands.false
