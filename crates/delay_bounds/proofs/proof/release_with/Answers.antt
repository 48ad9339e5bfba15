use Rattle.std.proofs.Common.{[], ◌∷◌, refl}
use Rattle.region_sets.specs.Ranks.{slots}
use Rattle.state_reach.proofs.Releases.{all_gone, rest_live}
use Rattle.delay_bounds.proofs.proof.release_with.Goals as goal

pub release_all-requires-clause-live : goal.release_all-requires-clause-live
release_all-requires-clause-live g c =
    rest_live (c.args.first.slot ∷ slots c.args.list.items) (c.args.first.slot ∷ []) (slots c.args.list.items) refl
    (g.S.StateSets.seen c.args.sets.now) (g.S.StateSets.seen c.release.new.self) c.requires.live c.requires.once c.release.ensures.pins

pub returns-clause-pins : goal.returns-clause-pins
returns-clause-pins g c =
    all_gone (c.args.first.slot ∷ slots c.args.list.items) (c.args.first.slot ∷ []) (slots c.args.list.items) refl
    (g.S.StateSets.seen c.args.sets.now) (g.S.StateSets.seen c.release.new.self) (g.S.StateSets.seen c.release_all.new.sets) c.release.ensures.pins c.release_all.ensures.pins
