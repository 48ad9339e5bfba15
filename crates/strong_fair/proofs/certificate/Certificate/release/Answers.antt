use Rattle.std.proofs.Common.{◌≡◌, [], ◌∷◌, ◌++◌, sym, ap}
use Rattle.strong_fair.specs.Pinned.{certificate_slots, row_slots}
use Rattle.state_reach.proofs.Releases.{all_gone, rest_live, rest_once}
use Rattle.strong_fair.proofs.certificate.Certificate.release.Goals as goal

pub release_rows-requires-clause-live : goal.release_rows-requires-clause-live
release_rows-requires-clause-live g c =
    let first = c.self.inside.inside.slot ∷ [] in
    let rest = row_slots c.self.inside.rows.items in
    let is : certificate_slots c.args.self ≡ first ++ rest = ap certificate_slots (sym c.self.view_is) in
    rest_live (certificate_slots c.args.self) first rest is (g.S.StateSets.seen c.args.sets.now) (g.S.StateSets.seen c.release.new.self) c.requires.live c.requires.once c.release.ensures.pins

pub release_rows-requires-clause-once : goal.release_rows-requires-clause-once
release_rows-requires-clause-once g c =
    let first = c.self.inside.inside.slot ∷ [] in
    let rest = row_slots c.self.inside.rows.items in
    let is : certificate_slots c.args.self ≡ first ++ rest = ap certificate_slots (sym c.self.view_is) in
    rest_once (certificate_slots c.args.self) first rest is c.requires.once

pub returns-clause-pins : goal.returns-clause-pins
returns-clause-pins g c =
    let first = c.self.inside.inside.slot ∷ [] in
    let rest = row_slots c.self.inside.rows.items in
    let is : certificate_slots c.args.self ≡ first ++ rest = ap certificate_slots (sym c.self.view_is) in
    all_gone (certificate_slots c.args.self) first rest is
    (g.S.StateSets.seen c.args.sets.now) (g.S.StateSets.seen c.release.new.self) (g.S.StateSets.seen c.release_rows.new.sets) c.release.ensures.pins c.release_rows.ensures.pins
