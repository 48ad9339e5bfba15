use Rattle.std.proofs.Common.{◌≡◌, true, ◌++◌, sym, ◌∙◌, ap, subst}
use Rattle.region_sets.specs.Sets.{AreDistinct, is_one_of}
use Rattle.region_sets.specs.Ranks.{slots}
use Rattle.region_sets.proofs.Released.{slots-append}
use Rattle.region_sets.proofs.Slots.{AreDistinct-left, is_one_of-left}
use Rattle.delay_bounds.specs.Form.{longest_sets, shortest_sets}
use Rattle.delay_bounds.specs.Pinned.{proof_slots}
use Rattle.delay_bounds.specs.Seen.{seen_longest, seen_shortest}
use Rattle.state_reach.proofs.Releases.{all_gone, rest_live, rest_once}
use Rattle.delay_bounds.proofs.proof.DelayProof.release.Goals as goal

pub release-requires-clause-live : goal.release-requires-clause-live
release-requires-clause-live g c =
    let first = shortest_sets (seen_shortest c.self.inside.shortest) in
    let rest = longest_sets (seen_longest c.self.inside.longest) in
    let is : proof_slots c.args.self ≡ slots first ++ slots rest = ap proof_slots (sym c.self.view_is) ∙ slots-append first rest in
    λ k e. c.requires.live k (subst (λ ks. is_one_of k ks ≡ true) (sym is) (is_one_of-left k (slots first) (slots rest) e))

pub release-requires-clause-once : goal.release-requires-clause-once
release-requires-clause-once g c =
    let first = shortest_sets (seen_shortest c.self.inside.shortest) in
    let rest = longest_sets (seen_longest c.self.inside.longest) in
    let is : proof_slots c.args.self ≡ slots first ++ slots rest = ap proof_slots (sym c.self.view_is) ∙ slots-append first rest in
    AreDistinct-left (slots first) (slots rest) (subst AreDistinct is c.requires.once)

pub release-requires-2-clause-live : goal.release-requires-2-clause-live
release-requires-2-clause-live g c =
    let first = shortest_sets (seen_shortest c.self.inside.shortest) in
    let rest = longest_sets (seen_longest c.self.inside.longest) in
    let is : proof_slots c.args.self ≡ slots first ++ slots rest = ap proof_slots (sym c.self.view_is) ∙ slots-append first rest in
    rest_live (proof_slots c.args.self) (slots first) (slots rest) is (g.S.StateSets.seen c.args.sets.now) (g.S.StateSets.seen c.release.new.sets) c.requires.live c.requires.once c.release.ensures.pins

pub release-requires-2-clause-once : goal.release-requires-2-clause-once
release-requires-2-clause-once g c =
    let first = shortest_sets (seen_shortest c.self.inside.shortest) in
    let rest = longest_sets (seen_longest c.self.inside.longest) in
    let is : proof_slots c.args.self ≡ slots first ++ slots rest = ap proof_slots (sym c.self.view_is) ∙ slots-append first rest in
    rest_once (proof_slots c.args.self) (slots first) (slots rest) is c.requires.once

pub returns-clause-pins : goal.returns-clause-pins
returns-clause-pins g c =
    let first = shortest_sets (seen_shortest c.self.inside.shortest) in
    let rest = longest_sets (seen_longest c.self.inside.longest) in
    let is : proof_slots c.args.self ≡ slots first ++ slots rest = ap proof_slots (sym c.self.view_is) ∙ slots-append first rest in
    all_gone (proof_slots c.args.self) (slots first) (slots rest) is
    (g.S.StateSets.seen c.args.sets.now) (g.S.StateSets.seen c.release.new.sets) (g.S.StateSets.seen c.release-2.new.sets) c.release.ensures.pins c.release-2.ensures.pins
