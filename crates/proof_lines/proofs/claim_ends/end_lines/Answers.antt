use Rattle.std.proofs.Common.{◌-◌, length, true, false, refl}
use Rattle.proof_lines.proofs.EndLines.{false_end, last_claim, own_live, true_end}
use Rattle.proof_lines.proofs.claim_ends.end_lines.Goals as goal

pub start_line-requires : goal.start_line-requires
start_line-requires g c = own_live c.args.model.now (g.S.StateSets.seen c.args.sets.now) c.args.claims.now _ (length c.args.claims.now - 1) c.requires.some refl (last_claim c.args.claims.now _ c.requires.some) c.requires.live true

pub begin_lines-requires-clause-live : goal.begin_lines-requires-clause-live
begin_lines-requires-clause-live g c = own_live c.args.model.now (g.S.StateSets.seen c.args.sets.now) c.args.claims.now _ (length c.args.claims.now - 1) c.requires.some refl (last_claim c.args.claims.now _ c.requires.some) c.requires.live false

pub returns-in-None-clause-tested : goal.returns-in-None-clause-tested
returns-in-None-clause-tested g c =
    true_end c.args.model.now (g.S.StateSets.seen c.args.sets.now) c.args.claims.now _ (length c.args.claims.now - 1) c.requires.some refl (last_claim c.args.claims.now _ c.requires.some) c.args.at.now c.in-None.is
    (g.S.StateSets.seen c.args.sets.now).over c.requires.over c.args.line.now c.start_line.result c.start_line.new.line c.start_line.ensures.tested

pub returns-in-Some-clause-tested : goal.returns-in-Some-clause-tested
returns-in-Some-clause-tested g c =
    false_end c.args.model.now (g.S.StateSets.seen c.args.sets.now) c.args.claims.now _ (length c.args.claims.now - 1) c.requires.some refl (last_claim c.args.claims.now _ c.requires.some) c.args.at.now c.in-Some.s c.in-Some.is
    c.args.line.now c.begin_lines.result c.begin_lines.new.line c.begin_lines.ensures
