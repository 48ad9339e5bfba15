use Rattle.std.proofs.Common.{◌-◌, arith}
use Rattle.region_sets.specs.Sets.{region}
use Rattle.proof_form.specs.Form.{map_rule}
use Rattle.proof_form.specs.Meaning.{entry_of}
use Rattle.proof_form.specs.Seen.{seen_rule}
use Rattle.proof_lines.proofs.AskedLines.{asks_nothing, asks_one, part_live}
use Rattle.proof_lines.proofs.entry_lists.node_lines.Goals as goal

pub rule_lines-requires-clause-last : goal.rule_lines-requires-clause-last
rule_lines-requires-clause-last g c =
    part_live (g.S.StateSets.seen c.args.sets.now) c.args.claims.now (c.args.place - 1) c.args.sign c.side-last.result.now c.side-last.ensures (omega (arith, c.requires.there)) c.requires.claims

pub rule_lines-requires-in-Two-clause-first : goal.rule_lines-requires-in-Two-clause-first
rule_lines-requires-in-Two-clause-first g c =
    part_live (g.S.StateSets.seen c.args.sets.now) c.args.claims.now (c.args.place - 1) c.args.sign c.side-first.result.now c.side-first.ensures (omega (arith, c.requires.there)) c.requires.claims

pub rule_lines-requires-in-Two-clause-last : goal.rule_lines-requires-in-Two-clause-last
rule_lines-requires-in-Two-clause-last g c =
    part_live (g.S.StateSets.seen c.args.sets.now) c.args.claims.now c.in-Two.at c.args.sign c.side.result.now c.side.ensures c.if-at-claims.false c.requires.claims

pub returns-in-Nothing-clause-tested : goal.returns-in-Nothing-clause-tested
returns-in-Nothing-clause-tested g c =
    let start = g.S.StateSets.seen c.args.sets.now in
    asks_nothing start c.args.frame.now c.args.claims.now c.args.place c.args.sign (entry_of (map_rule (region start) (seen_rule c.args.rule.now))) c.requires.there c.in-Nothing.is c.args.line.now

pub returns-else-place-eq0-clause-tested : goal.returns-else-place-eq0-clause-tested
returns-else-place-eq0-clause-tested g c =
    let start = g.S.StateSets.seen c.args.sets.now in
    asks_one start c.args.frame.now c.args.claims.now c.args.place c.args.sign (entry_of (map_rule (region start) (seen_rule c.args.rule.now))) c.requires.frame c.requires.there c.in-One.op c.in-One.is
    c.absent.result.now c.side-last.result.now c.absent.ensures c.side-last.ensures c.args.line.now c.rule_lines.result c.rule_lines.new.line c.rule_lines.ensures.tested
