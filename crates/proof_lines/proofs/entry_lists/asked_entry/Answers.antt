use Rattle.std.proofs.Common.{sym, ap, subst, arith}
use Rattle.region_sets.specs.declared.pins.Pin.{Pin}
use Rattle.region_sets.specs.Ranks.{AreLive, slots}
use Rattle.proof_form.specs.Form.{Entry, rule_sets}
use Rattle.proof_form.specs.Shape.{FitsConstraints}
use Rattle.claim_sets.specs.ConstraintClaims.{constraints_count}
use Rattle.proof_lines.proofs.AskedLines.{asked_entry_is}
use Rattle.proof_lines.specs.LineCounts.{rule_line_count}
use Rattle.proof_lines.proofs.entry_lists.asked_entry.Goals as goal

pub overflow_sub-place : goal.overflow_sub-place
overflow_sub-place g c = omega (arith, ap (λ (e : Entry Pin). e.node) c.entry.view_is, c.requires.numbered.1)

pub node_lines-requires-clause-there : goal.node_lines-requires-clause-there
node_lines-requires-clause-there g c = omega (arith, ap (λ (e : Entry Pin). e.node) c.entry.view_is, c.requires.numbered.0, c.requires.numbered.1)

pub node_lines-requires-clause-rule : goal.node_lines-requires-clause-rule
node_lines-requires-clause-rule g c = subst (λ (e : Entry Pin). AreLive (g.S.StateSets.seen c.args.sets.now) (slots (rule_sets e.rule))) (sym c.entry.view_is) c.requires.entry

pub node_lines-requires-clause-fits : goal.node_lines-requires-clause-fits
node_lines-requires-clause-fits g c = subst (λ (e : Entry Pin). FitsConstraints (constraints_count c.args.frame.now.constraints) e.rule) (sym c.entry.view_is) c.requires.fits

pub returns-clause-tested : goal.returns-clause-tested
returns-clause-tested g c =
    asked_entry_is (g.S.StateSets.seen c.args.sets.now) c.args.frame.now c.args.claims.now _ c.args.entry.now c.entry.view_is c.args.line.now c.node_lines.result c.node_lines.new.line
    c.requires.numbered.0 c.requires.numbered.1 c.node_lines.ensures.tested

pub returns-clause-products : goal.returns-clause-products
returns-clause-products g c = omega (arith, c.node_lines.ensures.products, ap (λ (e : Entry Pin). rule_line_count e.rule) c.entry.view_is)
