use Rattle.std.proofs.Common.{arith, refl, sym, ◌∙◌, ap}
use Rattle.std.proofs.lemmas.Bool.{false≢true}
use Rattle.region_sets.proofs.Changes.{stays_live}
use Rattle.proof_form.specs.Filling.{lists_of}
use Rattle.proof_lines.proofs.EntryLines.{fair_fails, fair_result, reach_live}
use Rattle.proof_lines.proofs.LineSums.{fair_counted}
use Rattle.proof_lines.proofs.entries.fair_entry.Goals as goal

pub returns-then-not-branch-clause-tested : goal.returns-then-not-branch-clause-tested
returns-then-not-branch-clause-tested g c =
    fair_fails (g.S.StateSets.seen c.args.sets.now) c.args.frame.now.constraints c.args.last.now _ c.args.fair.now c.fair.view_is c.fair.inside.reach.items refl c.args.line.now c.count.new.line c.count.ensures
    (λ h. false≢true (sym c.if-not-branch.true ∙ c.in_ok-lies_inside.ensures.answer.1 h))

pub reaches-requires-clause-lists : goal.reaches-requires-clause-lists
reaches-requires-clause-lists g c = λ k h.
    stays_live c.lies_inside.ensures.call.pins k
    (reach_live (g.S.StateSets.seen c.args.sets.now) _ c.args.fair.now c.deref.result.now c.fair.view_is (ap lists_of c.deref.ensures.value) c.requires.fair k h)

pub returns-clause-tested : goal.returns-clause-tested
returns-clause-tested g c =
    fair_result (g.S.StateSets.seen c.args.sets.now) c.args.frame.now.constraints c.args.last.now _ c.args.fair.now c.fair.view_is c.deref.result.now
    (ap lists_of c.deref.ensures.value) c.args.line.now c.count.new.line c.count.ensures (g.S.StateSets.seen c.lies_inside.new.sets) c.count-2.new.line
    c.reaches.result c.reaches.new.line c.lies_inside.ensures.call.pins c.requires.frame.given (c.in_ok-lies_inside.ensures.answer.0 c.if-not-branch.false) c.count-2.ensures c.reaches.ensures.tested

pub returns-clause-products : goal.returns-clause-products
returns-clause-products g c = omega (arith, c.lies_inside.ensures.products, c.reaches.ensures.products, fair_counted c.fair.inside.inside c.fair.inside.reach.items c.deref.result.now c.args.fair.now c.deref.ensures.value c.fair.view_is)
