use Rattle.std.proofs.Common.{true, arith, subst}
use Rattle.region_sets.specs.Sets.{region}
use Rattle.fair_rules.specs.SetLists.{set_at}
use Rattle.proof_form.specs.Agrees.{SameOn}
use Rattle.claim_sets.specs.ConstraintClaims.{constraint_list}
use Rattle.proof_lines.proofs.ReachLines.{visit_agrees}
use Rattle.proof_lines.proofs.lines.reach_constraint.Goals as goal

pub returns-clause-tested : goal.returns-clause-tested
returns-clause-tested g c =
    let start = g.S.StateSets.seen c.args.sets.now in
    let visits = constraint_list start c.args.constraints.now true in
    visit_agrees start (g.S.StateSets.seen c.constraint_pin.new.sets) c.args.set.now c.in_ok-visit.visit c.args.list.now (set_at visits c.args.k) c.args.line.now c.reach-yes.result c.reach-yes.new.line
    c.requires.set c.requires.list c.in_ok-visit.ensures.call.pins
    (subst (λ n. SameOn start.over (region (g.S.StateSets.seen c.constraint_pin.new.sets) c.in_ok-visit.visit) (set_at visits n)) (omega (arith, c.requires.few)) c.in_ok-visit.ensures.set) c.reach-yes.ensures.tested
