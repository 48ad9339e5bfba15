use Rattle.std.proofs.Common.{sym, subst}
use Rattle.std.proofs.lemmas.Result.{IfOk-weaker}
use Rattle.kripke_model.specs.Path.{at}
use Rattle.kripke_model.specs.System.{System}
use Rattle.region_sets.specs.Ranks.{regions}
use Rattle.fair_fixpoint.specs.Fairness.{AreConstraints}
use Rattle.strong_fair.specs.Pinned.{over_states}
use Rattle.strong_fair.proofs.Closing.{certificate_answer}
use Rattle.strong_fair.proofs.Loops.{strong_walk}
use Rattle.strong_fair.proofs.RowCalls.{HasLeaves, still_leaves, still_made}
use Rattle.strong_fair.proofs.Sound.{no_certificate}
use Rattle.strong_fair.proofs.testing.certificate_holds.Goals as goal

pub rows_hold-requires-clause-made : goal.rows_hold-requires-clause-made
rows_hold-requires-clause-made g c =
    let s0 = g.S.StateSets.seen c.args.sets.now in
    let visits = c.args.constraints.now.visits.items in
    still_made s0 (g.S.StateSets.seen c.is_closed.new.sets) visits _ c.in_ok-is_closed.ensures.call.pins c.requires.live
    (subst (λ (m : System). AreConstraints m (regions s0 visits)) (sym c.requires.over) c.requires.made)

pub rows_hold-requires-clause-leaves : goal.rows_hold-requires-clause-leaves
rows_hold-requires-clause-leaves g c =
    still_leaves (g.S.StateSets.seen c.args.sets.now) (g.S.StateSets.seen c.is_closed.new.sets) c.args.pairs.now _ c.in_ok-is_closed.ensures.call.pins
    (subst (λ (m : System). HasLeaves m c.args.pairs.now) (sym c.requires.over) c.requires.leaves)

pub returns-clause-answer : goal.returns-clause-answer
returns-clause-answer g c =
    IfOk-weaker c.rows_hold.result _ _
    (λ b answer. certificate_answer c.args.model.now (g.S.StateSets.seen c.args.sets.now) (g.S.StateSets.seen c.is_closed.new.sets) c.requires.over c.args.pairs.now c.args.certificate.now
    c.inside_of-2.result.now c.rows_of.result.now c.in_ok-is_closed.ensures.call.pins c.inside_of-2.ensures c.rows_of.ensures b c.inside_of.result.now c.inside_of.ensures
    (c.in_ok-is_closed.ensures.answer.0 c.if-not-branch.false) answer)
    c.rows_hold.ensures.answer

pub returns-clause-sound : goal.returns-clause-sound
returns-clause-sound g c =
    let m = c.args.model.now in
    let pairs = c.args.pairs.now in
    IfOk-weaker c.rows_hold.result _ _
    (λ b answer e (p, strong). no_certificate m pairs (at p) (strong_walk m pairs p strong) (over_states (g.S.StateSets.seen c.args.sets.now) c.args.certificate.now) (answer.0 e))
    (returns-clause-answer g c)
