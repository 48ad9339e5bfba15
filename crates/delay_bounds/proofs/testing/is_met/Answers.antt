use Rattle.std.proofs.Common.{◌-◌, length, sym, subst, arith}
use Rattle.std.proofs.lemmas.Result.{IfOk-weaker}
use Rattle.path_laws.specs.StateSet.{StateSet, ◌∈◌}
use Rattle.region_sets.specs.declared.pins.Pin.{Pin}
use Rattle.region_sets.specs.Sets.{In, IsLive, region}
use Rattle.state_reach.specs.Covers.{Keeps}
use Rattle.delay_bounds.proofs.TestCalls.{last_region, spread_apart, with_first}
use Rattle.fair_fixpoint.proofs.Lists.{slot_among}
use Rattle.delay_bounds.proofs.testing.is_met.Goals as goal

pub keeps_out-requires-clause-bad : goal.keeps_out-requires-clause-bad
keeps_out-requires-clause-bad g c =
    subst (λ (q : Pin). IsLive (g.S.StateSets.seen c.args.sets.now) q.slot) (sym c.last_of.ensures)
    (c.requires.stay _ (slot_among c.args.stay.now (length c.args.stay.now - 1) (record { slot = 0 }) (omega (arith, c.requires.some))))

pub returns-clause-answer : goal.returns-clause-answer
returns-clause-answer g c =
    let s0 = g.S.StateSets.seen c.args.sets.now in
    IfOk-weaker c.is_spread_apart.result _ _
    (λ b answer. with_first b
    (subst (λ (F : StateSet). Keeps s0.over (In s0 c.args.from.now.slot) (region s0 c.args.inside.now) (λ s. s ∈ F)) (sym (last_region s0 c.args.stay.now c.last_of.result.now c.requires.some c.last_of.ensures))
    (c.in_ok-keeps_out.ensures.answer.0 c.if-not-branch.false))
    (spread_apart s0 (g.S.StateSets.seen c.keeps_out.new.sets) c.in_ok-keeps_out.ensures.call.pins b c.args.to.now c.args.stay.now answer))
    c.is_spread_apart.ensures.answer
