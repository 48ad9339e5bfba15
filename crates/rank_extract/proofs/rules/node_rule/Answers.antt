use Rattle.std.proofs.Common.{Bool, true, false, sym, subst}
use Rattle.region_sets.specs.declared.pins.Pin.{Pin}
use Rattle.region_sets.specs.Sets.{region}
use Rattle.fair_fixpoint.specs.Found.{ranks_view}
use Rattle.rank_extract.specs.Given.{given}
use Rattle.rank_extract.specs.Made.{IsMade, rule_own, rule_seen, rule_size}
use Rattle.rank_extract.specs.Signs.{sign_pin}
use Rattle.rank_extract.proofs.rules.node_rule.Goals as goal

pub returns-then-some : goal.returns-then-some
returns-then-some g c =
    let s0 = g.S.StateSets.seen c.args.sets.now in
    let s1 = g.S.StateSets.seen c.some_rule.new.sets in
    let ranks = ranks_view s0 c.args.node.now.ranks in
    subst (λ (b : Bool). IsMade rule_own rule_seen rule_size s0 s1 (given (region s0 c.args.fair.now) b (region s0 (sign_pin c.args.plus c.args.node.now)) ranks) c.some_rule.result) (sym c.if-some.true)
    (subst (λ (p : Pin). IsMade rule_own rule_seen rule_size s0 s1 (given (region s0 c.args.fair.now) true (region s0 p) ranks) c.some_rule.result) c.sign_pin-set.ensures c.some_rule.ensures)

pub returns-else-some : goal.returns-else-some
returns-else-some g c =
    let s0 = g.S.StateSets.seen c.args.sets.now in
    let s1 = g.S.StateSets.seen c.every_rule.new.sets in
    let ranks = ranks_view s0 c.args.node.now.ranks in
    subst (λ (b : Bool). IsMade rule_own rule_seen rule_size s0 s1 (given (region s0 c.args.fair.now) b (region s0 (sign_pin c.args.plus c.args.node.now)) ranks) c.every_rule.result) (sym c.if-some.false)
    (subst (λ (p : Pin). IsMade rule_own rule_seen rule_size s0 s1 (given (region s0 c.args.fair.now) false (region s0 p) ranks) c.every_rule.result) c.sign_pin-set.ensures c.every_rule.ensures)
