use Rattle.std.proofs.Common.{length, true, false, [], get_or, sym, ◌∙◌, ap, subst, arith}
use Rattle.fair_rules.specs.SetLists.{set_at}
use Rattle.region_sets.specs.Sets.{region}
use Rattle.region_sets.specs.Ranks.{AreLive, list_regions, regions, slots}
use Rattle.region_sets.proofs.Changes.{stays_live}
use Rattle.claim_sets.specs.ConstraintClaims.{constraint_list}
use Rattle.proof_lines.proofs.LineSums.{all_within, more_within, one_within}
use Rattle.proof_lines.specs.Tested.{AreTested, reach_part}
use Rattle.claim_sets.proofs.Given.{list_count, list_kept}
use Rattle.proof_lines.proofs.ReachLines.{reaching_none, reaching_fails, reaching_more, reaching_all, list_live, list_there, part_at}
use Rattle.proof_lines.proofs.lines.reaches.Goals as goal

pub loop-k-init : goal.loop-k-init
loop-k-init g c = record {
  reaching = reaching_none _ _ _ _ _;
  products = omega arith;
}

pub reach_constraint-requires-clause-list : goal.reach_constraint-requires-clause-list
reach_constraint-requires-clause-list g c =
    subst (λ xs. AreLive (g.S.StateSets.seen c.loop-k.sets) (slots xs)) (sym (c.deref.ensures.value ∙ ap (λ v. v.items) c.index-lists-k.is))
    (λ i h. stays_live c.loop-k.invariant.reaching.call.pins i (list_live (g.S.StateSets.seen c.args.sets.now) c.args.lists.now c.loop-k.k c.index-lists-k.result c.loop-k-test.true c.requires.lists i h))

pub returns-then-not-branch-clause-tested : goal.returns-then-not-branch-clause-tested
returns-then-not-branch-clause-tested g c =
    let start = g.S.StateSets.seen c.args.sets.now in
    let now = g.S.StateSets.seen c.loop-k.sets in
    let V = constraint_list start c.args.constraints.now true in
    let W = constraint_list now c.args.constraints.now true in
    let list = (get_or c.args.lists.now c.loop-k.k c.index-lists-k.result).items in
    let tested = subst (λ b. AreTested now.over (reach_part (region now c.args.set.now) (set_at W c.loop-k.k) (regions now c.deref.result.now)) c.loop-k.line b c.reach_constraint.new.line) c.if-not-branch.true c.in_ok-reach_constraint.ensures.tested in
    let here = subst (λ xs. AreTested now.over (reach_part (region now c.args.set.now) (set_at W c.loop-k.k) (regions now xs)) c.loop-k.line false c.reach_constraint.new.line) (c.deref.ensures.value ∙ ap (λ v. v.items) c.index-lists-k.is) tested in
    let part = part_at start now c.args.set.now V W c.loop-k.k list c.loop-k.line false c.reach_constraint.new.line c.loop-k.invariant.reaching.call.pins
    (list_kept start now [] c.loop-k.invariant.reaching.call.pins c.args.constraints.now true c.requires.given) here in
    reaching_fails start now now (region start c.args.set.now) V (list_regions start c.args.lists.now) c.args.line.now c.loop-k.k c.loop-k.line (regions start list)
    (omega (arith, c.loop-k-test.true, c.requires.count, list_count start c.args.constraints.now true)) (list_there start c.args.lists.now c.loop-k.k c.index-lists-k.result c.loop-k-test.true) c.loop-k.invariant.reaching c.reach_constraint.new.line part

pub loop-k-preserved : goal.loop-k-preserved
loop-k-preserved g c =
    let start = g.S.StateSets.seen c.args.sets.now in
    let now = g.S.StateSets.seen c.loop-k.sets in
    let V = constraint_list start c.args.constraints.now true in
    let W = constraint_list now c.args.constraints.now true in
    let list = (get_or c.args.lists.now c.loop-k.k c.index-lists-k.result).items in
    let tested = subst (λ b. AreTested now.over (reach_part (region now c.args.set.now) (set_at W c.loop-k.k) (regions now c.deref.result.now)) c.loop-k.line b c.reach_constraint.new.line) c.if-not-branch.false c.in_ok-reach_constraint.ensures.tested in
    let here = subst (λ xs. AreTested now.over (reach_part (region now c.args.set.now) (set_at W c.loop-k.k) (regions now xs)) c.loop-k.line true c.reach_constraint.new.line) (c.deref.ensures.value ∙ ap (λ v. v.items) c.index-lists-k.is) tested in
    let part = part_at start now c.args.set.now V W c.loop-k.k list c.loop-k.line true c.reach_constraint.new.line c.loop-k.invariant.reaching.call.pins
    (list_kept start now [] c.loop-k.invariant.reaching.call.pins c.args.constraints.now true c.requires.given) here in record {
      reaching = reaching_more start now (g.S.StateSets.seen c.reach_constraint.new.sets) (region start c.args.set.now) V (list_regions start c.args.lists.now) c.args.line.now c.loop-k.k c.loop-k.line (regions start list)
          (omega (arith, c.loop-k-test.true, c.requires.count, list_count start c.args.constraints.now true)) (list_there start c.args.lists.now c.loop-k.k c.index-lists-k.result c.loop-k-test.true) c.loop-k.invariant.reaching c.reach_constraint.new.line
          c.reach_constraint.result c.reach_constraint.ensures.call part;
      products = more_within (λ list. length list.items) c.args.lists.now (g.S.StateSets.products c.args.sets.now) (g.S.StateSets.products c.loop-k.sets) c.loop-k.k c.index-lists-k.result (g.S.StateSets.products c.reach_constraint.new.sets) c.loop-k-test.true c.loop-k.invariant.products (omega (arith, c.reach_constraint.ensures.products, ap length (c.deref.ensures.value ∙ ap (λ v. v.items) c.index-lists-k.is)));
    }

pub returns-clause-tested : goal.returns-clause-tested
returns-clause-tested g c =
    let start = g.S.StateSets.seen c.args.sets.now in
    reaching_all start (g.S.StateSets.seen c.loop-k.sets) (region start c.args.set.now) (constraint_list start c.args.constraints.now true) (list_regions start c.args.lists.now) c.args.line.now c.loop-k.k c.loop-k.line
    (omega (arith, c.loop-k-test.false, c.requires.count, list_count start c.args.constraints.now true)) c.loop-k.invariant.reaching

pub returns-then-not-branch-clause-products : goal.returns-then-not-branch-clause-products
returns-then-not-branch-clause-products g c =
    one_within (λ list. length list.items) c.args.lists.now (g.S.StateSets.products c.args.sets.now) (g.S.StateSets.products c.loop-k.sets) c.loop-k.k c.index-lists-k.result (g.S.StateSets.products c.reach_constraint.new.sets) c.loop-k-test.true c.loop-k.invariant.products
    (omega (arith, c.reach_constraint.ensures.products, ap length (c.deref.ensures.value ∙ ap (λ v. v.items) c.index-lists-k.is)))

pub returns-in_err-reach_constraint-clause-products : goal.returns-in_err-reach_constraint-clause-products
returns-in_err-reach_constraint-clause-products g c =
    one_within (λ list. length list.items) c.args.lists.now (g.S.StateSets.products c.args.sets.now) (g.S.StateSets.products c.loop-k.sets) c.loop-k.k c.index-lists-k.result (g.S.StateSets.products c.reach_constraint.new.sets) c.loop-k-test.true c.loop-k.invariant.products
    (omega (arith, c.reach_constraint.ensures.products, ap length (c.deref.ensures.value ∙ ap (λ v. v.items) c.index-lists-k.is)))

pub returns-clause-products : goal.returns-clause-products
returns-clause-products g c = all_within (λ list. length list.items) c.args.lists.now (g.S.StateSets.products c.args.sets.now) (g.S.StateSets.products c.loop-k.sets) c.loop-k.k c.loop-k.invariant.products
