use Rattle.std.proofs.Common.{◌≡◌, true, false, min, length, refl, subst, arith}
use Rattle.region_sets.specs.Sets.{In}
use Rattle.delay_bounds.proofs.Members.{members_never, never_from}
use Rattle.delay_bounds.proofs.ways.avoids_for_ever.Goals as goal

pub returns-then-has : goal.returns-then-has
returns-then-has g c =
    let p = c.args.lasso.now in
    let bad = In (g.S.StateSets.seen c.args.sets.now) c.args.set.now.slot in (
      (λ (e : false ≡ true). absurd cc),
      (λ none. absurd (members_never p c.requires.path.loops bad c.args.start (min c.args.start (length p.stem)) refl none c.loop-n.n
          (omega (arith, c.loop-n.auto.n, c.first_member-n.ensures)) (omega (arith, c.loop-n-test.true, c.loop-n.auto.n-end, c.member_count-n-end.ensures))
          (subst bad c.at.ensures (c.has.ensures.0 c.if-has.true)))),
    )

pub returns : goal.returns
returns g c =
    let p = c.args.lasso.now in (
      (λ e. never_from p c.requires.path.loops (In (g.S.StateSets.seen c.args.sets.now) c.args.set.now.slot) c.args.start (min c.args.start (length p.stem)) refl
          (λ k le lt. c.loop-n.invariant k le (omega (arith, lt, c.loop-n-test.false, c.loop-n.auto.n-end, c.member_count-n-end.ensures)))),
      (λ h. refl),
    )
