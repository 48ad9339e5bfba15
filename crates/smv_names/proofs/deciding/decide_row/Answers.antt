use Rattle.std.proofs.Common.{◌≡◌, ◌<◌, sym, ◌∙◌, ap, arith, ℕ, Some}
use Rattle.smv_names.specs.declared.states.State.TheVariants as state
use Rattle.smv_names.specs.Passed.{state_at}
use Rattle.smv_names.proofs.deciding.decide_row.Goals as goal

pub is_unseen-requires : goal.is_unseen-requires
is_unseen-requires c =
    let had = c.count-place-end.ensures.inside c.loop-place.place c.loop-place-test.true in
    c.loop-place.invariant.2.inside (record { instance = c.args.i; place = c.loop-place.place }) had.0 had.1

pub returns-clause-seen : goal.returns-clause-seen
returns-clause-seen c at here is =
    let moved : state_at c.args.targets.now.states (record { instance = c.args.i; place = at.place }) ≡ Some state.Unseen =
    ap (λ (n : ℕ). state_at c.args.targets.now.states (record { instance = n; place = at.place })) (sym here) ∙ c.loop-place.invariant.2.seen at is in
    let below : at.place < c.count-place-end.result = c.count-place-end.ensures.outside at.place state.Unseen moved in
    c.loop-place.invariant.4 at here (omega (arith, below, c.loop-place-test.false)) is
