use Rattle.std.proofs.Common.{subst}
use Rattle.std.proofs.lemmas.Result.{IfOk-weaker}
use Rattle.kripke_model.specs.Reading.{term_of}
use Rattle.region_sets.specs.Sets.{In}
use Rattle.region_sets.proofs.Changes.{stays}
use Rattle.state_reach.specs.States.{HoldsAt}
use Rattle.delay_bounds.specs.Delays.{IsLongest, IsShortest}
use Rattle.delay_bounds.specs.Pinned.{over_states}
use Rattle.delay_bounds.proofs.HoldCalls.{claims_longest, claims_shortest, leaf_alike, shown_answer}
use Rattle.delay_bounds.proofs.Sound.{proofs_sound}
use Rattle.delay_bounds.proofs.testing.delay_holds.Goals as goal

pub returns-clause-answer : goal.returns-clause-answer
returns-clause-answer g c =
    let a = g.S.StateSets.seen c.args.sets.now in
    let b = g.S.StateSets.seen c.leaf.new.self in
    let m = c.args.model.now in
    let starts = c.in_ok-starts.starts.slot in
    let q = HoldsAt m (term_of c.args.to.now) in
    IfOk-weaker c.holds_from-yes.result _ _
    (λ truth answer.
    let shown = shown_answer m (In b starts) (HoldsAt m (term_of c.args.from.now)) q q
    (leaf_alike m a b starts (term_of c.args.from.now) c.requires.over c.in_ok-starts.ensures.set) (λ s is_state. (λ h. h, λ h. h))
    a b c.args.proof.now truth (λ k e. stays c.in_ok-starts.ensures.call.pins k (c.requires.live k e)) answer in
    (λ e. record { shortest = (shown.0 e).0; longest = (shown.0 e).1 }, λ h. shown.1 (h.shortest, h.longest)))
    c.holds_from-yes.ensures.answer

pub returns-clause-shortest : goal.returns-clause-shortest
returns-clause-shortest g c =
    let m = c.args.model.now in
    let p = term_of c.args.from.now in
    let q = term_of c.args.to.now in
    let now = g.S.StateSets.seen c.args.sets.now in
    IfOk-weaker c.holds_from-yes.result _ _
    (λ b answer e. subst (IsShortest m p q) (claims_shortest now c.args.proof.now.shortest) (proofs_sound m p q (over_states now c.args.proof.now) (answer.0 e)).0)
    (returns-clause-answer g c)

pub returns-clause-longest : goal.returns-clause-longest
returns-clause-longest g c =
    let m = c.args.model.now in
    let p = term_of c.args.from.now in
    let q = term_of c.args.to.now in
    let now = g.S.StateSets.seen c.args.sets.now in
    IfOk-weaker c.holds_from-yes.result _ _
    (λ b answer e. subst (IsLongest m p q) (claims_longest now c.args.proof.now.longest) (proofs_sound m p q (over_states now c.args.proof.now) (answer.0 e)).1)
    (returns-clause-answer g c)
