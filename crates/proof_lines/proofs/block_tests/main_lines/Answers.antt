use Rattle.std.proofs.Common.{arith, true, false, subst, ◌∙◌, ap}
use Rattle.region_sets.proofs.Changes.{stays_live}
use Rattle.proof_lines.proofs.BlockParts.{EntriesTested, SharedTested, ends_tested, entries_alive, entries_fail, entries_fit, entries_number, fair_alive, layers_avoid, layers_live, reach_count, shared_fails, some_claims, state_there}
use Rattle.proof_lines.proofs.Framed.{frame_then}
use Rattle.proof_lines.proofs.LineSums.{own_counted}
use Rattle.proof_lines.proofs.block_tests.main_lines.Goals as goal

pub shared_lines-requires-clause-avoids : goal.shared_lines-requires-clause-avoids
shared_lines-requires-clause-avoids g c =
    layers_avoid c.args.case.now c.args.frame.now (g.S.StateSets.seen c.args.sets.now) c.args.claims.now c.requires.case c.requires.frame c.requires.own c.requires.claims
    c.deref.result.now c.proof.inside.fair c.proof.inside.entries.items c.proof.inside.at
    (c.deref.ensures.value ∙ ap (λ p. p.nonfair) c.proof.view_is) (ap (λ p. p.fair) c.proof.view_is) (ap (λ p. p.entries) c.proof.view_is) (ap (λ p. p.at) c.proof.view_is) c.requires.count

pub shared_lines-requires-clause-layers : goal.shared_lines-requires-clause-layers
shared_lines-requires-clause-layers g c =
    layers_live c.args.case.now c.args.frame.now (g.S.StateSets.seen c.args.sets.now) c.args.claims.now c.requires.case c.requires.frame c.requires.own c.requires.claims
    c.deref.result.now c.proof.inside.fair c.proof.inside.entries.items c.proof.inside.at
    (c.deref.ensures.value ∙ ap (λ p. p.nonfair) c.proof.view_is) (ap (λ p. p.fair) c.proof.view_is) (ap (λ p. p.entries) c.proof.view_is) (ap (λ p. p.at) c.proof.view_is)

pub shared_lines-requires-clause-count : goal.shared_lines-requires-clause-count
shared_lines-requires-clause-count g c =
    reach_count c.args.case.now c.args.frame.now (g.S.StateSets.seen c.args.sets.now) c.args.claims.now c.requires.case c.requires.frame c.requires.own c.requires.claims
    c.deref.result.now c.proof.inside.fair c.proof.inside.entries.items c.proof.inside.at
    (c.deref.ensures.value ∙ ap (λ p. p.nonfair) c.proof.view_is) (ap (λ p. p.fair) c.proof.view_is) (ap (λ p. p.entries) c.proof.view_is) (ap (λ p. p.at) c.proof.view_is) c.requires.count

pub shared_lines-requires-clause-live : goal.shared_lines-requires-clause-live
shared_lines-requires-clause-live g c =
    fair_alive c.args.case.now c.args.frame.now (g.S.StateSets.seen c.args.sets.now) c.args.claims.now c.requires.case c.requires.frame c.requires.own c.requires.claims
    c.deref.result.now c.proof.inside.fair c.proof.inside.entries.items c.proof.inside.at
    (c.deref.ensures.value ∙ ap (λ p. p.nonfair) c.proof.view_is) (ap (λ p. p.fair) c.proof.view_is) (ap (λ p. p.entries) c.proof.view_is) (ap (λ p. p.at) c.proof.view_is)

pub returns-then-not-branch-clause-tested : goal.returns-then-not-branch-clause-tested
returns-then-not-branch-clause-tested g c =
    shared_fails c.args.case.now c.args.frame.now (g.S.StateSets.seen c.args.sets.now) c.args.claims.now c.requires.case c.requires.frame c.requires.own c.requires.claims
    c.deref.result.now c.proof.inside.fair c.proof.inside.entries.items c.proof.inside.at
    (c.deref.ensures.value ∙ ap (λ p. p.nonfair) c.proof.view_is) (ap (λ p. p.fair) c.proof.view_is) (ap (λ p. p.entries) c.proof.view_is) (ap (λ p. p.at) c.proof.view_is) c.args.line.now c.shared_lines.new.line
    (subst (λ b. SharedTested c.args.case.now c.args.frame.now (g.S.StateSets.seen c.args.sets.now) c.args.claims.now c.requires.case c.requires.frame c.requires.own c.requires.claims
    c.deref.result.now c.proof.inside.fair c.args.line.now b c.shared_lines.new.line) c.if-not-branch.true c.in_ok-shared_lines.ensures.tested)

pub own_lines-requires-clause-frame : goal.own_lines-requires-clause-frame
own_lines-requires-clause-frame g c = frame_then (g.S.StateSets.seen c.args.sets.now) (g.S.StateSets.seen c.shared_lines.new.sets) c.args.frame.now c.shared_lines.ensures.call.pins c.requires.frame

pub own_lines-requires-clause-claims : goal.own_lines-requires-clause-claims
own_lines-requires-clause-claims g c = λ k h. stays_live c.shared_lines.ensures.call.pins k (c.requires.live k h)

pub own_lines-requires-clause-entries : goal.own_lines-requires-clause-entries
own_lines-requires-clause-entries g c =
    entries_alive c.args.case.now c.args.frame.now (g.S.StateSets.seen c.args.sets.now) c.args.claims.now c.requires.case c.requires.frame c.requires.own c.requires.claims
    c.deref.result.now c.proof.inside.fair c.deref-2.result.now c.proof.inside.at
    (c.deref.ensures.value ∙ ap (λ p. p.nonfair) c.proof.view_is) (ap (λ p. p.fair) c.proof.view_is) (c.deref-2.ensures.value ∙ ap (λ p. p.entries) c.proof.view_is) (ap (λ p. p.at) c.proof.view_is) (g.S.StateSets.seen c.shared_lines.new.sets) c.shared_lines.ensures.call.pins

pub own_lines-requires-clause-numbered : goal.own_lines-requires-clause-numbered
own_lines-requires-clause-numbered g c =
    entries_number c.args.case.now c.args.frame.now (g.S.StateSets.seen c.args.sets.now) c.args.claims.now c.requires.case c.requires.frame c.requires.own c.requires.claims
    c.deref.result.now c.proof.inside.fair c.deref-2.result.now c.proof.inside.at
    (c.deref.ensures.value ∙ ap (λ p. p.nonfair) c.proof.view_is) (ap (λ p. p.fair) c.proof.view_is) (c.deref-2.ensures.value ∙ ap (λ p. p.entries) c.proof.view_is) (ap (λ p. p.at) c.proof.view_is)

pub own_lines-requires-clause-fits : goal.own_lines-requires-clause-fits
own_lines-requires-clause-fits g c =
    entries_fit c.args.case.now c.args.frame.now (g.S.StateSets.seen c.args.sets.now) c.args.claims.now c.requires.case c.requires.frame c.requires.own c.requires.claims
    c.deref.result.now c.proof.inside.fair c.deref-2.result.now c.proof.inside.at
    (c.deref.ensures.value ∙ ap (λ p. p.nonfair) c.proof.view_is) (ap (λ p. p.fair) c.proof.view_is) (c.deref-2.ensures.value ∙ ap (λ p. p.entries) c.proof.view_is) (ap (λ p. p.at) c.proof.view_is) c.requires.count

pub returns-then-not-branch-2-clause-tested : goal.returns-then-not-branch-2-clause-tested
returns-then-not-branch-2-clause-tested g c =
    entries_fail c.args.case.now c.args.frame.now (g.S.StateSets.seen c.args.sets.now) c.args.claims.now c.requires.case c.requires.frame c.requires.own c.requires.claims
    c.deref.result.now c.proof.inside.fair c.deref-2.result.now c.proof.inside.at
    (c.deref.ensures.value ∙ ap (λ p. p.nonfair) c.proof.view_is) (ap (λ p. p.fair) c.proof.view_is) (c.deref-2.ensures.value ∙ ap (λ p. p.entries) c.proof.view_is) (ap (λ p. p.at) c.proof.view_is)
    (g.S.StateSets.seen c.shared_lines.new.sets) c.shared_lines.ensures.call.pins c.args.line.now c.shared_lines.new.line
    (subst (λ b. SharedTested c.args.case.now c.args.frame.now (g.S.StateSets.seen c.args.sets.now) c.args.claims.now c.requires.case c.requires.frame c.requires.own c.requires.claims
    c.deref.result.now c.proof.inside.fair c.args.line.now b c.shared_lines.new.line) c.if-not-branch.false c.in_ok-shared_lines.ensures.tested)
    c.own_lines.new.line
    (subst (λ b. EntriesTested c.args.case.now c.args.frame.now (g.S.StateSets.seen c.args.sets.now) c.args.claims.now c.requires.case c.requires.frame c.requires.own c.requires.claims
    c.deref.result.now c.proof.inside.fair c.deref-2.result.now c.proof.inside.at
    (c.deref.ensures.value ∙ ap (λ p. p.nonfair) c.proof.view_is) (ap (λ p. p.fair) c.proof.view_is) (c.deref-2.ensures.value ∙ ap (λ p. p.entries) c.proof.view_is) (ap (λ p. p.at) c.proof.view_is)
    (g.S.StateSets.seen c.shared_lines.new.sets) c.shared_lines.ensures.call.pins c.args.line.now c.shared_lines.new.line
    (subst (λ b. SharedTested c.args.case.now c.args.frame.now (g.S.StateSets.seen c.args.sets.now) c.args.claims.now c.requires.case c.requires.frame c.requires.own c.requires.claims
    c.deref.result.now c.proof.inside.fair c.args.line.now b c.shared_lines.new.line) c.if-not-branch.false c.in_ok-shared_lines.ensures.tested) b c.own_lines.new.line) c.if-not-branch-2.true c.in_ok-own_lines.ensures.tested)

pub end_lines-requires-clause-live : goal.end_lines-requires-clause-live
end_lines-requires-clause-live g c = λ k h. stays_live c.own_lines.ensures.call.pins k (stays_live c.shared_lines.ensures.call.pins k (c.requires.live k h))

pub end_lines-requires-clause-over : goal.end_lines-requires-clause-over
end_lines-requires-clause-over g c = c.own_lines.ensures.call.pins.over ∙ c.shared_lines.ensures.call.pins.over ∙ c.requires.case.over

pub end_lines-requires-clause-some : goal.end_lines-requires-clause-some
end_lines-requires-clause-some g c =
    some_claims c.args.case.now c.args.frame.now (g.S.StateSets.seen c.args.sets.now) c.args.claims.now c.requires.case c.requires.frame c.requires.own c.requires.claims
    c.deref.result.now c.proof.inside.fair c.deref-2.result.now c.proof.inside.at
    (c.deref.ensures.value ∙ ap (λ p. p.nonfair) c.proof.view_is) (ap (λ p. p.fair) c.proof.view_is) (c.deref-2.ensures.value ∙ ap (λ p. p.entries) c.proof.view_is) (ap (λ p. p.at) c.proof.view_is)

pub end_lines-requires-clause-state : goal.end_lines-requires-clause-state
end_lines-requires-clause-state g c =
    state_there c.args.case.now c.args.frame.now (g.S.StateSets.seen c.args.sets.now) c.args.claims.now c.requires.case c.requires.frame c.requires.own c.requires.claims
    c.deref.result.now c.proof.inside.fair c.deref-2.result.now c.proof.inside.at
    (c.deref.ensures.value ∙ ap (λ p. p.nonfair) c.proof.view_is) (ap (λ p. p.fair) c.proof.view_is) (c.deref-2.ensures.value ∙ ap (λ p. p.entries) c.proof.view_is) (ap (λ p. p.at) c.proof.view_is)

pub returns-clause-tested : goal.returns-clause-tested
returns-clause-tested g c =
    ends_tested c.args.case.now c.args.frame.now (g.S.StateSets.seen c.args.sets.now) c.args.claims.now c.requires.case c.requires.frame c.requires.own c.requires.claims
    c.deref.result.now c.proof.inside.fair c.deref-2.result.now c.proof.inside.at
    (c.deref.ensures.value ∙ ap (λ p. p.nonfair) c.proof.view_is) (ap (λ p. p.fair) c.proof.view_is) (c.deref-2.ensures.value ∙ ap (λ p. p.entries) c.proof.view_is) (ap (λ p. p.at) c.proof.view_is)
    (g.S.StateSets.seen c.shared_lines.new.sets) c.shared_lines.ensures.call.pins c.args.line.now c.shared_lines.new.line
    (subst (λ b. SharedTested c.args.case.now c.args.frame.now (g.S.StateSets.seen c.args.sets.now) c.args.claims.now c.requires.case c.requires.frame c.requires.own c.requires.claims
    c.deref.result.now c.proof.inside.fair c.args.line.now b c.shared_lines.new.line) c.if-not-branch.false c.in_ok-shared_lines.ensures.tested)
    (g.S.StateSets.seen c.own_lines.new.sets) c.own_lines.ensures.call.pins c.own_lines.new.line
    (subst (λ b. EntriesTested c.args.case.now c.args.frame.now (g.S.StateSets.seen c.args.sets.now) c.args.claims.now c.requires.case c.requires.frame c.requires.own c.requires.claims
    c.deref.result.now c.proof.inside.fair c.deref-2.result.now c.proof.inside.at
    (c.deref.ensures.value ∙ ap (λ p. p.nonfair) c.proof.view_is) (ap (λ p. p.fair) c.proof.view_is) (c.deref-2.ensures.value ∙ ap (λ p. p.entries) c.proof.view_is) (ap (λ p. p.at) c.proof.view_is)
    (g.S.StateSets.seen c.shared_lines.new.sets) c.shared_lines.ensures.call.pins c.args.line.now c.shared_lines.new.line
    (subst (λ b. SharedTested c.args.case.now c.args.frame.now (g.S.StateSets.seen c.args.sets.now) c.args.claims.now c.requires.case c.requires.frame c.requires.own c.requires.claims
    c.deref.result.now c.proof.inside.fair c.args.line.now b c.shared_lines.new.line) c.if-not-branch.false c.in_ok-shared_lines.ensures.tested) b c.own_lines.new.line) c.if-not-branch-2.false c.in_ok-own_lines.ensures.tested)
    c.end_lines.result c.end_lines.new.line c.end_lines.ensures.tested

pub returns-in_err-shared_lines-clause-products : goal.returns-in_err-shared_lines-clause-products
returns-in_err-shared_lines-clause-products g c =
    omega (
      arith,
      c.shared_lines.ensures.products,
      own_counted c.args.case.now.proof.now c.deref.result.now c.proof.inside.fair c.proof.inside.entries.items (c.deref.ensures.value ∙ ap (λ p. p.nonfair) c.proof.view_is) (ap (λ p. p.fair) c.proof.view_is)
          (ap (λ p. p.entries) c.proof.view_is),
    )

pub returns-then-not-branch-clause-products : goal.returns-then-not-branch-clause-products
returns-then-not-branch-clause-products g c =
    omega (
      arith,
      c.shared_lines.ensures.products,
      own_counted c.args.case.now.proof.now c.deref.result.now c.proof.inside.fair c.proof.inside.entries.items (c.deref.ensures.value ∙ ap (λ p. p.nonfair) c.proof.view_is) (ap (λ p. p.fair) c.proof.view_is)
          (ap (λ p. p.entries) c.proof.view_is),
    )

pub returns-in_err-own_lines-clause-products : goal.returns-in_err-own_lines-clause-products
returns-in_err-own_lines-clause-products g c =
    omega (
      arith,
      c.shared_lines.ensures.products,
      c.own_lines.ensures.products,
      own_counted c.args.case.now.proof.now c.deref.result.now c.proof.inside.fair c.deref-2.result.now (c.deref.ensures.value ∙ ap (λ p. p.nonfair) c.proof.view_is) (ap (λ p. p.fair) c.proof.view_is)
          (c.deref-2.ensures.value ∙ ap (λ p. p.entries) c.proof.view_is),
    )

pub returns-then-not-branch-2-clause-products : goal.returns-then-not-branch-2-clause-products
returns-then-not-branch-2-clause-products g c =
    omega (
      arith,
      c.shared_lines.ensures.products,
      c.own_lines.ensures.products,
      own_counted c.args.case.now.proof.now c.deref.result.now c.proof.inside.fair c.deref-2.result.now (c.deref.ensures.value ∙ ap (λ p. p.nonfair) c.proof.view_is) (ap (λ p. p.fair) c.proof.view_is)
          (c.deref-2.ensures.value ∙ ap (λ p. p.entries) c.proof.view_is),
    )

pub returns-clause-products : goal.returns-clause-products
returns-clause-products g c =
    omega (
      arith,
      c.shared_lines.ensures.products,
      c.own_lines.ensures.products,
      c.end_lines.ensures.products,
      own_counted c.args.case.now.proof.now c.deref.result.now c.proof.inside.fair c.deref-2.result.now (c.deref.ensures.value ∙ ap (λ p. p.nonfair) c.proof.view_is) (ap (λ p. p.fair) c.proof.view_is)
          (c.deref-2.ensures.value ∙ ap (λ p. p.entries) c.proof.view_is),
    )
