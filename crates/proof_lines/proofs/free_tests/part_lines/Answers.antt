use Rattle.std.proofs.Common.{true, false, length, ◌∙◌, ap, subst, arith}
use Rattle.region_sets.proofs.Changes.{stays_live}
use Rattle.proof_lines.proofs.FreeParts.{GivenTested, entries_tested, part_entries_alive, part_entries_fit, part_entries_named, part_entries_numbered, part_fair_alive, part_layers_alive, part_layers_avoid, part_reach_count, shared_fails}
use Rattle.proof_lines.proofs.Framed.{frame_then}
use Rattle.proof_lines.proofs.LineSums.{part_counted}
use Rattle.proof_lines.proofs.free_tests.part_lines.Goals as goal

pub shared_lines-requires-clause-avoids : goal.shared_lines-requires-clause-avoids
shared_lines-requires-clause-avoids g c =
    part_layers_avoid (g.S.StateSets.seen c.args.sets.now) c.args.frame.now c.args.part.now c.args.lists.now c.requires.frame c.requires.all c.requires.own c.requires.claims
    c.deref.result.now c.part.inside.fair c.part.inside.entries.items
    (c.deref.ensures.value ∙ ap (λ p. p.nonfair) c.part.view_is) (ap (λ p. p.fair) c.part.view_is) (ap (λ p. p.entries) c.part.view_is) c.requires.shape

pub shared_lines-requires-clause-layers : goal.shared_lines-requires-clause-layers
shared_lines-requires-clause-layers g c =
    part_layers_alive (g.S.StateSets.seen c.args.sets.now) c.args.frame.now c.args.part.now c.args.lists.now c.requires.frame c.requires.all c.requires.own c.requires.claims
    c.deref.result.now c.part.inside.fair c.part.inside.entries.items
    (c.deref.ensures.value ∙ ap (λ p. p.nonfair) c.part.view_is) (ap (λ p. p.fair) c.part.view_is) (ap (λ p. p.entries) c.part.view_is) c.requires.live

pub shared_lines-requires-clause-count : goal.shared_lines-requires-clause-count
shared_lines-requires-clause-count g c =
    part_reach_count (g.S.StateSets.seen c.args.sets.now) c.args.frame.now c.args.part.now c.args.lists.now c.requires.frame c.requires.all c.requires.own c.requires.claims
    c.deref.result.now c.part.inside.fair c.part.inside.entries.items
    (c.deref.ensures.value ∙ ap (λ p. p.nonfair) c.part.view_is) (ap (λ p. p.fair) c.part.view_is) (ap (λ p. p.entries) c.part.view_is) c.requires.shape

pub shared_lines-requires-clause-live : goal.shared_lines-requires-clause-live
shared_lines-requires-clause-live g c =
    part_fair_alive (g.S.StateSets.seen c.args.sets.now) c.args.frame.now c.args.part.now c.args.lists.now c.requires.frame c.requires.all c.requires.own c.requires.claims
    c.deref.result.now c.part.inside.fair c.part.inside.entries.items
    (c.deref.ensures.value ∙ ap (λ p. p.nonfair) c.part.view_is) (ap (λ p. p.fair) c.part.view_is) (ap (λ p. p.entries) c.part.view_is) c.requires.live

pub returns-then-not-branch-clause-tested : goal.returns-then-not-branch-clause-tested
returns-then-not-branch-clause-tested g c =
    shared_fails (g.S.StateSets.seen c.args.sets.now) c.args.frame.now c.args.part.now c.args.lists.now c.requires.frame c.requires.all c.requires.own c.requires.claims
    c.deref.result.now c.part.inside.fair c.part.inside.entries.items
    (c.deref.ensures.value ∙ ap (λ p. p.nonfair) c.part.view_is) (ap (λ p. p.fair) c.part.view_is) (ap (λ p. p.entries) c.part.view_is) c.args.line.now c.count.new.line c.count.ensures c.shared_lines.new.line
    (subst (λ b. GivenTested (g.S.StateSets.seen c.args.sets.now) c.args.frame.now c.args.part.now c.args.lists.now c.requires.frame c.requires.all c.requires.own c.requires.claims
    c.deref.result.now c.part.inside.fair c.part.inside.entries.items
    (c.deref.ensures.value ∙ ap (λ p. p.nonfair) c.part.view_is) (ap (λ p. p.fair) c.part.view_is) (ap (λ p. p.entries) c.part.view_is) c.count.new.line b c.shared_lines.new.line) c.if-not-branch.true c.in_ok-shared_lines.ensures.tested)

pub free_entry_tests-requires-clause-frame : goal.free_entry_tests-requires-clause-frame
free_entry_tests-requires-clause-frame g c = frame_then (g.S.StateSets.seen c.args.sets.now) (g.S.StateSets.seen c.shared_lines.new.sets) c.args.frame.now c.shared_lines.ensures.call.pins c.requires.frame

pub free_entry_tests-requires-clause-lists : goal.free_entry_tests-requires-clause-lists
free_entry_tests-requires-clause-lists g c = λ k h. stays_live c.shared_lines.ensures.call.pins k (c.requires.lists.live k h)

pub free_entry_tests-requires-clause-few : goal.free_entry_tests-requires-clause-few
free_entry_tests-requires-clause-few g c = omega (arith, c.requires.count, ap (λ m. length m.constraints) c.shared_lines.ensures.call.pins.over)

pub free_entry_tests-requires-clause-entries : goal.free_entry_tests-requires-clause-entries
free_entry_tests-requires-clause-entries g c =
    part_entries_alive (g.S.StateSets.seen c.args.sets.now) c.args.frame.now c.args.part.now c.args.lists.now c.requires.frame c.requires.all c.requires.own c.requires.claims
    c.deref.result.now c.part.inside.fair c.deref-2.result.now
    (c.deref.ensures.value ∙ ap (λ p. p.nonfair) c.part.view_is) (ap (λ p. p.fair) c.part.view_is) (c.deref-2.ensures.value ∙ ap (λ p. p.entries) c.part.view_is) (g.S.StateSets.seen c.shared_lines.new.sets) c.shared_lines.ensures.call.pins c.requires.live

pub free_entry_tests-requires-clause-constraints : goal.free_entry_tests-requires-clause-constraints
free_entry_tests-requires-clause-constraints g c =
    part_entries_named (g.S.StateSets.seen c.args.sets.now) c.args.frame.now c.args.part.now c.args.lists.now c.requires.frame c.requires.all c.requires.own c.requires.claims
    c.deref.result.now c.part.inside.fair c.deref-2.result.now
    (c.deref.ensures.value ∙ ap (λ p. p.nonfair) c.part.view_is) (ap (λ p. p.fair) c.part.view_is) (c.deref-2.ensures.value ∙ ap (λ p. p.entries) c.part.view_is) c.requires.shape c.requires.count

pub free_entry_tests-requires-clause-numbered : goal.free_entry_tests-requires-clause-numbered
free_entry_tests-requires-clause-numbered g c =
    part_entries_numbered (g.S.StateSets.seen c.args.sets.now) c.args.frame.now c.args.part.now c.args.lists.now c.requires.frame c.requires.all c.requires.own c.requires.claims
    c.deref.result.now c.part.inside.fair c.deref-2.result.now
    (c.deref.ensures.value ∙ ap (λ p. p.nonfair) c.part.view_is) (ap (λ p. p.fair) c.part.view_is) (c.deref-2.ensures.value ∙ ap (λ p. p.entries) c.part.view_is) c.requires.shape c.requires.count

pub free_entry_tests-requires-clause-fits : goal.free_entry_tests-requires-clause-fits
free_entry_tests-requires-clause-fits g c =
    part_entries_fit (g.S.StateSets.seen c.args.sets.now) c.args.frame.now c.args.part.now c.args.lists.now c.requires.frame c.requires.all c.requires.own c.requires.claims
    c.deref.result.now c.part.inside.fair c.deref-2.result.now
    (c.deref.ensures.value ∙ ap (λ p. p.nonfair) c.part.view_is) (ap (λ p. p.fair) c.part.view_is) (c.deref-2.ensures.value ∙ ap (λ p. p.entries) c.part.view_is) c.requires.shape

pub returns-clause-tested : goal.returns-clause-tested
returns-clause-tested g c =
    entries_tested (g.S.StateSets.seen c.args.sets.now) c.args.frame.now c.args.part.now c.args.lists.now c.requires.frame c.requires.all c.requires.own c.requires.claims
    c.deref.result.now c.part.inside.fair c.deref-2.result.now
    (c.deref.ensures.value ∙ ap (λ p. p.nonfair) c.part.view_is) (ap (λ p. p.fair) c.part.view_is) (c.deref-2.ensures.value ∙ ap (λ p. p.entries) c.part.view_is) c.args.line.now c.count.new.line c.count.ensures (g.S.StateSets.seen c.shared_lines.new.sets) c.shared_lines.ensures.call.pins c.shared_lines.new.line
    (subst (λ b. GivenTested (g.S.StateSets.seen c.args.sets.now) c.args.frame.now c.args.part.now c.args.lists.now c.requires.frame c.requires.all c.requires.own c.requires.claims
    c.deref.result.now c.part.inside.fair c.deref-2.result.now
    (c.deref.ensures.value ∙ ap (λ p. p.nonfair) c.part.view_is) (ap (λ p. p.fair) c.part.view_is) (c.deref-2.ensures.value ∙ ap (λ p. p.entries) c.part.view_is) c.count.new.line b c.shared_lines.new.line) c.if-not-branch.false c.in_ok-shared_lines.ensures.tested)
    c.free_entry_tests.result c.free_entry_tests.new.line c.free_entry_tests.ensures.tested

pub returns-in_err-shared_lines-clause-products : goal.returns-in_err-shared_lines-clause-products
returns-in_err-shared_lines-clause-products g c =
    omega (
      arith,
      c.shared_lines.ensures.products,
      part_counted c.args.part.now c.deref.result.now c.part.inside.fair c.part.inside.entries.items (c.deref.ensures.value ∙ ap (λ p. p.nonfair) c.part.view_is) (ap (λ p. p.fair) c.part.view_is)
          (ap (λ p. p.entries) c.part.view_is),
    )

pub returns-then-not-branch-clause-products : goal.returns-then-not-branch-clause-products
returns-then-not-branch-clause-products g c =
    omega (
      arith,
      c.shared_lines.ensures.products,
      part_counted c.args.part.now c.deref.result.now c.part.inside.fair c.part.inside.entries.items (c.deref.ensures.value ∙ ap (λ p. p.nonfair) c.part.view_is) (ap (λ p. p.fair) c.part.view_is)
          (ap (λ p. p.entries) c.part.view_is),
    )

pub returns-clause-products : goal.returns-clause-products
returns-clause-products g c =
    omega (
      arith,
      c.shared_lines.ensures.products,
      c.free_entry_tests.ensures.products,
      part_counted c.args.part.now c.deref.result.now c.part.inside.fair c.deref-2.result.now (c.deref.ensures.value ∙ ap (λ p. p.nonfair) c.part.view_is) (ap (λ p. p.fair) c.part.view_is)
          (c.deref-2.ensures.value ∙ ap (λ p. p.entries) c.part.view_is),
    )
