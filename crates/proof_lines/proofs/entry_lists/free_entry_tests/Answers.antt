use Rattle.std.proofs.Common.{ap, arith, sym, subst}
use Rattle.region_sets.specs.Ranks.{AreLive, slots}
use Rattle.region_sets.proofs.Changes.{stays_live}
use Rattle.proof_form.specs.Form.{rule_sets}
use Rattle.proof_lines.proofs.LineSums.{all_within, more_within, one_within}
use Rattle.proof_lines.specs.LineCounts.{rule_line_count}
use Rattle.proof_lines.proofs.EntryLoops.{IsFree, free_entry_live, free_list, free_part_lines, free_parts, free_then, gone_all, gone_fails, gone_more, gone_none}
use Rattle.proof_lines.proofs.Framed.{frame_then}
use Rattle.proof_lines.proofs.entry_lists.free_entry_tests.Goals as goal

pub loop-at-init : goal.loop-at-init
loop-at-init g c =
    let start = g.S.StateSets.seen c.args.sets.now in
    let frame = c.args.frame.now in
    let lists = c.args.lists.now in record {
      gone = gone_none start (IsFree start frame lists) (free_part_lines start frame lists) (free_list start frame lists) (free_parts start frame lists) c.args.entries.now c.args.line.now;
      products = omega arith;
    }

pub free_entry-requires-clause-frame : goal.free_entry-requires-clause-frame
free_entry-requires-clause-frame g c = frame_then (g.S.StateSets.seen c.args.sets.now) (g.S.StateSets.seen c.loop-at.sets) c.args.frame.now c.loop-at.invariant.gone.call.pins c.requires.frame

pub free_entry-requires-clause-entry : goal.free_entry-requires-clause-entry
free_entry-requires-clause-entry g c =
    subst (λ e. AreLive (g.S.StateSets.seen c.loop-at.sets) (slots (rule_sets e.entry.rule))) (sym c.index-entries-at.is)
    (λ i h. stays_live c.loop-at.invariant.gone.call.pins i (free_entry_live (g.S.StateSets.seen c.args.sets.now) c.args.entries.now c.loop-at.at c.index-entries-at.result c.loop-at-test.true c.requires.entries i h))

pub returns-then-not-branch-clause-tested : goal.returns-then-not-branch-clause-tested
returns-then-not-branch-clause-tested g c = λ part of have.
    let start = g.S.StateSets.seen c.args.sets.now in
    let now = g.S.StateSets.seen c.loop-at.sets in
    let frame = c.args.frame.now in
    let lists = c.args.lists.now in
    let e = c.index-entries-at.result in
    gone_fails start (IsFree start frame lists) (free_part_lines start frame lists) (free_list start frame lists) (free_parts start frame lists) c.args.entries.now c.args.line.now now c.loop-at.at c.loop-at.line e _
    c.free_entry.new.line c.if-not-branch.true c.loop-at-test.true c.index-entries-at.is c.loop-at.invariant.gone
    (free_then start frame lists now e c.loop-at.line _ c.free_entry.new.line c.loop-at.invariant.gone.call.pins c.requires.frame c.in_ok-free_entry.ensures.tested) part (of, have)

pub loop-at-preserved : goal.loop-at-preserved
loop-at-preserved g c =
    let start = g.S.StateSets.seen c.args.sets.now in
    let now = g.S.StateSets.seen c.loop-at.sets in
    let frame = c.args.frame.now in
    let lists = c.args.lists.now in
    let e = c.index-entries-at.result in record {
      gone = gone_more start (IsFree start frame lists) (free_part_lines start frame lists) (free_list start frame lists) (free_parts start frame lists) c.args.entries.now c.args.line.now now (g.S.StateSets.seen c.free_entry.new.sets)
          c.loop-at.at c.loop-at.line e c.free_entry.result _ c.free_entry.new.line c.if-not-branch.false c.loop-at-test.true c.index-entries-at.is c.loop-at.invariant.gone c.free_entry.ensures.call
          (free_then start frame lists now e c.loop-at.line _ c.free_entry.new.line c.loop-at.invariant.gone.call.pins c.requires.frame c.in_ok-free_entry.ensures.tested);
      products = more_within (λ e. rule_line_count e.entry.rule) c.args.entries.now (g.S.StateSets.products c.args.sets.now) (g.S.StateSets.products c.loop-at.sets) c.loop-at.at c.index-entries-at.result (g.S.StateSets.products c.free_entry.new.sets) c.loop-at-test.true c.loop-at.invariant.products (omega (arith, c.free_entry.ensures.products, ap (λ e. rule_line_count e.entry.rule) c.index-entries-at.is));
    }

pub returns-clause-tested : goal.returns-clause-tested
returns-clause-tested g c = λ part of have.
    let start = g.S.StateSets.seen c.args.sets.now in
    let frame = c.args.frame.now in
    let lists = c.args.lists.now in
    gone_all start (IsFree start frame lists) (free_part_lines start frame lists) (free_list start frame lists) (free_parts start frame lists) c.args.entries.now c.args.line.now (g.S.StateSets.seen c.loop-at.sets)
    c.loop-at.at c.loop-at.line c.loop-at-test.false c.loop-at.invariant.gone part (of, have)

pub returns-then-not-branch-clause-products : goal.returns-then-not-branch-clause-products
returns-then-not-branch-clause-products g c =
    one_within (λ e. rule_line_count e.entry.rule) c.args.entries.now (g.S.StateSets.products c.args.sets.now) (g.S.StateSets.products c.loop-at.sets) c.loop-at.at c.index-entries-at.result (g.S.StateSets.products c.free_entry.new.sets) c.loop-at-test.true c.loop-at.invariant.products
    (omega (arith, c.free_entry.ensures.products, ap (λ e. rule_line_count e.entry.rule) c.index-entries-at.is))

pub returns-in_err-free_entry-clause-products : goal.returns-in_err-free_entry-clause-products
returns-in_err-free_entry-clause-products g c =
    one_within (λ e. rule_line_count e.entry.rule) c.args.entries.now (g.S.StateSets.products c.args.sets.now) (g.S.StateSets.products c.loop-at.sets) c.loop-at.at c.index-entries-at.result (g.S.StateSets.products c.free_entry.new.sets) c.loop-at-test.true c.loop-at.invariant.products
    (omega (arith, c.free_entry.ensures.products, ap (λ e. rule_line_count e.entry.rule) c.index-entries-at.is))

pub returns-clause-products : goal.returns-clause-products
returns-clause-products g c = all_within (λ e. rule_line_count e.entry.rule) c.args.entries.now (g.S.StateSets.products c.args.sets.now) (g.S.StateSets.products c.loop-at.sets) c.loop-at.at c.loop-at.invariant.products
