use Rattle.std.proofs.Common.{ap, arith, sym, subst}
use Rattle.region_sets.specs.Ranks.{AreLive, slots}
use Rattle.region_sets.proofs.Changes.{stays_live}
use Rattle.proof_form.specs.Form.{rule_sets}
use Rattle.proof_lines.proofs.LineSums.{all_within, more_within, one_within}
use Rattle.proof_lines.specs.LineCounts.{rule_line_count}
use Rattle.proof_lines.proofs.EntryLoops.{IsOwn, entry_live, gone_all, gone_fails, gone_more, gone_none, own_list, own_part, own_parts, own_then}
use Rattle.proof_lines.proofs.Framed.{frame_then}
use Rattle.proof_lines.proofs.entry_lists.own_lines.Goals as goal

pub loop-k-init : goal.loop-k-init
loop-k-init g c =
    let start = g.S.StateSets.seen c.args.sets.now in
    let frame = c.args.frame.now in
    let cs = c.args.claims.now in record {
      gone = gone_none start (IsOwn start frame cs) (own_part start frame cs) (own_list start frame cs) (own_parts start frame cs) c.args.entries.now c.args.line.now;
      products = omega arith;
    }

pub asked_entry-requires-clause-frame : goal.asked_entry-requires-clause-frame
asked_entry-requires-clause-frame g c = frame_then (g.S.StateSets.seen c.args.sets.now) (g.S.StateSets.seen c.loop-k.sets) c.args.frame.now c.loop-k.invariant.gone.call.pins c.requires.frame

pub asked_entry-requires-clause-entry : goal.asked_entry-requires-clause-entry
asked_entry-requires-clause-entry g c =
    subst (λ e. AreLive (g.S.StateSets.seen c.loop-k.sets) (slots (rule_sets e.rule))) (sym c.index-entries-k.is)
    (λ i h. stays_live c.loop-k.invariant.gone.call.pins i (entry_live (g.S.StateSets.seen c.args.sets.now) c.args.entries.now c.loop-k.k c.index-entries-k.result c.loop-k-test.true c.requires.entries i h))

pub returns-then-not-branch-clause-tested : goal.returns-then-not-branch-clause-tested
returns-then-not-branch-clause-tested g c = λ p f of count are.
    let start = g.S.StateSets.seen c.args.sets.now in
    let now = g.S.StateSets.seen c.loop-k.sets in
    let frame = c.args.frame.now in
    let cs = c.args.claims.now in
    let e = c.index-entries-k.result in
    gone_fails start (IsOwn start frame cs) (own_part start frame cs) (own_list start frame cs) (own_parts start frame cs) c.args.entries.now c.args.line.now now c.loop-k.k c.loop-k.line e _
    c.asked_entry.new.line c.if-not-branch.true c.loop-k-test.true c.index-entries-k.is c.loop-k.invariant.gone
    (own_then start frame cs now e c.loop-k.line _ c.asked_entry.new.line c.loop-k.invariant.gone.call.pins c.requires.frame c.in_ok-asked_entry.ensures.tested) (p, f) (of, count, are)

pub loop-k-preserved : goal.loop-k-preserved
loop-k-preserved g c =
    let start = g.S.StateSets.seen c.args.sets.now in
    let now = g.S.StateSets.seen c.loop-k.sets in
    let frame = c.args.frame.now in
    let cs = c.args.claims.now in
    let e = c.index-entries-k.result in record {
      gone = gone_more start (IsOwn start frame cs) (own_part start frame cs) (own_list start frame cs) (own_parts start frame cs) c.args.entries.now c.args.line.now now (g.S.StateSets.seen c.asked_entry.new.sets)
          c.loop-k.k c.loop-k.line e c.asked_entry.result _ c.asked_entry.new.line c.if-not-branch.false c.loop-k-test.true c.index-entries-k.is c.loop-k.invariant.gone c.asked_entry.ensures.call
          (own_then start frame cs now e c.loop-k.line _ c.asked_entry.new.line c.loop-k.invariant.gone.call.pins c.requires.frame c.in_ok-asked_entry.ensures.tested);
      products = more_within (λ e. rule_line_count e.rule) c.args.entries.now (g.S.StateSets.products c.args.sets.now) (g.S.StateSets.products c.loop-k.sets) c.loop-k.k c.index-entries-k.result (g.S.StateSets.products c.asked_entry.new.sets) c.loop-k-test.true c.loop-k.invariant.products (omega (arith, c.asked_entry.ensures.products, ap (λ e. rule_line_count e.rule) c.index-entries-k.is));
    }

pub returns-clause-tested : goal.returns-clause-tested
returns-clause-tested g c = λ p f of count are.
    let start = g.S.StateSets.seen c.args.sets.now in
    let frame = c.args.frame.now in
    let cs = c.args.claims.now in
    gone_all start (IsOwn start frame cs) (own_part start frame cs) (own_list start frame cs) (own_parts start frame cs) c.args.entries.now c.args.line.now (g.S.StateSets.seen c.loop-k.sets)
    c.loop-k.k c.loop-k.line c.loop-k-test.false c.loop-k.invariant.gone (p, f) (of, count, are)

pub returns-then-not-branch-clause-products : goal.returns-then-not-branch-clause-products
returns-then-not-branch-clause-products g c =
    one_within (λ e. rule_line_count e.rule) c.args.entries.now (g.S.StateSets.products c.args.sets.now) (g.S.StateSets.products c.loop-k.sets) c.loop-k.k c.index-entries-k.result (g.S.StateSets.products c.asked_entry.new.sets) c.loop-k-test.true c.loop-k.invariant.products
    (omega (arith, c.asked_entry.ensures.products, ap (λ e. rule_line_count e.rule) c.index-entries-k.is))

pub returns-in_err-asked_entry-clause-products : goal.returns-in_err-asked_entry-clause-products
returns-in_err-asked_entry-clause-products g c =
    one_within (λ e. rule_line_count e.rule) c.args.entries.now (g.S.StateSets.products c.args.sets.now) (g.S.StateSets.products c.loop-k.sets) c.loop-k.k c.index-entries-k.result (g.S.StateSets.products c.asked_entry.new.sets) c.loop-k-test.true c.loop-k.invariant.products
    (omega (arith, c.asked_entry.ensures.products, ap (λ e. rule_line_count e.rule) c.index-entries-k.is))

pub returns-clause-products : goal.returns-clause-products
returns-clause-products g c = all_within (λ e. rule_line_count e.rule) c.args.entries.now (g.S.StateSets.products c.args.sets.now) (g.S.StateSets.products c.loop-k.sets) c.loop-k.k c.loop-k.invariant.products
