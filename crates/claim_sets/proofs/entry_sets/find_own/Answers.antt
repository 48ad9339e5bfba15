use Rattle.std.proofs.Common.{◌≡◌, true, sym, ◌∙◌, ap, subst, arith}
use Rattle.region_sets.specs.declared.pins.Pin.{Pin}
use Rattle.region_sets.specs.Ranks.{slots}
use Rattle.region_sets.specs.Sets.{is_one_of, region}
use Rattle.proof_form.specs.Form.{Entry, map_rule, rule_sets}
use Rattle.proof_form.specs.Meaning.{entry_of}
use Rattle.claim_sets.specs.EntrySets.{fits}
use Rattle.claim_sets.proofs.FoundEntries.{among, first_fits, none_fits}
use Rattle.claim_sets.proofs.entry_sets.find_own.Goals as goal

pub returns-then-is_for-clause-entry : goal.returns-then-is_for-clause-entry
returns-then-is_for-clause-entry c = λ sets.
    ap (λ (e : Entry Pin). entry_of (map_rule (region sets) e.rule)) (c.entry.view_is ∙ c.entry-item.is)
    ∙ sym (first_fits sets c.args.node c.args.plus c.args.entries.now c.loop-entry.entry-index c.entry-item.result c.loop-entry-test.true c.loop-entry.invariant
    (ap (λ (e : Entry Pin). fits e c.args.node c.args.plus) (sym c.entry-item.is) ∙ sym c.is_for.ensures ∙ c.if-is_for.true))

pub returns-then-is_for-clause-among : goal.returns-then-is_for-clause-among
returns-then-is_for-clause-among c = λ k h. among c.args.entries.now c.loop-entry.entry-index c.entry-item.result k c.loop-entry-test.true
    (subst (λ (e : Entry Pin). is_one_of k (slots (rule_sets e.rule)) ≡ true) (c.entry.view_is ∙ c.entry-item.is) h)

pub returns-clause-entry : goal.returns-clause-entry
returns-clause-entry c = λ sets. sym (none_fits sets c.args.node c.args.plus c.args.entries.now (λ k lt d. c.loop-entry.invariant k (omega (arith, lt, c.loop-entry-test.false)) d))
