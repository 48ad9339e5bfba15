use Rattle.std.proofs.Common.{◌≡◌, true, ◌==◌, get_or, sym, ◌∙◌, ap, subst, arith, eq-eqb}
use Rattle.std.proofs.lemmas.Bool.{and_from}
use Rattle.region_sets.specs.declared.pins.Pin.{Pin}
use Rattle.region_sets.specs.Ranks.{slots}
use Rattle.region_sets.specs.Sets.{is_one_of, region}
use Rattle.proof_form.specs.Form.{Entry, map_rule, rule_sets}
use Rattle.proof_form.specs.Meaning.{entry_of}
use Rattle.claim_sets.specs.EntrySets.{fits}
use Rattle.claim_sets.proofs.FoundEntries.{free_among, first_fits_free, none_fits_free}
use Rattle.claim_sets.proofs.entry_sets.find_free.Goals as goal

pub returns-then-is_for-clause-entry : goal.returns-then-is_for-clause-entry
returns-then-is_for-clause-entry c = λ sets.
    ap (λ (e : Entry Pin). entry_of (map_rule (region sets) e.rule)) ((λ i. (c.free-inside.view_is i).entry) ∙ (λ i. (c.free.view_is i).entry) ∙ (λ i. (c.free-item.is i).entry))
    ∙ sym (first_fits_free sets c.args.node c.args.plus c.args.constraint c.args.entries.now c.loop-free.free-index c.free-item.result c.loop-free-test.true c.loop-free.invariant
    (and_from ((get_or c.args.entries.now c.loop-free.free-index c.free-item.result).constraint == c.args.constraint) (fits (get_or c.args.entries.now c.loop-free.free-index c.free-item.result).entry c.args.node c.args.plus)
    (eq-eqb (get_or c.args.entries.now c.loop-free.free-index c.free-item.result).constraint c.args.constraint
    (sym ((λ j. (c.free-inside.view_is j).constraint) ∙ (λ j. (c.free.view_is j).constraint) ∙ (λ j. (c.free-item.is j).constraint)) ∙ c.if-free-constraint.true))
    (sym (λ i. fits (((λ j. (c.free.view_is j).entry) ∙ (λ j. (c.free-item.is j).entry)) i) c.args.node c.args.plus) ∙ sym c.is_for.ensures ∙ c.if-is_for.true)))

pub returns-then-is_for-clause-among : goal.returns-then-is_for-clause-among
returns-then-is_for-clause-among c = λ k h. free_among c.args.entries.now c.loop-free.free-index c.free-item.result k c.loop-free-test.true
    (subst (λ (e : Entry Pin). is_one_of k (slots (rule_sets e.rule)) ≡ true) ((λ i. (c.free-inside.view_is i).entry) ∙ (λ i. (c.free.view_is i).entry) ∙ (λ i. (c.free-item.is i).entry)) h)

pub returns-clause-entry : goal.returns-clause-entry
returns-clause-entry c = λ sets.
    sym (none_fits_free sets c.args.node c.args.plus c.args.constraint c.args.entries.now (λ k lt d. c.loop-free.invariant k (omega (arith, lt, c.loop-free-test.false)) d))
