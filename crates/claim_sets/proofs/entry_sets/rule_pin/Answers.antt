use Rattle.std.proofs.Common.{List, [], map, sym, ◌∙◌, ap, subst, arith}
use Rattle.std.proofs.lemmas.Result.{err_from_is_err_and}
use Rattle.region_sets.specs.declared.pins.Pin.{Pin}
use Rattle.region_sets.specs.Ranks.{slots, AreLive}
use Rattle.region_sets.specs.Sets.{region}
use Rattle.region_sets.proofs.Slots.{is_one_of-first}
use Rattle.region_sets.proofs.Changes.{stays_live}
use Rattle.fair_rules.specs.Claims as claims
use Rattle.proof_form.specs.declared.form.Rule as declared
use Rattle.proof_form.specs.Form.{Layer, map_layer, map_rule, rule_sets}
use Rattle.proof_form.specs.Seen.{seen_rule}
use Rattle.proof_form.specs.Meaning.{entry_of, layer_of}
use Rattle.claim_sets.proofs.FoundEntries.{au_set, ar_set, er_call, fair_live}
use Rattle.claim_sets.proofs.entry_sets.rule_pin.Goals as goal

pub returns-in_err-out-in-AU-clause-call : goal.returns-in_err-out-in-AU-clause-call
returns-in_err-out-in-AU-clause-call g c =
    let p = err_from_is_err_and c.from_residual-in_err-out-in-AU.result c.from_residual-in_err-out-in-AU.ensures.1 in
    rw (p.1, p.2) (er_call (g.S.StateSets.seen c.args.sets.now) (g.S.StateSets.seen c.join_layers.new.sets) (g.S.StateSets.seen c.join_with.new.sets) c.in_ok-list-in-AU.list _
    c.in_ok-list-in-AU.ensures.call c.in_err-out-in-AU.ensures.call)

pub join_with-requires-in-AU-clause-a : goal.join_with-requires-in-AU-clause-a
join_with-requires-in-AU-clause-a g c =
    stays_live (c.in_ok-out-in-AU.ensures.call.call (g.S.StateSets.seen c.args.sets.now) 2 (omega arith) c.in_ok-list-in-AU.ensures.call).pins c.args.argument.now.slot c.requires.argument

pub join_with-requires-in-AU-clause-b : goal.join_with-requires-in-AU-clause-b
join_with-requires-in-AU-clause-b g c =
    (c.in_ok-out-in-AU.ensures.call.call (g.S.StateSets.seen c.args.sets.now) 2 (omega arith) c.in_ok-list-in-AU.ensures.call).pins.there c.in_ok-out-in-AU.out.slot (is_one_of-first c.in_ok-out-in-AU.out.slot [])

pub join_all-requires-in-ER : goal.join_all-requires-in-ER
join_all-requires-in-ER g c =
    subst (λ (us : List Pin). AreLive (g.S.StateSets.seen c.args.sets.now) (slots us)) (sym c.deref-in-ER.ensures.value)
    (fair_live (g.S.StateSets.seen c.args.sets.now) c.in-ER.fair c.in-ER.untils.items
    (subst (λ (u : declared.Rule Pin). AreLive (g.S.StateSets.seen c.args.sets.now) (slots (rule_sets (seen_rule u)))) c.in-ER.is c.requires.rule)).1

pub returns-in-AR-clause-set : goal.returns-in-AR-clause-set
returns-in-AR-clause-set g c =
    ar_set (g.S.StateSets.seen c.args.sets.now) (g.S.StateSets.seen c.join.new.self) c.in-AR.set c.args.nonfair.now c.join.result c.join.ensures.set
    (entry_of (map_rule (region (g.S.StateSets.seen c.args.sets.now)) (seen_rule c.args.rule.now)))
    (ap (λ (u : declared.Rule Pin). entry_of (map_rule (region (g.S.StateSets.seen c.args.sets.now)) (seen_rule u))) c.in-AR.is) (region (g.S.StateSets.seen c.args.sets.now) c.args.argument.now)

pub returns-in_ok-out-in-AU-clause-call : goal.returns-in_ok-out-in-AU-clause-call
returns-in_ok-out-in-AU-clause-call g c =
    c.join_with-in-AU.ensures.call.call (g.S.StateSets.seen c.args.sets.now) 2 (omega arith)
    (c.in_ok-out-in-AU.ensures.call.call (g.S.StateSets.seen c.args.sets.now) 2 (omega arith) c.in_ok-list-in-AU.ensures.call)

pub returns-in_ok-out-in-AU-clause-set : goal.returns-in_ok-out-in-AU-clause-set
returns-in_ok-out-in-AU-clause-set g c =
    au_set (g.S.StateSets.seen c.args.sets.now) (g.S.StateSets.seen c.join_layers.new.sets) (g.S.StateSets.seen c.join_with.new.sets) (g.S.StateSets.seen c.join_with-in-AU.new.sets)
    c.args.nonfair.now c.args.argument.now c.in_ok-list-in-AU.list c.in_ok-out-in-AU.out c.deref-in-AU.result.now c.join_with-in-AU.result c.requires.nonfair c.requires.argument
    c.in_ok-list-in-AU.ensures.call c.in_ok-list-in-AU.ensures.set c.in_ok-out-in-AU.ensures.call c.in_ok-out-in-AU.ensures.set c.join_with-in-AU.ensures.set
    (entry_of (map_rule (region (g.S.StateSets.seen c.args.sets.now)) (seen_rule c.args.rule.now)))
    (ap (λ (u : declared.Rule Pin). entry_of (map_rule (region (g.S.StateSets.seen c.args.sets.now)) (seen_rule u))) c.in-AU.is
    ∙ ap (λ (ls : List (Layer Pin)). claims.Entry.AU (map layer_of (map (map_layer (region (g.S.StateSets.seen c.args.sets.now))) ls))) (sym c.deref-in-AU.ensures.value))

pub returns-in_ok-list-in-ER-clause-call : goal.returns-in_ok-list-in-ER-clause-call
returns-in_ok-list-in-ER-clause-call g c = c.join_with-in-ER.ensures.call.call (g.S.StateSets.seen c.args.sets.now) 2 (omega arith) c.in_ok-list-in-ER.ensures.call
