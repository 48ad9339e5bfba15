use Rattle.std.proofs.Common.{◌≡◌, ◌+◌, length, arith, List, map, sym, ◌∙◌, ap, subst}
use Rattle.region_sets.specs.declared.pins.Pin.{Pin}
use Rattle.region_sets.specs.Sets.{region}
use Rattle.fair_rules.specs.Claims as claims
use Rattle.proof_form.specs.declared.form.Rule as declared
use Rattle.region_sets.specs.Ranks.{AreLive, slots}
use Rattle.proof_form.specs.Form.{Layer, map_layer, map_rule, rule_sets}
use Rattle.proof_form.specs.Seen.{seen_rule}
use Rattle.proof_form.specs.Meaning.{entry_of, layer_of}
use Rattle.proof_lines.proofs.EntryLines.{ex_lines, ax_lines, ar_lines, eu_lines, au_lines, er_lines, parts_live}
use Rattle.proof_lines.specs.LineCounts.{fair_line_count, rule_line_count}
use Rattle.proof_lines.proofs.entries.rule_lines.Goals as goal

pub returns-in-EX-clause-tested : goal.returns-in-EX-clause-tested
returns-in-EX-clause-tested g c =
    let start = g.S.StateSets.seen c.args.sets.now in
    ex_lines start c.args.frame.now c.args.first.now c.args.last.now c.next_entry.result c.args.line.now c.next_entry.new.line (entry_of (map_rule (region start) (seen_rule c.args.rule.now)))
    (region start c.in-EX.set) (ap (λ (u : declared.Rule Pin). entry_of (map_rule (region start) (seen_rule u))) c.in-EX.is) c.next_entry.ensures.tested

pub returns-in-AX-clause-tested : goal.returns-in-AX-clause-tested
returns-in-AX-clause-tested g c =
    let start = g.S.StateSets.seen c.args.sets.now in
    ax_lines start c.args.frame.now c.args.first.now c.args.last.now c.each_next_entry.result c.args.line.now c.each_next_entry.new.line (entry_of (map_rule (region start) (seen_rule c.args.rule.now)))
    (region start c.in-AX.set) (ap (λ (u : declared.Rule Pin). entry_of (map_rule (region start) (seen_rule u))) c.in-AX.is) c.each_next_entry.ensures.tested

pub returns-in-AR-clause-tested : goal.returns-in-AR-clause-tested
returns-in-AR-clause-tested g c =
    let start = g.S.StateSets.seen c.args.sets.now in
    ar_lines start c.args.frame.now c.args.first.now c.args.last.now c.stay_entry.result c.args.line.now c.stay_entry.new.line (entry_of (map_rule (region start) (seen_rule c.args.rule.now)))
    (region start c.in-AR.set) (ap (λ (u : declared.Rule Pin). entry_of (map_rule (region start) (seen_rule u))) c.in-AR.is) c.stay_entry.ensures.tested

pub returns-in-EU-clause-tested : goal.returns-in-EU-clause-tested
returns-in-EU-clause-tested g c =
    let start = g.S.StateSets.seen c.args.sets.now in
    eu_lines start c.args.frame.now c.args.first.now c.args.last.now c.until_entry.result c.args.line.now c.until_entry.new.line (entry_of (map_rule (region start) (seen_rule c.args.rule.now)))
    (map (region start) c.deref.result.now)
    (ap (λ (u : declared.Rule Pin). entry_of (map_rule (region start) (seen_rule u))) c.in-EU.is ∙ ap (λ (ps : List Pin). claims.Entry.EU (map (region start) ps)) (sym c.deref.ensures.value))
    c.until_entry.ensures.tested

pub returns-in-AU-clause-tested : goal.returns-in-AU-clause-tested
returns-in-AU-clause-tested g c =
    let start = g.S.StateSets.seen c.args.sets.now in
    au_lines start c.args.frame.now c.args.first.now c.args.last.now c.layer_entry.result c.args.line.now c.layer_entry.new.line (entry_of (map_rule (region start) (seen_rule c.args.rule.now)))
    c.deref-in-AU.result.now
    (ap (λ (u : declared.Rule Pin). entry_of (map_rule (region start) (seen_rule u))) c.in-AU.is
    ∙ ap (λ (ls : List (Layer Pin)). claims.Entry.AU (map layer_of (map (map_layer (region start)) ls))) (sym c.deref-in-AU.ensures.value))
    c.layer_entry.ensures.tested

pub returns-in-ER-clause-tested : goal.returns-in-ER-clause-tested
returns-in-ER-clause-tested g c =
    let start = g.S.StateSets.seen c.args.sets.now in
    er_lines start c.args.frame.now c.args.first.now c.args.last.now c.fair_release_entry.result c.args.line.now c.fair_release_entry.new.line
    (entry_of (map_rule (region start) (seen_rule c.args.rule.now))) (region start c.in-ER.fair.inside) (map (map (region start)) c.in-ER.fair.reach) (map (region start) c.deref-in-ER.result.now)
    (ap (λ (u : declared.Rule Pin). entry_of (map_rule (region start) (seen_rule u))) c.in-ER.is
    ∙ ap (λ (ps : List Pin). claims.Entry.ER (region start c.in-ER.fair.inside) (map (map (region start)) c.in-ER.fair.reach) (map (region start) ps)) (sym c.deref-in-ER.ensures.value))
    c.fair_release_entry.ensures.tested

pub fair_release_entry-requires-clause-fair : goal.fair_release_entry-requires-clause-fair
fair_release_entry-requires-clause-fair g c =
    (parts_live (g.S.StateSets.seen c.args.sets.now) c.in-ER.fair c.in-ER.list.items
    (subst (λ (u : declared.Rule Pin). AreLive (g.S.StateSets.seen c.args.sets.now) (slots (rule_sets (seen_rule u)))) c.in-ER.is c.requires.rule)).0

pub fair_release_entry-requires-clause-list : goal.fair_release_entry-requires-clause-list
fair_release_entry-requires-clause-list g c =
    subst (λ (ps : List Pin). AreLive (g.S.StateSets.seen c.args.sets.now) (slots ps)) (sym c.deref-in-ER.ensures.value)
    (parts_live (g.S.StateSets.seen c.args.sets.now) c.in-ER.fair c.in-ER.list.items
    (subst (λ (u : declared.Rule Pin). AreLive (g.S.StateSets.seen c.args.sets.now) (slots (rule_sets (seen_rule u)))) c.in-ER.is c.requires.rule)).1

pub returns-in-EX-clause-products : goal.returns-in-EX-clause-products
returns-in-EX-clause-products g c =
    let count : rule_line_count (seen_rule c.args.rule.now) ≡ 1 = ap (λ (u : declared.Rule Pin). rule_line_count (seen_rule u)) c.in-EX.is in
    omega (arith, c.next_entry.ensures.products, count)

pub returns-in-AX-clause-products : goal.returns-in-AX-clause-products
returns-in-AX-clause-products g c =
    let count : rule_line_count (seen_rule c.args.rule.now) ≡ 1 = ap (λ (u : declared.Rule Pin). rule_line_count (seen_rule u)) c.in-AX.is in
    omega (arith, c.each_next_entry.ensures.products, count)

pub returns-in-AR-clause-products : goal.returns-in-AR-clause-products
returns-in-AR-clause-products g c =
    let count : rule_line_count (seen_rule c.args.rule.now) ≡ 1 = ap (λ (u : declared.Rule Pin). rule_line_count (seen_rule u)) c.in-AR.is in
    omega (arith, c.stay_entry.ensures.products, count)

pub returns-in-EU-clause-products : goal.returns-in-EU-clause-products
returns-in-EU-clause-products g c =
    let count : rule_line_count (seen_rule c.args.rule.now) ≡ length c.in-EU.list.items = ap (λ (u : declared.Rule Pin). rule_line_count (seen_rule u)) c.in-EU.is in
    omega (arith, c.until_entry.ensures.products, ap length c.deref.ensures.value, count)

pub returns-in-AU-clause-products : goal.returns-in-AU-clause-products
returns-in-AU-clause-products g c =
    let count : rule_line_count (seen_rule c.args.rule.now) ≡ length c.in-AU.list.items = ap (λ (u : declared.Rule Pin). rule_line_count (seen_rule u)) c.in-AU.is in
    omega (arith, c.layer_entry.ensures.products, ap length c.deref-in-AU.ensures.value, count)

pub returns-in-ER-clause-products : goal.returns-in-ER-clause-products
returns-in-ER-clause-products g c =
    let count : rule_line_count (seen_rule c.args.rule.now) ≡ fair_line_count c.in-ER.fair + length c.in-ER.list.items = ap (λ (u : declared.Rule Pin). rule_line_count (seen_rule u)) c.in-ER.is in
    omega (arith, c.fair_release_entry.ensures.products, ap length c.deref-in-ER.ensures.value, count)
