use Rattle.std.proofs.Common.{[], Ok, Err, inr, sym, subst}
use Rattle.std.specs.Global.{Vec}
use Rattle.std.proofs.lemmas.Result.{err_from_is_err_and}
use Rattle.kripke_model.specs.WellFormed.{ctl_of}
use Rattle.region_sets.specs.declared.pins.Pin.{Pin}
use Rattle.region_sets.specs.Ranks.{regions}
use Rattle.region_sets.specs.Sets.{IsCall, region}
use Rattle.fair_rules.specs.FreePart.{path_nodes}
use Rattle.proof_form.specs.Form.{Entry}
use Rattle.rank_extract.specs.FreeMade.{formulas_hold}
use Rattle.rank_extract.specs.Made.{entries_own}
use Rattle.rank_extract.proofs.FreeAdds.{formula_refused, leaf_added, moved_added}
use Rattle.rank_extract.proofs.free_part.add_formula.Goals as goal

pub returns-then-is_leaf : goal.returns-then-is_leaf
returns-then-is_leaf g c =
    let s0 = g.S.StateSets.seen c.args.sets.now in
    let f = ctl_of c.args.formula.now in
    leaf_added s0.over (regions s0 c.args.visits.now) (region s0 c.args.within.now) (region s0 c.args.fair.now) (formulas_hold s0.over (path_nodes f)) s0 c.args.number f c.args.entries.now.items (c.is_leaf.ensures.leaf c.if-is_leaf.true)

pub returns-in_err-own : goal.returns-in_err-own
returns-in_err-own g c =
    let s0 = g.S.StateSets.seen c.args.sets.now in
    let s1 = g.S.StateSets.seen c.formula_entries.new.sets in
    let f = ctl_of c.args.formula.now in
    let p = err_from_is_err_and c.from_residual.result c.from_residual.ensures.1 in
    rw (p.1, p.2)
    (formula_refused s0.over (regions s0 c.args.visits.now) (region s0 c.args.within.now) (region s0 c.args.fair.now) (formulas_hold s0.over (path_nodes f)) c.args.number f s0 s1 c.args.entries.now.items c.in_err-own.field-0.0
    (subst (λ n. IsCall (formulas_hold s0.over n) {T = Vec (Entry Pin)} s0 s1 [] (Err c.in_err-own.field-0.0)) (sym (c.is_leaf.ensures.path c.if-is_leaf.false)) c.in_err-own.ensures.call))

pub returns : goal.returns
returns g c =
    let s0 = g.S.StateSets.seen c.args.sets.now in
    let s1 = g.S.StateSets.seen c.formula_entries.new.sets in
    let f = ctl_of c.args.formula.now in
    moved_added s0.over (regions s0 c.args.visits.now) (region s0 c.args.within.now) (region s0 c.args.fair.now) (formulas_hold s0.over (path_nodes f)) c.args.number f s0 s1 (g.S.StateSets.seen c.add_numbered.new.sets) c.in_ok-own.own
    c.args.entries.now.items c.add_numbered.new.entries.items
    (subst (λ n. IsCall (formulas_hold s0.over n) s0 s1 (entries_own c.in_ok-own.own) (Ok c.in_ok-own.own)) (sym (c.is_leaf.ensures.path c.if-is_leaf.false)) c.in_ok-own.ensures.call) (inr c.in_ok-own.ensures.entries) c.add_numbered.result c.add_numbered.ensures
