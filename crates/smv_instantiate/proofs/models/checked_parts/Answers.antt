use Rattle.std.proofs.Common.{◌∙◌, sym, subst, ap, ◌≤◌, List, length, map}
use Rattle.kripke_model.specs.System.{Variable}
use Rattle.kripke_model.specs.Flat.{AreDistinct}
use Rattle.smv_instances.specs.Instances.{variables}
use Rattle.smv_instantiate.specs.Firsts.{AreFirsts}
use Rattle.smv_instantiate.specs.Names.{AreVariableNames}
use Rattle.smv_instantiate.proofs.Members.{distinct_pairs}
use Rattle.smv_instantiate.proofs.BodyLemmas.{names_of}
use Rattle.smv_instantiate.proofs.DeclaredLemmas.{names_distinct, variable_count}
use Rattle.smv_instantiate.proofs.ModelLemmas.{all_expandable, tables_of}
use Rattle.smv_instantiate.proofs.models.checked_parts.Goals as goal

pub of-requires-clause-distinct : goal.of-requires-clause-distinct
of-requires-clause-distinct c =
    let r = c.requires in
    subst (λ (vs : List Variable). AreDistinct (map (λ (v : Variable). v.name) vs)) (sym r.4) (distinct_pairs (names_of (variables r.0)) (names_distinct r.0 r.1.silent r.3))

pub of-requires-clause-few : goal.of-requires-clause-few
of-requires-clause-few c =
    let r = c.requires in
    subst (λ (vs : List Variable). length vs ≤ 256) (sym r.4) (variable_count r.0 r.1.silent r.3)

pub parts_of-requires : goal.parts_of-requires
parts_of-requires c =
    let r = c.requires in
    let named : AreVariableNames r.0 c.in_ok-names.names = c.in_ok-names.ensures ∙ ap (map (λ (v : Variable). v.name)) r.4 in
    let firsts = c.in_ok-firsts.ensures r.0 r.2.targets_are r.3 named in
    let checked = tables_of r.0 c.args.instances.now c.args.paths.now c.deref.result.now r.1 r.2 (subst (AreFirsts r.0) (sym c.deref.ensures.value) firsts) r.3 in
    let tables = tables_of r.0 c.args.instances.now c.args.paths.now c.deref-2.result.now r.1 r.2 (subst (AreFirsts r.0) (sym c.deref-2.ensures.value) firsts) r.3 in
    (r.0, tables, all_expandable r.0 r.1.silent r.3 (c.in_ok-check_items.ensures r.0 checked).0)

pub returns : goal.returns
returns c = λ p are known written vars.
    let named : AreVariableNames p c.in_ok-names.names = c.in_ok-names.ensures ∙ ap (map (λ (v : Variable). v.name)) vars in
    let firsts = c.in_ok-firsts.ensures p known.targets_are written named in
    let tables = tables_of p c.args.instances.now c.args.paths.now c.deref.result.now are known (subst (AreFirsts p) (sym c.deref.ensures.value) firsts) written in
    let expanded = tables_of p c.args.instances.now c.args.paths.now c.deref-2.result.now are known (subst (AreFirsts p) (sym c.deref-2.ensures.value) firsts) written in
    let checked = c.in_ok-check_items.ensures p tables in
    (c.in_ok-parts.ensures p expanded (all_expandable p are.silent written checked.0), checked.1)
