use Rattle.std.proofs.Common.{sym, ◌∙◌, ap, subst, ◌≤◌, arith, length, List}
use Rattle.std.proofs.lemmas.Result.{err_from_is_err_and}
use Rattle.kripke_model.specs.Size.{term_nodes, nesting}
use Rattle.smv_names.specs.declared.sizes.Size.{Size}
use Rattle.smv_names.specs.Known.{AreSizes}
use Rattle.smv_names.specs.Expands.{Expands}
use Rattle.smv_instantiate.specs.Items.{plain_item}
use Rattle.smv_instantiate.specs.Refuses.{expression}
use Rattle.smv_instantiate.proofs.Members.{slice_in}
use Rattle.smv_instantiate.proofs.PassLemmas.{own_refused, passes, paths_refused, right_sound, scope_below}
use Rattle.smv_instantiate.proofs.TermLemmas.{stands_for}
use Rattle.smv_instantiate.proofs.checks.check_item.Goals as goal

pub check_item_paths-requires : goal.check_item_paths-requires
check_item_paths-requires c = let r = c.requires in (r.0, r.1, r.3, r.4)

pub count_item-requires : goal.count_item-requires
count_item-requires c = let r = c.requires in (r.0, r.1, r.3, r.4)

pub size-requires : goal.size-requires
size-requires c =
    let r = c.requires in let paths = r.3.expands.paths_are in
    (r.0, paths.targets_are, scope_below r.0 c.args.i r.1 r.4, ap length c.deref.ensures.value ∙ paths.size_count)

pub add_size-requires : goal.add_size-requires
add_size-requires c =
    let r = c.requires in
    let counted = c.in_ok-counted.ensures r.0 r.1 r.2 r.3 r.4 r.5.counts in
    let few : c.args.totals.now.nodes ≤ 200000 = r.5.few_nodes in
    omega (arith, few, counted.1)

pub returns-in_err-check_item_paths : goal.returns-in_err-check_item_paths
returns-in_err-check_item_paths c = λ p s before tables at passed.
    let q = err_from_is_err_and c.from_residual.result c.from_residual.ensures.1 in
    rw (q.1, q.2) (paths_refused p before s (plain_item c.args.item.now) _ (c.in_err-check_item_paths.ensures p s tables at))

pub returns-in_err-counted : goal.returns-in_err-counted
returns-in_err-counted c = λ p s before tables at passed.
    let paths = c.in_ok-check_item_paths.ensures p s tables at in
    let q = err_from_is_err_and c.from_residual-in_err-counted.result c.from_residual-in_err-counted.ensures.1 in
    rw (q.1, q.2) (own_refused p before s (plain_item c.args.item.now) _ paths.1 (c.in_err-counted.ensures p s before tables at passed.counts))

pub returns : goal.returns
returns c = λ p s before tables at passed.
    let i = plain_item c.args.item.now in
    let paths = c.in_ok-check_item_paths.ensures p s tables at in
    let counted = c.in_ok-counted.ensures p s before tables at passed.counts in
    let known = tables.expands.paths_are in
    let term = stands_for p tables.instances_are.silent tables.expands.written known.defined s (expression i) (slice_in _ c.args.i s at) (right_sound p s i paths.0) in
    let sizes = subst (λ (zs : List Size). AreSizes p zs) (sym c.deref.ensures.value) known.sizes_are in
    let measured = c.in_ok-measured.ensures p s known.targets_are at (λ v a numbered named. sizes v a numbered) term.0 (subst (λ e. Expands p s e term.0) (sym c.right.ensures) term.1) in
    passes p before s i c.args.totals.now passed term.0 term.1 c.in_ok-counted.counted c.line.result c.add_size.result c.line.ensures paths.1 counted.0 counted.1 counted.2 counted.3
    (c.add_size.ensures (term_nodes term.0) (nesting term.0) measured)
