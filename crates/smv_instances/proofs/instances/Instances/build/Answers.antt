use Rattle.std.proofs.Common.{◌≡◌, ap, sym, ◌∙◌, subst, ◌<◌, arith, length, map, inr}
use Rattle.std.proofs.lemmas.Result.{err_from_is_err_and}
use Rattle.kripke_model.specs.Refusing.{Silent}
use Rattle.kripke_model.proofs.FirstLemmas.{silent_then}
use Rattle.smv_instances.specs.Entries.{entries}
use Rattle.smv_instances.specs.Plain.{plain_program}
use Rattle.smv_instances.specs.Instances.{instances, symbols}
use Rattle.smv_instances.specs.Declarations.{declarations, named_constant, no_main, refused_declarations, second_module}
use Rattle.smv_instances.specs.Numbered.{plain_entry}
use Rattle.smv_instances.specs.Program.{Program}
use Rattle.smv_instances.specs.Walk.{AreRows}
use Rattle.smv_instances.proofs.RowLemmas.{table_at, within_tables}
use Rattle.smv_instances.proofs.BuildLemmas.{constants_of, symbols_bodies}
use Rattle.smv_instances.proofs.InstanceLemmas.{selector_bodies, constants_main}
use Rattle.smv_instances.proofs.instances.Instances.build.Goals as goal

pub index-table-requires : goal.index-table-requires
index-table-requires c =
    let p = plain_program c.args.program.now in
    let starts = c.in_ok-main.ensures.main p c.in_ok-modules.ensures.modules in
    let within : c.in_ok-main.main < length c.in_ok-modules.modules.tables.items = within_tables _ _ _ starts.stands in
    omega (arith, within, c.in_ok-modules.modules.tables.ok.0)

pub returns-in_err-check_constants-clause-answers : goal.returns-in_err-check_constants-clause-answers
returns-in_err-check_constants-clause-answers c =
    let p = plain_program c.args.program.now in
    let mods = c.in_ok-modules.ensures.modules in
    let starts = c.in_ok-main.ensures.main p mods in
    let walk = c.in_ok-walk.ensures p starts in
    let named : c.in_ok-symbols.symbols ≡ symbols p = c.in_ok-symbols.ensures (instances p) (subst (λ rows. AreRows c.in_ok-modules.modules rows (instances p)) (sym c.deref.ensures.value) walk.0.rows) ∙ sym (symbols_bodies p) in
    let table = table_at _ c.in_ok-main.main starts.m c.index-table.result.now starts.stands c.index-table.ensures in
    let own : map plain_entry c.deref-2.result.now ≡ entries starts.m = ap (map plain_entry) c.deref-2.ensures.value ∙ table.declares in
    let rules : constants_of (map plain_entry c.deref-2.result.now) c.in_ok-symbols.symbols ≡ named_constant p = constants_main p starts.m _ _ starts.is own named in
    let q = err_from_is_err_and c.from_residual-in_err-check_constants.result c.from_residual-in_err-check_constants.ensures.1 in
    rw (q.1, q.2) (inr (inr (c.in_ok-modules.ensures.ok, inr (c.in_ok-main.ensures.ok p mods, inr (walk.2, subst (λ rule. rule c.in_err-check_constants.field-0.0) rules c.in_err-check_constants.ensures.refused)))))

all_silent : (p : Program) → Silent (second_module p) → Silent (no_main p) → Silent (declarations p) → Silent (named_constant p) → Silent (refused_declarations p)
all_silent p a b d e = silent_then a (silent_then b (silent_then d e))

pub returns-clause-built : goal.returns-clause-built
returns-clause-built c =
    let p = plain_program c.args.program.now in
    let mods = c.in_ok-modules.ensures.modules in
    let starts = c.in_ok-main.ensures.main p mods in
    let walk = c.in_ok-walk.ensures p starts in
    let named : c.in_ok-symbols.symbols ≡ symbols p = c.in_ok-symbols.ensures (instances p) (subst (λ rows. AreRows c.in_ok-modules.modules rows (instances p)) (sym c.deref.ensures.value) walk.0.rows) ∙ sym (symbols_bodies p) in
    let table = table_at _ c.in_ok-main.main starts.m c.index-table.result.now starts.stands c.index-table.ensures in
    let own : map plain_entry c.deref-2.result.now ≡ entries starts.m = ap (map plain_entry) c.deref-2.ensures.value ∙ table.declares in
    let rules : constants_of (map plain_entry c.deref-2.result.now) c.in_ok-symbols.symbols ≡ named_constant p = constants_main p starts.m _ _ starts.is own named in
    record {
      known = mods;
      are = walk.0.rows;
      linked = walk.1;
      entered = walk.0.processes;
      selected = walk.0.counts.process ∙ sym (selector_bodies p);
      named = named;
      silent = all_silent p c.in_ok-modules.ensures.ok (c.in_ok-main.ensures.ok p mods) walk.2 (subst Silent rules c.in_ok-check_constants.ensures.ok);
    }

pub returns-clause-answers : goal.returns-clause-answers
returns-clause-answers c =
    let p = plain_program c.args.program.now in
    let mods = c.in_ok-modules.ensures.modules in
    let starts = c.in_ok-main.ensures.main p mods in
    let walk = c.in_ok-walk.ensures p starts in
    let named : c.in_ok-symbols.symbols ≡ symbols p = c.in_ok-symbols.ensures (instances p) (subst (λ rows. AreRows c.in_ok-modules.modules rows (instances p)) (sym c.deref.ensures.value) walk.0.rows) ∙ sym (symbols_bodies p) in
    let table = table_at _ c.in_ok-main.main starts.m c.index-table.result.now starts.stands c.index-table.ensures in
    let own : map plain_entry c.deref-2.result.now ≡ entries starts.m = ap (map plain_entry) c.deref-2.ensures.value ∙ table.declares in
    let rules : constants_of (map plain_entry c.deref-2.result.now) c.in_ok-symbols.symbols ≡ named_constant p = constants_main p starts.m _ _ starts.is own named in
    all_silent p c.in_ok-modules.ensures.ok (c.in_ok-main.ensures.ok p mods) walk.2 (subst Silent rules c.in_ok-check_constants.ensures.ok)
