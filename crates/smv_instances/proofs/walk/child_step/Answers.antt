use Rattle.std.proofs.Common.{refl, sym, ◌∙◌, ap, map}
use Rattle.std.specs.Prelude.{option_map}
use Rattle.std.specs.List.{list_any}
use Rattle.std.specs.Str.{bytes_eq}
use Rattle.smv_instances.specs.Plain.{plain_expr}
use Rattle.smv_instances.specs.Instances.{Scope}
use Rattle.smv_instances.proofs.RowLemmas.{module_absent, module_present}
use Rattle.smv_instances.proofs.walk.child_step.Goals as goal

pub returns-in_err-table-clause-none : goal.returns-in_err-table-clause-none
returns-in_err-table-clause-none c = rw c.from_residual.ensures (λ p s mods.
    rw c.in-Instance.is (ap (option_map (Scope.Inside s c.args.entry.now.name.now c.in-Instance.process (map plain_expr c.in-Instance.actuals.now)))
    (module_absent c.args.modules.now p c.in-Instance.source.now mods (ap (λ x. list_any (bytes_eq x) c.args.modules.now.names) (sym c.as_str.ensures) ∙ c.in_err-table.ensures.none))))

pub returns-clause-some : goal.returns-clause-some
returns-clause-some c = λ p s mods.
    let named = module_present c.args.modules.now p c.in-Instance.source.now c.in_ok-table.table mods (rw (← c.as_str.ensures) c.in_ok-table.ensures.place) c.in_ok-table.ensures.within in
    record {
      m = named.m;
      is = rw c.in-Instance.is (ap (option_map (Scope.Inside s c.args.entry.now.name.now c.in-Instance.process (map plain_expr c.in-Instance.actuals.now))) named.is);
      from = refl;
      stands = named.stands;
    }
