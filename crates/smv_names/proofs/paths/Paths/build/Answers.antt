use Rattle.std.proofs.Common.{◌∙◌, sym, ap, subst, List, Option, ℤ, length}
use Rattle.smv_names.specs.Known.{AreNumbers}
use Rattle.smv_names.specs.Definitions.{AreReady}
use Rattle.smv_names.proofs.paths.Paths.build.Goals as goal

pub returns-clause-paths : goal.returns-clause-paths
returns-clause-paths c = λ p are.
    let targets = c.in_ok-targets.ensures p are in
    let ordered = c.in_ok-order.ensures p targets in
    let tables = c.in_ok-tables.ensures p targets ordered in
    let ready : AreReady p c.args.instances.now c.in_ok-targets.targets c.in_ok-order.order c.deref.result.now = record {
      targets_are = targets;
      ordered = ordered;
      numbers_are = subst (λ (ns : List (Option ℤ)). AreNumbers p ns) (sym c.deref.ensures.value) tables.0;
      count = ap (λ (ns : List (Option ℤ)). length ns) c.deref.ensures.value ∙ tables.1;
    } in record {
      targets_are = targets;
      numbers_are = tables.0;
      number_count = tables.1;
      sizes_are = tables.2;
      size_count = tables.3;
      ends_are = tables.4;
      end_count = tables.5;
      defined = c.in_ok-check_definitions.ensures.defined p ready;
    }
