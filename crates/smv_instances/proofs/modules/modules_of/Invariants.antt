use Rattle.std.proofs.Common.{◌≡◌, map, take}
use Rattle.kripke_model.specs.Refusing.{Silent}
use Rattle.smv_instances.specs.Plain.{plain_module}
use Rattle.smv_instances.specs.Declarations.{second_module}
use Rattle.smv_instances.specs.Tables.{IsTable}
use Rattle.std.specs.List.{AllZip}
use Rattle.smv_instances.proofs.modules.modules_of.Given as goal

abbrev pub invariant-loop-source : goal.invariant-loop-source
invariant-loop-source l =
    record {
      tables : AllZip IsTable l.tables.items (map plain_module (take l.source-index l.program.modules.items));
      names : l.names ≡ map (λ m. m.name) (map plain_module (take l.source-index l.program.modules.items));
      silent : Silent (second_module (map plain_module (take l.source-index l.program.modules.items)));
    }
