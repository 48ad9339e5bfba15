use Rattle.std.proofs.Common.{◌≡◌, Some, map}
use Rattle.std.specs.Prelude.{All}
use Rattle.smv_instances.specs.Program.{Program}
use Rattle.smv_instances.specs.Instances.{Scope}
use Rattle.smv_instances.specs.Numbered.{scope_at}
use Rattle.smv_names.specs.Mentions.{plain_mention}
use Rattle.smv_names.specs.Ready.{AreTargets}
use Rattle.smv_names.specs.Known.{AreNumbers, IsKnown}
use Rattle.smv_names.specs.Sound.{HasIndexes}
use Rattle.smv_names.proofs.CheckLemmas.{FirstHave}
use Rattle.smv_names.proofs.checks.check_indexes.Given as goal

abbrev pub invariant-loop-mention : goal.invariant-loop-mention
invariant-loop-mention l =
    (p : Program) (s : Scope) → AreTargets p l.instances l.targets → scope_at p l.i ≡ Some s → AreNumbers p l.numbers → All (IsKnown p s) (map plain_mention l.mentions)
    → FirstHave (λ m. HasIndexes p s m.path) (map plain_mention l.mentions) l.mention-index
