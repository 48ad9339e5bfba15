use Rattle.std.proofs.Common.{◌≡◌, Some, map, take}
use Rattle.smv_instances.specs.Program.{Program}
use Rattle.smv_instances.specs.Instances.{Scope}
use Rattle.smv_instances.specs.Numbered.{scope_at}
use Rattle.smv_names.specs.Mentions.{plain_mention}
use Rattle.smv_names.specs.Ready.{AreTargets}
use Rattle.smv_names.specs.Uses.{AreNamed}
use Rattle.smv_names.proofs.uses.push_named.Given as goal

abbrev pub invariant-loop-mention : goal.invariant-loop-mention
invariant-loop-mention l = (p : Program) (s : Scope) → AreTargets p l.instances l.targets → scope_at p l.i ≡ Some s → AreNamed p s (map plain_mention (take l.mention-index l.mentions)) l.numbers.items
