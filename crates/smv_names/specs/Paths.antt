-- What the paths and definitions of a program stand for.
use Rattle.std.specs.Prelude.{◌≡◌, length}
use Rattle.smv_instances.specs.declared.instances.Instances.{Instances}
use Rattle.smv_instances.specs.Program.{Program}
use Rattle.smv_instances.specs.Instances.{all_entries}
use Rattle.smv_names.specs.declared.paths.Paths.{Paths}
use Rattle.smv_names.specs.Ready.{AreTargets}
use Rattle.smv_names.specs.Known.{AreNumbers, AreSizes}
use Rattle.smv_names.specs.Ends.{AreEnds}
use Rattle.smv_names.specs.Sound.{AreDefined}

-- the tables are those of the program p, of which no definition is refused
pub record ArePaths (p : Program) (instances : Instances) (paths : Paths) : Type 0 where
  pub targets_are : AreTargets p instances paths.targets
  pub numbers_are : AreNumbers p paths.numbers.items
  pub number_count : length paths.numbers.items ≡ length (all_entries p)
  pub sizes_are : AreSizes p paths.sizes.items
  pub size_count : length paths.sizes.items ≡ length (all_entries p)
  pub ends_are : AreEnds p paths.ends.items
  pub end_count : length paths.ends.items ≡ length (all_entries p)
  pub defined : AreDefined p
