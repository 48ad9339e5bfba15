-- The symbolic constants of bodies.
use Rattle.std.specs.Prelude.{List, flat_map}
use Rattle.smv_instances.specs.Program.{Name}
use Rattle.smv_instances.specs.Entries.{Entry, entries}
use Rattle.smv_instances.specs.Instances.{Scope, module_of, atoms_of}

abbrev pub entry_atoms : List Entry → List Name
entry_atoms es = flat_map (λ e. atoms_of e.entity) es

-- the names in the types of one body
abbrev pub body_atoms : Scope → List Name
body_atoms s = entry_atoms (entries (module_of s))
