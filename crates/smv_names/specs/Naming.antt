-- The abbreviations that paths name.
use Rattle.std.specs.Prelude.{List, Any}
use Rattle.smv_instances.specs.Program.{Program}
use Rattle.smv_instances.specs.Instances.{Scope}
use Rattle.smv_names.specs.Abbreviations.{Mention, Abbreviation, fronts, Names}

-- the path, or a front of it, names the abbreviation
abbrev pub InFronts : Program → Scope → Abbreviation → Mention → Type 0
InFronts p s a m = Any (λ q. Names p s q a) (fronts m.path)

-- one of the paths does
abbrev pub NamedIn : Program → Scope → List Mention → Abbreviation → Type 0
NamedIn p s ms a = Any (InFronts p s a) ms
