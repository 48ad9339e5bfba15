-- The table of what the formal parameters lead to.
use Rattle.std.specs.Prelude.{◌≡◌, ℕ, ◌<◌, length, Option, Some, None}
use Rattle.smv_instances.specs.declared.instances.Instances.{Instances}
use Rattle.smv_instances.specs.Program.{Name, Path, Program}
use Rattle.smv_instances.specs.Instances as tree
use Rattle.smv_instances.specs.Numbered.{scope_at}
use Rattle.smv_instances.specs.Built.{AreInstances}
use Rattle.smv_names.specs.declared.resolving.Targets.{Targets}
use Rattle.smv_names.specs.Denotes.{Meaning, Target, Denotes, meaning}
use Rattle.smv_names.specs.Abbreviations.{Abbreviation, Names, text_of}
use Rattle.smv_names.specs.Nodes.{AreNodes, abbreviation_at}
use Rattle.smv_names.specs.Passed.{AreStates, AreDecided}

-- what it has so far is right
pub record AreStarted (p : Program) (instances : Instances) (targets : Targets) : Type 0 where
  pub instances_are : AreInstances p instances
  pub nodes_are : AreNodes p targets.nodes
  pub states_are : AreStates p targets.states

-- it is whole and right
pub record AreTargets (p : Program) (instances : Instances) (targets : Targets) : Type 0 where
  pub started : AreStarted p instances targets
  pub decided : AreDecided p targets.states

-- one of the instances has this number
abbrev pub HasStarted : Instances → Targets → ℕ → Type 0
HasStarted instances targets i
    = (p : Program) × AreStarted p instances targets × (i < length (tree.instances p))

abbrev pub HasTargets : Instances → Targets → ℕ → Type 0
HasTargets instances targets i
    = (p : Program) × AreTargets p instances targets × (i < length (tree.instances p))

-- the name stands for something
abbrev pub HasMeaning : Program → tree.Scope → Name → Type 0
HasMeaning p s x = (m : Meaning) × (meaning p s x ≡ Some m)

-- the path denotes the instance with this number, or none
abbrev pub LeadsInto : Program → tree.Scope → Path → Option ℕ → Type 0
LeadsInto p s q (Some number)
    = (i : tree.Scope) × (scope_at p number ≡ Some i) × Denotes p s q (Target.Instance i)
LeadsInto p s q None = (i : tree.Scope) → Denotes p s q (Target.Instance i) → ⊥

-- the name x of s, with its number where it is declared
abbrev pub IsNamed : Program → tree.Scope → Name → Option ℕ → Type 0
IsNamed p s x (Some node) = abbreviation_at p node ≡ Some (record { scope = s; name = x })
IsNamed p s x None = text_of (record { scope = s; name = x }) ≡ None

-- the number of an abbreviation that the path names, if it may name one with an expression
abbrev pub NamesNode : Program → tree.Scope → Path → Option ℕ → Type 0
NamesNode p s q (Some node) = (a : Abbreviation) × (abbreviation_at p node ≡ Some a) × Names p s q a
NamesNode p s q None = (a : Abbreviation) → Names p s q a → text_of a ≡ None
