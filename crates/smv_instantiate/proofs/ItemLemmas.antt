-- The kinds of the conditions of a program.
use Rattle.std.proofs.Common.{◌≡◌, refl, ℕ}
use Rattle.smv_parser.specs.declared.program.Condition.{Condition}
use Rattle.smv_parser.specs.Tree.{Tree}
use Rattle.smv_instances.specs.Abstract.{stated}
use Rattle.smv_instantiate.specs.Items.{kind_of}

pub stated_kind : (c : Condition) (line : ℕ) (e : Tree) → (stated c line e).kind ≡ kind_of c
stated_kind Condition.Init line e = refl
stated_kind Condition.Invar line e = refl
stated_kind Condition.Trans line e = refl
stated_kind Condition.Spec line e = refl
stated_kind Condition.Fairness line e = refl
