-- What the code says that a path denotes.
use Rattle.std.specs.Prelude.{◌≡◌, ℕ, List, reverse, Option, Some, None}
use Rattle.smv_names.specs.declared.targets.Bracket.{Bracket as Held}
use Rattle.smv_names.specs.declared.targets.Target.{Target as Code}
use Rattle.smv_names.specs.declared.targets.Target.TheVariants as held
use Rattle.smv_instances.specs.Program.{Name, Expr, Path, Program}
use Rattle.smv_instances.specs.Plain.{plain_expr, plain_type}
use Rattle.smv_instances.specs.Instances.{Scope, place_of, symbols}
use Rattle.smv_instances.specs.Numbered.{scope_at}
use Rattle.std.specs.List.{AllZip}
use Rattle.smv_names.specs.Denotes.{Bracket, Target, Denotes, Finds}
use Rattle.smv_names.specs.Abbreviations.{Abbreviation, text_of}
use Rattle.smv_names.specs.Nodes.{abbreviation_at}

-- ---- targets

pub record IsBracket (p : Program) (held : Held) (b : Bracket) : Type 0 where
  pub low_is : held.low ≡ b.low
  pub high_is : held.high ≡ b.high
  pub scope_is : scope_at p held.scope ≡ Some b.scope
  pub index_is : plain_expr held.index.now ≡ b.index

-- the code has the first index first
abbrev pub AreBrackets : Program → List Held → List Bracket → Type 0
AreBrackets p held indexes = AllZip (IsBracket p) held (reverse indexes)

-- the abbreviation with this number stands for the expression e, which is read in s
pub record IsText (p : Program) (node : ℕ) (s : Scope) (e : Expr) : Type 0 where
  pub abbreviation : Abbreviation
  pub numbered : abbreviation_at p node ≡ Some abbreviation
  pub text : text_of abbreviation ≡ Some (s, e)

abbrev pub IsTarget : Program → Code → Target → Type 0
IsTarget p (held.Stored home name plain indexes) (Target.Stored s x type brackets)
    = (scope_at p home ≡ Some s) × (name.now ≡ x) × (plain_type plain.now ≡ type)
    × AreBrackets p indexes.items brackets
IsTarget p (held.Reading home right node) (Target.Reading s e)
    = (scope_at p home ≡ Some s) × (plain_expr right.now ≡ e) × IsText p node s e
IsTarget p (held.Instance number) (Target.Instance i) = scope_at p number ≡ Some i
IsTarget p (held.Constant place) (Target.Constant x) = place ≡ place_of (symbols p) x
IsTarget p t u = ⊥

-- what the path q, read in s, denotes
abbrev pub Resolves : Program → Scope → Path → Option Code → Type 0
Resolves p s q None = (t : Target) → Denotes p s q t → ⊥
Resolves p s q (Some held) = (t : Target) × IsTarget p held t × Denotes p s q t

-- what the name x of the instance s leads to
abbrev pub LeadsTo : Program → Scope → Name → Option Code → Type 0
LeadsTo p s x None = (t : Target) → Finds p s x t → ⊥
LeadsTo p s x (Some held) = (t : Target) × IsTarget p held t × Finds p s x t
