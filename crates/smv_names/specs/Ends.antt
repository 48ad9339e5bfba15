-- The ends of chains of definitions each of which is a path alone.
use Rattle.std.specs.Prelude.{◌≡◌, ℕ, ◌⊎◌, List, Some, length, slice_index_or}
use Rattle.kripke_model.specs.Term.{Term}
use Rattle.smv_instances.specs.Program.{Expr, Path, Program}
use Rattle.smv_instances.specs.Instances.{Scope, all_entries}
use Rattle.smv_names.specs.Denotes.{Target, Denotes, bare}
use Rattle.smv_names.specs.Expands.{Expands}
use Rattle.smv_names.specs.Abbreviations.{Mention, mentions, Abbreviation, text_of, Leads, IsCircular}
use Rattle.smv_names.specs.Nodes.{abbreviation_at}
use Rattle.smv_names.specs.Naming.{NamedIn}
use Rattle.smv_names.specs.Targets.{IsText}

-- the expression of the abbreviation with this number stands for the same as the expression e of the instance s, and is no path to a further expression
pub record IsEnd (p : Program) (s : Scope) (e : Expr) (node : ℕ) : Type 0 where
  pub scope : Scope
  pub expr : Expr
  pub text : IsText p node scope expr
  pub same : (t : Term) → Expands p s e t → Expands p scope expr t
  pub last : (q : Path) (h : Scope) (f : Expr) → bare expr ≡ Expr.At q
      → Denotes p scope q (Target.Reading h f) → ⊥

-- the number that stands where there is no end: that of all abbreviations together
abbrev pub no_end : Program → ℕ
no_end p = length (all_entries p)

-- b is circular, or leads to an abbreviation that is
pub record IsStuck (p : Program) (b : Abbreviation) : Type 0 where
  pub number : ℕ
  pub circle : Abbreviation
  pub numbered : abbreviation_at p number ≡ Some circle
  pub circular : IsCircular p circle
  pub leads : (b ≡ circle) ⊎ Leads p b circle

-- the expression names such an abbreviation, so it stands for no term
abbrev pub IsStuckIn : Program → Scope → Expr → Type 0
IsStuckIn p s e = (b : Abbreviation) × NamedIn p s (mentions e) b × IsStuck p b

-- the number of the end of the chain that begins with the expression, or of none where it leads into a circle
abbrev pub IsEndOf : Program → Scope → Expr → ℕ → Type 0
IsEndOf p s e node = IsEnd p s e node ⊎ (IsStuckIn p s e × (node ≡ no_end p))

-- that of an abbreviation
abbrev pub EndOf : Program → Abbreviation → ℕ → Type 0
EndOf p a node = (s : Scope) (e : Expr) → text_of a ≡ Some (s, e) → IsEndOf p s e node

-- those of the abbreviations that the paths name
abbrev pub AreEndsIn : Program → List ℕ → Scope → List Mention → Type 0
AreEndsIn p ends s ms
    = (v : ℕ) (a : Abbreviation) → abbreviation_at p v ≡ Some a → NamedIn p s ms a
    → EndOf p a (slice_index_or ends v (no_end p))

-- those of all abbreviations
abbrev pub AreEnds : Program → List ℕ → Type 0
AreEnds p ends
    = (v : ℕ) (a : Abbreviation) → abbreviation_at p v ≡ Some a
    → EndOf p a (slice_index_or ends v (no_end p))
