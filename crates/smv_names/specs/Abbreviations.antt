-- What paths, definitions and actual parameters are refused for.
use Rattle.std.specs.Prelude.{◌≡◌, ℕ, Bool, true, false, ◌||◌, not, List, [], ◌∷◌, ◌++◌, flat_map, Option, Some, None, IsTrue, Any, option_and_then, ◌⊎◌}
use Rattle.std.specs.List.{cons_option}
use Rattle.kripke_model.specs.Refusing.{refuse, ◌then◌, first_of}
use Rattle.kripke_model.specs.declared.refusals.FlatRefusal.{FlatRefusal}
use Rattle.smv_instances.specs.Program.{Name, Expr, Exprs, Path, Constant, Plain, Module, Program, Kind, Assigned, Stated}
use Rattle.smv_instances.specs.Program
use Rattle.smv_instances.specs.Entries.{Entity, Entry, entity_in}
use Rattle.smv_instances.specs.Instances.{Scope, module_of, child}
use Rattle.smv_names.specs.Denotes.{Bracket, Target, bare, actual_of, Denotes}
use Rattle.smv_names.specs.Expands.{IsIndex, is_array}
use Rattle.smv_instances.specs.Declarations.{Refusal, PlacedEntry, nothing}

-- ---- paths

-- a path that is written in an expression, and whether a value is wanted there
pub record Mention : Type 0 where
  pub path : Path
  pub wanted : Bool

abbrev pub line_of : Path → ℕ
line_of (Path.Here line x) = line
line_of (Path.Field q x) = line_of q
line_of (Path.Index q e) = line_of q

-- in text order
abbrev mutual
  pub mentions : Expr → List Mention
  mentions (Expr.Number n) = []
  mentions (Expr.Truth b) = []
  mentions Expr.Running = []
  mentions (Expr.At q) = record { path = q; wanted = true } ∷ index_mentions q
  mentions (Expr.Next e) = mentions e
  mentions (Expr.Parens e) = mentions e
  mentions (Expr.Braces es) = element_mentions es
  mentions (Expr.Case arms) = arm_mentions arms
  mentions (Expr.Not e) = mentions e
  mentions (Expr.Binary op a b) = mentions a ++ mentions b
  mentions (Expr.Quant op e) = mentions e
  mentions (Expr.Until all a b) = mentions a ++ mentions b

  pub element_mentions : Exprs → List Mention
  element_mentions Exprs.none = []
  element_mentions (Exprs.more e es) = mentions e ++ element_mentions es

  pub arm_mentions : Program.Arms → List Mention
  arm_mentions Program.Arms.esac = []
  arm_mentions (Program.Arms.arm guard right rest)
      = mentions guard ++ mentions right ++ arm_mentions rest

  -- those in its indexes
  pub index_mentions : Path → List Mention
  index_mentions (Path.Here line x) = []
  index_mentions (Path.Field q x) = index_mentions q
  index_mentions (Path.Index q e) = index_mentions q ++ mentions e

-- those of an actual parameter, which may denote an instance or an array
abbrev pub actual_mentions : Expr → List Mention
actual_mentions e = of_bare (bare e)
  where
    of_bare : Expr → List Mention
    of_bare (Expr.At q) = record { path = q; wanted = false } ∷ index_mentions q
    of_bare other = mentions other

abbrev pub is_value : Target → Bool
is_value (Target.Stored home x type indexes) = not (is_array type)
is_value (Target.Reading home e) = true
is_value (Target.Instance i) = false
is_value (Target.Constant x) = true

-- an index of the path has no value within the bounds
abbrev pub HasBadIndex : Program → Scope → Path → Type 0
HasBadIndex p s (Path.Here line x) = ⊥
HasBadIndex p s (Path.Field q x) = HasBadIndex p s q
HasBadIndex p s (Path.Index q e) = HasBadIndex p s q ⊎ SelectsNothing
  where
    SelectsNothing : Type 0
    SelectsNothing
        = (home : Scope) × (x : Name) × (low : ℕ) × (high : ℕ) × (element : Plain)
        × (indexes : List Bracket)
        × Denotes p s q (Target.Stored home x (Plain.Array low high element) indexes)
        × ((n : ℕ) → IsIndex p (record { low = low; high = high; scope = s; index = e }) n → ⊥)

abbrev pub unknown_path : Program → Scope → Mention → Refusal
unknown_path p s m
    = refuse (FlatRefusal.UnknownName (line_of m.path))
    ((t : Target) → Denotes p s m.path t → IsTrue (not m.wanted || is_value t) → ⊥)

abbrev pub bad_index : Program → Scope → Mention → Refusal
bad_index p s m = refuse (FlatRefusal.BadIndex (line_of m.path)) (HasBadIndex p s m.path)

abbrev pub path_rows : Program → Scope → List Mention → Refusal
path_rows p s ms = first_of ms (unknown_path p s) then first_of ms (bad_index p s)

-- ---- definitions and actual parameters

-- a name that stands for an expression: a defined symbol or a formal parameter of an instance
pub record Abbreviation : Type 0 where
  pub scope : Scope
  pub name : Name

-- its expression, and the scope in which that is read
abbrev pub text_of : Abbreviation → Option (Scope × Expr)
text_of a = option_and_then of_entity (entity_in (module_of a.scope) a.name)
  where
    of_entity : Entity → Option (Scope × Expr)
    of_entity Entity.Parameter = actual_of a.scope a.name
    of_entity (Entity.Stored type) = None
    of_entity (Entity.Instance process module_name actuals) = None
    of_entity (Entity.Defined body) = Some (a.scope, body)

-- the path and its fronts
abbrev pub fronts : Path → List Path
fronts (Path.Here line x) = Path.Here line x ∷ []
fronts (Path.Field q x) = Path.Field q x ∷ fronts q
fronts (Path.Index q e) = Path.Index q e ∷ fronts q

-- the path q, read in s, names the abbreviation
abbrev pub Names : Program → Scope → Path → Abbreviation → Type 0
Names p s (Path.Here line x) a = (a.scope ≡ s) × (a.name ≡ x)
Names p s (Path.Field q x) a = Denotes p s q (Target.Instance a.scope) × (a.name ≡ x)
Names p s (Path.Index q e) a = ⊥

-- the expression of a names b
abbrev pub Uses : Program → Abbreviation → Abbreviation → Type 0
Uses p a b = (home : Scope) × (e : Expr) × (text_of a ≡ Some (home, e))
    × Any (λ m. Any (λ q. Names p home q b) (fronts m.path)) (mentions e)

pub data Leads (p : Program) : Abbreviation → Abbreviation → Type 0 where
  one : {a b : Abbreviation} → Uses p a b → Leads p a b
  more : {a b c : Abbreviation} → Uses p a b → Leads p b c → Leads p a c

abbrev pub IsCircular : Program → Abbreviation → Type 0
IsCircular p a = Leads p a a

abbrev pub definition_rows : Program → Scope → Entry → Entity → Refusal
definition_rows p s e (Entity.Defined body) =
    refuse (FlatRefusal.CircularDefine e.line) (IsCircular p (record { scope = s; name = e.name }))
    then path_rows p s (mentions body)
definition_rows p s e (Entity.Instance process module_name actuals) =
    refuse (FlatRefusal.CircularDefine e.line)
    (Any HasCircularActual (cons_option (child p s e) []))
    then path_rows p s (flat_map actual_mentions actuals)
  where
    HasCircularActual : Scope → Type 0
    HasCircularActual c
        = Any (λ f. IsCircular p (record { scope = c; name = f.name })) (module_of c).formals
definition_rows p s e Entity.Parameter = nothing
definition_rows p s e (Entity.Stored type) = nothing

abbrev pub definition : Program → PlacedEntry → Refusal
definition p (s, e) = definition_rows p s e e.entity
