-- What a path denotes in the scope of an instance.
use Rattle.std.specs.Prelude.{◌≡◌, ℕ, List, [], ◌∷◌, Option, Some, None, option_map, option_and_then, find, zip, IsTrue}
use Rattle.std.specs.Str.{bytes_eq}
use Rattle.smv_instances.specs.Program.{Name, Expr, Path, Plain, Program}
use Rattle.smv_instances.specs.Entries.{Entity, entity_in, module_named}
use Rattle.smv_instances.specs.Instances.{Scope, module_of, is_symbol}

-- an index that is written in a scope, and the bounds of what it selects from
pub record Bracket : Type 0 where
  pub low : ℕ
  pub high : ℕ
  pub scope : Scope
  pub index : Expr

pub data Target : Type 0 where
  -- what the indexes, the last one first, leave of the variable or array x of the instance home
  Stored : (home : Scope) → (x : Name) → (type : Plain) → (indexes : List Bracket) → Target
  -- a defined expression or an actual parameter, and the scope in which it is read
  Reading : (home : Scope) → (e : Expr) → Target
  Instance : (i : Scope) → Target
  Constant : (x : Name) → Target

-- parentheses only group
abbrev pub bare : Expr → Expr
bare (Expr.Parens e) = bare e
bare e = e

-- what a name leads to: a target at once, or a path that was passed, in the scope of the caller
pub data Meaning : Type 0 where
  Direct : (t : Target) → Meaning
  Passed : (around : Scope) → (q : Path) → Meaning

-- an actual parameter
abbrev pub passed : Scope → Expr → Meaning
passed around (Expr.At q) = Passed around q
passed around e = Direct (Target.Reading around e)

-- the actual parameter for the formal parameter x, and the scope in which it is read
abbrev pub actual_of : Scope → Name → Option (Scope × Expr)
actual_of (Scope.Main m) x = None
actual_of (Scope.Inside around name process actuals m) x =
    option_map (λ pair. (around, bare pair.1))
    (find (λ pair. bytes_eq pair.0.name x) (zip m.formals actuals))

abbrev pub meaning_of : Program → Scope → Name → Entity → Option Meaning
meaning_of p s x Entity.Parameter = option_map (λ r. passed r.0 r.1) (actual_of s x)
meaning_of p s x (Entity.Stored type) = Some (Direct (Target.Stored s x type []))
meaning_of p s x (Entity.Instance process module_name actuals)
    = option_map (λ m. Direct (Target.Instance (Scope.Inside s x process actuals m)))
    (module_named p module_name)
meaning_of p s x (Entity.Defined body) = Some (Direct (Target.Reading s body))

-- what the instance's module declares under the name
abbrev pub meaning : Program → Scope → Name → Option Meaning
meaning p s x = option_and_then (meaning_of p s x) (entity_in (module_of s) x)

mutual
  -- the name x of the instance s
  pub data Finds (p : Program) : Scope → Name → Target → Type 0 where
    direct : {s : Scope} {x : Name} {t : Target} → meaning p s x ≡ Some (Direct t) → Finds p s x t
    passed_on : {s : Scope} {x : Name} {around : Scope} {q : Path} {t : Target}
        → meaning p s x ≡ Some (Passed around q) → Denotes p around q t → Finds p s x t

  -- the path q, read in the scope of s
  pub data Denotes (p : Program) : Scope → Path → Target → Type 0 where
    here : {s : Scope} {line : ℕ} {x : Name} {t : Target} → Finds p s x t
        → Denotes p s (Path.Here line x) t
    constant : {s : Scope} {line : ℕ} {x : Name} → meaning p s x ≡ None → IsTrue (is_symbol p x)
        → Denotes p s (Path.Here line x) (Target.Constant x)
    field : {s : Scope} {q : Path} {i : Scope} {x : Name} {t : Target}
        → Denotes p s q (Target.Instance i) → Finds p i x t → Denotes p s (Path.Field q x) t
    index : {s : Scope} {q : Path} {home : Scope} {x : Name} {low high : ℕ} {element : Plain}
        {indexes : List Bracket} {e : Expr}
        → Denotes p s q (Target.Stored home x (Plain.Array low high element) indexes)
        → Denotes p s (Path.Index q e)
        (Target.Stored home x element
        (record { low = low; high = high; scope = s; index = e } ∷ indexes))
