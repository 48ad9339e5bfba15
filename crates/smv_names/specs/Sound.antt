-- Paths and definitions that no rule refuses.
use Rattle.std.specs.Prelude.{◌≡◌, ℕ, false, not, ◌||◌, List, [], ◌∷◌, Option, Some, None, IsTrue, All}
use Rattle.smv_instances.specs.Program.{Name, Expr, Path, Plain, Program}
use Rattle.smv_instances.specs.Instances.{Scope}
use Rattle.smv_names.specs.Denotes.{Bracket, Target, Denotes, Meaning, meaning}
use Rattle.smv_names.specs.Expands.{IsIndex}
use Rattle.smv_names.specs.Abbreviations.{Mention, mentions, index_mentions, is_value, Abbreviation, text_of, IsCircular}
use Rattle.smv_names.specs.Nodes.{abbreviation_at}

-- each index of the path has a value within its bounds
abbrev pub HasIndexes : Program → Scope → Path → Type 0
HasIndexes p s (Path.Here line x) = Unit {0}
HasIndexes p s (Path.Field q x) = HasIndexes p s q
HasIndexes p s (Path.Index q e) = HasIndexes p s q × SelectsOne
  where
    SelectsOne : Type 0
    SelectsOne = (home : Scope) (x : Name) (low high : ℕ) (element : Plain) (indexes : List Bracket)
        → Denotes p s q (Target.Stored home x (Plain.Array low high element) indexes)
        → (n : ℕ) × IsIndex p (record { low = low; high = high; scope = s; index = e }) n

-- the path denotes something suitable, with indexes that have values
pub record IsSound (p : Program) (s : Scope) (m : Mention) : Type 0 where
  pub target : Target
  pub denotes : Denotes p s m.path target
  pub suits : IsTrue (not m.wanted || is_value target)
  pub indexes : HasIndexes p s m.path

abbrev pub AreSound : Program → Scope → List Mention → Type 0
AreSound p s ms = All (IsSound p s) ms

-- the paths in the text e of an abbreviation whose name means m: an actual parameter that is a path may denote an instance or an array
abbrev pub text_mentions : Option Meaning → Expr → List Mention
text_mentions (Some (Meaning.Passed around q)) e
    = record { path = q; wanted = false } ∷ index_mentions q
text_mentions (Some (Meaning.Direct t)) e = mentions e
text_mentions None e = []

-- no definition and no actual parameter is circular, and their paths are sound
pub record AreDefined (p : Program) : Type 0 where
  pub straight : (v : ℕ) (a : Abbreviation) → abbreviation_at p v ≡ Some a → IsCircular p a → ⊥
  pub sound : (v : ℕ) (a : Abbreviation) (h : Scope) (e : Expr) → abbreviation_at p v ≡ Some a
      → text_of a ≡ Some (h, e) → AreSound p h (text_mentions (meaning p a.scope a.name) e)
