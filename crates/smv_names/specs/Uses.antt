-- The graph of uses: an edge leads from an abbreviation to each one that its expression names.
use Rattle.std.specs.Prelude.{◌≡◌, ℕ, ◌+◌, ◌<◌, List, [], ◌∷◌, ◌++◌, length, slice_index, Option, Some, None}
use Rattle.smv_instances.specs.Program.{Expr, Program}
use Rattle.smv_instances.specs.Instances.{Scope, all_entries}
use Rattle.smv_instances.specs.Numbered.{scope_at}
use Rattle.graph_order.specs.Graphs.{HasEdge}
use Rattle.smv_names.specs.Abbreviations.{Mention, Abbreviation, text_of, Uses}
use Rattle.smv_names.specs.Nodes.{abbreviation_at}
use Rattle.smv_names.specs.Naming.{NamedIn}

-- the expression of the abbreviation, read in the instance with this number
abbrev pub IsTextIn : Program → Abbreviation → ℕ → Expr → Type 0
IsTextIn p a home e = (s : Scope) × (scope_at p home ≡ Some s) × (text_of a ≡ Some (s, e))

-- the number, if there is one, was added
abbrev pub IsPushed : Option ℕ → List ℕ → List ℕ → Type 0
IsPushed None old new = new ≡ old
IsPushed (Some n) old new = new ≡ old ++ (n ∷ [])

-- numbers of abbreviations that have the property, among them all of those with an expression
pub record AreNumbersOf (p : Program) (property : Abbreviation → Type 0)
    (numbers : List ℕ) : Type 0 where
  pub each : (k : ℕ) → k < length numbers → (b : Abbreviation)
      × (abbreviation_at p (slice_index numbers k) ≡ Some b) × property b
  pub all : (b : Abbreviation) (text : Scope × Expr) → property b → text_of b ≡ Some text → (k : ℕ)
      × (k < length numbers) × (abbreviation_at p (slice_index numbers k) ≡ Some b)

-- those that the paths, read in s, name
abbrev pub AreNamed : Program → Scope → List Mention → List ℕ → Type 0
AreNamed p s ms numbers = AreNumbersOf p (NamedIn p s ms) numbers

-- those that the expression of a names
abbrev pub AreUsed : Program → Abbreviation → List ℕ → Type 0
AreUsed p a numbers = AreNumbersOf p (Uses p a) numbers

-- the first n nodes of the graph of uses
pub record AreUses (p : Program) (firsts targets : List ℕ) (n : ℕ) : Type 0 where
  pub nodes : length firsts ≡ n + 1
  pub last : slice_index firsts n ≡ length targets
  pub are_numbers : (k : ℕ) → k < length targets → slice_index targets k < length (all_entries p)
  pub each : (v w : ℕ) (a : Abbreviation) → v < n → abbreviation_at p v ≡ Some a
      → HasEdge firsts targets v w → (b : Abbreviation) × (abbreviation_at p w ≡ Some b)
      × Uses p a b
  pub all : (v : ℕ) (a b : Abbreviation) (text : Scope × Expr) → v < n
      → abbreviation_at p v ≡ Some a → Uses p a b → text_of b ≡ Some text → (w : ℕ)
      × HasEdge firsts targets v w × (abbreviation_at p w ≡ Some b)
