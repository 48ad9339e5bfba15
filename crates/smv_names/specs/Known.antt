-- What is known of the abbreviations that are worked off, and of paths and their indexes.
use Rattle.std.specs.Prelude.{◌≡◌, ℕ, suc, ℤ, ◌⊎◌, Bool, true, false, not, ◌||◌, List, [], ◌∷◌, Option, Some, None, IsTrue, MatchOption, slice_index_or}
use Rattle.smv_instances.specs.Program.{Path, Program}
use Rattle.smv_instances.specs.Instances.{Scope}
use Rattle.smv_names.specs.declared.sizes.Size.{Size}
use Rattle.smv_names.specs.Denotes.{Bracket, Target, Denotes}
use Rattle.smv_names.specs.Expands.{IsIndex}
use Rattle.smv_names.specs.Abbreviations.{Mention, Abbreviation, text_of, is_value, HasBadIndex}
use Rattle.smv_names.specs.Nodes.{abbreviation_at}
use Rattle.smv_names.specs.Values.{IsNumberOf, IsSizeOfText}
use Rattle.smv_names.specs.Naming.{NamedIn}
use Rattle.smv_names.specs.Sound.{HasIndexes}

-- the number of an abbreviation
abbrev pub NumberOf : Program → Abbreviation → Option ℤ → Type 0
NumberOf p a found = IsNumberOf p (text_of a) found

-- those of the abbreviations that the paths name
abbrev pub AreNumbersIn : Program → List (Option ℤ) → Scope → List Mention → Type 0
AreNumbersIn p numbers s ms
    = (v : ℕ) (a : Abbreviation) → abbreviation_at p v ≡ Some a → NamedIn p s ms a
    → NumberOf p a (slice_index_or numbers v None)

-- those of all abbreviations
abbrev pub AreNumbers : Program → List (Option ℤ) → Type 0
AreNumbers p numbers
    = (v : ℕ) (a : Abbreviation) → abbreviation_at p v ≡ Some a
    → NumberOf p a (slice_index_or numbers v None)

abbrev pub leaf : Size
leaf = record { nodes = 1; nesting = 1 }

-- the size of an abbreviation
abbrev pub SizeOf : Program → Abbreviation → Size → Type 0
SizeOf p a size = IsSizeOfText p (text_of a) size

abbrev pub AreSizesIn : Program → List Size → Scope → List Mention → Type 0
AreSizesIn p sizes s ms
    = (v : ℕ) (a : Abbreviation) → abbreviation_at p v ≡ Some a → NamedIn p s ms a
    → SizeOf p a (slice_index_or sizes v leaf)

abbrev pub AreSizes : Program → List Size → Type 0
AreSizes p sizes
    = (v : ℕ) (a : Abbreviation) → abbreviation_at p v ≡ Some a
    → SizeOf p a (slice_index_or sizes v leaf)

-- ---- paths

-- the path denotes something suitable
abbrev pub IsKnown : Program → Scope → Mention → Type 0
IsKnown p s m = (t : Target) × Denotes p s m.path t × IsTrue (not m.wanted || is_value t)

-- the path denotes something suitable exactly where the test says so
abbrev pub KnownBy : Program → Scope → Mention → Bool → Type 0
KnownBy p s m true = IsKnown p s m
KnownBy p s m false = (t : Target) → Denotes p s m.path t → IsTrue (not m.wanted || is_value t) → ⊥

-- the indexes have values within their bounds exactly where the test says so
abbrev pub IndexedBy : Program → Scope → Path → Bool → Type 0
IndexedBy p s q true = HasIndexes p s q
IndexedBy p s q false = HasBadIndex p s q

-- how many indexes are written in the path
abbrev pub index_count : Path → ℕ
index_count (Path.Here line x) = 0
index_count (Path.Field q x) = index_count q
index_count (Path.Index q e) = suc (index_count q)

-- the indexes of a variable or an array
abbrev pub brackets_of : Target → List Bracket
brackets_of (Target.Stored home x type indexes) = indexes
brackets_of (Target.Reading home e) = []
brackets_of (Target.Instance i) = []
brackets_of (Target.Constant x) = []

-- each has a value within its bounds
abbrev pub AllIndexes : Program → List Bracket → Type 0
AllIndexes p [] = Unit {0}
AllIndexes p (b ∷ bs) = ((n : ℕ) × IsIndex p b n) × AllIndexes p bs

-- one has none
abbrev pub SomeBad : Program → List Bracket → Type 0
SomeBad p [] = ⊥
SomeBad p (b ∷ bs) = ((n : ℕ) → IsIndex p b n → ⊥) ⊎ SomeBad p bs

-- the value of an index within its bounds, or none
abbrev pub IsIndexValue : Program → Bracket → Option ℕ → Type 0
IsIndexValue p b found = MatchOption found ((n : ℕ) → IsIndex p b n → ⊥) (λ n. IsIndex p b n)

-- the indexes have values within their bounds exactly where the test says so
abbrev pub AreIndexedBy : Program → List Bracket → Bool → Type 0
AreIndexedBy p bs true = AllIndexes p bs
AreIndexedBy p bs false = SomeBad p bs
