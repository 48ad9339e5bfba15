-- What the cache's entries say: the operation of each key, also of those that are not pointwise.
use Rattle.std.specs.Prelude.{◌≡◌, ℕ, zero, suc, ◌+◌, ◌-◌, ◌≤◌, Bool, true, false, not, ◌&&◌, ◌||◌, if◌then◌else◌, min, max, List, [], ◌∷◌, length, map, slice_get, unwrap_or}
use Rattle.std.specs.declared.alloc.Global.{Global}
use Rattle.std.specs.declared.vec.Vec.{Vec}
use Rattle.bdd_nodes.specs.declared.triple.Triple.{Triple}
use Rattle.bdd_nodes.specs.declared.store.Store.{Store}
use Rattle.bdd_nodes.specs.Table.{level_of, value_of, Has}
use Rattle.bdd_nodes.specs.Store.{levels_of, triples}
use Rattle.bdd_ops.specs.declared.key.Key.{Key}
use Rattle.bdd_ops.specs.declared.key.Key.TheVariants.{Not, And, Or, Iff, Ite, Exists, AndExists, Rename}

-- the lists of numbers that a vector of vectors holds
abbrev pub lists_in : Vec (Vec ℕ Global) Global → List (List ℕ)
lists_in lists = map (λ (list : Vec ℕ Global). list.items) lists.items

-- the bits with the one at a place set to this; missing ones before it are false
abbrev pub with_bit : List Bool → ℕ → Bool → List Bool
with_bit [] zero b = b ∷ []
with_bit [] (suc l) b = false ∷ with_bit [] l b
with_bit (x ∷ bits) zero b = b ∷ bits
with_bit (x ∷ bits) (suc l) b = x ∷ with_bit bits l b

-- some choice of the bits at these levels has value 1
abbrev pub some_choice : (List Bool → Bool) → List ℕ → List Bool → Bool
some_choice v [] bits = v bits
some_choice v (l ∷ levels) bits
    = some_choice v levels (with_bit bits l false) || some_choice v levels (with_bit bits l true)

-- the bits with the places 0 and 1, 2 and 3 and so on exchanged; a missing one is false
abbrev pub exchanged : List Bool → List Bool
exchanged [] = []
exchanged (a ∷ []) = false ∷ a ∷ []
exchanged (a ∷ b ∷ bits) = b ∷ a ∷ exchanged bits

-- the list of levels at a place
abbrev pub list_at : List (List ℕ) → ℕ → List ℕ
list_at lists p = unwrap_or (slice_get lists p) []

-- the value of a key's operation at a list of bits
abbrev pub meaning_of : List (List ℕ) → List Triple → Key → List Bool → Bool
meaning_of lists table (Not f) bits = not (value_of table f bits)
meaning_of lists table (And f g) bits = value_of table f bits && value_of table g bits
meaning_of lists table (Or f g) bits = value_of table f bits || value_of table g bits
meaning_of lists table (Iff f g) bits
    = if value_of table f bits then value_of table g bits else not (value_of table g bits)
meaning_of lists table (Ite f g h) bits
    = if value_of table f bits then value_of table g bits else value_of table h bits
meaning_of lists table (Exists f p) bits = some_choice (value_of table f) (list_at lists p) bits
meaning_of lists table (AndExists f g p) bits
    = some_choice (λ bs. value_of table f bs && value_of table g bs) (list_at lists p) bits
meaning_of lists table (Rename f to_next) bits = value_of table f (exchanged bits)

-- the highest operand
abbrev pub key_highest : Key → ℕ
key_highest (Not f) = f
key_highest (And f g) = max f g
key_highest (Or f g) = max f g
key_highest (Iff f g) = max f g
key_highest (Ite f g h) = max f (max g h)
key_highest (Exists f p) = f
key_highest (AndExists f g p) = max f g
key_highest (Rename f to_next) = f

-- the operands together
abbrev pub key_weight : Key → ℕ
key_weight (Not f) = f
key_weight (And f g) = f + g
key_weight (Or f g) = f + g
key_weight (Iff f g) = f + g
key_weight (Ite f g h) = f + (g + h)
key_weight (Exists f p) = f
key_weight (AndExists f g p) = f + g
key_weight (Rename f to_next) = f

-- how many lists of levels there are at least, by the list that the key names
abbrev pub lists_named : Key → ℕ
lists_named (Exists f p) = p + 1
lists_named (AndExists f g p) = p + 1
lists_named k = 0

-- the least level at which the answer can decide: that of an operand, or its neighbour's
abbrev pub key_top : ℕ → List Triple → Key → ℕ
key_top levels table (Not f) = level_of levels table f
key_top levels table (And f g) = min (level_of levels table f) (level_of levels table g)
key_top levels table (Or f g) = min (level_of levels table f) (level_of levels table g)
key_top levels table (Iff f g) = min (level_of levels table f) (level_of levels table g)
key_top levels table (Ite f g h)
    = min (level_of levels table f) (min (level_of levels table g) (level_of levels table h))
key_top levels table (Exists f p) = level_of levels table f
key_top levels table (AndExists f g p) = min (level_of levels table f) (level_of levels table g)
key_top levels table (Rename f true) = min (level_of levels table f + 1) levels
key_top levels table (Rename f false) = level_of levels table f - 1

-- the store has the key's operands and list, and r is the diagram of its operation
pub record IsAnswer (s : Store) (lists : List (List ℕ)) (k : Key) (r : ℕ) : Type 0 where
  pub operands : Has (triples s) (key_highest k)
  pub listed : lists_named k ≤ length lists
  pub has : Has (triples s) r
  pub value : (bits : List Bool) → value_of (triples s) r bits ≡ meaning_of lists (triples s) k bits
  pub deep : key_top (levels_of s) (triples s) k ≤ level_of (levels_of s) (triples s) r
