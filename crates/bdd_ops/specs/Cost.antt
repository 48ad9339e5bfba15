-- What an operation costs, by the entries that it puts: the fresh ones.
use Rattle.std.specs.Prelude.{◌≡◌, ℕ, ◌+◌, ◌*◌, ◌≤◌, ◌⊎◌, Bool, true, false, List, [], ◌∷◌, length}
use Rattle.std.specs.List.{list_any}
use Rattle.bdd_nodes.specs.declared.triple.Triple.{Triple}
use Rattle.bdd_ops.specs.declared.key.Key.{Key}
use Rattle.bdd_ops.specs.declared.operation.Operation.{Operation}
use Rattle.bdd_ops.specs.Answer.{key_weight}
use Rattle.bdd_ops.specs.Operation.{HasOperands, IsOpen, key_of, weight_of, top_of, with_operands, part_of}

module _ (same : Key → Key → Bool) where
  -- an entry has the key
  abbrev pub has_entry : List (Key × ℕ) → Key → Bool
  has_entry es q = list_any (λ e. same q e.0) es

  -- no key has two entries
  abbrev pub IsOnce : List (Key × ℕ) → Type 0
  IsOnce [] = Unit {0}
  IsOnce (e ∷ es) = (has_entry es e.0 ≡ false) × IsOnce es

  -- one of the keys
  abbrev pub is_among : List Key → Key → Bool
  is_among keys q = list_any (same q) keys

  -- an operation on one of the keys comes to others of them, or to one that its operands answer
  pub record IsClosed (levels : ℕ) (table : List Triple) (keys : List Key) : Type 0 where
    pub operands : (k : Operation) → is_among keys (key_of k) ≡ true → HasOperands table k
    pub closed : (k : Operation) → is_among keys (key_of k) ≡ true → (bit : Bool)
        → IsOpen (with_operands (part_of table (top_of levels table k) bit) k)
        → is_among keys (key_of (with_operands (part_of table (top_of levels table k) bit) k))
        ≡ true

  -- each of these entries has one of the keys, and each key once
  pub record IsFront (keys : List Key) (front : List (Key × ℕ)) : Type 0 where
    pub among : (q : Key) → has_entry front q ≡ true → is_among keys q ≡ true
    pub once : IsOnce front

  -- the fresh entries are of the keys, and each one that came there paid for two steps
  pub record IsPaid (keys : List Key) (earlier before after : ℕ)
      (fresh : List (Key × ℕ)) : Type 0 where
    pub is_front : IsFront keys fresh
    pub cost : after + 2 * earlier ≤ before + 1 + 2 * length fresh

  -- over any closed list of keys that has the operation's, that the cache has room for and of which the fresh entries are, the steps from before to after are paid
  pub record IsCheap (levels : ℕ) (table : List Triple) (key : Operation) (cap : ℕ)
      (old : List (Key × ℕ)) (before after : ℕ) (new : List (Key × ℕ)) : Type 0 where
    pub paid : (keys : List Key) → IsClosed levels table keys
        → (IsOpen key → is_among keys (key_of key) ≡ true) → length keys ≤ cap → IsFront keys old
        → IsPaid keys (length old) before after new

  -- the steps from before to after are paid by different keys of the list, each of an old entry or no heavier than this weight
  pub record IsSpent (keys : List Key) (earlier : ℕ) (old : List (Key × ℕ))
      (weight before after : ℕ) : Type 0 where
    pub done : List (Key × ℕ)
    pub is_front : IsFront keys done
    pub bounded : (q : Key) → has_entry done q ≡ true
        → (has_entry old q ≡ true) ⊎ (key_weight q ≤ weight)
    pub cost : after + 2 * earlier ≤ before + 1 + 2 * length done

  -- the same as `IsCheap` for a call that was refused, which leaves some keys without an entry: the fresh entries before it, and all
  pub record IsFrugal (levels : ℕ) (table : List Triple) (key : Operation) (cap : ℕ)
      (fresh all : List (Key × ℕ)) (before after : ℕ) : Type 0 where
    pub spent : (keys : List Key) → IsClosed levels table keys
        → (IsOpen key → is_among keys (key_of key) ≡ true) → length keys ≤ cap → IsFront keys fresh
        → IsSpent keys (length fresh) all (weight_of key) before after

  -- a call that finds no fresh entry takes two steps at most for each of the keys, and one more
  pub record IsBounded (levels : ℕ) (table : List Triple) (key : Operation)
      (cap before after : ℕ) : Type 0 where
    pub bound : (keys : List Key) → IsClosed levels table keys
        → (IsOpen key → is_among keys (key_of key) ≡ true) → length keys ≤ cap
        → after ≤ before + 2 * length keys + 1
