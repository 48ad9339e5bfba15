-- The reply to what is asked of delays, for a model without faults, within a node limit.
use Rattle.std.specs.Prelude.{◌≡◌, ◌⊎◌, ℕ, List, [], ◌∷◌, ◌++◌, codes, decimal, None, Some}
use Rattle.std.specs.Global.{Vec}
use Rattle.bdd_nodes.specs.declared.refusal.Held.{Held}
use Rattle.delay_bounds.specs.Delays as delays
use Rattle.delay_bounds.specs.Delays.{Delay, IsLongest, IsShortest}
use Rattle.kripke_model.specs.System.{System}
use Rattle.kripke_model.specs.Term.{Term}
use Rattle.smv_texts.specs.Evidence.{IsMet}
use Rattle.smv_texts.specs.Replies.{Reply, text_of}
use Rattle.smv_texts.specs.Texts.{line}
use Rattle.smv_texts.specs.declared.ending.Ending.TheVariants.{Clear, Undecided}
use Rattle.spec_leaves.specs.Named.{spec_leaf}

-- ---- the lines

abbrev pub shortest_word : Delay → List ℕ
shortest_word delays.None = codes "none"
shortest_word (delays.Steps n) = decimal n
shortest_word delays.Never = codes "never"

abbrev pub longest_word : Delay → List ℕ
longest_word delays.None = codes "none"
longest_word (delays.Steps n) = decimal n
longest_word delays.Never = codes "endless"

-- the numbers of the two specifications, as they stand in the words
abbrev pub ends_text : (from to : ℕ) → List ℕ
ends_text from to = codes "from " ++ decimal from ++ codes " to " ++ decimal to

abbrev pub delays_line : (from to : ℕ) → (shortest longest : Delay) → List ℕ
delays_line from to shortest longest =
    line (ends_text from to ++ codes " shortest " ++ shortest_word shortest
    ++ codes " longest " ++ longest_word longest)

abbrev pub unknown_line : (from to limit : ℕ) → List ℕ
unknown_line from to limit =
    line (ends_text from to ++ codes " unknown: node limit " ++ decimal limit)

-- ---- the replies

-- the delays from the states of one specification to those of another, which hold no path operator
pub record AreDelays (m : System) (from to : ℕ) (shortest longest : Delay) : Type 0 where
  pub start : Term
  pub goal : Term
  pub from_is : spec_leaf m from ≡ Some start
  pub to_is : spec_leaf m to ≡ Some goal
  pub shortest_is : IsShortest m start goal shortest
  pub longest_is : IsLongest m start goal longest

-- both delays are told
pub record TellsDelays (m : System) (from to : ℕ) (r : Reply) : Type 0 where
  pub shortest : Delay
  pub longest : Delay
  pub are : AreDelays m from to shortest longest
  pub text : text_of r ≡ delays_line from to shortest longest
  pub ends : r.ending ≡ Clear
  pub saves : r.saves ≡ None

-- The limit was met: one full store is the evidence, and the limit is below what is enough.
pub record LeavesDelays (m : System) (limit from to : ℕ) (r : Reply) : Type 0 where
  pub held : Vec Held
  pub full : Held
  pub one : held.items ≡ full ∷ []
  pub of_limit : IsMet m limit full
  pub text : text_of r ≡ unknown_line from to limit
  pub ends : r.ending ≡ Undecided held
  pub saves : r.saves ≡ None

abbrev pub Delayed : System → ℕ → (from to : ℕ) → Reply → Type 0
Delayed m limit from to r = TellsDelays m from to r ⊎ LeavesDelays m limit from to r
