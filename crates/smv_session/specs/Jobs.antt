-- What each job asks, by cases: a new job is a line in each of these.
use Rattle.std.specs.Prelude.{◌≡◌, ℕ, List, [], ◌∷◌, All, Option, Some, None, IfSome, flat_map}
use Rattle.command_words.specs.Words.{Job, Decide, Recheck, Delay, Replay, Strong}
use Rattle.command_replies.specs.Delayed.{Delayed, LeavesDelays}
use Rattle.kripke_model.specs.System.{System}
use Rattle.command_replies.specs.Rechecked.{Rechecked, LeavesUnanswered}
use Rattle.smv_outside.specs.Contents.{AreTold, Contents, LeavesOthers, bytes_under}
use Rattle.smv_texts.specs.Replies.{Reply}
use Rattle.spec_leaves.specs.Named.{NamesLeaf}
use Rattle.spec_verdicts.specs.Checked.{IsChecked, LeavesUnknown}
use Rattle.command_replies.specs.Strong.{LeavesStrong, StrongReply}
use Rattle.command_replies.specs.Replayed.{Replayed}

-- the two numbers of a pair
abbrev pub both_of : ℕ × ℕ → List ℕ
both_of pair = pair.0 ∷ pair.1 ∷ []

-- the numbers of the specifications that the job takes for sets of states, leftmost first
abbrev pub numbers_of : Job → List ℕ
numbers_of (Decide proofs) = []
numbers_of (Recheck proofs) = []
numbers_of (Delay from to) = from ∷ to ∷ []
numbers_of (Replay trace) = []
numbers_of (Strong pairs) = flat_map both_of pairs

-- the specifications of these numbers are formulas without path operators
abbrev pub NamesLeaves : Job → System → Type 0
NamesLeaves job m = All (NamesLeaf m) (numbers_of job)

-- the job loads a second file of this name
abbrev pub IsSecondName : Job → List ℕ → Type 0
IsSecondName (Decide proofs) name = ⊥
IsSecondName (Recheck proofs) name = name ≡ proofs
IsSecondName (Delay from to) name = ⊥
IsSecondName (Replay trace) name = name ≡ trace
IsSecondName (Strong pairs) name = ⊥

-- these bytes stand under the name, as far as the contents are told
abbrev pub IsLoaded : List ℕ → Option Contents → Option (List ℕ) → Type 0
IsLoaded name contents None = ⊥
IsLoaded name contents (Some bytes) =
    IfSome contents (λ files. bytes_under files name ≡ Some bytes)

-- the bytes of the second file, where the job has one
abbrev pub IsSecond : Job → Option Contents → Option (List ℕ) → Type 0
IsSecond (Decide proofs) contents second = second ≡ None
IsSecond (Recheck proofs) contents second = IsLoaded proofs contents second
IsSecond (Delay from to) contents second = second ≡ None
IsSecond (Replay trace) contents second = IsLoaded trace contents second
IsSecond (Strong pairs) contents second = second ≡ None

-- the reply where the limit was met before the model was known to have no fault, which comes only
-- where the limit is below what is enough
abbrev pub Undecides : Job → System → ℕ → Reply → Type 0
Undecides (Decide proofs) m limit r = LeavesUnknown m limit proofs r
Undecides (Recheck proofs) m limit r = LeavesUnanswered m limit r
Undecides (Delay from to) m limit r = LeavesDelays m limit from to r
Undecides (Replay trace) m limit r = LeavesUnanswered m limit r
Undecides (Strong pairs) m limit r = LeavesStrong m limit r

-- the reply of the job for a model without faults, and for the bytes of its second file
abbrev pub Does : Job → System → ℕ → Option (List ℕ) → Reply → Type 0
Does (Decide proofs) m limit second r = IsChecked m limit proofs r
Does (Recheck proofs) m limit None r = ⊥
Does (Recheck proofs) m limit (Some bytes) r = Rechecked m limit bytes r
Does (Delay from to) m limit second r = Delayed m limit from to r
Does (Replay trace) m limit None r = ⊥
Does (Replay trace) m limit (Some bytes) r = Replayed m limit bytes r
Does (Strong pairs) m limit second r = StrongReply m limit pairs r

-- each name but this one keeps its bytes
abbrev pub KeepsOthers : List ℕ → Option Contents → Option Contents → Type 0
KeepsOthers name before after =
    AreTold before after (λ files files_after. LeavesOthers files files_after name)

-- what the job keeps of the contents, whatever the status
abbrev pub Keeps : Job → Option Contents → Option Contents → Type 0
Keeps (Decide None) before after = after ≡ before
Keeps (Decide (Some name)) before after = KeepsOthers name before after
Keeps (Recheck proofs) before after = after ≡ before
Keeps (Delay from to) before after = after ≡ before
Keeps (Replay trace) before after = after ≡ before
Keeps (Strong pairs) before after = after ≡ before
