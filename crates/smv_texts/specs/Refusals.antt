-- Why a model's text is refused, and the line that tells it.
use Rattle.std.specs.Prelude.{ℕ, Bool, true, false, List, Option, ◌++◌, codes}
use Rattle.kripke_model.specs.declared.expressions.FaultKind.{FaultKind}
use Rattle.kripke_model.specs.declared.refusals.FlatRefusal.{FlatRefusal}
use Rattle.kripke_model.specs.declared.refusals.StaticRefusal.{StaticRefusal}
use Rattle.kripke_model.specs.System.{System, State}
use Rattle.smv_texts.specs.Reasons.{on_line, flat_reason, static_reason, bits_reason, leaf_reason, fault_reason}
use Rattle.smv_texts.specs.Texts.{line}

-- why a model's text is refused
pub data Refusal : Type 0 where
  -- it is longer than a text may be
  TooLong : Refusal
  -- a byte on this line begins no token
  BadByte : (line : ℕ) → Refusal
  -- a number on this line is too large
  NumberTooLarge : (line : ℕ) → Refusal
  -- no program begins with the tokens up to the one on this line
  NoProgram : (line : ℕ) → Refusal
  -- no program within the depth begins with them, although a deeper one does
  TooDeep : (line : ℕ) → Refusal
  -- its program has no flat model
  NotFlat : (refusal : FlatRefusal) → Refusal
  -- its flat model breaks a static rule
  BreaksRule : (refusal : StaticRefusal) → Refusal
  -- the states of its model have so many bits, which are too many
  TooManyBits : (bits : ℕ) → Refusal
  -- of the specifications that the words name by numbers, this is the first that isn't there or holds a path operator
  NoLeaf : (spec : ℕ) → Refusal
  -- an item of its model faults: the first one, at its least pair of states, of which the second is told where the item has `next`
  Faults : (m : System) → (kind : FaultKind) → (line : ℕ) → (here : State) → (after : Option State)
      → Refusal

-- whether it is a fault of an item, which a full store may keep from being found
abbrev pub is_fault : Refusal → Bool
is_fault (Faults m kind l here after) = true
is_fault r = false

abbrev pub reason : Refusal → List ℕ
reason TooLong = codes "E3"
reason (BadByte l) = on_line (codes "E1") l
reason (NumberTooLarge l) = on_line (codes "E2") l
reason (NoProgram l) = on_line (codes "E4") l
reason (TooDeep l) = on_line (codes "E5") l
reason (NotFlat r) = flat_reason r
reason (BreaksRule r) = static_reason r
reason (TooManyBits bits) = bits_reason bits
reason (NoLeaf j) = leaf_reason j
reason (Faults m kind l here after) = fault_reason m kind l here after

abbrev pub refusal_line : Refusal → List ℕ
refusal_line r = line (codes "refused " ++ reason r)
