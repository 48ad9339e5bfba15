-- What the pins of an object stand for, and what a call does to them.
use Rattle.std.specs.Prelude.{◌≡◌, ◌⊎◌, ℕ, ◌+◌, ◌-◌, ◌<◌, ◌≤◌, Bool, true, false, ◌||◌, ◌==◌, List, [], ◌∷◌, length, Option, Some, None, IsSome, Result, Ok, Err, IfErr, ◌↔◌, slice_get, MatchOption}
use Rattle.kripke_model.specs.System.{System, State}
use Rattle.kripke_model.specs.Term.{has_path_operator}
use Rattle.kripke_model.specs.Evaluation.{Holds}
use Rattle.path_laws.specs.StateSet.{StateSet}
use Rattle.region_sets.specs.declared.pins.Pin.{Pin}
use Rattle.region_sets.specs.declared.pins.SetRefusal.{SetRefusal}
use Rattle.region_sets.specs.declared.pins.SetRefusal.TheVariants.{Full, Memory}

-- the size of the store, and the order in which the variables have their bits (none where there are no bits)
pub record Gauge : Type 0 where
  pub levels : ℕ
  pub limit : ℕ
  pub order : List ℕ

-- the model, what each slot's pin stands for while it is live, how many are live, how many always find room,
-- how often there was none, and what no call changes of the store
pub record Sets : Type 0 where
  pub over : System
  pub pins : ℕ → Option StateSet
  pub live : ℕ
  pub room : ℕ
  pub fulls : ℕ
  pub gauge : Gauge

-- ---- what a pin stands for

abbrev pub has_state : Option StateSet → State → Bool
has_state (Some region) s = region s
has_state None s = false

-- s is a state of the slot's pin
abbrev pub In : Sets → ℕ → State → Type 0
In sets slot s = has_state (sets.pins slot) s ≡ true

-- the states of a pin
abbrev pub region : Sets → Pin → StateSet
region sets pin = has_state (sets.pins pin.slot)

abbrev pub IsLive : Sets → ℕ → Type 0
IsLive sets slot = IsSome (sets.pins slot)

-- the pin stands for the states that meet P
abbrev pub Stands : Sets → ℕ → (State → Type 0) → Type 0
Stands sets slot P = (s : State) → In sets slot s ↔ P s

-- ---- what comes and goes

abbrev pub is_one_of : ℕ → List ℕ → Bool
is_one_of k [] = false
is_one_of k (slot ∷ slots) = (k == slot) || is_one_of k slots

abbrev pub AreDistinct : List ℕ → Type 0
AreDistinct [] = Unit {0}
AreDistinct (slot ∷ slots) = (is_one_of slot slots ≡ false) × AreDistinct slots

-- the slots' pins are live after and weren't before, and all others are as before
pub record Adds (before after : Sets) (slots : List ℕ) : Type 0 where
  pub over : after.over ≡ before.over
  pub room : after.room ≡ before.room
  pub gauge : after.gauge ≡ before.gauge
  pub live : after.live ≡ before.live + length slots
  pub once : AreDistinct slots
  pub fresh : (k : ℕ) → is_one_of k slots ≡ true → before.pins k ≡ None
  pub there : (k : ℕ) → is_one_of k slots ≡ true → IsLive after k
  pub kept : (k : ℕ) → is_one_of k slots ≡ false → after.pins k ≡ before.pins k

-- the slots of the pins in an answer
abbrev pub pin_slots : Result Pin SetRefusal → List ℕ
pin_slots (Ok pin) = pin.slot ∷ []
pin_slots (Err refusal) = []

-- the slots of the pin in an answer that may have one
abbrev pub option_slots : Result (Option Pin) SetRefusal → List ℕ
option_slots (Ok (Some pin)) = pin.slot ∷ []
option_slots (Ok None) = []
option_slots (Err refusal) = []

-- the count is greater than before, or stands at its last value
abbrev pub Rose : ℕ → ℕ → Type 0
Rose before after = (before < after) ⊎ (after ≡ 18446744073709551615)

-- a full store was counted, and is of the object's gauge
abbrev pub IsCaused : Sets → Sets → SetRefusal → Type 0
IsCaused before after (Full held)
    = Rose before.fulls after.fulls × (held.levels ≡ after.gauge.levels)
    × (held.number ≡ after.gauge.limit)
IsCaused before after Memory = Unit {0}

-- a call that holds at most so many pins at a time beside those that were live, and leaves those of the slots
pub record IsCall (held : ℕ) {T : Type 0} (before after : Sets) (slots : List ℕ)
    (result : Result T SetRefusal) : Type 0 where
  pub pins : Adds before after slots
  pub refusal : IfErr result (IsCaused before after)
  pub fulls : before.fulls ≤ after.fulls
  pub spare : before.live + held ≤ before.room → after.fulls ≡ before.fulls

-- the pins that are live are so many
abbrev pub IsCount : (ℕ → Option StateSet) → ℕ → Type 0
IsCount pins live
    = (slots : List ℕ) × AreDistinct slots × (length slots ≡ live)
    × ((k : ℕ) → (is_one_of k slots ≡ true) ↔ IsSome (pins k))

-- ---- constraints

-- constraint k, counted from 1, holds no path operator
abbrev pub IsLeafConstraint : System → ℕ → Type 0
IsLeafConstraint m k
    = MatchOption (slice_get m.constraints (k - 1)) (Unit {0})
    (λ c. has_path_operator c.expr ≡ false)

-- constraint k, counted from 1, is true
abbrev pub MeetsConstraint : System → ℕ → State → Type 0
MeetsConstraint m k s
    = MatchOption (slice_get m.constraints (k - 1)) (Unit {0}) (λ c. Holds m c.expr s s)
