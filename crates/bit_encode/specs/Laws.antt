-- What the codes of a layout keep.
use Rattle.std.specs.Prelude.{◌≡◌, ◌↔◌, ℕ, ◌<◌, Bool, List, length}
use Rattle.kripke_model.specs.System.{System, State, value_in}
use Rattle.kripke_model.specs.Step.{IsState}
use Rattle.bit_encode.specs.Binary.{number}
use Rattle.bit_encode.specs.Code.{Coding, IsStateOf, IsValid, HasBit, types_of, values_of, place, code, field, bit_place, bit_count}

-- two states with one code are equal
abbrev pub CodesDiffer : Coding → Type 0
CodesDiffer c
    = (s t : State) → IsStateOf c.types s → IsStateOf c.types t → code c s ≡ code c t → s ≡ t

-- each state has a valid code
abbrev pub CodesAreValid : Coding → Type 0
CodesAreValid c = (s : State) → IsStateOf c.types s → IsValid c (code c s)

-- each valid code is the code of a state
abbrev pub ValidAreCodes : Coding → Type 0
ValidAreCodes c
    = (bits : List Bool) → IsValid c bits → (s : State) × IsStateOf c.types s × (code c s ≡ bits)

-- a variable's bits in a state's code spell the place of its value
abbrev pub FieldsSpell : Coding → Type 0
FieldsSpell c
    = (s : State) (x : ℕ) → IsStateOf c.types s → x < length c.types
    → number (field c x (code c s)) ≡ place (values_of c.types x) (value_in s x)

-- the bits of all variables have places of their own
abbrev pub PlacesDiffer : Coding → Type 0
PlacesDiffer c
    = (x b y d : ℕ) → HasBit c x b → HasBit c y d → bit_place c x b ≡ bit_place c y d → (x ≡ y)
    × (b ≡ d)

-- and these are places among the bits of a state
abbrev pub PlacesWithin : Coding → Type 0
PlacesWithin c = (x b : ℕ) → HasBit c x b → bit_place c x b < bit_count c.types

-- the states of the model are those that its layouts encode
abbrev pub StatesAgree : System → Type 0
StatesAgree m = (s : State) → IsState m s ↔ IsStateOf (types_of m) s
