-- What the sets of a proof show without its paths.
use Rattle.std.specs.Prelude.{◌-◌, List, length}
use Rattle.std.specs.List.{slice_index_or}
use Rattle.region_sets.specs.declared.pins.Pin.{Pin}
use Rattle.region_sets.specs.Sets.{Sets, In, region}
use Rattle.region_sets.specs.Ranks.{regions}
use Rattle.path_laws.specs.StateSet.{◌∈◌}
use Rattle.fair_rules.specs.SetLists.{set_at}
use Rattle.state_reach.specs.Covers.{Always, AreSpread, Has, InSome, Keeps, Not, StepsInto}

abbrev pub last_pin : List Pin → Pin
last_pin pins = slice_index_or pins (length pins - 1) (record { slot = 0 })

-- no path leads from a start to a goal
abbrev pub IsNeverLed : Sets → Pin → Pin → Pin → Pin → Type 0
IsNeverLed now from to inside back =
    Keeps now.over (In now from.slot) (region now inside) (In now back.slot)
    × Has now.over (In now to.slot) (region now back)
    × Has now.over (StepsInto now.over Always (region now back)) (region now back)

-- none of fewer steps than there are sets does
abbrev pub IsNotLed : Sets → Pin → Pin → Pin → List Pin → Type 0
IsNotLed now from to inside back =
    Keeps now.over (In now from.slot) (region now inside) (InSome (regions now back))
    × AreSpread now.over (In now to.slot) Always (regions now back)

-- each path of a step less than there are sets comes by a goal
abbrev pub IsMet : Sets → Pin → Pin → Pin → List Pin → Type 0
IsMet now from to inside stay =
    Keeps now.over (In now from.slot) (region now inside)
    (λ s. s ∈ set_at (regions now stay) (length (regions now stay) - 1))
    × AreSpread now.over (Not (In now to.slot)) (Not (In now to.slot)) (regions now stay)
