-- What formal parameters lead to, and how many others they lead through.
use Rattle.std.specs.Prelude.{◌≡◌, ◌≢◌, ℕ, ◌+◌, ◌*◌, ◌<◌, ◌⊎◌, List, length, Option, Some, None, option_and_then, slice_get, sum_by}
use Rattle.smv_instances.specs.declared.found.Found.TheVariants as found
use Rattle.smv_instances.specs.Program.{Name, Path, Program}
use Rattle.smv_instances.specs.Instances.{Scope, module_of, instances}
use Rattle.smv_instances.specs.Numbered.{scope_at, IsFound}
use Rattle.smv_names.specs.declared.states.Parameter.{Parameter}
use Rattle.smv_names.specs.declared.states.State.{State}
use Rattle.smv_names.specs.declared.states.State.TheVariants as state
use Rattle.smv_names.specs.declared.states.States.{States}
use Rattle.smv_names.specs.declared.targets.Target.{Target as Held}
use Rattle.smv_names.specs.declared.walk.Outcome.{Outcome}
use Rattle.smv_names.specs.declared.walk.Outcome.TheVariants as outcome
use Rattle.smv_names.specs.Denotes.{Target}
use Rattle.smv_names.specs.Heights.{FindsWithin, DenotesWithin}
use Rattle.smv_names.specs.Targets.{Resolves, LeadsTo}

-- x is the formal parameter of the instance s
abbrev pub IsParameter : Program → Parameter → Scope → Name → Type 0
IsParameter p at s x = (scope_at p at.instance ≡ Some s) × IsFound p s x (found.Parameter at.place)

-- the formal parameter leads somewhere, by way of at most n
pub record LeadsWithin (p : Program) (n : ℕ) (at : Parameter) : Type 0 where
  pub scope : Scope
  pub name : Name
  pub target : Target
  pub is : IsParameter p at scope name
  pub finds : FindsWithin p n scope name target

-- the first leads nowhere but through the second
abbrev pub WaitsFor : Program → Parameter → Parameter → Type 0
WaitsFor p first second
    = (n : ℕ) → LeadsWithin p n first → (m : ℕ) × (m < n) × LeadsWithin p m second

-- ---- what is known of them

-- this is what the formal parameter leads to
abbrev pub IsDecided : Program → Parameter → Option Held → Type 0
IsDecided p at o = (s : Scope) (x : Name) → IsParameter p at s x → LeadsTo p s x o

abbrev pub state_at : States → Parameter → Option State
state_at states at
    = option_and_then (λ row. slice_get row.items at.place)
    (slice_get states.rows.items at.instance)

-- each formal parameter has a state, which is right
pub record AreStates (p : Program) (states : States) : Type 0 where
  pub rows : length states.rows.items ≡ length (instances p)
  pub inside : (at : Parameter) (s : Scope) → scope_at p at.instance ≡ Some s
      → at.place < length (module_of s).formals → (known : State)
      × (state_at states at ≡ Some known)
  pub formal : (at : Parameter) (s : Scope) (known : State) → scope_at p at.instance ≡ Some s
      → state_at states at ≡ Some known → at.place < length (module_of s).formals
  pub right : (at : Parameter) (o : Option Held) → state_at states at ≡ Some (state.Decided o)
      → IsDecided p at o

-- it isn't known yet what the formal parameter leads to
abbrev pub IsOpen : States → Parameter → Type 0
IsOpen states at
    = (state_at states at ≡ Some state.Unseen) ⊎ (state_at states at ≡ Some state.Waiting)

abbrev pub AreDecided : Program → States → Type 0
AreDecided p states
    = (at : Parameter) (s : Scope) (x : Name) → IsParameter p at s x → IsOpen states at → ⊥

abbrev pub one_unseen : State → ℕ
one_unseen state.Unseen = 1
one_unseen state.Waiting = 0
one_unseen (state.Decided o) = 0

abbrev pub unseen_count : States → ℕ
unseen_count states = sum_by (λ row. sum_by one_unseen row.items) states.rows.items

-- the state of one formal parameter changes
pub record Sets (old new : States) (at : Parameter) (known : State) : Type 0 where
  pub rows : length new.rows.items ≡ length old.rows.items
  pub it : state_at new at ≡ Some known
  pub others : (other : Parameter) → (other.instance ≢ at.instance) ⊎ (other.place ≢ at.place)
      → state_at new other ≡ state_at old other
  pub count : (before : State) → state_at old at ≡ Some before
      → unseen_count new + one_unseen before ≡ unseen_count old + one_unseen known

-- ---- what is found out in a step

-- what the name x of the instance s leads to
abbrev pub Finding : Program → States → Scope → Name → Outcome → Type 0
Finding p states s x (outcome.Found t) = LeadsTo p s x (Some t)
Finding p states s x outcome.Nothing = LeadsTo p s x None
Finding p states s x (outcome.Needs at)
    = IsOpen states at × ((n : ℕ) (t : Target) → FindsWithin p n s x t → LeadsWithin p n at)

-- what the path q, read in s, denotes
abbrev pub Walking : Program → States → Scope → Path → Outcome → Type 0
Walking p states s q (outcome.Found t) = Resolves p s q (Some t)
Walking p states s q outcome.Nothing = Resolves p s q None
Walking p states s q (outcome.Needs at)
    = IsOpen states at × ((n : ℕ) (t : Target) → DenotesWithin p n s q t → LeadsWithin p n at)

-- what the formal parameter leads to
abbrev pub Deciding : Program → States → Parameter → Outcome → Type 0
Deciding p states at (outcome.Found t) = IsDecided p at (Some t)
Deciding p states at outcome.Nothing = IsDecided p at None
Deciding p states at (outcome.Needs next) = IsOpen states next × WaitsFor p at next

-- ---- those that wait for others

-- none waits
abbrev pub AreIdle : States → Type 0
AreIdle states = (at : Parameter) → state_at states at ≡ Some state.Waiting → ⊥

-- what was seen stays seen, and there are states for the same formal parameters
pub record Keeps (old new : States) : Type 0 where
  pub rows : length new.rows.items ≡ length old.rows.items
  pub seen : (at : Parameter) → state_at new at ≡ Some state.Unseen
      → state_at old at ≡ Some state.Unseen
  pub inside : (at : Parameter) (before : State) → state_at old at ≡ Some before → (now : State)
      × (state_at new at ≡ Some now)

-- each on the stack has a state, and those that wait are on the stack
pub record HoldsWaiting (states : States) (stack : List Parameter) : Type 0 where
  pub inside : (k : ℕ) (at : Parameter) → slice_get stack k ≡ Some at → (now : State)
      × (state_at states at ≡ Some now)
  pub stacked : (at : Parameter) → state_at states at ≡ Some state.Waiting → (k : ℕ)
      × (slice_get stack k ≡ Some at)

-- each waits for the next one
pub record KeepsStack (p : Program) (states : States) (stack : List Parameter) : Type 0 where
  pub known : AreStates p states
  pub held : HoldsWaiting states stack
  pub waits : (k : ℕ) (at next : Parameter) → slice_get stack k ≡ Some at
      → slice_get stack (k + 1) ≡ Some next → WaitsFor p at next

-- those on the stack lead nowhere
pub record AreLost (p : Program) (states : States) (stack : List Parameter) : Type 0 where
  pub known : AreStates p states
  pub held : HoldsWaiting states stack
  pub nowhere : (k : ℕ) (at : Parameter) → slice_get stack k ≡ Some at → IsDecided p at None

-- one step, where the stack had so many formal parameters
pub record Steps (p : Program) (old new : States) (size : ℕ) (after : List Parameter) : Type 0 where
  pub stack : KeepsStack p new after
  pub keeps : Keeps old new
  pub work : 2 * unseen_count new + length after < 2 * unseen_count old + size

-- it is known what the formal parameter leads to
pub record Settles (p : Program) (old new : States) : Type 0 where
  pub known : AreStates p new
  pub idle : AreIdle new
  pub keeps : Keeps old new
