-- Entries of instances whose definition or actual parameters no rule refuses.
use Rattle.std.specs.Prelude.{◌≡◌, ℕ, ◌<◌, ℤ, Bool, true, false, List, length, flat_map, Option, Some, slice_get, Any, All}
use Rattle.smv_instances.specs.declared.instances.Instances.{Instances}
use Rattle.smv_instances.specs.Program.{Name, Formal, Program}
use Rattle.smv_instances.specs.Entries.{Entity, Entry, entries}
use Rattle.smv_instances.specs.Instances.{Scope, module_of, child, all_entries}
use Rattle.smv_instances.specs.Numbered.{scope_at}
use Rattle.graph_order.specs.declared.order.Order.{Order}
use Rattle.smv_names.specs.declared.resolving.Targets.{Targets}
use Rattle.smv_names.specs.Abbreviations.{mentions, actual_mentions, IsCircular}
use Rattle.smv_names.specs.Ready.{AreTargets}
use Rattle.smv_names.specs.Ordered.{AreOrdered}
use Rattle.smv_names.specs.Known.{AreNumbers}
use Rattle.smv_names.specs.Sound.{AreSound}

-- ---- what is known before they are looked at

pub record AreReady (p : Program) (all : Instances) (targets : Targets) (order : Order)
    (numbers : List (Option ℤ)) : Type 0 where
  pub targets_are : AreTargets p all targets
  pub ordered : AreOrdered p order.order.items order.circular.items
  pub numbers_are : AreNumbers p numbers
  pub count : length numbers ≡ length (all_entries p)

-- one of the instances has this number
abbrev pub HasCircles : Instances → Targets → Order → ℕ → Type 0
HasCircles all targets order number
    = (p : Program) × (c : Scope) × AreTargets p all targets
    × AreOrdered p order.order.items order.circular.items × (scope_at p number ≡ Some c)

-- and its module an entry at this place
abbrev pub HasPlace : Instances → Targets → Order → List (Option ℤ) → ℕ → ℕ → Type 0
HasPlace all targets order numbers i k
    = (p : Program) × (s : Scope) × (e : Entry) × AreReady p all targets order numbers
    × (scope_at p i ≡ Some s) × (slice_get (entries (module_of s)) k ≡ Some e)

-- ---- circular abbreviations

-- the name x of s is circular exactly where the test says so
abbrev pub IsCircularBy : Program → Scope → Name → Bool → Type 0
IsCircularBy p s x true = IsCircular p (record { scope = s; name = x })
IsCircularBy p s x false = IsCircular p (record { scope = s; name = x }) → ⊥

abbrev pub IsCircularFormal : Program → Scope → Formal → Type 0
IsCircularFormal p c f = IsCircular p (record { scope = c; name = f.name })

-- no formal parameter of the instance is
abbrev pub AreStraight : Program → Scope → Type 0
AreStraight p c = All (λ f. IsCircularFormal p c f → ⊥) (module_of c).formals

-- one is exactly where the test says so
abbrev pub HasCircularBy : Program → Scope → Bool → Type 0
HasCircularBy p c true = Any (IsCircularFormal p c) (module_of c).formals
HasCircularBy p c false = AreStraight p c

-- ---- entries

-- the definition or the actual parameters are not circular, and their paths are sound
abbrev pub IsDefined : Program → Scope → Entry → Entity → Type 0
IsDefined p s e (Entity.Defined body)
    = (IsCircular p (record { scope = s; name = e.name }) → ⊥) × AreSound p s (mentions body)
IsDefined p s e (Entity.Instance process module_name actuals)
    = ((c : Scope) → child p s e ≡ Some c → AreStraight p c)
    × AreSound p s (flat_map actual_mentions actuals)
IsDefined p s e Entity.Parameter = Unit {0}
IsDefined p s e (Entity.Stored type) = Unit {0}

-- those of the first n entries of all instances
abbrev pub AreDefinedUpTo : Program → ℕ → Type 0
AreDefinedUpTo p n
    = (v : ℕ) (s : Scope) (e : Entry) → v < n → slice_get (all_entries p) v ≡ Some (s, e)
    → IsDefined p s e e.entity
