-- The flat model of a program.
use Rattle.std.specs.Prelude.{◌≡◌, Bool, true, false, List, [], ◌∷◌, map, flat_map, filter}
use Rattle.std.specs.List.{AllZip}
use Rattle.kripke_model.specs.System.{System, Assignment, Condition}
use Rattle.smv_instances.specs.Program.{Assigned, Kind, Stated, Section, Program}
use Rattle.smv_instances.specs.Instances.{Scope, module_of, instances, processes, process_name, place_of, symbols, variables, has_selector}
use Rattle.smv_names.specs.Expands.{Expands, Selects}

-- ---- items

-- an assignment, or an `INIT`, `INVAR`, `TRANS`, `SPEC` or `FAIRNESS`
pub data Item : Type 0 where
  Assigns : (a : Assigned) → Item
  States : (c : Stated) → Item

abbrev pub section_items : Section → List Item
section_items (Section.Vars ds) = []
section_items (Section.Defines ds) = []
section_items (Section.Assigns items) = map Item.Assigns items
section_items (Section.States c) = Item.States c ∷ []

-- an item with the instance in whose body it stands
abbrev pub Placed : Type 0
Placed = Scope × Item

-- all items, in instantiation order
abbrev pub all_items : Program → List Placed
all_items p = flat_map (λ s. map (λ i. (s, i)) (flat_map section_items (module_of s).sections))
    (instances p)

abbrev pub same_kind : Kind → Kind → Bool
same_kind Kind.Init Kind.Init = true
same_kind Kind.Invar Kind.Invar = true
same_kind Kind.Trans Kind.Trans = true
same_kind Kind.Spec Kind.Spec = true
same_kind Kind.Fairness Kind.Fairness = true
same_kind k l = false

abbrev pub is_assignment : Item → Bool
is_assignment (Item.Assigns a) = true
is_assignment (Item.States c) = false

abbrev pub is_of : Kind → Item → Bool
is_of k (Item.Assigns a) = false
is_of k (Item.States c) = same_kind k c.kind

abbrev pub assignments : Program → List Placed
assignments p = filter (λ i. is_assignment i.1) (all_items p)

abbrev pub items_of : Kind → Program → List Placed
items_of k p = filter (λ i. is_of k i.1) (all_items p)

-- ---- the flat model

abbrev pub IsAssignment : Program → Placed → Assignment → Type 0
IsAssignment p (s, Item.Assigns a) b =
    (b.part ≡ a.part) × Selects p s a.left b.var
    × (b.process ≡ place_of (processes p) (process_name s)) × Expands p s a.right b.right
    × (b.line ≡ a.line)
IsAssignment p (s, Item.States c) b = ⊥

abbrev pub IsCondition : Program → Placed → Condition → Type 0
IsCondition p (s, Item.States c) d = Expands p s c.expr d.expr × (d.line ≡ c.line)
IsCondition p (s, Item.Assigns a) d = ⊥

pub record Flattens (p : Program) (m : System) : Type 0 where
  pub symbols : m.symbols ≡ symbols p
  pub vars : m.vars ≡ variables p
  pub selector : m.selector ≡ has_selector p
  pub processes : m.processes ≡ processes p
  pub assigns : AllZip (IsAssignment p) (assignments p) m.assigns
  pub inits : AllZip (IsCondition p) (items_of Kind.Init p) m.inits
  pub invars : AllZip (IsCondition p) (items_of Kind.Invar p) m.invars
  pub trans : AllZip (IsCondition p) (items_of Kind.Trans p) m.trans
  pub constraints : AllZip (IsCondition p) (items_of Kind.Fairness p) m.constraints
  pub specs : AllZip (IsCondition p) (items_of Kind.Spec p) m.specs
