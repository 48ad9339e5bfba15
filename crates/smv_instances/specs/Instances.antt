-- The tree of instances, and the names of what stands in it.
use Rattle.std.specs.Prelude.{ℕ, zero, suc, ℤ, ◌+ℤ◌, ◌+◌, ◌-◌, Bool, true, false, not, length, take, List, [], ◌∷◌, ◌++◌, map, flat_map, filter, filter_map, Option, Some, None, option_map, pos, decimal}
use Rattle.std.specs.Int.{int_gap}
use Rattle.std.specs.List.{list_any, position_or_len, cons_option}
use Rattle.std.specs.Str.{bytes_eq}
use Rattle.kripke_model.specs.declared.expressions.Value.{Value}
use Rattle.kripke_model.specs.declared.expressions.Value.TheVariants.{Number, Symbol}
use Rattle.kripke_model.specs.System.{Variable}
use Rattle.kripke_model.specs.Evaluation.{distinct, truth_value}
use Rattle.smv_instances.specs.Program.{Name, Expr, Constant, Plain, Module, Program}
use Rattle.smv_instances.specs.Entries.{Entity, Entry, entries, module_named}

-- ---- instances

-- an instance, as the declarations on the way from `main` to it: its body is read in this scope
pub data Scope : Type 0 where
  Main : (m : Module) → Scope
  Inside : (around : Scope) → (name : Name) → (process : Bool) → (actuals : List Expr)
      → (m : Module) → Scope

abbrev pub module_of : Scope → Module
module_of (Main m) = m
module_of (Inside around name process actuals m) = m

abbrev pub depth : Scope → ℕ
depth (Main m) = 0
depth (Inside around name process actuals m) = depth around + 1

-- the names of the modules on the way
abbrev pub modules_to : Scope → List Name
modules_to (Main m) = m.name ∷ []
modules_to (Inside around name process actuals m) = m.name ∷ modules_to around

-- the flat name of x in the instance
abbrev pub spelled : Scope → Name → Name
spelled (Main m) x = x
spelled (Inside around name process actuals m) x = spelled around name ++ (46 ∷ x)

abbrev pub main_name : Name
main_name = 109 ∷ 97 ∷ 105 ∷ 110 ∷ []

abbrev pub selector_name : Name
selector_name = 114 ∷ 117 ∷ 110 ∷ 110 ∷ 105 ∷ 110 ∷ 103 ∷ []

-- the name of the process that the instance belongs to
abbrev pub process_name : Scope → Name
process_name (Main m) = main_name
process_name (Inside around name true actuals m) = spelled around name
process_name (Inside around name false actuals m) = process_name around

-- the instance that an entry of the body declares
abbrev pub child : Program → Scope → Entry → Option Scope
child p s e = child_of e.entity
  where
    child_of : Entity → Option Scope
    child_of (Entity.Instance process module_name actuals)
        = option_map (Inside s e.name process actuals) (module_named p module_name)
    child_of Entity.Parameter = None
    child_of (Entity.Stored type) = None
    child_of (Entity.Defined body) = None

abbrev pub children : Program → Scope → List Scope
children p s = filter_map (child p s) (entries (module_of s))

-- the instance and those inside it, at most n levels deeper
abbrev pub instances_from : Program → ℕ → Scope → List Scope
instances_from p zero s = s ∷ []
instances_from p (suc n) s = s ∷ flat_map (instances_from p n) (children p s)

abbrev pub greatest_depth : ℕ
greatest_depth = 32

abbrev pub main_scope : Program → List Scope
main_scope p = cons_option (option_map Main (module_named p main_name)) []

-- all instances, in instantiation order
abbrev pub instances : Program → List Scope
instances p = flat_map (instances_from p greatest_depth) (main_scope p)

-- the entries of all bodies, in instantiation order
abbrev pub all_entries : Program → List (Scope × Entry)
all_entries p = flat_map (λ s. map (λ e. (s, e)) (entries (module_of s))) (instances p)

-- ---- processes

abbrev pub is_process : Scope → Bool
is_process (Main m) = true
is_process (Inside around name process actuals m) = process

-- `main` and the process instances
abbrev pub processes : Program → List Name
processes p = map process_name (filter is_process (instances p))

abbrev pub declares_process : Entity → Bool
declares_process (Entity.Instance process module_name actuals) = process
declares_process Entity.Parameter = false
declares_process (Entity.Stored type) = false
declares_process (Entity.Defined body) = false

-- the process that the instance belongs to
abbrev pub process_of : Scope → Scope
process_of (Main m) = Main m
process_of (Inside around name true actuals m) = Inside around name true actuals m
process_of (Inside around name false actuals m) = process_of around

-- the declarations of process instances
abbrev pub process_entries : Program → List (Scope × Entry)
process_entries p = filter (λ e. declares_process e.1.entity) (all_entries p)

abbrev pub has_selector : Program → Bool
has_selector p = list_any (λ e. declares_process e.1.entity) (all_entries p)

-- ---- symbolic constants

-- each name once, at its first place
abbrev pub distinct_names : List Name → List Name
distinct_names [] = []
distinct_names (x ∷ xs) = x ∷ filter (λ y. not (bytes_eq x y)) (distinct_names xs)

abbrev pub atom : Constant → Option Name
atom (Constant.Atom x) = Some x
atom (Constant.Digits n) = None
atom (Constant.Truth b) = None

abbrev pub atoms_in : Plain → List Name
atoms_in Plain.Boolean = []
atoms_in (Plain.Enumeration constants) = filter_map atom constants
atoms_in (Plain.Range low high) = []
atoms_in (Plain.Array low high element) = atoms_in element

abbrev pub atoms_of : Entity → List Name
atoms_of (Entity.Stored type) = atoms_in type
atoms_of Entity.Parameter = []
atoms_of (Entity.Instance process module_name actuals) = []
atoms_of (Entity.Defined body) = []

-- in the order of their first places
abbrev pub symbols : Program → List Name
symbols p = distinct_names (flat_map (λ e. atoms_of e.1.entity) (all_entries p))

abbrev pub is_symbol : Program → Name → Bool
is_symbol p x = list_any (bytes_eq x) (symbols p)

-- the place of a name in a list of names
abbrev pub place_of : List Name → Name → ℕ
place_of names x = position_or_len (bytes_eq x) names

-- ---- flat variables

-- low, low + 1 and so on, n of them
abbrev pub rising : ℕ → ℕ → List ℕ
rising low zero = []
rising low (suc n) = low ∷ rising (low + 1) n

abbrev pub between : ℕ → ℕ → List ℕ
between low high = rising low (high + 1 - low)

-- how many integers there are from low to high
abbrev pub integer_count : ℤ → ℤ → ℕ
integer_count low high = int_gap low (high +ℤ pos 1)

-- `x[i]`
abbrev pub indexed : Name → ℕ → Name
indexed x i = x ++ (91 ∷ decimal i) ++ (93 ∷ [])

-- the names of the elements of x, rising
abbrev pub element_names : Plain → Name → List Name
element_names (Plain.Array low high element) x
    = flat_map (λ i. element_names element (indexed x i)) (between low high)
element_names Plain.Boolean x = x ∷ []
element_names (Plain.Enumeration constants) x = x ∷ []
element_names (Plain.Range low high) x = x ∷ []

abbrev pub value_of : List Name → Constant → Value
value_of names (Constant.Atom x) = Symbol (place_of names x)
value_of names (Constant.Digits n) = Number (pos n)
value_of names (Constant.Truth b) = truth_value b

-- the values of a type, or of an array's elements
abbrev pub type_values : List Name → Plain → List Value
type_values names Plain.Boolean = Number (pos 0) ∷ Number (pos 1) ∷ []
type_values names (Plain.Enumeration constants) = distinct (map (value_of names) constants)
type_values names (Plain.Range low high)
    = map (λ k. Number (low +ℤ pos k)) (rising 0 (integer_count low high))
type_values names (Plain.Array low high element) = type_values names element

-- the flat variables of an entry, where inner gives those of an instance
abbrev pub entry_variables : Program → (Scope → List Variable) → Scope → Entry → List Variable
entry_variables p inner s e = variables_of e.entity
  where
    variables_of : Entity → List Variable
    variables_of (Entity.Stored type)
        = map (λ x. record { name = x; values = type_values (symbols p) type; line = e.line })
        (element_names type (spelled s e.name))
    variables_of (Entity.Instance process module_name actuals)
        = flat_map inner (cons_option (child p s e) [])
    variables_of Entity.Parameter = []
    variables_of (Entity.Defined body) = []

-- the flat variables of an instance and of those inside it, declarations depth first
abbrev pub variables_from : Program → ℕ → Scope → List Variable
variables_from p zero s = flat_map (entry_variables p (λ c. []) s) (entries (module_of s))
variables_from p (suc n) s
    = flat_map (entry_variables p (variables_from p n) s) (entries (module_of s))

-- its line is that of the first process instance's declaration
abbrev pub selector_variables : Program → List Variable
selector_variables p
    = map (λ e. record {
      name = selector_name;
      values = map (λ k. Number (pos k)) (rising 0 (length (processes p)));
      line = e.1.line;
    })
    (take 1 (process_entries p))

-- the selector, if there is one, and the others
abbrev pub variables : Program → List Variable
variables p = selector_variables p ++ flat_map (variables_from p greatest_depth) (main_scope p)

abbrev pub variable_names : Program → List Name
variable_names p = map (λ v. v.name) (variables p)
