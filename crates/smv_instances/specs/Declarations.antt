-- What a program is refused for up to its declarations and constants.
use Rattle.std.specs.Prelude.{◌≡◌, ℕ, ◌+◌, ◌-◌, ◌*◌, ◌<◌, Bool, true, false, ◌&&◌, ◌||◌, not, ltb, int_lt, List, [], ◌∷◌, ◌++◌, flat_map, length, Some, None, IsTrue, Any, sum_by, is_some, Contains, ◌⊎◌, ◌≢◌}
use Rattle.std.specs.List.{list_any}
use Rattle.kripke_model.specs.Refusing.{RefusalRule, refuse, ◌then◌, First, first_of}
use Rattle.kripke_model.specs.declared.refusals.Which.{Which}
use Rattle.kripke_model.specs.declared.refusals.FlatRefusal.{FlatRefusal}
use Rattle.smv_instances.specs.Program.{Plain, Module, Program}
use Rattle.smv_instances.specs.Entries.{Entity, Entry, entries, module_named}
use Rattle.smv_instances.specs.Instances.{Scope, module_of, depth, modules_to, main_name, main_scope, instances, declares_process, atoms_in, integer_count, type_values, is_symbol}

abbrev pub Refusal : Type 1
Refusal = RefusalRule FlatRefusal

-- an entry with the instance in whose body it stands
abbrev pub PlacedEntry : Type 0
PlacedEntry = Scope × Entry

-- ---- the program

abbrev pub second_module : Program → Refusal
second_module p
    = First (λ before m. refuse (FlatRefusal.DuplicateName m.line)
    (IsTrue (is_some (module_named before m.name)))) [] p

abbrev pub no_main : Program → Refusal
no_main p = refuse FlatRefusal.NoMain
    ((m : Module) → module_named p main_name ≡ Some m → m.formals ≡ [] → ⊥)

-- ---- declarations

-- the name was declared earlier in the same body
abbrev pub IsDeclaredAgain : List Entry → Entry → Type 0
IsDeclaredAgain earlier e = Any (λ other. other.name ≡ e.name) earlier

-- a process of `main` would have the name of process 0
abbrev pub IsSecondMain : Scope → Entry → Type 0
IsSecondMain (Scope.Main m) e = IsTrue (declares_process e.entity) × (e.name ≡ main_name)
IsSecondMain (Scope.Inside around name process actuals m) e = ⊥

-- a low end stands above its high end
abbrev pub is_reversed : Plain → Bool
is_reversed Plain.Boolean = false
is_reversed (Plain.Enumeration constants) = false
is_reversed (Plain.Range low high) = int_lt high low
is_reversed (Plain.Array low high element) = ltb high low || is_reversed element

abbrev pub variable_count : Plain → ℕ
variable_count (Plain.Array low high element) = (high + 1 - low) * variable_count element
variable_count Plain.Boolean = 1
variable_count (Plain.Enumeration constants) = 1
variable_count (Plain.Range low high) = 1

abbrev pub entry_variable_count : Entity → ℕ
entry_variable_count (Entity.Stored type) = variable_count type
entry_variable_count Entity.Parameter = 0
entry_variable_count (Entity.Instance process module_name actuals) = 0
entry_variable_count (Entity.Defined body) = 0

abbrev pub is_instance : Entity → Bool
is_instance (Entity.Instance process module_name actuals) = true
is_instance Entity.Parameter = false
is_instance (Entity.Stored type) = false
is_instance (Entity.Defined body) = false

abbrev pub one_if : Bool → ℕ
one_if true = 1
one_if false = 0

-- the flat variables that the entries declare, with the selector from the first process on
abbrev pub variables_in : List Entry → ℕ
variables_in es
    = one_if (list_any (λ e. declares_process e.entity) es) + sum_by
    (λ e. entry_variable_count e.entity) es

abbrev pub instances_in : List Entry → ℕ
instances_in es = sum_by (λ e. one_if (is_instance e.entity)) es

abbrev pub nothing : Refusal
nothing r = ⊥

-- the count passes the limit
abbrev pub above : ℕ → Which → ℕ → ℕ → Refusal
above line which most count = refuse (FlatRefusal.Limit line which (most + 1)) (most < count)

-- the number of the type's values, or of an array's elements'
abbrev pub value_count : Plain → ℕ
value_count Plain.Boolean = 2
value_count (Plain.Enumeration constants)
    = length (type_values (atoms_in (Plain.Enumeration constants)) (Plain.Enumeration constants))
value_count (Plain.Range low high) = integer_count low high
value_count (Plain.Array low high element) = value_count element

abbrev pub declaration_rows : Program → List Entry → Scope → ℕ → Entity → Refusal
declaration_rows p upto s line (Entity.Stored type) =
    refuse (FlatRefusal.BadType line) (IsTrue (is_reversed type))
    then refuse (FlatRefusal.Limit line Which.Values (value_count type)) (1024 < value_count type)
    then above line Which.Variables 256 (variables_in upto)
declaration_rows p upto s line (Entity.Instance process module_name actuals) =
    refuse (FlatRefusal.UnknownName line) (module_named p module_name ≡ None)
    then refuse (FlatRefusal.RecursiveModule line) (Contains (modules_to s) module_name)
    then refuse (FlatRefusal.ArgumentCount line)
    ((m : Module) × (module_named p module_name ≡ Some m) × (length actuals ≢ length m.formals))
    then above line Which.Variables 256 (variables_in upto)
    then above line Which.Instances 1023 (instances_in upto)
    then above line Which.Depth 32 (depth s + 1)
declaration_rows p upto s line Entity.Parameter = nothing
declaration_rows p upto s line (Entity.Defined body) = nothing

-- the entries of these bodies
abbrev pub entries_of : List Scope → List Entry
entries_of bodies = flat_map (λ s. entries (module_of s)) bodies

-- an entry of the body s, with the bodies before that one and what stands earlier in it
abbrev pub declaration : Program → List Scope → Scope → List Entry → Entry → Refusal
declaration p bodies s earlier e =
    refuse (FlatRefusal.DuplicateName e.line) (IsDeclaredAgain earlier e ⊎ IsSecondMain s e)
    then declaration_rows p (entries_of bodies ++ earlier ++ (e ∷ [])) s e.line e.entity

abbrev pub body : Program → List Scope → Scope → Refusal
body p bodies s = First (declaration p bodies s) [] (entries (module_of s))

abbrev pub declarations : Program → Refusal
declarations p = First (body p) [] (instances p)

-- ---- constants

abbrev pub is_parameter : Entity → Bool
is_parameter Entity.Parameter = true
is_parameter (Entity.Stored type) = false
is_parameter (Entity.Instance process module_name actuals) = false
is_parameter (Entity.Defined body) = false

-- a name under `VAR` or `DEFINE` that is a symbolic constant
abbrev pub is_named_constant : Program → Entry → Bool
is_named_constant p e = not (is_parameter e.entity) && is_symbol p e.name

abbrev pub named_constant : Program → Refusal
named_constant p
    = first_of (flat_map (λ s. entries (module_of s)) (main_scope p))
    (λ e. refuse (FlatRefusal.NameIsConstant e.line) (IsTrue (is_named_constant p e)))

-- ---- together

-- the passes over modules, declarations and constants
abbrev pub refused_declarations : Program → Refusal
refused_declarations p = second_module p then no_main p then declarations p then named_constant p
