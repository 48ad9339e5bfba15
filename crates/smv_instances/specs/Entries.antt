-- What a module declares.
use Rattle.std.specs.Prelude.{ℕ, Bool, List, [], ◌++◌, map, find, flat_map, Option, option_map}
use Rattle.std.specs.Str.{bytes_eq}
use Rattle.smv_instances.specs.Program.{Name, Expr, Plain, Form, Declaration, Definition, Section, Formal, Module, Program}

-- a formal parameter, a variable or array, an instance, or a defined symbol
pub data Entity : Type 0 where
  Parameter : Entity
  Stored : (type : Plain) → Entity
  Instance : (process : Bool) → (module_name : Name) → (actuals : List Expr) → Entity
  Defined : (body : Expr) → Entity

pub record Entry : Type 0 where
  pub name : Name
  pub line : ℕ
  pub entity : Entity

abbrev pub entity_of_form : Form → Entity
entity_of_form (Form.Stored type) = Entity.Stored type
entity_of_form (Form.Instance process module_name actuals)
    = Entity.Instance process module_name actuals

abbrev pub of_formal : Formal → Entry
of_formal f = record { name = f.name; line = f.line; entity = Entity.Parameter }

abbrev pub of_declaration : Declaration → Entry
of_declaration d = record { name = d.name; line = d.line; entity = entity_of_form d.form }

abbrev pub of_definition : Definition → Entry
of_definition d = record { name = d.name; line = d.line; entity = Entity.Defined d.body }

abbrev pub of_section : Section → List Entry
of_section (Section.Vars ds) = map of_declaration ds
of_section (Section.Defines ds) = map of_definition ds
of_section (Section.Assigns items) = []
of_section (Section.States item) = []

-- the formal parameters, then what the sections declare, in text order
abbrev pub entries : Module → List Entry
entries m = map of_formal m.formals ++ flat_map of_section m.sections

-- what the module declares under the name
abbrev pub entity_in : Module → Name → Option Entity
entity_in m x = option_map (λ e. e.entity) (find (λ e. bytes_eq e.name x) (entries m))

abbrev pub module_named : Program → Name → Option Module
module_named p x = find (λ m. bytes_eq m.name x) p
