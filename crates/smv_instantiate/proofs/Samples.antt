-- Small programs, on which the proofs try the definitions.
use Rattle.std.specs.Prelude.{pos, true, false, [], ◌∷◌}
use Rattle.kripke_model.specs.declared.expressions.BinOp.{BinOp}
use Rattle.kripke_model.specs.declared.expressions.PathOp.{PathOp}
use Rattle.kripke_model.specs.declared.models.Part.{Part}
use Rattle.smv_instances.specs.Program.{Name, Expr, Path, Constant, Plain, Form, Kind, Section, Program}

abbrev pub name_a : Name
name_a = 97 ∷ []

abbrev pub name_b : Name
name_b = 98 ∷ []

abbrev pub name_cell : Name
name_cell = 99 ∷ 101 ∷ 108 ∷ 108 ∷ []

abbrev pub name_d : Name
name_d = 100 ∷ []

abbrev pub name_m : Name
name_m = 109 ∷ []

abbrev pub name_main : Name
name_main = 109 ∷ 97 ∷ 105 ∷ 110 ∷ []

abbrev pub name_other : Name
name_other = 111 ∷ 116 ∷ 104 ∷ 101 ∷ 114 ∷ []

abbrev pub name_p : Name
name_p = 112 ∷ []

abbrev pub name_q : Name
name_q = 113 ∷ []

abbrev pub name_v : Name
name_v = 118 ∷ []

abbrev pub name_x : Name
name_x = 120 ∷ []

abbrev pub name_y : Name
name_y = 121 ∷ []

-- MODULE main VAR x : boolean; x : boolean; SPEC AG x
abbrev pub declared_twice : Program
declared_twice =
    record {
      name = name_main;
      line = 1;
      formals = ([]);
      sections =
          (Section.Vars (record { name = name_x; line = 1; form = Form.Stored Plain.Boolean } ∷ record { name = name_x; line = 1; form = Form.Stored Plain.Boolean } ∷ []) ∷
          Section.States (record { kind = Kind.Spec; expr = (Expr.Quant PathOp.AG (Expr.At (Path.Here 1 name_x))); line = 1 }) ∷ []);
    } ∷
    []

-- MODULE main VAR x : boolean; SPEC AG y
abbrev pub unknown : Program
unknown =
    record {
      name = name_main;
      line = 1;
      formals = ([]);
      sections =
          (Section.Vars (record { name = name_x; line = 1; form = Form.Stored Plain.Boolean } ∷ []) ∷
          Section.States (record { kind = Kind.Spec; expr = (Expr.Quant PathOp.AG (Expr.At (Path.Here 1 name_y))); line = 1 }) ∷ []);
    } ∷
    []

-- MODULE main VAR m : main; SPEC AG 1
abbrev pub contains_itself : Program
contains_itself =
    record {
      name = name_main;
      line = 1;
      formals = ([]);
      sections =
          (Section.Vars (record { name = name_m; line = 1; form = Form.Instance false name_main ([]) } ∷ []) ∷
          Section.States (record { kind = Kind.Spec; expr = (Expr.Quant PathOp.AG (Expr.Number 1)); line = 1 }) ∷ []);
    } ∷
    []

-- MODULE main VAR p : q(1); SPEC AG 1 MODULE q
abbrev pub one_argument_more : Program
one_argument_more =
    record {
      name = name_main;
      line = 1;
      formals = ([]);
      sections =
          (Section.Vars (record { name = name_p; line = 1; form = Form.Instance false name_q ((Expr.Number 1) ∷ []) } ∷ []) ∷
          Section.States (record { kind = Kind.Spec; expr = (Expr.Quant PathOp.AG (Expr.Number 1)); line = 1 }) ∷ []);
    } ∷
    record { name = name_q; line = 1; formals = ([]); sections = [] } ∷
    []

-- MODULE main VAR a : array 0..1 of boolean; SPEC AG a[2]
abbrev pub outside : Program
outside =
    record {
      name = name_main;
      line = 1;
      formals = ([]);
      sections =
          (Section.Vars (record { name = name_a; line = 1; form = Form.Stored (Plain.Array 0 1 Plain.Boolean) } ∷ []) ∷
          Section.States (record { kind = Kind.Spec; expr = (Expr.Quant PathOp.AG (Expr.At (Path.Index (Path.Here 1 name_a) (Expr.Number 2)))); line = 1 }) ∷ []);
    } ∷
    []

-- MODULE main VAR x : 3..1; SPEC AG 1
abbrev pub reversed : Program
reversed =
    record {
      name = name_main;
      line = 1;
      formals = ([]);
      sections =
          (Section.Vars (record { name = name_x; line = 1; form = Form.Stored (Plain.Range (pos 3) (pos 1)) } ∷ []) ∷
          Section.States (record { kind = Kind.Spec; expr = (Expr.Quant PathOp.AG (Expr.Number 1)); line = 1 }) ∷ []);
    } ∷
    []

-- MODULE main VAR x : boolean; DEFINE d := x; ASSIGN next(d) := 1; SPEC AG x
abbrev pub assigned_definition : Program
assigned_definition =
    record {
      name = name_main;
      line = 1;
      formals = ([]);
      sections =
          (Section.Vars (record { name = name_x; line = 1; form = Form.Stored Plain.Boolean } ∷ []) ∷
          Section.Defines (record { name = name_d; line = 1; body = (Expr.At (Path.Here 1 name_x)) } ∷ []) ∷
          Section.Assigns (record { part = Part.Next; left = (Path.Here 1 name_d); left_line = 1; right = (Expr.Number 1); line = 1 } ∷ []) ∷
          Section.States (record { kind = Kind.Spec; expr = (Expr.Quant PathOp.AG (Expr.At (Path.Here 1 name_x))); line = 1 }) ∷ []);
    } ∷
    []

-- MODULE main DEFINE d := d; SPEC d
abbrev pub circular : Program
circular =
    record {
      name = name_main;
      line = 1;
      formals = ([]);
      sections =
          (Section.Defines (record { name = name_d; line = 1; body = (Expr.At (Path.Here 1 name_d)) } ∷ []) ∷
          Section.States (record { kind = Kind.Spec; expr = (Expr.At (Path.Here 1 name_d)); line = 1 }) ∷ []);
    } ∷
    []

-- MODULE main VAR x : {a, b}; a : boolean; SPEC a
abbrev pub constant_name : Program
constant_name =
    record {
      name = name_main;
      line = 1;
      formals = ([]);
      sections =
          (Section.Vars (record { name = name_x; line = 1; form = Form.Stored (Plain.Enumeration ((Constant.Atom name_a) ∷ (Constant.Atom name_b) ∷ [])) } ∷ record { name = name_a; line = 1; form = Form.Stored Plain.Boolean } ∷ []) ∷
          Section.States (record { kind = Kind.Spec; expr = (Expr.At (Path.Here 1 name_a)); line = 1 }) ∷ []);
    } ∷
    []

-- the empty text
abbrev pub empty : Program
empty =
    []

-- MODULE main
-- VAR p : cell(q.v); q : cell(p.v);
-- SPEC AG (p.v <-> q.v)
-- MODULE cell(other) VAR v : boolean;
-- ASSIGN init(v) := 0; next(v) := !other;
abbrev pub cells : Program
cells =
    record {
      name = name_main;
      line = 1;
      formals = ([]);
      sections =
          (Section.Vars (record { name = name_p; line = 2; form = Form.Instance false name_cell ((Expr.At (Path.Field (Path.Here 2 name_q) name_v)) ∷ []) } ∷ record { name = name_q; line = 2; form = Form.Instance false name_cell ((Expr.At (Path.Field (Path.Here 2 name_p) name_v)) ∷ []) } ∷ []) ∷
          Section.States (record { kind = Kind.Spec; expr = (Expr.Quant PathOp.AG (Expr.Parens (Expr.Binary BinOp.Iff (Expr.At (Path.Field (Path.Here 3 name_p) name_v)) (Expr.At (Path.Field (Path.Here 3 name_q) name_v))))); line = 3 }) ∷ []);
    } ∷
    record {
      name = name_cell;
      line = 4;
      formals = (record { name = name_other; line = 4 } ∷ []);
      sections =
          (Section.Vars (record { name = name_v; line = 4; form = Form.Stored Plain.Boolean } ∷ []) ∷
          Section.Assigns (record { part = Part.Init; left = (Path.Here 5 name_v); left_line = 5; right = (Expr.Number 0); line = 5 } ∷ record { part = Part.Next; left = (Path.Here 5 name_v); left_line = 5; right = (Expr.Not (Expr.At (Path.Here 5 name_other))); line = 5 } ∷ []) ∷ []);
    } ∷
    []

-- MODULE main VAR x : boolean; SPEC AG x
abbrev pub accepted : Program
accepted =
    record {
      name = name_main;
      line = 1;
      formals = ([]);
      sections =
          (Section.Vars (record { name = name_x; line = 1; form = Form.Stored Plain.Boolean } ∷ []) ∷
          Section.States (record { kind = Kind.Spec; expr = (Expr.Quant PathOp.AG (Expr.At (Path.Here 1 name_x))); line = 1 }) ∷ []);
    } ∷
    []

-- MODULE main VAR a : array 0..1 of boolean; DEFINE d := 1; SPEC AG a[d]
abbrev pub array_of_one : Program
array_of_one =
    record {
      name = name_main;
      line = 1;
      formals = ([]);
      sections =
          (Section.Vars (record { name = name_a; line = 1; form = Form.Stored (Plain.Array 0 1 Plain.Boolean) } ∷ []) ∷
          Section.Defines (record { name = name_d; line = 1; body = (Expr.Number 1) } ∷ []) ∷
          Section.States (record { kind = Kind.Spec; expr = (Expr.Quant PathOp.AG (Expr.At (Path.Index (Path.Here 1 name_a) (Expr.At (Path.Here 1 name_d))))); line = 1 }) ∷ []);
    } ∷
    []

-- MODULE main VAR a : array 0..256 of boolean; SPEC AG 1
abbrev pub too_many_variables : Program
too_many_variables =
    record {
      name = name_main;
      line = 1;
      formals = ([]);
      sections =
          (Section.Vars (record { name = name_a; line = 1; form = Form.Stored (Plain.Array 0 256 Plain.Boolean) } ∷ []) ∷
          Section.States (record { kind = Kind.Spec; expr = (Expr.Quant PathOp.AG (Expr.Number 1)); line = 1 }) ∷ []);
    } ∷
    []

-- MODULE main VAR a : array 0..256 of 0..1024; SPEC AG 1
abbrev pub too_many_values : Program
too_many_values =
    record {
      name = name_main;
      line = 1;
      formals = ([]);
      sections =
          (Section.Vars (record { name = name_a; line = 1; form = Form.Stored (Plain.Array 0 256 (Plain.Range (pos 0) (pos 1024))) } ∷ []) ∷
          Section.States (record { kind = Kind.Spec; expr = (Expr.Quant PathOp.AG (Expr.Number 1)); line = 1 }) ∷ []);
    } ∷
    []

-- MODULE main VAR main : process cell; SPEC AG 1 MODULE cell
abbrev pub second_main : Program
second_main =
    record {
      name = name_main;
      line = 1;
      formals = ([]);
      sections =
          (Section.Vars (record { name = name_main; line = 1; form = Form.Instance true name_cell ([]) } ∷ []) ∷
          Section.States (record { kind = Kind.Spec; expr = (Expr.Quant PathOp.AG (Expr.Number 1)); line = 1 }) ∷ []);
    } ∷
    record { name = name_cell; line = 1; formals = ([]); sections = [] } ∷
    []
