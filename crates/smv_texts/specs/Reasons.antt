-- The numbers of refusals, and what stands behind them.
use Rattle.std.specs.Prelude.{ℕ, List, [], ◌++◌, Option, Some, None, codes, decimal}
use Rattle.kripke_model.specs.declared.refusals.FlatRefusal.{FlatRefusal}
use Rattle.kripke_model.specs.declared.refusals.Which.{Which}
use Rattle.kripke_model.specs.declared.expressions.FaultKind.{FaultKind}
use Rattle.kripke_model.specs.declared.refusals.StaticRefusal.{StaticRefusal}
use Rattle.kripke_model.specs.System.{System, State, Variable, value_in}
use Rattle.kripke_model.specs.Shown.{value_text}
use Rattle.smv_texts.specs.Report.{numbered}

-- a number of a refusal, and the line that it tells
abbrev pub on_line : List ℕ → ℕ → List ℕ
on_line number l = number ++ codes " line " ++ decimal l

-- the limit that was passed
abbrev pub limit_word : Which → List ℕ
limit_word Which.Variables = codes "variables"
limit_word Which.Values = codes "values"
limit_word Which.Instances = codes "instances"
limit_word Which.Depth = codes "depth"
limit_word Which.Specifications = codes "specifications"
limit_word Which.Constraints = codes "constraints"
limit_word Which.Nodes = codes "nodes"
limit_word Which.Nesting = codes "nesting"

-- why a program has no flat model; want of memory is no reason, and is never told
abbrev pub flat_reason : FlatRefusal → List ℕ
flat_reason FlatRefusal.NoMain = codes "E6"
flat_reason (FlatRefusal.DuplicateName l) = on_line (codes "E7") l
flat_reason (FlatRefusal.UnknownName l) = on_line (codes "E8") l
flat_reason (FlatRefusal.RecursiveModule l) = on_line (codes "E9") l
flat_reason (FlatRefusal.ArgumentCount l) = on_line (codes "E10") l
flat_reason (FlatRefusal.CircularDefine l) = on_line (codes "E11") l
flat_reason (FlatRefusal.NameIsConstant l) = on_line (codes "E12") l
flat_reason (FlatRefusal.BadIndex l) = on_line (codes "E13") l
flat_reason (FlatRefusal.BadType l) = on_line (codes "E14") l
flat_reason (FlatRefusal.NotAssignable l) = on_line (codes "E15") l
flat_reason (FlatRefusal.Limit l which counted)
    = on_line (codes "E16") l ++ codes " " ++ limit_word which ++ codes " " ++ decimal counted
flat_reason FlatRefusal.Memory = []

-- which static rule a flat model breaks
abbrev pub static_reason : StaticRefusal → List ℕ
static_reason (StaticRefusal.AssignedTwice l) = on_line (codes "E17") l
static_reason (StaticRefusal.CurrentBesideOther l) = on_line (codes "E18") l
static_reason (StaticRefusal.CircularAssignment l) = on_line (codes "E19") l
static_reason (StaticRefusal.NextNotAllowed l) = on_line (codes "E20") l
static_reason (StaticRefusal.FormulaNotAllowed l) = on_line (codes "E21") l
static_reason StaticRefusal.Memory = []

-- how many bits a state has
abbrev pub bits_reason : ℕ → List ℕ
bits_reason bits = codes "E22 bits " ++ decimal bits

-- the specification that is to be a formula without path operators, by its number
abbrev pub leaf_reason : ℕ → List ℕ
leaf_reason j = codes "E24 spec " ++ decimal j

-- ---- faults

abbrev pub kind_word : FaultKind → List ℕ
kind_word FaultKind.ManyValues = codes "ManyValues"
kind_word FaultKind.NotNumber = codes "NotNumber"
kind_word FaultKind.NotBoolean = codes "NotBoolean"
kind_word FaultKind.ZeroDivisor = codes "ZeroDivisor"
kind_word FaultKind.Overflow = codes "Overflow"
kind_word FaultKind.OutOfType = codes "OutOfType"

-- a value of variable x between these bytes
abbrev pub given_text : List ℕ → List ℕ → System → State → ℕ → Variable → List ℕ
given_text front behind m s x v = front ++ v.name ++ behind ++ value_text m x (value_in s x)

abbrev pub here_text : System → State → List ℕ
here_text m s = numbered (given_text (codes " ") (codes "=") m s) 0 m.vars

-- the values of a next state, if one is told
abbrev pub after_text : System → Option State → List ℕ
after_text m None = []
after_text m (Some t) = numbered (given_text (codes " next(") (codes ")=") m t) 0 m.vars

-- the fault of an item, its line, and the values at which it comes
abbrev pub fault_reason : System → FaultKind → ℕ → State → Option State → List ℕ
fault_reason m kind l here after
    = on_line (codes "E23") l ++ codes " " ++ kind_word kind ++ here_text m here
    ++ after_text m after
