-- How values are written.
use Rattle.std.specs.Prelude.{ℕ, ◌&&◌, ◌==◌, if◌then◌else◌, List, [], ℤ, pos, negsuc}
use Rattle.std.specs.Fmt.{signed_decimal}
use Rattle.std.specs.List.{slice_index_or}
use Rattle.kripke_model.specs.declared.expressions.Value.{Value}
use Rattle.kripke_model.specs.declared.expressions.Value.TheVariants.{Number, Symbol}
use Rattle.kripke_model.specs.System.{System}

abbrev pub process_name : System → ℤ → List ℕ
process_name m (pos p) = slice_index_or m.processes p []
process_name m (negsuc p) = []

-- a value of variable x: a value of the selector names a process
abbrev pub value_text : System → ℕ → Value → List ℕ
value_text m x (Symbol c) = slice_index_or m.symbols c []
value_text m x (Number i) = if m.selector && x == 0 then process_name m i else signed_decimal i
