-- Constants that are the same value.
use Rattle.std.specs.Prelude.{ℕ, Bool, false, ◌==◌, nat_eq, List}
use Rattle.std.specs.List.{list_any}
use Rattle.std.specs.Str.{bytes_eq}
use Rattle.smv_instances.specs.Program.{Name, Constant}
use Rattle.smv_instances.specs.Declarations.{one_if}

-- the number is the constant's value
abbrev pub is_number : ℕ → Constant → Bool
is_number n (Constant.Atom x) = false
is_number n (Constant.Digits m) = n == m
is_number n (Constant.Truth b) = n == one_if b

abbrev pub is_name : Name → Constant → Bool
is_name x (Constant.Atom y) = bytes_eq x y
is_name x (Constant.Digits n) = false
is_name x (Constant.Truth b) = false

abbrev pub is_same : Constant → Constant → Bool
is_same (Constant.Atom x) d = is_name x d
is_same (Constant.Digits n) d = is_number n d
is_same (Constant.Truth b) d = is_number (one_if b) d

-- whether a constant's name or number is among these
abbrev pub holds : List Name → List ℕ → Constant → Bool
holds names numbers (Constant.Atom x) = list_any (bytes_eq x) names
holds names numbers (Constant.Digits n) = list_any (nat_eq n) numbers
holds names numbers (Constant.Truth b) = list_any (nat_eq (one_if b)) numbers
