-- The texts that the program puts beside reports and refusals.
use Rattle.std.specs.Prelude.{ℕ, List, [], ◌∷◌, ◌++◌, codes}
use Rattle.smv_texts.specs.declared.fault.Fault.{Fault}
use Rattle.smv_texts.specs.declared.fault.Fault.TheVariants.{LoadFailed, LoadMissing, SaveFailed}

-- a text and a line feed
abbrev pub line : List ℕ → List ℕ
line text = text ++ 10 ∷ []

abbrev pub usage_text : List ℕ
usage_text =
    line (codes "usage: smv_run check MODEL [--nodes N] [--proof FILE]")
    ++ line (codes "       smv_run recheck MODEL PROOF [--nodes N]")
    ++ line (codes "       smv_run gen N [--check]")
    ++ line (codes "       smv_run delay MODEL FROM TO [--nodes N]")
    ++ line (codes "       smv_run replay MODEL TRACE [--nodes N]")
    ++ line (codes "       smv_run strong MODEL [PAIR]... [--nodes N]")

-- a fault of the outside is told by this line
abbrev pub fault_line : Fault → List ℕ
fault_line LoadFailed = line (codes "fault load failed")
fault_line LoadMissing = line (codes "fault load missing")
fault_line SaveFailed = line (codes "fault save failed")
