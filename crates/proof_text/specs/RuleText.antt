-- The text of an entry behind its sign.
use Rattle.std.specs.Prelude.{ℕ, List, [], ◌∷◌, ◌++◌, length, map, codes}
use Rattle.proof_form.specs.Form.{Rule, EX, AX, AR, EU, AU, ER}
use Rattle.proof_text.specs.Lines.{counted, fair_lines, layer_line, set_line, text_of}

abbrev pub rule_text : Rule ℕ → List ℕ
rule_text (EX set) = codes " EX\n" ++ text_of (set_line set ∷ [])
rule_text (AX set) = codes " AX\n" ++ text_of (set_line set ∷ [])
rule_text (AR set) = codes " AR\n" ++ text_of (set_line set ∷ [])
rule_text (EU sets)
    = 32 ∷ text_of (counted (codes "EU") (length sets) ∷ []) ++ text_of (map set_line sets)
rule_text (AU layers)
    = 32 ∷ text_of (counted (codes "AU") (length layers) ∷ []) ++ text_of (map layer_line layers)
rule_text (ER fair untils)
    = codes " ER\n"
    ++ (text_of (fair_lines fair)
    ++ (text_of (counted (codes "until") (length untils) ∷ []) ++ text_of (map set_line untils)))
