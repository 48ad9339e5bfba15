-- Rules by their heads, which the first line of an entry has, and their bodies, the lines behind it.
use Rattle.std.specs.Prelude.{◌≡◌, ℕ, ◌≤◌, List, [], ◌∷◌, ◌++◌, length, map, codes, decimal, Result, Ok, Err}
use Rattle.proof_form.specs.Form.{Rule, EX, AX, AR, EU, AU, ER}
use Rattle.proof_form.specs.Seen.{seen_rule}
use Rattle.proof_form.specs.declared.form.Rule as declared
use Rattle.proof_text.specs.Lines.{Line, counted, set_line, layer_line, fair_lines}
use Rattle.proof_text.specs.SetParts.{FitsRule}
use Rattle.proof_text.specs.Spells.{greatest_number}
use Rattle.proof_text.specs.declared.rule_heads.RuleHead.{RuleHead}
use Rattle.proof_text.specs.declared.rule_heads.RuleHead.TheVariants.{Ex, Ax, Ar, Eu, Au, Er}
use Rattle.text_lines.specs.declared.faults.Fault.{Fault}

-- the words of a head
abbrev pub head_words : RuleHead → List (List ℕ)
head_words Ex = codes "EX" ∷ []
head_words Ax = codes "AX" ∷ []
head_words Ar = codes "AR" ∷ []
head_words (Eu count) = codes "EU" ∷ decimal count ∷ []
head_words (Au count) = codes "AU" ∷ decimal count ∷ []
head_words Er = codes "ER" ∷ []

-- its number is one that is written
abbrev pub IsSmallHead : RuleHead → Type 0
IsSmallHead Ex = Unit {0}
IsSmallHead Ax = Unit {0}
IsSmallHead Ar = Unit {0}
IsSmallHead (Eu count) = count ≤ greatest_number
IsSmallHead (Au count) = count ≤ greatest_number
IsSmallHead Er = Unit {0}

abbrev pub head_of : Rule ℕ → RuleHead
head_of (EX set) = Ex
head_of (AX set) = Ax
head_of (AR set) = Ar
head_of (EU sets) = Eu (length sets)
head_of (AU layers) = Au (length layers)
head_of (ER fair untils) = Er

abbrev pub body_lines : Rule ℕ → List Line
body_lines (EX set) = set_line set ∷ []
body_lines (AX set) = set_line set ∷ []
body_lines (AR set) = set_line set ∷ []
body_lines (EU sets) = map set_line sets
body_lines (AU layers) = map layer_line layers
body_lines (ER fair untils)
    = fair_lines fair ++ (counted (codes "until") (length untils) ∷ map set_line untils)

-- a rule with this head fits
abbrev pub FitsBody : ℕ → ℕ → RuleHead → Rule ℕ → Type 0
FitsBody count most head r = FitsRule count most r × (head_of r ≡ head)

-- a rule of the head's kind
abbrev pub bare_rule : RuleHead → Rule ℕ
bare_rule Ex = EX 0
bare_rule Ax = AX 0
bare_rule Ar = AR 0
bare_rule (Eu count) = EU []
bare_rule (Au count) = AU []
bare_rule Er = ER (record { inside = 0; reach = [] }) []

-- the rule that is read
abbrev pub in_rule : Result (declared.Rule ℕ) Fault → Result (Rule ℕ) Fault
in_rule (Ok rule) = Ok (seen_rule rule)
in_rule (Err fault) = Err fault
