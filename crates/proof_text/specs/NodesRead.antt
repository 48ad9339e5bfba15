-- How a node is judged behind earlier ones.
use Rattle.std.specs.Prelude.{◌≡◌, ℕ, ◌++◌, List, [], ◌∷◌, Result, Ok, Err}
use Rattle.bdd_nodes.specs.declared.triple.Triple.{Triple}
use Rattle.proof_text.specs.Lines.{Node}
use Rattle.proof_text.specs.Spells.{IsGoodLine}
use Rattle.text_lines.specs.declared.faults.Fault.{Fault}
use Rattle.text_lines.specs.declared.faults.Fault.TheVariants.{Stops, Breaks, End, Memory}

-- it keeps the rules and is added, or it breaks them, at the line
abbrev pub IsJudged : ℕ → List Triple → Triple → ℕ → Result (Unit {0}) Fault → List Triple → Type 0
IsJudged levels old t line (Ok x) new = IsGoodLine levels (Node old t) × (new ≡ old ++ t ∷ [])
IsJudged levels old t line (Err (Breaks l)) new = (l ≡ line) × (IsGoodLine levels (Node old t) → ⊥)
IsJudged levels old t line (Err Memory) new = Unit {0}
IsJudged levels old t line (Err (Stops l)) new = ⊥
IsJudged levels old t line (Err End) new = ⊥
