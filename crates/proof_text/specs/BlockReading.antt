-- The parts of a block behind its first line, and what a reader finds where a block may begin.
use Rattle.std.specs.Prelude.{◌≡◌, ◌⊎◌, ℕ, ◌+◌, ◌≤◌, Bool, List, [], ◌∷◌, ◌++◌, length, decimal, IsSomeAnd, Result, Ok, Err}
use Rattle.std.specs.Global.{Vec}
use Rattle.bdd_nodes.specs.declared.triple.Triple.{Triple}
use Rattle.kripke_model.specs.Ctl.{Ctl}
use Rattle.kripke_model.specs.System.{System}
use Rattle.proof_form.specs.Form.{Proof}
use Rattle.proof_form.specs.Shape.{spec_formula}
use Rattle.proof_text.specs.FileParts.{FitsNodes, FitsProof}
use Rattle.proof_text.specs.Lines.{Line, line_text, claim_word, proof_lines, nodes_lines}
use Rattle.proof_text.specs.SetParts.{StartsNone}
use Rattle.proof_text.specs.Spells.{IsGoodLine, greatest_number}
use Rattle.proof_text.specs.declared.heads.Head.{Head}
use Rattle.text_lines.specs.Cursor.{Place}
use Rattle.text_lines.specs.Found.{IsFound}
use Rattle.text_lines.specs.WholeLines.{lines_in}
use Rattle.text_lines.specs.declared.faults.Fault.{Fault}
use Rattle.text_lines.specs.declared.faults.Fault.TheVariants.{End}

-- ---- the first line

abbrev pub IsSmallHead : Head → Type 0
IsSmallHead h = h.spec ≤ greatest_number

-- the words behind the first one
abbrev pub claimed_words : Head → List (List ℕ)
claimed_words h = decimal h.spec ∷ claim_word h.claim ∷ []

-- ---- nodes behind their number, and a proof over them

abbrev pub FitsRest : System → Ctl → Bool → List Triple × Proof ℕ → Type 0
FitsRest m f claim p = FitsNodes p.0 × FitsProof m f claim (length p.0 + 2) p.1

abbrev pub rest_lines : System → List Triple × Proof ℕ → List Line
rest_lines m p = nodes_lines p.0 ++ proof_lines m p.1

-- of the specification that the first line names
abbrev pub FitsBehindHead : System → Head → List Triple × Proof ℕ → Type 0
FitsBehindHead m h p = IsSomeAnd (spec_formula m h.spec) (λ f. FitsRest m f h.claim p)

-- what is read
abbrev pub in_rest : Result (Vec Triple × Proof ℕ) Fault → Result (List Triple × Proof ℕ) Fault
in_rest (Ok p) = Ok (p.0.items, p.1)
in_rest (Err fault) = Err fault

-- ---- readers

-- what a reader finds of a part in a text whose nodes are over so many levels
abbrev pub FindsOver : {X : Type 0} → ℕ → (X → Type 0) → (X → List Line) → Place → Result X Fault
    → Place → Type 0
FindsOver levels Fits lines old result new
    = IsFound line_text (IsGoodLine levels) Fits lines old result new

-- no whole line is left
abbrev pub EndsHere : Place → Fault → Place → Type 0
EndsHere old fault new = (lines_in old.left ≡ []) × (fault ≡ End) × (new ≡ old)

-- and where it may be that no part fits, or that no line is left
abbrev pub FindsFirst : {X : Type 0} → ℕ → (X → Type 0) → (X → List Line) → Place → Result X Fault
    → Place → Type 0
FindsFirst levels Fits lines old (Ok x) new = FindsOver levels Fits lines old (Ok x) new
FindsFirst levels Fits lines old (Err fault) new
    = EndsHere old fault new
    ⊎ (StartsNone Fits lines old fault new ⊎ FindsOver levels Fits lines old (Err fault) new)
