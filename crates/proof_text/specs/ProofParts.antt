-- The parts of a proof: its free part, what stands behind that, and entries with the end of a block.
use Rattle.std.specs.Prelude.{◌≡◌, ℕ, Bool, List, [], ◌++◌, codes, flat_map, Option, Some, None, IsSomeAnd, Result, Ok, Err}
use Rattle.std.specs.Global.{Vec}
use Rattle.kripke_model.specs.Ctl.{Ctl}
use Rattle.kripke_model.specs.System.{System, State, constraint_count}
use Rattle.proof_form.specs.Form.{Entry, FreeEntry, FreePart, Proof}
use Rattle.proof_text.specs.FileParts.{FitsEnd}
use Rattle.proof_text.specs.Lines.{Line, nonfair_lines, fair_lines, entry_lines, free_entry_lines, end_lines}
use Rattle.proof_text.specs.SetParts.{FitsLayers, FitsFair, FitsEntry, FitsFreeEntry, Finds}
use Rattle.text_lines.specs.Cursor.{Place, BeginsWith}
use Rattle.text_lines.specs.Formats.{FitEach, FitUntil, lines_of_many, lines_until}
use Rattle.text_lines.specs.declared.faults.Fault.{Fault}

-- ---- entries and the end of a block

abbrev pub FitsEnding : System → Ctl → Bool → ℕ → List (Entry ℕ) × Option State → Type 0
FitsEnding m f claim most p
    = FitUntil (FitsEntry f (constraint_count m) most) (λ _. FitsEnd m claim) [] p.0 p.1

abbrev pub ending_lines : System → List (Entry ℕ) × Option State → List Line
ending_lines m p = lines_until (λ _. entry_lines) (λ _. end_lines m) [] p.0 p.1

-- these entries stand there, and the line behind them begins none
abbrev pub AreAllEntries : System → Ctl → ℕ → Place → List (Entry ℕ) → Place → Type 0
AreAllEntries m f most old es new
    = Finds (FitEach (FitsEntry f (constraint_count m) most) [])
    (lines_of_many (λ _. entry_lines) []) old (Ok es) new × ¬ BeginsWith (codes "entry") new

-- the ending that is read
abbrev pub in_ending : Result (Vec (Entry ℕ) × Option State) Fault
    → Result (List (Entry ℕ) × Option State) Fault
in_ending (Ok p) = Ok (p.0.items, p.1)
in_ending (Err fault) = Err fault

-- ---- the main part, whether or not a free one stands before it

pub record FitsParts (m : System) (f : Ctl) (claim : Bool) (most : ℕ) (p : Proof ℕ) : Type 0 where
  pub claims : p.claim ≡ claim
  pub nonfair : FitsLayers (constraint_count m) most p.nonfair
  pub fair : FitsFair (constraint_count m) most p.fair
  pub entries : FitEach (FitsEntry f (constraint_count m) most) [] p.entries
  pub end : FitsEnd m claim p.at

abbrev pub FitsMain : System → Ctl → Bool → ℕ → Proof ℕ → Type 0
FitsMain m f claim most p = (p.free ≡ None) × FitsParts m f claim most p

abbrev pub main_lines : System → Proof ℕ → List Line
main_lines m p
    = nonfair_lines p.nonfair
    ++ (fair_lines p.fair ++ (flat_map entry_lines p.entries ++ end_lines m p.at))

-- ---- entries of the free part, and the main part

abbrev pub FitsFreeEnding : System → Ctl → Bool → ℕ → List (FreeEntry ℕ) × Proof ℕ → Type 0
FitsFreeEnding m f claim most p
    = FitUntil (FitsFreeEntry m most) (λ _. FitsMain m f claim most) [] p.0 p.1

abbrev pub free_ending_lines : System → List (FreeEntry ℕ) × Proof ℕ → List Line
free_ending_lines m p = lines_until (λ _. free_entry_lines) (λ _. main_lines m) [] p.0 p.1

-- these entries for constraints stand there, and the line behind them begins none
abbrev pub AreAllFreeEntries : System → ℕ → Place → List (FreeEntry ℕ) → Place → Type 0
AreAllFreeEntries m most old es new
    = Finds (FitEach (FitsFreeEntry m most) []) (lines_of_many (λ _. free_entry_lines) []) old
    (Ok es) new × ¬ BeginsWith (codes "centry") new

abbrev pub in_free_ending : {Q : Type 0} → Result (Vec (FreeEntry ℕ) × Q) Fault
    → Result (List (FreeEntry ℕ) × Q) Fault
in_free_ending (Ok p) = Ok (p.0.items, p.1)
in_free_ending (Err fault) = Err fault

-- ---- a proof behind the line that begins its free part

abbrev pub FitsBehind : System → Ctl → Bool → ℕ → Proof ℕ → Type 0
FitsBehind m f claim most p
    = IsSomeAnd p.free
    (λ part. FitsLayers 1 most part.nonfair × FitsFair 1 most part.fair
    × FitEach (FitsFreeEntry m most) [] part.entries) × FitsParts m f claim most p

abbrev pub lines_behind : Option (FreePart ℕ) → List Line → List Line
lines_behind None rest = rest
lines_behind (Some part) rest
    = nonfair_lines part.nonfair
    ++ (fair_lines part.fair ++ (flat_map free_entry_lines part.entries ++ rest))

abbrev pub behind_lines : System → Proof ℕ → List Line
behind_lines m p = lines_behind p.free (main_lines m p)
