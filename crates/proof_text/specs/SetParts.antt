-- Which sets, layers, fair parts, rules and entries can stand in a block, and what a reader of one finds.
use Rattle.std.specs.Prelude.{◌≡◌, ◌⊎◌, ℕ, ◌+◌, ◌<◌, ◌≤◌, List, [], ◌∷◌, length, map, codes, decimal, All, Option, Some, None, Result, Ok, Err}
use Rattle.std.specs.Global.{Vec}
use Rattle.kripke_model.specs.Ctl.{Ctl}
use Rattle.kripke_model.specs.System.{System}
use Rattle.proof_form.specs.Form.{Layer, FairPart, Rule, EX, AX, AR, EU, AU, ER, Entry, FreeEntry}
use Rattle.proof_form.specs.Shape.{Avoids, HasRule, HasConstraintRule, ComesBefore, StandsBefore}
use Rattle.proof_text.specs.Lines.{Line, Words, words_of, line_text, set_line}
use Rattle.proof_text.specs.Spells.{IsGoodLine, greatest_number}
use Rattle.text_lines.specs.Cursor.{Place, Shows}
use Rattle.text_lines.specs.Found.{IsFound}
use Rattle.text_lines.specs.Words.{AreWords}
use Rattle.text_lines.specs.declared.faults.Fault.{Fault}
use Rattle.text_lines.specs.declared.faults.Fault.TheVariants.{Stops}

-- ---- what fits, where the sets of a block are the numbers below this one

abbrev pub FitsSet : ℕ → ℕ → Type 0
FitsSet most s = (s < most) × (s ≤ greatest_number)

abbrev pub FitsSets : ℕ → List ℕ → Type 0
FitsSets most sets = All (FitsSet most) sets × (length sets ≤ greatest_number)

abbrev pub FitsLayer : ℕ → ℕ → Layer ℕ → Type 0
FitsLayer count most l = Avoids count l × FitsSet most l.set

abbrev pub FitsLayers : ℕ → ℕ → List (Layer ℕ) → Type 0
FitsLayers count most layers = All (FitsLayer count most) layers × (length layers ≤ greatest_number)

-- a list of reach sets for each constraint
abbrev pub FitsFair : ℕ → ℕ → FairPart ℕ → Type 0
FitsFair count most p
    = FitsSet most p.inside × (length p.reach ≡ count) × All (FitsSets most) p.reach

abbrev pub FitsRule : ℕ → ℕ → Rule ℕ → Type 0
FitsRule count most (EX set) = FitsSet most set
FitsRule count most (AX set) = FitsSet most set
FitsRule count most (AR set) = FitsSet most set
FitsRule count most (EU sets) = FitsSets most sets
FitsRule count most (AU layers) = FitsLayers count most layers
FitsRule count most (ER fair untils) = FitsFair count most fair × FitsSets most untils

-- behind these entries
abbrev pub FitsEntry : Ctl → ℕ → ℕ → List (Entry ℕ) → Entry ℕ → Type 0
FitsEntry f count most earlier e
    = HasRule f e × All (λ a. ComesBefore a e) earlier × FitsRule count most e.rule

abbrev pub FitsFreeEntry : System → ℕ → List (FreeEntry ℕ) → FreeEntry ℕ → Type 0
FitsFreeEntry m most earlier e
    = HasConstraintRule m e × All (λ a. StandsBefore a e) earlier × FitsRule 1 most e.entry.rule

-- ---- so many of them

abbrev pub AreSets : ℕ → ℕ → List ℕ → Type 0
AreSets most n sets = All (FitsSet most) sets × (length sets ≡ n)

abbrev pub AreLayers : ℕ → ℕ → ℕ → List (Layer ℕ) → Type 0
AreLayers count most n layers = All (FitsLayer count most) layers × (length layers ≡ n)

-- lists of reach sets
abbrev pub AreLists : ℕ → ℕ → List (List ℕ) → Type 0
AreLists most n lists = All (FitsSets most) lists × (length lists ≡ n)

-- the sets that lead to constraint k
abbrev pub list_lines : ℕ → List ℕ → List Line
list_lines k sets
    = Words (codes "reach" ∷ decimal k ∷ decimal (length sets) ∷ []) ∷ map set_line sets

-- ---- readers

-- what is found where a line of words is judged: what it says, or that it says nothing that fits
abbrev pub Judges : {X : Type 0} → (X → Type 0) → (X → Line) → List ℕ → Option X → Type 0
Judges Fits line text (Some x) = Fits x × AreWords text (words_of (line x))
Judges Fits line text None = (x : _) → Fits x → AreWords text (words_of (line x)) → ⊥

-- what a reader finds of a part none of whose lines is one of a node
abbrev pub Finds : {X : Type 0} → (X → Type 0) → (X → List Line) → Place → Result X Fault → Place
    → Type 0
Finds Fits lines old result new
    = (levels : ℕ) → IsFound line_text (IsGoodLine levels) Fits lines old result new

-- no part has the line that stands there as its first one
pub record StartsNone {X : Type 0} (Fits : X → Type 0) (lines : X → List Line) (old : Place)
    (fault : Fault) (new : Place) : Type 0 where
  pub text : List ℕ
  pub shown : Shows old (Some text)
  pub none : (x : X) → Fits x → (l : Line) (ls : List Line) → lines x ≡ l ∷ ls → line_text l ≡ text
      → ⊥
  pub is : fault ≡ Stops old.line
  pub room : new.line + length new.left ≤ old.line + length old.left

-- what a reader finds of a part, where it may be that none fits
abbrev pub FindsNext : {X : Type 0} → (X → Type 0) → (X → List Line) → Place → Result X Fault
    → Place → Type 0
FindsNext Fits lines old (Ok x) new = Finds Fits lines old (Ok x) new
FindsNext Fits lines old (Err fault) new
    = StartsNone Fits lines old fault new ⊎ Finds Fits lines old (Err fault) new

-- the list that is read
abbrev pub in_list : {A : Type 0} → Result (Vec A) Fault → Result (List A) Fault
in_list (Ok xs) = Ok xs.items
in_list (Err fault) = Err fault

-- the lists in it
abbrev pub in_lists : {A : Type 0} → Result (Vec (Vec A)) Fault → Result (List (List A)) Fault
in_lists (Ok lists) = Ok (map (λ xs. xs.items) lists.items)
in_lists (Err fault) = Err fault
