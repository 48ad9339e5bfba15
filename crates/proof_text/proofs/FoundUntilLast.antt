-- What a reader finds that looks at the next line: parts in a row that begin with a word, and a closing part that doesn't.
use Rattle.std.proofs.Common.{◌≡◌, inl, inr, ℕ, ◌+◌, ◌<◌, true, List, [], ◌∷◌, ◌++◌, length, refl, sym, ◌∙◌, ap, subst, arith}
use Rattle.std.specs.Prelude.{Some, Ok, Err}
use Rattle.proof_text.specs.Lines.{Line, line_text}
use Rattle.proof_text.specs.SetParts.{Finds, FindsNext}
use Rattle.proof_text.specs.Spells.{IsGoodLine}
use Rattle.text_lines.specs.Cursor.{Place, Shows, BeginsWith}
use Rattle.text_lines.specs.Formats.{FitEach, FitUntil, lines_of_many, lines_until}
use Rattle.text_lines.specs.Found.{IsFound}
use Rattle.text_lines.specs.WholeLines.{lines_in}
use Rattle.text_lines.specs.declared.faults.Fault.{Fault}
use Rattle.text_lines.specs.declared.faults.Fault.TheVariants.{Stops, Breaks, End, Memory}
use Rattle.text_lines.proofs.FirstLines.{NoneStarts}
use Rattle.text_lines.proofs.FoundUntil.{AreTold, each_begun, each_more, part_fault, closing_fault, neither_fault, end_fault, whole_found}
use Rattle.text_lines.proofs.Lists.{same_first}
use Rattle.proof_text.proofs.FirstWords.{Starts, first_begins}

-- a part that is read has a line, and fewer bytes are left behind it
pub fewer_left : {X : Type 0} {Fits : X → Type 0} {lines : X → List Line} {old new : Place} {x : X} → (lines x ≡ [] → ⊥) → Finds Fits lines old (Ok x) new → length new.left < length old.left
fewer_left {X} {Fits} {lines} {old} {new} {x} some found = go (lines x) some (found 0).finds.line
  where
    go : (ls : List Line) → (ls ≡ [] → ⊥) → new.line ≡ old.line + length ls → length new.left < length old.left
    go [] none e = absurd (none refl)
    go (l ∷ ls) none e = omega (arith, e, (found 0).room)

same_text : (place : Place) (t u : List ℕ) → Shows place (Some t) → Shows place (Some u) → u ≡ t
same_text place t u p q = same_first u t q.0 p.0 (sym q.1 ∙ p.1)

-- a line is there that begins so
pub line_there : (word : List ℕ) (place : Place) → BeginsWith word place → lines_in place.left ≡ [] → ⊥
line_there word place begins none = omega (arith, ap length (sym begins.1.1 ∙ none))

module _ {X : Type 0} (Fits : List X → X → Type 0) (lines : List X → X → List Line) where
  -- these are read
  abbrev pub AreRead : Place → List X → Place → Type 0
  AreRead old xs mid = Finds (FitEach Fits []) (lines_of_many lines []) old (Ok xs) mid

  pub none_read : (place : Place) → AreRead place [] place
  none_read place = λ levels. each_begun Fits lines

  pub one_read : {old mid new : Place} {xs : List X} {x : X} → AreRead old xs mid → Finds (Fits xs) (lines xs) mid (Ok x) new → AreRead old (xs ++ x ∷ []) new
  one_read a b = λ levels. each_more Fits lines (a levels) (b levels)

module _ {X Y : Type 0} (Fits : List X → X → Type 0) (lines : List X → X → List Line) (FitsY : List X → Y → Type 0) (lines_y : List X → Y → List Line) where
  abbrev Whole : List X × Y → Type 0
  Whole p = FitUntil Fits FitsY [] p.0 p.1

  abbrev whole_lines : List X × Y → List Line
  whole_lines p = lines_until lines lines_y [] p.0 p.1

  pub all_read : {old mid new : Place} {xs : List X} {y : Y} → AreRead Fits lines old xs mid → Finds (FitsY xs) (lines_y xs) mid (Ok y) new → Finds Whole whole_lines old (Ok (xs, y)) new
  all_read a b = λ levels. whole_found Fits lines FitsY lines_y (a levels) (b levels)

  module _ (told : AreTold line_text Fits lines FitsY lines_y) (word : List ℕ) (starts : (earlier : List X) (x : X) → Starts word (lines earlier x))
      (other : (earlier : List X) (t rest : List ℕ) → t ≡ word ++ rest → NoneStarts line_text (FitsY earlier) (lines_y earlier) t) {old mid new : Place} {xs : List X} (a : AreRead Fits lines old xs mid) where
    -- a fault in the next part
    pub next_part_fault : {fault : Fault} → BeginsWith word mid → FindsNext (Fits xs) (lines xs) mid (Err fault) new → Finds Whole whole_lines old (Err fault) new
    next_part_fault {fault} (rest, shown) (inr found) = λ levels. part_fault Fits lines FitsY lines_y told (a levels) shown (other xs (word ++ rest) rest refl) (found levels)
    next_part_fault {fault} (rest, shown) (inl starts) = λ levels. subst (λ e. IsFound line_text (IsGoodLine levels) Whole whole_lines old (Err e) new) (sym starts.is)
        (neither_fault Fits lines FitsY lines_y told (a levels) starts.shown starts.none (other xs starts.text rest (same_text mid (word ++ rest) starts.text shown starts.shown)) refl starts.room)

    -- none is left
    none_left : (levels : ℕ) (fault : Fault) → lines_in mid.left ≡ [] → IsFound line_text (IsGoodLine levels) (FitsY xs) (lines_y xs) mid (Err fault) new
        → IsFound line_text (IsGoodLine levels) Whole whole_lines old (Err fault) new
    none_left levels (Stops l) none found = absurd (omega (arith, (found.finds.2 true).within, ap length none))
    none_left levels (Breaks l) none found = absurd (omega (arith, found.finds.2.within, ap length none))
    none_left levels End none found =
        let end = end_fault Fits lines FitsY lines_y told (a levels) {new = mid} none refl in
        record { finds = (end.finds.0, omega (arith, found.finds.1, end.finds.1, ap length none)); room = omega (arith, found.room, (a levels).room) }
    none_left levels Memory none found = record { finds = tt; room = omega (arith, found.room, (a levels).room) }

    -- a fault in the closing part
    pub last_part_fault : {fault : Fault} → (BeginsWith word mid → ⊥) → Finds (FitsY xs) (lines_y xs) mid (Err fault) new → Finds Whole whole_lines old (Err fault) new
    last_part_fault {fault} not found = λ levels. go levels (lines_in mid.left) refl
      where
        none : (t : List ℕ) → Shows mid (Some t) → NoneStarts line_text (Fits xs) (lines xs) t
        none t shown x fits l ls whole e =
            let b = first_begins word (lines xs x) (starts xs x) l ls whole in
            not (b.0, (shown.0, shown.1 ∙ ap (λ u. u ∷ shown.0) (sym e ∙ b.1)))

        go : (levels : ℕ) (ts : List (List ℕ)) → lines_in mid.left ≡ ts → IsFound line_text (IsGoodLine levels) Whole whole_lines old (Err fault) new
        go levels [] is = none_left levels fault is (found levels)
        go levels (t ∷ ts) is = closing_fault Fits lines FitsY lines_y told (a levels) (ts, is) (none t (ts, is)) (found levels)
