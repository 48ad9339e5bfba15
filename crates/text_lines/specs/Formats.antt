-- Parts of a text, line by line, and what a reader finds of one at the head of a list of lines.
use Rattle.std.proofs.Common.{inl, inr}
use Rattle.std.specs.Prelude.{◌≡◌, ◌⊎◌, ℕ, zero, suc, ◌+◌, ◌<◌, List, [], ◌∷◌, ◌++◌, length, map, take, All}

-- lines have texts, and some are good; a part fits, and has these lines
module _ {Line Text : Type 0} (text : Line → Text) (Good : Line → Type 0) {X : Type 0}
    (Fits : X → Type 0) (lines : X → List Line) where
  -- some part begins with these lines, which are good
  pub record Begins (texts : List Text) : Type 0 where
    pub part : X
    pub fits : Fits part
    pub front : List Line
    pub rest : List Line
    pub whole : lines part ≡ front ++ rest
    pub texts_are : map text front ≡ texts
    pub good : All Good front

  -- some part, with any lines behind it, begins with these lines, which are good
  pub record GoesOn (texts : List Text) : Type 0 where
    pub part : X
    pub fits : Fits part
    pub more : List Line
    pub front : List Line
    pub rest : List Line
    pub whole : lines part ++ more ≡ front ++ rest
    pub texts_are : map text front ≡ texts
    pub good : All Good front

  -- the part stands there, and these lines behind it
  pub record IsRead (part : X) (texts behind : List Text) : Type 0 where
    pub fits : Fits part
    pub good : All Good (lines part)
    pub texts_are : texts ≡ map text (lines part) ++ behind

  -- no part goes on at line k, and those before it begin one
  pub record StopsAt (texts : List Text) (k : ℕ) : Type 0 where
    pub within : k < length texts
    pub before : Begins (take k texts)
    pub after : GoesOn (take (k + 1) texts) → ⊥

  -- all lines begin a part, and none stands there whole
  pub record Ends (texts : List Text) : Type 0 where
    pub begins : Begins texts
    pub none : (part : X) → Fits part → (behind : List Text)
        → texts ≡ map text (lines part) ++ behind → ⊥

  -- a part is known by its lines, whatever stands behind them
  abbrev pub AreKnown : Type 0
  AreKnown = (a b : X) → Fits a → Fits b → (behind after : List Text)
      → map text (lines a) ++ behind ≡ map text (lines b) ++ after → a ≡ b

-- ---- a part behind another one, on which it may depend

abbrev pub FitBoth : {X Y : Type 0} → (X → Type 0) → (X → Y → Type 0) → X × Y → Type 0
FitBoth FitsX FitsY p = FitsX p.0 × FitsY p.0 p.1

abbrev pub lines_of_both : {Line X Y : Type 0} → (X → List Line) → (X → Y → List Line) → X × Y
    → List Line
lines_of_both lines_x lines_y p = lines_x p.0 ++ lines_y p.0 p.1

-- ---- one of two kinds

abbrev pub FitEither : {X Y : Type 0} → (X → Type 0) → (Y → Type 0) → X ⊎ Y → Type 0
FitEither FitsX FitsY (inl x) = FitsX x
FitEither FitsX FitsY (inr y) = FitsY y

abbrev pub lines_of_either : {Line X Y : Type 0} → (X → List Line) → (Y → List Line) → X ⊎ Y
    → List Line
lines_of_either lines_x lines_y (inl x) = lines_x x
lines_of_either lines_x lines_y (inr y) = lines_y y

-- ---- so many in a row, each of which may depend on the earlier ones

abbrev pub FitMany : {X : Type 0} → (List X → X → Type 0) → ℕ → List X → List X → Type 0
FitMany Fits zero earlier [] = Unit {0}
FitMany Fits zero earlier (x ∷ xs) = ⊥
FitMany Fits (suc n) earlier [] = ⊥
FitMany Fits (suc n) earlier (x ∷ xs) = Fits earlier x × FitMany Fits n (earlier ++ x ∷ []) xs

abbrev pub lines_of_many : {Line X : Type 0} → (List X → X → List Line) → List X → List X
    → List Line
lines_of_many lines earlier [] = []
lines_of_many lines earlier (x ∷ xs) = lines earlier x ++ lines_of_many lines (earlier ++ x ∷ []) xs

-- ---- any number in a row, each of which may depend on the earlier ones

abbrev pub FitEach : {X : Type 0} → (List X → X → Type 0) → List X → List X → Type 0
FitEach Fits earlier [] = Unit {0}
FitEach Fits earlier (x ∷ xs) = Fits earlier x × FitEach Fits (earlier ++ x ∷ []) xs

-- ---- any number in a row, and a closing part behind them, which may depend on all of them

abbrev pub FitUntil : {X Y : Type 0} → (List X → X → Type 0) → (List X → Y → Type 0) → List X
    → List X → Y → Type 0
FitUntil Fits FitsY earlier [] y = FitsY earlier y
FitUntil Fits FitsY earlier (x ∷ xs) y
    = Fits earlier x × FitUntil Fits FitsY (earlier ++ x ∷ []) xs y

abbrev pub lines_until : {Line X Y : Type 0} → (List X → X → List Line) → (List X → Y → List Line)
    → List X → List X → Y → List Line
lines_until lines lines_y earlier [] y = lines_y earlier y
lines_until lines lines_y earlier (x ∷ xs) y
    = lines earlier x ++ lines_until lines lines_y (earlier ++ x ∷ []) xs y
