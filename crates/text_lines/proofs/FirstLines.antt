-- What follows where no part starts with a line. One of two kinds of parts, which the first line tells apart.
use Rattle.std.proofs.Common.{◌≡◌, ◌⊎◌, inl, inr, List, [], ◌∷◌, ◌++◌, length, map, refl, sym, ◌∙◌, ap, arith}
use Rattle.std.proofs.lemmas.List.Elements.{All-nil}
use Rattle.text_lines.specs.Formats.{Begins, GoesOn, Ends, AreKnown, FitBoth, FitEither, lines_of_both, lines_of_either}
use Rattle.text_lines.proofs.Lists.{same_first, First, first_of}

module _ {Line Text X : Type 0} (text : Line → Text) (Fits : X → Type 0) (lines : X → List Line) where
  -- no part's first line has this text
  abbrev pub NoneStarts : Text → Type 0
  NoneStarts t = (x : X) → Fits x → (l : Line) (ls : List Line) → lines x ≡ l ∷ ls → text l ≡ t → ⊥

  -- each part has a line
  abbrev pub HaveLines : Type 0
  HaveLines = (x : X) → Fits x → lines x ≡ [] → ⊥

module _ {Line Text X : Type 0} (text : Line → Text) (Good : Line → Type 0) (Fits : X → Type 0) (lines : X → List Line) (some : HaveLines text Fits lines) where
  module _ (t : Text) (starts : NoneStarts text Fits lines t) where
    -- none goes on with the line
    pub none_goes_on : GoesOn text Good Fits lines (t ∷ []) → ⊥
    none_goes_on g =
        let f = first_of (lines g.part) (some g.part g.fits) in
        go g.front f (sym (ap (λ ls. ls ++ g.more) f.whole) ∙ g.whole) g.texts_are
      where
        go : (front : List Line) (f : First (lines g.part)) → f.head ∷ (f.others ++ g.more) ≡ front ++ g.rest → map text front ≡ t ∷ [] → ⊥
        go [] f whole is = omega (arith, ap length is)
        go (l ∷ front) f whole is =
            starts g.part g.fits f.head f.others f.whole
            (ap text (same_first f.head l (f.others ++ g.more) (front ++ g.rest) whole) ∙ same_first (text l) t (map text front) [] is)

    -- and none stands there
    pub none_stands : (ts : List Text) (x : X) → Fits x → (behind : List Text) → t ∷ ts ≡ map text (lines x) ++ behind → ⊥
    none_stands ts x fits behind is =
        let f = first_of (lines x) (some x fits) in
        starts x fits f.head f.others f.whole (sym (same_first t (text f.head) ts (map text f.others ++ behind) (is ∙ ap (λ ls. map text ls ++ behind) f.whole)))

  -- none stands where no line is left
  pub none_left : (x : X) → Fits x → (behind : List Text) → [] ≡ map text (lines x) ++ behind → ⊥
  none_left x fits behind is =
      let f = first_of (lines x) (some x fits) in
      omega (arith, ap length (is ∙ ap (λ ls. map text ls ++ behind) f.whole))

-- ---- a part behind another one

module _ {Line Text X Y : Type 0} (text : Line → Text) (FitsX : X → Type 0) (lines_x : X → List Line) (FitsY : X → Y → Type 0) (lines_y : X → Y → List Line) (some : HaveLines text FitsX lines_x) where
  pub both_have_lines : HaveLines text (FitBoth FitsX FitsY) (lines_of_both lines_x lines_y)
  both_have_lines p fits is =
      let f = first_of (lines_x p.0) (some p.0 fits.0) in
      omega (arith, ap length (sym (ap (λ ls. ls ++ lines_y p.0 p.1) f.whole) ∙ is))

  -- both start with the first line of the first one
  pub first_of_both : (t : Text) → NoneStarts text FitsX lines_x t → NoneStarts text (FitBoth FitsX FitsY) (lines_of_both lines_x lines_y) t
  first_of_both t starts p fits l ls whole e =
      let f = first_of (lines_x p.0) (some p.0 fits.0) in
      starts p.0 fits.0 f.head f.others f.whole
      (ap text (same_first f.head l (f.others ++ lines_y p.0 p.1) ls (sym (ap (λ ls. ls ++ lines_y p.0 p.1) f.whole) ∙ whole)) ∙ e)

-- ---- one of two kinds

module _ {Line Text X Y : Type 0} (text : Line → Text) (Good : Line → Type 0) (FitsX : X → Type 0) (lines_x : X → List Line) (FitsY : Y → Type 0) (lines_y : Y → List Line)
    (some_x : HaveLines text FitsX lines_x) (some_y : HaveLines text FitsY lines_y) where
  abbrev Fits : X ⊎ Y → Type 0
  Fits = FitEither FitsX FitsY

  abbrev lines : X ⊎ Y → List Line
  lines = lines_of_either lines_x lines_y

  -- no part of the second kind starts with the first line of one of the first kind
  abbrev pub AreApart : Type 0
  AreApart = (x : X) → FitsX x → (l : Line) (ls : List Line) → lines_x x ≡ l ∷ ls → NoneStarts text FitsY lines_y (text l)

  first_begins : (texts : List Text) → Begins text Good FitsX lines_x texts → Begins text Good Fits lines texts
  first_begins texts b = record { part = inl b.part; fits = b.fits; front = b.front; rest = b.rest; whole = b.whole; texts_are = b.texts_are; good = b.good }

  last_begins : (texts : List Text) → Begins text Good FitsY lines_y texts → Begins text Good Fits lines texts
  last_begins texts b = record { part = inr b.part; fits = b.fits; front = b.front; rest = b.rest; whole = b.whole; texts_are = b.texts_are; good = b.good }

  pub first_ends : (t : Text) (ts : List Text) → NoneStarts text FitsY lines_y t → Ends text Good FitsX lines_x (t ∷ ts) → Ends text Good Fits lines (t ∷ ts)
  first_ends t ts other e = record { begins = first_begins (t ∷ ts) e.begins; none = none }
    where
      none : (p : X ⊎ Y) → Fits p → (behind : List Text) → t ∷ ts ≡ map text (lines p) ++ behind → ⊥
      none (inl x) fits behind is = e.none x fits behind is
      none (inr y) fits behind is = none_stands text Good FitsY lines_y some_y t other ts y fits behind is

  pub last_ends : (t : Text) (ts : List Text) → NoneStarts text FitsX lines_x t → Ends text Good FitsY lines_y (t ∷ ts) → Ends text Good Fits lines (t ∷ ts)
  last_ends t ts other e = record { begins = last_begins (t ∷ ts) e.begins; none = none }
    where
      none : (p : X ⊎ Y) → Fits p → (behind : List Text) → t ∷ ts ≡ map text (lines p) ++ behind → ⊥
      none (inl x) fits behind is = none_stands text Good FitsX lines_x some_x t other ts x fits behind is
      none (inr y) fits behind is = e.none y fits behind is

  -- the lines end before either
  pub none_ends : (p : X ⊎ Y) → Fits p → Ends text Good Fits lines []
  none_ends p fits = record {
    begins = record { part = p; fits = fits; front = []; rest = lines p; whole = refl; texts_are = refl; good = All-nil Good };
    none = none;
  }
    where
      none : (p : X ⊎ Y) → Fits p → (behind : List Text) → [] ≡ map text (lines p) ++ behind → ⊥
      none (inl x) fits behind is = none_left text Good FitsX lines_x some_x x fits behind is
      none (inr y) fits behind is = none_left text Good FitsY lines_y some_y y fits behind is

  module _ (apart : AreApart) where
    -- one of each kind don't stand at one place
    pub not_both : (x : X) (y : Y) → FitsX x → FitsY y → (behind after : List Text) → map text (lines_x x) ++ behind ≡ map text (lines_y y) ++ after → ⊥
    not_both x y fit_x fit_y behind after e =
        let f = first_of (lines_x x) (some_x x fit_x) in
        none_stands text Good FitsY lines_y some_y (text f.head) (apart x fit_x f.head f.others f.whole) (map text f.others ++ behind) y fit_y after
        (sym (ap (λ ls. map text ls ++ behind) f.whole) ∙ e)

    pub either_known : AreKnown text Good FitsX lines_x → AreKnown text Good FitsY lines_y → AreKnown text Good Fits lines
    either_known known_x known_y (inl a) (inl b) fit_a fit_b behind after e = ap inl (known_x a b fit_a fit_b behind after e)
    either_known known_x known_y (inl a) (inr b) fit_a fit_b behind after e = absurd (not_both a b fit_a fit_b behind after e)
    either_known known_x known_y (inr a) (inl b) fit_a fit_b behind after e = absurd (not_both b a fit_b fit_a after behind (sym e))
    either_known known_x known_y (inr a) (inr b) fit_a fit_b behind after e = ap inr (known_y a b fit_a fit_b behind after e)
