-- Parts of one line.
use Rattle.std.proofs.Common.{◌≡◌, List, [], ◌∷◌, ◌++◌, length, map, refl, sym, ◌∙◌, ap, subst, arith}
use Rattle.std.specs.Prelude.{All}
use Rattle.std.proofs.lemmas.List.Elements.{All-nil, All-cons, All-head}
use Rattle.text_lines.specs.Formats.{GoesOn, IsRead, StopsAt, Ends, AreKnown}
use Rattle.text_lines.proofs.Lists.{same_first}

module _ {Line Text X : Type 0} (text : Line → Text) (Good : Line → Type 0) (Fits : X → Type 0) (line : X → Line) where
  abbrev lines : X → List Line
  lines x = line x ∷ []

  pub line_known : ((a b : X) → Fits a → Fits b → text (line a) ≡ text (line b) → a ≡ b) → AreKnown text Good Fits lines
  line_known known a b fit_a fit_b behind after e = known a b fit_a fit_b (same_first (text (line a)) (text (line b)) behind after e)

  pub line_read : (x : X) (t : Text) (ts : List Text) → Fits x → Good (line x) → text (line x) ≡ t → IsRead text Good Fits lines x (t ∷ ts) ts
  line_read x t ts fits good is = record { fits = fits; good = All-cons Good (line x) [] good (All-nil Good); texts_are = ap (λ y. y ∷ ts) (sym is) }

  -- no good one is this line
  pub line_stops : (x : X) → Fits x → (t : Text) (ts : List Text) → ((y : X) → Fits y → Good (line y) → text (line y) ≡ t → ⊥) → StopsAt text Good Fits lines (t ∷ ts) 0
  line_stops x fits t ts none = record {
    within = omega arith;
    before = record { part = x; fits = fits; front = []; rest = line x ∷ []; whole = refl; texts_are = refl; good = All-nil Good };
    after = after;
  }
    where
      after : GoesOn text Good Fits lines (t ∷ []) → ⊥
      after g = go g.front g.whole g.texts_are g.good
        where
          go : (front : List Line) → line g.part ∷ g.more ≡ front ++ g.rest → map text front ≡ t ∷ [] → All Good front → ⊥
          go [] whole is good = absurd (omega (arith, ap length is))
          go (l ∷ front) whole is good = none g.part g.fits
              (same_good (line g.part) l (same_first (line g.part) l g.more (front ++ g.rest) whole) (All-head Good l front good))
              (ap text (same_first (line g.part) l g.more (front ++ g.rest) whole) ∙ same_first (text l) t (map text front) [] is)
            where
              same_good : (a b : Line) → a ≡ b → Good b → Good a
              same_good a b e good = subst Good (sym e) good

  pub line_ends : (x : X) → Fits x → Ends text Good Fits lines []
  line_ends x fits = record {
    begins = record { part = x; fits = fits; front = []; rest = line x ∷ []; whole = refl; texts_are = refl; good = All-nil Good };
    none = λ y fit behind is. absurd (omega (arith, ap length is));
  }
