-- One of two kinds of parts, which the first line tells apart.
use Rattle.std.proofs.Common.{◌≡◌, ◌⊎◌, inl, inr, ℕ, suc, ◌+◌, List, [], ◌∷◌, ◌++◌, length, map, take, refl, ap, subst, arith}
use Rattle.std.specs.Prelude.{All}
use Rattle.std.proofs.lemmas.List.Elements.{All-nil, All-cons, All-head}
use Rattle.text_lines.specs.Formats.{Begins, GoesOn, IsRead, StopsAt, FitEither, lines_of_either}
use Rattle.text_lines.proofs.Lists.{same_first}

-- what goes on for some lines does so for the first one
module _ {Line Text X : Type 0} (text : Line → Text) (Good : Line → Type 0) (Fits : X → Type 0) (lines : X → List Line) where
  pub first_goes_on : (t : Text) (ts : List Text) → GoesOn text Good Fits lines (t ∷ ts) → GoesOn text Good Fits lines (t ∷ [])
  first_goes_on t ts g = go g.front g.whole g.texts_are g.good
    where
      go : (front : List Line) → lines g.part ++ g.more ≡ front ++ g.rest → map text front ≡ t ∷ ts → All Good front → GoesOn text Good Fits lines (t ∷ [])
      go [] whole is good = absurd (omega (arith, ap length is))
      go (l ∷ front) whole is good = record {
        part = g.part;
        fits = g.fits;
        more = g.more;
        front = l ∷ [];
        rest = front ++ g.rest;
        whole = whole;
        texts_are = ap (λ x. x ∷ []) (same_first (text l) t (map text front) ts is);
        good = All-cons Good l [] (All-head Good l front good) (All-nil Good);
      }

module _ {Line Text X Y : Type 0} (text : Line → Text) (Good : Line → Type 0) (FitsX : X → Type 0) (lines_x : X → List Line) (FitsY : Y → Type 0) (lines_y : Y → List Line) where
  abbrev Fits : X ⊎ Y → Type 0
  Fits = FitEither FitsX FitsY

  abbrev lines : X ⊎ Y → List Line
  lines = lines_of_either lines_x lines_y

  pub first_begins : (texts : List Text) → Begins text Good FitsX lines_x texts → Begins text Good Fits lines texts
  first_begins texts b = record { part = inl b.part; fits = b.fits; front = b.front; rest = b.rest; whole = b.whole; texts_are = b.texts_are; good = b.good }

  pub last_begins : (texts : List Text) → Begins text Good FitsY lines_y texts → Begins text Good Fits lines texts
  last_begins texts b = record { part = inr b.part; fits = b.fits; front = b.front; rest = b.rest; whole = b.whole; texts_are = b.texts_are; good = b.good }

  pub one_of : (texts : List Text) → GoesOn text Good Fits lines texts → GoesOn text Good FitsX lines_x texts ⊎ GoesOn text Good FitsY lines_y texts
  one_of texts g = go g.part g.fits g.whole
    where
      go : (p : X ⊎ Y) → Fits p → lines p ++ g.more ≡ g.front ++ g.rest → GoesOn text Good FitsX lines_x texts ⊎ GoesOn text Good FitsY lines_y texts
      go (inl x) fits whole = inl (record { part = x; fits = fits; more = g.more; front = g.front; rest = g.rest; whole = whole; texts_are = g.texts_are; good = g.good })
      go (inr y) fits whole = inr (record { part = y; fits = fits; more = g.more; front = g.front; rest = g.rest; whole = whole; texts_are = g.texts_are; good = g.good })

  one_more_x : (t : Text) (ts : List Text) (k : ℕ) → GoesOn text Good FitsX lines_x (take (k + 1) (t ∷ ts)) → GoesOn text Good FitsX lines_x (t ∷ take k ts)
  one_more_x t ts k g = let e : k + 1 ≡ suc k = omega arith in subst (λ n. GoesOn text Good FitsX lines_x (take n (t ∷ ts))) e g

  one_more_y : (t : Text) (ts : List Text) (k : ℕ) → GoesOn text Good FitsY lines_y (take (k + 1) (t ∷ ts)) → GoesOn text Good FitsY lines_y (t ∷ take k ts)
  one_more_y t ts k g = let e : k + 1 ≡ suc k = omega arith in subst (λ n. GoesOn text Good FitsY lines_y (take n (t ∷ ts))) e g

  pub first_read : (x : X) (texts us : List Text) → IsRead text Good FitsX lines_x x texts us → IsRead text Good Fits lines (inl x) texts us
  first_read x texts us p = record { fits = p.fits; good = p.good; texts_are = p.texts_are }

  pub last_read : (y : Y) (texts us : List Text) → IsRead text Good FitsY lines_y y texts us → IsRead text Good Fits lines (inr y) texts us
  last_read y texts us p = record { fits = p.fits; good = p.good; texts_are = p.texts_are }

  pub first_stops : (t : Text) (ts : List Text) (k : ℕ) → (GoesOn text Good FitsY lines_y (t ∷ []) → ⊥) → StopsAt text Good FitsX lines_x (t ∷ ts) k → StopsAt text Good Fits lines (t ∷ ts) k
  first_stops t ts k other s = record {
    within = s.within;
    before = first_begins (take k (t ∷ ts)) s.before;
    after = λ g. elim (one_of (take (k + 1) (t ∷ ts)) g) [ inl p ↦ s.after p | inr q ↦ other (first_goes_on text Good FitsY lines_y t (take k ts) (one_more_y t ts k q)) ];
  }

  pub last_stops : (t : Text) (ts : List Text) (k : ℕ) → (GoesOn text Good FitsX lines_x (t ∷ []) → ⊥) → StopsAt text Good FitsY lines_y (t ∷ ts) k → StopsAt text Good Fits lines (t ∷ ts) k
  last_stops t ts k other s = record {
    within = s.within;
    before = last_begins (take k (t ∷ ts)) s.before;
    after = λ g. elim (one_of (take (k + 1) (t ∷ ts)) g) [ inl p ↦ other (first_goes_on text Good FitsX lines_x t (take k ts) (one_more_x t ts k p)) | inr q ↦ s.after q ];
  }

  -- neither begins with the line
  pub none_stops : (t : Text) (ts : List Text) → (x : X) → FitsX x → (GoesOn text Good FitsX lines_x (t ∷ []) → ⊥) → (GoesOn text Good FitsY lines_y (t ∷ []) → ⊥) → StopsAt text Good Fits lines (t ∷ ts) 0
  none_stops t ts x fits no_first no_last = record {
    within = omega arith;
    before = record { part = inl x; fits = fits; front = []; rest = lines_x x; whole = refl; texts_are = refl; good = All-nil Good };
    after = λ g. elim (one_of (t ∷ []) g) [ inl p ↦ no_first p | inr q ↦ no_last q ];
  }
