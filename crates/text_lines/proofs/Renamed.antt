-- The same parts, in another form.
use Rattle.std.proofs.Common.{◌≡◌, ℕ, ◌+◌, List, ◌++◌, map, take, sym, ◌∙◌, ap, subst}
use Rattle.std.specs.Prelude.{All}
use Rattle.text_lines.specs.Formats.{Begins, GoesOn, IsRead, StopsAt, Ends, AreKnown}

module _ {Line Text X Z : Type 0} (text : Line → Text) (Good : Line → Type 0) (FitsX : X → Type 0) (lines_x : X → List Line) (FitsZ : Z → Type 0) (lines_z : Z → List Line)
    (to : X → Z) (from : Z → X) (same_lines : (x : X) → lines_z (to x) ≡ lines_x x) (fits : (x : X) → FitsX x → FitsZ (to x))
    (lines_back : (z : Z) → lines_x (from z) ≡ lines_z z) (fits_back : (z : Z) → FitsZ z → FitsX (from z)) where
  pub begins_so : (texts : List Text) → Begins text Good FitsX lines_x texts → Begins text Good FitsZ lines_z texts
  begins_so texts b = record { part = to b.part; fits = fits b.part b.fits; front = b.front; rest = b.rest; whole = same_lines b.part ∙ b.whole; texts_are = b.texts_are; good = b.good }

  goes_back : (texts : List Text) → GoesOn text Good FitsZ lines_z texts → GoesOn text Good FitsX lines_x texts
  goes_back texts g = record {
    part = from g.part;
    fits = fits_back g.part g.fits;
    more = g.more;
    front = g.front;
    rest = g.rest;
    whole = ap (λ ls. ls ++ g.more) (lines_back g.part) ∙ g.whole;
    texts_are = g.texts_are;
    good = g.good;
  }

  pub renamed_read : (x : X) (texts us : List Text) → IsRead text Good FitsX lines_x x texts us → IsRead text Good FitsZ lines_z (to x) texts us
  renamed_read x texts us p = record {
    fits = fits x p.fits;
    good = subst (All Good) (sym (same_lines x)) p.good;
    texts_are = p.texts_are ∙ ap (λ ls. map text ls ++ us) (sym (same_lines x));
  }

  pub renamed_stops : (texts : List Text) (k : ℕ) → StopsAt text Good FitsX lines_x texts k → StopsAt text Good FitsZ lines_z texts k
  renamed_stops texts k s = record { within = s.within; before = begins_so (take k texts) s.before; after = λ g. s.after (goes_back (take (k + 1) texts) g) }

  pub renamed_ends : (texts : List Text) → Ends text Good FitsX lines_x texts → Ends text Good FitsZ lines_z texts
  renamed_ends texts e = record {
    begins = begins_so texts e.begins;
    none = λ z fit behind is. e.none (from z) (fits_back z fit) behind (is ∙ ap (λ ls. map text ls ++ behind) (sym (lines_back z)));
  }

  pub renamed_known : ((z : Z) → to (from z) ≡ z) → AreKnown text Good FitsX lines_x → AreKnown text Good FitsZ lines_z
  renamed_known back known a b fit_a fit_b behind after e =
      sym (back a)
      ∙ ap to (known (from a) (from b) (fits_back a fit_a) (fits_back b fit_b) behind after
      (ap (λ ls. map text ls ++ behind) (lines_back a) ∙ e ∙ ap (λ ls. map text ls ++ after) (sym (lines_back b))))
      ∙ back b
