-- A part and one behind it are read in turn.
use Rattle.std.proofs.Common.{◌≡◌, ℕ, zero, suc, ◌+◌, ◌≤◌, List, [], ◌∷◌, ◌++◌, length, map, take, refl, sym, ◌∙◌, ap, subst, arith, append_assoc, append-nil, length-append}
use Rattle.std.specs.Prelude.{All}
use Rattle.std.proofs.lemmas.List.{map-append, length-map}
use Rattle.std.proofs.lemmas.List.Elements.{All-append}
use Rattle.text_lines.specs.Formats.{Begins, GoesOn, IsRead, StopsAt, Ends, AreKnown, FitBoth, lines_of_both}
use Rattle.text_lines.proofs.Lists.{same_first, same_rest, all_right}

-- ---- lists

pub cancel : {A : Type 0} (xs ys zs : List A) → xs ++ ys ≡ xs ++ zs → ys ≡ zs
cancel [] ys zs e = e
cancel (x ∷ xs) ys zs e = cancel xs ys zs (same_rest x x (xs ++ ys) (xs ++ zs) e)

-- a longer beginning of a list has a shorter one in it
record Longer {A : Type 0} (xs more front rest : List A) : Type 0 where
  pub others : List A
  pub whole : front ≡ xs ++ others
  pub left : more ≡ others ++ rest

longer : {A : Type 0} (xs more front rest : List A) → xs ++ more ≡ front ++ rest → length xs ≤ length front → Longer xs more front rest
longer [] more front rest e le = record { others = front; whole = refl; left = e }
longer (x ∷ xs) more [] rest e le = absurd (omega (arith, le))
longer (x ∷ xs) more (y ∷ front) rest e le =
    let l = longer xs more front rest (same_rest x y (xs ++ more) (front ++ rest) e) (omega (arith, le)) in
    record {
      others = l.others;
      whole = ap (λ z. z ∷ front) (sym (same_first x y (xs ++ more) (front ++ rest) e)) ∙ ap (λ zs. x ∷ zs) l.whole;
      left = l.left;
    }

take_over : {A : Type 0} (xs ys : List A) (n k : ℕ) → n ≡ length xs + k → take n (xs ++ ys) ≡ xs ++ take k ys
take_over [] ys n k e = ap (λ i. take i ys) (omega (arith, e))
take_over (x ∷ xs) ys zero k e = absurd (omega (arith, e))
take_over (x ∷ xs) ys (suc n) k e = ap (λ zs. x ∷ zs) (take_over xs ys n k (omega (arith, e)))

-- the lines of a part are among so many that reach past them
pub take_past : {Line Text : Type 0} (text : Line → Text) (ls : List Line) (texts us : List Text) → texts ≡ map text ls ++ us → (n k : ℕ) → n ≡ length ls + k → take n texts ≡ map text ls ++ take k us
take_past text ls texts us is n k e = ap (take n) is ∙ take_over (map text ls) us n k (omega (arith, e, length-map ls text))

take_short : {A : Type 0} (xs ys : List A) (n : ℕ) → n ≤ length xs → take n (xs ++ ys) ≡ take n xs
take_short xs ys zero le = refl
take_short [] ys (suc n) le = absurd (omega (arith, le))
take_short (x ∷ xs) ys (suc n) le = ap (λ zs. x ∷ zs) (take_short xs ys n (omega (arith, le)))

-- ---- beginnings, with given lines behind the part

module _ {Line Text : Type 0} (text : Line → Text) (Good : Line → Type 0) {X : Type 0} (Fits : X → Type 0) (lines : X → List Line) where
  record IsFront (more : List Line) (texts : List Text) : Type 0 where
    pub part : X
    pub fits : Fits part
    pub front : List Line
    pub rest : List Line
    pub whole : lines part ++ more ≡ front ++ rest
    pub texts_are : map text front ≡ texts
    pub good : All Good front

  goes_on_front : (texts : List Text) (g : GoesOn text Good Fits lines texts) → IsFront g.more texts
  goes_on_front texts g = record { part = g.part; fits = g.fits; front = g.front; rest = g.rest; whole = g.whole; texts_are = g.texts_are; good = g.good }

  front_goes_on : (more : List Line) (texts : List Text) → IsFront more texts → GoesOn text Good Fits lines texts
  front_goes_on more texts g = record { part = g.part; fits = g.fits; more = more; front = g.front; rest = g.rest; whole = g.whole; texts_are = g.texts_are; good = g.good }

  begins_front : (texts : List Text) → Begins text Good Fits lines texts → IsFront [] texts
  begins_front texts b = record { part = b.part; fits = b.fits; front = b.front; rest = b.rest; whole = append-nil (lines b.part) ∙ b.whole; texts_are = b.texts_are; good = b.good }

  front_begins : (texts : List Text) → IsFront [] texts → Begins text Good Fits lines texts
  front_begins texts b = record { part = b.part; fits = b.fits; front = b.front; rest = b.rest; whole = sym (append-nil (lines b.part)) ∙ b.whole; texts_are = b.texts_are; good = b.good }

  -- what begins a part goes on in one
  pub begins_goes_on : (texts : List Text) → Begins text Good Fits lines texts → GoesOn text Good Fits lines texts
  begins_goes_on texts b = front_goes_on [] texts (begins_front texts b)

module _ {Line Text X Y : Type 0} (text : Line → Text) (Good : Line → Type 0) (FitsX : X → Type 0) (lines_x : X → List Line) (FitsY : X → Y → Type 0) (lines_y : X → Y → List Line) where
  abbrev Fits : X × Y → Type 0
  Fits = FitBoth FitsX FitsY

  abbrev lines : X × Y → List Line
  lines = lines_of_both lines_x lines_y

  -- each first part has some last one
  abbrev pub HasLast : Type 0
  HasLast = (x : X) → FitsX x → (y : Y) × FitsY x y

  pub both_known : AreKnown text Good FitsX lines_x → ((x : X) → AreKnown text Good (FitsY x) (lines_y x)) → AreKnown text Good Fits lines
  both_known first last a b fit_a fit_b behind after e =
      let e' : map text (lines_x a.0) ++ (map text (lines_y a.0 a.1) ++ behind) ≡ map text (lines_x b.0) ++ (map text (lines_y b.0 b.1) ++ after) =
      split a.0 a.1 behind ∙ e ∙ sym (split b.0 b.1 after) in
      let same : a.0 ≡ b.0 = first a.0 b.0 fit_a.0 fit_b.0 (map text (lines_y a.0 a.1) ++ behind) (map text (lines_y b.0 b.1) ++ after) e' in
      go a.0 b.0 same a.1 b.1 fit_a.1 fit_b.1 e'
    where
      split : (x : X) (y : Y) (r : List Text) → map text (lines_x x) ++ (map text (lines_y x y) ++ r) ≡ map text (lines_x x ++ lines_y x y) ++ r
      split x y r = sym (append_assoc (map text (lines_x x)) (map text (lines_y x y)) r) ∙ ap (λ t. t ++ r) (sym (map-append text (lines_x x) (lines_y x y)))

      go : (x z : X) → x ≡ z → (y w : Y) → FitsY x y → FitsY z w → map text (lines_x x) ++ (map text (lines_y x y) ++ behind) ≡ map text (lines_x z) ++ (map text (lines_y z w) ++ after) → ◌≡◌ {A = X × Y} (x, y) (z, w)
      go x z same =
          subst (λ z. (y w : Y) → FitsY x y → FitsY z w → map text (lines_x x) ++ (map text (lines_y x y) ++ behind) ≡ map text (lines_x z) ++ (map text (lines_y z w) ++ after) → ◌≡◌ {A = X × Y} (x, y) (z, w)) same
          (λ y w p q h. ap (λ v. (x, v)) (last x y w p q behind after (cancel (map text (lines_x x)) (map text (lines_y x y) ++ behind) (map text (lines_y x w) ++ after) h)))

  -- both are read
  pub both_read : (x : X) (y : Y) (texts us vs : List Text) → IsRead text Good FitsX lines_x x texts us → IsRead text Good (FitsY x) (lines_y x) y us vs → IsRead text Good Fits lines (x, y) texts vs
  both_read x y texts us vs p q = record {
    fits = (p.fits, q.fits);
    good = All-append Good (lines_x x) (lines_y x y) p.good q.good;
    texts_are = p.texts_are ∙ ap (λ t. map text (lines_x x) ++ t) q.texts_are ∙ sym (append_assoc (map text (lines_x x)) (map text (lines_y x y)) vs)
        ∙ ap (λ t. t ++ vs) (sym (map-append text (lines_x x) (lines_y x y)));
  }

  -- what begins a first part begins both
  pub first_begins : HasLast → (texts : List Text) → Begins text Good FitsX lines_x texts → Begins text Good Fits lines texts
  first_begins has texts b =
      let y = has b.part b.fits in
      record {
        part = (b.part, y.0);
        fits = (b.fits, y.1);
        front = b.front;
        rest = b.rest ++ lines_y b.part y.0;
        whole = ap (λ ls. ls ++ lines_y b.part y.0) b.whole ∙ append_assoc b.front b.rest (lines_y b.part y.0);
        texts_are = b.texts_are;
        good = b.good;
      }

  -- and what begins a last one, behind its first one
  pub last_begins : (x : X) (texts us vs : List Text) → IsRead text Good FitsX lines_x x texts us → Begins text Good (FitsY x) (lines_y x) vs → Begins text Good Fits lines (map text (lines_x x) ++ vs)
  last_begins x texts us vs p b = record {
    part = (x, b.part);
    fits = (p.fits, b.fits);
    front = lines_x x ++ b.front;
    rest = b.rest;
    whole = ap (λ ls. lines_x x ++ ls) b.whole ∙ sym (append_assoc (lines_x x) b.front b.rest);
    texts_are = map-append text (lines_x x) b.front ∙ ap (λ t. map text (lines_x x) ++ t) b.texts_are;
    good = All-append Good (lines_x x) b.front p.good b.good;
  }

  pub first_stops : HasLast → (texts : List Text) (k : ℕ) → StopsAt text Good FitsX lines_x texts k → StopsAt text Good Fits lines texts k
  first_stops has texts k s = record {
    within = s.within;
    before = first_begins has (take k texts) s.before;
    after = λ g. s.after (record {
      part = g.part.0;
      fits = g.fits.0;
      more = lines_y g.part.0 g.part.1 ++ g.more;
      front = g.front;
      rest = g.rest;
      whole = sym (append_assoc (lines_x g.part.0) (lines_y g.part.0 g.part.1) g.more) ∙ g.whole;
      texts_are = g.texts_are;
      good = g.good;
    });
  }

  pub first_ends : HasLast → (texts : List Text) → Ends text Good FitsX lines_x texts → Ends text Good Fits lines texts
  first_ends has texts e = record {
    begins = first_begins has texts e.begins;
    none = λ p fits behind is. e.none p.0 fits.0 (map text (lines_y p.0 p.1) ++ behind)
        (is ∙ ap (λ t. t ++ behind) (map-append text (lines_x p.0) (lines_y p.0 p.1)) ∙ append_assoc (map text (lines_x p.0)) (map text (lines_y p.0 p.1)) behind);
  }

  -- the first part is the one that was read, where any goes on behind its lines
  module _ (known : AreKnown text Good FitsX lines_x) (x : X) (texts us : List Text) (p : IsRead text Good FitsX lines_x x texts us) where
    take_behind : (n k : ℕ) → n ≡ length (lines_x x) + k → take n texts ≡ map text (lines_x x) ++ take k us
    take_behind = take_past text (lines_x x) texts us p.texts_are

    -- what begins both, with these lines behind them, begins the last one with the same lines behind it
    last_front : (more : List Line) (j : ℕ) → IsFront text Good Fits lines more (take (length (lines_x x) + j) texts) → IsFront text Good (FitsY x) (lines_y x) more (take j us)
    last_front more j g = go g.part.0 same g.part.1 g.fits.1 g.whole
      where
        texts_are : map text g.front ≡ map text (lines_x x) ++ take j us
        texts_are = g.texts_are ∙ take_behind (length (lines_x x) + j) j (omega arith)

        long : length (lines_x x) ≤ length g.front
        long = omega (arith, ap length texts_are, length-append (map text (lines_x x)) (take j us), length-map g.front text, length-map (lines_x x) text)

        all_texts : map text (lines_x g.part.0) ++ (map text (lines_y g.part.0 g.part.1) ++ map text more) ≡ map text (lines_x x) ++ (take j us ++ map text g.rest)
        all_texts =
            sym (append_assoc (map text (lines_x g.part.0)) (map text (lines_y g.part.0 g.part.1)) (map text more))
            ∙ ap (λ t. t ++ map text more) (sym (map-append text (lines_x g.part.0) (lines_y g.part.0 g.part.1)))
            ∙ sym (map-append text (lines g.part) more) ∙ ap (map text) g.whole ∙ map-append text g.front g.rest
            ∙ ap (λ t. t ++ map text g.rest) texts_are ∙ append_assoc (map text (lines_x x)) (take j us) (map text g.rest)

        same : g.part.0 ≡ x
        same = known g.part.0 x g.fits.0 p.fits (map text (lines_y g.part.0 g.part.1) ++ map text more) (take j us ++ map text g.rest) all_texts

        found : (y : Y) → FitsY x y → (lines_x x ++ lines_y x y) ++ more ≡ g.front ++ g.rest → IsFront text Good (FitsY x) (lines_y x) more (take j us)
        found y fits whole =
            let l = longer (lines_x x) (lines_y x y ++ more) g.front g.rest (sym (append_assoc (lines_x x) (lines_y x y) more) ∙ whole) long in
            record {
              part = y;
              fits = fits;
              front = l.others;
              rest = g.rest;
              whole = l.left;
              texts_are = cancel (map text (lines_x x)) (map text l.others) (take j us) (sym (map-append text (lines_x x) l.others) ∙ sym (ap (map text) l.whole) ∙ texts_are);
              good = all_right Good (lines_x x) l.others (subst (All Good) l.whole g.good);
            }

        go : (z : X) → z ≡ x → (y : Y) → FitsY z y → (lines_x z ++ lines_y z y) ++ more ≡ g.front ++ g.rest → IsFront text Good (FitsY x) (lines_y x) more (take j us)
        go z e = subst (λ z. (y : Y) → FitsY z y → (lines_x z ++ lines_y z y) ++ more ≡ g.front ++ g.rest → IsFront text Good (FitsY x) (lines_y x) more (take j us)) (sym e) found

    last_goes_on : (j : ℕ) → GoesOn text Good Fits lines (take (length (lines_x x) + j) texts) → GoesOn text Good (FitsY x) (lines_y x) (take j us)
    last_goes_on j g = front_goes_on text Good (FitsY x) (lines_y x) g.more (take j us) (last_front g.more j (goes_on_front text Good Fits lines (take (length (lines_x x) + j) texts) g))

    -- without any lines behind
    pub last_begins_back : (j : ℕ) → Begins text Good Fits lines (take (length (lines_x x) + j) texts) → Begins text Good (FitsY x) (lines_y x) (take j us)
    last_begins_back j b = front_begins text Good (FitsY x) (lines_y x) (take j us) (last_front [] j (begins_front text Good Fits lines (take (length (lines_x x) + j) texts) b))

    pub last_stops : (j : ℕ) → StopsAt text Good (FitsY x) (lines_y x) us j → StopsAt text Good Fits lines texts (length (lines_x x) + j)
    last_stops j s = record {
      within = omega (arith, s.within, ap length p.texts_are, length-append (map text (lines_x x)) us, length-map (lines_x x) text);
      before = subst (Begins text Good Fits lines) (sym (take_behind (length (lines_x x) + j) j (omega arith))) (last_begins x texts us (take j us) p s.before);
      after = λ g. s.after (last_goes_on (j + 1) (subst (λ n. GoesOn text Good Fits lines (take n texts)) (omega arith) g));
    }

    pub last_ends : Ends text Good (FitsY x) (lines_y x) us → Ends text Good Fits lines texts
    last_ends e = record {
      begins = subst (Begins text Good Fits lines) (sym p.texts_are) (last_begins x texts us us p e.begins);
      none = λ q fits behind is. none q.0 q.1 fits.0 fits.1 behind (sym p.texts_are ∙ is ∙ split q.0 q.1 behind);
    }
      where
        split : (z : X) (y : Y) (r : List Text) → map text (lines_x z ++ lines_y z y) ++ r ≡ map text (lines_x z) ++ (map text (lines_y z y) ++ r)
        split z y r = ap (λ t. t ++ r) (map-append text (lines_x z) (lines_y z y)) ∙ append_assoc (map text (lines_x z)) (map text (lines_y z y)) r

        none : (z : X) (y : Y) → FitsX z → FitsY z y → (behind : List Text) → map text (lines_x x) ++ us ≡ map text (lines_x z) ++ (map text (lines_y z y) ++ behind) → ⊥
        none z y fit_z fit_y behind is = go z (known x z p.fits fit_z us (map text (lines_y z y) ++ behind) is) y fit_y is
          where
            go : (z : X) → x ≡ z → (y : Y) → FitsY z y → map text (lines_x x) ++ us ≡ map text (lines_x z) ++ (map text (lines_y z y) ++ behind) → ⊥
            go z same = subst (λ z. (y : Y) → FitsY z y → map text (lines_x x) ++ us ≡ map text (lines_x z) ++ (map text (lines_y z y) ++ behind) → ⊥) same
                (λ y fits h. e.none y fits behind (cancel (map text (lines_x x)) us (map text (lines_y x y) ++ behind) h))
