-- Any number of parts in a row, and a closing part behind them. The first line of each tells which it is.
use Rattle.std.proofs.Common.{◌≡◌, ◌⊎◌, inl, inr, ℕ, ◌+◌, List, [], ◌∷◌, ◌++◌, length, map, take, refl, sym, ◌∙◌, ap, subst, arith, append_assoc, append-nil, length-append}
use Rattle.std.proofs.lemmas.List.{map-append}
use Rattle.std.proofs.lemmas.List.Elements.{All-nil, All-append}
use Rattle.text_lines.specs.Formats.{Begins, GoesOn, IsRead, StopsAt, Ends, AreKnown, FitBoth, FitEither, FitEach, FitUntil, lines_of_both, lines_of_either, lines_of_many, lines_until}
use Rattle.text_lines.proofs.Lists.{all_left, all_right, First, first_of}
use Rattle.text_lines.proofs.InTurn as turn
use Rattle.text_lines.proofs.Choice as choice
use Rattle.text_lines.proofs.FirstLines as firsts
use Rattle.text_lines.proofs.FirstLines.{NoneStarts, HaveLines}
use Rattle.text_lines.proofs.Renamed.{renamed_stops, renamed_ends}

module _ {Line Text X : Type 0} (text : Line → Text) (Good : Line → Type 0) (Fits : List X → X → Type 0) (lines : List X → X → List Line) where
  abbrev Each : List X → List X → Type 0
  Each earlier xs = FitEach Fits earlier xs

  abbrev each_lines : List X → List X → List Line
  each_lines earlier xs = lines_of_many lines earlier xs

  -- none was read
  pub none_read : (earlier : List X) (texts : List Text) → IsRead text Good (Each earlier) (each_lines earlier) [] texts texts
  none_read earlier texts = record { fits = tt; good = All-nil Good; texts_are = refl }

  -- the first of those that were read, and the others
  pub record Split (earlier : List X) (x : X) (xs : List X) (texts us : List Text) : Type 0 where
    pub middle : List Text
    pub first : IsRead text Good (Fits earlier) (lines earlier) x texts middle
    pub others : IsRead text Good (Each (earlier ++ x ∷ [])) (each_lines (earlier ++ x ∷ [])) xs middle us

  pub split : (earlier : List X) (x : X) (xs : List X) (texts us : List Text) → IsRead text Good (Each earlier) (each_lines earlier) (x ∷ xs) texts us → Split earlier x xs texts us
  split earlier x xs texts us p = record {
    middle = map text (each_lines (earlier ++ x ∷ []) xs) ++ us;
    first = record {
      fits = p.fits.0;
      good = all_left Good (lines earlier x) (each_lines (earlier ++ x ∷ []) xs) p.good;
      texts_are = p.texts_are ∙ ap (λ t. t ++ us) (map-append text (lines earlier x) (each_lines (earlier ++ x ∷ []) xs))
          ∙ append_assoc (map text (lines earlier x)) (map text (each_lines (earlier ++ x ∷ []) xs)) us;
    };
    others = record { fits = p.fits.1; good = all_right Good (lines earlier x) (each_lines (earlier ++ x ∷ []) xs) p.good; texts_are = refl };
  }

  -- and one with those behind it
  joined : (earlier : List X) (x : X) (xs : List X) (texts us vs : List Text) → IsRead text Good (Fits earlier) (lines earlier) x texts us
      → IsRead text Good (Each (earlier ++ x ∷ [])) (each_lines (earlier ++ x ∷ [])) xs us vs → IsRead text Good (Each earlier) (each_lines earlier) (x ∷ xs) texts vs
  joined earlier x xs texts us vs p q =
      let b = turn.both_read text Good (Fits earlier) (lines earlier) (λ x xs. Each (earlier ++ x ∷ []) xs) (λ x xs. each_lines (earlier ++ x ∷ []) xs) x xs texts us vs p q in
      record { fits = b.fits; good = b.good; texts_are = b.texts_are }

  -- one more is read
  pub one_more : (earlier xs : List X) (y : X) (texts us vs : List Text) → IsRead text Good (Each earlier) (each_lines earlier) xs texts us
      → IsRead text Good (Fits (earlier ++ xs)) (lines (earlier ++ xs)) y us vs → IsRead text Good (Each earlier) (each_lines earlier) (xs ++ y ∷ []) texts vs
  one_more earlier [] y texts us vs p q =
      subst (λ ts. IsRead text Good (Each earlier) (each_lines earlier) (y ∷ []) ts vs) (sym p.texts_are)
      (joined earlier y [] us vs vs (subst (λ es. IsRead text Good (Fits es) (lines es) y us vs) (append-nil earlier) q) (none_read (earlier ++ y ∷ []) vs))
  one_more earlier (x ∷ xs) y texts us vs p q =
      let c = split earlier x xs texts us p in
      joined earlier x (xs ++ y ∷ []) texts c.middle vs c.first
      (one_more (earlier ++ x ∷ []) xs y c.middle us vs c.others (subst (λ es. IsRead text Good (Fits es) (lines es) y us vs) (sym (append_assoc earlier (x ∷ []) xs)) q))

  -- the lines of more
  pub more_lines : (earlier xs ys : List X) → each_lines earlier (xs ++ ys) ≡ each_lines earlier xs ++ each_lines (earlier ++ xs) ys
  more_lines earlier [] ys = ap (λ es. each_lines es ys) (sym (append-nil earlier))
  more_lines earlier (x ∷ xs) ys =
      ap (λ ls. lines earlier x ++ ls) (more_lines (earlier ++ x ∷ []) xs ys ∙ ap (λ es. each_lines (earlier ++ x ∷ []) xs ++ each_lines es ys) (append_assoc earlier (x ∷ []) xs))
      ∙ sym (append_assoc (lines earlier x) (each_lines (earlier ++ x ∷ []) xs) (each_lines (earlier ++ x ∷ xs) ys))

  -- ---- and a closing part

  module _ {Y : Type 0} (FitsY : List X → Y → Type 0) (lines_y : List X → Y → List Line) where
    abbrev pub FitsWhole : List X → List X × Y → Type 0
    FitsWhole earlier p = FitUntil Fits FitsY earlier p.0 p.1

    abbrev pub whole_lines : List X → List X × Y → List Line
    whole_lines earlier p = lines_until lines lines_y earlier p.0 p.1

    -- behind the first one
    abbrev FitsRest : List X → X → List X × Y → Type 0
    FitsRest earlier x p = FitsWhole (earlier ++ x ∷ []) p

    abbrev rest_lines : List X → X → List X × Y → List Line
    rest_lines earlier x p = whole_lines (earlier ++ x ∷ []) p

    -- a part and the rest, or the closing part
    abbrev Next : Type 0
    Next = (X × (List X × Y)) ⊎ Y

    abbrev FitsFirst : List X → X × (List X × Y) → Type 0
    FitsFirst earlier = FitBoth (Fits earlier) (FitsRest earlier)

    abbrev first_lines : List X → X × (List X × Y) → List Line
    first_lines earlier = lines_of_both (lines earlier) (rest_lines earlier)

    abbrev FitsNext : List X → Next → Type 0
    FitsNext earlier = FitEither (FitsFirst earlier) (FitsY earlier)

    abbrev next_lines : List X → Next → List Line
    next_lines earlier = lines_of_either (first_lines earlier) (lines_y earlier)

    abbrev to : Next → List X × Y
    to (inl p) = (p.0 ∷ p.1.0, p.1.1)
    to (inr y) = ([], y)

    abbrev from_list : List X → Y → Next
    from_list [] y = inr y
    from_list (x ∷ xs) y = inl (x, (xs, y))

    abbrev from : List X × Y → Next
    from p = from_list p.0 p.1

    same_lines : (earlier : List X) (n : Next) → whole_lines earlier (to n) ≡ next_lines earlier n
    same_lines earlier (inl p) = refl
    same_lines earlier (inr y) = refl

    fits_to : (earlier : List X) (n : Next) → FitsNext earlier n → FitsWhole earlier (to n)
    fits_to earlier (inl p) fits = fits
    fits_to earlier (inr y) fits = fits

    lines_back : (earlier : List X) (p : List X × Y) → next_lines earlier (from p) ≡ whole_lines earlier p
    lines_back earlier ([], y) = refl
    lines_back earlier (x ∷ xs, y) = refl

    fits_back : (earlier : List X) (p : List X × Y) → FitsWhole earlier p → FitsNext earlier (from p)
    fits_back earlier ([], y) fits = fits
    fits_back earlier (x ∷ xs, y) fits = fits

    -- ---- what is asked of the parts

    -- each part is known behind any others, and so is the closing one
    abbrev pub EachKnown : Type 0
    EachKnown = (earlier : List X) → AreKnown text Good (Fits earlier) (lines earlier)

    abbrev pub LastKnown : Type 0
    LastKnown = (earlier : List X) → AreKnown text Good (FitsY earlier) (lines_y earlier)

    -- there is a closing part behind any others
    abbrev pub HasLast : Type 0
    HasLast = (earlier : List X) → (y : Y) × FitsY earlier y

    -- each part and each closing part has a line
    abbrev pub EachHasLines : Type 0
    EachHasLines = (earlier : List X) → HaveLines text (Fits earlier) (lines earlier)

    abbrev pub LastHasLines : Type 0
    LastHasLines = (earlier : List X) → HaveLines text (FitsY earlier) (lines_y earlier)

    -- no closing part starts with the first line of a part
    abbrev pub AreApart : Type 0
    AreApart = (earlier : List X) (x : X) → Fits earlier x → (l : Line) (ls : List Line) → lines earlier x ≡ l ∷ ls → NoneStarts text (FitsY earlier) (lines_y earlier) (text l)

    -- ---- what is read

    -- the closing part is read, and with it the whole
    pub whole_read : (earlier xs : List X) (y : Y) (texts us vs : List Text) → IsRead text Good (Each earlier) (each_lines earlier) xs texts us
        → IsRead text Good (FitsY (earlier ++ xs)) (lines_y (earlier ++ xs)) y us vs → IsRead text Good (FitsWhole earlier) (whole_lines earlier) (xs, y) texts vs
    whole_read earlier [] y texts us vs p q =
        subst (λ ts. IsRead text Good (FitsWhole earlier) (whole_lines earlier) ([], y) ts vs) (sym p.texts_are)
        (let r = subst (λ es. IsRead text Good (FitsY es) (lines_y es) y us vs) (append-nil earlier) q in record { fits = r.fits; good = r.good; texts_are = r.texts_are })
    whole_read earlier (x ∷ xs) y texts us vs p q =
        let c = split earlier x xs texts us p in
        let rest = whole_read (earlier ++ x ∷ []) xs y c.middle us vs c.others (subst (λ es. IsRead text Good (FitsY es) (lines_y es) y us vs) (sym (append_assoc earlier (x ∷ []) xs)) q) in
        let b = turn.both_read text Good (Fits earlier) (lines earlier) (FitsRest earlier) (rest_lines earlier) x (xs, y) texts c.middle vs c.first rest in
        record { fits = b.fits; good = b.good; texts_are = b.texts_are }

    -- ---- what begins

    joined_fits : (earlier xs ys : List X) (y : Y) → Each earlier xs → FitsWhole (earlier ++ xs) (ys, y) → FitsWhole earlier (xs ++ ys, y)
    joined_fits earlier [] ys y p q = subst (λ es. FitsWhole es (ys, y)) (append-nil earlier) q
    joined_fits earlier (x ∷ xs) ys y p q = (p.0, joined_fits (earlier ++ x ∷ []) xs ys y p.1 (subst (λ es. FitsWhole es (ys, y)) (sym (append_assoc earlier (x ∷ []) xs)) q))

    joined_lines : (earlier xs ys : List X) (y : Y) → whole_lines earlier (xs ++ ys, y) ≡ each_lines earlier xs ++ whole_lines (earlier ++ xs) (ys, y)
    joined_lines earlier [] ys y = ap (λ es. whole_lines es (ys, y)) (sym (append-nil earlier))
    joined_lines earlier (x ∷ xs) ys y =
        ap (λ ls. lines earlier x ++ ls)
        (joined_lines (earlier ++ x ∷ []) xs ys y ∙ ap (λ es. each_lines (earlier ++ x ∷ []) xs ++ whole_lines es (ys, y)) (append_assoc earlier (x ∷ []) xs))
        ∙ sym (append_assoc (lines earlier x) (each_lines (earlier ++ x ∷ []) xs) (whole_lines (earlier ++ x ∷ xs) (ys, y)))

    -- the lines of those that were read, and those of the closing part
    pub last_lines : (earlier xs : List X) (y : Y) → whole_lines earlier (xs, y) ≡ each_lines earlier xs ++ lines_y (earlier ++ xs) y
    last_lines earlier xs y = ap (λ zs. whole_lines earlier (zs, y)) (sym (append-nil xs)) ∙ joined_lines earlier xs [] y

    -- what begins the rest begins the whole, behind those that were read
    module _ (earlier xs : List X) (texts us : List Text) (p : IsRead text Good (Each earlier) (each_lines earlier) xs texts us) (k n : ℕ) (at : n ≡ length (each_lines earlier xs) + k) where
      rest_begins : Begins text Good (FitsWhole (earlier ++ xs)) (whole_lines (earlier ++ xs)) (take k us) → Begins text Good (FitsWhole earlier) (whole_lines earlier) (take n texts)
      rest_begins b = record {
        part = (xs ++ b.part.0, b.part.1);
        fits = joined_fits earlier xs b.part.0 b.part.1 p.fits b.fits;
        front = each_lines earlier xs ++ b.front;
        rest = b.rest;
        whole = joined_lines earlier xs b.part.0 b.part.1 ∙ ap (λ ls. each_lines earlier xs ++ ls) b.whole ∙ sym (append_assoc (each_lines earlier xs) b.front b.rest);
        texts_are = map-append text (each_lines earlier xs) b.front ∙ ap (λ t. map text (each_lines earlier xs) ++ t) b.texts_are ∙ sym (turn.take_past text (each_lines earlier xs) texts us p.texts_are n k at);
        good = All-append Good (each_lines earlier xs) b.front p.good b.good;
      }

      -- the next part does
      pub part_begins : HasLast → Begins text Good (Fits (earlier ++ xs)) (lines (earlier ++ xs)) (take k us) → Begins text Good (FitsWhole earlier) (whole_lines earlier) (take n texts)
      part_begins has b =
          let y = has ((earlier ++ xs) ++ b.part ∷ []) in
          rest_begins (record {
            part = (b.part ∷ [], y.0);
            fits = (b.fits, y.1);
            front = b.front;
            rest = b.rest ++ lines_y ((earlier ++ xs) ++ b.part ∷ []) y.0;
            whole = ap (λ ls. ls ++ lines_y ((earlier ++ xs) ++ b.part ∷ []) y.0) b.whole ∙ append_assoc b.front b.rest (lines_y ((earlier ++ xs) ++ b.part ∷ []) y.0);
            texts_are = b.texts_are;
            good = b.good;
          })

      -- and the closing part
      pub last_begins : Begins text Good (FitsY (earlier ++ xs)) (lines_y (earlier ++ xs)) (take k us) → Begins text Good (FitsWhole earlier) (whole_lines earlier) (take n texts)
      last_begins b =
          rest_begins (record { part = ([], b.part); fits = b.fits; front = b.front; rest = b.rest; whole = b.whole; texts_are = b.texts_are; good = b.good })

    -- ---- what is known

    split_lines : (earlier : List X) (x : X) (xs : List X) (y : Y) (r : List Text)
        → map text (whole_lines earlier (x ∷ xs, y)) ++ r ≡ map text (lines earlier x) ++ (map text (whole_lines (earlier ++ x ∷ []) (xs, y)) ++ r)
    split_lines earlier x xs y r =
        ap (λ t. t ++ r) (map-append text (lines earlier x) (whole_lines (earlier ++ x ∷ []) (xs, y)))
        ∙ append_assoc (map text (lines earlier x)) (map text (whole_lines (earlier ++ x ∷ []) (xs, y))) r

    known_so : EachKnown → LastKnown → EachHasLines → LastHasLines → AreApart → (earlier xs : List X) (y : Y) (us : List X) (v : Y) → FitsWhole earlier (xs, y) → FitsWhole earlier (us, v)
        → (behind after : List Text) → map text (whole_lines earlier (xs, y)) ++ behind ≡ map text (whole_lines earlier (us, v)) ++ after → ◌≡◌ {A = List X × Y} (xs, y) (us, v)
    known_so known last_known some last_some apart earlier [] y [] v fit_a fit_b behind after e = ap (λ z. ([], z)) (last_known earlier y v fit_a fit_b behind after e)
    known_so known last_known some last_some apart earlier [] y (u ∷ us) v fit_a fit_b behind after e =
        absurd (firsts.not_both text Good (Fits earlier) (lines earlier) (FitsY earlier) (lines_y earlier) (some earlier) (last_some earlier) (apart earlier) u y fit_b.0 fit_a
        (map text (whole_lines (earlier ++ u ∷ []) (us, v)) ++ after) behind (sym (e ∙ split_lines earlier u us v after)))
    known_so known last_known some last_some apart earlier (x ∷ xs) y [] v fit_a fit_b behind after e =
        absurd (firsts.not_both text Good (Fits earlier) (lines earlier) (FitsY earlier) (lines_y earlier) (some earlier) (last_some earlier) (apart earlier) x v fit_a.0 fit_b
        (map text (whole_lines (earlier ++ x ∷ []) (xs, y)) ++ behind) after (sym (split_lines earlier x xs y behind) ∙ e))
    known_so known last_known some last_some apart earlier (x ∷ xs) y (u ∷ us) v fit_a fit_b behind after e =
        go (λ fit h. known_so known last_known some last_some apart (earlier ++ x ∷ []) xs y us v fit_a.1 fit behind after h)
      where
        both : map text (lines earlier x) ++ (map text (whole_lines (earlier ++ x ∷ []) (xs, y)) ++ behind) ≡ map text (lines earlier u) ++ (map text (whole_lines (earlier ++ u ∷ []) (us, v)) ++ after)
        both = sym (split_lines earlier x xs y behind) ∙ e ∙ split_lines earlier u us v after

        same : x ≡ u
        same = known earlier x u fit_a.0 fit_b.0 (map text (whole_lines (earlier ++ x ∷ []) (xs, y)) ++ behind) (map text (whole_lines (earlier ++ u ∷ []) (us, v)) ++ after) both

        go : (FitsWhole (earlier ++ x ∷ []) (us, v) → map text (whole_lines (earlier ++ x ∷ []) (xs, y)) ++ behind ≡ map text (whole_lines (earlier ++ x ∷ []) (us, v)) ++ after → ◌≡◌ {A = List X × Y} (xs, y) (us, v))
            → ◌≡◌ {A = List X × Y} (x ∷ xs, y) (u ∷ us, v)
        go inner =
            subst (λ z. FitsWhole (earlier ++ z ∷ []) (us, v)
            → map text (lines earlier x) ++ (map text (whole_lines (earlier ++ x ∷ []) (xs, y)) ++ behind) ≡ map text (lines earlier z) ++ (map text (whole_lines (earlier ++ z ∷ []) (us, v)) ++ after)
            → ◌≡◌ {A = List X × Y} (x ∷ xs, y) (z ∷ us, v)) same
            (λ fit h. ap (λ p. (x ∷ p.0, p.1)) (inner fit (turn.cancel (map text (lines earlier x)) (map text (whole_lines (earlier ++ x ∷ []) (xs, y)) ++ behind) (map text (whole_lines (earlier ++ x ∷ []) (us, v)) ++ after) h)))
            fit_b.1 both

    pub whole_known : EachKnown → LastKnown → EachHasLines → LastHasLines → AreApart → (earlier : List X) → AreKnown text Good (FitsWhole earlier) (whole_lines earlier)
    whole_known known last_known some last_some apart earlier a b fit_a fit_b behind after e = known_so known last_known some last_some apart earlier a.0 a.1 b.0 b.1 fit_a fit_b behind after e

    -- ---- what is found of the rest is found of the whole

    stops_so : (earlier : List X) (texts : List Text) (k : ℕ) → StopsAt text Good (FitsNext earlier) (next_lines earlier) texts k → StopsAt text Good (FitsWhole earlier) (whole_lines earlier) texts k
    stops_so earlier texts k s =
        renamed_stops text Good (FitsNext earlier) (next_lines earlier) (FitsWhole earlier) (whole_lines earlier) to from (same_lines earlier) (fits_to earlier) (lines_back earlier) (fits_back earlier) texts k s

    ends_so : (earlier : List X) (texts : List Text) → Ends text Good (FitsNext earlier) (next_lines earlier) texts → Ends text Good (FitsWhole earlier) (whole_lines earlier) texts
    ends_so earlier texts s =
        renamed_ends text Good (FitsNext earlier) (next_lines earlier) (FitsWhole earlier) (whole_lines earlier) to from (same_lines earlier) (fits_to earlier) (lines_back earlier) (fits_back earlier) texts s

    module _ (known : EachKnown) (some : EachHasLines) (last_some : LastHasLines) (apart : AreApart) where
      first_lines_some : (earlier : List X) → HaveLines text (FitsFirst earlier) (first_lines earlier)
      first_lines_some earlier = firsts.both_have_lines text (Fits earlier) (lines earlier) (FitsRest earlier) (rest_lines earlier) (some earlier)

      -- behind the first one
      module _ (earlier : List X) (x : X) (texts us : List Text) (p : IsRead text Good (Fits earlier) (lines earlier) x texts us) where
        head : First (lines earlier x)
        head = first_of (lines earlier x) (some earlier x p.fits)

        others : List Text
        others = map text head.others ++ us

        texts_are : texts ≡ text head.head ∷ others
        unfolding others
        texts_are = p.texts_are ∙ ap (λ ls. map text ls ++ us) head.whole

        later_stops : (j : ℕ) → StopsAt text Good (FitsWhole (earlier ++ x ∷ [])) (whole_lines (earlier ++ x ∷ [])) us j → StopsAt text Good (FitsWhole earlier) (whole_lines earlier) texts (length (lines earlier x) + j)
        later_stops j s =
            let found = turn.last_stops text Good (Fits earlier) (lines earlier) (FitsRest earlier) (rest_lines earlier) (known earlier) x texts us p j s in
            stops_so earlier texts (length (lines earlier x) + j)
            (subst (λ ts. StopsAt text Good (FitsNext earlier) (next_lines earlier) ts (length (lines earlier x) + j)) (sym texts_are)
            (choice.first_stops text Good (FitsFirst earlier) (first_lines earlier) (FitsY earlier) (lines_y earlier) (text head.head) others (length (lines earlier x) + j)
            (firsts.none_goes_on text Good (FitsY earlier) (lines_y earlier) (last_some earlier) (text head.head) (apart earlier x p.fits head.head head.others head.whole))
            (subst (λ ts. StopsAt text Good (FitsFirst earlier) (first_lines earlier) ts (length (lines earlier x) + j)) texts_are found)))

        later_ends : Ends text Good (FitsWhole (earlier ++ x ∷ [])) (whole_lines (earlier ++ x ∷ [])) us → Ends text Good (FitsWhole earlier) (whole_lines earlier) texts
        later_ends s =
            let found = turn.last_ends text Good (Fits earlier) (lines earlier) (FitsRest earlier) (rest_lines earlier) (known earlier) x texts us p s in
            ends_so earlier texts
            (subst (λ ts. Ends text Good (FitsNext earlier) (next_lines earlier) ts) (sym texts_are)
            (firsts.first_ends text Good (FitsFirst earlier) (first_lines earlier) (FitsY earlier) (lines_y earlier) (first_lines_some earlier) (last_some earlier) (text head.head) others
            (apart earlier x p.fits head.head head.others head.whole) (subst (λ ts. Ends text Good (FitsFirst earlier) (first_lines earlier) ts) texts_are found)))

      whole_stops : (earlier xs : List X) (texts us : List Text) (j : ℕ) → IsRead text Good (Each earlier) (each_lines earlier) xs texts us
          → StopsAt text Good (FitsWhole (earlier ++ xs)) (whole_lines (earlier ++ xs)) us j → StopsAt text Good (FitsWhole earlier) (whole_lines earlier) texts (length (each_lines earlier xs) + j)
      whole_stops earlier [] texts us j p s =
          let at : j ≡ 0 + j = omega arith in
          subst (λ ts. StopsAt text Good (FitsWhole earlier) (whole_lines earlier) ts (0 + j)) (sym p.texts_are)
          (subst (λ k. StopsAt text Good (FitsWhole earlier) (whole_lines earlier) us k) at (subst (λ es. StopsAt text Good (FitsWhole es) (whole_lines es) us j) (append-nil earlier) s))
      whole_stops earlier (x ∷ xs) texts us j p s =
          let c = split earlier x xs texts us p in
          let inner = whole_stops (earlier ++ x ∷ []) xs c.middle us j c.others (subst (λ es. StopsAt text Good (FitsWhole es) (whole_lines es) us j) (sym (append_assoc earlier (x ∷ []) xs)) s) in
          let at : length (lines earlier x) + (length (each_lines (earlier ++ x ∷ []) xs) + j) ≡ length (each_lines earlier (x ∷ xs)) + j =
          omega (arith, length-append (lines earlier x) (each_lines (earlier ++ x ∷ []) xs)) in
          subst (λ k. StopsAt text Good (FitsWhole earlier) (whole_lines earlier) texts k) at (later_stops earlier x texts c.middle c.first (length (each_lines (earlier ++ x ∷ []) xs) + j) inner)

      whole_ends : (earlier xs : List X) (texts us : List Text) → IsRead text Good (Each earlier) (each_lines earlier) xs texts us
          → Ends text Good (FitsWhole (earlier ++ xs)) (whole_lines (earlier ++ xs)) us → Ends text Good (FitsWhole earlier) (whole_lines earlier) texts
      whole_ends earlier [] texts us p s =
          subst (λ ts. Ends text Good (FitsWhole earlier) (whole_lines earlier) ts) (sym p.texts_are) (subst (λ es. Ends text Good (FitsWhole es) (whole_lines es) us) (append-nil earlier) s)
      whole_ends earlier (x ∷ xs) texts us p s =
          let c = split earlier x xs texts us p in
          later_ends earlier x texts c.middle c.first
          (whole_ends (earlier ++ x ∷ []) xs c.middle us c.others (subst (λ es. Ends text Good (FitsWhole es) (whole_lines es) us) (sym (append_assoc earlier (x ∷ []) xs)) s))

      -- ---- in a loop: some were read, and the next line is looked at

      module _ (has : HasLast) (earlier xs : List X) (texts us : List Text) (p : IsRead text Good (Each earlier) (each_lines earlier) xs texts us) where
        abbrev now : List X
        now = earlier ++ xs

        abbrev front : ℕ
        front = length (each_lines earlier xs)

        has_rest : (x : X) → Fits now x → (q : List X × Y) × FitsRest now x q
        has_rest x fits = let y = has (now ++ x ∷ []) in (([], y.0), y.1)

        first_goes_on : (ts : List Text) → GoesOn text Good (FitsFirst now) (first_lines now) ts → GoesOn text Good (Fits now) (lines now) ts
        first_goes_on ts g = record {
          part = g.part.0;
          fits = g.fits.0;
          more = rest_lines now g.part.0 g.part.1 ++ g.more;
          front = g.front;
          rest = g.rest;
          whole = sym (append_assoc (lines now g.part.0) (rest_lines now g.part.0 g.part.1) g.more) ∙ g.whole;
          texts_are = g.texts_are;
          good = g.good;
        }

        stops_here : (t : Text) (ts : List Text) → us ≡ t ∷ ts → (j : ℕ) → StopsAt text Good (FitsNext now) (next_lines now) (t ∷ ts) j → StopsAt text Good (FitsWhole earlier) (whole_lines earlier) texts (front + j)
        stops_here t ts e j s =
            whole_stops earlier xs texts us j p (stops_so now us j (subst (λ ts. StopsAt text Good (FitsNext now) (next_lines now) ts j) (sym e) s))

        ends_so_far : (ts : List Text) → us ≡ ts → Ends text Good (FitsNext now) (next_lines now) ts → Ends text Good (FitsWhole earlier) (whole_lines earlier) texts
        ends_so_far ts e s = whole_ends earlier xs texts us p (ends_so now us (subst (λ ts. Ends text Good (FitsNext now) (next_lines now) ts) (sym e) s))

        -- the next part stops, and no closing part goes on with its first line
        pub part_stops : (t : Text) (ts : List Text) → us ≡ t ∷ ts → (GoesOn text Good (FitsY now) (lines_y now) (t ∷ []) → ⊥) → (j : ℕ) → StopsAt text Good (Fits now) (lines now) us j
            → StopsAt text Good (FitsWhole earlier) (whole_lines earlier) texts (front + j)
        part_stops t ts e other j s =
            stops_here t ts e j
            (choice.first_stops text Good (FitsFirst now) (first_lines now) (FitsY now) (lines_y now) t ts j other
            (turn.first_stops text Good (Fits now) (lines now) (FitsRest now) (rest_lines now) has_rest (t ∷ ts) j (subst (λ ts. StopsAt text Good (Fits now) (lines now) ts j) e s)))

        -- the closing part stops, and no other goes on with its first line
        pub last_stops : (t : Text) (ts : List Text) → us ≡ t ∷ ts → (GoesOn text Good (Fits now) (lines now) (t ∷ []) → ⊥) → (j : ℕ) → StopsAt text Good (FitsY now) (lines_y now) us j
            → StopsAt text Good (FitsWhole earlier) (whole_lines earlier) texts (front + j)
        last_stops t ts e other j s =
            stops_here t ts e j
            (choice.last_stops text Good (FitsFirst now) (first_lines now) (FitsY now) (lines_y now) t ts j (λ g. other (first_goes_on (t ∷ []) g))
            (subst (λ ts. StopsAt text Good (FitsY now) (lines_y now) ts j) e s))

        -- neither goes on with the next line
        pub none_stops : (t : Text) (ts : List Text) → us ≡ t ∷ ts → (GoesOn text Good (Fits now) (lines now) (t ∷ []) → ⊥) → (GoesOn text Good (FitsY now) (lines_y now) (t ∷ []) → ⊥)
            → StopsAt text Good (FitsWhole earlier) (whole_lines earlier) texts front
        none_stops t ts e no_part no_last =
            let at : front + 0 ≡ front = omega arith in
            let y = has now in
            subst (λ k. StopsAt text Good (FitsWhole earlier) (whole_lines earlier) texts k) at
            (stops_here t ts e 0 (record {
              within = omega arith;
              before = record { part = inr y.0; fits = y.1; front = []; rest = lines_y now y.0; whole = refl; texts_are = refl; good = All-nil Good };
              after = λ g. elim (choice.one_of text Good (FitsFirst now) (first_lines now) (FitsY now) (lines_y now) (t ∷ []) g) [
                | inl a ↦ no_part (first_goes_on (t ∷ []) a)
                | inr b ↦ no_last b
              ];
            }))

        -- the lines end in the next part
        pub part_ends : (t : Text) (ts : List Text) → us ≡ t ∷ ts → NoneStarts text (FitsY now) (lines_y now) t → Ends text Good (Fits now) (lines now) us → Ends text Good (FitsWhole earlier) (whole_lines earlier) texts
        part_ends t ts e other s =
            ends_so_far (t ∷ ts) e
            (firsts.first_ends text Good (FitsFirst now) (first_lines now) (FitsY now) (lines_y now) (first_lines_some now) (last_some now) t ts other
            (turn.first_ends text Good (Fits now) (lines now) (FitsRest now) (rest_lines now) has_rest (t ∷ ts) (subst (λ ts. Ends text Good (Fits now) (lines now) ts) e s)))

        -- they end in the closing part
        pub last_ends : (t : Text) (ts : List Text) → us ≡ t ∷ ts → NoneStarts text (Fits now) (lines now) t → Ends text Good (FitsY now) (lines_y now) us → Ends text Good (FitsWhole earlier) (whole_lines earlier) texts
        last_ends t ts e other s =
            ends_so_far (t ∷ ts) e
            (firsts.last_ends text Good (FitsFirst now) (first_lines now) (FitsY now) (lines_y now) (first_lines_some now) (last_some now) t ts (firsts.first_of_both text (Fits now) (lines now) (FitsRest now) (rest_lines now) (some now) t other)
            (subst (λ ts. Ends text Good (FitsY now) (lines_y now) ts) e s))

        -- they end before either
        pub none_ends : us ≡ [] → Ends text Good (FitsWhole earlier) (whole_lines earlier) texts
        none_ends e =
            let y = has now in
            ends_so_far [] e (firsts.none_ends text Good (FitsFirst now) (first_lines now) (FitsY now) (lines_y now) (first_lines_some now) (last_some now) (inr y.0) y.1)
