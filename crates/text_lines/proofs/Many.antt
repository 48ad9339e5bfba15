-- So many parts in a row are read one after the other.
use Rattle.std.proofs.Common.{◌≡◌, ℕ, zero, suc, ◌+◌, ◌-◌, ◌<◌, List, [], ◌∷◌, ◌++◌, length, map, take, refl, sym, ◌∙◌, ap, subst, arith, append_assoc, append-nil, length-append}
use Rattle.std.specs.Prelude.{All}
use Rattle.std.proofs.lemmas.List.{map-append}
use Rattle.std.proofs.lemmas.List.Elements.{All-nil, All-append}
use Rattle.text_lines.specs.Formats.{Begins, GoesOn, IsRead, StopsAt, Ends, AreKnown, FitBoth, FitMany, lines_of_both, lines_of_many}
use Rattle.text_lines.proofs.Lists.{all_left, all_right}
use Rattle.text_lines.proofs.InTurn.{take_past, both_known, both_read, first_stops, first_ends, last_stops, last_ends}

module _ {Line Text X : Type 0} (text : Line → Text) (Good : Line → Type 0) (Fits : List X → X → Type 0) (lines : List X → X → List Line) where
  abbrev Many : ℕ → List X → List X → Type 0
  Many n earlier xs = FitMany Fits n earlier xs

  abbrev many_lines : List X → List X → List Line
  many_lines earlier xs = lines_of_many lines earlier xs

  -- each of them is known, behind any others
  abbrev pub EachKnown : Type 0
  EachKnown = (earlier : List X) → AreKnown text Good (Fits earlier) (lines earlier)

  -- and there is one behind any others
  abbrev pub HasNext : Type 0
  HasNext = (earlier : List X) → (x : X) × Fits earlier x

  pub some_many : HasNext → (n : ℕ) (earlier : List X) → (xs : List X) × Many n earlier xs
  some_many has zero earlier = ([], tt)
  some_many has (suc n) earlier = let x = has earlier in let rest = some_many has n (earlier ++ x.0 ∷ []) in (x.0 ∷ rest.0, (x.1, rest.1))

  -- ---- the first one and the others

  abbrev FitsRest : ℕ → List X → X → List X → Type 0
  FitsRest n earlier x xs = Many n (earlier ++ x ∷ []) xs

  abbrev rest_lines : List X → X → List X → List Line
  rest_lines earlier x xs = many_lines (earlier ++ x ∷ []) xs

  abbrev to : X × List X → List X
  to p = p.0 ∷ p.1

  -- none behind none
  pub no_more : (earlier : List X) (texts : List Text) → IsRead text Good (Many 0 earlier) (many_lines earlier) [] texts texts
  no_more earlier texts = record { fits = tt; good = All-nil Good; texts_are = refl }

  pub more_read : (n : ℕ) (earlier : List X) (x : X) (xs : List X) (texts us vs : List Text) → IsRead text Good (Fits earlier) (lines earlier) x texts us
      → IsRead text Good (Many n (earlier ++ x ∷ [])) (many_lines (earlier ++ x ∷ [])) xs us vs → IsRead text Good (Many (suc n) earlier) (many_lines earlier) (x ∷ xs) texts vs
  more_read n earlier x xs texts us vs p q =
      let b = both_read text Good (Fits earlier) (lines earlier) (FitsRest n earlier) (rest_lines earlier) x xs texts us vs p q in
      record { fits = b.fits; good = b.good; texts_are = b.texts_are }

  -- a part that goes on has a first one
  module _ (n : ℕ) (earlier : List X) where
    abbrev FitsPair : X × List X → Type 0
    FitsPair = FitBoth (Fits earlier) (FitsRest n earlier)

    abbrev pair_lines : X × List X → List Line
    pair_lines = lines_of_both (lines earlier) (rest_lines earlier)

    begins_so : (texts : List Text) → Begins text Good FitsPair pair_lines texts → Begins text Good (Many (suc n) earlier) (many_lines earlier) texts
    begins_so texts b = record { part = to b.part; fits = b.fits; front = b.front; rest = b.rest; whole = b.whole; texts_are = b.texts_are; good = b.good }

    goes_back : (texts : List Text) → GoesOn text Good (Many (suc n) earlier) (many_lines earlier) texts → GoesOn text Good FitsPair pair_lines texts
    goes_back texts g = go g.part g.fits g.whole
      where
        go : (xs : List X) → Many (suc n) earlier xs → many_lines earlier xs ++ g.more ≡ g.front ++ g.rest → GoesOn text Good FitsPair pair_lines texts
        go [] fits whole = absurd fits
        go (x ∷ xs) fits whole = record { part = (x, xs); fits = fits; more = g.more; front = g.front; rest = g.rest; whole = whole; texts_are = g.texts_are; good = g.good }

    stops_so : (texts : List Text) (k : ℕ) → StopsAt text Good FitsPair pair_lines texts k → StopsAt text Good (Many (suc n) earlier) (many_lines earlier) texts k
    stops_so texts k s = record { within = s.within; before = begins_so (take k texts) s.before; after = λ g. s.after (goes_back (take (k + 1) texts) g) }

    ends_so : (texts : List Text) → Ends text Good FitsPair pair_lines texts → Ends text Good (Many (suc n) earlier) (many_lines earlier) texts
    ends_so texts e = record { begins = begins_so texts e.begins; none = none }
      where
        none : (xs : List X) → Many (suc n) earlier xs → (behind : List Text) → texts ≡ map text (many_lines earlier xs) ++ behind → ⊥
        none [] fits behind is = fits
        none (x ∷ xs) fits behind is = e.none (x, xs) fits behind is

    has_rest : HasNext → (x : X) → Fits earlier x → (xs : List X) × FitsRest n earlier x xs
    has_rest has x fits = some_many has n (earlier ++ x ∷ [])

    pub next_stops : HasNext → (texts : List Text) (k : ℕ) → StopsAt text Good (Fits earlier) (lines earlier) texts k → StopsAt text Good (Many (suc n) earlier) (many_lines earlier) texts k
    next_stops has texts k s = stops_so texts k (first_stops text Good (Fits earlier) (lines earlier) (FitsRest n earlier) (rest_lines earlier) (has_rest has) texts k s)

    pub next_ends : HasNext → (texts : List Text) → Ends text Good (Fits earlier) (lines earlier) texts → Ends text Good (Many (suc n) earlier) (many_lines earlier) texts
    next_ends has texts e = ends_so texts (first_ends text Good (Fits earlier) (lines earlier) (FitsRest n earlier) (rest_lines earlier) (has_rest has) texts e)

    module _ (known : EachKnown) (x : X) (texts us : List Text) (p : IsRead text Good (Fits earlier) (lines earlier) x texts us) where
      pub later_stops : (j : ℕ) → StopsAt text Good (Many n (earlier ++ x ∷ [])) (many_lines (earlier ++ x ∷ [])) us j
          → StopsAt text Good (Many (suc n) earlier) (many_lines earlier) texts (length (lines earlier x) + j)
      later_stops j s = stops_so texts (length (lines earlier x) + j) (last_stops text Good (Fits earlier) (lines earlier) (FitsRest n earlier) (rest_lines earlier) (known earlier) x texts us p j s)

      pub later_ends : Ends text Good (Many n (earlier ++ x ∷ [])) (many_lines (earlier ++ x ∷ [])) us → Ends text Good (Many (suc n) earlier) (many_lines earlier) texts
      later_ends e = ends_so texts (last_ends text Good (Fits earlier) (lines earlier) (FitsRest n earlier) (rest_lines earlier) (known earlier) x texts us p e)

  -- lists of one length are known by their lines
  pub many_known : EachKnown → (n : ℕ) (earlier : List X) → AreKnown text Good (Many n earlier) (many_lines earlier)
  many_known known zero earlier [] [] fit_a fit_b behind after e = refl
  many_known known zero earlier [] (y ∷ ys) fit_a fit_b behind after e = absurd fit_b
  many_known known zero earlier (x ∷ xs) ys fit_a fit_b behind after e = absurd fit_a
  many_known known (suc n) earlier [] ys fit_a fit_b behind after e = absurd fit_a
  many_known known (suc n) earlier (x ∷ xs) [] fit_a fit_b behind after e = absurd fit_b
  many_known known (suc n) earlier (x ∷ xs) (y ∷ ys) fit_a fit_b behind after e =
      ap to (both_known text Good (Fits earlier) (lines earlier) (FitsRest n earlier) (rest_lines earlier) (known earlier) (λ z. many_known known n (earlier ++ z ∷ [])) (x, xs) (y, ys) fit_a fit_b behind after e)

  -- ---- in a loop: some were read, and what is found of the others is found of all

  pub joined_fits : (i n all : ℕ) (earlier xs ys : List X) → all ≡ i + n → Many i earlier xs → Many n (earlier ++ xs) ys → Many all earlier (xs ++ ys)
  joined_fits zero n all earlier [] ys e p q = let same : n ≡ all = omega (arith, e) in subst (λ k. Many k earlier ys) same (subst (λ es. Many n es ys) (append-nil earlier) q)
  joined_fits zero n all earlier (x ∷ xs) ys e p q = absurd p
  joined_fits (suc i) n zero earlier xs ys e p q = absurd (omega (arith, e))
  joined_fits (suc i) n (suc all) earlier [] ys e p q = absurd p
  joined_fits (suc i) n (suc all) earlier (x ∷ xs) ys e p q =
      (p.0, joined_fits i n all (earlier ++ x ∷ []) xs ys (omega (arith, e)) p.1 (subst (λ es. Many n es ys) (sym (append_assoc earlier (x ∷ []) xs)) q))

  pub joined_lines : (earlier xs ys : List X) → many_lines earlier (xs ++ ys) ≡ many_lines earlier xs ++ many_lines (earlier ++ xs) ys
  joined_lines earlier [] ys = ap (λ es. many_lines es ys) (sym (append-nil earlier))
  joined_lines earlier (x ∷ xs) ys =
      ap (λ ls. lines earlier x ++ ls) (joined_lines (earlier ++ x ∷ []) xs ys ∙ ap (λ es. many_lines (earlier ++ x ∷ []) xs ++ many_lines es ys) (append_assoc earlier (x ∷ []) xs))
      ∙ sym (append_assoc (lines earlier x) (many_lines (earlier ++ x ∷ []) xs) (many_lines (earlier ++ x ∷ xs) ys))

  -- one more is read
  pub one_more : (i : ℕ) (earlier xs : List X) (y : X) (texts us vs : List Text) → IsRead text Good (Many i earlier) (many_lines earlier) xs texts us
      → IsRead text Good (Fits (earlier ++ xs)) (lines (earlier ++ xs)) y us vs → IsRead text Good (Many (i + 1) earlier) (many_lines earlier) (xs ++ y ∷ []) texts vs
  one_more i earlier xs y texts us vs p q = record {
    fits = joined_fits i 1 (i + 1) earlier xs (y ∷ []) refl p.fits (q.fits, tt);
    good = subst (All Good) (sym (joined_lines earlier xs (y ∷ [])))
        (All-append Good (many_lines earlier xs) (many_lines (earlier ++ xs) (y ∷ [])) p.good (All-append Good (lines (earlier ++ xs) y) [] q.good (All-nil Good)));
    texts_are = p.texts_are ∙ ap (λ t. map text (many_lines earlier xs) ++ t) (q.texts_are ∙ ap (λ ls. map text ls ++ vs) (sym (append-nil (lines (earlier ++ xs) y))))
        ∙ sym (append_assoc (map text (many_lines earlier xs)) (map text (many_lines (earlier ++ xs) (y ∷ []))) vs)
        ∙ ap (λ t. t ++ vs) (sym (map-append text (many_lines earlier xs) (many_lines (earlier ++ xs) (y ∷ []))) ∙ ap (map text) (sym (joined_lines earlier xs (y ∷ []))));
  }

  -- the first of those that were read, and the others
  record Split (i : ℕ) (earlier : List X) (x : X) (xs : List X) (texts us : List Text) : Type 0 where
    pub middle : List Text
    pub first : IsRead text Good (Fits earlier) (lines earlier) x texts middle
    pub others : IsRead text Good (Many i (earlier ++ x ∷ [])) (many_lines (earlier ++ x ∷ [])) xs middle us

  split : (i : ℕ) (earlier : List X) (x : X) (xs : List X) (texts us : List Text) → IsRead text Good (Many (suc i) earlier) (many_lines earlier) (x ∷ xs) texts us → Split i earlier x xs texts us
  split i earlier x xs texts us p = record {
    middle = map text (many_lines (earlier ++ x ∷ []) xs) ++ us;
    first = record {
      fits = p.fits.0;
      good = all_left Good (lines earlier x) (many_lines (earlier ++ x ∷ []) xs) p.good;
      texts_are = p.texts_are ∙ ap (λ t. t ++ us) (map-append text (lines earlier x) (many_lines (earlier ++ x ∷ []) xs))
          ∙ append_assoc (map text (lines earlier x)) (map text (many_lines (earlier ++ x ∷ []) xs)) us;
    };
    others = record { fits = p.fits.1; good = all_right Good (lines earlier x) (many_lines (earlier ++ x ∷ []) xs) p.good; texts_are = refl };
  }

  module _ (known : EachKnown) where
    many_stops : (i n all : ℕ) (earlier xs : List X) (texts us : List Text) (j : ℕ) → all ≡ i + n → IsRead text Good (Many i earlier) (many_lines earlier) xs texts us
        → StopsAt text Good (Many n (earlier ++ xs)) (many_lines (earlier ++ xs)) us j → StopsAt text Good (Many all earlier) (many_lines earlier) texts (length (many_lines earlier xs) + j)
    many_stops zero n all earlier [] texts us j e p s =
        let same : n ≡ all = omega (arith, e) in
        let at : j ≡ 0 + j = omega arith in
        subst (λ t. StopsAt text Good (Many all earlier) (many_lines earlier) t (0 + j)) (sym p.texts_are)
        (subst (λ k. StopsAt text Good (Many all earlier) (many_lines earlier) us k) at
        (subst (λ k. StopsAt text Good (Many k earlier) (many_lines earlier) us j) same (subst (λ es. StopsAt text Good (Many n es) (many_lines es) us j) (append-nil earlier) s)))
    many_stops zero n all earlier (x ∷ xs) texts us j e p s = absurd p.fits
    many_stops (suc i) n zero earlier xs texts us j e p s = absurd (omega (arith, e))
    many_stops (suc i) n (suc all) earlier [] texts us j e p s = absurd p.fits
    many_stops (suc i) n (suc all) earlier (x ∷ xs) texts us j e p s =
        let c = split i earlier x xs texts us p in
        let inner = many_stops i n all (earlier ++ x ∷ []) xs c.middle us j (omega (arith, e)) c.others
        (subst (λ es. StopsAt text Good (Many n es) (many_lines es) us j) (sym (append_assoc earlier (x ∷ []) xs)) s) in
        let at : length (lines earlier x) + (length (many_lines (earlier ++ x ∷ []) xs) + j) ≡ length (many_lines earlier (x ∷ xs)) + j =
        omega (arith, length-append (lines earlier x) (many_lines (earlier ++ x ∷ []) xs)) in
        subst (λ k. StopsAt text Good (Many (suc all) earlier) (many_lines earlier) texts k) at
        (later_stops all earlier known x texts c.middle c.first (length (many_lines (earlier ++ x ∷ []) xs) + j) inner)

    many_ends : (i n all : ℕ) (earlier xs : List X) (texts us : List Text) → all ≡ i + n → IsRead text Good (Many i earlier) (many_lines earlier) xs texts us
        → Ends text Good (Many n (earlier ++ xs)) (many_lines (earlier ++ xs)) us → Ends text Good (Many all earlier) (many_lines earlier) texts
    many_ends zero n all earlier [] texts us e p s =
        let same : n ≡ all = omega (arith, e) in
        subst (λ t. Ends text Good (Many all earlier) (many_lines earlier) t) (sym p.texts_are)
        (subst (λ k. Ends text Good (Many k earlier) (many_lines earlier) us) same (subst (λ es. Ends text Good (Many n es) (many_lines es) us) (append-nil earlier) s))
    many_ends zero n all earlier (x ∷ xs) texts us e p s = absurd p.fits
    many_ends (suc i) n zero earlier xs texts us e p s = absurd (omega (arith, e))
    many_ends (suc i) n (suc all) earlier [] texts us e p s = absurd p.fits
    many_ends (suc i) n (suc all) earlier (x ∷ xs) texts us e p s =
        let c = split i earlier x xs texts us p in
        later_ends all earlier known x texts c.middle c.first
        (many_ends i n all (earlier ++ x ∷ []) xs c.middle us (omega (arith, e)) c.others (subst (λ es. Ends text Good (Many n es) (many_lines es) us) (sym (append_assoc earlier (x ∷ []) xs)) s))

    -- the next one of so many stops, or the lines end in it
    module _ (has : HasNext) (i all : ℕ) (earlier xs : List X) (texts us : List Text) (p : IsRead text Good (Many i earlier) (many_lines earlier) xs texts us) (lt : i < all) where
      pub stops_at_next : (j : ℕ) → StopsAt text Good (Fits (earlier ++ xs)) (lines (earlier ++ xs)) us j → StopsAt text Good (Many all earlier) (many_lines earlier) texts (length (many_lines earlier xs) + j)
      stops_at_next j s = many_stops i (suc (all - i - 1)) all earlier xs texts us j (omega (arith, lt)) p (next_stops (all - i - 1) (earlier ++ xs) has us j s)

      pub ends_at_next : Ends text Good (Fits (earlier ++ xs)) (lines (earlier ++ xs)) us → Ends text Good (Many all earlier) (many_lines earlier) texts
      ends_at_next s = many_ends i (suc (all - i - 1)) all earlier xs texts us (omega (arith, lt)) p (next_ends (all - i - 1) (earlier ++ xs) has us s)

      -- what begins the next one begins all, behind those that were read
      pub begins_at_next : (k n : ℕ) → n ≡ length (many_lines earlier xs) + k → Begins text Good (Fits (earlier ++ xs)) (lines (earlier ++ xs)) (take k us)
          → Begins text Good (Many all earlier) (many_lines earlier) (take n texts)
      begins_at_next k n e b =
          let others = some_many has (all - i - 1) ((earlier ++ xs) ++ b.part ∷ []) in
          record {
            part = xs ++ b.part ∷ others.0;
            fits = joined_fits i (suc (all - i - 1)) all earlier xs (b.part ∷ others.0) (omega (arith, lt)) p.fits (b.fits, others.1);
            front = many_lines earlier xs ++ b.front;
            rest = b.rest ++ many_lines ((earlier ++ xs) ++ b.part ∷ []) others.0;
            whole = joined_lines earlier xs (b.part ∷ others.0)
                ∙ ap (λ ls. many_lines earlier xs ++ ls)
                (ap (λ ls. ls ++ many_lines ((earlier ++ xs) ++ b.part ∷ []) others.0) b.whole ∙ append_assoc b.front b.rest (many_lines ((earlier ++ xs) ++ b.part ∷ []) others.0))
                ∙ sym (append_assoc (many_lines earlier xs) b.front (b.rest ++ many_lines ((earlier ++ xs) ++ b.part ∷ []) others.0));
            texts_are = map-append text (many_lines earlier xs) b.front ∙ ap (λ t. map text (many_lines earlier xs) ++ t) b.texts_are ∙ sym (take_past text (many_lines earlier xs) texts us p.texts_are n k e);
            good = All-append Good (many_lines earlier xs) b.front p.good b.good;
          }
