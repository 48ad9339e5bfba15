-- Why a text is no whole part: the faults of its parts.
use Rattle.std.proofs.Common.{◌≡◌, ℕ, ◌+◌, ◌<◌, false, List, [], ◌∷◌, ◌++◌, length, map, take, flat_map, refl, sym, ◌∙◌, ap, subst, arith, append_assoc, append-nil, length-append}
use Rattle.std.specs.Prelude.{All, Ok, Err}
use Rattle.std.proofs.lemmas.List.{map-append, length-map, length-take-le}
use Rattle.std.proofs.lemmas.List.Elements.{All-append}
use Rattle.text_lines.specs.Cursor.{Place}
use Rattle.text_lines.specs.Formats.{Begins, IsRead, StopsAt, Ends, AreKnown, FitBoth, FitEach, lines_of_both, lines_of_many}
use Rattle.text_lines.specs.Found.{GoodIf, IsFault, IsFound}
use Rattle.text_lines.specs.WholeLines.{lines_in, rest_in}
use Rattle.text_lines.specs.WholeText.{LeavesOff, IsTextFault}
use Rattle.text_lines.specs.declared.faults.Fault.{Fault}
use Rattle.text_lines.specs.declared.faults.Fault.TheVariants.{Stops, Breaks, End, Memory}
use Rattle.text_lines.proofs.Cuts.{is_cut}
use Rattle.text_lines.proofs.FirstLines.{HaveLines}
use Rattle.text_lines.proofs.InTurn as turn
use Rattle.text_lines.proofs.UntilLast as until
use Rattle.text_lines.proofs.Carried.{read_so, line_behind}

-- a text without lines and rest is empty
pub none_at_all : (bytes : List ℕ) → lines_in bytes ≡ [] → rest_in bytes ≡ [] → bytes ≡ []
none_at_all bytes no_lines no_rest = (is_cut bytes).cut ∙ ap (λ ls. flat_map (λ t. t ++ 10 ∷ []) ls ++ rest_in bytes) no_lines ∙ no_rest

-- ---- one part

module _ {Line Text X : Type 0} (text : Line → Text) (Good : Line → Type 0) (Fits : X → Type 0) (lines : X → List Line) where
  -- where no part goes on, none is behind
  pub stops_leave : (texts : List Text) (k : ℕ) → StopsAt text Good Fits lines texts k → LeavesOff text Good Fits lines texts k
  stops_leave texts k s = record { within = s.within; before = s.before; after = λ b. s.after (turn.begins_goes_on text Good Fits lines (take (k + 1) texts) b) }

fault_so : {Line X : Type 0} (text : Line → List ℕ) (Good : Line → Type 0) (Fits : X → Type 0) (lines : X → List Line) (old new : Place) (fault : Fault)
    → IsFault text Good Fits lines old new fault → IsTextFault text Good Fits lines old fault
fault_so text Good Fits lines old new (Stops l) f = (f.0, f.1, λ asked. stops_leave text (GoodIf Good asked) Fits lines (lines_in old.left) f.0 (f.2 asked))
fault_so text Good Fits lines old new (Breaks l) f = (f.0, f.1, stops_leave text Good Fits lines (lines_in old.left) f.0 f.2, f.3)
fault_so text Good Fits lines old new End f = (f.0.begins, λ part fits is no_rest. f.0.none part fits [] (is ∙ sym (append-nil (map text (lines part)))))
fault_so text Good Fits lines old new Memory f = tt

-- a fault of the part is one of the text
pub text_fault : {Line X : Type 0} {text : Line → List ℕ} {Good : Line → Type 0} {Fits : X → Type 0} {lines : X → List Line} {old new : Place} {fault : Fault}
    → IsFound text Good Fits lines old (Err fault) new → IsTextFault text Good Fits lines old fault
text_fault {text} {Good} {Fits} {lines} {old} {new} {fault} found = fault_so text Good Fits lines old new fault found.finds

-- ---- a part and one behind it

module _ {Line Text X Y : Type 0} (text : Line → Text) (Good : Line → Type 0) (FitsX : X → Type 0) (lines_x : X → List Line) (FitsY : X → Y → Type 0) (lines_y : X → Y → List Line)
    (known : AreKnown text Good FitsX lines_x) (x : X) (texts us : List Text) (p : IsRead text Good FitsX lines_x x texts us) where
  -- behind the first part, both leave off where the other does
  last_leaves : (j : ℕ) → LeavesOff text Good (FitsY x) (lines_y x) us j → LeavesOff text Good (FitBoth FitsX FitsY) (lines_of_both lines_x lines_y) texts (length (lines_x x) + j)
  last_leaves j s =
      let e : length (lines_x x) + j + 1 ≡ length (lines_x x) + (j + 1) = omega arith in
      record {
        within = omega (arith, s.within, ap length p.texts_are, length-append (map text (lines_x x)) us, length-map (lines_x x) text);
        before = subst (Begins text Good (FitBoth FitsX FitsY) (lines_of_both lines_x lines_y)) (sym (turn.take_past text (lines_x x) texts us p.texts_are (length (lines_x x) + j) j (omega arith)))
            (turn.last_begins text Good FitsX lines_x FitsY lines_y x texts us (take j us) p s.before);
        after = λ b. s.after (turn.last_begins_back text Good FitsX lines_x FitsY lines_y known x texts us p (j + 1)
            (subst (λ n. Begins text Good (FitBoth FitsX FitsY) (lines_of_both lines_x lines_y) (take n texts)) e b));
      }

  -- both have just these lines where the other has just those that are left
  last_whole : (z : X) (y : Y) → FitsX z → FitsY z y → texts ≡ map text (lines_x z ++ lines_y z y) → FitsY x y × (us ≡ map text (lines_y x y))
  last_whole z y fit_z fit_y is =
      let both : map text (lines_x x) ++ us ≡ map text (lines_x z) ++ map text (lines_y z y) = sym p.texts_are ∙ is ∙ map-append text (lines_x z) (lines_y z y) in
      let same : z ≡ x = sym (known x z p.fits fit_z us (map text (lines_y z y)) both) in (
        subst (λ w. FitsY w y) same fit_y,
        turn.cancel (map text (lines_x x)) us (map text (lines_y x y)) (subst (λ w. map text (lines_x x) ++ us ≡ map text (lines_x w) ++ map text (lines_y w y)) same both),
      )

module _ {Line X Y : Type 0} {text : Line → List ℕ} {Good : Line → Type 0} {FitsX : X → Type 0} {lines_x : X → List Line} (FitsY : X → Y → Type 0) (lines_y : X → Y → List Line) where
  -- a fault of the other one, up to the end of the text
  pub last_text_fault : {old mid : Place} {x : X} (fault : Fault) → AreKnown text Good FitsX lines_x → IsFound text Good FitsX lines_x old (Ok x) mid
      → IsTextFault text Good (FitsY x) (lines_y x) mid fault → IsTextFault text Good (FitBoth FitsX FitsY) (lines_of_both lines_x lines_y) old fault
  last_text_fault {old} {mid} {x} fault known a found = go fault found
    where
      leaves : (Rules : Line → Type 0) (k : ℕ) → IsRead text Rules FitsX lines_x x (lines_in old.left) (lines_in mid.left) → LeavesOff text Rules (FitsY x) (lines_y x) (lines_in mid.left) k
          → LeavesOff text Rules (FitBoth FitsX FitsY) (lines_of_both lines_x lines_y) (lines_in old.left) (length (lines_x x) + k)
      leaves Rules k read s = last_leaves text Rules FitsX lines_x FitsY lines_y known x (lines_in old.left) (lines_in mid.left) read k s

      begins : (Rules : Line → Type 0) → IsRead text Rules FitsX lines_x x (lines_in old.left) (lines_in mid.left) → (ts us : List (List ℕ)) → us ≡ map text (lines_x x) ++ ts
          → Begins text Rules (FitsY x) (lines_y x) ts → Begins text Rules (FitBoth FitsX FitsY) (lines_of_both lines_x lines_y) us
      begins Rules read ts us e b = subst (Begins text Rules (FitBoth FitsX FitsY) (lines_of_both lines_x lines_y)) (sym e)
          (turn.last_begins text Rules FitsX lines_x FitsY lines_y x (lines_in old.left) (lines_in mid.left) ts read b)

      go : (fault : Fault) → IsTextFault text Good (FitsY x) (lines_y x) mid fault → IsTextFault text Good (FitBoth FitsX FitsY) (lines_of_both lines_x lines_y) old fault
      go (Stops l) f = (length (lines_x x) + f.0, omega (arith, line_behind a, f.1), λ asked. leaves (GoodIf Good asked) f.0 (read_so asked a.finds.read) (f.2 asked))
      go (Breaks l) f = (
        length (lines_x x) + f.0,
        omega (arith, line_behind a, f.1),
        leaves Good f.0 a.finds.read f.2,
        begins (GoodIf Good false) (read_so false a.finds.read) (take (f.0 + 1) (lines_in mid.left)) (take (length (lines_x x) + f.0 + 1) (lines_in old.left))
            (turn.take_past text (lines_x x) (lines_in old.left) (lines_in mid.left) a.finds.read.texts_are (length (lines_x x) + f.0 + 1) (f.0 + 1) (omega arith)) f.3,
      )
      go End f = (
        begins Good a.finds.read (lines_in mid.left) (lines_in old.left) a.finds.read.texts_are f.0,
        λ q fits is no_rest.
            let w = last_whole text Good FitsX lines_x FitsY lines_y known x (lines_in old.left) (lines_in mid.left) a.finds.read q.0 q.1 fits.0 fits.1 is in
            f.1 q.1 w.0 w.1 (a.finds.rest ∙ no_rest),
      )
      go Memory f = tt

-- ---- any number of parts in a row

module _ {Line Text X : Type 0} (text : Line → Text) (Good : Line → Type 0) (Fits : List X → X → Type 0) (lines : List X → X → List Line) where
  abbrev Each : List X → List X → Type 0
  Each earlier xs = FitEach Fits earlier xs

  abbrev each_lines : List X → List X → List Line
  each_lines earlier xs = lines_of_many lines earlier xs

  -- ---- what begins the others begins all, behind those that were read

  joined_fits : (earlier xs ys : List X) → Each earlier xs → Each (earlier ++ xs) ys → Each earlier (xs ++ ys)
  joined_fits earlier [] ys p q = subst (λ es. Each es ys) (append-nil earlier) q
  joined_fits earlier (x ∷ xs) ys p q = (p.0, joined_fits (earlier ++ x ∷ []) xs ys p.1 (subst (λ es. Each es ys) (sym (append_assoc earlier (x ∷ []) xs)) q))

  others_begin : (earlier xs : List X) (texts us ts : List Text) → IsRead text Good (Each earlier) (each_lines earlier) xs texts us → Begins text Good (Each (earlier ++ xs)) (each_lines (earlier ++ xs)) ts
      → Begins text Good (Each earlier) (each_lines earlier) (map text (each_lines earlier xs) ++ ts)
  others_begin earlier xs texts us ts p b = record {
    part = xs ++ b.part;
    fits = joined_fits earlier xs b.part p.fits b.fits;
    front = each_lines earlier xs ++ b.front;
    rest = b.rest;
    whole = until.more_lines text Good Fits lines earlier xs b.part ∙ ap (λ ls. each_lines earlier xs ++ ls) b.whole ∙ sym (append_assoc (each_lines earlier xs) b.front b.rest);
    texts_are = map-append text (each_lines earlier xs) b.front ∙ ap (λ t. map text (each_lines earlier xs) ++ t) b.texts_are;
    good = All-append Good (each_lines earlier xs) b.front p.good b.good;
  }

  one_begins : (earlier : List X) (ts : List Text) → Begins text Good (Fits earlier) (lines earlier) ts → Begins text Good (Each earlier) (each_lines earlier) ts
  one_begins earlier ts b =
      record { part = b.part ∷ []; fits = (b.fits, tt); front = b.front; rest = b.rest ++ []; whole = ap (λ ls. ls ++ []) b.whole ∙ append_assoc b.front b.rest []; texts_are = b.texts_are; good = b.good }

  -- ---- where one leaves off, so do all

  one_leaves : (earlier : List X) (us : List Text) (k : ℕ) → StopsAt text Good (Fits earlier) (lines earlier) us k → LeavesOff text Good (Each earlier) (each_lines earlier) us k
  one_leaves earlier us k s = record { within = s.within; before = one_begins earlier (take k us) s.before; after = λ b. go b.part b.fits b.front b.rest b.whole b.texts_are b.good }
    where
      go : (xs : List X) → Each earlier xs → (front rest : List Line) → each_lines earlier xs ≡ front ++ rest → map text front ≡ take (k + 1) us → All Good front → ⊥
      go [] fits front rest whole is good =
          omega (arith, s.within, length-take-le (k + 1) us (omega (arith, s.within)), ap length is, length-map front text, ap length whole, length-append front rest)
      go (x ∷ xs) fits front rest whole is good =
          s.after (record { part = x; fits = fits.0; more = each_lines (earlier ++ x ∷ []) xs; front = front; rest = rest; whole = whole; texts_are = is; good = good })

  module _ (known : (earlier : List X) → AreKnown text Good (Fits earlier) (lines earlier)) where
    abbrev FitsRest : List X → X → List X → Type 0
    FitsRest earlier x xs = Each (earlier ++ x ∷ []) xs

    abbrev rest_lines : List X → X → List X → List Line
    rest_lines earlier x xs = each_lines (earlier ++ x ∷ []) xs

    -- behind one that was read
    later_leave : (earlier : List X) (x : X) (texts us : List Text) (j : ℕ) → IsRead text Good (Fits earlier) (lines earlier) x texts us
        → LeavesOff text Good (Each (earlier ++ x ∷ [])) (each_lines (earlier ++ x ∷ [])) us j → LeavesOff text Good (Each earlier) (each_lines earlier) texts (length (lines earlier x) + j)
    later_leave earlier x texts us j p s =
        let pair = last_leaves text Good (Fits earlier) (lines earlier) (FitsRest earlier) (rest_lines earlier) (known earlier) x texts us p j s in
        record {
          within = pair.within;
          before = pair_begins (take (length (lines earlier x) + j) texts) pair.before;
          after = λ b. go pair.within pair.after b.part b.fits b.front b.rest b.whole b.texts_are b.good;
        }
      where
        pair_begins : (ts : List Text) → Begins text Good (FitBoth (Fits earlier) (FitsRest earlier)) (lines_of_both (lines earlier) (rest_lines earlier)) ts → Begins text Good (Each earlier) (each_lines earlier) ts
        pair_begins ts b = record { part = b.part.0 ∷ b.part.1; fits = b.fits; front = b.front; rest = b.rest; whole = b.whole; texts_are = b.texts_are; good = b.good }

        go : length (lines earlier x) + j < length texts
            → (Begins text Good (FitBoth (Fits earlier) (FitsRest earlier)) (lines_of_both (lines earlier) (rest_lines earlier)) (take (length (lines earlier x) + j + 1) texts) → ⊥)
            → (xs : List X) → Each earlier xs → (front rest : List Line) → each_lines earlier xs ≡ front ++ rest → map text front ≡ take (length (lines earlier x) + j + 1) texts → All Good front → ⊥
        go within after [] fits front rest whole is good =
            omega (arith, within, length-take-le (length (lines earlier x) + j + 1) texts (omega (arith, within)), ap length is, length-map front text, ap length whole, length-append front rest)
        go within after (z ∷ zs) fits front rest whole is good = after (record { part = (z, zs); fits = fits; front = front; rest = rest; whole = whole; texts_are = is; good = good })

    -- behind all that were read
    others_leave : (earlier xs : List X) (texts us : List Text) (j : ℕ) → IsRead text Good (Each earlier) (each_lines earlier) xs texts us
        → LeavesOff text Good (Each (earlier ++ xs)) (each_lines (earlier ++ xs)) us j → LeavesOff text Good (Each earlier) (each_lines earlier) texts (length (each_lines earlier xs) + j)
    others_leave earlier [] texts us j p s =
        let at : j ≡ 0 + j = omega arith in
        subst (λ ts. LeavesOff text Good (Each earlier) (each_lines earlier) ts (0 + j)) (sym p.texts_are)
        (subst (λ k. LeavesOff text Good (Each earlier) (each_lines earlier) us k) at (subst (λ es. LeavesOff text Good (Each es) (each_lines es) us j) (append-nil earlier) s))
    others_leave earlier (x ∷ xs) texts us j p s =
        let c = until.split text Good Fits lines earlier x xs texts us p in
        let inner = others_leave (earlier ++ x ∷ []) xs c.middle us j c.others (subst (λ es. LeavesOff text Good (Each es) (each_lines es) us j) (sym (append_assoc earlier (x ∷ []) xs)) s) in
        let at : length (lines earlier x) + (length (each_lines (earlier ++ x ∷ []) xs) + j) ≡ length (each_lines earlier (x ∷ xs)) + j =
        omega (arith, length-append (lines earlier x) (each_lines (earlier ++ x ∷ []) xs)) in
        subst (λ k. LeavesOff text Good (Each earlier) (each_lines earlier) texts k) at (later_leave earlier x texts c.middle (length (each_lines (earlier ++ x ∷ []) xs) + j) c.first inner)

    -- ---- parts that have just these lines are those that were read, and others behind them

    record AreOthers (now : List X) (us : List Text) : Type 0 where
      pub parts : List X
      pub fits : Each now parts
      pub texts_are : us ≡ map text (each_lines now parts)

    module _ (some : (earlier : List X) → HaveLines text (Fits earlier) (lines earlier)) where
      others_are : (earlier xs : List X) (texts us : List Text) → IsRead text Good (Each earlier) (each_lines earlier) xs texts us
          → (ys : List X) → Each earlier ys → texts ≡ map text (each_lines earlier ys) → AreOthers (earlier ++ xs) us
      others_are earlier [] texts us p ys fits is =
          subst (λ es. AreOthers es us) (sym (append-nil earlier)) (record { parts = ys; fits = fits; texts_are = sym p.texts_are ∙ is })
      others_are earlier (x ∷ xs) texts us p [] fits is =
          let c = until.split text Good Fits lines earlier x xs texts us p in
          absurd (some earlier x c.first.fits (no_lines (lines earlier x) c.middle (sym c.first.texts_are ∙ is)))
        where
          no_lines : (ls : List Line) (ts : List Text) → map text ls ++ ts ≡ [] → ls ≡ []
          no_lines [] ts e = refl
          no_lines (l ∷ ls) ts e = absurd (omega (arith, ap length e))
      others_are earlier (x ∷ xs) texts us p (y ∷ ys) fits is =
          let c = until.split text Good Fits lines earlier x xs texts us p in
          let both : map text (lines earlier x) ++ c.middle ≡ map text (lines earlier y) ++ map text (each_lines (earlier ++ y ∷ []) ys) =
          sym c.first.texts_are ∙ is ∙ map-append text (lines earlier y) (each_lines (earlier ++ y ∷ []) ys) in
          let same : x ≡ y = known earlier x y c.first.fits fits.0 c.middle (map text (each_lines (earlier ++ y ∷ []) ys)) both in
          subst (λ es. AreOthers es us) (append_assoc earlier (x ∷ []) xs)
          (others_are (earlier ++ x ∷ []) xs c.middle us c.others ys (subst (λ z. Each (earlier ++ z ∷ []) ys) (sym same) fits.1)
          (turn.cancel (map text (lines earlier x)) c.middle (map text (each_lines (earlier ++ x ∷ []) ys))
          (subst (λ z. map text (lines earlier x) ++ c.middle ≡ map text (lines earlier z) ++ map text (each_lines (earlier ++ z ∷ []) ys)) (sym same) both)))

-- ---- any number of parts, up to the end of the text

module _ {Line X : Type 0} {text : Line → List ℕ} {Good : Line → Type 0} (Fits : List X → X → Type 0) (lines : List X → X → List Line)
    (known : (earlier : List X) → AreKnown text Good (Fits earlier) (lines earlier)) (some : (earlier : List X) → HaveLines text (Fits earlier) (lines earlier)) where
  -- a fault of the next one, where the text doesn't end
  pub each_text_fault : {old mid new : Place} {xs : List X} {fault : Fault} → IsFound text Good (FitEach Fits []) (lines_of_many lines []) old (Ok xs) mid → (mid.left ≡ [] → ⊥)
      → IsFound text Good (Fits xs) (lines xs) mid (Err fault) new → IsTextFault text Good (FitEach Fits []) (lines_of_many lines []) old fault
  each_text_fault {old} {mid} {new} {xs} {fault} a more found = go fault found.finds
    where
      leaves : (Rules : Line → Type 0) (k : ℕ) → IsRead text Rules (FitEach Fits []) (lines_of_many lines []) xs (lines_in old.left) (lines_in mid.left) → StopsAt text Rules (Fits xs) (lines xs) (lines_in mid.left) k
          → LeavesOff text Rules (FitEach Fits []) (lines_of_many lines []) (lines_in old.left) (length (lines_of_many lines [] xs) + k)
      leaves Rules k read s = others_leave text Rules Fits lines known [] xs (lines_in old.left) (lines_in mid.left) k read (one_leaves text Rules Fits lines xs (lines_in mid.left) k s)

      begins : (Rules : Line → Type 0) → IsRead text Rules (FitEach Fits []) (lines_of_many lines []) xs (lines_in old.left) (lines_in mid.left) → (ts us : List (List ℕ))
          → us ≡ map text (lines_of_many lines [] xs) ++ ts → Begins text Rules (Fits xs) (lines xs) ts → Begins text Rules (FitEach Fits []) (lines_of_many lines []) us
      begins Rules read ts us e b = subst (Begins text Rules (FitEach Fits []) (lines_of_many lines [])) (sym e)
          (others_begin text Rules Fits lines [] xs (lines_in old.left) (lines_in mid.left) ts read (one_begins text Rules Fits lines xs ts b))

      none : Ends text Good (Fits xs) (lines xs) (lines_in mid.left) → rest_in old.left ≡ [] → (zs : List X) → FitEach Fits xs zs → lines_in mid.left ≡ map text (lines_of_many lines xs zs) → ⊥
      none ends no_rest [] fits is = more (none_at_all mid.left is (a.finds.rest ∙ no_rest))
      none ends no_rest (z ∷ zs) fits is =
          ends.none z fits.0 (map text (lines_of_many lines (xs ++ z ∷ []) zs)) (is ∙ map-append text (lines xs z) (lines_of_many lines (xs ++ z ∷ []) zs))

      go : (fault : Fault) → IsFault text Good (Fits xs) (lines xs) mid new fault → IsTextFault text Good (FitEach Fits []) (lines_of_many lines []) old fault
      go (Stops l) f = (length (lines_of_many lines [] xs) + f.0, omega (arith, line_behind a, f.1), λ asked. leaves (GoodIf Good asked) f.0 (read_so asked a.finds.read) (f.2 asked))
      go (Breaks l) f = (
        length (lines_of_many lines [] xs) + f.0,
        omega (arith, line_behind a, f.1),
        leaves Good f.0 a.finds.read f.2,
        begins (GoodIf Good false) (read_so false a.finds.read) (take (f.0 + 1) (lines_in mid.left)) (take (length (lines_of_many lines [] xs) + f.0 + 1) (lines_in old.left))
            (turn.take_past text (lines_of_many lines [] xs) (lines_in old.left) (lines_in mid.left) a.finds.read.texts_are (length (lines_of_many lines [] xs) + f.0 + 1) (f.0 + 1) (omega arith)) f.3,
      )
      go End f = (
        begins Good a.finds.read (lines_in mid.left) (lines_in old.left) a.finds.read.texts_are f.0.begins,
        λ ys fits is no_rest.
            let others = others_are text Good Fits lines known some [] xs (lines_in old.left) (lines_in mid.left) a.finds.read ys fits is in
            none f.0 no_rest others.parts others.fits others.texts_are,
      )
      go Memory f = tt
