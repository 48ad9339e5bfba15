-- What is found of any number of parts in a row, and of a closing part behind them, in a loop that looks at the next line.
use Rattle.std.proofs.Common.{◌≡◌, ℕ, ◌+◌, ◌≤◌, Bool, List, [], ◌∷◌, ◌++◌, length, refl, sym, ◌∙◌, ap, subst, arith, length-append}
use Rattle.std.specs.Prelude.{Some, None, Ok, Err}
use Rattle.text_lines.specs.Cursor.{Place, Shows}
use Rattle.text_lines.specs.Formats.{StopsAt, AreKnown, FitEach, FitUntil, lines_of_many, lines_until}
use Rattle.text_lines.specs.Found.{GoodIf, IsFound}
use Rattle.text_lines.specs.WholeLines.{lines_in}
use Rattle.text_lines.specs.declared.faults.Fault.{Fault}
use Rattle.text_lines.specs.declared.faults.Fault.TheVariants.{Stops, End}
use Rattle.text_lines.proofs.UntilLast as until
use Rattle.text_lines.proofs.FirstLines as firsts
use Rattle.text_lines.proofs.FirstLines.{NoneStarts, HaveLines}
use Rattle.text_lines.proofs.Carried.{Carries, carried, read_so, line_behind, size_behind}

module _ {Line X : Type 0} {text : Line → List ℕ} {Good : Line → Type 0} (Fits : List X → X → Type 0) (lines : List X → X → List Line) where
  -- none is read before the first one
  pub each_begun : {place : Place} → IsFound text Good (FitEach Fits []) (lines_of_many lines []) place (Ok []) place
  each_begun {place} = record {
    finds = record { read = until.none_read text Good Fits lines [] (lines_in place.left); rest = refl; line = omega arith };
    room = omega arith;
  }

  -- one more is read
  pub each_more : {old mid new : Place} {xs : List X} {y : X} → IsFound text Good (FitEach Fits []) (lines_of_many lines []) old (Ok xs) mid
      → IsFound text Good (Fits xs) (lines xs) mid (Ok y) new → IsFound text Good (FitEach Fits []) (lines_of_many lines []) old (Ok (xs ++ y ∷ [])) new
  each_more {old} {mid} {new} {xs} {y} a b =
      let read = until.one_more text Good Fits lines [] xs y (lines_in old.left) (lines_in mid.left) (lines_in new.left) a.finds.read b.finds.read in
      record {
        finds = record { read = read; rest = b.finds.rest ∙ a.finds.rest; line = omega (arith, a.finds.line, b.finds.line, more_lines) };
        room = omega (arith, a.room, b.room);
      }
    where
      more_lines : length (lines_of_many lines [] (xs ++ y ∷ [])) ≡ length (lines_of_many lines [] xs) + length (lines xs y)
      more_lines =
          omega (arith, ap length (until.more_lines text Good Fits lines [] xs (y ∷ [])), length-append (lines_of_many lines [] xs) (lines xs y ++ []), length-append (lines xs y) [])

-- each part is known by its lines and has one, and so has each closing part; there is a closing part behind any others, and the first line tells which it is
pub record AreTold {Line X Y : Type 0} (text : Line → List ℕ) (Fits : List X → X → Type 0) (lines : List X → X → List Line) (FitsY : List X → Y → Type 0) (lines_y : List X → Y → List Line) : Type 0 where
  pub known : (earlier : List X) → AreKnown text (λ l. Unit {0}) (Fits earlier) (lines earlier)
  pub some : (earlier : List X) → HaveLines text (Fits earlier) (lines earlier)
  pub last_some : (earlier : List X) → HaveLines text (FitsY earlier) (lines_y earlier)
  pub apart : (earlier : List X) (x : X) → Fits earlier x → (l : Line) (ls : List Line) → lines earlier x ≡ l ∷ ls → NoneStarts text (FitsY earlier) (lines_y earlier) (text l)
  pub has : (earlier : List X) → (y : Y) × FitsY earlier y

module _ {Line X Y : Type 0} (Fits : List X → X → Type 0) (lines : List X → X → List Line) (FitsY : List X → Y → Type 0) (lines_y : List X → Y → List Line) where
  abbrev Whole : List X × Y → Type 0
  Whole p = FitUntil Fits FitsY [] p.0 p.1

  abbrev whole_lines : List X × Y → List Line
  whole_lines p = lines_until lines lines_y [] p.0 p.1

  module _ {text : Line → List ℕ} {Good : Line → Type 0} where
    -- the closing part is read, and with it the whole
    pub whole_found : {old mid new : Place} {xs : List X} {y : Y} → IsFound text Good (FitEach Fits []) (lines_of_many lines []) old (Ok xs) mid → IsFound text Good (FitsY xs) (lines_y xs) mid (Ok y) new
        → IsFound text Good Whole whole_lines old (Ok (xs, y)) new
    whole_found {old} {mid} {new} {xs} {y} a b = record {
      finds = record {
        read = until.whole_read text Good Fits lines FitsY lines_y [] xs y (lines_in old.left) (lines_in mid.left) (lines_in new.left) a.finds.read b.finds.read;
        rest = b.finds.rest ∙ a.finds.rest;
        line = omega (arith, a.finds.line, b.finds.line, all_lines);
      };
      room = omega (arith, a.room, b.room);
    }
      where
        all_lines : length (lines_until lines lines_y [] xs y) ≡ length (lines_of_many lines [] xs) + length (lines_y xs y)
        all_lines = omega (arith, ap length (until.last_lines text Good Fits lines FitsY lines_y [] xs y), length-append (lines_of_many lines [] xs) (lines_y xs y))

    module _ (told : AreTold text Fits lines FitsY lines_y) {old mid : Place} {xs : List X} (a : IsFound text Good (FitEach Fits []) (lines_of_many lines []) old (Ok xs) mid) where
      abbrev front : ℕ
      front = length (lines_of_many lines [] xs)

      abbrev texts : List (List ℕ)
      texts = lines_in old.left

      abbrev us : List (List ℕ)
      us = lines_in mid.left

      -- a fault of the next part, where no closing part starts with the line
      pub part_fault : {new : Place} {t : List ℕ} {fault : Fault} → Shows mid (Some t) → NoneStarts text (FitsY xs) (lines_y xs) t → IsFound text Good (Fits xs) (lines xs) mid (Err fault) new
          → IsFound text Good Whole whole_lines old (Err fault) new
      part_fault {new} {t} {fault} shown other found = carried text (Fits xs) (lines xs) Whole whole_lines Good front old mid new (line_behind a) (size_behind a) behind fault a.room found
        where
          behind : (asked : Bool) → Carries text (Fits xs) (lines xs) Whole whole_lines (GoodIf Good asked) front texts us
          behind asked =
              let read = read_so asked a.finds.read in
              record {
                stops = λ k n e s. subst (StopsAt text (GoodIf Good asked) Whole whole_lines texts) (sym e)
                    (until.part_stops text (GoodIf Good asked) Fits lines FitsY lines_y told.known told.some told.last_some told.apart told.has [] xs texts us read t shown.0 shown.1
                    (firsts.none_goes_on text (GoodIf Good asked) (FitsY xs) (lines_y xs) (told.last_some xs) t other) k s);
                begins = λ k n e b. until.part_begins text (GoodIf Good asked) Fits lines FitsY lines_y [] xs texts us read k n e told.has b;
                ends = until.part_ends text (GoodIf Good asked) Fits lines FitsY lines_y told.known told.some told.last_some told.apart told.has [] xs texts us read t shown.0 shown.1 other;
              }

      -- a fault of the closing part, where no other starts with the line
      pub closing_fault : {new : Place} {t : List ℕ} {fault : Fault} → Shows mid (Some t) → NoneStarts text (Fits xs) (lines xs) t → IsFound text Good (FitsY xs) (lines_y xs) mid (Err fault) new
          → IsFound text Good Whole whole_lines old (Err fault) new
      closing_fault {new} {t} {fault} shown other found = carried text (FitsY xs) (lines_y xs) Whole whole_lines Good front old mid new (line_behind a) (size_behind a) behind fault a.room found
        where
          behind : (asked : Bool) → Carries text (FitsY xs) (lines_y xs) Whole whole_lines (GoodIf Good asked) front texts us
          behind asked =
              let read = read_so asked a.finds.read in
              record {
                stops = λ k n e s. subst (StopsAt text (GoodIf Good asked) Whole whole_lines texts) (sym e)
                    (until.last_stops text (GoodIf Good asked) Fits lines FitsY lines_y told.known told.some told.last_some told.apart told.has [] xs texts us read t shown.0 shown.1
                    (firsts.none_goes_on text (GoodIf Good asked) (Fits xs) (lines xs) (told.some xs) t other) k s);
                begins = λ k n e b. until.last_begins text (GoodIf Good asked) Fits lines FitsY lines_y [] xs texts us read k n e b;
                ends = until.last_ends text (GoodIf Good asked) Fits lines FitsY lines_y told.known told.some told.last_some told.apart told.has [] xs texts us read t shown.0 shown.1 other;
              }

      -- neither starts with the line
      pub neither_fault : {new : Place} {t : List ℕ} {l : ℕ} → Shows mid (Some t) → NoneStarts text (Fits xs) (lines xs) t → NoneStarts text (FitsY xs) (lines_y xs) t → l ≡ mid.line
          → new.line + length new.left ≤ mid.line + length mid.left → IsFound text Good Whole whole_lines old (Err (Stops l)) new
      neither_fault {new} {t} {l} shown no_part no_last at room = record {
        finds = (
          front,
          omega (arith, at, line_behind a),
          λ asked. until.none_stops text (GoodIf Good asked) Fits lines FitsY lines_y told.known told.some told.last_some told.apart told.has [] xs texts us (read_so asked a.finds.read) t shown.0 shown.1
              (firsts.none_goes_on text (GoodIf Good asked) (Fits xs) (lines xs) (told.some xs) t no_part) (firsts.none_goes_on text (GoodIf Good asked) (FitsY xs) (lines_y xs) (told.last_some xs) t no_last),
        );
        room = omega (arith, a.room, room);
      }

      -- no line is left
      pub end_fault : {new : Place} → Shows mid None → new ≡ mid → IsFound text Good Whole whole_lines old (Err End) new
      end_fault shown same = record {
        finds = (
          until.none_ends text Good Fits lines FitsY lines_y told.known told.some told.last_some told.apart told.has [] xs texts us a.finds.read shown,
          omega (arith, ap (λ p. p.line) same, line_behind a, size_behind a, ap length shown),
        );
        room = omega (arith, a.room, ap (λ p. p.line + length p.left) same);
      }
