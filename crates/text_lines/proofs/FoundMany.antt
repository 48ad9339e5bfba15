-- What is found of so many parts in a row, in a loop that reads one after the other.
use Rattle.std.proofs.Common.{◌≡◌, ℕ, ◌+◌, ◌<◌, Bool, List, [], ◌∷◌, ◌++◌, length, refl, sym, ◌∙◌, ap, subst, arith, length-append}
use Rattle.std.specs.Prelude.{Ok, Err}
use Rattle.text_lines.specs.Cursor.{Place}
use Rattle.text_lines.specs.Formats.{StopsAt, AreKnown, FitMany, lines_of_many}
use Rattle.text_lines.specs.Found.{GoodIf, IsFound}
use Rattle.text_lines.specs.WholeLines.{lines_in}
use Rattle.text_lines.specs.declared.faults.Fault.{Fault}
use Rattle.text_lines.proofs.Many as many
use Rattle.text_lines.proofs.Carried.{Carries, carried, read_so, line_behind, size_behind}

module _ {Line X : Type 0} {text : Line → List ℕ} {Good : Line → Type 0} (Fits : List X → X → Type 0) (lines : List X → X → List Line) where
  -- none is read before the first one
  pub many_begun : {place : Place} → IsFound text Good (FitMany Fits 0 []) (lines_of_many lines []) place (Ok []) place
  many_begun {place} = record {
    finds = record { read = many.no_more text Good Fits lines [] (lines_in place.left); rest = refl; line = omega arith };
    room = omega arith;
  }

  -- one more is read
  pub many_more : {old mid new : Place} {xs : List X} {y : X} (i : ℕ) → IsFound text Good (FitMany Fits i []) (lines_of_many lines []) old (Ok xs) mid
      → IsFound text Good (Fits xs) (lines xs) mid (Ok y) new → IsFound text Good (FitMany Fits (i + 1) []) (lines_of_many lines []) old (Ok (xs ++ y ∷ [])) new
  many_more {old} {mid} {new} {xs} {y} i a b = record {
    finds = record {
      read = many.one_more text Good Fits lines i [] xs y (lines_in old.left) (lines_in mid.left) (lines_in new.left) a.finds.read b.finds.read;
      rest = b.finds.rest ∙ a.finds.rest;
      line = omega (arith, a.finds.line, b.finds.line, more_lines xs y);
    };
    room = omega (arith, a.room, b.room);
  }
    where
      more_lines : (xs : List X) (y : X) → length (lines_of_many lines [] (xs ++ y ∷ [])) ≡ length (lines_of_many lines [] xs) + length (lines xs y)
      more_lines xs y = omega (arith, ap length (many.joined_lines text Good Fits lines [] xs (y ∷ [])), length-append (lines_of_many lines [] xs) (lines xs y ++ []), length-append (lines xs y) [])

  -- a fault of the next one
  pub many_fault : {old mid new : Place} {xs : List X} {fault : Fault} {i n : ℕ} → ((earlier : List X) → (x : X) × Fits earlier x) → ((earlier : List X) → AreKnown text Good (Fits earlier) (lines earlier)) → i < n
      → IsFound text Good (FitMany Fits i []) (lines_of_many lines []) old (Ok xs) mid → IsFound text Good (Fits xs) (lines xs) mid (Err fault) new
      → IsFound text Good (FitMany Fits n []) (lines_of_many lines []) old (Err fault) new
  many_fault {old} {mid} {new} {xs} {fault} {i} {n} has known less a found =
      carried text (Fits xs) (lines xs) (FitMany Fits n []) (lines_of_many lines []) Good (length (lines_of_many lines [] xs)) old mid new (line_behind a) (size_behind a) behind fault a.room found
    where
      behind : (asked : Bool) → Carries text (Fits xs) (lines xs) (FitMany Fits n []) (lines_of_many lines []) (GoodIf Good asked) (length (lines_of_many lines [] xs)) (lines_in old.left) (lines_in mid.left)
      behind asked =
          let read = read_so asked a.finds.read in
          record {
            stops = λ k m e s. subst (StopsAt text (GoodIf Good asked) (FitMany Fits n []) (lines_of_many lines []) (lines_in old.left)) (sym e)
                (many.stops_at_next text (GoodIf Good asked) Fits lines known has i n [] xs (lines_in old.left) (lines_in mid.left) read less k s);
            begins = many.begins_at_next text (GoodIf Good asked) Fits lines known has i n [] xs (lines_in old.left) (lines_in mid.left) read less;
            ends = many.ends_at_next text (GoodIf Good asked) Fits lines known has i n [] xs (lines_in old.left) (lines_in mid.left) read less;
          }
