-- What is found of a part and one behind it.
use Rattle.std.proofs.Common.{ℕ, Bool, List, length, take, sym, ◌∙◌, subst, arith, length-append}
use Rattle.std.specs.Prelude.{Ok, Err}
use Rattle.text_lines.specs.Cursor.{Place}
use Rattle.text_lines.specs.Formats.{Begins, StopsAt, AreKnown, FitBoth, lines_of_both}
use Rattle.text_lines.specs.Found.{GoodIf, IsFound}
use Rattle.text_lines.specs.WholeLines.{lines_in}
use Rattle.text_lines.specs.declared.faults.Fault.{Fault}
use Rattle.text_lines.proofs.InTurn as turn
use Rattle.text_lines.proofs.Carried.{Carries, carried, read_so, line_behind, size_behind}

module _ {Line X Y : Type 0} {text : Line → List ℕ} {Good : Line → Type 0} {FitsX : X → Type 0} {lines_x : X → List Line} (FitsY : X → Y → Type 0) (lines_y : X → Y → List Line) where
  -- both are read
  pub both_found : {old mid new : Place} {x : X} {y : Y} → IsFound text Good FitsX lines_x old (Ok x) mid → IsFound text Good (FitsY x) (lines_y x) mid (Ok y) new
      → IsFound text Good (FitBoth FitsX FitsY) (lines_of_both lines_x lines_y) old (Ok (x, y)) new
  both_found {old} {mid} {new} {x} {y} a b = record {
    finds = record {
      read = turn.both_read text Good FitsX lines_x FitsY lines_y x y (lines_in old.left) (lines_in mid.left) (lines_in new.left) a.finds.read b.finds.read;
      rest = b.finds.rest ∙ a.finds.rest;
      line = omega (arith, a.finds.line, b.finds.line, length-append (lines_x x) (lines_y x y));
    };
    room = omega (arith, a.room, b.room);
  }

  -- a fault of the first one
  pub first_fault : {old new : Place} {fault : Fault} → ((x : X) → FitsX x → (y : Y) × FitsY x y) → IsFound text Good FitsX lines_x old (Err fault) new
      → IsFound text Good (FitBoth FitsX FitsY) (lines_of_both lines_x lines_y) old (Err fault) new
  first_fault {old} {new} {fault} has found =
      carried text FitsX lines_x (FitBoth FitsX FitsY) (lines_of_both lines_x lines_y) Good 0 old old new (omega arith) (omega arith) (λ asked. first (GoodIf Good asked)) fault (omega arith) found
    where
      first : (Rules : Line → Type 0) → Carries text FitsX lines_x (FitBoth FitsX FitsY) (lines_of_both lines_x lines_y) Rules 0 (lines_in old.left) (lines_in old.left)
      first Rules = record {
        stops = λ k n e s. turn.first_stops text Rules FitsX lines_x FitsY lines_y has (lines_in old.left) n (subst (StopsAt text Rules FitsX lines_x (lines_in old.left)) (omega (arith, e)) s);
        begins = λ k n e b. turn.first_begins text Rules FitsX lines_x FitsY lines_y has (take n (lines_in old.left)) (subst (λ j. Begins text Rules FitsX lines_x (take j (lines_in old.left))) (omega (arith, e)) b);
        ends = turn.first_ends text Rules FitsX lines_x FitsY lines_y has (lines_in old.left);
      }

  -- a fault of the other one
  pub last_fault : {old mid new : Place} {x : X} {fault : Fault} → AreKnown text Good FitsX lines_x → IsFound text Good FitsX lines_x old (Ok x) mid → IsFound text Good (FitsY x) (lines_y x) mid (Err fault) new
      → IsFound text Good (FitBoth FitsX FitsY) (lines_of_both lines_x lines_y) old (Err fault) new
  last_fault {old} {mid} {new} {x} {fault} known a found =
      carried text (FitsY x) (lines_y x) (FitBoth FitsX FitsY) (lines_of_both lines_x lines_y) Good (length (lines_x x)) old mid new (line_behind a) (size_behind a) behind fault a.room found
    where
      behind : (asked : Bool) → Carries text (FitsY x) (lines_y x) (FitBoth FitsX FitsY) (lines_of_both lines_x lines_y) (GoodIf Good asked) (length (lines_x x)) (lines_in old.left) (lines_in mid.left)
      behind asked =
          let read = read_so asked a.finds.read in
          record {
            stops = λ k n e s. subst (StopsAt text (GoodIf Good asked) (FitBoth FitsX FitsY) (lines_of_both lines_x lines_y) (lines_in old.left)) (sym e)
                (turn.last_stops text (GoodIf Good asked) FitsX lines_x FitsY lines_y known x (lines_in old.left) (lines_in mid.left) read k s);
            begins = λ k n e b. subst (Begins text (GoodIf Good asked) (FitBoth FitsX FitsY) (lines_of_both lines_x lines_y))
                (sym (turn.take_past text (lines_x x) (lines_in old.left) (lines_in mid.left) read.texts_are n k e))
                (turn.last_begins text (GoodIf Good asked) FitsX lines_x FitsY lines_y x (lines_in old.left) (lines_in mid.left) (take k (lines_in mid.left)) read b);
            ends = turn.last_ends text (GoodIf Good asked) FitsX lines_x FitsY lines_y known x (lines_in old.left) (lines_in mid.left) read;
          }
