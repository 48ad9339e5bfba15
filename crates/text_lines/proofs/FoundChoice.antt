-- What is found of one of two kinds of parts, which the first line tells apart.
use Rattle.std.proofs.Common.{◌≡◌, ◌⊎◌, inl, inr, ℕ, ◌+◌, ◌≤◌, List, length, take, sym, ap, subst, arith}
use Rattle.std.specs.Prelude.{Some, None, Ok, Err}
use Rattle.text_lines.specs.Cursor.{Place, Shows}
use Rattle.text_lines.specs.Formats.{Begins, StopsAt, Ends, FitEither, lines_of_either}
use Rattle.text_lines.specs.Found.{GoodIf, IsFound}
use Rattle.text_lines.specs.WholeLines.{lines_in}
use Rattle.text_lines.specs.declared.faults.Fault.{Fault}
use Rattle.text_lines.specs.declared.faults.Fault.TheVariants.{Stops, End}
use Rattle.text_lines.proofs.Choice as choice
use Rattle.text_lines.proofs.FirstLines as firsts
use Rattle.text_lines.proofs.FirstLines.{NoneStarts, HaveLines}
use Rattle.text_lines.proofs.Carried.{Carries, carried}

module _ {Line X Y : Type 0} {text : Line → List ℕ} {Good : Line → Type 0} (FitsX : X → Type 0) (lines_x : X → List Line) (FitsY : Y → Type 0) (lines_y : Y → List Line) where
  -- one of the first kind is read
  pub first_kind_found : {old new : Place} {x : X} → IsFound text Good FitsX lines_x old (Ok x) new → IsFound text Good (FitEither FitsX FitsY) (lines_of_either lines_x lines_y) old (Ok (inl x)) new
  first_kind_found {old} {new} {x} a =
      let read = choice.first_read text Good FitsX lines_x FitsY lines_y x (lines_in old.left) (lines_in new.left) a.finds.read in
      record { finds = record { read = read; rest = a.finds.rest; line = a.finds.line }; room = a.room }

  -- or one of the other
  pub last_kind_found : {old new : Place} {y : Y} → IsFound text Good FitsY lines_y old (Ok y) new → IsFound text Good (FitEither FitsX FitsY) (lines_of_either lines_x lines_y) old (Ok (inr y)) new
  last_kind_found {old} {new} {y} a =
      let read = choice.last_read text Good FitsX lines_x FitsY lines_y y (lines_in old.left) (lines_in new.left) a.finds.read in
      record { finds = record { read = read; rest = a.finds.rest; line = a.finds.line }; room = a.room }

module _ {Line X Y : Type 0} {text : Line → List ℕ} {Good : Line → Type 0} (FitsX : X → Type 0) (lines_x : X → List Line) (FitsY : Y → Type 0) (lines_y : Y → List Line)
    (some_x : HaveLines text FitsX lines_x) (some_y : HaveLines text FitsY lines_y) where
  -- a fault of the first kind, where none of the other starts with the line
  pub first_kind_fault : {old new : Place} {t : List ℕ} {fault : Fault} → Shows old (Some t) → NoneStarts text FitsY lines_y t → IsFound text Good FitsX lines_x old (Err fault) new
      → IsFound text Good (FitEither FitsX FitsY) (lines_of_either lines_x lines_y) old (Err fault) new
  first_kind_fault {old} {new} {t} {fault} shown other found =
      carried text FitsX lines_x (FitEither FitsX FitsY) (lines_of_either lines_x lines_y) Good 0 old old new (omega arith) (omega arith) (λ asked. here (GoodIf Good asked)) fault (omega arith) found
    where
      here : (Rules : Line → Type 0) → Carries text FitsX lines_x (FitEither FitsX FitsY) (lines_of_either lines_x lines_y) Rules 0 (lines_in old.left) (lines_in old.left)
      here Rules = record {
        stops = λ k n e s. subst (λ ts. StopsAt text Rules (FitEither FitsX FitsY) (lines_of_either lines_x lines_y) ts n) (sym shown.1)
            (choice.first_stops text Rules FitsX lines_x FitsY lines_y t shown.0 n (firsts.none_goes_on text Rules FitsY lines_y some_y t other)
            (subst (λ ts. StopsAt text Rules FitsX lines_x ts n) shown.1 (subst (StopsAt text Rules FitsX lines_x (lines_in old.left)) (omega (arith, e)) s)));
        begins = λ k n e b. choice.first_begins text Rules FitsX lines_x FitsY lines_y (take n (lines_in old.left)) (subst (λ j. Begins text Rules FitsX lines_x (take j (lines_in old.left))) (omega (arith, e)) b);
        ends = λ s. subst (Ends text Rules (FitEither FitsX FitsY) (lines_of_either lines_x lines_y)) (sym shown.1)
            (firsts.first_ends text Rules FitsX lines_x FitsY lines_y some_x some_y t shown.0 other (subst (Ends text Rules FitsX lines_x) shown.1 s));
      }

  -- a fault of the other kind, where none of the first starts with the line
  pub last_kind_fault : {old new : Place} {t : List ℕ} {fault : Fault} → Shows old (Some t) → NoneStarts text FitsX lines_x t → IsFound text Good FitsY lines_y old (Err fault) new
      → IsFound text Good (FitEither FitsX FitsY) (lines_of_either lines_x lines_y) old (Err fault) new
  last_kind_fault {old} {new} {t} {fault} shown other found =
      carried text FitsY lines_y (FitEither FitsX FitsY) (lines_of_either lines_x lines_y) Good 0 old old new (omega arith) (omega arith) (λ asked. here (GoodIf Good asked)) fault (omega arith) found
    where
      here : (Rules : Line → Type 0) → Carries text FitsY lines_y (FitEither FitsX FitsY) (lines_of_either lines_x lines_y) Rules 0 (lines_in old.left) (lines_in old.left)
      here Rules = record {
        stops = λ k n e s. subst (λ ts. StopsAt text Rules (FitEither FitsX FitsY) (lines_of_either lines_x lines_y) ts n) (sym shown.1)
            (choice.last_stops text Rules FitsX lines_x FitsY lines_y t shown.0 n (firsts.none_goes_on text Rules FitsX lines_x some_x t other)
            (subst (λ ts. StopsAt text Rules FitsY lines_y ts n) shown.1 (subst (StopsAt text Rules FitsY lines_y (lines_in old.left)) (omega (arith, e)) s)));
        begins = λ k n e b. choice.last_begins text Rules FitsX lines_x FitsY lines_y (take n (lines_in old.left)) (subst (λ j. Begins text Rules FitsY lines_y (take j (lines_in old.left))) (omega (arith, e)) b);
        ends = λ s. subst (Ends text Rules (FitEither FitsX FitsY) (lines_of_either lines_x lines_y)) (sym shown.1)
            (firsts.last_ends text Rules FitsX lines_x FitsY lines_y some_x some_y t shown.0 other (subst (Ends text Rules FitsY lines_y) shown.1 s));
      }

  -- neither starts with the line
  pub neither_kind_fault : {old new : Place} {t : List ℕ} {l : ℕ} → Shows old (Some t) → (x : X) → FitsX x → NoneStarts text FitsX lines_x t → NoneStarts text FitsY lines_y t → l ≡ old.line
      → new.line + length new.left ≤ old.line + length old.left → IsFound text Good (FitEither FitsX FitsY) (lines_of_either lines_x lines_y) old (Err (Stops l)) new
  neither_kind_fault {old} {new} {t} {l} shown x fits no_first no_last at room = record {
    finds = (
      0,
      omega (arith, at),
      λ asked. subst (λ ts. StopsAt text (GoodIf Good asked) (FitEither FitsX FitsY) (lines_of_either lines_x lines_y) ts 0) (sym shown.1)
          (choice.none_stops text (GoodIf Good asked) FitsX lines_x FitsY lines_y t shown.0 x fits (firsts.none_goes_on text (GoodIf Good asked) FitsX lines_x some_x t no_first)
          (firsts.none_goes_on text (GoodIf Good asked) FitsY lines_y some_y t no_last)),
    );
    room = room;
  }

  -- no line is left
  pub no_kind_left : {old new : Place} → Shows old None → new ≡ old → (p : X ⊎ Y) → FitEither FitsX FitsY p → IsFound text Good (FitEither FitsX FitsY) (lines_of_either lines_x lines_y) old (Err End) new
  no_kind_left {old} {new} shown same p fits = record {
    finds = (
      subst (Ends text Good (FitEither FitsX FitsY) (lines_of_either lines_x lines_y)) (sym shown) (firsts.none_ends text Good FitsX lines_x FitsY lines_y some_x some_y p fits),
      omega (arith, ap (λ q. q.line) same, ap length shown),
    );
    room = omega (arith, ap (λ q. q.line + length q.left) same);
  }
