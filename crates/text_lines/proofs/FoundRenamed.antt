-- What is found of a part is found of it in another form.
use Rattle.std.proofs.Common.{◌≡◌, ℕ, ◌+◌, List, length, take, sym, ◌∙◌, ap, subst, arith}
use Rattle.std.specs.Prelude.{Result, Ok, Err}
use Rattle.text_lines.specs.Cursor.{Place}
use Rattle.text_lines.specs.Formats.{Begins, StopsAt}
use Rattle.text_lines.specs.Found.{GoodIf, IsFound}
use Rattle.text_lines.specs.WholeLines.{lines_in}
use Rattle.text_lines.specs.declared.faults.Fault.{Fault}
use Rattle.text_lines.proofs.Renamed as renamed
use Rattle.text_lines.proofs.Carried.{Carries, carried}

-- an answer in the other form
abbrev pub renamed_result : {X Z : Type 0} → (X → Z) → Result X Fault → Result Z Fault
renamed_result to (Ok x) = Ok (to x)
renamed_result to (Err fault) = Err fault

module _ {Line X Z : Type 0} {text : Line → List ℕ} {Good : Line → Type 0} {FitsX : X → Type 0} {lines_x : X → List Line} {FitsZ : Z → Type 0} {lines_z : Z → List Line}
    (to : X → Z) (from : Z → X) (same_lines : (x : X) → lines_z (to x) ≡ lines_x x) (fits : (x : X) → FitsX x → FitsZ (to x))
    (lines_back : (z : Z) → lines_x (from z) ≡ lines_z z) (fits_back : (z : Z) → FitsZ z → FitsX (from z)) where
  -- it is read in the other form
  pub renamed_ok : {old new : Place} {x : X} → IsFound text Good FitsX lines_x old (Ok x) new → IsFound text Good FitsZ lines_z old (Ok (to x)) new
  renamed_ok {old} {new} {x} found = record {
    finds = record {
      read = renamed.renamed_read text Good FitsX lines_x FitsZ lines_z to from same_lines fits lines_back fits_back x (lines_in old.left) (lines_in new.left) found.finds.read;
      rest = found.finds.rest;
      line = found.finds.line ∙ ap (λ ls. old.line + length ls) (sym (same_lines x));
    };
    room = found.room;
  }

  -- and has the same faults
  pub renamed_fault : {old new : Place} {fault : Fault} → IsFound text Good FitsX lines_x old (Err fault) new → IsFound text Good FitsZ lines_z old (Err fault) new
  renamed_fault {old} {new} {fault} found = carried text FitsX lines_x FitsZ lines_z Good 0 old old new (omega arith) (omega arith) (λ asked. same (GoodIf Good asked)) fault (omega arith) found
    where
      same : (Rules : Line → Type 0) → Carries text FitsX lines_x FitsZ lines_z Rules 0 (lines_in old.left) (lines_in old.left)
      same Rules = record {
        stops = λ k n e s. renamed.renamed_stops text Rules FitsX lines_x FitsZ lines_z to from same_lines fits lines_back fits_back (lines_in old.left) n
            (subst (StopsAt text Rules FitsX lines_x (lines_in old.left)) (omega (arith, e)) s);
        begins = λ k n e b. renamed.begins_so text Rules FitsX lines_x FitsZ lines_z to from same_lines fits lines_back fits_back (take n (lines_in old.left))
            (subst (λ j. Begins text Rules FitsX lines_x (take j (lines_in old.left))) (omega (arith, e)) b);
        ends = renamed.renamed_ends text Rules FitsX lines_x FitsZ lines_z to from same_lines fits lines_back fits_back (lines_in old.left);
      }

  -- whatever is found
  pub renamed_found : {old new : Place} (result : Result X Fault) → IsFound text Good FitsX lines_x old result new → IsFound text Good FitsZ lines_z old (renamed_result to result) new
  renamed_found (Ok x) found = renamed_ok found
  renamed_found (Err fault) found = renamed_fault found

-- the same parts, said in another way
pub same_found : {Line X : Type 0} {text : Line → List ℕ} {Good : Line → Type 0} {FitsX FitsZ : X → Type 0} {lines_x lines_z : X → List Line} {old new : Place} (result : Result X Fault)
    → ((x : X) → lines_z x ≡ lines_x x) → ((x : X) → FitsX x → FitsZ x) → ((x : X) → FitsZ x → FitsX x)
    → IsFound text Good FitsX lines_x old result new → IsFound text Good FitsZ lines_z old result new
same_found (Ok x) same_lines fits fits_back found = renamed_ok (λ x. x) (λ x. x) same_lines fits (λ x. sym (same_lines x)) fits_back found
same_found (Err fault) same_lines fits fits_back found = renamed_fault (λ x. x) (λ x. x) same_lines fits (λ x. sym (same_lines x)) fits_back found
