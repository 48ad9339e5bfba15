-- What is found of a part is found of it in another form, where what fits has the same lines in both.
use Rattle.std.proofs.Common.{◌≡◌, ℕ, ◌+◌, false, List, ◌++◌, length, map, take, sym, ◌∙◌, ap, subst}
use Rattle.std.specs.Prelude.{All, Ok, Err}
use Rattle.text_lines.specs.Cursor.{Place}
use Rattle.text_lines.specs.Formats.{Begins, GoesOn, StopsAt, Ends}
use Rattle.text_lines.specs.Found.{GoodIf, IsFault, IsFound}
use Rattle.text_lines.specs.WholeLines.{lines_in}
use Rattle.text_lines.specs.declared.faults.Fault.{Fault}
use Rattle.text_lines.specs.declared.faults.Fault.TheVariants.{Stops, Breaks, End, Memory}

-- two forms of a part
pub record IsForm {Line X Z : Type 0} (FitsX : X → Type 0) (lines_x : X → List Line) (FitsZ : Z → Type 0) (lines_z : Z → List Line) (to : X → Z) (from : Z → X) : Type 0 where
  pub fits : (x : X) → FitsX x → FitsZ (to x)
  pub lines : (x : X) → FitsX x → lines_z (to x) ≡ lines_x x
  pub fits_back : (z : Z) → FitsZ z → FitsX (from z)
  pub lines_back : (z : Z) → FitsZ z → lines_x (from z) ≡ lines_z z

module _ {Line X Z : Type 0} (text : Line → List ℕ) {FitsX : X → Type 0} {lines_x : X → List Line} {FitsZ : Z → Type 0} {lines_z : Z → List Line} {to : X → Z} {from : Z → X} (form : IsForm FitsX lines_x FitsZ lines_z to from) where
  begins_so : (Good : Line → Type 0) (texts : List (List ℕ)) → Begins text Good FitsX lines_x texts → Begins text Good FitsZ lines_z texts
  begins_so Good texts b = record {
    part = to b.part;
    fits = form.fits b.part b.fits;
    front = b.front;
    rest = b.rest;
    whole = form.lines b.part b.fits ∙ b.whole;
    texts_are = b.texts_are;
    good = b.good;
  }

  goes_back : (Good : Line → Type 0) (texts : List (List ℕ)) → GoesOn text Good FitsZ lines_z texts → GoesOn text Good FitsX lines_x texts
  goes_back Good texts g = record {
    part = from g.part;
    fits = form.fits_back g.part g.fits;
    more = g.more;
    front = g.front;
    rest = g.rest;
    whole = ap (λ ls. ls ++ g.more) (form.lines_back g.part g.fits) ∙ g.whole;
    texts_are = g.texts_are;
    good = g.good;
  }

  stops_so : (Good : Line → Type 0) (texts : List (List ℕ)) (k : ℕ) → StopsAt text Good FitsX lines_x texts k → StopsAt text Good FitsZ lines_z texts k
  stops_so Good texts k s = record { within = s.within; before = begins_so Good (take k texts) s.before; after = λ g. s.after (goes_back Good (take (k + 1) texts) g) }

  ends_so : (Good : Line → Type 0) (texts : List (List ℕ)) → Ends text Good FitsX lines_x texts → Ends text Good FitsZ lines_z texts
  ends_so Good texts e = record {
    begins = begins_so Good texts e.begins;
    none = λ z fits behind is. e.none (from z) (form.fits_back z fits) behind (is ∙ ap (λ ls. map text ls ++ behind) (sym (form.lines_back z fits)));
  }

  fault_so : (Good : Line → Type 0) (old new : Place) (fault : Fault) → IsFault text Good FitsX lines_x old new fault → IsFault text Good FitsZ lines_z old new fault
  fault_so Good old new (Stops l) f = (f.0, f.1, λ asked. stops_so (GoodIf Good asked) (lines_in old.left) f.0 (f.2 asked))
  fault_so Good old new (Breaks l) f = (f.0, f.1, stops_so Good (lines_in old.left) f.0 f.2, begins_so (GoodIf Good false) (take (f.0 + 1) (lines_in old.left)) f.3)
  fault_so Good old new End f = (ends_so Good (lines_in old.left) f.0, f.1)
  fault_so Good old new Memory f = tt

module _ {Line X Z : Type 0} {text : Line → List ℕ} {FitsX : X → Type 0} {lines_x : X → List Line} {FitsZ : Z → Type 0} {lines_z : Z → List Line} {to : X → Z} {from : Z → X} (form : IsForm FitsX lines_x FitsZ lines_z to from)
    {Good : Line → Type 0} {old new : Place} where
  pub formed_fault : {fault : Fault} → IsFound text Good FitsX lines_x old (Err fault) new → IsFound text Good FitsZ lines_z old (Err fault) new
  formed_fault {fault} found = record { finds = fault_so text form Good old new fault found.finds; room = found.room }

  pub formed_ok : {x : X} → IsFound text Good FitsX lines_x old (Ok x) new → IsFound text Good FitsZ lines_z old (Ok (to x)) new
  formed_ok {x} found =
      let p = found.finds.read in
      record {
        finds = record {
          read = record {
            fits = form.fits x p.fits;
            good = subst (All Good) (sym (form.lines x p.fits)) p.good;
            texts_are = p.texts_are ∙ ap (λ ls. map text ls ++ lines_in new.left) (sym (form.lines x p.fits));
          };
          rest = found.finds.rest;
          line = found.finds.line ∙ ap (λ ls. old.line + length ls) (sym (form.lines x p.fits));
        };
        room = found.room;
      }
