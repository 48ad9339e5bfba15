-- What is found of a part is found of it in another form, in which as much fits.
use Rattle.std.proofs.Common.{◌≡◌, ℕ, ◌+◌, List, ◌++◌, length, map, take, sym, ◌∙◌, ap, subst, arith}
use Rattle.std.specs.Prelude.{All, Result, Ok, Err}
use Rattle.text_lines.specs.Cursor.{Place}
use Rattle.text_lines.specs.Formats.{Begins, GoesOn, StopsAt, Ends, AreKnown}
use Rattle.text_lines.specs.Found.{GoodIf, IsFound}
use Rattle.text_lines.specs.WholeLines.{lines_in}
use Rattle.text_lines.specs.declared.faults.Fault.{Fault}
use Rattle.text_lines.proofs.Carried.{Carries, carried}
use Rattle.text_lines.proofs.FoundRenamed.{renamed_result}

module _ {Line X Z : Type 0} (text : Line → List ℕ) {FitsX : X → Type 0} {lines_x : X → List Line} {FitsZ : Z → Type 0} {lines_z : Z → List Line}
    (to : X → Z) (from : Z → X) (fits : (x : X) → FitsX x → FitsZ (to x)) (fits_back : (z : Z) → FitsZ z → FitsX (from z))
    (same_lines : (x : X) → FitsX x → lines_z (to x) ≡ lines_x x) (lines_back : (z : Z) → FitsZ z → lines_x (from z) ≡ lines_z z) where
  begins_so : (Rules : Line → Type 0) (texts : List (List ℕ)) → Begins text Rules FitsX lines_x texts → Begins text Rules FitsZ lines_z texts
  begins_so Rules texts b = record {
    part = to b.part;
    fits = fits b.part b.fits;
    front = b.front;
    rest = b.rest;
    whole = same_lines b.part b.fits ∙ b.whole;
    texts_are = b.texts_are;
    good = b.good;
  }

  goes_back : (Rules : Line → Type 0) (texts : List (List ℕ)) → GoesOn text Rules FitsZ lines_z texts → GoesOn text Rules FitsX lines_x texts
  goes_back Rules texts g = record {
    part = from g.part;
    fits = fits_back g.part g.fits;
    more = g.more;
    front = g.front;
    rest = g.rest;
    whole = ap (λ ls. ls ++ g.more) (lines_back g.part g.fits) ∙ g.whole;
    texts_are = g.texts_are;
    good = g.good;
  }

  stops_so : (Rules : Line → Type 0) (texts : List (List ℕ)) (k : ℕ) → StopsAt text Rules FitsX lines_x texts k → StopsAt text Rules FitsZ lines_z texts k
  stops_so Rules texts k s = record {
    within = s.within;
    before = begins_so Rules (take k texts) s.before;
    after = λ g. s.after (goes_back Rules (take (k + 1) texts) g);
  }

  ends_so : (Rules : Line → Type 0) (texts : List (List ℕ)) → Ends text Rules FitsX lines_x texts → Ends text Rules FitsZ lines_z texts
  ends_so Rules texts e = record {
    begins = begins_so Rules texts e.begins;
    none = λ z fit behind is. e.none (from z) (fits_back z fit) behind (is ∙ ap (λ ls. map text ls ++ behind) (sym (lines_back z fit)));
  }

  pub recast_ok : {Good : Line → Type 0} {old new : Place} {x : X} → IsFound text Good FitsX lines_x old (Ok x) new → IsFound text Good FitsZ lines_z old (Ok (to x)) new
  recast_ok {Good} {old} {new} {x} found =
      let same = same_lines x found.finds.read.fits in
      record {
        finds = record {
          read = record {
            fits = fits x found.finds.read.fits;
            good = subst (All Good) (sym same) found.finds.read.good;
            texts_are = found.finds.read.texts_are ∙ ap (λ ls. map text ls ++ lines_in new.left) (sym same);
          };
          rest = found.finds.rest;
          line = found.finds.line ∙ ap (λ ls. old.line + length ls) (sym same);
        };
        room = found.room;
      }

  pub recast_fault : {Good : Line → Type 0} {old new : Place} {fault : Fault} → IsFound text Good FitsX lines_x old (Err fault) new → IsFound text Good FitsZ lines_z old (Err fault) new
  recast_fault {Good} {old} {new} {fault} found = carried text FitsX lines_x FitsZ lines_z Good 0 old old new (omega arith) (omega arith) (λ asked. same (GoodIf Good asked)) fault (omega arith) found
    where
      same : (Rules : Line → Type 0) → Carries text FitsX lines_x FitsZ lines_z Rules 0 (lines_in old.left) (lines_in old.left)
      same Rules = record {
        stops = λ k n e s. stops_so Rules (lines_in old.left) n (subst (StopsAt text Rules FitsX lines_x (lines_in old.left)) (omega (arith, e)) s);
        begins = λ k n e b. begins_so Rules (take n (lines_in old.left)) (subst (λ j. Begins text Rules FitsX lines_x (take j (lines_in old.left))) (omega (arith, e)) b);
        ends = ends_so Rules (lines_in old.left);
      }

  pub recast_found : {Good : Line → Type 0} {old new : Place} (result : Result X Fault) → IsFound text Good FitsX lines_x old result new → IsFound text Good FitsZ lines_z old (renamed_result to result) new
  recast_found (Ok x) found = recast_ok found
  recast_found (Err fault) found = recast_fault found

  pub recast_known : (Good : Line → Type 0) → ((z : Z) → FitsZ z → to (from z) ≡ z) → AreKnown text Good FitsX lines_x → AreKnown text Good FitsZ lines_z
  recast_known Good back known a b fit_a fit_b behind after e =
      sym (back a fit_a)
      ∙ ap to (known (from a) (from b) (fits_back a fit_a) (fits_back b fit_b) behind after
      (ap (λ ls. map text ls ++ behind) (lines_back a fit_a) ∙ e ∙ ap (λ ls. map text ls ++ after) (sym (lines_back b fit_b))))
      ∙ back b fit_b
