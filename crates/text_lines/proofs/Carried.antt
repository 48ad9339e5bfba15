-- What is found of a part at a place is found of another one, which began there or before.
use Rattle.std.proofs.Common.{◌≡◌, ℕ, ◌+◌, ◌≤◌, Bool, true, false, List, length, map, take, refl, ap, arith, length-append}
use Rattle.std.specs.Prelude.{All, Ok, Err}
use Rattle.std.proofs.lemmas.List.{length-map}
use Rattle.text_lines.specs.Cursor.{Place}
use Rattle.text_lines.specs.Formats.{Begins, IsRead, StopsAt, Ends}
use Rattle.text_lines.specs.Found.{GoodIf, IsFault, IsFound}
use Rattle.text_lines.specs.WholeLines.{lines_in}
use Rattle.text_lines.specs.declared.faults.Fault.{Fault}
use Rattle.text_lines.specs.declared.faults.Fault.TheVariants.{Stops, Breaks, End, Memory}

all_so : {Line : Type 0} (Good : Line → Type 0) (asked : Bool) (ls : List Line) → All Good ls → All (GoodIf Good asked) ls
all_so Good true ls good = good
all_so Good false ls good = λ i d lt. tt

module _ {Line X : Type 0} {text : Line → List ℕ} {Good : Line → Type 0} {Fits : X → Type 0} {lines : X → List Line} where
  -- what is read by the rules of lines is read without them
  pub read_so : {part : X} {texts behind : List (List ℕ)} (asked : Bool) → IsRead text Good Fits lines part texts behind → IsRead text (GoodIf Good asked) Fits lines part texts behind
  read_so {part} asked p = record { fits = p.fits; good = all_so Good asked (lines part) p.good; texts_are = p.texts_are }

  -- the lines before the place behind a part
  pub line_behind : {old mid : Place} {part : X} → IsFound text Good Fits lines old (Ok part) mid → mid.line ≡ old.line + length (lines part)
  line_behind found = found.finds.line

  pub size_behind : {old mid : Place} {part : X} → IsFound text Good Fits lines old (Ok part) mid → length (lines_in old.left) ≡ length (lines part) + length (lines_in mid.left)
  size_behind {old} {mid} {part} found =
      omega (arith, ap length found.finds.read.texts_are, length-append (map text (lines part)) (lines_in mid.left), length-map (lines part) text)

module _ {Line X Z : Type 0} (text : Line → List ℕ) (FitsX : X → Type 0) (lines_x : X → List Line) (FitsZ : Z → Type 0) (lines_z : Z → List Line) where
  -- where a part begins, stops or ends that stands d lines behind, so does the other
  pub record Carries (Good : Line → Type 0) (d : ℕ) (texts us : List (List ℕ)) : Type 0 where
    pub stops : (k n : ℕ) → n ≡ d + k → StopsAt text Good FitsX lines_x us k → StopsAt text Good FitsZ lines_z texts n
    pub begins : (k n : ℕ) → n ≡ d + k → Begins text Good FitsX lines_x (take k us) → Begins text Good FitsZ lines_z (take n texts)
    pub ends : Ends text Good FitsX lines_x us → Ends text Good FitsZ lines_z texts

  module _ (Good : Line → Type 0) (d : ℕ) (old mid new : Place) (line : mid.line ≡ old.line + d) (size : length (lines_in old.left) ≡ d + length (lines_in mid.left))
      (carries : (asked : Bool) → Carries (GoodIf Good asked) d (lines_in old.left) (lines_in mid.left)) where
    -- a fault of the one is a fault of the other
    carried_fault : (fault : Fault) → IsFault text Good FitsX lines_x mid new fault → IsFault text Good FitsZ lines_z old new fault
    carried_fault (Stops l) f = (d + f.0, omega (arith, line, f.1), λ asked. (carries asked).stops f.0 (d + f.0) refl (f.2 asked))
    carried_fault (Breaks l) f =
        (d + f.0, omega (arith, line, f.1), (carries true).stops f.0 (d + f.0) refl f.2, (carries false).begins (f.0 + 1) (d + f.0 + 1) (omega arith) f.3)
    carried_fault End f = ((carries true).ends f.0, omega (arith, line, size, f.1))
    carried_fault Memory f = tt

    pub carried : (fault : Fault) → mid.line + length mid.left ≤ old.line + length old.left → IsFound text Good FitsX lines_x mid (Err fault) new → IsFound text Good FitsZ lines_z old (Err fault) new
    carried fault room f = record { finds = carried_fault fault f.finds; room = omega (arith, room, f.room) }
