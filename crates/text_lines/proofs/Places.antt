-- What is found at a place.
use Rattle.std.proofs.Common.{◌≡◌, ℕ, ◌+◌, List, [], ◌∷◌, ◌++◌, length, refl, sym, ◌∙◌, ap, arith, length-append}
use Rattle.text_lines.specs.WholeLines.{IsOneLine, lines_in, rest_in}
use Rattle.text_lines.specs.Halves.{IsParted}
use Rattle.text_lines.specs.Cursor.{Place, IsTaken, IsLast}
use Rattle.text_lines.proofs.Cuts.{line_first, no_line}

-- the line before the first line feed is taken
pub taken : (place : Place) (bytes text behind : List ℕ) → place.left ≡ bytes → IsParted 10 bytes text behind → IsTaken place text (record { left = behind; line = place.line + 1 })
taken place bytes text behind same p =
    let e : place.left ≡ text ++ 10 ∷ behind = same ∙ p.whole in
    let found = line_first text behind p.first in
    record {
      lines = ap lines_in e ∙ found.0;
      rest = sym found.1 ∙ ap rest_in (sym e);
      number = refl;
      shorter = omega (arith, ap length e, length-append text (10 ∷ behind));
    }

-- without a line feed, no line is
pub none_left : (place : Place) (bytes : List ℕ) → place.left ≡ bytes → IsOneLine bytes → lines_in place.left ≡ []
none_left place bytes same one = ap lines_in same ∙ (no_line bytes one).0

pub stays : (place : Place) (bytes : List ℕ) → place.left ≡ bytes → IsOneLine bytes → IsLast place place
stays place bytes same one = record { none = none_left place bytes same one; same = refl }
