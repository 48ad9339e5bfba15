-- What is found of a part of one line, where the line is taken or looked at.
use Rattle.std.proofs.Common.{◌≡◌, ℕ, ◌+◌, ◌≤◌, false, List, [], ◌∷◌, ◌++◌, length, map, take, refl, sym, ◌∙◌, ap, subst, arith}
use Rattle.std.specs.Prelude.{Some, None, Ok, Err}
use Rattle.std.proofs.lemmas.List.Elements.{All-nil, All-cons}
use Rattle.text_lines.specs.Cursor.{Place, Takes, Shows}
use Rattle.text_lines.specs.Formats.{Begins, StopsAt, Ends}
use Rattle.text_lines.specs.Found.{GoodIf, IsFound}
use Rattle.text_lines.specs.WholeLines.{lines_in}
use Rattle.text_lines.specs.declared.faults.Fault.TheVariants.{Stops, Breaks, End, Memory}
use Rattle.text_lines.proofs.OneLine as one

-- no more bytes and lines are left behind a line that was taken
pub taken_room : {old new : Place} {t : List ℕ} → Takes old (Some t) new → new.line + length new.left ≤ old.line + length old.left
taken_room taken = omega (arith, taken.number, taken.shorter)

-- and where none was
pub last_room : {old new : Place} → Takes old None new → new.line + length new.left ≤ old.line + length old.left
last_room last = omega (arith, ap (λ p. p.line + length p.left) last.same)

-- memory may run out anywhere
pub no_memory : {Line X : Type 0} {text : Line → List ℕ} {Good : Line → Type 0} {Fits : X → Type 0} {lines : X → List Line} {old new : Place} → new.line + length new.left ≤ old.line + length old.left
    → IsFound text Good Fits lines old (Err Memory) new
no_memory room = record { finds = tt; room = room }

module _ {Line X : Type 0} (text : Line → List ℕ) (Good : Line → Type 0) (Fits : X → Type 0) (line : X → Line) (texts others : List (List ℕ)) (t : List ℕ) (first : texts ≡ t ∷ others) where
  -- no part with a good line is the first line
  none_good : (x : X) → Fits x → ((y : X) → Fits y → Good (line y) → text (line y) ≡ t → ⊥) → StopsAt text Good Fits (λ y. line y ∷ []) texts 0
  none_good x fits none = subst (λ ts. StopsAt text Good Fits (λ y. line y ∷ []) ts 0) (sym first) (one.line_stops text Good Fits line x fits t others none)

  -- one is, where the rules of lines aren't asked
  one_begins : (y : X) → Fits y → text (line y) ≡ t → Begins text (GoodIf Good false) Fits (λ z. line z ∷ []) (take (0 + 1) texts)
  one_begins y fits is = record {
    part = y;
    fits = fits;
    front = line y ∷ [];
    rest = [];
    whole = refl;
    texts_are = ap (λ u. u ∷ []) is ∙ sym (ap (take 1) first);
    good = λ i d lt. tt;
  }

module _ {Line X : Type 0} {text : Line → List ℕ} {Good : Line → Type 0} {Fits : X → Type 0} {line : X → Line} {old new : Place} where
  -- the line that is taken is this part
  pub line_is : {t : List ℕ} {x : X} → Takes old (Some t) new → Fits x → Good (line x) → text (line x) ≡ t → IsFound text Good Fits (λ y. line y ∷ []) old (Ok x) new
  line_is {t} {x} taken fits good is =
      let lines_are : lines_in old.left ≡ map text (line x ∷ []) ++ lines_in new.left = taken.lines ∙ ap (λ u. u ∷ lines_in new.left) (sym is) in
      record {
        finds = record {
          read = record { fits = fits; good = All-cons Good (line x) [] good (All-nil Good); texts_are = lines_are };
          rest = taken.rest;
          line = taken.number;
        };
        room = taken_room taken;
      }

  -- no part is the line that is looked at
  pub shown_stops : {l : ℕ} {t : List ℕ} → Shows old (Some t) → new.line + length new.left ≤ old.line + length old.left → (some : (x : X) × Fits x) → ((y : X) → Fits y → text (line y) ≡ t → ⊥) → l ≡ old.line
      → IsFound text Good Fits (λ y. line y ∷ []) old (Err (Stops l)) new
  shown_stops {l} {t} shown room some none at = record {
    finds = (0, omega (arith, at), λ asked. none_good text (GoodIf Good asked) Fits line (lines_in old.left) shown.0 t shown.1 some.0 some.1 (λ y fits good is. none y fits is));
    room = room;
  }

  -- nor the one that is taken
  pub line_stops : {l : ℕ} {t : List ℕ} → Takes old (Some t) new → (some : (x : X) × Fits x) → ((y : X) → Fits y → text (line y) ≡ t → ⊥) → l ≡ old.line
      → IsFound text Good Fits (λ y. line y ∷ []) old (Err (Stops l)) new
  line_stops taken some none at = shown_stops (lines_in new.left, taken.lines) (taken_room taken) some none at

  -- a part is the line, but none whose line keeps the rules
  pub line_breaks : {l : ℕ} {t : List ℕ} → Takes old (Some t) new → (y : X) → Fits y → text (line y) ≡ t → ((z : X) → Fits z → Good (line z) → text (line z) ≡ t → ⊥) → l ≡ old.line
      → IsFound text Good Fits (λ y. line y ∷ []) old (Err (Breaks l)) new
  line_breaks {l} {t} taken y fits is none at = record {
    finds = (
      0,
      omega (arith, at),
      none_good text Good Fits line (lines_in old.left) (lines_in new.left) t taken.lines y fits none,
      one_begins text Good Fits line (lines_in old.left) (lines_in new.left) t taken.lines y fits is,
    );
    room = taken_room taken;
  }

  -- no line is left where one is looked at
  pub none_shown : Shows old None → new ≡ old → (some : (x : X) × Fits x) → IsFound text Good Fits (λ y. line y ∷ []) old (Err End) new
  none_shown shown same some = record {
    finds = (subst (Ends text Good Fits (λ y. line y ∷ [])) (sym shown) (one.line_ends text Good Fits line some.0 some.1), omega (arith, ap (λ p. p.line) same, ap length shown));
    room = omega (arith, ap (λ p. p.line + length p.left) same);
  }

  -- or where one is taken
  pub line_ends : Takes old None new → (some : (x : X) × Fits x) → IsFound text Good Fits (λ y. line y ∷ []) old (Err End) new
  line_ends last some = none_shown last.none last.same some
