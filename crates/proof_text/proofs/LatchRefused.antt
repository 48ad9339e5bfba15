-- Texts that are no proof file of the small model, with the line that is told.
use Rattle.std.proofs.Common.{◌≡◌, ℕ, zero, suc, ◌<◌, List, [], ◌∷◌, ◌++◌, length, map, refl, ap, arith, get_or, lit≤, lit<}
use Rattle.std.specs.Prelude.{codes}
use Rattle.std.proofs.lemmas.List.Elements.{All-nil, All-from_recursion}
use Rattle.kripke_model.proofs.Latch.{latch}
use Rattle.proof_text.specs.File.{File}
use Rattle.proof_text.specs.Lines.{Line, Words, line_text, file_lines}
use Rattle.proof_text.specs.Spells.{Spells}
use Rattle.text_lines.specs.WholeLines.{IsOneLine}
use Rattle.proof_text.specs.Refuses.{MayBegin, Refuses}
use Rattle.proof_text.specs.declared.refusals.TextRefusal.TheVariants.{BadLine, Truncated}
use Rattle.proof_text.proofs.OneReason.{begins_empty}

no_feed : IsOneLine []
no_feed h = omega (arith, h.1)

-- the text of a file has a first byte
not_empty : (file : File) → Spells latch file [] → ⊥
not_empty file h = let e : 0 ≡ 115 = ap (λ (bs : List ℕ). get_or bs 0 0) h.text in omega (arith, e)

-- the empty text is cut off before line 1
pub empty_is_cut_off : Refuses latch [] (Truncated 1)
empty_is_cut_off = record {
  texts = [];
  rest = [];
  has = record { short = lit≤ tt; whole = record { cut = refl; each = All-nil IsOneLine; last = no_feed } };
  begins = begins_empty latch [];
  none = not_empty;
  line = refl;
}

-- ---- another version

abbrev other : List ℕ
other = codes "smvproof 2"

abbrev other_text : List ℕ
other_text = other ++ 10 ∷ []

first_of : List (List ℕ) → ℕ
first_of [] = 0
first_of (t ∷ ts) = get_or t 9 0

first_line : List Line → Line → Line
first_line [] l = l
first_line (x ∷ xs) l = x

-- the first line of each file has a 1 there
no_beginning : MayBegin latch (other ∷ []) → ⊥
unfolding first_of first_line
no_beginning b = go b.front b.lines b.texts_are
  where
    one : line_text (Words (codes "smvproof" ∷ codes "1" ∷ [])) ≡ codes "smvproof 1"
    one = refl

    go : (front : List Line) → file_lines latch b.file ≡ front ++ b.rest → map line_text front ≡ other ∷ [] → ⊥
    go [] e t = let n : 0 ≡ 1 = ap (λ (ts : List (List ℕ)). length ts) t in omega (arith, n)
    go (x ∷ front) e t =
        let f : 49 ≡ get_or (line_text x) 9 0 = ap (λ (ls : List Line). get_or (line_text (first_line ls x)) 9 0) e in
        let g : get_or (line_text x) 9 0 ≡ 50 = ap first_of t in
        omega (arith, f, g)

one_line : IsOneLine other
one_line (k, less, e) = go k less e
  where
    go : (k : ℕ) → k < 10 → get_or other k 10 ≡ 10 → ⊥
    go zero less e = omega (arith, e)
    go (suc zero) less e = omega (arith, e)
    go (suc (suc zero)) less e = omega (arith, e)
    go (suc (suc (suc zero))) less e = omega (arith, e)
    go (suc (suc (suc (suc zero)))) less e = omega (arith, e)
    go (suc (suc (suc (suc (suc zero))))) less e = omega (arith, e)
    go (suc (suc (suc (suc (suc (suc zero)))))) less e = omega (arith, e)
    go (suc (suc (suc (suc (suc (suc (suc zero))))))) less e = omega (arith, e)
    go (suc (suc (suc (suc (suc (suc (suc (suc zero)))))))) less e = omega (arith, e)
    go (suc (suc (suc (suc (suc (suc (suc (suc (suc zero))))))))) less e = omega (arith, e)
    go (suc (suc (suc (suc (suc (suc (suc (suc (suc (suc k)))))))))) less e = absurd (omega arith)

-- a first line of another version is refused as line 1
pub other_version_is_bad : Refuses latch other_text (BadLine 1)
other_version_is_bad = (
  other ∷ [],
  [],
  0,
  record { short = lit≤ tt; whole = record { cut = refl; each = All-from_recursion IsOneLine (other ∷ []) (one_line, tt); last = no_feed } },
  record { within = lit< tt; before = begins_empty latch other_text; after = λ h. no_beginning h.0 },
  refl,
  (no_beginning, λ h. let e : 0 ≡ 1 = h.0 in omega (arith, e)),
)
