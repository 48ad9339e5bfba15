-- Where tokens stand, from where their pieces do.
use Rattle.std.proofs.Common.{◌≡◌, ℕ, ◌+◌, ◌-◌, ◌<◌, ◌≤◌, ◌==◌, cond, List, [], ◌∷◌, ◌++◌, length, take, drop, Option, Some, None, sym, ◌∙◌, ap, subst, arith, append_assoc, length-append}
use Rattle.std.specs.List.{All}
use Rattle.std.proofs.Math.Seq.{take-append_seam, drop-append_seam}
use Rattle.std.proofs.lemmas.List.Elements.{All-append, All-cons, All-nil}
use Rattle.std.proofs.lemmas.List.Sums.{sum_by-append}
use Rattle.smv_lexer.specs.Text.{Kind, Placed, Piece, Spells, Cuts, Lexes, line_feeds, placed, tokens_of}
use Rattle.smv_lexer.specs.Text.Kind.{word, number, key, mark}
use Rattle.smv_lexer.specs.Places.{IsPlacedIn, AreInOrder, IsAtomIfWord}
use Rattle.kripke_model.specs.Names.{IsAtom}
use Rattle.smv_lexer.proofs.Pieces.{not_empty}

line_feeds-append : (xs ys : List ℕ) → line_feeds (xs ++ ys) ≡ line_feeds xs + line_feeds ys
line_feeds-append xs ys = sum_by-append (λ b. cond (b == 10) 1 0) xs ys

some_bytes : (text : List ℕ) (kind : Option Kind) → Spells text kind → 0 < length text
some_bytes [] kind s = absurd (not_empty kind s)
some_bytes (b ∷ text) kind s = omega arith

-- after these bytes comes the piece
piece_placed : (front text after : List ℕ) (kind : Option Kind) → Spells text kind
    → All (IsPlacedIn (front ++ (text ++ after))) (placed (length front) (length front + length text) (1 + line_feeds front) kind)
piece_placed front text after None s = All-nil (IsPlacedIn (front ++ (text ++ after)))
piece_placed front text after (Some kind) s =
    All-cons (IsPlacedIn (front ++ (text ++ after))) (record { kind = kind; at = length front; end = length front + length text; line = 1 + line_feeds front }) [] (record {
      some = omega (arith, some_bytes text (Some kind) s);
      within = omega (arith, length-append front (text ++ after), length-append text after);
      spelled =
          let size : (length front + length text) - length front ≡ length text = omega arith in
          let taken : take ((length front + length text) - length front) (drop (length front) (front ++ (text ++ after))) ≡ text
          = ap (λ (n : ℕ). take n (drop (length front) (front ++ (text ++ after)))) size
          ∙ ap (λ (xs : List ℕ). take (length text) xs) (drop-append_seam front (text ++ after)) ∙ take-append_seam text after in
          subst (λ (xs : List ℕ). Spells xs (Some kind)) (sym taken) s;
      line = ap (λ (xs : List ℕ). 1 + line_feeds xs) (sym (take-append_seam front (text ++ after)));
    }) (All-nil (IsPlacedIn (front ++ (text ++ after))))

pieces_placed : (front rest end : List ℕ) (ps : List Piece) → Cuts rest ps end → All (IsPlacedIn (front ++ rest)) (tokens_of (length front) (1 + line_feeds front) ps)
pieces_placed front rest end [] c = All-nil (IsPlacedIn (front ++ rest))
pieces_placed front rest end (p ∷ ps) (after, e, s, l, c) =
    let whole : (front ++ p.text) ++ after ≡ front ++ rest = append_assoc front p.text after ∙ ap (λ (xs : List ℕ). front ++ xs) (sym e) in
    let here = subst (λ (xs : List ℕ). All (IsPlacedIn (front ++ xs)) (placed (length front) (length front + length p.text) (1 + line_feeds front) p.kind)) (sym e)
    (piece_placed front p.text after p.kind s) in
    let lines : 1 + line_feeds (front ++ p.text) ≡ 1 + line_feeds front + line_feeds p.text = omega (arith, line_feeds-append front p.text) in
    let later = subst (λ (xs : List ℕ). All (IsPlacedIn xs) (tokens_of (length front + length p.text) (1 + line_feeds front + line_feeds p.text) ps)) whole
    (subst (λ (n : ℕ). All (IsPlacedIn ((front ++ p.text) ++ after)) (tokens_of n (1 + line_feeds front + line_feeds p.text) ps)) (length-append front p.text)
    (subst (λ (n : ℕ). All (IsPlacedIn ((front ++ p.text) ++ after)) (tokens_of (length (front ++ p.text)) n ps)) lines (pieces_placed (front ++ p.text) after end ps c))) in
    All-append (IsPlacedIn (front ++ rest)) (placed (length front) (length front + length p.text) (1 + line_feeds front) p.kind) _ here later

pub all_placed : (bytes : List ℕ) (ts : List Placed) → Lexes bytes ts → All (IsPlacedIn bytes) ts
all_placed bytes ts (ps, c, a, e) = subst (All (IsPlacedIn bytes)) (sym e) (pieces_placed [] bytes [] ps c)

in_order_after : (from at end line : ℕ) (kind : Option Kind) (ts : List Placed) → from ≤ at → at ≤ end → ((n : ℕ) → n ≤ end → AreInOrder n ts)
    → AreInOrder from (placed at end line kind ++ ts)
in_order_after from at end line None ts h le later = later from (omega arith)
in_order_after from at end line (Some kind) ts h le later = (h, later end (omega arith))

pieces_in_order : (from at line : ℕ) (ps : List Piece) → from ≤ at → AreInOrder from (tokens_of at line ps)
pieces_in_order from at line [] h = tt
pieces_in_order from at line (p ∷ ps) h =
    in_order_after from at (at + length p.text) line p.kind _ h (omega arith) (λ n le. pieces_in_order n (at + length p.text) (line + line_feeds p.text) ps le)

pub in_order : (bytes : List ℕ) (ts : List Placed) → Lexes bytes ts → AreInOrder 0 ts
in_order bytes ts (ps, c, a, e) = subst (AreInOrder 0) (sym e) (pieces_in_order 0 0 1 ps (omega arith))

atom_if_word : (text : List ℕ) (kind : Kind) → Spells text (Some kind) → IsAtomIfWord kind
atom_if_word text (word w) s = subst IsAtom s.0 s.1
atom_if_word text (number n) s = tt
atom_if_word text (key k) s = tt
atom_if_word text (mark m) s = tt

pub words_are_atoms : (bytes : List ℕ) (ts : List Placed) → Lexes bytes ts → All (λ t. IsAtomIfWord t.kind) ts
words_are_atoms bytes ts l k d h = let p = all_placed bytes ts l k d h in atom_if_word _ _ p.spelled
