-- The words of a text that is a line.
use Rattle.std.proofs.Common.{◌≡◌, ℕ, zero, suc, true, false, leb, List, [], ◌∷◌, map, codes, decimal, refl, sym, ◌∙◌, ap, arith, length}
use Rattle.std.specs.Prelude.{All, Contains, Option, Some, None, Result, Ok, Err, IfOk, MatchOption}
use Rattle.std.specs.Global.{Vec}
use Rattle.std.specs.List.{join_with_byte}
use Rattle.std.proofs.lemmas.Bool.{and_from, leb-true}
use Rattle.std.proofs.lemmas.List.Elements.{All-nil, All-cons}
use Rattle.bdd_nodes.specs.declared.triple.Triple.{Triple}
use Rattle.kripke_model.specs.Flat.{IsFlat}
use Rattle.kripke_model.specs.System.{System, State, variable_name}
use Rattle.kripke_model.specs.Step.{IsState}
use Rattle.proof_text.specs.File.{File}
use Rattle.proof_text.specs.FileParts.{FitsOrder, order_line}
use Rattle.proof_text.specs.Lines.{Line, Words, Node, line_text, words_of, value_words}
use Rattle.proof_text.proofs.PlainLines.{file_plain}
use Rattle.proof_text.proofs.PlainNames.{plain_names}
use Rattle.proof_text.proofs.PlainWords.{is_plain, are_plain, parts_of_and, plain_decimal, IsPlainLine}
use Rattle.text_lines.specs.Words.{IsOneWord, AreWords, words_in}
use Rattle.text_lines.proofs.Lists.{same_rest}
use Rattle.text_lines.proofs.Spaced.{are_words_in, words_of_joined}

no_space : (word : List ℕ) → is_plain word ≡ true → Contains word 32 → ⊥
no_space [] p h = omega (arith, h.1)
no_space (b ∷ word) p (zero, less, e) = let q = leb-true 33 b (parts_of_and (leb 33 b) (is_plain word) p).0 in omega (arith, q, e)
no_space (b ∷ word) p (suc k, less, e) = no_space word (parts_of_and (leb 33 b) (is_plain word) p).1 (k, omega (arith, less), e)

pub each_word : (words : List (List ℕ)) → are_plain words ≡ true → All IsOneWord words
each_word [] p = All-nil IsOneWord
each_word (word ∷ words) p =
    let h = parts_of_and (is_plain word) (are_plain words) p in
    All-cons IsOneWord word words (no_space word h.0) (each_word words h.1)

pub words_are : (l : Line) → IsPlainLine l → (text : List ℕ) (ws : List (List ℕ)) → AreWords text ws → line_text l ≡ text → ws ≡ words_of l
words_are l plain text ws are e = sym (are_words_in text ws are) ∙ ap (λ (t : List ℕ). words_in t) (sym e) ∙ words_of_joined (words_of l) (each_word (words_of l) plain.0) plain.1

-- and the other way round
pub text_is : (l : Line) (text : List ℕ) (ws : List (List ℕ)) → AreWords text ws → ws ≡ words_of l → line_text l ≡ text
text_is l text ws are e = sym (are.joined ∙ ap (join_with_byte 32) e)

pub node_words : (t : Triple) (text : List ℕ) (ws : List (List ℕ)) → AreWords text ws → line_text (Node [] t) ≡ text → ws ≡ codes "n" ∷ decimal t.level ∷ decimal t.low ∷ decimal t.high ∷ []
node_words t text ws are e =
    let high = and_from (is_plain (decimal t.high)) true (plain_decimal t.high) refl in
    let low = and_from (is_plain (decimal t.low)) (are_plain (decimal t.high ∷ [])) (plain_decimal t.low) high in
    let level = and_from (is_plain (decimal t.level)) (are_plain (decimal t.low ∷ decimal t.high ∷ [])) (plain_decimal t.level) low in
    words_are (Node [] t) (level, λ h. omega (arith, ap length h)) text ws are e

module _ (m : System) (flat : IsFlat m) where
  pub order_words : (order : List ℕ) (text : List ℕ) (ws : List (List ℕ)) → AreWords text ws → line_text (order_line m order) ≡ text → ws ≡ codes "order" ∷ map (variable_name m) order
  order_words order text ws are e = words_are (order_line m order) (file_plain m (plain_names m flat) (record { order = order; blocks = [] }) 1 (Words []) (omega arith)) text ws are e

  -- a file whose seventh line is that of the state
  abbrev ended : State → File
  ended s = record {
    order = [];
    blocks = record {
      spec = 0;
      nodes = [];
      proof = record { claim = false; free = None; nonfair = []; fair = record { inside = 0; reach = [] }; entries = []; at = Some s };
      first = 0;
    } ∷ [];
  }

  pub state_words : (s : State) (text : List ℕ) (ws : List (List ℕ)) → AreWords text ws → line_text (Words (codes "at" ∷ value_words m 0 s)) ≡ text → ws ≡ codes "at" ∷ value_words m 0 s
  state_words s text ws are e = words_are (Words (codes "at" ∷ value_words m 0 s)) (file_plain m (plain_names m flat) (ended s) 6 (Words []) (omega arith)) text ws are e

  -- what is found of the words behind the first one is found of the line
  pub order_text : (text : List ℕ) (ws left : List (List ℕ)) → AreWords text ws → ws ≡ codes "order" ∷ left → {E : Type 0} (r : Result (Option (Vec ℕ)) E)
      → IfOk r (λ found. MatchOption found ((order : List ℕ) → FitsOrder m order → left ≡ map (variable_name m) order → ⊥) (λ order. FitsOrder m order.items × (left ≡ map (variable_name m) order.items)))
      → IfOk r (λ found. MatchOption found ((order : List ℕ) → FitsOrder m order → line_text (order_line m order) ≡ text → ⊥) (λ order. FitsOrder m order.items × (line_text (order_line m order.items) ≡ text)))
  order_text text ws left are first (Ok None) h = λ order fits e. h order fits (same_rest (codes "order") (codes "order") left (map (variable_name m) order) (sym first ∙ order_words order text ws are e))
  order_text text ws left are first (Ok (Some order)) h = (h.0, text_is (order_line m order.items) text ws are (first ∙ ap (λ l. codes "order" ∷ l) h.1))
  order_text text ws left are first (Err e) h = tt

  pub state_text : (text : List ℕ) (ws left : List (List ℕ)) → AreWords text ws → ws ≡ codes "at" ∷ left → {E : Type 0} (r : Result (Option State) E)
      → IfOk r (λ found. MatchOption found ((s : State) → IsState m s → left ≡ value_words m 0 s → ⊥) (λ s. IsState m s × (left ≡ value_words m 0 s)))
      → IfOk r (λ found. MatchOption found ((s : State) → IsState m s → line_text (Words (codes "at" ∷ value_words m 0 s)) ≡ text → ⊥) (λ s. IsState m s × (line_text (Words (codes "at" ∷ value_words m 0 s)) ≡ text)))
  state_text text ws left are first (Ok None) h = λ s is e. h s is (same_rest (codes "at") (codes "at") left (value_words m 0 s) (sym first ∙ state_words s text ws are e))
  state_text text ws left are first (Ok (Some s)) h = (h.0, text_is (Words (codes "at" ∷ value_words m 0 s)) text ws are (first ∙ ap (λ l. codes "at" ∷ l) h.1))
  state_text text ws left are first (Err e) h = tt
