-- What is found of nodes.
use Rattle.std.proofs.Common.{◌≡◌, ℕ, ◌≤◌, List, [], ◌∷◌, decimal, codes, refl, sym, ◌∙◌, ap, subst, arith}
use Rattle.std.specs.Prelude.{Some, None, Ok, Err}
use Rattle.std.proofs.lemmas.List.Elements.{All-nil, All-cons, All-head, All-tail}
use Rattle.bdd_nodes.specs.declared.triple.Triple.{Triple}
use Rattle.proof_text.specs.FileParts.{FitsNode, one_node}
use Rattle.proof_text.specs.Lines.{Node, line_text}
use Rattle.proof_text.specs.NodesRead.{IsJudged}
use Rattle.proof_text.specs.Spells.{IsGoodLine, greatest_number}
use Rattle.proof_text.proofs.KnownLines.{IsSmall, same_number}
use Rattle.proof_text.proofs.WordsOf.{node_words, text_is}
use Rattle.text_lines.specs.Cursor.{Place, Takes}
use Rattle.text_lines.specs.Formats.{AreKnown}
use Rattle.text_lines.specs.Found.{IsFound}
use Rattle.text_lines.specs.Words.{AreWords, words_in}
use Rattle.text_lines.specs.declared.faults.Fault.{Fault}
use Rattle.text_lines.specs.declared.faults.Fault.TheVariants.{Stops, Breaks, End, Memory}
use Rattle.text_lines.proofs.FoundLine.{line_is, line_stops, line_breaks, line_ends, no_memory, taken_room}
use Rattle.text_lines.proofs.Lists.{same_rest}
use Rattle.text_lines.proofs.OneLine.{line_known}
use Rattle.text_lines.proofs.Spaced.{words_are}

pub node_fits : (level low high : ℕ) → level ≤ greatest_number → low ≤ greatest_number → high ≤ greatest_number → FitsNode [] (record { level = level; low = low; high = high })
node_fits level low high p q r =
    All-cons IsSmall level (low ∷ high ∷ []) p (All-cons IsSmall low (high ∷ []) q (All-cons IsSmall high [] r (All-nil IsSmall)))

pub some_node : (earlier : List Triple) → (t : Triple) × FitsNode earlier t
some_node earlier = (record { level = 0; low = 0; high = 0 }, node_fits 0 0 0 (omega arith) (omega arith) (omega arith))

pub level_small : (earlier : List Triple) (t : Triple) → FitsNode earlier t → IsSmall t.level
level_small earlier t fits = All-head IsSmall t.level (t.low ∷ t.high ∷ []) fits

pub low_small : (earlier : List Triple) (t : Triple) → FitsNode earlier t → IsSmall t.low
low_small earlier t fits = All-head IsSmall t.low (t.high ∷ []) (All-tail IsSmall t.level (t.low ∷ t.high ∷ []) fits)

pub high_small : (earlier : List Triple) (t : Triple) → FitsNode earlier t → IsSmall t.high
high_small earlier t fits = All-head IsSmall t.high [] (All-tail IsSmall t.low (t.high ∷ []) (All-tail IsSmall t.level (t.low ∷ t.high ∷ []) fits))

-- a node is known by its line
pub same_node : (earlier : List Triple) (a b : Triple) → FitsNode earlier a → FitsNode earlier b → line_text (Node earlier a) ≡ line_text (Node earlier b) → a ≡ b
same_node earlier a b p q e =
    let text : List ℕ = line_text (Node [] b) in
    let are = words_are text in
    let ws : codes "n" ∷ decimal a.level ∷ decimal a.low ∷ decimal a.high ∷ [] ≡ codes "n" ∷ decimal b.level ∷ decimal b.low ∷ decimal b.high ∷ [] =
    sym (node_words a text (words_in text) are e) ∙ node_words b text (words_in text) are refl in
    let level_text : decimal a.level ≡ decimal b.level = cc in
    let low_text : decimal a.low ≡ decimal b.low = cc in
    let high_text : decimal a.high ≡ decimal b.high = cc in
    let level = same_number a.level b.level (level_small earlier a p) (level_small earlier b q) level_text in
    let low = same_number a.low b.low (low_small earlier a p) (low_small earlier b q) low_text in
    let high = same_number a.high b.high (high_small earlier a p) (high_small earlier b q) high_text in
    (λ i. record { level = level i; low = low i; high = high i })

pub node_known : (levels : ℕ) (earlier : List Triple) → AreKnown line_text (IsGoodLine levels) (FitsNode earlier) (one_node earlier)
node_known levels earlier = line_known line_text (IsGoodLine levels) (FitsNode earlier) (Node earlier) (same_node earlier)

-- ---- the line of a node, which is judged

module _ (levels : ℕ) (earlier : List Triple) {old new : Place} where
  pub node_ends : Takes old None new → IsFound line_text (IsGoodLine levels) (FitsNode earlier) (one_node earlier) old (Err End) new
  node_ends last = line_ends {Good = IsGoodLine levels} {line = Node earlier} last (some_node earlier)

  pub no_node : {t : List ℕ} (l : ℕ) → Takes old (Some t) new → l ≡ old.line → ((y : Triple) → FitsNode [] y → line_text (Node [] y) ≡ t → ⊥)
      → IsFound line_text (IsGoodLine levels) (FitsNode earlier) (one_node earlier) old (Err (Stops l)) new
  no_node l taken at none = line_stops {Good = IsGoodLine levels} {line = Node earlier} taken (some_node earlier) none at

  module _ {t : List ℕ} (taken : Takes old (Some t) new) (l : ℕ) (at : l ≡ old.line) (node : Triple) (fits : FitsNode [] node) (is : line_text (Node [] node) ≡ t) (after : List Triple) where
    pub node_kept : IsJudged levels earlier node l (Ok tt) after → IsFound line_text (IsGoodLine levels) (FitsNode earlier) (one_node earlier) old (Ok node) new
    node_kept judged = line_is {line = Node earlier} taken fits judged.0 is

    pub node_refused : (fault : Fault) → IsJudged levels earlier node l (Err fault) after → IsFound line_text (IsGoodLine levels) (FitsNode earlier) (one_node earlier) old (Err fault) new
    node_refused (Stops k) judged = absurd judged
    node_refused (Breaks k) judged =
        line_breaks {Good = IsGoodLine levels} {line = Node earlier} taken node fits is
        (λ z fit good text. judged.1 (let same = same_node earlier z node fit fits (text ∙ sym is) in good_so z same good)) (judged.0 ∙ at)
      where
        good_so : (z : Triple) → z ≡ node → IsGoodLine levels (Node earlier z) → IsGoodLine levels (Node earlier node)
        good_so z same good = subst (λ x. IsGoodLine levels (Node earlier x)) same good
    node_refused End judged = absurd judged
    node_refused Memory judged = no_memory (taken_room taken)

-- ---- the words of a node's line

module _ (text : List ℕ) (ws : List (List ℕ)) (are : AreWords text ws) where
  abbrev NoNode : Type 0
  NoNode = (t : Triple) → FitsNode [] t → line_text (Node [] t) ≡ text → ⊥

  pub other_word : ((others : List (List ℕ)) → ws ≡ codes "n" ∷ others → ⊥) → NoNode
  other_word none t fits e = none (decimal t.level ∷ decimal t.low ∷ decimal t.high ∷ []) (node_words t text ws are e)

  module _ (a : List (List ℕ)) (first : ws ≡ codes "n" ∷ a) where
    pub no_level : ((n : ℕ) (others : List (List ℕ)) → n ≤ 4294967295 → a ≡ decimal n ∷ others → ⊥) → NoNode
    no_level none t fits e =
        none t.level (decimal t.low ∷ decimal t.high ∷ []) (level_small [] t fits) (same_rest (codes "n") (codes "n") a (decimal t.level ∷ decimal t.low ∷ decimal t.high ∷ []) (sym first ∙ node_words t text ws are e))

    module _ (level : ℕ) (b : List (List ℕ)) (second : a ≡ decimal level ∷ b) where
      behind_level : (t : Triple) → line_text (Node [] t) ≡ text → b ≡ decimal t.low ∷ decimal t.high ∷ []
      behind_level t e =
          same_rest (decimal level) (decimal t.level) b (decimal t.low ∷ decimal t.high ∷ [])
          (sym second ∙ same_rest (codes "n") (codes "n") a (decimal t.level ∷ decimal t.low ∷ decimal t.high ∷ []) (sym first ∙ node_words t text ws are e))

      pub no_low : ((n : ℕ) (others : List (List ℕ)) → n ≤ 4294967295 → b ≡ decimal n ∷ others → ⊥) → NoNode
      no_low none t fits e = none t.low (decimal t.high ∷ []) (low_small [] t fits) (behind_level t e)

      module _ (low : ℕ) (c : List (List ℕ)) (third : b ≡ decimal low ∷ c) where
        behind_low : (t : Triple) → line_text (Node [] t) ≡ text → c ≡ decimal t.high ∷ []
        behind_low t e = same_rest (decimal low) (decimal t.low) c (decimal t.high ∷ []) (sym third ∙ behind_level t e)

        pub no_high : ((n : ℕ) (others : List (List ℕ)) → n ≤ 4294967295 → c ≡ decimal n ∷ others → ⊥) → NoNode
        no_high none t fits e = none t.high [] (high_small [] t fits) (behind_low t e)

        module _ (high : ℕ) (d : List (List ℕ)) (fourth : c ≡ decimal high ∷ d) where
          pub too_long : (d ≡ [] → ⊥) → NoNode
          too_long some t fits e = some (same_rest (decimal high) (decimal t.high) d [] (sym fourth ∙ behind_low t e))

          pub node_read : d ≡ [] → level ≤ greatest_number → low ≤ greatest_number → high ≤ greatest_number
              → FitsNode [] (record { level = level; low = low; high = high }) × (line_text (Node [] (record { level = level; low = low; high = high })) ≡ text)
          node_read none p q r = (
            node_fits level low high p q r,
            text_is (Node [] (record { level = level; low = low; high = high })) text ws are
                (first ∙ ap (λ l. codes "n" ∷ l) (second ∙ ap (λ l. decimal level ∷ l) (third ∙ ap (λ l. decimal low ∷ l) (fourth ∙ ap (λ l. decimal high ∷ l) none)))),
          )
