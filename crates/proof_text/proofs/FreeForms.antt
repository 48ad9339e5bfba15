-- Entries for constraints by their heads and the bodies of their rules.
use Rattle.std.proofs.Common.{◌≡◌, inl, inr, ℕ, zero, suc, ◌≤◌, List, [], ◌∷◌, length, codes, decimal, Some, IsSomeAnd, refl, sym, ◌∙◌, ap, subst, arith}
use Rattle.std.specs.Option.{option_and_then}
use Rattle.std.specs.Prelude.{All, Err}
use Rattle.kripke_model.specs.Ctl.{formula_of}
use Rattle.kripke_model.specs.Flat.{IsFlat}
use Rattle.kripke_model.specs.Signs.{ProofRule as Kind}
use Rattle.kripke_model.specs.System.{System}
use Rattle.fair_rules.specs.Nodes.{node_at}
use Rattle.proof_form.specs.Form.{FreeEntry}
use Rattle.proof_form.specs.Shape.{HasRule, HasConstraintRule, StandsBefore, rule_for, kind_of, constraint_formula}
use Rattle.proof_text.specs.EntryHeads.{signed_words}
use Rattle.proof_text.specs.FreeHeads.{bare_free_entry, free_words, IsSmallFree, free_head_line, FitsFreeHead}
use Rattle.proof_text.specs.Lines.{Words, line_text, sign_word, free_entry_lines}
use Rattle.proof_text.specs.RuleHeads.{head_words, body_lines, bare_rule, FitsBody}
use Rattle.proof_text.specs.SetParts.{FitsFreeEntry, FindsNext}
use Rattle.proof_text.specs.declared.free_heads.FreeHead.{FreeHead}
use Rattle.text_lines.specs.Cursor.{Place}
use Rattle.text_lines.specs.Words.{AreWords}
use Rattle.text_lines.specs.declared.faults.Fault.{Fault}
use Rattle.text_lines.proofs.FirstLines.{NoneStarts}
use Rattle.text_lines.proofs.Lists.{same_first, same_rest}
use Rattle.text_lines.proofs.Spaced.{words_unique}
use Rattle.proof_text.proofs.EntryForms.{signed_plain, signed_same, node_small, same_kind, small_head, head_in, some_body}
use Rattle.proof_text.proofs.Joined.{Known, IsJoin, head_fault}
use Rattle.proof_text.proofs.KnownFits.{IsFew, few_in, found}
use Rattle.proof_text.proofs.KnownLines.{IsSmall, same_number, Lines, AreSame}
use Rattle.proof_text.proofs.KnownParts.{plain_known}
use Rattle.proof_text.proofs.PlainLines.{one, number_and}
use Rattle.proof_text.proofs.PlainWords.{IsPlainLine}
use Rattle.proof_text.proofs.RuleForms.{rule_words_are}

-- ---- the words of a head

pub free_head_plain : (h : FreeHead) → IsPlainLine (free_head_line h)
free_head_plain h = (number_and h.constraint (signed_words h.entry) (signed_plain h.entry), λ e. omega (arith, ap length e))

free_same : (a b : FreeHead) → IsSmallFree a → IsSmallFree b → free_words a ≡ free_words b → a ≡ b
free_same a b p q e =
    let constraint_text : decimal a.constraint ≡ decimal b.constraint = same_first (decimal a.constraint) (decimal b.constraint) (signed_words a.entry) (signed_words b.entry) e in
    let entry_text : signed_words a.entry ≡ signed_words b.entry = same_rest (decimal a.constraint) (decimal b.constraint) (signed_words a.entry) (signed_words b.entry) e in
    let constraint = same_number a.constraint b.constraint p.0 q.0 constraint_text in
    let entry = signed_same a.entry b.entry p.1 q.1 entry_text in
    (λ i. record { constraint = constraint i; entry = entry i })

-- two heads that a line has
one_head : (text : List ℕ) (a b : FreeHead) → IsSmallFree a → AreWords text (codes "centry" ∷ free_words a) → IsSmallFree b → AreWords text (codes "centry" ∷ free_words b) → a ≡ b
one_head text a b p x q y =
    free_same a b p q (same_rest (codes "centry") (codes "centry") (free_words a) (free_words b) (words_unique text (codes "centry" ∷ free_words a) (codes "centry" ∷ free_words b) x y))

-- ---- what an entry's head says

-- the rule's kind alone is asked
other_rule : (m : System) (a b : FreeEntry ℕ) → a.constraint ≡ b.constraint → a.entry.node ≡ b.entry.node → a.entry.plus ≡ b.entry.plus → kind_of a.entry.rule ≡ kind_of b.entry.rule → HasConstraintRule m a → HasConstraintRule m b
other_rule m a b constraint node plus kind rule =
    subst (λ (k : Kind). IsSomeAnd (constraint_formula m b.constraint) (λ f. option_and_then (rule_for b.entry.plus) (node_at f 1 b.entry.node) ≡ Some k)) kind
    (subst (λ s. IsSomeAnd (constraint_formula m b.constraint) (λ f. option_and_then (rule_for s) (node_at f 1 b.entry.node) ≡ Some (kind_of a.entry.rule))) plus
    (subst (λ n. IsSomeAnd (constraint_formula m b.constraint) (λ f. option_and_then (rule_for a.entry.plus) (node_at f 1 n) ≡ Some (kind_of a.entry.rule))) node
    (subst (λ k. IsSomeAnd (constraint_formula m k) (λ f. option_and_then (rule_for a.entry.plus) (node_at f 1 a.entry.node) ≡ Some (kind_of a.entry.rule))) constraint rule)))

abbrev pub free_head_in : FreeEntry ℕ → FreeHead
free_head_in e = record { constraint = e.constraint; entry = head_in e.entry }

words_are : (e : FreeEntry ℕ) → free_entry_lines e ≡ free_head_line (free_head_in e) ∷ body_lines e.entry.rule
words_are e = rule_words_are (codes "centry" ∷ decimal e.constraint ∷ decimal e.entry.node ∷ sign_word e.entry.plus ∷ []) e.entry.rule

module _ (m : System) (flat : IsFlat m) where
  -- the constraint is one of the model, and the node one of its formula
  numbers_small : (e : FreeEntry ℕ) → HasConstraintRule m e → IsSmall e.constraint × IsSmall e.entry.node
  numbers_small e rule = go e.constraint refl rule
    where
      go : (k : ℕ) → e.constraint ≡ k → IsSomeAnd (constraint_formula m k) (λ f. HasRule f e.entry) → IsSmall e.constraint × IsSmall e.entry.node
      go zero same h = absurd h
      go (suc k) same h =
          let r = found m.constraints (λ c. formula_of c.expr) IsFew (λ f. HasRule f e.entry) k (few_in m flat).0 h in
          (omega (arith, same, r.below, flat.limits.constraints), node_small (formula_of r.item.expr) e.entry (omega (arith, r.holds)) r.shown)

  small_free : (earlier : List (FreeEntry ℕ)) (h : FreeHead) → FitsFreeHead m earlier h → IsSmallFree h
  small_free earlier h fits = let small = numbers_small (bare_free_entry h) fits.0 in (small.0, (small.1, fits.2))

  -- ---- a line is judged

  -- no head that fits is the line, where none is
  pub no_free_head : (earlier : List (FreeEntry ℕ)) (t : List ℕ) → ((h : FreeHead) → IsSmallFree h → AreWords t (codes "centry" ∷ free_words h) → ⊥)
      → (h : FreeHead) → FitsFreeHead m earlier h → AreWords t (codes "centry" ∷ free_words h) → ⊥
  no_free_head earlier t none h fits is = none h (small_free earlier h fits) is

  -- or where the one that is doesn't fit
  pub other_free_head : (earlier : List (FreeEntry ℕ)) (t : List ℕ) (g : FreeHead) → IsSmallFree g → AreWords t (codes "centry" ∷ free_words g)
      → (HasConstraintRule m (bare_free_entry g) → All (λ a. StandsBefore a (bare_free_entry g)) earlier → ⊥) → (h : FreeHead) → FitsFreeHead m earlier h → AreWords t (codes "centry" ∷ free_words h) → ⊥
  other_free_head earlier t g small at none h fits is =
      let same : h ≡ g = one_head t h g (small_free earlier h fits) is small at in
      none (subst (λ x. HasConstraintRule m (bare_free_entry x)) same fits.0) (subst (λ x. All (λ a. StandsBefore a (bare_free_entry x)) earlier) same fits.1)

  -- ---- a head and a body

  module _ (most : ℕ) (some : 1 ≤ most) (earlier : List (FreeEntry ℕ)) where
    head_fits : (e : FreeEntry ℕ) → FitsFreeEntry m most earlier e → FitsFreeHead m earlier (free_head_in e)
    head_fits e fits = (other_rule m e (bare_free_entry (free_head_in e)) refl refl refl (sym (same_kind e.entry.rule)) fits.0, fits.1, small_head 1 most e.entry.rule fits.2)

    free_head_known : Known (FitsFreeHead m earlier) (λ h. free_head_line h ∷ [])
    free_head_known = plain_known (λ h. free_head_line h ∷ []) (λ h. one (free_head_line h) (free_head_plain h)) go
      where
        go : (a b : FreeHead) → FitsFreeHead m earlier a → FitsFreeHead m earlier b → (u v : Lines) → (codes "centry" ∷ free_words a) ∷ u ≡ (codes "centry" ∷ free_words b) ∷ v → AreSame a b u v
        go a b p q u v e =
            let text : free_words a ≡ free_words b = same_rest (codes "centry") (codes "centry") (free_words a) (free_words b) (same_first (codes "centry" ∷ free_words a) (codes "centry" ∷ free_words b) u v e) in
            (free_same a b (small_free earlier a p) (small_free earlier b q) text, same_rest (codes "centry" ∷ free_words a) (codes "centry" ∷ free_words b) u v e)

    pub free_entry_join : IsJoin (FitsFreeHead m earlier) (λ h. free_head_line h ∷ []) (λ h. FitsBody 1 most h.entry.rule) (λ _. body_lines) (FitsFreeEntry m most earlier) free_entry_lines
        (λ p. record { constraint = p.0.constraint; entry = record { node = p.0.entry.node; plus = p.0.entry.plus; rule = p.1 } }) (λ e. (free_head_in e, e.entry.rule))
    free_entry_join = record {
      form = record {
        fits = λ p fits. (
          other_rule m (bare_free_entry p.0) (record { constraint = p.0.constraint; entry = record { node = p.0.entry.node; plus = p.0.entry.plus; rule = p.1 } }) refl refl refl
              (ap (λ h. kind_of (bare_rule h)) (sym fits.1.1) ∙ same_kind p.1) fits.0.0,
          fits.0.1,
          fits.1.0,
        );
        lines = λ p fits.
            rule_words_are (codes "centry" ∷ decimal p.0.constraint ∷ decimal p.0.entry.node ∷ sign_word p.0.entry.plus ∷ []) p.1
            ∙ ap (λ h. Words (codes "centry" ∷ decimal p.0.constraint ∷ decimal p.0.entry.node ∷ sign_word p.0.entry.plus ∷ head_words h) ∷ body_lines p.1) fits.1.1;
        fits_back = λ e fits. (head_fits e fits, (fits.2, refl));
        lines_back = λ e fits. sym (words_are e);
      };
      last = λ h fits. some_body 1 most (omega arith) some h.entry.rule fits.2;
      known = free_head_known;
    }

    -- a fault of the head is one of the entry
    pub free_head_fault : {old new : Place} {fault : Fault} → FindsNext (FitsFreeHead m earlier) (λ h. free_head_line h ∷ []) old (Err fault) new → FindsNext (FitsFreeEntry m most earlier) free_entry_lines old (Err fault) new
    free_head_fault {old} {new} {fault} (inl s) = inl (record { text = s.text; shown = s.shown; none = none; is = s.is; room = s.room })
      where
        none : NoneStarts line_text (FitsFreeEntry m most earlier) free_entry_lines s.text
        none e fits l ls whole is =
            s.none (free_head_in e) (head_fits e fits) (free_head_line (free_head_in e)) [] refl
            (ap line_text (same_first (free_head_line (free_head_in e)) l (body_lines e.entry.rule) ls (sym (words_are e) ∙ whole)) ∙ is)
    free_head_fault {old} {new} {fault} (inr found) = inr (head_fault free_entry_join found)
