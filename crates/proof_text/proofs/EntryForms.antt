-- Entries by their heads and the bodies of their rules.
use Rattle.std.proofs.Common.{◌≡◌, inl, inr, ℕ, ◌≤◌, true, List, [], ◌∷◌, length, codes, decimal, Some, None, refl, sym, ◌∙◌, ap, subst, arith}
use Rattle.std.specs.Option.{option_and_then}
use Rattle.std.specs.Prelude.{All, Err}
use Rattle.std.proofs.lemmas.Bool.{cases_lt}
use Rattle.std.proofs.lemmas.List.Elements.{All-nil}
use Rattle.kripke_model.specs.Ctl.{Ctl}
use Rattle.kripke_model.specs.Signs.{node_count}
use Rattle.proof_form.specs.Form.{Rule, EX, AX, AR, EU, AU, ER, Entry}
use Rattle.proof_form.specs.Shape.{HasRule, ComesBefore, rule_for, kind_of}
use Rattle.proof_form.proofs.RuleAt.{no_node}
use Rattle.proof_text.specs.EntryHeads.{bare_entry, signed_words, IsSmallSigned, entry_head_line, FitsEntryHead}
use Rattle.proof_text.specs.Lines.{Words, line_text, sign_word, entry_lines}
use Rattle.proof_text.specs.RuleHeads.{head_words, IsSmallHead, head_of, body_lines, bare_rule, FitsBody}
use Rattle.proof_text.specs.SetParts.{FitsSet, FitsSets, FitsLayer, FitsRule, FitsEntry, FindsNext}
use Rattle.proof_text.specs.declared.entry_heads.EntryHead.{EntryHead}
use Rattle.proof_text.specs.declared.rule_heads.RuleHead.{RuleHead}
use Rattle.proof_text.specs.declared.rule_heads.RuleHead.TheVariants.{Ex, Ax, Ar, Eu, Au, Er}
use Rattle.text_lines.specs.Cursor.{Place}
use Rattle.text_lines.specs.Words.{AreWords}
use Rattle.text_lines.specs.declared.faults.Fault.{Fault}
use Rattle.text_lines.proofs.FirstLines.{NoneStarts}
use Rattle.text_lines.proofs.Lists.{same_first, same_rest}
use Rattle.text_lines.proofs.Spaced.{words_unique}
use Rattle.proof_text.proofs.Joined.{Known, IsJoin, head_fault}
use Rattle.proof_text.proofs.KnownLines.{IsSmall, same_number, Lines, AreSame, mark}
use Rattle.proof_text.proofs.KnownParts.{plain_known}
use Rattle.proof_text.proofs.KnownRules.{sign_known}
use Rattle.proof_text.proofs.PlainLines.{one, number, number_and, sign_plain}
use Rattle.proof_text.proofs.PlainWords.{IsPlainLine, are_plain, words_append}
use Rattle.proof_text.proofs.RuleForms.{rule_words_are}
use Rattle.proof_text.proofs.SetForms.{so_many, some_set, some_layer}

-- ---- the words of a head

head_plain : (h : RuleHead) → are_plain (head_words h) ≡ true
head_plain Ex = refl
head_plain Ax = refl
head_plain Ar = refl
head_plain (Eu n) = number n
head_plain (Au n) = number n
head_plain Er = refl

pub signed_plain : (h : EntryHead) → are_plain (signed_words h) ≡ true
signed_plain h = number_and h.node (sign_word h.plus ∷ head_words h.rule) (words_append (sign_word h.plus ∷ []) (head_words h.rule) (sign_plain h.plus) (head_plain h.rule))

pub entry_head_plain : (h : EntryHead) → IsPlainLine (entry_head_line h)
entry_head_plain h = (signed_plain h, λ e. omega (arith, ap length e))

head_same : (a b : RuleHead) → IsSmallHead a → IsSmallHead b → head_words a ≡ head_words b → a ≡ b
head_same Ex Ex p q e = refl
head_same Ex Ax p q e = absurd (omega (arith, ap mark e))
head_same Ex Ar p q e = absurd (omega (arith, ap mark e))
head_same Ex (Eu k) p q e = absurd (omega (arith, ap mark e))
head_same Ex (Au k) p q e = absurd (omega (arith, ap mark e))
head_same Ex Er p q e = absurd (omega (arith, ap mark e))
head_same Ax Ex p q e = absurd (omega (arith, ap mark e))
head_same Ax Ax p q e = refl
head_same Ax Ar p q e = absurd (omega (arith, ap mark e))
head_same Ax (Eu k) p q e = absurd (omega (arith, ap mark e))
head_same Ax (Au k) p q e = absurd (omega (arith, ap mark e))
head_same Ax Er p q e = absurd (omega (arith, ap mark e))
head_same Ar Ex p q e = absurd (omega (arith, ap mark e))
head_same Ar Ax p q e = absurd (omega (arith, ap mark e))
head_same Ar Ar p q e = refl
head_same Ar (Eu k) p q e = absurd (omega (arith, ap mark e))
head_same Ar (Au k) p q e = absurd (omega (arith, ap mark e))
head_same Ar Er p q e = absurd (omega (arith, ap mark e))
head_same (Eu n) Ex p q e = absurd (omega (arith, ap mark e))
head_same (Eu n) Ax p q e = absurd (omega (arith, ap mark e))
head_same (Eu n) Ar p q e = absurd (omega (arith, ap mark e))
head_same (Eu n) (Eu k) p q e = ap Eu (same_number n k p q (same_first (decimal n) (decimal k) [] [] (same_rest (codes "EU") (codes "EU") (decimal n ∷ []) (decimal k ∷ []) e)))
head_same (Eu n) (Au k) p q e = absurd (omega (arith, ap mark e))
head_same (Eu n) Er p q e = absurd (omega (arith, ap mark e))
head_same (Au n) Ex p q e = absurd (omega (arith, ap mark e))
head_same (Au n) Ax p q e = absurd (omega (arith, ap mark e))
head_same (Au n) Ar p q e = absurd (omega (arith, ap mark e))
head_same (Au n) (Eu k) p q e = absurd (omega (arith, ap mark e))
head_same (Au n) (Au k) p q e = ap Au (same_number n k p q (same_first (decimal n) (decimal k) [] [] (same_rest (codes "AU") (codes "AU") (decimal n ∷ []) (decimal k ∷ []) e)))
head_same (Au n) Er p q e = absurd (omega (arith, ap mark e))
head_same Er Ex p q e = absurd (omega (arith, ap mark e))
head_same Er Ax p q e = absurd (omega (arith, ap mark e))
head_same Er Ar p q e = absurd (omega (arith, ap mark e))
head_same Er (Eu k) p q e = absurd (omega (arith, ap mark e))
head_same Er (Au k) p q e = absurd (omega (arith, ap mark e))
head_same Er Er p q e = refl

pub signed_same : (a b : EntryHead) → IsSmallSigned a → IsSmallSigned b → signed_words a ≡ signed_words b → a ≡ b
signed_same a b p q e =
    let node_text : decimal a.node ≡ decimal b.node = cc in
    let sign_text : sign_word a.plus ≡ sign_word b.plus = cc in
    let rule_text : head_words a.rule ≡ head_words b.rule = cc in
    let node = same_number a.node b.node p.0 q.0 node_text in
    let plus = sign_known a.plus b.plus sign_text in
    let rule = head_same a.rule b.rule p.1 q.1 rule_text in
    (λ i. record { node = node i; plus = plus i; rule = rule i })

-- two heads that a line has
pub one_head : (text : List ℕ) (a b : EntryHead) → IsSmallSigned a → AreWords text (codes "entry" ∷ signed_words a) → IsSmallSigned b → AreWords text (codes "entry" ∷ signed_words b) → a ≡ b
one_head text a b p x q y =
    signed_same a b p q (same_rest (codes "entry") (codes "entry") (signed_words a) (signed_words b) (words_unique text (codes "entry" ∷ signed_words a) (codes "entry" ∷ signed_words b) x y))

-- ---- what an entry's head says

-- the node is one of the formula
pub node_small : (f : Ctl) (e : Entry ℕ) → IsSmall (node_count f) → HasRule f e → IsSmall e.node
node_small f e few rule = elim (cases_lt (node_count f) e.node) [
  | inl above ↦ absurd (none (sym (ap (option_and_then (rule_for e.plus)) (no_node f e.node (inr above))) ∙ rule))
  | inr within ↦ omega (arith, few, within)
]
  where
    none : None ≡ Some (kind_of e.rule) → ⊥
    none h = cc

pub small_signed : (f : Ctl) (earlier : List (Entry ℕ)) (h : EntryHead) → IsSmall (node_count f) → FitsEntryHead f earlier h → IsSmallSigned h
small_signed f earlier h few fits = (node_small f (bare_entry h) few fits.0, fits.2)

pub same_kind : (r : Rule ℕ) → kind_of (bare_rule (head_of r)) ≡ kind_of r
same_kind (EX set) = refl
same_kind (AX set) = refl
same_kind (AR set) = refl
same_kind (EU sets) = refl
same_kind (AU layers) = refl
same_kind (ER fair untils) = refl

pub small_head : (count most : ℕ) (r : Rule ℕ) → FitsRule count most r → IsSmallHead (head_of r)
small_head count most (EX set) fits = tt
small_head count most (AX set) fits = tt
small_head count most (AR set) fits = tt
small_head count most (EU sets) fits = fits.1
small_head count most (AU layers) fits = fits.1
small_head count most (ER fair untils) fits = tt

abbrev pub head_in : Entry ℕ → EntryHead
head_in e = record { node = e.node; plus = e.plus; rule = head_of e.rule }

head_fits : (f : Ctl) (count most : ℕ) (earlier : List (Entry ℕ)) (e : Entry ℕ) → FitsEntry f count most earlier e → FitsEntryHead f earlier (head_in e)
head_fits f count most earlier e fits = (fits.0 ∙ ap (λ k. Some k) (sym (same_kind e.rule)), fits.1, small_head count most e.rule fits.2)

entry_words : (e : Entry ℕ) → entry_lines e ≡ entry_head_line (head_in e) ∷ body_lines e.rule
entry_words e = rule_words_are (codes "entry" ∷ decimal e.node ∷ sign_word e.plus ∷ []) e.rule

module _ (count most : ℕ) (only : 1 ≤ count) (some : 1 ≤ most) where
  -- a body for each head
  pub some_body : (h : RuleHead) → IsSmallHead h → (r : Rule ℕ) × FitsBody count most h r
  some_body Ex small = let s = some_set most some in (EX s.0, (s.1, refl))
  some_body Ax small = let s = some_set most some in (AX s.0, (s.1, refl))
  some_body Ar small = let s = some_set most some in (AR s.0, (s.1, refl))
  some_body (Eu n) small = let s = some_set most some in let ss = so_many (FitsSet most) s.0 s.1 n in (EU ss.0, ((ss.1.0, omega (arith, small, ss.1.1)), ap Eu ss.1.1))
  some_body (Au n) small = let l = some_layer count most only some in let ls = so_many (FitsLayer count most) l.0 l.1 n in (AU ls.0, ((ls.1.0, omega (arith, small, ls.1.1)), ap Au ls.1.1))
  some_body Er small =
      let s = some_set most some in
      let lists = so_many (FitsSets most) [] (All-nil (FitsSet most), omega arith) count in
      (ER (record { inside = s.0; reach = lists.0 }) [], (((s.1, lists.1.1, lists.1.0), (All-nil (FitsSet most), omega arith)), refl))

  module _ (f : Ctl) (few : IsSmall (node_count f)) (earlier : List (Entry ℕ)) where
    entry_head_known : Known (FitsEntryHead f earlier) (λ h. entry_head_line h ∷ [])
    entry_head_known = plain_known (λ h. entry_head_line h ∷ []) (λ h. one (entry_head_line h) (entry_head_plain h)) go
      where
        go : (a b : EntryHead) → FitsEntryHead f earlier a → FitsEntryHead f earlier b → (u v : Lines) → (codes "entry" ∷ signed_words a) ∷ u ≡ (codes "entry" ∷ signed_words b) ∷ v → AreSame a b u v
        go a b p q u v e =
            let text : signed_words a ≡ signed_words b = same_rest (codes "entry") (codes "entry") (signed_words a) (signed_words b) (same_first (codes "entry" ∷ signed_words a) (codes "entry" ∷ signed_words b) u v e) in
            (signed_same a b (small_signed f earlier a few p) (small_signed f earlier b few q) text, same_rest (codes "entry" ∷ signed_words a) (codes "entry" ∷ signed_words b) u v e)

    pub entry_join : IsJoin (FitsEntryHead f earlier) (λ h. entry_head_line h ∷ []) (λ h. FitsBody count most h.rule) (λ _. body_lines) (FitsEntry f count most earlier) entry_lines
        (λ p. record { node = p.0.node; plus = p.0.plus; rule = p.1 }) (λ e. (head_in e, e.rule))
    entry_join = record {
      form = record {
        fits = λ p fits. (fits.0.0 ∙ ap (λ h. Some (kind_of (bare_rule h))) (sym fits.1.1) ∙ ap (λ k. Some k) (same_kind p.1), fits.0.1, fits.1.0);
        lines = λ p fits.
            rule_words_are (codes "entry" ∷ decimal p.0.node ∷ sign_word p.0.plus ∷ []) p.1
            ∙ ap (λ h. Words (codes "entry" ∷ decimal p.0.node ∷ sign_word p.0.plus ∷ head_words h) ∷ body_lines p.1) fits.1.1;
        fits_back = λ e fits. (head_fits f count most earlier e fits, (fits.2, refl));
        lines_back = λ e fits. sym (entry_words e);
      };
      last = λ h fits. some_body h.rule fits.2;
      known = entry_head_known;
    }

-- a fault of the head is one of the entry
pub entry_fault : (f : Ctl) (earlier : List (Entry ℕ)) {old new : Place} {fault : Fault} (count most : ℕ) → 1 ≤ count → 1 ≤ most → IsSmall (node_count f)
    → FindsNext (FitsEntryHead f earlier) (λ h. entry_head_line h ∷ []) old (Err fault) new → FindsNext (FitsEntry f count most earlier) entry_lines old (Err fault) new
entry_fault f earlier {old} {new} {fault} count most only some few (inl s) = inl (record { text = s.text; shown = s.shown; none = none; is = s.is; room = s.room })
  where
    none : NoneStarts line_text (FitsEntry f count most earlier) entry_lines s.text
    none e fits l ls whole is =
        s.none (head_in e) (head_fits f count most earlier e fits) (entry_head_line (head_in e)) [] refl
        (ap line_text (same_first (entry_head_line (head_in e)) l (body_lines e.rule) ls (sym (entry_words e) ∙ whole)) ∙ is)
entry_fault f earlier {old} {new} {fault} count most only some few (inr found) = inr (head_fault (entry_join count most only some f few earlier) found)

-- ---- a line is judged

-- no head that fits is the line, where none is
pub no_head : (f : Ctl) (earlier : List (Entry ℕ)) (t : List ℕ) → IsSmall (node_count f) → ((h : EntryHead) → IsSmallSigned h → AreWords t (codes "entry" ∷ signed_words h) → ⊥)
    → (h : EntryHead) → FitsEntryHead f earlier h → AreWords t (codes "entry" ∷ signed_words h) → ⊥
no_head f earlier t few none h fits is = none h (small_signed f earlier h few fits) is

-- or where the one that is doesn't fit
pub other_head : (f : Ctl) (earlier : List (Entry ℕ)) (t : List ℕ) (g : EntryHead) → IsSmall (node_count f) → IsSmallSigned g → AreWords t (codes "entry" ∷ signed_words g)
    → (HasRule f (bare_entry g) → All (λ a. ComesBefore a (bare_entry g)) earlier → ⊥) → (h : EntryHead) → FitsEntryHead f earlier h → AreWords t (codes "entry" ∷ signed_words h) → ⊥
other_head f earlier t g few small at none h fits is =
    let same : h ≡ g = one_head t h g (small_signed f earlier h few fits) is small at in
    none (subst (λ x. HasRule f (bare_entry x)) same fits.0) (subst (λ x. All (λ a. ComesBefore a (bare_entry x)) earlier) same fits.1)
