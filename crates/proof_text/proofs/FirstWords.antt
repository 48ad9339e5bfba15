-- How entries, main parts and ends of blocks begin. Entries are known by the texts of their lines.
use Rattle.std.proofs.Common.{◌≡◌, inl, inr, ℕ, Bool, List, [], ◌∷◌, ◌++◌, length, map, get_or, Option, Some, None, codes, decimal, refl, sym, ◌∙◌, ap, arith, append-nil}
use Rattle.std.specs.Prelude.{All}
use Rattle.std.specs.List.{join_with_byte}
use Rattle.std.specs.Option.{option_and_then}
use Rattle.std.proofs.lemmas.Bool.{cases_lt}
use Rattle.std.proofs.lemmas.List.Elements.{All-nil, All-cons, All-append}
use Rattle.kripke_model.specs.Ctl.{Ctl}
use Rattle.kripke_model.specs.Flat.{IsFlat}
use Rattle.kripke_model.specs.Signs.{node_count}
use Rattle.kripke_model.specs.System.{System, State}
use Rattle.proof_form.specs.Form.{Rule, EX, AX, AR, EU, AU, ER, Entry, FreeEntry, Proof, fair_sets}
use Rattle.proof_text.specs.FileParts.{FitsEnd}
use Rattle.proof_text.specs.Lines.{Line, Words, line_text, counted, set_line, layer_line, fair_lines, rule_lines, sign_word, entry_lines, free_entry_lines, end_lines}
use Rattle.proof_text.specs.ProofParts.{main_lines}
use Rattle.proof_text.specs.SetParts.{FitsRule, FitsEntry, FitsFreeEntry}
use Rattle.proof_text.specs.Spells.{fair_lengths}
use Rattle.text_lines.proofs.FirstLines.{NoneStarts}
use Rattle.text_lines.proofs.Lists.{same_first}
use Rattle.proof_text.proofs.Joined.{Known}
use Rattle.proof_form.proofs.RuleAt.{no_node}
use Rattle.proof_form.specs.Shape.{HasRule, kind_of, rule_for}
use Rattle.proof_text.proofs.KnownFits.{free_entry_fits}
use Rattle.proof_text.proofs.KnownLines.{IsSmall}
use Rattle.proof_text.proofs.KnownParts.{plain_known, small_sets, small_lengths, small_layers, small_fair, avoided_layers}
use Rattle.proof_text.proofs.KnownRules as known
use Rattle.proof_text.proofs.KnownRules.{entry_known, free_entry_known}
use Rattle.proof_text.proofs.PlainLines.{entry_plain, free_entry_plain}

-- ---- first words

-- the lines begin with one that has this word first
pub record Starts (word : List ℕ) (ls : List Line) : Type 0 where
  pub words : List (List ℕ)
  pub others : List Line
  pub whole : ls ≡ Words (word ∷ words) ∷ others

pub starts_some : (word : List ℕ) (ls : List Line) → Starts word ls → ls ≡ [] → ⊥
starts_some word ls s e = omega (arith, ap length (sym s.whole ∙ e))

-- the text of a line begins with its first word
text_begins : (word : List ℕ) (ws : List (List ℕ)) → (rest : List ℕ) × (line_text (Words (word ∷ ws)) ≡ word ++ rest)
text_begins word [] = ([], sym (append-nil word))
text_begins word (w ∷ ws) = (32 ∷ join_with_byte 32 (w ∷ ws), refl)

-- and so does that of the first line
pub first_begins : (word : List ℕ) (ls : List Line) → Starts word ls → (l : Line) (others : List Line) → ls ≡ l ∷ others → (rest : List ℕ) × (line_text l ≡ word ++ rest)
first_begins word ls s l others e =
    let same : Words (word ∷ s.words) ≡ l = same_first (Words (word ∷ s.words)) l s.others others (sym s.whole ∙ e) in
    let b = text_begins word s.words in
    (b.0, ap line_text (sym same) ∙ b.1)

rule_starts : (word : List ℕ) (ws : List (List ℕ)) (r : Rule ℕ) → Starts word (rule_lines (word ∷ ws) r)
rule_starts word ws (EX set) = record { words = ws ++ codes "EX" ∷ []; others = set_line set ∷ []; whole = refl }
rule_starts word ws (AX set) = record { words = ws ++ codes "AX" ∷ []; others = set_line set ∷ []; whole = refl }
rule_starts word ws (AR set) = record { words = ws ++ codes "AR" ∷ []; others = set_line set ∷ []; whole = refl }
rule_starts word ws (EU sets) = record { words = ws ++ codes "EU" ∷ decimal (length sets) ∷ []; others = map set_line sets; whole = refl }
rule_starts word ws (AU layers) = record { words = ws ++ codes "AU" ∷ decimal (length layers) ∷ []; others = map layer_line layers; whole = refl }
rule_starts word ws (ER fair untils) = record { words = ws ++ codes "ER" ∷ []; others = fair_lines fair ++ (counted (codes "until") (length untils) ∷ map set_line untils); whole = refl }

pub entry_starts : (e : Entry ℕ) → Starts (codes "entry") (entry_lines e)
entry_starts e = rule_starts (codes "entry") (decimal e.node ∷ sign_word e.plus ∷ []) e.rule

pub free_entry_starts : (e : FreeEntry ℕ) → Starts (codes "centry") (free_entry_lines e)
free_entry_starts e = rule_starts (codes "centry") (decimal e.constraint ∷ decimal e.entry.node ∷ sign_word e.entry.plus ∷ []) e.entry.rule

pub main_starts : (m : System) (p : Proof ℕ) → Starts (codes "nonfair") (main_lines m p)
main_starts m p = record { words = decimal (length p.nonfair) ∷ []; others = _; whole = refl }

pub end_some : (m : System) (at : Option State) → end_lines m at ≡ [] → ⊥
end_some m None e = omega (arith, ap length e)
end_some m (Some s) e = omega (arith, ap length e)

-- no end begins as an entry does, and no main part as an entry for a constraint
pub no_end : (m : System) (claim : Bool) (t rest : List ℕ) → t ≡ codes "entry" ++ rest → NoneStarts line_text (FitsEnd m claim) (end_lines m) t
no_end m claim t rest is None fits l ls whole e =
    let b = first_begins (codes "end") (end_lines m None) (record { words = []; others = []; whole = refl }) l ls whole in
    omega (arith, ap (λ u. get_or u 2 0) (sym b.1 ∙ e ∙ is))
no_end m claim t rest is (Some s) fits l ls whole e =
    let b = first_begins (codes "at") (end_lines m (Some s)) (record { words = _; others = _; whole = refl }) l ls whole in
    omega (arith, ap (λ u. get_or u 0 0) (sym b.1 ∙ e ∙ is))

pub no_main : (m : System) (Fits : Proof ℕ → Type 0) (t rest : List ℕ) → t ≡ codes "centry" ++ rest → NoneStarts line_text Fits (main_lines m) t
no_main m Fits t rest is p fits l ls whole e =
    let b = first_begins (codes "nonfair") (main_lines m p) (main_starts m p) l ls whole in
    omega (arith, ap (λ u. get_or u 0 0) (sym b.1 ∙ e ∙ is))

-- ---- numbers of rules

one_small : (n : ℕ) → IsSmall n → All IsSmall (n ∷ [])
one_small n p = All-cons IsSmall n [] p (All-nil IsSmall)

rule_fits : (count most : ℕ) (r : Rule ℕ) → FitsRule count most r → known.FitsRule count r
rule_fits count most (EX set) p = record { lengths = All-nil IsSmall; sets = one_small set p.1; fits = tt }
rule_fits count most (AX set) p = record { lengths = All-nil IsSmall; sets = one_small set p.1; fits = tt }
rule_fits count most (AR set) p = record { lengths = All-nil IsSmall; sets = one_small set p.1; fits = tt }
rule_fits count most (EU sets) p = record { lengths = one_small (length sets) p.1; sets = small_sets most sets p.0; fits = tt }
rule_fits count most (AU layers) p = record { lengths = one_small (length layers) p.1; sets = small_layers count most layers p.0; fits = avoided_layers count most layers p.0 }
rule_fits count most (ER fair untils) p = record {
  lengths = All-append IsSmall (fair_lengths fair) (length untils ∷ []) (small_lengths most fair.reach p.0.2) (one_small (length untils) p.1.1);
  sets = All-append IsSmall (fair_sets fair) untils (small_fair count most fair p.0) (small_sets most untils p.1.0);
  fits = p.0.1;
}

-- ---- entries are known

-- an entry's node is one of the formula
node_small : (f : Ctl) (e : Entry ℕ) → IsSmall (node_count f) → HasRule f e → IsSmall e.node
node_small f e few rule = elim (cases_lt (node_count f) e.node) [
  | inl above ↦ absurd (none (sym (ap (option_and_then (rule_for e.plus)) (no_node f e.node (inr above))) ∙ rule))
  | inr within ↦ omega (arith, few, within)
]
  where
    none : None ≡ Some (kind_of e.rule) → ⊥
    none h = cc

pub entry_is_known : (f : Ctl) → IsSmall (node_count f) → (count most : ℕ) → IsSmall count → (earlier : List (Entry ℕ)) → Known (FitsEntry f count most earlier) entry_lines
entry_is_known f few count most small earlier =
    plain_known entry_lines entry_plain (λ a b p q u v e. entry_known count small a b (fits a p) (fits b q) u v e)
  where
    fits : (e : Entry ℕ) → FitsEntry f count most earlier e → known.FitsEntry count e
    fits e p = record { node = node_small f e few p.0; rule = rule_fits count most e.rule p.2 }

pub free_entry_is_known : (m : System) → IsFlat m → (most : ℕ) (earlier : List (FreeEntry ℕ)) → Known (FitsFreeEntry m most earlier) free_entry_lines
free_entry_is_known m flat most earlier =
    plain_known free_entry_lines free_entry_plain (λ a b p q u v e. free_entry_known a b (fits a p) (fits b q) u v e)
  where
    fits : (e : FreeEntry ℕ) → FitsFreeEntry m most earlier e → known.FitsFreeEntry e
    fits e p = let r = rule_fits 1 most e.entry.rule p.2 in free_entry_fits m flat e p.0 r.lengths r.sets r.fits
