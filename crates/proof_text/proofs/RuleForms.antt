-- Rules by their heads and bodies.
use Rattle.std.proofs.Common.{◌≡◌, ℕ, ◌≤◌, List, [], ◌∷◌, ◌++◌, length, map, codes, decimal, refl, ap, arith}
use Rattle.std.proofs.lemmas.List.Elements.{All-nil}
use Rattle.proof_form.specs.Form.{Layer, FairPart, Rule, EX, AX, AR, EU, AU, ER}
use Rattle.proof_text.specs.Lines.{Words, counted, set_line, layer_line, fair_lines, rule_lines}
use Rattle.proof_text.specs.RuleHeads.{head_words, IsSmallHead, head_of, body_lines, FitsBody}
use Rattle.proof_text.specs.SetParts.{FitsSet, FitsSets, FitsFair, AreSets, AreLayers}
use Rattle.proof_text.specs.declared.rule_heads.RuleHead.{RuleHead}
use Rattle.proof_text.specs.declared.rule_heads.RuleHead.TheVariants.{Ex, Ax, Ar, Eu, Au, Er}
use Rattle.text_lines.proofs.Lists.{same_first, same_rest}
use Rattle.proof_text.proofs.Formed.{IsForm}
use Rattle.proof_text.proofs.Joined.{IsJoin}
use Rattle.proof_text.proofs.KnownLines.{IsSmall, mark}
use Rattle.proof_text.proofs.KnownParts.{fair_is_known}

-- ---- the words of heads

-- a word alone that is none of these
pub no_bare : (word : List ℕ) → (word ≡ codes "EX" → ⊥) → (word ≡ codes "AX" → ⊥) → (word ≡ codes "AR" → ⊥) → (word ≡ codes "ER" → ⊥) → (h : RuleHead) → word ∷ [] ≡ head_words h → ⊥
no_bare word ex ax ar er Ex e = ex (same_first word (codes "EX") [] [] e)
no_bare word ex ax ar er Ax e = ax (same_first word (codes "AX") [] [] e)
no_bare word ex ax ar er Ar e = ar (same_first word (codes "AR") [] [] e)
no_bare word ex ax ar er (Eu n) e = omega (arith, ap length e)
no_bare word ex ax ar er (Au n) e = omega (arith, ap length e)
no_bare word ex ax ar er Er e = er (same_first word (codes "ER") [] [] e)

pub no_words : (h : RuleHead) → [] ≡ head_words h → ⊥
no_words Ex e = omega (arith, ap length e)
no_words Ax e = omega (arith, ap length e)
no_words Ar e = omega (arith, ap length e)
no_words (Eu n) e = omega (arith, ap length e)
no_words (Au n) e = omega (arith, ap length e)
no_words Er e = omega (arith, ap length e)

-- no number behind EU, or behind AU
pub no_eu : (rest : List (List ℕ)) → ((n : ℕ) → n ≤ 4294967295 → rest ≡ decimal n ∷ [] → ⊥) → (h : RuleHead) → IsSmallHead h → codes "EU" ∷ rest ≡ head_words h → ⊥
no_eu rest none Ex small e = omega (arith, ap mark e)
no_eu rest none Ax small e = omega (arith, ap mark e)
no_eu rest none Ar small e = omega (arith, ap mark e)
no_eu rest none (Eu n) small e = none n small (same_rest (codes "EU") (codes "EU") rest (decimal n ∷ []) e)
no_eu rest none (Au n) small e = omega (arith, ap mark e)
no_eu rest none Er small e = omega (arith, ap mark e)

pub no_au : (rest : List (List ℕ)) → ((n : ℕ) → n ≤ 4294967295 → rest ≡ decimal n ∷ [] → ⊥) → (h : RuleHead) → IsSmallHead h → codes "AU" ∷ rest ≡ head_words h → ⊥
no_au rest none Ex small e = omega (arith, ap mark e)
no_au rest none Ax small e = omega (arith, ap mark e)
no_au rest none Ar small e = omega (arith, ap mark e)
no_au rest none (Eu n) small e = omega (arith, ap mark e)
no_au rest none (Au n) small e = none n small (same_rest (codes "AU") (codes "AU") rest (decimal n ∷ []) e)
no_au rest none Er small e = omega (arith, ap mark e)

-- other words have nothing behind them
pub no_more_words : (word : List ℕ) (rest : List (List ℕ)) → (word ≡ codes "EU" → ⊥) → (word ≡ codes "AU" → ⊥) → (rest ≡ [] → ⊥) → (h : RuleHead) → word ∷ rest ≡ head_words h → ⊥
no_more_words word rest eu au some Ex e = some (same_rest word (codes "EX") rest [] e)
no_more_words word rest eu au some Ax e = some (same_rest word (codes "AX") rest [] e)
no_more_words word rest eu au some Ar e = some (same_rest word (codes "AR") rest [] e)
no_more_words word rest eu au some (Eu n) e = eu (same_first word (codes "EU") rest (decimal n ∷ []) e)
no_more_words word rest eu au some (Au n) e = au (same_first word (codes "AU") rest (decimal n ∷ []) e)
no_more_words word rest eu au some Er e = some (same_rest word (codes "ER") rest [] e)

-- a rule's lines are the head's and the body's
pub rule_words_are : (front : List (List ℕ)) (r : Rule ℕ) → rule_lines front r ≡ Words (front ++ head_words (head_of r)) ∷ body_lines r
rule_words_are front (EX set) = refl
rule_words_are front (AX set) = refl
rule_words_are front (AR set) = refl
rule_words_are front (EU sets) = refl
rule_words_are front (AU layers) = refl
rule_words_are front (ER fair untils) = refl

-- ---- rules as their bodies

-- the heads are told apart by a number
abbrev kind : RuleHead → ℕ
kind Ex = 0
kind Ax = 1
kind Ar = 2
kind (Eu n) = 3
kind (Au n) = 4
kind Er = 5

abbrev size : RuleHead → ℕ
size Ex = 0
size Ax = 0
size Ar = 0
size (Eu n) = n
size (Au n) = n
size Er = 0

abbrev set_of : Rule ℕ → ℕ
set_of (EX set) = set
set_of (AX set) = set
set_of (AR set) = set
set_of r = 0

abbrev sets_in : Rule ℕ → List ℕ
sets_in (EU sets) = sets
sets_in (ER fair untils) = untils
sets_in r = []

abbrev layers_in : Rule ℕ → List (Layer ℕ)
layers_in (AU layers) = layers
layers_in r = []

abbrev fair_in : Rule ℕ → FairPart ℕ
fair_in (ER fair untils) = fair
fair_in r = record { inside = 0; reach = [] }

module _ (count most : ℕ) where
  ex_only : (P : Rule ℕ → Type 0) → ((s : ℕ) → FitsSet most s → P (EX s)) → (r : Rule ℕ) → FitsBody count most Ex r → P r
  ex_only P p (EX s) f = p s f.0
  ex_only P p (AX s) f = absurd (omega (arith, ap kind f.1))
  ex_only P p (AR s) f = absurd (omega (arith, ap kind f.1))
  ex_only P p (EU ss) f = absurd (omega (arith, ap kind f.1))
  ex_only P p (AU ls) f = absurd (omega (arith, ap kind f.1))
  ex_only P p (ER g ss) f = absurd (omega (arith, ap kind f.1))

  ax_only : (P : Rule ℕ → Type 0) → ((s : ℕ) → FitsSet most s → P (AX s)) → (r : Rule ℕ) → FitsBody count most Ax r → P r
  ax_only P p (AX s) f = p s f.0
  ax_only P p (EX s) f = absurd (omega (arith, ap kind f.1))
  ax_only P p (AR s) f = absurd (omega (arith, ap kind f.1))
  ax_only P p (EU ss) f = absurd (omega (arith, ap kind f.1))
  ax_only P p (AU ls) f = absurd (omega (arith, ap kind f.1))
  ax_only P p (ER g ss) f = absurd (omega (arith, ap kind f.1))

  ar_only : (P : Rule ℕ → Type 0) → ((s : ℕ) → FitsSet most s → P (AR s)) → (r : Rule ℕ) → FitsBody count most Ar r → P r
  ar_only P p (AR s) f = p s f.0
  ar_only P p (EX s) f = absurd (omega (arith, ap kind f.1))
  ar_only P p (AX s) f = absurd (omega (arith, ap kind f.1))
  ar_only P p (EU ss) f = absurd (omega (arith, ap kind f.1))
  ar_only P p (AU ls) f = absurd (omega (arith, ap kind f.1))
  ar_only P p (ER g ss) f = absurd (omega (arith, ap kind f.1))

  eu_only : (n : ℕ) (P : Rule ℕ → Type 0) → ((ss : List ℕ) → AreSets most n ss → P (EU ss)) → (r : Rule ℕ) → FitsBody count most (Eu n) r → P r
  eu_only n P p (EU ss) f = p ss (f.0.0, ap size f.1)
  eu_only n P p (EX s) f = absurd (omega (arith, ap kind f.1))
  eu_only n P p (AX s) f = absurd (omega (arith, ap kind f.1))
  eu_only n P p (AR s) f = absurd (omega (arith, ap kind f.1))
  eu_only n P p (AU ls) f = absurd (omega (arith, ap kind f.1))
  eu_only n P p (ER g ss) f = absurd (omega (arith, ap kind f.1))

  au_only : (n : ℕ) (P : Rule ℕ → Type 0) → ((ls : List (Layer ℕ)) → AreLayers count most n ls → P (AU ls)) → (r : Rule ℕ) → FitsBody count most (Au n) r → P r
  au_only n P p (AU ls) f = p ls (f.0.0, ap size f.1)
  au_only n P p (EX s) f = absurd (omega (arith, ap kind f.1))
  au_only n P p (AX s) f = absurd (omega (arith, ap kind f.1))
  au_only n P p (AR s) f = absurd (omega (arith, ap kind f.1))
  au_only n P p (EU ss) f = absurd (omega (arith, ap kind f.1))
  au_only n P p (ER g ss) f = absurd (omega (arith, ap kind f.1))

  er_only : (P : Rule ℕ → Type 0) → ((g : FairPart ℕ) (ss : List ℕ) → FitsFair count most g → FitsSets most ss → P (ER g ss)) → (r : Rule ℕ) → FitsBody count most Er r → P r
  er_only P p (ER g ss) f = p g ss f.0.0 f.0.1
  er_only P p (EX s) f = absurd (omega (arith, ap kind f.1))
  er_only P p (AX s) f = absurd (omega (arith, ap kind f.1))
  er_only P p (AR s) f = absurd (omega (arith, ap kind f.1))
  er_only P p (EU ss) f = absurd (omega (arith, ap kind f.1))
  er_only P p (AU ls) f = absurd (omega (arith, ap kind f.1))

  pub ex_form : IsForm (FitsSet most) (λ s. set_line s ∷ []) (FitsBody count most Ex) body_lines EX set_of
  ex_form = record {
    fits = λ s fits. (fits, refl);
    lines = λ s fits. refl;
    fits_back = ex_only (λ r. FitsSet most (set_of r)) (λ s fits. fits);
    lines_back = ex_only (λ r. set_line (set_of r) ∷ [] ≡ body_lines r) (λ s fits. refl);
  }

  pub ax_form : IsForm (FitsSet most) (λ s. set_line s ∷ []) (FitsBody count most Ax) body_lines AX set_of
  ax_form = record {
    fits = λ s fits. (fits, refl);
    lines = λ s fits. refl;
    fits_back = ax_only (λ r. FitsSet most (set_of r)) (λ s fits. fits);
    lines_back = ax_only (λ r. set_line (set_of r) ∷ [] ≡ body_lines r) (λ s fits. refl);
  }

  pub ar_form : IsForm (FitsSet most) (λ s. set_line s ∷ []) (FitsBody count most Ar) body_lines AR set_of
  ar_form = record {
    fits = λ s fits. (fits, refl);
    lines = λ s fits. refl;
    fits_back = ar_only (λ r. FitsSet most (set_of r)) (λ s fits. fits);
    lines_back = ar_only (λ r. set_line (set_of r) ∷ [] ≡ body_lines r) (λ s fits. refl);
  }

  pub eu_form : (n : ℕ) → IsSmall n → IsForm (AreSets most n) (map set_line) (FitsBody count most (Eu n)) body_lines EU sets_in
  eu_form n small = record {
    fits = λ ss fits. ((fits.0, omega (arith, small, fits.1)), ap Eu fits.1);
    lines = λ ss fits. refl;
    fits_back = eu_only n (λ r. AreSets most n (sets_in r)) (λ ss fits. fits);
    lines_back = eu_only n (λ r. map set_line (sets_in r) ≡ body_lines r) (λ ss fits. refl);
  }

  pub au_form : (n : ℕ) → IsSmall n → IsForm (AreLayers count most n) (map layer_line) (FitsBody count most (Au n)) body_lines AU layers_in
  au_form n small = record {
    fits = λ ls fits. ((fits.0, omega (arith, small, fits.1)), ap Au fits.1);
    lines = λ ls fits. refl;
    fits_back = au_only n (λ r. AreLayers count most n (layers_in r)) (λ ls fits. fits);
    lines_back = au_only n (λ r. map layer_line (layers_in r) ≡ body_lines r) (λ ls fits. refl);
  }

  -- a fair part and sets that lead to where the first argument lets go
  pub er_join : IsJoin (FitsFair count most) fair_lines (λ _. FitsSets most) (λ _ untils. counted (codes "until") (length untils) ∷ map set_line untils) (FitsBody count most Er) body_lines
      (λ p. ER p.0 p.1) (λ r. (fair_in r, sets_in r))
  er_join = record {
    form = record {
      fits = λ p fits. (fits, refl);
      lines = λ p fits. refl;
      fits_back = er_only (λ r. FitsFair count most (fair_in r) × FitsSets most (sets_in r)) (λ g ss p q. (p, q));
      lines_back = er_only (λ r. fair_lines (fair_in r) ++ (counted (codes "until") (length (sets_in r)) ∷ map set_line (sets_in r)) ≡ body_lines r) (λ g ss p q. refl);
    };
    last = λ g fits. ([], (All-nil (FitsSet most), omega arith));
    known = fair_is_known count most;
  }
