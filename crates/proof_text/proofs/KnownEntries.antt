-- Entries are known by the texts of their lines.
use Rattle.std.proofs.Common.{ℕ, List, [], ◌∷◌, length}
use Rattle.std.specs.Prelude.{All}
use Rattle.std.proofs.lemmas.List.Elements.{All-nil, All-cons, All-append}
use Rattle.kripke_model.specs.Ctl.{Ctl}
use Rattle.kripke_model.specs.Signs.{node_count}
use Rattle.proof_form.specs.Form.{Rule, EX, AX, AR, EU, AU, ER, Entry, fair_sets}
use Rattle.proof_text.specs.Lines.{entry_lines}
use Rattle.proof_text.specs.SetParts.{FitsRule, FitsEntry}
use Rattle.proof_text.specs.Spells.{fair_lengths}
use Rattle.proof_text.proofs.EntryForms.{node_small}
use Rattle.proof_text.proofs.Joined.{Known}
use Rattle.proof_text.proofs.KnownLines.{IsSmall}
use Rattle.proof_text.proofs.KnownParts.{plain_known, small_sets, small_lengths, small_fair, small_layers, avoided_layers}
use Rattle.proof_text.proofs.KnownRules as known
use Rattle.proof_text.proofs.PlainLines.{entry_plain}

only : (n : ℕ) → IsSmall n → All IsSmall (n ∷ [])
only n small = All-cons IsSmall n [] small (All-nil IsSmall)

rule_fits : (count most : ℕ) (r : Rule ℕ) → FitsRule count most r → known.FitsRule count r
rule_fits count most (EX set) fits = record { lengths = All-nil IsSmall; sets = only set fits.1; fits = tt }
rule_fits count most (AX set) fits = record { lengths = All-nil IsSmall; sets = only set fits.1; fits = tt }
rule_fits count most (AR set) fits = record { lengths = All-nil IsSmall; sets = only set fits.1; fits = tt }
rule_fits count most (EU sets) fits = record { lengths = only (length sets) fits.1; sets = small_sets most sets fits.0; fits = tt }
rule_fits count most (AU layers) fits = record { lengths = only (length layers) fits.1; sets = small_layers count most layers fits.0; fits = avoided_layers count most layers fits.0 }
rule_fits count most (ER fair untils) fits = record {
  lengths = All-append IsSmall (fair_lengths fair) (length untils ∷ []) (small_lengths most fair.reach fits.0.2) (only (length untils) fits.1.1);
  sets = All-append IsSmall (fair_sets fair) untils (small_fair count most fair fits.0) (small_sets most untils fits.1.0);
  fits = fits.0.1;
}

module _ (f : Ctl) (count most : ℕ) (nodes : IsSmall (node_count f)) (few : IsSmall count) (earlier : List (Entry ℕ)) where
  entry_fits : (e : Entry ℕ) → FitsEntry f count most earlier e → known.FitsEntry count e
  entry_fits e fits = record { node = node_small f e nodes fits.0; rule = rule_fits count most e.rule fits.2 }

  pub entry_is_known : Known (FitsEntry f count most earlier) entry_lines
  entry_is_known = plain_known entry_lines entry_plain (λ a b p q u v e. known.entry_known count few a b (entry_fits a p) (entry_fits b q) u v e)
