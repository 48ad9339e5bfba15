-- A proof over the pins of its numbers shows what the proof over the numbers does.
use Rattle.std.proofs.Common.{ℕ, List, subst}
use Rattle.std.specs.Prelude.{All}
use Rattle.kripke_model.specs.Ctl.{Ctl}
use Rattle.kripke_model.specs.System.{System}
use Rattle.path_laws.specs.StateSet.{StateSet}
use Rattle.region_sets.specs.Sets.{Sets, region}
use Rattle.fair_rules.specs.Checks.{IsFirstBad}
use Rattle.proof_form.specs.Form.{Proof, map_proof, sets_of}
use Rattle.proof_form.specs.Shape.{IsInShape}
use Rattle.proof_form.specs.Meaning.{IsProofOf, obligations}
use Rattle.proof_form.specs.Pinned.{over_states}
use Rattle.proof_form.proofs.AgreeMaps.{Same, proof_agrees, bad_line_agrees}
use Rattle.proof_form.proofs.Filled.{proof_maps}
use Rattle.block_proofs.specs.PinsFor.{pin_for, pinned}

module _ (m : System) (f : Ctl) (sets : Sets) (table : List ℕ) (h : ℕ → StateSet) (p : Proof ℕ) where
  module _ (agree : All (Same m (λ number. region sets (pin_for table number)) h) (sets_of p)) where
    pub pinned_proves : IsInShape m f p → IsProofOf m f (over_states sets (pinned table p)) → IsProofOf m f (map_proof h p)
    pinned_proves shape proof =
        let g : ℕ → StateSet = λ number. region sets (pin_for table number) in
        proof_agrees m g h f p agree shape (subst (IsProofOf m f) (proof_maps (region sets) (pin_for table) p) proof)

    pub pinned_fails : (n : ℕ) → IsFirstBad m (obligations m f (over_states sets (pinned table p))) n → IsFirstBad m (obligations m f (map_proof h p)) n
    pinned_fails n bad =
        let g : ℕ → StateSet = λ number. region sets (pin_for table number) in
        bad_line_agrees m g h f p agree n (subst (λ q. IsFirstBad m (obligations m f q) n) (proof_maps (region sets) (pin_for table) p) bad)
