-- What a proof claims is so.
use Rattle.std.proofs.Common.{◌≡◌, Bool, Option, Some, None, sym, subst}
use Rattle.std.specs.Prelude.{IsSomeAnd, is_none}
use Rattle.kripke_model.specs.Ctl.{Ctl}
use Rattle.kripke_model.specs.System.{System, State}
use Rattle.fair_rules.specs.Block as blocks
use Rattle.fair_rules.specs.Block.{block_lines, proof_of}
use Rattle.fair_rules.specs.Laws.{AreModelSets}
use Rattle.path_laws.specs.StateSet.{StateSet}
use Rattle.fair_rules.proofs.Blocks.{block_sound}
use Rattle.fair_rules.proofs.Checks.{hold_left, hold_right}
use Rattle.fair_rules.proofs.FreePart.{free_constraint_sets}
use Rattle.proof_form.specs.Form.{Proof}
use Rattle.proof_form.specs.Shape.{spec_formula}
use Rattle.proof_form.specs.Meaning.{block_of, free_lines, free_proof, visited, avoided, IsProofOf, Claims, ProofsSound}
use Rattle.proof_form.proofs.Asked.{all_asked}
use Rattle.proof_form.proofs.FreeProofs.{free_proofs}

claims_by : (m : System) (f : Ctl) (at : Option State) (claim : Bool) → claim ≡ is_none at → blocks.ClaimHolds m f at → Claims m f claim
claims_by m f None claim e h = subst (Claims m f) (sym e) h
claims_by m f (Some s) claim e h = subst (Claims m f) (sym e) h

module _ (m : System) (f : Ctl) (p : Proof StateSet) (proof : IsProofOf m f p) where
  -- the claims for constraints are sets to visit and to avoid
  pub sets_sound : AreModelSets m (visited m p) (avoided m p)
  sets_sound =
      free_constraint_sets m (free_proof p.free)
      (free_proofs m p.free proof.shape.free (hold_left m (free_lines m p.free) (block_lines m (visited m p) (avoided m p) (block_of p) f 1) proof.lines))

  pub claim_sound : Claims m f p.claim
  claim_sound =
      claims_by m f p.at p.claim proof.shape.claim
      (block_sound m (visited m p) (avoided m p) sets_sound (block_of p) f 1 (record {
        asked = all_asked m (proof_of (block_of p)) f p.entries proof.shape.rules;
        lines = hold_right m (free_lines m p.free) (block_lines m (visited m p) (avoided m p) (block_of p) f 1) proof.lines;
      }))

pub sound : (m : System) → ProofsSound m
sound m j p proves = go (spec_formula m j) proves
  where
    go : (o : Option Ctl) → IsSomeAnd o (λ f. IsProofOf m f p) → IsSomeAnd o (λ f. Claims m f p.claim)
    go None h = h
    go (Some f) proof = claim_sound m f p proof
