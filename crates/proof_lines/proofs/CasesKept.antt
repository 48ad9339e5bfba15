-- What is tested, and what it is tested with, while pins come and go.
use Rattle.std.proofs.Common.{◌≡◌, ℕ, true, List, sym, ◌∙◌, ap, subst}
use Rattle.std.specs.Global.{Vec}
use Rattle.kripke_model.specs.Step.{IsState}
use Rattle.kripke_model.specs.System.{System}
use Rattle.region_sets.specs.Sets.{Sets, Adds, has_state}
use Rattle.region_sets.proofs.Changes.{stays, stays_live}
use Rattle.proof_lines.specs.declared.cases.Case.{Case}
use Rattle.proof_lines.specs.declared.cases.Ends.{Ends}
use Rattle.claim_sets.specs.declared.claims.Claim.{Claim}
use Rattle.proof_lines.specs.Cases.{AreEnds, AreLists, IsCase, own_proof, states_of}
use Rattle.claim_sets.proofs.KeptProofs.{proof_kept}
use Rattle.fair_rules.specs.Block.{proof_of}
use Rattle.proof_form.specs.Meaning.{block_of}

module _ (a b : Sets) {xs : List ℕ} (adds : Adds a b xs) where
  pub case_then : (case : Case) → IsCase a case → IsCase b case
  case_then case is = record { over = adds.over ∙ is.over; leaves = is.leaves; live = λ k h. stays_live adds k (is.live k h); shape = is.shape }

  pub ends_then : (ends : Ends) → AreEnds a ends → AreEnds b ends
  ends_then ends are = record {
    full_live = stays_live adds ends.full.now.slot are.full_live;
    empty_live = stays_live adds ends.empty.now.slot are.empty_live;
    full = λ s is. subst (λ o. has_state o s ≡ true) (sym (stays adds ends.full.now.slot are.full_live)) (are.full s (subst (λ m. IsState m s) adds.over is));
    none = ap has_state (stays adds ends.empty.now.slot are.empty_live) ∙ are.none;
  }

  pub lists_then : (m : System) (lists : List (Vec Claim)) → AreLists a m lists → AreLists b m lists
  lists_then m lists are = record { fitting = are.fitting; live = λ k h. stays_live adds k (are.live k h) }

  pub states_kept : (case : Case) → IsCase a case → states_of b case ≡ states_of a case
  states_kept case is = proof_kept a b case.proof.now adds is.live

  pub own_kept : (case : Case) → IsCase a case → own_proof b case ≡ own_proof a case
  own_kept case is = ap (λ q. proof_of (block_of q)) (states_kept case is)
