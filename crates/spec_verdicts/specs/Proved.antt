-- What the code finds of a specification, with a proof of it.
use Rattle.std.specs.Prelude.{ℕ, List, [], Option, Some, None, Result, Ok, Err}
use Rattle.kripke_model.specs.System.{System, State}
use Rattle.proof_form.specs.Meaning.{ProvesSpec}
use Rattle.proof_form.specs.Pinned.{over_states, proof_slots}
use Rattle.region_sets.specs.Sets.{Sets}
use Rattle.region_sets.specs.declared.pins.SetRefusal.{SetRefusal}
use Rattle.smv_texts.specs.Outcomes.{outcome_of}
use Rattle.smv_texts.specs.Report.{Outcome, True, False, Unknown}
use Rattle.spec_verdicts.specs.Exports.{ClaimsOutcome}
use Rattle.spec_verdicts.specs.declared.proving.Proved.{Proved}

-- the state that is shown
abbrev pub fails_at : Outcome → Option State
fails_at True = None
fails_at (False s path) = Some s
fails_at (Unknown limit) = None

abbrev pub proved_slots : Result Proved SetRefusal → List ℕ
proved_slots (Ok found) = proof_slots found.proof
proved_slots (Err refusal) = []

-- the proof is one of specification j, counted from 1, and claims the outcome
pub record HasProof (m : System) (j : ℕ) (sets : Sets) (found : Proved) : Type 0 where
  pub claim : ClaimsOutcome (outcome_of found.outcome) found.proof
  pub proves : ProvesSpec m j (over_states sets found.proof)
