-- A proof over numbers that is tested, and the sets of its numbers.
use Rattle.std.specs.Prelude.{◌≡◌, ℕ, ◌+◌, ◌*◌, List, [], All, Option, Result, slice_index}
use Rattle.kripke_model.specs.Ctl.{Ctl}
use Rattle.kripke_model.specs.Signs.{node_count}
use Rattle.kripke_model.specs.System.{System}
use Rattle.kripke_model.specs.WellFormed.{ctl_of}
use Rattle.fair_rules.specs.Checks.{Check}
use Rattle.fair_rules.specs.FreePart.{constraint_nodes}
use Rattle.region_sets.specs.Sets.{Sets, IsCall, IsLive}
use Rattle.region_sets.specs.declared.pins.SetRefusal.{SetRefusal}
use Rattle.proof_form.specs.Form.{sets_of}
use Rattle.proof_form.specs.Meaning.{obligations}
use Rattle.proof_form.specs.Pinned.{over_states}
use Rattle.proof_form.specs.Shape.{IsInShape}
use Rattle.kripke_model.specs.Leaves.{HasModelLeaves}
use Rattle.block_proofs.specs.PinsFor.{pinned}
use Rattle.proof_checker.specs.declared.counting.Job.{Job}
use Rattle.proof_checker.specs.Imported.{seen_in}

-- what each line has to show, over the states of the numbers' pins
abbrev pub lines_in : Job → List (List Check)
lines_in job
    = obligations job.model.now (ctl_of job.formula.now)
    (over_states (seen_in job.sets) (pinned job.table.now job.proof.now))

-- so many pins are held while the formula's proof is tested
abbrev pub test_pins : System → Ctl → ℕ
test_pins m f = 8 * (node_count f + constraint_nodes m + 2)

-- the test is a call that leaves no pin
abbrev pub IsTestCall : Job → Sets → Sets → Result (Option ℕ) SetRefusal → Type 0
IsTestCall job before after result =
    IsCall (test_pins job.model.now (ctl_of job.formula.now)) before after [] result

-- the proof has the shape of one of the formula, and each of its numbers has a live pin
pub record IsJob (job : Job) : Type 0 where
  pub over : (seen_in job.sets).over ≡ job.model.now
  pub leaves : HasModelLeaves job.model.now (ctl_of job.formula.now)
  pub live : All (λ number. IsLive (seen_in job.sets) (slice_index job.table.now number))
      (sets_of job.proof.now)
  pub shape : IsInShape job.model.now (ctl_of job.formula.now) job.proof.now
