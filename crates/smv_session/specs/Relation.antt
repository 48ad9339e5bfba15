-- The transition relation of the code, and why there is none.
use Rattle.std.specs.Prelude.{◌≡◌, ◌⊎◌, ◌<◌, ◌≤◌, ◌+◌, ◌*◌, ℕ, Bool, true, false, List, Option}
use Rattle.std.specs.Prelude.{Some}
use Rattle.bdd_nodes.specs.Store.{limit_of}
use Rattle.bit_encode.specs.Code.{state_bits}
use Rattle.kripke_model.specs.Ctl.{Ctl}
use Rattle.kripke_model.specs.Faults.{IsFaultless}
use Rattle.kripke_model.specs.System.{System}
use Rattle.kripke_model.specs.WellFormed.{ctl_of}
use Rattle.kripke_model.specs.Signs.{node_count}
use Rattle.fair_rules.specs.FreePart.{constraint_nodes}
use Rattle.fair_fixpoint.specs.SatSets.{pin_bound}
use Rattle.kripke_model.specs.Leaves.{HasModelLeaves}
use Rattle.proof_form.specs.Shape.{spec_formula}
use Rattle.region_sets.specs.Sets.{Sets}
use Rattle.path_laws.specs.StateCount.{state_count}
use Rattle.bit_encode.specs.Enough.{enough}
use Rattle.trans_parts.specs.Budget.{room}
use Rattle.item_faults.specs.FirstFault.{IsFirstFault}
use Rattle.trans_parts.specs.Parts.{coding_of, model_of, store_of}
use Rattle.trans_parts.specs.declared.building.BuildRefusal.{BuildRefusal}
use Rattle.trans_parts.specs.declared.building.BuildRefusal.TheVariants as refusals
use Rattle.trans_parts.specs.declared.parts.Parts.{Parts}
use Rattle.smv_session.specs.Source.{most_state_bits}
use Rattle.smv_session.specs.declared.relation.Stop.{Stop}
use Rattle.smv_session.specs.declared.relation.Stop.TheVariants as stops
use Rattle.smv_session.specs.declared.trials.Tried.{Tried}
use Rattle.smv_session.specs.declared.trials.Tried.TheVariants as tried
use Rattle.smv_session.specs.declared.trials.Trial.{Trial}
use Rattle.proof_text.specs.File.{Block}
use Rattle.proof_text.specs.Lines.{block_lines, text_of}
use Rattle.proof_text.specs.Written.{own_order}
use Rattle.smv_texts.specs.Outcomes.{outcome_of}
use Rattle.smv_texts.specs.declared.outcome.Outcome.{Outcome}
use Rattle.smv_texts.specs.Replies.{Reply}
use Rattle.spec_verdicts.specs.Checked.{IsChecked, LeavesUnknown}
use Rattle.spec_verdicts.specs.Exports.{ProvesOutcome}
use Rattle.smv_texts.specs.Evidence.{IsMet}
use Rattle.spec_verdicts.specs.Verdicts.{IsDecided}

-- the parts of this model, in a store of this limit, with the variables in declared order
pub record AreOver (m : System) (limit : ℕ) (p : Parts) : Type 0 where
  pub model_is : model_of p ≡ m
  pub limit_is : limit_of (store_of p) ≡ limit
  pub order_is : (coding_of p).order ≡ own_order m

-- why there are none with the variables in declared order
abbrev pub IsNotBuilt : System → ℕ → BuildRefusal → Type 0
IsNotBuilt m limit (refusals.TooManyBits bits) =
    (most_state_bits < state_bits m) × (bits ≡ state_bits m)
IsNotBuilt m limit refusals.BadOrder = ⊥
IsNotBuilt m limit (refusals.Fault f) =
    (state_bits m ≤ most_state_bits) × IsFirstFault m f.kind f.line f.here f.after
IsNotBuilt m limit (refusals.Full held) = (state_bits m ≤ most_state_bits) × IsMet m limit held
IsNotBuilt m limit refusals.Memory = Unit {0}

-- why a model is not taken
abbrev pub Stops : System → Stop → Type 0
Stops m (stops.TooManyBits bits) = (most_state_bits < state_bits m) × (bits ≡ state_bits m)
Stops m (stops.Fault f) =
    (state_bits m ≤ most_state_bits) × IsFirstFault m f.kind f.line f.here f.after
Stops m stops.Memory = Unit {0}

-- The sets are over this model, in a store of this limit, with the variables in declared order, and
-- none is live. Where the limit is enough there is room, and no store was full.
pub record IsBuiltFor (m : System) (limit : ℕ) (sets : Sets) : Type 0 where
  pub over : sets.over ≡ m
  pub gauge : sets.gauge
      ≡ record { levels = 2 * state_bits m; limit = limit; order = own_order m }
  pub live : sets.live ≡ 0
  pub spare : enough m ≤ limit → room m ≤ sets.room
  pub fulls : enough m ≤ limit → sets.fulls ≡ 0

-- so many sets are held at a time while a specification with this formula is tried
abbrev pub trial_pins : System → Ctl → ℕ
trial_pins m f = 2 * pin_bound m (node_count f + constraint_nodes m) (state_count m)

-- the specification of this number, counted from 1, has this formula
pub record IsTrial (m : System) (trial : Trial) : Type 0 where
  pub leaves : HasModelLeaves m (ctl_of trial.formula.now)
  pub spec_is : spec_formula m trial.spec ≡ Some (ctl_of trial.formula.now)

-- the text is the block of a proof of the outcome of specification j, counted from 1
pub record IsProofText (m : System) (j : ℕ) (outcome : Outcome) (text : List ℕ) : Type 0 where
  pub block : Block
  pub proves : ProvesOutcome m j (outcome_of outcome) block
  pub text_is : text ≡ text_of (block_lines m block)

-- what trying specification j, counted from 1, with this formula gave; with its proof where that is
-- asked for
abbrev pub IsTried : System → ℕ → Bool → ℕ → Ctl → Tried → Type 0
IsTried m limit proves j f (tried.Decided outcome) =
    (proves ≡ false) × IsDecided m f (outcome_of outcome)
IsTried m limit proves j f (tried.Proved outcome block) =
    (proves ≡ true) × IsDecided m f (outcome_of outcome) × IsProofText m j outcome block.items
IsTried m limit proves j f (tried.Full held) = IsMet m limit held

-- the reply to a model whose specifications are to be decided: nothing is known, or it has no fault
-- and they were tried
abbrev pub Decides : System → ℕ → Option (List ℕ) → Reply → Type 0
Decides m limit proofs r =
    LeavesUnknown m limit proofs r ⊎ (IsFaultless m × IsChecked m limit proofs r)
