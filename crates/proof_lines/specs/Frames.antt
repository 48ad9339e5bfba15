-- What the lines of entries are tested with.
use Rattle.std.specs.Prelude.{◌≡◌, true, false, List}
use Rattle.kripke_model.specs.Step.{IsState}
use Rattle.kripke_model.specs.Signs.{ProofRule}
use Rattle.kripke_model.specs.System.{State}
use Rattle.path_laws.specs.StateSet.{StateSet}
use Rattle.region_sets.specs.declared.pins.Pin.{Pin}
use Rattle.region_sets.specs.Sets.{Sets, IsLive, In, region}
use Rattle.fair_rules.specs.Claims as claims
use Rattle.fair_rules.specs.Claims.{join_layers}
use Rattle.fair_rules.specs.SetLists.{nothing}
use Rattle.claim_sets.specs.declared.claims.Asks.TheVariants as asks
use Rattle.proof_lines.specs.declared.frames.Frame.{Frame}
use Rattle.claim_sets.specs.ConstraintClaims.{IsGiven, constraint_list}

-- the pins are live, and two of them stand for all states and for none
pub record IsFrame (sets : Sets) (frame : Frame) : Type 0 where
  pub full_live : IsLive sets frame.full.now.slot
  pub empty_live : IsLive sets frame.empty.now.slot
  pub fair_live : IsLive sets frame.fair.now.slot
  pub nonfair_live : IsLive sets frame.nonfair.now.slot
  pub full : (s : State) → IsState sets.over s → In sets frame.full.now.slot s
  pub none : region sets frame.empty.now ≡ nothing
  pub given : IsGiven sets frame.constraints

-- the others are those of the proof
pub record IsFrameOf (sets : Sets) (frame : Frame) (p : claims.Proof) : Type 0 where
  pub fair : p.fair ≡ region sets frame.fair.now
  pub nonfair : join_layers p.nonfair ≡ region sets frame.nonfair.now

-- the states that the constraints' formulas are true at, in turn
abbrev pub visited_in : Sets → Frame → List StateSet
visited_in sets frame = constraint_list sets frame.constraints true

-- and those that they are false at
abbrev pub avoided_in : Sets → Frame → List StateSet
avoided_in sets frame = constraint_list sets frame.constraints false

-- the set of a first argument that isn't there
abbrev pub absent_pin : Frame → ProofRule → Pin
absent_pin frame ProofRule.EU = frame.full.now
absent_pin frame ProofRule.AU = frame.full.now
absent_pin frame rule = frame.empty.now
