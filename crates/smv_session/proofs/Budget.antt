-- How much room a specification asks for.
use Rattle.std.proofs.Common.{◌≡◌, ℕ, ◌+◌, ◌*◌, ◌^◌, ◌≤◌, Some, arith}
use Rattle.std.proofs.lemmas.Nat.{mul-le, pow_pos}
use Rattle.bit_encode.specs.Code.{state_bits}
use Rattle.fair_fixpoint.specs.SatSets.{pin_bound}
use Rattle.fair_rules.specs.FreePart.{constraint_nodes}
use Rattle.kripke_model.specs.Ctl.{Ctl}
use Rattle.kripke_model.specs.Flat.{node_total}
use Rattle.kripke_model.specs.Signs.{node_count}
use Rattle.kripke_model.specs.System.{System, constraint_count}
use Rattle.proof_checker.proofs.Sizes.{constraints_fit, nodes_fit}
use Rattle.proof_form.specs.Shape.{spec_formula}
use Rattle.path_laws.specs.StateCount.{state_count}
use Rattle.trans_parts.specs.Budget.{room}
use Rattle.strong_export.specs.Finding.{strong_pins}
use Rattle.smv_session.specs.Relation.{trial_pins}

fits : (s n k states p : ℕ) → n ≤ s → states ≤ p
    → 2 * (4 * (n + 2) * (k + 2) * states) ≤ 12 * (s + 2) * (k + 2) * p + 64
fits s n k states p less few =
    let width : (k + 2) * states ≤ (k + 2) * p =
    mul-le (k + 2) states (k + 2) p (omega arith) few in
    let all : (n + 2) * ((k + 2) * states) ≤ (s + 2) * ((k + 2) * p) =
    mul-le (n + 2) ((k + 2) * states) (s + 2) ((k + 2) * p) (omega (arith, less)) width in
    omega (arith, all)

pub trial_fits : (m : System) (j : ℕ) (f : Ctl) → spec_formula m j ≡ Some f
    → state_count m ≤ 2 ^ state_bits m → trial_pins m f ≤ room m
trial_fits m j f is few =
    fits (node_total m) (node_count f + constraint_nodes m) (constraint_count m) (state_count m)
    (2 ^ state_bits m) (nodes_fit m j f is) few

delays_room : (s k states p : ℕ) → states ≤ p → 6 * states + 32 ≤ 12 * (s + 2) * (k + 2) * p + 64
delays_room s k states p few =
    let width : 1 * states ≤ (k + 2) * p = mul-le 1 states (k + 2) p (omega arith) few in
    let all : 1 * (1 * states) ≤ (s + 2) * ((k + 2) * p) =
    mul-le 1 (1 * states) (s + 2) ((k + 2) * p) (omega arith) width in
    omega (arith, all)

-- how much the judgement of a trace does
pub judging_fits : (m : System) (j : ℕ) (f : Ctl) → spec_formula m j ≡ Some f
    → state_count m ≤ 2 ^ state_bits m
    → pin_bound m (constraint_nodes m) (state_count m) ≤ room m
judging_fits m j f is few =
    let nodes = nodes_fit m j f is in
    let twice = fits (node_total m) (constraint_nodes m) (constraint_count m) (state_count m)
    (2 ^ state_bits m) (omega (arith, nodes)) few in
    omega (arith, twice)

-- and how much the search for delays does
pub delays_fit : (m : System) → state_count m ≤ 2 ^ state_bits m → 6 * state_count m + 32 ≤ room m
delays_fit m few =
    delays_room (node_total m) (constraint_count m) (state_count m) (2 ^ state_bits m) few

strong_room : (n s k states p : ℕ) → n ≤ s → states ≤ p → 1 ≤ p
    → 4 * (n + 2) * (k + 2) * states + (4 * states + k + 32 + k) ≤ 12 * (s + 2) * (k + 2) * p + 64
strong_room n s k states p less few some =
    let width : (k + 2) * states ≤ (k + 2) * p =
    mul-le (k + 2) states (k + 2) p (omega arith) few in
    let all : (n + 2) * ((k + 2) * states) ≤ (s + 2) * ((k + 2) * p) =
    mul-le (n + 2) ((k + 2) * states) (s + 2) ((k + 2) * p) (omega (arith, less)) width in
    let one : 1 * states ≤ (k + 2) * p = mul-le 1 states (k + 2) p (omega arith) few in
    let each : 2 * (1 * states) ≤ (s + 2) * ((k + 2) * p) =
    mul-le 2 (1 * states) (s + 2) ((k + 2) * p) (omega arith) one in
    let narrow : (k + 2) * 1 ≤ (k + 2) * p = mul-le (k + 2) 1 (k + 2) p (omega arith) some in
    let counts : 2 * ((k + 2) * 1) ≤ (s + 2) * ((k + 2) * p) =
    mul-le 2 ((k + 2) * 1) (s + 2) ((k + 2) * p) (omega arith) narrow in
    omega (arith, all, each, counts)

-- and how much the search for a strong path does
pub strong_fits : (m : System) → state_count m ≤ 2 ^ state_bits m → strong_pins m ≤ room m
strong_fits m few =
    strong_room (constraint_nodes m) (node_total m) (constraint_count m) (state_count m)
    (2 ^ state_bits m) (constraints_fit m) few (pow_pos (state_bits m))
