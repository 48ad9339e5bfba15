-- Proofs over pins that stand for what they stood for.
use Rattle.std.proofs.Common.{◌≡◌, ℕ, ◌+◌, ◌≤◌, true, List, Some, Result, Ok, Err, IfOk, refl, sym, subst}
use Rattle.kripke_model.specs.Ctl.{Ctl}
use Rattle.kripke_model.specs.Signs.{node_count}
use Rattle.kripke_model.specs.System.{System}
use Rattle.fair_rules.specs.FreePart.{constraint_nodes}
use Rattle.region_sets.specs.Sets.{Sets, IsCall, is_one_of}
use Rattle.path_laws.specs.StateCount.{state_count}
use Rattle.region_sets.specs.declared.pins.SetRefusal.{SetRefusal}
use Rattle.claim_sets.proofs.KeptProofs.{proof_same}
use Rattle.fair_fixpoint.specs.SatSets.{pin_bound}
use Rattle.proof_form.specs.Meaning.{ProvesSpec}
use Rattle.proof_form.specs.Pinned.{spec_nodes}
use Rattle.proof_form.specs.Shape.{spec_formula}
use Rattle.spec_verdicts.specs.Proved.{HasProof, proved_slots}
use Rattle.spec_verdicts.specs.declared.proving.Proved.{Proved}

pub has_after : (m : System) (j : ℕ) (a b : Sets) (r : Result Proved SetRefusal) → ((k : ℕ) → is_one_of k (proved_slots r) ≡ true → b.pins k ≡ a.pins k) → IfOk r (HasProof m j a) → IfOk r (HasProof m j b)
has_after m j a b (Ok found) kept has = record { claim = has.claim; proves = subst (λ p. ProvesSpec m j p) (sym (proof_same a b found.proof kept)) has.proves }
has_after m j a b (Err refusal) kept has = tt

-- a specification has the nodes of its formula
nodes_are : (m : System) (j : ℕ) (f : Ctl) → spec_formula m j ≡ Some f → spec_nodes m j ≡ node_count f
nodes_are m j f is = rw is refl

-- the pins of a specification are those of its formula
pub held_for : {T : Type 0} {a b : Sets} {xs : List ℕ} {r : Result T SetRefusal} (m : System) (f : Ctl) (j : ℕ) → spec_formula m j ≡ Some f
    → IsCall (pin_bound m (spec_nodes m j + constraint_nodes m) (state_count m)) a b xs r → IsCall (pin_bound m (node_count f + constraint_nodes m) (state_count m)) a b xs r
held_for {T} {a} {b} {xs} {r} m f j is call = subst (λ (n : ℕ). IsCall (pin_bound m (n + constraint_nodes m) (state_count m)) a b xs r) (nodes_are m j f is) call

pub few_for : (m : System) (f : Ctl) (j k : ℕ) → spec_formula m j ≡ Some f
    → k ≤ pin_bound m (spec_nodes m j + constraint_nodes m) (state_count m)
    → k ≤ pin_bound m (node_count f + constraint_nodes m) (state_count m)
few_for m f j k is few =
    subst (λ (n : ℕ). k ≤ pin_bound m (n + constraint_nodes m) (state_count m)) (nodes_are m j f is) few
