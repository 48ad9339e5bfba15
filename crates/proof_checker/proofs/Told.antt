-- What is found over the pins of numbers is found over the states of their nodes.
use Rattle.std.proofs.Common.{◌≡◌, ℕ, Bool, true, false, List, [], ◌∷◌, Option, Some, None, refl, sym, ◌∙◌, ap, subst, slice_index}
use Rattle.std.specs.Prelude.{All}
use Rattle.std.proofs.lemmas.List.Elements.{All-nil, All-cons, All-head, All-tail}
use Rattle.bdd_nodes.specs.declared.triple.Triple.{Triple}
use Rattle.bdd_nodes.specs.Table.{value_of}
use Rattle.bit_encode.specs.Code.{Coding, types_of, code}
use Rattle.kripke_model.specs.Ctl.{Ctl}
use Rattle.kripke_model.specs.System.{System, State}
use Rattle.kripke_model.specs.Step.{IsState}
use Rattle.path_laws.specs.StateSet.{StateSet}
use Rattle.region_sets.specs.Sets.{Sets, region}
use Rattle.proof_form.specs.Form.{Proof, map_proof, sets_of}
use Rattle.proof_form.specs.Meaning.{obligations}
use Rattle.proof_form.specs.Pinned.{over_states}
use Rattle.proof_form.specs.Shape.{IsInShape}
use Rattle.proof_form.proofs.AgreeMaps.{Same}
use Rattle.proof_form.proofs.KeptShapes.{shape_kept}
use Rattle.diagram_sets.specs.declared.sets.DiagramSets.{DiagramSets}
use Rattle.diagram_sets.specs.Exports.{coding_in}
use Rattle.block_proofs.specs.PinsFor.{pin_for, pinned}
use Rattle.block_proofs.proofs.Agreed.{pinned_proves, pinned_fails}
use Rattle.proof_checker.specs.Found.{IsFound}
use Rattle.proof_checker.specs.Imported.{HasNumber, HaveNumbers, node_states, seen_in}

same_bool : (a b : Bool) → (a ≡ true → b ≡ true) → (b ≡ true → a ≡ true) → a ≡ b
same_bool true b f g = sym (f refl)
same_bool false true f g = g refl
same_bool false false f g = refl

module _ (x : DiagramSets) (m : System) (order : List ℕ) (nodes : List Triple) (table : List ℕ)
    (over : (seen_in x).over ≡ m) (coding : coding_in x ≡ record { types = types_of m; order = order }) where
  one_same : (n : ℕ) → HasNumber x nodes (slice_index table n) n → (s : State) → IsState m s → region (seen_in x) (pin_for table n) s ≡ node_states m order nodes n s
  one_same n has s is =
      let coded : value_of nodes n (code (coding_in x) s) ≡ node_states m order nodes n s = ap (λ (c : Coding). value_of nodes n (code c s)) coding in
      same_bool (region (seen_in x) (pin_for table n) s) (node_states m order nodes n s)
      (λ e. sym coded ∙ ((has.states s).0 e).1)
      (λ e. (has.states s).1 (subst (λ (k : System). IsState k s) (sym over) is, coded ∙ e))

  pub all_same : (numbers : List ℕ) → HaveNumbers x nodes table numbers → All (Same m (λ n. region (seen_in x) (pin_for table n)) (node_states m order nodes)) numbers
  all_same [] have = All-nil (Same m (λ n. region (seen_in x) (pin_for table n)) (node_states m order nodes))
  all_same (n ∷ numbers) have =
      All-cons (Same m (λ n. region (seen_in x) (pin_for table n)) (node_states m order nodes)) n numbers
      (one_same n (All-head (λ number. HasNumber x nodes (slice_index table number) number) n numbers have))
      (all_same numbers (All-tail (λ number. HasNumber x nodes (slice_index table number) number) n numbers have))

module _ (m : System) (f : Ctl) (sets : Sets) (table : List ℕ) (h : ℕ → StateSet) (p : Proof ℕ) (shape : IsInShape m f p)
    (agree : All (Same m (λ n. region sets (pin_for table n)) h) (sets_of p)) where
  pub found_there : (r : Option ℕ) → IsFound m (obligations m f (over_states sets (pinned table p))) r → IsFound m (obligations m f (map_proof h p)) r
  found_there None all =
      (pinned_proves m f sets table h p agree shape (record { shape = shape_kept (region sets) m f (pinned table p) (shape_kept (pin_for table) m f p shape); lines = all })).lines
  found_there (Some count) bad = (bad.0, pinned_fails m f sets table h p agree bad.0 bad.1, bad.2)
