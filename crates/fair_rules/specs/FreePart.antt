-- Constraints that are formulas: a proof of each over all paths, and the sets that it claims.
use Rattle.std.specs.Prelude.{ℕ, ◌+◌, ◌<◌, Bool, true, false, List, [], ◌∷◌, length, map, slice_index_or}
use Rattle.kripke_model.specs.Ctl.{Ctl, formula_of}
use Rattle.kripke_model.specs.Signs.{node_count}
use Rattle.kripke_model.specs.System.{System, Condition}
use Rattle.path_laws.specs.StateSet.{StateSet}
use Rattle.fair_rules.specs.SetLists.{everything, nothing}
use Rattle.fair_rules.specs.Claims.{Proof, claimed, IsProof}
use Rattle.fair_rules.specs.LeafConstraints.{one_at_least}

-- the claimed sets of the constraints from number k on
abbrev pub claimed_from : System → (ℕ → Proof) → Bool → ℕ → List Condition → List StateSet
claimed_from m proofs sign k [] = []
claimed_from m proofs sign k (c ∷ cs)
    = claimed m (proofs k) (formula_of c.expr) 1 sign ∷ claimed_from m proofs sign (k + 1) cs

-- a proof of each constraint's formula, over one constraint that is true everywhere
abbrev pub AreFreeProofs : System → (ℕ → Proof) → Type 0
AreFreeProofs m proofs = (k : ℕ) (c : Condition) → k < length m.constraints
    → IsProof m (everything ∷ []) (nothing ∷ []) (proofs k)
    (formula_of (slice_index_or m.constraints k c).expr) 1

abbrev pub claimed_visited : System → (ℕ → Proof) → List StateSet
claimed_visited m proofs = one_at_least everything (claimed_from m proofs true 0 m.constraints)

abbrev pub claimed_avoided : System → (ℕ → Proof) → List StateSet
claimed_avoided m proofs = one_at_least nothing (claimed_from m proofs false 0 m.constraints)

-- ---- how large they are

-- the nodes of a formula that has a path operator; one that has none is a leaf
abbrev pub path_nodes : Ctl → ℕ
path_nodes (Ctl.Leaf e) = 0
path_nodes f = node_count f

abbrev pub path_nodes_of : List Ctl → ℕ
path_nodes_of [] = 0
path_nodes_of (f ∷ fs) = path_nodes f + path_nodes_of fs

-- and of all constraints that have one
abbrev pub constraint_nodes : System → ℕ
constraint_nodes m = path_nodes_of (map (λ c. formula_of c.expr) m.constraints)
