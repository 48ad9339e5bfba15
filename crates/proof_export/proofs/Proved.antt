-- What a block over the nodes of a list proves, where the list's roots have the states of a
-- proof's sets.
use Rattle.std.proofs.Common.{◌≡◌, ℕ, ◌<◌, true, false, List, length, Option, Some, None}
use Rattle.std.proofs.Common.{refl, sym, subst, arith}
use Rattle.std.specs.Prelude.{◌↔◌, Bool, IsSomeAnd, slice_index}
use Rattle.std.specs.List.{slice_index_or}
use Rattle.std.proofs.lemmas.List.{length-map, get_or-map}
use Rattle.bdd_nodes.specs.declared.triple.Triple.{Triple}
use Rattle.kripke_model.specs.Step.{IsState}
use Rattle.kripke_model.specs.System.{System, State}
use Rattle.path_laws.specs.StateSet.{StateSet}
use Rattle.region_sets.specs.declared.pins.Pin.{Pin}
use Rattle.region_sets.specs.Sets.{Sets, In, region}
use Rattle.proof_form.specs.Agrees.{SameOn}
use Rattle.proof_form.specs.Form.{Proof, map_proof, sets_of}
use Rattle.proof_form.specs.Meaning.{IsProofOf, ProvesSpec}
use Rattle.proof_form.specs.Pinned.{IsFilled, over_states, proof_slots}
use Rattle.proof_form.specs.Shape.{IsInShape, spec_formula}
use Rattle.proof_form.proofs.Filled.{filled_proves}
use Rattle.proof_form.proofs.KeptShapes.{shape_back}
use Rattle.proof_text.specs.Meaning.{node_set}

same_bool : (a b : Bool) → (a ≡ true → b ≡ true) → (b ≡ true → a ≡ true) → a ≡ b
same_bool true b f g = sym (f refl)
same_bool false true f g = g refl
same_bool false false f g = refl

some_kept : {A : Type 0} (P Q : A → Type 0) (o : Option A) → ((x : A) → P x → Q x)
    → IsSomeAnd o P → IsSomeAnd o Q
some_kept P Q None step h = h
some_kept P Q (Some x) step h = step x h

no_pin : Pin
no_pin = record { slot = 0 }

-- each root has value 1 at the codes of the states of the proof's set at its place
abbrev pub RootsHave : System → List ℕ → Sets → Proof Pin → List Triple → List ℕ → Type 0
RootsHave m order sets p nodes roots = (k : ℕ) → k < length (proof_slots p) → (s : State)
    → In sets (slice_index (proof_slots p) k) s
    ↔ (IsState m s × (node_set m order nodes (slice_index roots k) s ≡ true))

module _ (m : System) (order : List ℕ) (sets : Sets) (p : Proof Pin) (nodes : List Triple)
    (roots : List ℕ) (q : Proof ℕ) (filled : IsFilled p roots q)
    (have : RootsHave m order sets p nodes roots) where
  -- the states of a set, by the codes of states
  abbrev coded : ℕ → StateSet
  coded r = node_set m order nodes r

  abbrev set_at : ℕ → Pin
  set_at k = slice_index_or (sets_of p) k no_pin

  same_states : (k : ℕ) → k < length (sets_of p)
      → SameOn m (region sets (set_at k)) (coded (slice_index_or roots k 0))
  same_states k lt s is =
      let at : slice_index (proof_slots p) k ≡ (set_at k).slot =
      get_or-map (λ (pin : Pin). pin.slot) (sets_of p) k no_pin 0 lt in
      let less : k < length (proof_slots p) =
      omega (arith, lt, length-map (sets_of p) (λ (pin : Pin). pin.slot)) in
      same_bool (region sets (set_at k) s) (coded (slice_index_or roots k 0) s)
      (λ e. ((have k less s).0 (subst (λ slot. In sets slot s) (sym at) e)).1)
      (λ e. subst (λ slot. In sets slot s) at ((have k less s).1 (is, e)))

  -- the proof over the roots shows what the proof over the pins' states does
  pub roots_prove : (j : ℕ) → ProvesSpec m j (over_states sets p)
      → ProvesSpec m j (map_proof (node_set m order nodes) q)
  roots_prove j proves =
      some_kept (λ f. IsProofOf m f (over_states sets p)) (λ f. IsProofOf m f (map_proof coded q))
      (spec_formula m j)
      (λ f. filled_proves m f p roots q filled (region sets) coded no_pin same_states) proves

  -- so it is in shape
  pub roots_in_shape : (j : ℕ) → ProvesSpec m j (over_states sets p)
      → IsSomeAnd (spec_formula m j) (λ f. IsInShape m f q)
  roots_in_shape j proves =
      some_kept (λ f. IsProofOf m f (map_proof coded q)) (λ f. IsInShape m f q) (spec_formula m j)
      (λ f shown. shape_back coded m f q shown.shape) (roots_prove j proves)
