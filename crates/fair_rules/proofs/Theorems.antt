-- A proof that meets its obligations shows where a formula is true and where it is false.
use Rattle.std.proofs.Common.{◌≡◌, ◌⊎◌, ◌↔◌, inl, inr, ℕ, true, false, List, length, sym, subst}
use Rattle.kripke_model.specs.Ctl.{Ctl}
use Rattle.kripke_model.specs.System.{System, State}
use Rattle.kripke_model.specs.Step.{IsState}
use Rattle.kripke_model.specs.Path.{Lasso, at, IsPath}
use Rattle.kripke_model.specs.Truth.{FreeSat, IsFair, Sat, Initials}
use Rattle.path_laws.specs.StateSet.{StateSet, ◌∈◌}
use Rattle.fair_rules.specs.SetLists.{IsInside}
use Rattle.path_laws.specs.Fairness.{ConstraintHolds}
use Rattle.fair_rules.specs.ConstraintSets.{AreConstraintSets}
use Rattle.path_laws.specs.Fairness.{IsFairOver}
use Rattle.fair_rules.specs.Rules.{Layer, InSomeLayer, AreNonfair, IsFairSet}
use Rattle.fair_rules.specs.Claims.{Proof, claimed, IsProof, ClaimsTrue, ClaimsFalse}
use Rattle.fair_rules.proofs.ClaimsSound.{BothSigns, claims_sound}
use Rattle.fair_rules.proofs.FairSets.{fair_set_sound}
use Rattle.fair_rules.proofs.LassoWalk.{walk_over}
use Rattle.fair_rules.proofs.Layers.{nonfair_sound}
use Rattle.path_laws.proofs.FairLasso.{to_fair}
use Rattle.fair_rules.proofs.PathKinds.{from_fair, from_path, to_path}
use Rattle.fair_rules.proofs.SameTruth.{same_truth}

module _ (m : System) (visited avoided : List StateSet) (sets : AreConstraintSets m (length m.constraints) (ConstraintHolds m) visited avoided) where
  pub positive_sound : (p : Proof) (f : Ctl) (n : ℕ) → IsProof m visited avoided p f n → IsInside m (claimed m p f n true) (Sat m f)
  positive_sound p f n proof s is_state inside =
      (same_truth m (IsFairOver m (length m.constraints) (ConstraintHolds m)) (IsFair m) (to_fair m) (from_fair m) f s).0
      ((claims_sound m (length m.constraints) (ConstraintHolds m) visited avoided sets p proof.nonfair proof.fair f n proof.entries).0 s is_state inside)

  pub negative_sound : (p : Proof) (f : Ctl) (n : ℕ) → IsProof m visited avoided p f n → IsInside m (claimed m p f n false) (λ s. Sat m f s → ⊥)
  negative_sound p f n proof s is_state inside sat =
      (claims_sound m (length m.constraints) (ConstraintHolds m) visited avoided sets p proof.nonfair proof.fair f n proof.entries).1 s is_state inside
      ((same_truth m (IsFairOver m (length m.constraints) (ConstraintHolds m)) (IsFair m) (to_fair m) (from_fair m) f s).1 sat)

  pub true_claim_sound : (p : Proof) (f : Ctl) (n : ℕ) → IsProof m visited avoided p f n → ClaimsTrue m p f n → Initials m f
  true_claim_sound p f n proof claim s is_state initial = positive_sound p f n proof s is_state (claim s is_state initial)

  pub false_claim_sound : (p : Proof) (f : Ctl) (n : ℕ) (s : State) → IsProof m visited avoided p f n → ClaimsFalse m p f n s → Initials m f → ⊥
  false_claim_sound p f n s proof claim all = negative_sound p f n proof s claim.0 claim.2 (all s claim.0 claim.1)

  -- where both sets together have every state, they are exact
  pub positive_exact : (p : Proof) (f : Ctl) (n : ℕ) → IsProof m visited avoided p f n → ((s : State) → IsState m s → (s ∈ claimed m p f n true) ⊎ (s ∈ claimed m p f n false))
      → (s : State) → IsState m s → (s ∈ claimed m p f n true) ↔ Sat m f s
  positive_exact p f n proof cover s is_state = (
    positive_sound p f n proof s is_state,
    λ sat. elim (cover s is_state) [ inl inside ↦ inside | inr out ↦ absurd (negative_sound p f n proof s is_state out sat) ],
  )

  pub negative_exact : (p : Proof) (f : Ctl) (n : ℕ) → IsProof m visited avoided p f n → ((s : State) → IsState m s → (s ∈ claimed m p f n true) ⊎ (s ∈ claimed m p f n false))
      → (s : State) → IsState m s → (s ∈ claimed m p f n false) ↔ (Sat m f s → ⊥)
  negative_exact p f n proof cover s is_state = (
    negative_sound p f n proof s is_state,
    λ unsat. elim (cover s is_state) [ inl inside ↦ absurd (unsat (positive_sound p f n proof s is_state inside)) | inr out ↦ out ],
  )

  pub no_fair_path : (layers : List Layer) → AreNonfair m avoided layers → (s : State) → InSomeLayer layers s → (p : Lasso) → IsFair m p → at p 0 ≡ s → ⊥
  no_fair_path layers nonfair s lost p is_fair starts =
      nonfair_sound m (length m.constraints) (ConstraintHolds m) visited avoided sets layers nonfair (at p)
      (walk_over m (length m.constraints) (ConstraintHolds m) p (from_fair m p is_fair)) 0 (subst (λ t. InSomeLayer layers t) (sym starts) lost)

  pub fair_path : (set : StateSet) (reaches : List (List StateSet)) → IsFairSet m visited set reaches
      → IsInside m set (λ s. (p : Lasso) × IsFair m p × (at p 0 ≡ s) × ((n : ℕ) → at p n ∈ set))
  fair_path set reaches fair s is_state inside =
      let b = fair_set_sound m (length m.constraints) (ConstraintHolds m) visited avoided sets set reaches fair s is_state inside in
      (b.0, to_fair m b.0 b.1, b.2, b.3)

  -- where a fair set and nonfair layers together have a state, a fair path begins there exactly where it is in the fair set
  pub fair_exact_at : (layers : List Layer) → AreNonfair m avoided layers → (set : StateSet) (reaches : List (List StateSet)) → IsFairSet m visited set reaches
      → (s : State) → IsState m s → (s ∈ set) ⊎ InSomeLayer layers s → (s ∈ set) ↔ ((p : Lasso) × IsFair m p × (at p 0 ≡ s))
  fair_exact_at layers nonfair set reaches fair s is_state cover = (
    λ inside. let b = fair_path set reaches fair s is_state inside in (b.0, b.1, b.2),
    λ (p, is_fair, starts). elim cover [
      | inl inside ↦ inside
      | inr lost ↦ absurd (no_fair_path layers nonfair s lost p is_fair starts)
    ],
  )

  -- so where they have every state, the fair set is where fair paths begin
  pub fair_exact : (layers : List Layer) → AreNonfair m avoided layers → (set : StateSet) (reaches : List (List StateSet)) → IsFairSet m visited set reaches
      → ((s : State) → IsState m s → (s ∈ set) ⊎ InSomeLayer layers s)
      → (s : State) → IsState m s → (s ∈ set) ↔ ((p : Lasso) × IsFair m p × (at p 0 ≡ s))
  fair_exact layers nonfair set reaches fair cover s is_state = fair_exact_at layers nonfair set reaches fair s is_state (cover s is_state)

-- the same over all paths: no constraint, so all states are visited
module _ (m : System) (C : ℕ → State → Type 0) (visited avoided : List StateSet) (sets : AreConstraintSets m 0 C visited avoided) where
  pub free_sound : (p : Proof) (f : Ctl) (n : ℕ) → IsProof m visited avoided p f n
      → IsInside m (claimed m p f n true) (FreeSat m f) × IsInside m (claimed m p f n false) (λ s. FreeSat m f s → ⊥)
  free_sound p f n proof =
      let h : BothSigns m 0 C visited avoided sets p proof.nonfair proof.fair f n = claims_sound m 0 C visited avoided sets p proof.nonfair proof.fair f n proof.entries in (
        λ s is_state inside. (same_truth m (IsFairOver m 0 C) (IsPath m) (to_path m C) (from_path m C) f s).0 (h.0 s is_state inside),
        λ s is_state inside sat. h.1 s is_state inside ((same_truth m (IsFairOver m 0 C) (IsPath m) (to_path m C) (from_path m C) f s).1 sat),
      )
