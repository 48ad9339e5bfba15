-- What the rules prove, as statements on a model.
use Rattle.std.specs.Prelude.{◌≡◌, ◌⊎◌, ◌↔◌, ℕ, true, false, List, length}
use Rattle.kripke_model.specs.Ctl.{Ctl}
use Rattle.kripke_model.specs.System.{System, State}
use Rattle.kripke_model.specs.Step.{IsState}
use Rattle.kripke_model.specs.Path.{Lasso, at}
use Rattle.kripke_model.specs.Truth.{IsFair, Sat, Initials}
use Rattle.path_laws.specs.StateSet.{StateSet, ◌∈◌}
use Rattle.fair_rules.specs.SetLists.{IsInside}
use Rattle.path_laws.specs.Fairness.{ConstraintHolds}
use Rattle.fair_rules.specs.ConstraintSets.{AreConstraintSets}
use Rattle.fair_rules.specs.Rules.{Layer, InSomeLayer, AreNonfair, IsFairSet}
use Rattle.fair_rules.specs.Claims.{Proof, claimed, IsProof, ClaimsTrue, ClaimsFalse}
use Rattle.fair_rules.specs.Block.{Block, IsProofBlock, ClaimHolds}
use Rattle.fair_rules.specs.FreePart.{AreFreeProofs, claimed_visited, claimed_avoided}
use Rattle.kripke_model.specs.Falsifies.{FalsifiesFrom}

-- states to visit and states to avoid for each constraint of the model
abbrev pub AreModelSets : System → List StateSet → List StateSet → Type 0
AreModelSets m visited avoided
    = AreConstraintSets m (length m.constraints) (ConstraintHolds m) visited avoided

-- no fair path begins in a nonfair layer
abbrev pub NonfairSound : System → Type 0
NonfairSound m
    = (visited avoided : List StateSet) → AreModelSets m visited avoided → (layers : List Layer)
    → AreNonfair m avoided layers
    → (s : State) → InSomeLayer layers s → (p : Lasso) → IsFair m p → at p 0 ≡ s → ⊥

-- from each state of a fair set a fair path begins that stays in the set
abbrev pub FairSetSound : System → Type 0
FairSetSound m
    = (visited avoided : List StateSet) → AreModelSets m visited avoided
    → (set : StateSet) (reaches : List (List StateSet)) → IsFairSet m visited set reaches
    → IsInside m set (λ s. (p : Lasso) × IsFair m p × (at p 0 ≡ s) × ((n : ℕ) → at p n ∈ set))

-- where a fair set and nonfair layers have every state, the set is where fair paths begin
abbrev pub FairSetExact : System → Type 0
FairSetExact m = (visited avoided : List StateSet) → AreModelSets m visited avoided
    → (layers : List Layer) → AreNonfair m avoided layers
    → (set : StateSet) (reaches : List (List StateSet)) → IsFairSet m visited set reaches
    → ((s : State) → IsState m s → (s ∈ set) ⊎ InSomeLayer layers s)
    → (s : State) → IsState m s → (s ∈ set) ↔ ((p : Lasso) × IsFair m p × (at p 0 ≡ s))

-- the claimed sets of a proof lie where the formula is true, and where it is false
abbrev pub ProofsSound : System → Type 0
ProofsSound m
    = (visited avoided : List StateSet) → AreModelSets m visited avoided
    → (p : Proof) (f : Ctl) (n : ℕ) → IsProof m visited avoided p f n
    → IsInside m (claimed m p f n true) (Sat m f)
    × IsInside m (claimed m p f n false) (λ s. Sat m f s → ⊥)

-- a proof's claim is true
abbrev pub ClaimsSound : System → Type 0
ClaimsSound m
    = (visited avoided : List StateSet) → AreModelSets m visited avoided
    → (p : Proof) (f : Ctl) (n : ℕ) → IsProof m visited avoided p f n
    → (ClaimsTrue m p f n → Initials m f) × ((s : State) → ClaimsFalse m p f n s → Initials m f → ⊥)

-- a block whose lines hold has a claim that holds
abbrev pub BlocksSound : System → Type 0
BlocksSound m
    = (visited avoided : List StateSet) → AreModelSets m visited avoided
    → (b : Block) (f : Ctl) (n : ℕ) → IsProofBlock m visited avoided b f n
    → ClaimHolds m f b.at

-- claimed sets that have every state are exact
abbrev pub ProofsExact : System → Type 0
ProofsExact m
    = (visited avoided : List StateSet) → AreModelSets m visited avoided
    → (p : Proof) (f : Ctl) (n : ℕ) → IsProof m visited avoided p f n
    → ((s : State) → IsState m s → (s ∈ claimed m p f n true) ⊎ (s ∈ claimed m p f n false))
    → (s : State) → IsState m s → ((s ∈ claimed m p f n true) ↔ Sat m f s)
    × ((s ∈ claimed m p f n false) ↔ (Sat m f s → ⊥))

-- proofs of the constraints' formulas over all paths give sets to visit and to avoid
abbrev pub FreeProofsSound : System → Type 0
FreeProofsSound m
    = (proofs : ℕ → Proof) → AreFreeProofs m proofs
    → AreModelSets m (claimed_visited m proofs) (claimed_avoided m proofs)

-- a formula that a fair path falsifies is false where the path begins
abbrev pub FalsifiedFalse : System → Type 0
FalsifiedFalse m
    = (p : Lasso) → IsFair m p → (f : Ctl) → FalsifiesFrom m (at p) f 0 → Sat m f (at p 0) → ⊥
