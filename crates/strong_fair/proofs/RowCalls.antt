-- What the calls on one row give, and what they leave as it was.
use Rattle.std.proofs.Common.{◌≡◌, ℕ, true, List, [], ◌∷◌, Option, Some, None, Result, Ok, Err, sym, subst}
use Rattle.std.specs.Prelude.{All, IfOk}
use Rattle.kripke_model.specs.Leaves.{IsModelLeaf}
use Rattle.kripke_model.specs.System.{System}
use Rattle.path_laws.specs.StateSet.{StateSet}
use Rattle.region_sets.specs.declared.pins.Pin.{Pin}
use Rattle.region_sets.specs.declared.pins.SetRefusal.{SetRefusal}
use Rattle.region_sets.specs.Sets.{Sets, Adds, In, IsLive, Stands, has_state, region, option_slots}
use Rattle.region_sets.specs.Ranks.{AreLive, regions, slots}
use Rattle.region_sets.proofs.Slots.{is_one_of-first}
use Rattle.region_sets.proofs.Changes.{adds_after, stays}
use Rattle.region_sets.proofs.Calls.{In-at, regions-same, stays_over_release}
use Rattle.fair_fixpoint.specs.Fairness.{AreConstraints}
use Rattle.strong_fair.specs.declared.certificate.Reason.{Reason}
use Rattle.strong_fair.specs.Shows.{Left, InRow, RowShows, Behind}
use Rattle.strong_fair.specs.Strong.{Pair}
use Rattle.strong_fair.specs.Tests.{IsLeft}
use Rattle.strong_fair.proofs.Alike.{AreSame, behind_same, row_same, same_back}

-- the sets of the constraints are still those of the model
pub still_made : (a b : Sets) (visits : List Pin) (xs : List ℕ) → Adds a b xs → AreLive a (slots visits) → AreConstraints a.over (regions a visits) → AreConstraints b.over (regions b visits)
still_made a b visits xs p live made =
    subst (λ (m : System). AreConstraints m (regions b visits)) (sym p.over)
    (subst (λ (sets : List StateSet). AreConstraints a.over sets) (sym (regions-same a b visits (λ k e. stays p k (live k e)))) made)

abbrev pub HasLeaves : System → List Pair → Type 0
HasLeaves m pairs = All (λ pair. IsModelLeaf m pair.p × IsModelLeaf m pair.q) pairs

pub still_leaves : (a b : Sets) (pairs : List Pair) (xs : List ℕ) → Adds a b xs → HasLeaves a.over pairs → HasLeaves b.over pairs
still_leaves a b pairs xs p leaves = subst (λ (m : System). HasLeaves m pairs) (sym p.over) leaves

-- s0, then the row's set is met with what is left, then the row is tested, then the meeting is released
module _ (s0 s1 s2 s3 : Sets) (pairs : List Pair) (left here : ℕ) (set : Pin) (reason : Reason) (left_live : IsLive s0 left)
    (met : Adds s0 s1 (here ∷ [])) (g : Stands s1 here (λ s. In s0 set.slot s × In s0 left s)) where
  abbrev T : Left
  T = InRow (region s0 set) (In s0 left)

  same_left : AreSame (In s1 left) (In s0 left)
  same_left s = In-at s0 s1 left s (stays met left left_live)

  pub row_left : (q : Result (Option Pin) SetRefusal) → Adds s1 s2 (option_slots q) → Adds s3 s2 (here ∷ [])
      → IfOk q (IsLeft (RowShows s1.over pairs (In s1 left) (In s1 here) reason) (Behind s1.over pairs (In s1 left) (In s1 here) reason) s2)
      → IfOk q (IsLeft (RowShows s0.over pairs (In s0 left) T reason) (Behind s0.over pairs (In s0 left) T reason) s3)
  row_left (Err refusal) tested out answer = tt
  row_left (Ok None) tested out answer = λ shows.
      answer (subst (λ (m : System). RowShows m pairs (In s1 left) (In s1 here) reason) (sym met.over)
      (row_same s0.over pairs (In s0 left) (In s1 left) T (In s1 here) reason (same_back (In s1 left) (In s0 left) same_left) (same_back (In s1 here) T g) shows))
  row_left (Ok (Some pin)) tested out (shows, behind) =
      let same : s3.pins pin.slot ≡ s2.pins pin.slot = stays_over_release (pin.slot ∷ []) (adds_after met tested) out pin.slot (is_one_of-first pin.slot []) in
      let rest = subst (λ (m : System). Stands s2 pin.slot (Behind m pairs (In s1 left) (In s1 here) reason)) met.over behind in
      let alike = behind_same s0.over pairs (In s1 left) (In s0 left) (In s1 here) T reason same_left g in (
        row_same s0.over pairs (In s1 left) (In s0 left) (In s1 here) T reason same_left g (subst (λ (m : System). RowShows m pairs (In s1 left) (In s1 here) reason) met.over shows),
        λ s. (
          λ h. (alike s).0 ((rest s).0 (subst (λ o. has_state o s ≡ true) same h)),
          λ h. subst (λ o. has_state o s ≡ true) (sym same) ((rest s).1 ((alike s).1 h)),
        ),
      )
