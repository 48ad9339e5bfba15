-- Rows show the same of the same states.
use Rattle.std.proofs.Common.{List, [], ◌∷◌, Option, None, Some}
use Rattle.std.specs.Prelude.{IsSomeAnd, ◌↔◌}
use Rattle.kripke_model.specs.System.{System, State}
use Rattle.path_laws.specs.StateSet.{StateSet}
use Rattle.state_reach.specs.States.{HoldsAt}
use Rattle.strong_fair.specs.declared.certificate.Reason.{Reason}
use Rattle.strong_fair.specs.declared.certificate.Reason.TheVariants as reasons
use Rattle.strong_fair.specs.Form.{Row}
use Rattle.strong_fair.specs.Shows.{Left, pair_at, InRow, HasNone, Stays, RowShows, Takes, Behind, RowsShow}
use Rattle.strong_fair.specs.Strong.{Pair}

-- the same states
abbrev pub AreSame : Left → Left → Type 0
AreSame P Q = (s : State) → P s ↔ Q s

pub same_back : (P Q : Left) → AreSame P Q → AreSame Q P
same_back P Q same s = ((same s).1, (same s).0)

pub same_row : (set : StateSet) (W V : Left) → AreSame W V → AreSame (InRow set W) (InRow set V)
same_row set W V same s = (λ h. (h.0, (same s).0 h.1), λ h. (h.0, (same s).1 h.1))

module _ (m : System) (pairs : List Pair) where
  none_same : (T U : Left) (P : State → Type 0) → AreSame T U → HasNone m T P → HasNone m U P
  none_same T U P same none s is_state here p = none s is_state ((same s).1 here) p

  stay_same : (T U W V : Left) → AreSame T U → AreSame W V → Stays m T W → Stays m U V
  stay_same T U W V here left stays s t is_state next_state from step goes = (here t).0 (stays s t is_state next_state ((here s).1 from) step ((left t).1 goes))

  pair_same : (T U : Left) (o : Option Pair) → AreSame T U → IsSomeAnd o (λ pair. HasNone m T (HoldsAt m pair.q)) → IsSomeAnd o (λ pair. HasNone m U (HoldsAt m pair.q))
  pair_same T U (Some pair) same none = none_same T U (HoldsAt m pair.q) same none
  pair_same T U None same none = none

  pub row_same : (W V T U : Left) (reason : Reason) → AreSame W V → AreSame T U → RowShows m pairs W T reason → RowShows m pairs V U reason
  row_same W V T U reasons.Dead left here shows = λ s t is_state next_state from step goes. shows s t is_state next_state ((here s).1 from) step ((left t).1 goes)
  row_same W V T U (reasons.Avoid k) left here (known, stays, none) = (known, stay_same T U W V here left stays, none_same T U _ here none)
  row_same W V T U (reasons.Pair i) left here (stays, none) = (stay_same T U W V here left stays, pair_same T U (pair_at pairs i) here none)

  takes_same : (T U : Left) (reason : Reason) → AreSame T U → AreSame (Takes m pairs T reason) (Takes m pairs U reason)
  takes_same T U reasons.Dead same s = same s
  takes_same T U (reasons.Avoid k) same s = same s
  takes_same T U (reasons.Pair i) same s = (λ h. ((same s).0 h.0, h.1), λ h. ((same s).1 h.0, h.1))

  pub behind_same : (W V T U : Left) (reason : Reason) → AreSame W V → AreSame T U → AreSame (Behind m pairs W T reason) (Behind m pairs V U reason)
  behind_same W V T U reason left here s =
      let takes = takes_same T U reason here s in
      (λ h. ((left s).0 h.0, λ k. h.1 (takes.1 k)), λ h. ((left s).1 h.0, λ k. h.1 (takes.0 k)))

  pub rows_same : (W V : Left) (rows : List (Row StateSet)) → AreSame W V → RowsShow m pairs W rows → RowsShow m pairs V rows
  rows_same W V [] same shows = λ s is_state left. shows s is_state ((same s).1 left)
  rows_same W V (row ∷ rows) same (here, rest) = (
    row_same W V (InRow row.set W) (InRow row.set V) row.reason same (same_row row.set W V same) here,
    rows_same (Behind m pairs W (InRow row.set W) row.reason) (Behind m pairs V (InRow row.set V) row.reason) rows
        (behind_same W V (InRow row.set W) (InRow row.set V) row.reason same (same_row row.set W V same)) rest,
  )
