-- A certificate over sets that have the same states of the model.
use Rattle.std.proofs.Common.{◌≡◌, true, List, [], ◌∷◌, Option, None, Some, sym, subst}
use Rattle.std.specs.Prelude.{IsSomeAnd}
use Rattle.state_reach.specs.Closed.{IsClosed}
use Rattle.state_reach.specs.States.{HoldsAt}
use Rattle.kripke_model.specs.Step.{IsState}
use Rattle.kripke_model.specs.System.{System, State}
use Rattle.path_laws.specs.StateSet.{StateSet, ◌∈◌}
use Rattle.proof_form.specs.Agrees.{SameOn}
use Rattle.strong_fair.specs.Form.{Certificate, Row}
use Rattle.strong_fair.specs.Shows.{Behind, HasNone, InRow, IsCertificate, Left, RowShows, RowsShow, Stays, Takes, pair_at}
use Rattle.strong_fair.specs.Strong.{Pair}
use Rattle.strong_fair.specs.declared.certificate.Reason.{Reason}
use Rattle.strong_fair.specs.declared.certificate.Reason.TheVariants as reasons

-- rows with the same reasons, whose sets have the same states
abbrev pub AreSameRows : System → List (Row StateSet) → List (Row StateSet) → Type 0
AreSameRows m [] [] = Unit {0}
AreSameRows m [] (b ∷ bs) = ⊥
AreSameRows m (a ∷ rest) [] = ⊥
AreSameRows m (a ∷ rest) (b ∷ bs) = (a.reason ≡ b.reason) × SameOn m a.set b.set × AreSameRows m rest bs

module _ (m : System) (pairs : List Pair) where
  -- the same states of the model
  abbrev Same : Left → Left → Type 0
  Same P Q = (s : State) → IsState m s → (P s → Q s) × (Q s → P s)

  same_in : (set other : StateSet) → SameOn m set other → Same (λ s. s ∈ set) (λ s. s ∈ other)
  same_in set other same s is =
      (λ e. subst (λ b. b ≡ true) (same s is) e, λ e. subst (λ b. b ≡ true) (sym (same s is)) e)

  same_row : (set other : StateSet) (W V : Left) → SameOn m set other → Same W V
      → Same (InRow set W) (InRow other V)
  same_row set other W V sets left s is =
      let i = same_in set other sets s is in
      let l = left s is in
      (λ h. (i.0 h.0, l.0 h.1), λ h. (i.1 h.0, l.1 h.1))

  none_same : (T U : Left) (P : State → Type 0) → Same T U → HasNone m T P → HasNone m U P
  none_same T U P same none s is here p = none s is ((same s is).1 here) p

  stay_same : (T U W V : Left) → Same T U → Same W V → Stays m T W → Stays m U V
  stay_same T U W V here left stays s t is next from step goes =
      (here t next).0 (stays s t is next ((here s is).1 from) step ((left t next).1 goes))

  pair_same : (T U : Left) (o : Option Pair) → Same T U
      → IsSomeAnd o (λ pair. HasNone m T (HoldsAt m pair.q))
      → IsSomeAnd o (λ pair. HasNone m U (HoldsAt m pair.q))
  pair_same T U (Some pair) same none = none_same T U (HoldsAt m pair.q) same none
  pair_same T U None same none = none

  row_same : (W V T U : Left) (reason : Reason) → Same W V → Same T U
      → RowShows m pairs W T reason → RowShows m pairs V U reason
  row_same W V T U reasons.Dead left here shows = λ s t is next from step goes.
      shows s t is next ((here s is).1 from) step ((left t next).1 goes)
  row_same W V T U (reasons.Avoid k) left here (known, stays, none) =
      (known, stay_same T U W V here left stays, none_same T U _ here none)
  row_same W V T U (reasons.Pair i) left here (stays, none) =
      (stay_same T U W V here left stays, pair_same T U (pair_at pairs i) here none)

  takes_same : (T U : Left) (reason : Reason) → Same T U
      → Same (Takes m pairs T reason) (Takes m pairs U reason)
  takes_same T U reasons.Dead same s is = same s is
  takes_same T U (reasons.Avoid k) same s is = same s is
  takes_same T U (reasons.Pair i) same s is =
      let t = same s is in (λ h. (t.0 h.0, h.1), λ h. (t.1 h.0, h.1))

  behind_same : (W V T U : Left) (reason : Reason) → Same W V → Same T U
      → Same (Behind m pairs W T reason) (Behind m pairs V U reason)
  behind_same W V T U reason left here s is =
      let takes = takes_same T U reason here s is in
      let l = left s is in
      (λ h. (l.0 h.0, λ k. h.1 (takes.1 k)), λ h. (l.1 h.0, λ k. h.1 (takes.0 k)))

  rows_same : (W V : Left) (rows others : List (Row StateSet)) → Same W V
      → AreSameRows m rows others → RowsShow m pairs W rows → RowsShow m pairs V others
  rows_same W V [] [] left same shows = λ s is here. shows s is ((left s is).1 here)
  rows_same W V [] (b ∷ bs) left same shows = absurd same
  rows_same W V (a ∷ rest) [] left same shows = absurd same
  rows_same W V (a ∷ others) (b ∷ bs) left (reason, set, rest) (here, behind) =
      let T : Left = InRow a.set W in
      let U : Left = InRow b.set V in
      let in_row : Same T U = same_row a.set b.set W V set left in
      let shown = row_same W V T U a.reason left in_row here in
      let next = rows_same (Behind m pairs W T a.reason) (Behind m pairs V U a.reason) others bs
      (behind_same W V T U a.reason left in_row) rest behind in
      subst (λ r. RowShows m pairs V U r × RowsShow m pairs (Behind m pairs V U r) bs) reason
      (shown, next)

  closed_same : (set other : StateSet) → SameOn m set other → IsClosed m set → IsClosed m other
  closed_same set other same closed = record {
    initials = λ s is initial. (same_in set other same s is).0 (closed.initials s is initial);
    nexts = λ s is here t next step.
        (same_in set other same t next).0
        (closed.nexts s is ((same_in set other same s is).1 here) t next step);
  }

  pub certificate_same : (c d : Certificate StateSet) → SameOn m c.inside d.inside
      → AreSameRows m c.rows d.rows → IsCertificate m pairs c → IsCertificate m pairs d
  certificate_same c d inside rows shows = record {
    closed = closed_same c.inside d.inside inside shows.closed;
    rows = rows_same (λ s. s ∈ c.inside) (λ s. s ∈ d.inside) c.rows d.rows
        (same_in c.inside d.inside inside) rows shows.rows;
  }
