-- Rows that are tested in turn, with one pin for what is left.
use Rattle.std.proofs.Common.{◌≡◌, ℕ, ◌+◌, ◌<◌, ◌≤◌, Bool, true, false, List, [], ◌∷◌, length, drop, get_or, Result, Ok, refl, sym, ap, subst, arith}
use Rattle.std.specs.Prelude.{IsTrue, ◌↔◌}
use Rattle.std.proofs.lemmas.Bool.{false≢true}
use Rattle.std.proofs.lemmas.List.{at_drop_all, at_drop_more}
use Rattle.kripke_model.specs.System.{System, State}
use Rattle.kripke_model.specs.Step.{IsState}
use Rattle.path_laws.specs.StateSet.{StateSet}
use Rattle.region_sets.specs.declared.pins.SetRefusal.{SetRefusal}
use Rattle.region_sets.specs.Sets.{Sets, Adds, In, IsCall, Stands, has_state, region}
use Rattle.region_sets.specs.Ranks.{AreLive}
use Rattle.region_sets.proofs.Slots.{is_one_of-first}
use Rattle.region_sets.proofs.Changes.{stays}
use Rattle.region_sets.proofs.Calls.{holds_more, let_go, stays_over_release, then_call}
use Rattle.fair_fixpoint.proofs.Lists.{to_ok}
use Rattle.trace_loop.proofs.Legs.{HasStates}
use Rattle.strong_fair.specs.declared.certificate.Row as declared
use Rattle.strong_fair.specs.Pinned.{over_rows, row_slots}
use Rattle.strong_fair.specs.Shows.{Left, InRow, RowShows, Behind, RowsShow}
use Rattle.strong_fair.specs.Strong.{Pair}
use Rattle.strong_fair.proofs.RowLists.{row_among}
use Rattle.strong_fair.proofs.Alike.{AreSame, rows_same, same_back}

module _ (start : Sets) (pairs : List Pair) (inside : ℕ) (rows : List declared.Row) where
  -- the rows show what they have to where those from place i on do, of what is left
  abbrev pub AreLed : Sets → ℕ → ℕ → Type 0
  AreLed now left i = RowsShow start.over pairs (In start inside) (over_rows start rows) ↔ RowsShow start.over pairs (In now left) (over_rows start (drop i rows))

  pub record IsTaking (now : Sets) (left i : ℕ) : Type 0 where
    pub call : IsCall 8 {T = Unit {0}} start now (left ∷ []) (Ok tt)
    pub led : AreLed now left i

  pub taking_none : {U : Type 0} {r : Result U SetRefusal} (now : Sets) (left : ℕ) → IsCall 1 start now (left ∷ []) r → Stands now left (In start inside) → IsTaking now left 0
  taking_none now left call g = record {
    call = to_ok tt (holds_more 8 (omega arith) call);
    led = (
      rows_same start.over pairs (In start inside) (In now left) (over_rows start rows) (same_back (In now left) (In start inside) g),
      rows_same start.over pairs (In now left) (In start inside) (over_rows start rows) g,
    );
  }

  module _ (mid : Sets) (left i : ℕ) (d : declared.Row) (taking : IsTaking mid left i) (live : AreLive start (row_slots rows)) (lt : i < length rows) where
    abbrev row : declared.Row
    row = get_or rows i d

    abbrev Shown : System → StateSet → Type 0
    Shown m set = RowShows m pairs (In mid left) (InRow set (In mid left)) row.reason

    abbrev Rest : System → StateSet → Left
    Rest m set = Behind m pairs (In mid left) (InRow set (In mid left)) row.reason

    same_set : region mid row.set ≡ region start row.set
    same_set = ap has_state (stays taking.call.pins row.set.slot (live row.set.slot (row_among rows i d lt)))

    -- the row in front of the others
    drop_is : drop i rows ≡ row ∷ drop (i + 1) rows
    drop_is = at_drop_more (λ rs. rs) rows i d lt

    abbrev Others : Type 0
    Others = RowsShow start.over pairs (Rest start.over (region start row.set)) (over_rows start (drop (i + 1) rows))

    to_front : RowsShow start.over pairs (In mid left) (over_rows start (drop i rows)) → Shown start.over (region start row.set) × Others
    to_front shows = subst (λ rs. RowsShow start.over pairs (In mid left) (over_rows start rs)) drop_is shows

    from_front : Shown start.over (region start row.set) × Others → RowsShow start.over pairs (In mid left) (over_rows start (drop i rows))
    from_front shows = subst (λ rs. RowsShow start.over pairs (In mid left) (over_rows start rs)) (sym drop_is) shows

    pub taking_stops : (Shown mid.over (region mid row.set) → ⊥) → IsTrue false ↔ RowsShow start.over pairs (In start inside) (over_rows start rows)
    taking_stops fails = (
      λ e. absurd (false≢true e),
      λ shows.
          let front = to_front (taking.led.0 shows) in
          absurd (fails (subst (λ (m : System). Shown m (region mid row.set)) (sym taking.call.pins.over) (subst (λ (set : StateSet). Shown start.over set) (sym same_set) front.0))),
    )

    module _ (after now : Sets) (rest : ℕ) (shown : Shown mid.over (region mid row.set)) (g : Stands after rest (Rest mid.over (region mid row.set))) where
      stands : Stands after rest (Rest start.over (region start row.set))
      stands = subst (λ (set : StateSet). Stands after rest (Rest start.over set)) same_set (subst (λ (m : System). Stands after rest (Rest m (region mid row.set))) taking.call.pins.over g)

      shown_start : Shown start.over (region start row.set)
      shown_start = subst (λ (set : StateSet). Shown start.over set) same_set (subst (λ (m : System). Shown m (region mid row.set)) taking.call.pins.over shown)

      pub taking_more : {U : Type 0} {r : Result U SetRefusal} → IsCall 5 mid after (rest ∷ []) r → Adds now after (left ∷ []) → now.fulls ≡ after.fulls → IsTaking now rest (i + 1)
      taking_more {U} {r} call out fulls =
          let both = then_call 8 taking.call call (omega arith) (omega arith) in
          let same : now.pins rest ≡ after.pins rest = stays_over_release (rest ∷ []) both.pins out rest (is_one_of-first rest []) in
          let here : AreSame (In now rest) (Rest start.over (region start row.set)) = λ s. (
            λ h. (stands s).0 (subst (λ o. has_state o s ≡ true) same h),
            λ h. subst (λ o. has_state o s ≡ true) (sym same) ((stands s).1 h),
          ) in
          let others = over_rows start (drop (i + 1) rows) in
          record {
            call = to_ok tt (let_go {xs = left ∷ []} {ys = rest ∷ []} both out fulls);
            led = (
              λ shows. rows_same start.over pairs (Rest start.over (region start row.set)) (In now rest) others (same_back (In now rest) (Rest start.over (region start row.set)) here) (to_front (taking.led.0 shows)).1,
              λ shows. taking.led.1 (from_front (shown_start, rows_same start.over pairs (In now rest) (Rest start.over (region start row.set)) others here shows)),
            );
          }

  -- behind all rows nothing may be left
  pub taking_done : (now : Sets) (left i : ℕ) (empty : Bool) → IsTaking now left i → length rows ≤ i → HasStates now
      → (empty ≡ true → (s : State) → ¬ In now left s) → (empty ≡ false → (s : State) × In now left s) → IsTrue empty ↔ RowsShow start.over pairs (In start inside) (over_rows start rows)
  taking_done now left i true taking end states clear some = (
    λ e. taking.led.1 (subst (λ rs. RowsShow start.over pairs (In now left) rs) (sym (at_drop_all (over_rows start) rows i end)) (λ s is_state h. clear refl s h)),
    λ h. refl,
  )
  taking_done now left i false taking end states clear some = (
    λ e. absurd (false≢true e),
    λ h.
        let none = subst (λ rs. RowsShow start.over pairs (In now left) rs) (at_drop_all (over_rows start) rows i end) (taking.led.0 h) in
        let s = some refl in
        absurd (none s.0 (subst (λ (m : System). IsState m s.0) taking.call.pins.over (states left s.0 s.1)) s.1),
  )
