-- What the tests of a row's states give.
use Rattle.std.proofs.Common.{◌≡◌, inl, inr, ℕ, Bool, true, false, [], ◌∷◌, refl, subst}
use Rattle.std.specs.Prelude.{IsTrue, ◌↔◌}
use Rattle.std.proofs.lemmas.Bool.{cases_Bool, false≢true, both_ways}
use Rattle.kripke_model.specs.System.{System, State}
use Rattle.region_sets.specs.Sets.{Sets, Adds, In, IsLive, Stands, has_state}
use Rattle.region_sets.proofs.Changes.{stays}
use Rattle.region_sets.proofs.Calls.{In-at}
use Rattle.trace_loop.proofs.Legs.{HasStates}
use Rattle.state_reach.proofs.StepCalls.{StepsFrom}
use Rattle.strong_fair.specs.Shows.{HasNoStep, Stays}

pub no_step_answer : (s0 s1 : Sets) (from into leading : ℕ) (empty : Bool) → HasStates s0 → Stands s1 leading (StepsFrom s0 from into)
    → (empty ≡ true → (s : State) → ¬ In s1 leading s) → (empty ≡ false → (s : State) × In s1 leading s)
    → IsTrue empty ↔ HasNoStep s0.over (In s0 from) (In s0 into)
no_step_answer s0 s1 from into leading true states g clear some = (
  λ e s t is_state next_state here step goes. clear refl s ((g s).1 (here, (t, next_state, step, goes))),
  λ h. refl,
)
no_step_answer s0 s1 from into leading false states g clear some = (
  λ e. absurd (false≢true e),
  λ h.
      let w = some refl in
      let here = (g w.0).0 w.1 in
      let t = here.1 in
      absurd (h w.0 t.0 (states from w.0 here.0) t.1 here.0 t.2 t.3),
)

pub stays_answer : (s0 s1 : Sets) (here left outside : ℕ) (truth : Bool) → IsLive s0 here → Adds s0 s1 (outside ∷ [])
    → Stands s1 outside (λ s. In s0 left s × ¬ In s0 here s)
    → IsTrue truth ↔ HasNoStep s1.over (In s1 here) (In s1 outside)
    → IsTrue truth ↔ Stays s0.over (In s0 here) (In s0 left)
stays_answer s0 s1 here left outside truth live p g answer =
    let same : s1.pins here ≡ s0.pins here = stays p here live in
    let test = subst (λ (y : System). IsTrue truth ↔ HasNoStep y (In s1 here) (In s1 outside)) p.over answer in (
      λ e s t is_state next_state from step goes. elim (cases_Bool (has_state (s0.pins here) t)) [
        | inl there ↦ there
        | inr out ↦ absurd (test.0 e s t is_state next_state ((In-at s0 s1 here s same).1 from) step ((g t).1 (goes, λ k. both_ways (has_state (s0.pins here) t) out k)))
      ],
      λ stay. test.1 (λ s t is_state next_state from step goes.
          let out = (g t).0 goes in
          out.1 (stay s t is_state next_state ((In-at s0 s1 here s same).0 from) step out.0)),
    )
