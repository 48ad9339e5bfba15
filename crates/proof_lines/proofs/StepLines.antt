-- The lines of sets that lead to earlier ones, by the pins of a loop.
use Rattle.std.proofs.Common.{◌≡◌, ◌↔◌, Result, Ok, Err, ℕ, zero, suc, ◌+◌, ◌<◌, ◌≤◌, Bool, true, false, List, [], ◌∷◌, length, get_or, refl, sym, ◌∙◌, ap, subst, arith}
use Rattle.std.proofs.Math.ListN.{length-map}
use Rattle.std.specs.Prelude.{All, IfOk, IsTrue, ◌⊎◌}
use Rattle.path_laws.specs.StateSet.{StateSet}
use Rattle.region_sets.specs.declared.pins.Pin.{Pin}
use Rattle.region_sets.specs.declared.pins.SetRefusal.{SetRefusal}
use Rattle.region_sets.specs.Sets.{Sets, Adds, In, IsCall, IsLive, Stands, has_state, region}
use Rattle.region_sets.specs.Ranks.{AreLive, regions, slots}
use Rattle.region_sets.proofs.Changes.{stays, adds_after}
use Rattle.fair_rules.specs.Claims.{either}
use Rattle.fair_rules.specs.Checks.{Check, IsMet, step_lines}
use Rattle.proof_lines.specs.Tested.{AreTested, next_count, step_line}
use Rattle.claim_sets.proofs.Joined.{slot_at}
use Rattle.proof_lines.proofs.LayerLines.{two_met, last_met}
use Rattle.proof_lines.proofs.Passing.{AreLinesBy, IsGoing, going_none, going_more, going_fails, going_all, going_call, to_ok}
use Rattle.claim_sets.proofs.Regions.{joined, copy_is}

pub leads_line : (a b : Sets) (x p : Pin) (f target : StateSet) (r : Result Bool SetRefusal) → b.over ≡ a.over → region b x ≡ region a x → IsMet a.over (Check.Inside (region a x) f)
    → region b p ≡ target → IfOk r (λ good. IsTrue good ↔ IsMet b.over (Check.Leads (region b x) (region b p)))
    → IfOk r (λ good. IsTrue good ↔ All (IsMet a.over) (Check.Inside (region a x) f ∷ Check.Leads (region a x) target ∷ []))
leads_line a b x p f target (Err e) over is inside same h = tt
leads_line a b x p f target (Ok good) over is inside same h =
    let moved : IsMet b.over (Check.Leads (region b x) (region b p)) ≡ IsMet a.over (Check.Leads (region a x) target) = λ i. IsMet (over i) (Check.Leads (is i) (same i)) in (
      (λ e. two_met a.over (Check.Inside (region a x) f) (Check.Leads (region a x) target) inside (subst (λ (T : Type 0). T) moved (h.0 e))),
      (λ k. h.1 (subst (λ (T : Type 0). T) (sym moved) (last_met a.over (Check.Inside (region a x) f) (Check.Leads (region a x) target) k))),
    )

pub step_answer : (s0 s1 s2 : Sets) (f first earlier x p : Pin) (r : Result Bool SetRefusal)
    → IsLive s0 x.slot → Adds s0 s1 [] → IsMet s0.over (Check.Inside (region s0 x) (region s0 f)) → Adds s1 s2 (p.slot ∷ [])
    → Stands s2 p.slot (λ s. In s1 first.slot s ⊎ In s1 earlier.slot s)
    → IfOk r (λ good. IsTrue good ↔ IsMet s2.over (Check.Leads (region s2 x) (region s2 p)))
    → IfOk r (λ good. IsTrue good ↔ All (IsMet s0.over) (step_line (region s0 f) (region s0 first) (region s0 earlier) (region s0 x)))
step_answer s0 s1 s2 f first earlier x p r live none inside adds set h =
    let still : (x : Pin) → region s1 x ≡ region s0 x = λ x. ap has_state (none.kept x.slot refl) in
    leads_line s0 s2 x p (region s0 f) (either (region s0 first) (region s0 earlier)) r (adds.over ∙ none.over) (ap has_state (stays (adds_after none adds) x.slot live)) inside
    (joined s1 s2 p.slot first.slot earlier.slot set ∙ (λ i. either (still first i) (still earlier i))) h

-- ---- the loop over sets

module _ (start : Sets) (f first begun : Pin) (list : List Pin) (line0 : ℕ) where
  abbrev line : StateSet → StateSet → List Check
  line e x = step_line (region start f) (region start first) e x

  abbrev lines : StateSet → List StateSet → List (List Check)
  lines e xs = step_lines (region start f) (region start first) e xs

  by_steps : AreLinesBy (λ x. x) line lines
  by_steps = record { no_items = λ e. refl; one_more = λ e x xs. refl }

  abbrev pub IsStepping : Sets → ℕ → ℕ → Pin → Type 0
  IsStepping now k count earlier = IsGoing 4 start now lines (region start begun) (regions start list) line0 k count earlier

  pub stepping_none : (now : Sets) (earlier : Pin) → IsCall 1 start now (earlier.slot ∷ []) (Ok earlier) → Stands now earlier.slot (λ s. In start begun.slot s) → IsStepping now 0 line0 earlier
  stepping_none now earlier call set = going_none 4 start (λ x. x) line lines by_steps (region start begun) (regions start list) line0 now earlier (omega arith) call (copy_is start now earlier.slot begun.slot set)

  how_many : length (regions start list) ≡ length list
  how_many = length-map list (λ pin. has_state (start.pins pin.slot))

  pub region_at : (k : ℕ) (d : Pin) → k < length list → get_or (regions start list) k (region start d) ≡ region start (get_or list k d)
  region_at k d less = go list k less
    where
      go : (ps : List Pin) (k : ℕ) → k < length ps → get_or (regions start ps) k (region start d) ≡ region start (get_or ps k d)
      go [] k less = absurd (omega (arith, less))
      go (p ∷ ps) zero less = refl
      go (p ∷ ps) (suc k) less = go ps k (omega (arith, less))

  asked : (now : Sets) (k : ℕ) (d earlier : Pin) → IsLive start f.slot → IsLive start first.slot → AreLive start (slots list) → k < length list → IsCall 4 start now (earlier.slot ∷ []) (Ok earlier)
      → All (IsMet now.over) (step_line (region now f) (region now first) (region now earlier) (region now (get_or list k d)))
      ≡ All (IsMet start.over) (line (region now earlier) (get_or (regions start list) k (region start d)))
  asked now k d earlier live_f live_first live less call =
      let f_is : region now f ≡ region start f = ap has_state (stays call.pins f.slot live_f) in
      let first_is : region now first ≡ region start first = ap has_state (stays call.pins first.slot live_first) in
      let set_is : region now (get_or list k d) ≡ region start (get_or list k d) = ap has_state (stays call.pins (get_or list k d).slot (live (get_or list k d).slot (slot_at list k d less))) in
      (λ i. All (IsMet (call.pins.over i)) (step_line (f_is i) (first_is i) (region now earlier) (set_is i)))
      ∙ ap (λ x. All (IsMet start.over) (line (region now earlier) x)) (sym (region_at k d less))

  pub stepping_fails : (now : Sets) (k count : ℕ) (d earlier : Pin) → IsLive start f.slot → IsLive start first.slot → AreLive start (slots list) → k < length list → IsStepping now k count earlier
      → (All (IsMet now.over) (step_line (region now f) (region now first) (region now earlier) (region now (get_or list k d))) → ⊥)
      → AreTested start.over (lines (region start begun) (regions start list)) line0 false count
  stepping_fails now k count d earlier live_f live_first live less go fails =
      going_fails 4 start (λ x. x) line lines by_steps (region start begun) (regions start list) line0 now k count (region start d) earlier (omega (arith, less, how_many)) go
      (λ h. fails (subst (λ (T : Type 0). T) (sym (asked now k d earlier live_f live_first live less go.call)) h))

  pub stepping_more : (now tested after last : Sets) (k count next : ℕ) (d earlier more : Pin) (r : Result Bool SetRefusal) → IsLive start f.slot → IsLive start first.slot → AreLive start (slots list)
      → k < length list → IsStepping now k count earlier
      → IsCall 3 now tested [] r → All (IsMet now.over) (step_line (region now f) (region now first) (region now earlier) (region now (get_or list k d))) → next ≡ next_count count
      → IsCall 1 tested after (more.slot ∷ []) (Ok more) → Stands after more.slot (λ s. In tested earlier.slot s ⊎ In tested (get_or list k d).slot s) → Adds last after (earlier.slot ∷ []) → last.fulls ≡ after.fulls
      → IsStepping last (k + 1) next more
  stepping_more now tested after last k count next d earlier more r live_f live_first live less go test holds counts join stands gone fulls =
      going_more 4 start (λ x. x) line lines by_steps (region start begun) (regions start list) line0 now tested after last k count next (region start d) earlier (get_or list k d) more
      (omega arith) (omega (arith, less, how_many)) go test.pins (to_ok earlier (going_call 4 3 start now tested earlier (Ok earlier) r (omega arith) go.call test))
      (subst (λ (T : Type 0). T) (asked now k d earlier live_f live_first live less go.call) holds) counts
      (live (get_or list k d).slot (slot_at list k d less)) (sym (region_at k d less)) join stands gone fulls

  pub stepping_all : (now : Sets) (k count : ℕ) (earlier : Pin) → length list ≤ k → IsStepping now k count earlier → AreTested start.over (lines (region start begun) (regions start list)) line0 true count
  stepping_all now k count earlier end go =
      going_all 4 start (λ x. x) line lines by_steps (region start begun) (regions start list) line0 now k count earlier (omega (arith, end, how_many)) go
