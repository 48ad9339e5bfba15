-- The lines of layers, by the pins of a loop.
use Rattle.std.proofs.Common.{◌≡◌, ◌↔◌, Result, Ok, Err, ℕ, zero, suc, ◌+◌, ◌<◌, ◌≤◌, Bool, true, false, List, [], ◌∷◌, length, get_or, refl, sym, ◌∙◌, ap, subst, arith}
use Rattle.std.proofs.Math.ListN.{length-map}
use Rattle.std.specs.Prelude.{All, IfOk, IsTrue, ◌-◌, ◌⊎◌}
use Rattle.std.proofs.lemmas.List.Elements.{All-nil, All-cons, All-head, All-tail}
use Rattle.kripke_model.specs.System.{System}
use Rattle.path_laws.specs.StateSet.{StateSet}
use Rattle.region_sets.specs.declared.pins.Pin.{Pin}
use Rattle.region_sets.specs.declared.pins.SetRefusal.{SetRefusal}
use Rattle.region_sets.specs.Sets.{Sets, Adds, In, IsCall, IsLive, Stands, has_state, region}
use Rattle.region_sets.specs.Ranks.{AreLive, slots}
use Rattle.region_sets.proofs.Changes.{stays, adds_after}
use Rattle.fair_rules.specs.SetLists.{nothing, set_at}
use Rattle.fair_rules.specs.Claims.{both, either}
use Rattle.fair_rules.specs.Rules as rules
use Rattle.fair_rules.specs.Checks.{Check, IsMet, layer_lines}
use Rattle.claim_sets.specs.declared.constraint_pins.Constraints.{Constraints}
use Rattle.proof_form.specs.Agrees.{SameOn}
use Rattle.claim_sets.specs.ConstraintClaims.{IsGiven, constraint_list}
use Rattle.proof_form.specs.Form.{Layer, layer_sets}
use Rattle.proof_form.specs.Pinned.{layer_over, layers_over}
use Rattle.proof_lines.specs.Tested.{AreTested, layer_line, next_count}
use Rattle.claim_sets.proofs.Given.{list_kept}
use Rattle.proof_lines.proofs.Passing.{AreLinesBy, IsGoing, going_none, going_more, going_fails, going_all, going_call, to_ok}
use Rattle.claim_sets.proofs.Joined.{layer_live}
use Rattle.claim_sets.proofs.Regions.{none_is}

abbrev pub line_by : Sets → Constraints → Pin → Pin → StateSet → rules.Layer → List Check
line_by sets c f out e l = layer_line (constraint_list sets c false) (region sets f) (region sets out) e l

abbrev pub lines_by : Sets → Constraints → Pin → Pin → StateSet → List rules.Layer → List (List Check)
lines_by sets c f out e ls = layer_lines (constraint_list sets c false) (region sets f) (region sets out) e ls

pub by_layers : (sets : Sets) (c : Constraints) (f out : Pin) → AreLinesBy (λ l. l.states) (line_by sets c f out) (lines_by sets c f out)
by_layers sets c f out = record { no_items = λ e. refl; one_more = λ e x xs. refl }

-- a line at a later time is what it was
pub moved_line : (start now : Sets) (xs : List ℕ) (c : Constraints) (f out : Pin) (layer : Layer Pin) (e : StateSet) → Adds start now xs → IsGiven start c → IsLive start f.slot → IsLive start out.slot → IsLive start layer.set.slot
    → line_by now c f out e (layer_over now layer) ≡ line_by start c f out e (layer_over start layer)
moved_line start now xs c f out layer e adds given live_f live_out live =
    let f_is : region now f ≡ region start f = ap has_state (stays adds f.slot live_f) in
    let out_is : region now out ≡ region start out = ap has_state (stays adds out.slot live_out) in
    let set_is : region now layer.set ≡ region start layer.set = ap has_state (stays adds layer.set.slot live) in
    λ i. layer_line (list_kept start now xs adds c false given i) (f_is i) (out_is i) e (record { avoided = (layer_over start layer).avoided; states = set_is i })

pub over_at : (sets : Sets) (layers : List (Layer Pin)) (k : ℕ) (d : Layer Pin) → k < length layers → get_or (layers_over sets layers) k (layer_over sets d) ≡ layer_over sets (get_or layers k d)
over_at sets [] k d less = absurd (omega (arith, less))
over_at sets (l ∷ layers) zero d less = refl
over_at sets (l ∷ layers) (suc k) d less = over_at sets layers k d (omega (arith, less))

-- ---- one line

pub two_met : (m : System) (x y : Check) → IsMet m x → IsMet m y → All (IsMet m) (x ∷ y ∷ [])
two_met m x y h k = All-cons (IsMet m) x (y ∷ []) h (All-cons (IsMet m) y [] k (All-nil (IsMet m)))

pub last_met : (m : System) (x y : Check) → All (IsMet m) (x ∷ y ∷ []) → IsMet m y
last_met m x y h = All-head (IsMet m) y [] (All-tail (IsMet m) x (y ∷ []) h)

pub keeps_line : (a b : Sets) (x p : Pin) (f target : StateSet) (r : Result Bool SetRefusal) → b.over ≡ a.over → region b x ≡ region a x → IsMet a.over (Check.Inside (region a x) f)
    → SameOn a.over (region b p) target → IfOk r (λ good. IsTrue good ↔ IsMet b.over (Check.Keeps (region b x) (region b p)))
    → IfOk r (λ good. IsTrue good ↔ All (IsMet a.over) (Check.Inside (region a x) f ∷ Check.Keeps (region a x) target ∷ []))
keeps_line a b x p f target (Err e) over is inside same h = tt
keeps_line a b x p f target (Ok good) over is inside same h =
    let moved : IsMet b.over (Check.Keeps (region b x) (region b p)) ≡ IsMet a.over (Check.Keeps (region a x) (region b p)) = λ i. IsMet (over i) (Check.Keeps (is i) (region b p)) in (
      (λ e. two_met a.over (Check.Inside (region a x) f) (Check.Keeps (region a x) target) inside
          (λ s is_state k t next step. sym (same t next) ∙ subst (λ (T : Type 0). T) moved (h.0 e) s is_state k t next step)),
      (λ k. h.1 (subst (λ (T : Type 0). T) (sym moved)
          (λ s is_state e t next step. same t next ∙ last_met a.over (Check.Inside (region a x) f) (Check.Keeps (region a x) target) k s is_state e t next step))),
    )

pub layer_answer : (s0 s1 s2 : Sets) (c : Constraints) (f out earlier : Pin) (layer : Layer Pin) (p : Pin) (r : Result Bool SetRefusal)
    → IsGiven s0 c → IsLive s0 layer.set.slot → Adds s0 s1 [] → IsMet s0.over (Check.Inside (region s0 layer.set) (region s0 f)) → Adds s1 s2 (p.slot ∷ [])
    → SameOn s1.over (region s2 p) (either (region s1 out) (either (region s1 earlier) (both (region s1 layer.set) (set_at (constraint_list s1 c false) (layer.avoid - 1)))))
    → IfOk r (λ good. IsTrue good ↔ IsMet s2.over (Check.Keeps (region s2 layer.set) (region s2 p)))
    → IfOk r (λ good. IsTrue good ↔ All (IsMet s0.over) (line_by s0 c f out (region s0 earlier) (layer_over s0 layer)))
layer_answer s0 s1 s2 c f out earlier layer p r given live none inside adds same h =
    let still : (x : Pin) → region s1 x ≡ region s0 x = λ x. ap has_state (none.kept x.slot refl) in
    keeps_line s0 s2 layer.set p (region s0 f)
    (either (region s0 out) (either (region s0 earlier) (both (region s0 layer.set) (set_at (constraint_list s0 c false) (layer.avoid - 1))))) r
    (adds.over ∙ none.over) (ap has_state (stays (adds_after none adds) layer.set.slot live)) inside
    (subst (λ (T : Type 0). T) (λ i. SameOn (none.over i) (region s2 p)
    (either (still out i) (either (still earlier i) (both (still layer.set i) (set_at (list_kept s0 s1 [] none c false given i) (layer.avoid - 1)))))) same) h

-- the same where the set is read off the layer's own fields
pub own_answer : (s0 s1 s2 : Sets) (c : Constraints) (f out earlier : Pin) (layer : Layer Pin) (x p : Pin) (r : Result Bool SetRefusal) → x ≡ layer.set
    → IsGiven s0 c → IsLive s0 layer.set.slot → Adds s0 s1 [] → IsMet s0.over (Check.Inside (region s0 x) (region s0 f)) → Adds s1 s2 (p.slot ∷ [])
    → SameOn s1.over (region s2 p) (either (region s1 out) (either (region s1 earlier) (both (region s1 layer.set) (set_at (constraint_list s1 c false) (layer.avoid - 1)))))
    → IfOk r (λ good. IsTrue good ↔ IsMet s2.over (Check.Keeps (region s2 x) (region s2 p)))
    → IfOk r (λ good. IsTrue good ↔ All (IsMet s0.over) (line_by s0 c f out (region s0 earlier) (layer_over s0 layer)))
own_answer s0 s1 s2 c f out earlier layer x p r is given live none inside adds same h =
    layer_answer s0 s1 s2 c f out earlier layer p r given live none (subst (λ (y : Pin). IsMet s0.over (Check.Inside (region s0 y) (region s0 f))) is inside) adds same
    (subst (λ (y : Pin). IfOk r (λ good. IsTrue good ↔ IsMet s2.over (Check.Keeps (region s2 y) (region s2 p)))) is h)

-- ---- the loop over layers

module _ (start : Sets) (c : Constraints) (f out : Pin) (layers : List (Layer Pin)) (first : ℕ) where
  abbrev pub IsLayering : Sets → ℕ → ℕ → Pin → Type 0
  IsLayering now k line earlier = IsGoing 6 start now (lines_by start c f out) nothing (layers_over start layers) first k line earlier

  pub layering_none : (now : Sets) (earlier : Pin) → IsCall 1 start now (earlier.slot ∷ []) (Ok earlier) → Stands now earlier.slot (λ s. ⊥) → IsLayering now 0 first earlier
  layering_none now earlier call set =
      going_none 6 start (λ l. l.states) (line_by start c f out) (lines_by start c f out) (by_layers start c f out) nothing (layers_over start layers) first now earlier (omega arith) call
      (none_is now earlier.slot set)

  how_many : length (layers_over start layers) ≡ length layers
  how_many = length-map layers (layer_over start)

  -- the line of a layer as it was tested is the one that is asked
  asked : (now : Sets) (k : ℕ) (layer : Layer Pin) (earlier : Pin) → IsGiven start c → IsLive start f.slot → IsLive start out.slot → AreLive start (slots (layer_sets layers)) → k < length layers → layer ≡ get_or layers k layer
      → IsCall 6 start now (earlier.slot ∷ []) (Ok earlier)
      → All (IsMet now.over) (line_by now c f out (region now earlier) (layer_over now layer)) ≡ All (IsMet start.over) (line_by start c f out (region now earlier) (get_or (layers_over start layers) k (layer_over start layer)))
  asked now k layer earlier given live_f live_out live less is call =
      let alive : IsLive start layer.set.slot = subst (λ (l : Layer Pin). IsLive start l.set.slot) (sym is) (layer_live start layers k layer live less) in
      (λ i. All (IsMet (call.pins.over i)) (moved_line start now (earlier.slot ∷ []) c f out layer (region now earlier) call.pins given live_f live_out alive i))
      ∙ ap (λ l. All (IsMet start.over) (line_by start c f out (region now earlier) l)) (ap (layer_over start) is ∙ sym (over_at start layers k layer less))

  pub layering_fails : (now : Sets) (k line : ℕ) (layer : Layer Pin) (earlier : Pin) → IsGiven start c → IsLive start f.slot → IsLive start out.slot → AreLive start (slots (layer_sets layers)) → k < length layers
      → layer ≡ get_or layers k layer → IsLayering now k line earlier
      → (All (IsMet now.over) (line_by now c f out (region now earlier) (layer_over now layer)) → ⊥)
      → AreTested start.over (lines_by start c f out nothing (layers_over start layers)) first false line
  layering_fails now k line layer earlier given live_f live_out live less is go fails =
      going_fails 6 start (λ l. l.states) (line_by start c f out) (lines_by start c f out) (by_layers start c f out) nothing (layers_over start layers) first now k line (layer_over start layer) earlier
      (omega (arith, less, how_many)) go (λ h. fails (subst (λ (T : Type 0). T) (sym (asked now k layer earlier given live_f live_out live less is go.call)) h))

  pub layering_more : (now tested after last : Sets) (k line next : ℕ) (layer : Layer Pin) (earlier more : Pin) (r : Result Bool SetRefusal) → IsGiven start c → IsLive start f.slot → IsLive start out.slot
      → AreLive start (slots (layer_sets layers)) → k < length layers → layer ≡ get_or layers k layer → IsLayering now k line earlier
      → IsCall 4 now tested [] r → All (IsMet now.over) (line_by now c f out (region now earlier) (layer_over now layer)) → next ≡ next_count line
      → IsCall 1 tested after (more.slot ∷ []) (Ok more) → Stands after more.slot (λ s. In tested earlier.slot s ⊎ In tested layer.set.slot s) → Adds last after (earlier.slot ∷ []) → last.fulls ≡ after.fulls
      → IsLayering last (k + 1) next more
  layering_more now tested after last k line next layer earlier more r given live_f live_out live less is go test holds counts join stands gone fulls =
      going_more 6 start (λ l. l.states) (line_by start c f out) (lines_by start c f out) (by_layers start c f out) nothing (layers_over start layers) first now tested after last k line next (layer_over start layer)
      earlier layer.set more (omega arith) (omega (arith, less, how_many)) go test.pins (to_ok earlier (going_call 6 4 start now tested earlier (Ok earlier) r (omega arith) go.call test))
      (subst (λ (T : Type 0). T) (asked now k layer earlier given live_f live_out live less is go.call) holds) counts
      (subst (λ (l : Layer Pin). IsLive start l.set.slot) (sym is) (layer_live start layers k layer live less))
      (ap (λ (l : rules.Layer). l.states) (ap (layer_over start) is ∙ sym (over_at start layers k layer less))) join stands gone fulls

  pub layering_all : (now : Sets) (k line : ℕ) (earlier : Pin) → length layers ≤ k → IsLayering now k line earlier → AreTested start.over (lines_by start c f out nothing (layers_over start layers)) first true line
  layering_all now k line earlier end go =
      going_all 6 start (λ l. l.states) (line_by start c f out) (lines_by start c f out) (by_layers start c f out) nothing (layers_over start layers) first now k line earlier (omega (arith, end, how_many)) go
