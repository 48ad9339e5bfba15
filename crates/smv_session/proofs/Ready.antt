-- Sets that are ready for the next specification.
use Rattle.std.proofs.Common.{◌≡◌, ◌∙◌, inl, inr, ℕ, ◌+◌, ◌*◌, ◌≤◌, [], Result, Err}
use Rattle.std.proofs.Common.{Ok, List, sym, ap, subst, arith, length, append-nil}
use Rattle.fair_fixpoint.proofs.Lists.{to_ok}
use Rattle.std.proofs.lemmas.Bool.{cases_lt}
use Rattle.std.proofs.lemmas.Nat.{mul-le}
use Rattle.std.proofs.lemmas.List.{length-map}
use Rattle.bdd_nodes.specs.Store.{levels_of, limit_of}
use Rattle.bdd_nodes.specs.declared.refusal.Held.{Held}
use Rattle.bit_encode.specs.Code.{bit_count, state_bits, types_of}
use Rattle.diagram_sets.proofs.Budgets.{once}
use Rattle.diagram_sets.specs.Kept.{room_in}
use Rattle.fair_fixpoint.specs.SatSets.{pin_bound}
use Rattle.fair_rules.specs.FreePart.{constraint_nodes}
use Rattle.kripke_model.specs.Ctl.{Ctl}
use Rattle.kripke_model.specs.Signs.{node_count}
use Rattle.kripke_model.specs.System.{System}
use Rattle.proof_form.specs.Form.{Proof, sets_of}
use Rattle.proof_form.specs.Pinned.{proof_slots}
use Rattle.region_sets.specs.Sets.{Adds, Gauge, IsCall, Sets}
use Rattle.path_laws.specs.StateCount.{state_count}
use Rattle.region_sets.specs.declared.pins.Pin.{Pin}
use Rattle.region_sets.specs.declared.pins.SetRefusal.{SetRefusal}
use Rattle.region_sets.specs.declared.pins.SetRefusal.TheVariants.{Full}
use Rattle.region_sets.proofs.Calls.{let_go, then_call}
use Rattle.smv_session.specs.Relation.{AreOver, IsBuiltFor, trial_pins}
use Rattle.smv_texts.specs.Evidence.{IsMet}
use Rattle.bit_encode.specs.Enough.{enough, times_enough}
use Rattle.trans_parts.specs.Budget.{room}
use Rattle.trans_parts.specs.Parts.{coding_of, model_of, store_of}
use Rattle.trans_parts.specs.declared.parts.Parts.{Parts}

-- where the limit is enough there is room
room_there : (m : System) (limit : ℕ) → enough m ≤ limit → room m ≤ room_in m limit
room_there m limit le =
    omega (arith, mul-le (room m) 1 (room m) (times_enough m limit) (omega arith) (once m limit le))

-- new sets over the relation are ready
pub ready_new : (m : System) (limit : ℕ) (p : Parts) (s : Sets) → AreOver m limit p
    → s.over ≡ model_of p
    → s.gauge ≡ record {
      levels = levels_of (store_of p);
      limit = limit_of (store_of p);
      order = (coding_of p).order;
    }
    → s.live ≡ 0 → s.room ≡ room_in (model_of p) (limit_of (store_of p)) → s.fulls ≡ 0
    → IsBuiltFor m limit s
ready_new m limit p s are over gauge live spare fulls =
    let levels : levels_of (store_of p) ≡ 2 * state_bits m =
    p.levels ∙ ap (λ types. 2 * bit_count types) p.laid_out
    ∙ ap (λ (n : System). 2 * bit_count (types_of n)) are.model_is in
    let is : s.room ≡ room_in m limit =
    spare ∙ ap (λ (n : System). room_in n (limit_of (store_of p))) are.model_is
    ∙ ap (room_in m) are.limit_is in
    record {
      over = over ∙ are.model_is;
      gauge = gauge
          ∙ (λ i. record { levels = levels i; limit = are.limit_is i; order = are.order_is i });
      live = live;
      spare = λ le. subst (λ n. room m ≤ n) (sym is) (room_there m limit le);
      fulls = λ le. fulls;
    }

-- ---- a specification is tried, or delays are looked for

module _ (m : System) (limit pins : ℕ) (fits : pins ≤ room m) (a b : Sets)
    (ready : IsBuiltFor m limit a) where
  none_full : {T : Type 0} {r : Result T SetRefusal} → IsCall pins a b [] r
      → enough m ≤ limit → b.fulls ≡ 0
  none_full call le =
      let room : a.live + pins ≤ a.room = omega (arith, ready.live, fits, ready.spare le) in
      call.spare room ∙ ready.fulls le

  -- and the sets are ready for the next one
  pub ready_after : {T : Type 0} {r : Result T SetRefusal} → IsCall pins a b [] r
      → IsBuiltFor m limit b
  ready_after call = record {
    over = call.pins.over ∙ ready.over;
    gauge = call.pins.gauge ∙ ready.gauge;
    live = omega (arith, call.pins.live, ready.live);
    spare = λ le. subst (λ n. room m ≤ n) (sym call.pins.room) (ready.spare le);
    fulls = none_full call;
  }

  -- a store was full only where the limit is below what is enough
  pub met_by : {T : Type 0} (held : Held)
      → IsCall pins {T = T} a b [] (Err (Full held)) → IsMet m limit held
  met_by held call =
      let gauge = call.pins.gauge ∙ ready.gauge in (
        (
          call.refusal.1 ∙ ap (λ (g : Gauge). g.levels) gauge,
          call.refusal.2 ∙ ap (λ (g : Gauge). g.limit) gauge,
        ),
        elim (cases_lt limit (enough m)) [
          | inl below ↦ below
          | inr le ↦
              let none = none_full call le in
              elim call.refusal.0 [
                | inl rose ↦ absurd (omega (arith, rose, none))
                | inr last ↦ absurd (omega (arith, last, none))
              ]
        ],
      )

-- what is seen is the same
pub ready_same : (m : System) (limit : ℕ) (a b : Sets) → b ≡ a → IsBuiltFor m limit a
    → IsBuiltFor m limit b
ready_same m limit a b same ready = subst (IsBuiltFor m limit) (sym same) ready

-- a proof is found, written and released
pub after_block : {T U : Type 0} {a b c d : Sets} {r : Result T SetRefusal} {q : Result U SetRefusal}
    (m : System) (f : Ctl) (p : Proof Pin) → IsCall (trial_pins m f) a b (proof_slots p) r
    → length (proof_slots p) ≤ pin_bound m (node_count f + constraint_nodes m) (state_count m)
    → IsCall (length (sets_of p)) b c [] q → Adds d c (proof_slots p) → d.fulls ≡ c.fulls
    → IsCall (trial_pins m f) a d [] q
after_block m f p proved few written back same =
    let as_many : length (proof_slots p) ≡ length (sets_of p) =
    length-map (sets_of p) (λ (pin : Pin). pin.slot) in
    let_go {xs = proof_slots p} {ys = []}
    (then_call (trial_pins m f) proved written (omega arith) (omega (arith, as_many, few)))
    back same

-- the pins that a call left are released
pub all_released : {T U : Type 0} {h : ℕ} {a b c : Sets} {r : Result T SetRefusal} (xs : List ℕ)
    (x : U) → IsCall h a b xs r → Adds c b xs → c.fulls ≡ b.fulls → IsCall h {T = U} a c [] (Ok x)
all_released {h = h} {a = a} {b = b} {r = r} xs x call back same =
    to_ok x (let_go {xs = xs} {ys = []}
    (subst (λ ks. IsCall h a b ks r) (sym (append-nil xs)) call) back same)
