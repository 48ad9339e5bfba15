-- Where the limit is enough for each line, the test of a block finds room.
use Rattle.std.proofs.Common.{◌≡◌, ◌∙◌, inl, inr, ℕ, ◌+◌, ◌*◌, ◌^◌, ◌<◌, ◌≤◌, List, [], length, true, Option, Result, Ok, Err, sym, ap, subst, arith}
use Rattle.std.specs.Prelude.{IfErr}
use Rattle.std.proofs.lemmas.Bool.{cases_lt}
use Rattle.std.proofs.lemmas.List.{length-map}
use Rattle.std.proofs.lemmas.Nat.{mul-le, pow_pos}
use Rattle.bdd_nodes.specs.declared.refusal.Held.{Held}
use Rattle.bit_encode.specs.Code.{state_bits}
use Rattle.bit_encode.specs.Enough.{enough, times_enough}
use Rattle.diagram_sets.proofs.Budgets.{times-in}
use Rattle.diagram_sets.specs.declared.sets.DiagramSets.{DiagramSets}
use Rattle.diagram_sets.specs.Kept.{room_in}
use Rattle.kripke_model.specs.Flat.{node_total}
use Rattle.kripke_model.specs.System.{System, constraint_count}
use Rattle.kripke_model.specs.WellFormed.{ctl_of}
use Rattle.region_sets.proofs.Changes.{stays_live}
use Rattle.region_sets.specs.Ranks.{AreLive, slots}
use Rattle.region_sets.specs.Sets.{Sets, Gauge, Adds, IsCall, IsCaused, Rose}
use Rattle.region_sets.specs.declared.pins.Pin.{Pin}
use Rattle.region_sets.specs.declared.pins.SetRefusal.{SetRefusal}
use Rattle.region_sets.specs.declared.pins.SetRefusal.TheVariants.{Full, Memory}
use Rattle.trans_parts.specs.Budget.{room}
use Rattle.proof_checker.specs.Imported.{seen_in}
use Rattle.proof_checker.specs.ImportCalls.{HasTimes, IsImportCall}
use Rattle.proof_checker.specs.declared.importing.Imported.{Imported}
use Rattle.proof_checker.specs.NoRoom.{IsNoRoom}
use Rattle.proof_checker.specs.Ready.{IsClear, IsReady}

-- ---- a refusal by its cause

no_rise : (a b : ℕ) → a ≡ 0 → b ≡ a → Rose a b → ⊥
no_rise a b zero_is same (inl rose) = omega (arith, zero_is, same, rose)
no_rise a b zero_is same (inr last) = omega (arith, zero_is, same, last)

met : (m : System) (order : List ℕ) (limit lines : ℕ) (before after : Sets) (e : SetRefusal)
    → after.gauge ≡ record { levels = 2 * state_bits m; limit = limit; order = order }
    → IsCaused before after e
    → (lines * enough m ≤ limit → (before.fulls ≡ 0) × (after.fulls ≡ before.fulls))
    → IsNoRoom m limit lines e
met m order limit lines before after Memory gauge cause none = tt
met m order limit lines before after (Full held) gauge cause none = (
  cause.1 ∙ ap (λ (g : Gauge). g.levels) gauge,
  cause.2 ∙ ap (λ (g : Gauge). g.limit) gauge,
  elim (cases_lt limit (enough m * lines)) [
    | inl below ↦ below
    | inr le ↦
        let h = none (omega (arith, le)) in
        absurd (no_rise before.fulls after.fulls h.0 h.1 cause.0)
  ],
)

-- more lines ask for no less
pub no_room_more : (m : System) (limit lines : ℕ) (e : SetRefusal) → 1 ≤ lines
    → IsNoRoom m limit 1 e → IsNoRoom m limit lines e
no_room_more m limit lines Memory some h = tt
no_room_more m limit lines (Full held) some h =
    let more : enough m * 1 ≤ enough m * lines = mul-le (enough m) 1 (enough m) lines (omega arith) some in
    (h.0, h.1, omega (arith, h.2, more))

-- ---- the room of a limit that is enough for each line

some_room : (m : System) → 1 ≤ room m
some_room m = omega arith

room_of : (m : System) (limit n : ℕ) → 1 ≤ n → n ≤ times_enough m limit → 1 ≤ room_in m limit
room_of m limit n some le =
    let a : 1 * 1 ≤ room m * times_enough m limit = mul-le 1 1 (room m) (times_enough m limit) (some_room m) (omega (arith, some, le)) in
    omega (arith, a)

-- s is the model's nodes, f the formula's and the constraints', p a power of two
room_large : (s k p f : ℕ) → f ≤ s → 1 ≤ p → 8 * (f + 2) + 1 ≤ 12 * (s + 2) * (k + 2) * p + 64
room_large s k p f le one =
    let a : 24 * (s + 2) * 1 ≤ 12 * (s + 2) * (k + 2) * p = mul-le (24 * (s + 2)) 1 (12 * (s + 2) * (k + 2)) p (omega arith) one in
    omega (arith, a, le)

-- q times
many_fit : (q n t r : ℕ) → 1 ≤ q → n ≤ q → t + 1 ≤ r → n + t ≤ r * q
many_fit q n t r some le fit =
    let a : (t + 1) * q ≤ r * q = mul-le (t + 1) q r q fit (omega arith) in
    let b : t * 1 ≤ t * q = mul-le t 1 t q (omega arith) some in
    omega (arith, a, b, le)

test_fits : (m : System) (limit n f : ℕ) → f ≤ node_total m → 1 ≤ n → n ≤ times_enough m limit
    → n + 8 * (f + 2) ≤ room_in m limit
test_fits m limit n f le some few =
    many_fit (times_enough m limit) n (8 * (f + 2)) (room m) (omega (arith, some, few)) few
    (room_large (node_total m) (constraint_count m) (2 ^ state_bits m) f le (pow_pos (state_bits m)))

-- ---- the test over sets that are ready

module _ (m : System) (order : List ℕ) (limit : ℕ) (x : DiagramSets) (ready : IsReady m order limit x) where
  same_times : times_enough (seen_in x).over (seen_in x).gauge.limit ≡ times_enough m limit
  same_times = λ i. times_enough (ready.clear.over i) (ready.clear.gauge i).limit

  has_times : (n lines : ℕ) → 1 ≤ n → n ≤ lines → lines * enough m ≤ limit → HasTimes n (seen_in x)
  has_times n lines some le large =
      let few : n ≤ times_enough m limit = omega (arith, le, times-in m limit lines large) in (
        subst (λ k. n ≤ k) (sym same_times) few,
        omega (arith, ready.clear.live, ready.clear.room, room_of m limit n some few),
      )

  module _ (n : ℕ) (some : 1 ≤ n) (y : DiagramSets) (fit : HasTimes n (seen_in x) → (seen_in y).fulls ≡ (seen_in x).fulls) where
    fulls_there : (lines : ℕ) → n ≤ lines → lines * enough m ≤ limit → (seen_in y).fulls ≡ (seen_in x).fulls
    fulls_there lines le large = fit (has_times n lines some le large)

    pub import_met : (e : SetRefusal) → IsImportCall x y (Err e) → (lines : ℕ) → n ≤ lines → IsNoRoom m limit lines e
    import_met e call lines le =
        met m order limit lines (seen_in x) (seen_in y) e (call.pins.gauge ∙ ready.clear.gauge) call.refusal
        (λ large. (ready.fulls, fulls_there lines le large))

    pub import_clear : (e : SetRefusal) → IsImportCall x y (Err e) → IsClear m order limit y
    import_clear e call = record {
      over = call.pins.over ∙ ready.clear.over;
      gauge = call.pins.gauge ∙ ready.clear.gauge;
      live = omega (arith, call.pins.live, ready.clear.live);
      room = call.pins.room ∙ ready.clear.room;
    }

    module _ (made : Imported) (call : IsImportCall x y (Ok made)) (few : length made.pins.items ≤ n) (s : Sets) (pins : Adds (seen_in y) s []) where
      pub pins_live : AreLive s (slots made.pins.items)
      pins_live k e = stays_live pins k (call.pins.there k e)

      pub test_met : (f : ℕ) → f ≤ node_total m → {T : Type 0} (r : Result T SetRefusal) → IsCall (8 * (f + 2)) (seen_in y) s [] r
          → (lines : ℕ) → n ≤ lines → IfErr r (IsNoRoom m limit lines)
      test_met f small (Ok found) tested lines le = tt
      test_met f small (Err e) tested lines le =
          met m order limit lines (seen_in y) s e (pins.gauge ∙ call.pins.gauge ∙ ready.clear.gauge) tested.refusal (λ large.
          let same : (seen_in y).fulls ≡ (seen_in x).fulls = fulls_there lines le large in
          let times : n ≤ times_enough m limit = omega (arith, le, times-in m limit lines large) in
          let fits = test_fits m limit n f small some times in (
            omega (arith, same, ready.fulls),
            tested.spare (omega (arith, call.pins.live, ready.clear.live, length-map made.pins.items (λ (pin : Pin). pin.slot), few, fits, call.pins.room, ready.clear.room)),
          ))

      pub test_clear : (z : DiagramSets) → Adds (seen_in z) s (slots made.pins.items) → IsClear m order limit z
      test_clear z back = record {
        over = sym back.over ∙ pins.over ∙ call.pins.over ∙ ready.clear.over;
        gauge = sym back.gauge ∙ pins.gauge ∙ call.pins.gauge ∙ ready.clear.gauge;
        live = omega (arith, back.live, pins.live, call.pins.live, ready.clear.live);
        room = sym back.room ∙ pins.room ∙ call.pins.room ∙ ready.clear.room;
      }
