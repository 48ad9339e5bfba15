-- Sets that are joined one after another.
use Rattle.std.proofs.Common.{◌≡◌, ℕ, zero, suc, ◌+◌, ◌<◌, ◌≤◌, ◌||◌, Bool, true, false, List, [], ◌∷◌, length, get_or, drop, Result, Ok, refl, sym, ◌∙◌, ap, subst, arith}
use Rattle.std.specs.Prelude.{◌⊎◌}
use Rattle.std.proofs.Math.ListN.{length-map}
use Rattle.region_sets.specs.declared.pins.Pin.{Pin}
use Rattle.region_sets.specs.declared.pins.SetRefusal.{SetRefusal}
use Rattle.region_sets.specs.Sets.{Sets, Adds, In, IsCall, IsLive, Stands, has_state, is_one_of, pin_slots, region}
use Rattle.region_sets.specs.Ranks.{AreLive, regions, slots}
use Rattle.region_sets.proofs.Slots.{is_one_of-first, is_one_of-right}
use Rattle.region_sets.proofs.Changes.{stays, adds_after}
use Rattle.region_sets.proofs.Calls.{then_call, let_go, holds_more, stays_over_release}
use Rattle.fair_rules.specs.Claims.{either, join}
use Rattle.proof_form.specs.Form.{Layer, layer_sets}
use Rattle.claim_sets.proofs.Regions.{joined, none_is}

pub drop_at : {A : Type 0} (xs : List A) (k : ℕ) (d : A) → k < length xs → drop k xs ≡ get_or xs k d ∷ drop (suc k) xs
drop_at [] k d less = absurd (omega (arith, less))
drop_at (x ∷ xs) zero d less = refl
drop_at (x ∷ xs) (suc k) d less = drop_at xs k d (omega (arith, less))

pub drop_all : {A : Type 0} (xs : List A) (k : ℕ) → length xs ≤ k → drop k xs ≡ []
drop_all [] zero h = refl
drop_all [] (suc k) h = refl
drop_all (x ∷ xs) zero h = absurd (omega (arith, h))
drop_all (x ∷ xs) (suc k) h = drop_all xs k (omega (arith, h))

pub slot_at : (pins : List Pin) (k : ℕ) (d : Pin) → k < length pins → is_one_of (get_or pins k d).slot (slots pins) ≡ true
slot_at [] k d less = absurd (omega (arith, less))
slot_at (p ∷ pins) zero d less = is_one_of-first p.slot (slots pins)
slot_at (p ∷ pins) (suc k) d less = is_one_of-right (get_or pins k d).slot (p.slot ∷ []) (slots pins) (slot_at pins k d (omega (arith, less)))

either_or : (f g h : Bool) → ((f || g) || h) ≡ (f || (g || h))
either_or true g h = refl
either_or false g h = refl

-- k of the pins are joined
pub record IsJoining (start now : Sets) (pins : List Pin) (k : ℕ) (all : Pin) : Type 0 where
  pub call : IsCall 2 start now (all.slot ∷ []) (Ok all)
  pub rest : either (region now all) (join (regions start (drop k pins))) ≡ join (regions start pins)

pub joining_none : (start now : Sets) (pins : List Pin) (all : Pin) → IsCall 1 start now (all.slot ∷ []) (Ok all) → Stands now all.slot (λ s. ⊥) → IsJoining start now pins 0 all
joining_none start now pins all call none = record {
  call = holds_more 2 (omega arith) call;
  rest = ap (λ F. either F (join (regions start pins))) (none_is now all.slot none);
}

-- the next pin is joined, and the pin of those before released
pub joined_call : {T : Type 0} (h : ℕ) (start now after last : Sets) (all : Pin) (r : Result Pin SetRefusal) (q : Result T SetRefusal) → 2 ≤ h
    → IsCall h start now (all.slot ∷ []) q → IsCall 1 now after (pin_slots r) r → Adds last after (all.slot ∷ []) → last.fulls ≡ after.fulls → IsCall h start last (pin_slots r) r
joined_call h start now after last all r q big call more gone fulls = let_go (then_call h call more (omega arith) (omega (arith, big))) gone fulls

pub joined_region : (h : ℕ) (start now after last : Sets) (all p next : Pin) → IsCall h start now (all.slot ∷ []) (Ok all) → IsLive start p.slot
    → IsCall 1 now after (next.slot ∷ []) (Ok next) → Stands after next.slot (λ s. In now all.slot s ⊎ In now p.slot s) → Adds last after (all.slot ∷ [])
    → region last next ≡ either (region now all) (region start p)
joined_region h start now after last all p next call live more set gone =
    ap has_state (stays_over_release (next.slot ∷ []) (adds_after call.pins more.pins) gone next.slot (is_one_of-first next.slot []))
    ∙ joined now after next.slot all.slot p.slot set
    ∙ ap (λ o. either (region now all) (has_state o)) (stays call.pins p.slot live)

pub joining_more : (start now after last : Sets) (pins : List Pin) (k : ℕ) (d all next : Pin) → AreLive start (slots pins) → k < length pins → IsJoining start now pins k all
    → IsCall 1 now after (next.slot ∷ []) (Ok next) → Stands after next.slot (λ s. In now all.slot s ⊎ In now (get_or pins k d).slot s) → Adds last after (all.slot ∷ []) → last.fulls ≡ after.fulls
    → IsJoining start last pins (k + 1) next
joining_more start now after last pins k d all next live less h more set gone fulls =
    let p : Pin = get_or pins k d in
    let at : suc k ≡ k + 1 = omega arith in
    record {
      call = joined_call 2 start now after last all (Ok next) (Ok all) (omega arith) h.call more gone fulls;
      rest = ap (λ n. either (region last next) (join (regions start (drop n pins)))) (sym at)
          ∙ ap (λ F. either F (join (regions start (drop (suc k) pins)))) (joined_region 2 start now after last all p next h.call (live p.slot (slot_at pins k d less)) more set gone)
          ∙ (λ i s. either_or (region now all s) (region start p s) (join (regions start (drop (suc k) pins)) s) i)
          ∙ ap (λ ps. either (region now all) (join (regions start ps))) (sym (drop_at pins k d less))
          ∙ h.rest;
    }

or_nothing : (f : Bool) → (f || false) ≡ f
or_nothing true = refl
or_nothing false = refl

pub joining_all : (start now : Sets) (pins : List Pin) (k : ℕ) (all : Pin) → length pins ≤ k → IsJoining start now pins k all → region now all ≡ join (regions start pins)
joining_all start now pins k all end h =
    sym (λ i s. or_nothing (region now all s) i) ∙ ap (λ ps. either (region now all) (join (regions start ps))) (sym (drop_all pins k end)) ∙ h.rest

-- ---- the sets of layers

pub count_sets : (layers : List (Layer Pin)) → length (layer_sets layers) ≡ length layers
count_sets layers = length-map layers (λ l. l.set)

pub set_of : (layers : List (Layer Pin)) (k : ℕ) (d : Layer Pin) → k < length layers → get_or (layer_sets layers) k d.set ≡ (get_or layers k d).set
set_of [] k d less = absurd (omega (arith, less))
set_of (l ∷ layers) zero d less = refl
set_of (l ∷ layers) (suc k) d less = set_of layers k d (omega (arith, less))

pub layer_live : (now : Sets) (layers : List (Layer Pin)) (k : ℕ) (d : Layer Pin) → AreLive now (slots (layer_sets layers)) → k < length layers → IsLive now (get_or layers k d).set.slot
layer_live now layers k d live less =
    subst (λ (p : Pin). IsLive now p.slot) (set_of layers k d less)
    (live (get_or (layer_sets layers) k d.set).slot (slot_at (layer_sets layers) k d.set (omega (arith, less, count_sets layers))))

pub joining_layer : (start now after last : Sets) (layers : List (Layer Pin)) (k : ℕ) (d : Layer Pin) (all next : Pin) → AreLive start (slots (layer_sets layers)) → k < length layers
    → IsJoining start now (layer_sets layers) k all
    → IsCall 1 now after (next.slot ∷ []) (Ok next) → Stands after next.slot (λ s. In now all.slot s ⊎ In now (get_or layers k d).set.slot s) → Adds last after (all.slot ∷ []) → last.fulls ≡ after.fulls
    → IsJoining start last (layer_sets layers) (k + 1) next
joining_layer start now after last layers k d all next live less h more set gone fulls =
    joining_more start now after last (layer_sets layers) k d.set all next live (omega (arith, less, count_sets layers)) h more
    (subst (λ (p : Pin). Stands after next.slot (λ s. In now all.slot s ⊎ In now p.slot s)) (sym (set_of layers k d less)) set) gone fulls
