-- Lists that are made by adding to an empty one, and parts that are made of two.
use Rattle.std.proofs.Common.{◌≡◌, ℕ, zero, suc, ◌+◌, ◌<◌, ◌≤◌, true, List, [], ◌∷◌, ◌++◌, length, map, get_or, flat_map, Result, Ok, Err, sym, ◌∙◌, ap, subst, arith, append-nil}
use Rattle.std.specs.Global.{Vec}
use Rattle.std.proofs.lemmas.Bool.{or_right}
use Rattle.path_laws.specs.StateSet.{StateSet}
use Rattle.fair_rules.proofs.Fixpoints.{same_set}
use Rattle.region_sets.specs.declared.pins.Pin.{Pin}
use Rattle.region_sets.specs.declared.pins.SetRefusal.{SetRefusal}
use Rattle.region_sets.specs.Sets.{Sets, Adds, AreDistinct, IsCall, IsLive, Stands, is_one_of, region, has_state}
use Rattle.region_sets.specs.Ranks.{slots, regions, AreLive}
use Rattle.region_sets.proofs.Slots.{is_one_of-first}
use Rattle.region_sets.proofs.Changes.{stays, stays_live}
use Rattle.region_sets.proofs.Calls.{then_call, let_go, holds_more, regions-same}
use Rattle.rank_extract.specs.Made.{total, IsMade, AreAdded}
use Rattle.rank_extract.proofs.Adding.{IsKind, to_err, to_ok, list_sized, list_stable}

-- ---- one pin

-- it has the set that it is to have
pub copied : (b : Sets) (pin : Pin) (F : StateSet) → Stands b pin.slot (λ s. F s ≡ true) → region b pin ≡ F
copied b pin F stands = same_set (region b pin) F stands

-- a live pin's set stays through a call
pub region_stays : {a b : Sets} {xs : List ℕ} (pin : Pin) → Adds a b xs → IsLive a pin.slot → region b pin ≡ region a pin
region_stays pin p live = ap has_state (stays p pin.slot live)

pub all_stay : {a b : Sets} {xs : List ℕ} (ks : List ℕ) → Adds a b xs → AreLive a ks → AreLive b ks
all_stay ks p live k e = stays_live p k (live k e)

pub regions_stay : {a b : Sets} {xs : List ℕ} (pins : List Pin) → Adds a b xs → AreLive a (slots pins) → regions b pins ≡ regions a pins
regions_stay {a} {b} pins p live = regions-same a b pins (λ k e. stays p k (live k e))

pub slot_at : (pins : List Pin) (k : ℕ) (d : Pin) → k < length pins → is_one_of (get_or pins k d).slot (slots pins) ≡ true
slot_at [] k d lt = absurd (omega arith)
slot_at (p ∷ ps) zero d lt = is_one_of-first p.slot (slots ps)
slot_at (p ∷ ps) (suc k) d lt = or_right _ _ (slot_at ps k d (omega arith))

-- ---- whole lists

module _ {X A : Type 0} {own : X → List ℕ} {seen : Sets → X → A} {size : A → ℕ} (F : List X → List ℕ) (flat : (xs : List X) → flat_map own xs ≡ F xs) (count : List A → ℕ) (counted : (vs : List A) → total size vs ≡ count vs) where
  pub all_made : {T : Type 0} {a b : Sets} {vs : List A} {old new : List X} {y : T} (xs : Vec X) → xs.items ≡ new → old ≡ [] → AreAdded own seen size a b vs old new (Ok y)
      → IsMade (λ (v : Vec X). F v.items) (λ s v. map (seen s) v.items) count a b vs (Ok xs)
  all_made {T} {a} {b} {vs} {old} {new} {y} xs is none p =
      let same : xs.items ≡ p.added = is ∙ p.longer ∙ ap (λ zs. zs ++ p.added) none in
      record {
        call = subst (λ ks. IsCall (count vs) a b ks (Ok xs)) (flat p.added ∙ ap F (sym same)) (to_ok xs (subst (λ n. IsCall n a b (flat_map own p.added) (Ok y)) (counted vs) p.call));
        view = ap (map (seen b)) same ∙ p.views;
      }

  pub all_dropped : {T : Type 0} {a b c : Sets} {vs : List A} {old new : List X} {e : SetRefusal} (xs : Vec X) → xs.items ≡ new → old ≡ [] → AreAdded {T = T} own seen size a b vs old new (Err e) → Adds c b (F xs.items) → c.fulls ≡ b.fulls
      → IsMade (λ (v : Vec X). F v.items) (λ s v. map (seen s) v.items) count a c vs (Err e)
  all_dropped {T} {a} {b} {c} {vs} {old} {new} {e} xs is none p back fulls =
      let same : xs.items ≡ p.added = is ∙ p.longer ∙ ap (λ zs. zs ++ p.added) none in
      let r : Result T SetRefusal = Err e in
      let call : IsCall (count vs) a b (F xs.items ++ []) r =
      subst (λ ks. IsCall (count vs) a b ks r) (flat p.added ∙ ap F (sym same) ∙ sym (append-nil (F xs.items))) (subst (λ n. IsCall n a b (flat_map own p.added) r) (counted vs) p.call) in
      record { call = to_err e (let_go {xs = F xs.items} {ys = []} call back fulls); view = tt }

  -- what was added may be released
  pub all_live : {T : Type 0} {a b : Sets} {vs : List A} {old new : List X} {r : Result T SetRefusal} (xs : Vec X) → xs.items ≡ new → old ≡ [] → AreAdded {T = T} own seen size a b vs old new r → AreLive b (F xs.items)
  all_live {T} {a} {b} {vs} {old} {new} {r} xs is none p =
      let same : xs.items ≡ p.added = is ∙ p.longer ∙ ap (λ zs. zs ++ p.added) none in
      subst (AreLive b) (flat p.added ∙ ap F (sym same)) p.call.pins.there

  pub all_once : {T : Type 0} {a b : Sets} {vs : List A} {old new : List X} {r : Result T SetRefusal} (xs : Vec X) → xs.items ≡ new → old ≡ [] → AreAdded {T = T} own seen size a b vs old new r → AreDistinct (F xs.items)
  all_once {T} {a} {b} {vs} {old} {new} {r} xs is none p =
      let same : xs.items ≡ p.added = is ∙ p.longer ∙ ap (λ zs. zs ++ p.added) none in
      subst AreDistinct (flat p.added ∙ ap F (sym same)) p.call.pins.once

  -- a list is a kind of its own
  pub vec_kind : IsKind own seen size → IsKind (λ (v : Vec X). F v.items) (λ s v. map (seen s) v.items) count
  vec_kind kind = record {
    sized = λ s v. ap length (sym (flat v.items)) ∙ list_sized kind s v.items ∙ counted (map (seen s) v.items);
    stable = λ a b v h. list_stable kind a b v.items (λ k e. h k (subst (λ ks. is_one_of k ks ≡ true) (flat v.items) e));
  }

-- ---- two parts

module _ {X A : Type 0} {own : X → List ℕ} {seen : Sets → X → A} {size : A → ℕ} (kind : IsKind own seen size) where
  pub first_view : {a b c : Sets} {v : A} {xs : List ℕ} (x : X) → IsMade own seen size a b v (Ok x) → Adds b c xs → seen c x ≡ v
  first_view {a} {b} {c} x p q = kind.stable b c x (λ k e. stays q k (p.call.pins.there k e)) ∙ p.view

  module _ {Y B : Type 0} {own' : Y → List ℕ} {seen' : Sets → Y → B} {size' : B → ℕ} where
    pub both_call : {T : Type 0} {a b c : Sets} {v : A} {w : B} (x : X) (y : Y) (z : T) → IsMade own seen size a b v (Ok x) → IsMade own' seen' size' b c w (Ok y)
        → IsCall (size v + size' w) a c (own x ++ own' y) (Ok z)
    both_call {T} {a} {b} {c} {v} {w} x y z p q = to_ok z (then_call (size v + size' w) p.call q.call (omega arith) (omega (arith, kind.sized b x, ap size p.view)))

    -- where the second part was refused, the first is released
    pub second_refused : {U : Type 0} {a b c d : Sets} {v : A} {w : B} {e : SetRefusal} (x : X) → IsMade own seen size a b v (Ok x) → IsMade {X = Y} own' seen' size' b c w (Err e)
        → Adds d c (own x) → d.fulls ≡ c.fulls → IsCall (size v + size' w) {T = U} a d [] (Err e)
    second_refused {U} {a} {b} {c} {d} {v} {w} {e} x p q back fulls =
        to_err e (let_go {xs = own x} {ys = []} (then_call (size v + size' w) p.call q.call (omega arith) (omega (arith, kind.sized b x, ap size p.view))) back fulls)

pub first_refused : {X U A : Type 0} {own : X → List ℕ} {seen : Sets → X → A} {size : A → ℕ} {a b : Sets} {v : A} {e : SetRefusal} (h : ℕ) → size v ≤ h → IsMade own seen size a b v (Err e) → IsCall h {T = U} a b [] (Err e)
first_refused {X} {U} {A} {own} {seen} {size} {a} {b} {v} {e} h le p = to_err e (holds_more h le p.call)
