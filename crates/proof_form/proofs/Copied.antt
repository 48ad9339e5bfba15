-- Copies of pins that are added to a list, call by call.
use Rattle.std.proofs.Common.{◌≡◌, ℕ, ◌≤◌, true, List, [], ◌∷◌, ◌++◌, length, Result, Ok, Err, refl, sym, ◌∙◌, ap, subst, arith, append-nil, append_assoc, length-append}
use Rattle.std.specs.Prelude.{IfOk}
use Rattle.std.proofs.lemmas.Bool.{or_right}
use Rattle.std.proofs.lemmas.List.{length-map}
use Rattle.std.proofs.lemmas.List.Elements.{length_all_zip}
use Rattle.region_sets.specs.declared.pins.Pin.{Pin}
use Rattle.region_sets.specs.declared.pins.SetRefusal.{SetRefusal}
use Rattle.region_sets.specs.declared.pins.SetRefusal.TheVariants.{Memory}
use Rattle.region_sets.specs.Sets.{Sets, Adds, AreDistinct, IsCall, In, Stands, is_one_of}
use Rattle.region_sets.specs.Ranks.{slots, AreLive}
use Rattle.region_sets.proofs.Slots.{is_one_of-left, is_one_of-right, is_one_of-first}
use Rattle.region_sets.proofs.Changes.{adds_nothing, stays, stays_live}
use Rattle.region_sets.proofs.Calls.{then_call, let_go, holds_more, In-at}
use Rattle.region_sets.proofs.Released.{slots-append}
use Rattle.proof_form.specs.Pinned.{AreCopies}
use Rattle.proof_form.specs.Copying.{AreCopied}

length-slots : (pins : List Pin) → length (slots pins) ≡ length pins
length-slots pins = length-map pins (λ p. p.slot)

-- a refusal that is handed on, and an answer that is another
pub to_err : {T U : Type 0} {h : ℕ} {a b : Sets} {xs : List ℕ} (e : SetRefusal) → IsCall h {T = T} a b xs (Err e) → IsCall h {T = U} a b xs (Err e)
to_err e p = record { pins = p.pins; refusal = p.refusal; fulls = p.fulls; spare = p.spare }

pub to_ok : {T U : Type 0} {h : ℕ} {a b : Sets} {xs : List ℕ} {r : Result T SetRefusal} (x : U) → IsCall h a b xs r → IsCall h {T = U} a b xs (Ok x)
to_ok x p = record { pins = p.pins; refusal = tt; fulls = p.fulls; spare = p.spare }

pub to_memory : {T U : Type 0} {h : ℕ} {a b : Sets} {xs : List ℕ} {r : Result T SetRefusal} → IsCall h a b xs r → IsCall h {T = U} a b xs (Err Memory)
to_memory p = record { pins = p.pins; refusal = tt; fulls = p.fulls; spare = p.spare }

nothing_called : {T : Type 0} (a : Sets) (x : T) → IsCall 0 a a [] (Ok x)
nothing_called a x = record { pins = adds_nothing a; refusal = tt; fulls = omega arith; spare = λ room. refl }

-- ---- copies

copies_more : (a b : Sets) (xs ys us vs : List Pin) → AreCopies a b xs us → AreCopies a b ys vs → AreCopies a b (xs ++ ys) (us ++ vs)
copies_more a b [] ys [] vs p q = q
copies_more a b (x ∷ xs) ys (u ∷ us) vs p q = (p.0, copies_more a b xs ys us vs p.1 q)
copies_more a b [] ys (u ∷ us) vs p q = absurd p
copies_more a b (x ∷ xs) ys [] vs p q = absurd p

-- they stay copies where their own pins stay as they are
copies_later : (a b c : Sets) (xs us : List Pin) → ((k : ℕ) → is_one_of k (slots us) ≡ true → c.pins k ≡ b.pins k) → AreCopies a b xs us → AreCopies a c xs us
copies_later a b c [] [] same p = p
copies_later a b c (x ∷ xs) (u ∷ us) same p = (
  λ s. let at = In-at b c u.slot s (same u.slot (is_one_of-first u.slot (slots us))) in (λ e. (p.0 s).0 (at.0 e), λ e. at.1 ((p.0 s).1 e)),
  copies_later a b c xs us (λ k e. same k (or_right _ _ e)) p.1,
)
copies_later a b c [] (u ∷ us) same p = absurd p
copies_later a b c (x ∷ xs) [] same p = absurd p

-- and were copies before, where the pins were as they are
copies_earlier : (a b c : Sets) (xs us : List Pin) → ((k : ℕ) → is_one_of k (slots xs) ≡ true → b.pins k ≡ a.pins k) → AreCopies b c xs us → AreCopies a c xs us
copies_earlier a b c [] [] same p = p
copies_earlier a b c (x ∷ xs) (u ∷ us) same p = (
  λ s. let at = In-at a b x.slot s (same x.slot (is_one_of-first x.slot (slots xs))) in (λ e. at.0 ((p.0 s).0 e), λ e. (p.0 s).1 (at.1 e)),
  copies_earlier a b c xs us (λ k e. same k (or_right _ _ e)) p.1,
)
copies_earlier a b c [] (u ∷ us) same p = absurd p
copies_earlier a b c (x ∷ xs) [] same p = absurd p

-- ---- copies that are added

pub nothing_copied : {T : Type 0} (a : Sets) (x : T) (old : List Pin) → AreCopied a a [] old old (Ok x)
nothing_copied a x old = record { added = []; longer = sym (append-nil old); call = nothing_called a x; copies = tt }

-- one that was made and pushed
pub one_copied : {T U : Type 0} {a b : Sets} {r : Result T SetRefusal} (pin copy : Pin) (x : U) (old new : List Pin)
    → IsCall 1 a b (copy.slot ∷ []) r → Stands b copy.slot (In a pin.slot) → new ≡ old ++ (copy ∷ []) → AreCopied a b (pin ∷ []) old new (Ok x)
one_copied pin copy x old new call set pushed = record { added = copy ∷ []; longer = pushed; call = to_ok x call; copies = (set, tt) }

-- one that was refused
pub one_refused : {T U : Type 0} {a b : Sets} (pin : Pin) (e : SetRefusal) (old : List Pin) → IsCall 1 {T = T} a b [] (Err e) → AreCopied {T = U} a b (pin ∷ []) old old (Err e)
one_refused pin e old call = record { added = []; longer = sym (append-nil old); call = to_err e call; copies = tt }

-- one for which the list had no room
pub one_released : {T U : Type 0} {a b c : Sets} {r : Result T SetRefusal} (pin copy : Pin) (old : List Pin)
    → IsCall 1 a b (copy.slot ∷ []) r → Adds c b (copy.slot ∷ []) → c.fulls ≡ b.fulls → AreCopied {T = U} a c (pin ∷ []) old old (Err Memory)
one_released pin copy old call back fulls =
    record { added = []; longer = sym (append-nil old); call = to_memory (let_go {xs = copy.slot ∷ []} {ys = []} call back fulls); copies = tt }

-- ---- one call after another

copies_then : {T : Type 0} (a b c : Sets) (xs ys us vs : List Pin) (r : Result T SetRefusal)
    → ((k : ℕ) → is_one_of k (slots us) ≡ true → c.pins k ≡ b.pins k) → ((k : ℕ) → is_one_of k (slots ys) ≡ true → b.pins k ≡ a.pins k)
    → AreCopies a b xs us → IfOk r (λ _. AreCopies b c ys vs) → IfOk r (λ _. AreCopies a c (xs ++ ys) (us ++ vs))
copies_then a b c xs ys us vs (Ok x) kept was p q = copies_more a c xs ys us vs (copies_later a b c xs us kept p) (copies_earlier a b c ys vs was q)
copies_then a b c xs ys us vs (Err e) kept was p q = tt

pub then_copied : {T U : Type 0} {a b c : Sets} {xs ys old mid new : List Pin} {x : T} {r : Result U SetRefusal} → AreLive a (slots ys)
    → AreCopied a b xs old mid (Ok x) → AreCopied b c ys mid new r → AreCopied a c (xs ++ ys) old new r
then_copied {T} {U} {a} {b} {c} {xs} {ys} {old} {mid} {new} {x} {r} live p q = record {
  added = p.added ++ q.added;
  longer = q.longer ∙ ap (λ zs. zs ++ q.added) p.longer ∙ append_assoc old p.added q.added;
  call = subst (λ ks. IsCall (length (xs ++ ys)) a c ks r) (sym (slots-append p.added q.added))
      (then_call (length (xs ++ ys)) p.call q.call (omega (arith, length-append xs ys)) (omega (arith, length-append xs ys, length-slots p.added, length_all_zip _ xs p.added p.copies)));
  copies = copies_then a b c xs ys p.added q.added r (λ k e. stays q.call.pins k (p.call.pins.there k e)) (λ k e. stays p.call.pins k (live k e)) p.copies q.copies;
}

-- a refusal ends longer copying
pub refused_within : {T U : Type 0} {a b : Sets} {xs ys old new : List Pin} (e : SetRefusal) → length xs ≤ length ys → AreCopied {T = T} a b xs old new (Err e) → AreCopied {T = U} a b ys old new (Err e)
refused_within e le p = record { added = p.added; longer = p.longer; call = to_err e (holds_more _ le p.call); copies = tt }

-- what is live stays live
pub still_live : {T : Type 0} {a b : Sets} {xs old new : List Pin} {r : Result T SetRefusal} (ks : List ℕ) → AreLive a ks → AreCopied a b xs old new r → AreLive b ks
still_live ks live p k e = stays_live p.call.pins k (live k e)

pub live_left : (a : Sets) (xs ys : List Pin) → AreLive a (slots (xs ++ ys)) → AreLive a (slots xs)
live_left a xs ys live k e = live k (subst (λ ks. is_one_of k ks ≡ true) (sym (slots-append xs ys)) (is_one_of-left k (slots xs) (slots ys) e))

pub live_right : (a : Sets) (xs ys : List Pin) → AreLive a (slots (xs ++ ys)) → AreLive a (slots ys)
live_right a xs ys live k e = live k (subst (λ ks. is_one_of k ks ≡ true) (sym (slots-append xs ys)) (is_one_of-right k (slots xs) (slots ys) e))

-- two calls, the second of which may be refused, or the first
pub left_refused : {T U : Type 0} {a b : Sets} {xs old new : List Pin} (ys : List Pin) (e : SetRefusal) → AreCopied {T = T} a b xs old new (Err e) → AreCopied {T = U} a b (xs ++ ys) old new (Err e)
left_refused {xs = xs} ys e p = refused_within e (omega (arith, length-append xs ys)) p

-- ---- the sets of two parts

module _ (a : Sets) (zs xs ys : List Pin) (split : zs ≡ xs ++ ys) (live : AreLive a (slots zs)) where
  pub first_live : AreLive a (slots xs)
  first_live = live_left a xs ys (subst (λ ps. AreLive a (slots ps)) split live)

  pub second_live : {T : Type 0} {b : Sets} {old mid : List Pin} {r : Result T SetRefusal} → AreCopied a b xs old mid r → AreLive b (slots ys)
  second_live p = still_live (slots ys) (live_right a xs ys (subst (λ ps. AreLive a (slots ps)) split live)) p

  pub first_refused : {T U : Type 0} {b : Sets} {old new : List Pin} (e : SetRefusal) → AreCopied {T = T} a b xs old new (Err e) → AreCopied {T = U} a b zs old new (Err e)
  first_refused e p = refused_within e (omega (arith, ap length split, length-append xs ys)) p

  pub both_copied : {T U : Type 0} {b c : Sets} {old mid new : List Pin} {x : T} {r : Result U SetRefusal} → AreCopied a b xs old mid (Ok x) → AreCopied b c ys mid new r → AreCopied a c zs old new r
  both_copied {T} {U} {b} {c} {old} {mid} {new} {x} {r} p q =
      subst (λ ps. AreCopied a c ps old new r) (sym split) (then_copied (live_right a xs ys (subst (λ ps. AreLive a (slots ps)) split live)) p q)

-- ---- a list that began with none

module _ {T : Type 0} {a b : Sets} {pins old new : List Pin} {r : Result T SetRefusal} (p : AreCopied a b pins old new r) (none : old ≡ []) where
  all_added : new ≡ p.added
  all_added = p.longer ∙ ap (λ ps. ps ++ p.added) none

  pub gathered : {U : Type 0} (x : U) → IsCall (length pins) {T = U} a b (slots new) (Ok x)
  gathered {U} x = subst (λ ps. IsCall (length pins) {T = U} a b (slots ps) (Ok x)) (sym all_added) (to_ok x p.call)

  pub gathered_live : AreLive b (slots new)
  gathered_live = subst (λ ps. AreLive b (slots ps)) (sym all_added) p.call.pins.there

  pub gathered_once : AreDistinct (slots new)
  gathered_once = subst (λ ps. AreDistinct (slots ps)) (sym all_added) p.call.pins.once

pub gathered_copies : {T : Type 0} {a b : Sets} {pins old new : List Pin} {x : T} → AreCopied a b pins old new (Ok x) → old ≡ [] → AreCopies a b pins new
gathered_copies {a = a} {b = b} {pins = pins} p none = subst (λ ps. AreCopies a b pins ps) (sym (all_added p none)) p.copies

pub gathered_back : {T U : Type 0} {a b c : Sets} {pins old new : List Pin} (e : SetRefusal) → AreCopied {T = T} a b pins old new (Err e) → old ≡ []
    → Adds c b (slots new) → c.fulls ≡ b.fulls → IsCall (length pins) {T = U} a c [] (Err e)
gathered_back {T} {U} {a} {b} {c} {pins} {old} {new} e p none back fulls =
    to_err e (let_go {xs = slots p.added} {ys = []} (subst (λ ks. IsCall (length pins) {T = T} a b ks (Err e)) (sym (append-nil (slots p.added))) p.call)
    (subst (λ ps. Adds c b (slots ps)) (all_added p none) back) fulls)
