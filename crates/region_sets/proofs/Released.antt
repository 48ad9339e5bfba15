-- Pins that are released in turn.
use Rattle.std.proofs.Common.{◌≡◌, ℕ, true, false, List, [], ◌∷◌, ◌++◌, refl, sym, ◌∙◌, ap, subst, append_assoc}
use Rattle.std.specs.Prelude.{IsSome}
use Rattle.std.specs.Global.{Vec}
use Rattle.std.proofs.lemmas.Bool.{both_ways, false_from_ne_true}
use Rattle.region_sets.specs.declared.pins.Pin.{Pin}
use Rattle.region_sets.specs.Sets.{Sets, Adds, AreDistinct, IsLive, is_one_of}
use Rattle.region_sets.specs.Ranks.{slots, lists_slots, AreLive}
use Rattle.region_sets.proofs.Slots.{is_one_of-left, is_one_of-right, is_one_of-swap, AreDistinct-left, AreDistinct-right, AreDistinct-apart, AreDistinct-swap}

-- of a list of live pins, those that aren't released yet are live
pub still_live : (start now : Sets) (whole left gone : List ℕ) (k : ℕ) → AreLive start whole → AreDistinct whole → whole ≡ left ++ gone → Adds now start gone → is_one_of k left ≡ true → IsLive now k
still_live start now whole left gone k live once split p h =
    let there : IsLive start k = live k (subst (λ ks. is_one_of k ks ≡ true) (sym split) (is_one_of-left k left gone h)) in
    let apart : AreDistinct (left ++ gone) = subst AreDistinct split once in
    let out : is_one_of k gone ≡ false = false_from_ne_true (is_one_of k gone) (λ e. both_ways (is_one_of k left) (AreDistinct-apart left gone apart k e) h) in
    subst (λ o. IsSome o) (p.kept k out) there

pub slots-append : (ps qs : List Pin) → slots (ps ++ qs) ≡ slots ps ++ slots qs
slots-append [] qs = refl
slots-append (p ∷ ps) qs = ap (λ ks. p.slot ∷ ks) (slots-append ps qs)

pub lists-append : (ls ks : List (Vec Pin)) → lists_slots (ls ++ ks) ≡ lists_slots ls ++ lists_slots ks
lists-append [] ks = refl
lists-append (l ∷ ls) ks = ap (λ s. slots l.items ++ s) (lists-append ls ks) ∙ sym (append_assoc (slots l.items) (lists_slots ls) (lists_slots ks))

-- the pins that go next are live, and each stands once among them
pub next_live : (start now : Sets) (whole left next gone : List ℕ) → AreLive start whole → AreDistinct whole → whole ≡ (left ++ next) ++ gone → Adds now start gone → AreLive now next
next_live start now whole left next gone live once split p k h =
    still_live start now whole (left ++ next) gone k live once split p (is_one_of-right k left next h)

pub next_once : (whole left next gone : List ℕ) → AreDistinct whole → whole ≡ (left ++ next) ++ gone → AreDistinct next
next_once whole left next gone once split = AreDistinct-right left next (AreDistinct-left (left ++ next) gone (subst AreDistinct split once))

-- the same where those that are gone stood first
pub live_after : (start now : Sets) (whole gone left : List ℕ) → AreLive start whole → AreDistinct whole → whole ≡ gone ++ left → Adds now start gone → AreLive now left
live_after start now whole gone left live once split p k h =
    still_live start now (left ++ gone) left gone k
    (λ i e. live i (subst (λ ks. is_one_of i ks ≡ true) (sym split) (is_one_of-swap i gone left ∙ e)))
    (AreDistinct-swap gone left (subst AreDistinct split once)) refl p h
