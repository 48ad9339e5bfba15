-- A fair set and its reach sets, copied one after the other.
use Rattle.std.proofs.Common.{◌≡◌, ℕ, ◌+◌, true, List, [], ◌∷◌, ◌++◌, length, map, flat_map, Result, Ok, Err, refl, sym, ◌∙◌, ap, subst, arith, length-append}
use Rattle.std.specs.Global.{Vec}
use Rattle.path_laws.specs.StateSet.{StateSet}
use Rattle.region_sets.specs.declared.pins.Pin.{Pin}
use Rattle.region_sets.specs.declared.pins.SetRefusal.{SetRefusal}
use Rattle.region_sets.specs.Sets.{Sets, Adds, IsCall, Stands, region, is_one_of}
use Rattle.region_sets.specs.Ranks.{slots, regions, lists_slots, list_regions, AreLive}
use Rattle.region_sets.proofs.Slots.{is_one_of-first, is_one_of-left, is_one_of-right}
use Rattle.region_sets.proofs.Changes.{stays}
use Rattle.region_sets.proofs.Calls.{then_call, let_go, regions-same}
use Rattle.region_sets.proofs.Released.{slots-append}
use Rattle.proof_form.specs.Form.{FairPart}
use Rattle.rank_extract.specs.Made.{total, many, IsMade, lists_own, lists_seen, fair_of, fair_own, fair_seen, fair_size}
use Rattle.rank_extract.proofs.Adding.{to_err, to_ok}
use Rattle.rank_extract.proofs.Makes.{copied, region_stays}

-- ---- lists of lists

abbrev pub items_of : List (Vec Pin) → List (List Pin)
items_of lists = map (λ list. list.items) lists

pub lists_flat : (ls : List (Vec Pin)) → slots (flat_map (λ sets. sets) (items_of ls)) ≡ lists_slots ls
lists_flat [] = refl
lists_flat (l ∷ ls) = slots-append l.items (flat_map (λ sets. sets) (items_of ls)) ∙ ap (λ ks. slots l.items ++ ks) (lists_flat ls)

pub lists_regions : (s : Sets) (ls : List (Vec Pin)) → map (map (region s)) (items_of ls) ≡ list_regions s ls
lists_regions s [] = refl
lists_regions s (l ∷ ls) = ap (λ xs. regions s l.items ∷ xs) (lists_regions s ls)

pub flat_total : {A : Type 0} (vs : List (List A)) → length (flat_map (λ sets. sets) vs) ≡ total many vs
flat_total [] = refl
flat_total (v ∷ vs) = omega (arith, length-append v (flat_map (λ sets. sets) vs), flat_total vs)

pub lists_stay : (a b : Sets) (ls : List (Vec Pin)) → ((k : ℕ) → is_one_of k (lists_slots ls) ≡ true → b.pins k ≡ a.pins k) → list_regions b ls ≡ list_regions a ls
lists_stay a b [] h = refl
lists_stay a b (l ∷ ls) h =
    λ i. regions-same a b l.items (λ k e. h k (is_one_of-left k (slots l.items) (lists_slots ls) e)) i
    ∷ lists_stay a b ls (λ k e. h k (is_one_of-right k (slots l.items) (lists_slots ls) e)) i

-- ---- the part

module _ {T : Type 0} {a b : Sets} {r : Result T SetRefusal} (inside : Pin) (F : StateSet) (call : IsCall 1 a b (inside.slot ∷ []) r) (set : Stands b inside.slot (λ s. F s ≡ true))
    (reach : List (Vec Pin)) (live : AreLive a (lists_slots reach)) where
  same_reach : list_regions b reach ≡ list_regions a reach
  same_reach = lists_stay a b reach (λ k e. stays call.pins k (live k e))

  abbrev whole : FairPart StateSet
  whole = fair_of F (list_regions a reach)

  size_is : total many (list_regions b reach) + 1 ≡ fair_size whole
  size_is = omega (arith, ap (total many) same_reach, flat_total (list_regions a reach))

  pub fair_made : {c : Sets} (lists : Vec (Vec Pin)) → IsMade lists_own lists_seen (total many) b c (list_regions b reach) (Ok lists)
      → IsMade fair_own fair_seen fair_size a c whole (Ok (record { inside = inside; reach = items_of lists.items }))
  fair_made {c} lists made =
      let part : FairPart Pin = record { inside = inside; reach = items_of lists.items } in
      let answer : Result (FairPart Pin) SetRefusal = Ok part in record {
        call = subst (λ ks. IsCall (fair_size whole) a c ks answer) (ap (λ ks. inside.slot ∷ ks) (sym (lists_flat lists.items)))
            (to_ok part (then_call (fair_size whole) call made.call (omega (arith, size_is)) (omega (arith, size_is))));
        view = λ i. record {
          inside = (region_stays inside made.call.pins (call.pins.there inside.slot (is_one_of-first inside.slot [])) ∙ copied b inside F set) i;
          reach = (lists_regions c lists.items ∙ made.view ∙ same_reach) i;
        };
      }

  pub fair_refused : {c d : Sets} {e : SetRefusal} → IsMade {X = Vec (Vec Pin)} lists_own lists_seen (total many) b c (list_regions b reach) (Err e) → Adds d c (inside.slot ∷ []) → d.fulls ≡ c.fulls
      → IsMade {X = FairPart Pin} fair_own fair_seen fair_size a d whole (Err e)
  fair_refused {c} {d} {e} made back fulls = record {
    call = to_err e (let_go {xs = inside.slot ∷ []} {ys = []} (then_call (fair_size whole) call made.call (omega (arith, size_is)) (omega (arith, size_is))) back fulls);
    view = tt;
  }
