-- The first entry that fits, and the sets of entries.
use Rattle.std.proofs.Common.{◌≡◌, ◌⊎◌, ◌↔◌, inl, inr, ℕ, zero, suc, ◌<◌, Bool, true, false, ◌&&◌, ◌||◌, ◌==◌, List, [], ◌∷◌, ◌++◌, length, map, get_or, Result, Ok, Err, refl, sym, ◌∙◌, ap, subst, arith, eqb-true}
use Rattle.std.specs.Prelude.{IfOk, if◌then◌else◌}
use Rattle.std.proofs.lemmas.Bool.{false≢true, and_parts, and_from, or_left, or_right, or_cases, both_ways, false_from_ne_true}
use Rattle.fair_rules.specs.Rules as rules
use Rattle.kripke_model.specs.System.{State}
use Rattle.path_laws.specs.StateSet.{StateSet, ◌∈◌}
use Rattle.region_sets.specs.declared.pins.Pin.{Pin}
use Rattle.region_sets.specs.declared.pins.SetRefusal.{SetRefusal}
use Rattle.region_sets.specs.Sets.{Sets, Adds, In, IsCall, IsLive, Stands, has_state, is_one_of, pin_slots, region}
use Rattle.region_sets.specs.Ranks.{slots, regions, AreLive}
use Rattle.region_sets.proofs.Slots.{is_one_of-left, is_one_of-right, is_one_of-first}
use Rattle.region_sets.proofs.Changes.{stays, was_there}
use Rattle.region_sets.proofs.Calls.{then_call, let_go}
use Rattle.region_sets.proofs.Released.{slots-append}
use Rattle.fair_rules.specs.Claims as claims
use Rattle.fair_rules.specs.Claims.{either, both, join, join_layers, entry_set}
use Rattle.fair_rules.specs.Block as blocks
use Rattle.fair_rules.specs.Block.{same_sign}
use Rattle.fair_rules.proofs.Fixpoints.{same_set}
use Rattle.std.specs.List.{flat_map}
use Rattle.proof_form.specs.Form.{Entry, FairPart, FreeEntry, Layer, entries_sets, fair_sets, layer_sets, map_entry, map_free_entry, map_layer, map_rule, rule_sets}
use Rattle.proof_form.specs.Meaning.{layer_of, entry_of, listed_of, entries_for}
use Rattle.claim_sets.specs.EntrySets.{fits, IsReplacing}

-- ---- entries by place

pub among : (es : List (Entry Pin)) (i : ℕ) (d : Entry Pin) (k : ℕ) → i < length es
    → is_one_of k (slots (rule_sets (get_or es i d).rule)) ≡ true → is_one_of k (slots (entries_sets es)) ≡ true
among [] i d k lt h = absurd (omega arith)
among (e ∷ es) zero d k lt h =
    subst (λ ks. is_one_of k ks ≡ true) (sym (slots-append (rule_sets e.rule) (entries_sets es))) (is_one_of-left k (slots (rule_sets e.rule)) (slots (entries_sets es)) h)
among (e ∷ es) (suc i) d k lt h =
    subst (λ ks. is_one_of k ks ≡ true) (sym (slots-append (rule_sets e.rule) (entries_sets es)))
    (is_one_of-right k (slots (rule_sets e.rule)) (slots (entries_sets es)) (among es i d k (omega arith) h))

pub free_among : (es : List (FreeEntry Pin)) (i : ℕ) (d : FreeEntry Pin) (k : ℕ) → i < length es
    → is_one_of k (slots (rule_sets (get_or es i d).entry.rule)) ≡ true → is_one_of k (slots (entries_sets (map (λ e. e.entry) es))) ≡ true
free_among [] i d k lt h = absurd (omega arith)
free_among (e ∷ es) zero d k lt h =
    subst (λ ks. is_one_of k ks ≡ true) (sym (slots-append (rule_sets e.entry.rule) (entries_sets (map (λ (f : FreeEntry Pin). f.entry) es))))
    (is_one_of-left k (slots (rule_sets e.entry.rule)) (slots (entries_sets (map (λ (f : FreeEntry Pin). f.entry) es))) h)
free_among (e ∷ es) (suc i) d k lt h =
    subst (λ ks. is_one_of k ks ≡ true) (sym (slots-append (rule_sets e.entry.rule) (entries_sets (map (λ (f : FreeEntry Pin). f.entry) es))))
    (is_one_of-right k (slots (rule_sets e.entry.rule)) (slots (entries_sets (map (λ (f : FreeEntry Pin). f.entry) es))) (free_among es i d k (omega arith) h))

abbrev pub fits_free : FreeEntry Pin → ℕ → ℕ → Bool → Bool
fits_free e c n sign = (e.constraint == c) && fits e.entry n sign

module _ (sets : Sets) (n : ℕ) (sign : Bool) where
  abbrev own : List (Entry Pin) → claims.Entry
  own es = blocks.entry_of (map listed_of (map (map_entry (region sets)) es)) n sign

  pub none_fits : (es : List (Entry Pin)) → ((k : ℕ) → k < length es → (d : Entry Pin) → fits (get_or es k d) n sign ≡ false) → own es ≡ claims.Entry.Absent
  none_fits [] out = refl
  none_fits (e ∷ es) out =
      ap (λ b. if b then entry_of (map_rule (region sets) e.rule) else own es) (out 0 (omega arith) e)
      ∙ none_fits es (λ k lt d. out (suc k) (omega arith) d)

  pub first_fits : (es : List (Entry Pin)) (i : ℕ) (d : Entry Pin) → i < length es → ((k : ℕ) → k < i → (d : Entry Pin) → fits (get_or es k d) n sign ≡ false)
      → fits (get_or es i d) n sign ≡ true → own es ≡ entry_of (map_rule (region sets) (get_or es i d).rule)
  first_fits [] i d lt out is = absurd (omega arith)
  first_fits (e ∷ es) zero d lt out is = ap (λ b. if b then entry_of (map_rule (region sets) e.rule) else own es) is
  first_fits (e ∷ es) (suc i) d lt out is =
      ap (λ b. if b then entry_of (map_rule (region sets) e.rule) else own es) (out 0 (omega arith) e)
      ∙ first_fits es i d (omega arith) (λ k lt d. out (suc k) (omega arith) d) is

  module _ (c : ℕ) where
    abbrev free : List (FreeEntry Pin) → claims.Entry
    free es = blocks.entry_of (entries_for c (map (map_free_entry (region sets)) es)) n sign

    pass : (e : FreeEntry Pin) (es : List (FreeEntry Pin)) (b : Bool) → e.constraint == c ≡ b → fits_free e c n sign ≡ false → free (e ∷ es) ≡ free es
    pass e es true is out =
        ap (λ b. blocks.entry_of (if b then listed_of (map_entry (region sets) e.entry) ∷ entries_for c (map (map_free_entry (region sets)) es) else entries_for c (map (map_free_entry (region sets)) es)) n sign) is
        ∙ ap (λ b. if b then entry_of (map_rule (region sets) e.entry.rule) else free es) (sym (ap (λ b. b && fits e.entry n sign) is) ∙ out)
    pass e es false is out =
        ap (λ b. blocks.entry_of (if b then listed_of (map_entry (region sets) e.entry) ∷ entries_for c (map (map_free_entry (region sets)) es) else entries_for c (map (map_free_entry (region sets)) es)) n sign) is

    hit : (e : FreeEntry Pin) (es : List (FreeEntry Pin)) → fits_free e c n sign ≡ true → free (e ∷ es) ≡ entry_of (map_rule (region sets) e.entry.rule)
    hit e es is =
        let p = and_parts (e.constraint == c) (fits e.entry n sign) is in
        ap (λ b. blocks.entry_of (if b then listed_of (map_entry (region sets) e.entry) ∷ entries_for c (map (map_free_entry (region sets)) es) else entries_for c (map (map_free_entry (region sets)) es)) n sign) p.0
        ∙ ap (λ b. if b then entry_of (map_rule (region sets) e.entry.rule) else free es) p.1

    pub none_fits_free : (es : List (FreeEntry Pin)) → ((k : ℕ) → k < length es → (d : FreeEntry Pin) → fits_free (get_or es k d) c n sign ≡ false) → free es ≡ claims.Entry.Absent
    none_fits_free [] out = refl
    none_fits_free (e ∷ es) out = pass e es (e.constraint == c) refl (out 0 (omega arith) e) ∙ none_fits_free es (λ k lt d. out (suc k) (omega arith) d)

    pub first_fits_free : (es : List (FreeEntry Pin)) (i : ℕ) (d : FreeEntry Pin) → i < length es → ((k : ℕ) → k < i → (d : FreeEntry Pin) → fits_free (get_or es k d) c n sign ≡ false)
        → fits_free (get_or es i d) c n sign ≡ true → free es ≡ entry_of (map_rule (region sets) (get_or es i d).entry.rule)
    first_fits_free [] i d lt out is = absurd (omega arith)
    first_fits_free (e ∷ es) zero d lt out is = hit e es is
    first_fits_free (e ∷ es) (suc i) d lt out is =
        pass e es (e.constraint == c) refl (out 0 (omega arith) e) ∙ first_fits_free es i d (omega arith) (λ k lt d. out (suc k) (omega arith) d) is

-- ---- sets

-- a pin that stands for the states of a set
pub stands_is : (s : Sets) (r : Result Pin SetRefusal) (P : State → Type 0) (X : StateSet) → ((t : State) → P t ↔ (t ∈ X)) → IfOk r (λ pin. Stands s pin.slot P) → IfOk r (λ pin. region s pin ≡ X)
stands_is s (Err refusal) P X same h = tt
stands_is s (Ok pin) P X same h = same_set (region s pin) X (λ t. (λ e. (same t).0 ((h t).0 e), λ e. (h t).1 ((same t).1 e)))

pub both_states : (F G : StateSet) (s : State) → ((F s ≡ true) × (G s ≡ true)) ↔ (s ∈ both F G)
both_states F G s = (λ h. and_from (F s) (G s) h.0 h.1, λ e. and_parts (F s) (G s) e)

pub either_states : (F G : StateSet) (s : State) → ((F s ≡ true) ⊎ (G s ≡ true)) ↔ (s ∈ either F G)
either_states F G s = (λ h. elim h [ inl e ↦ or_left (F s) (G s) e | inr e ↦ or_right (F s) (G s) e ], λ e. or_cases (F s) (G s) e)

pub set_copied : (a b : Sets) (slot : ℕ) (r : Result Pin SetRefusal) → IfOk r (λ pin. Stands b pin.slot (λ s. In a slot s)) → IfOk r (λ pin. region b pin ≡ has_state (a.pins slot))
set_copied a b slot r = stands_is b r (λ s. In a slot s) (has_state (a.pins slot)) (λ t. (λ h. h, λ h. h))

pub set_joined : (a b : Sets) (x y : ℕ) (r : Result Pin SetRefusal) → IfOk r (λ pin. Stands b pin.slot (λ s. In a x s ⊎ In a y s))
    → IfOk r (λ pin. region b pin ≡ either (has_state (a.pins x)) (has_state (a.pins y)))
set_joined a b x y r = stands_is b r (λ s. In a x s ⊎ In a y s) (either (has_state (a.pins x)) (has_state (a.pins y))) (either_states (has_state (a.pins x)) (has_state (a.pins y)))

pub set_met : (a b : Sets) (x y : ℕ) (r : Result Pin SetRefusal) → IfOk r (λ pin. Stands b pin.slot (λ s. In a x s × In a y s))
    → IfOk r (λ pin. region b pin ≡ both (has_state (a.pins x)) (has_state (a.pins y)))
set_met a b x y r = stands_is b r (λ s. In a x s × In a y s) (both (has_state (a.pins x)) (has_state (a.pins y))) (both_states (has_state (a.pins x)) (has_state (a.pins y)))

-- the layers' states, as those of the rules
pub layers_joined : (r : Pin → StateSet) (layers : List (Layer Pin)) → join_layers (map layer_of (map (map_layer r) layers)) ≡ join (map r (layer_sets layers))
layers_joined r layers = λ i s. at layers s i
  where
    at : (layers : List (Layer Pin)) (s : State) → join_layers (map layer_of (map (map_layer r) layers)) s ≡ join (map r (layer_sets layers)) s
    at [] s = refl
    at (l ∷ layers) s = ap (λ b. r l.set s || b) (at layers s)

-- ---- a pin in another one's place

module _ (s0 s1 s2 : Sets) (a b : Pin) (r : Result Pin SetRefusal) (p : IsCall 1 s0 s1 (pin_slots r) r) (q : Adds s2 s1 (b.slot ∷ [])) where
  pub replaced : s2.fulls ≡ s1.fulls → IsReplacing s0 s2 b r
  replaced e = record { call = λ start held le call. let_go {xs = b.slot ∷ []} {ys = pin_slots r} (then_call held call p (omega arith) (omega arith)) q e }

pub joined_with : (s0 s1 s2 : Sets) (a b : Pin) (r : Result Pin SetRefusal) → IsLive s0 b.slot → IsCall 1 s0 s1 (pin_slots r) r → Adds s2 s1 (b.slot ∷ [])
    → IfOk r (λ pin. Stands s1 pin.slot (λ s. In s0 a.slot s ⊎ In s0 b.slot s)) → IfOk r (λ pin. region s2 pin ≡ either (region s0 a) (region s0 b))
joined_with s0 s1 s2 a b (Err refusal) live p q set = tt
joined_with s0 s1 s2 a b (Ok pin) live p q set = ap has_state (sym (q.kept pin.slot apart)) ∙ set_joined s0 s1 a.slot b.slot (Ok pin) set
  where
    apart : is_one_of pin.slot (b.slot ∷ []) ≡ false
    apart = false_from_ne_true (is_one_of pin.slot (b.slot ∷ [])) (λ e. elim (or_cases (pin.slot == b.slot) false e) [
      | inl same ↦ both_ways (is_one_of b.slot (pin.slot ∷ [])) (was_there p.pins b.slot live)
          (subst (λ k. is_one_of b.slot (k ∷ []) ≡ true) (sym (eqb-true pin.slot b.slot same)) (is_one_of-first b.slot []))
      | inr no_way ↦ absurd (false≢true no_way)
    ])

-- ---- the sets of entries

if_ok : {T : Type 0} {P Q : T → Type 0} (r : Result T SetRefusal) → ((x : T) → P x → Q x) → IfOk r P → IfOk r Q
if_ok (Ok x) f p = f x p
if_ok (Err e) f p = tt

pub au_set : (s0 s1 s2 s3 : Sets) (nonfair argument list out : Pin) (layers : List (Layer Pin)) (r : Result Pin SetRefusal) → IsLive s0 nonfair.slot → IsLive s0 argument.slot
    → IsCall 2 {T = Pin} s0 s1 (list.slot ∷ []) (Ok list) → region s1 list ≡ join (regions s0 (layer_sets layers))
    → IsReplacing s1 s2 list (Ok out) → region s2 out ≡ either (region s1 nonfair) (region s1 list)
    → IfOk r (λ pin. region s3 pin ≡ either (region s2 argument) (region s2 out))
    → (entry : claims.Entry) → entry ≡ claims.Entry.AU (map layer_of (map (map_layer (region s0)) layers))
    → IfOk r (λ pin. (ls : List rules.Layer) → join_layers ls ≡ region s0 nonfair → region s3 pin ≡ entry_set ls entry (region s0 argument))
au_set s0 s1 s2 s3 nonfair argument list out layers r ln la p list_is q out_is set entry entry_is =
    if_ok r (λ pin is ls same.
    is ∙ ap (λ F. either F (region s2 out)) argument_at ∙ ap (either (region s0 argument)) (out_is ∙ whole ls same) ∙ ap (λ e. entry_set ls e (region s0 argument)) (sym entry_is)) set
  where
    argument_at : region s2 argument ≡ region s0 argument
    argument_at = ap has_state (stays (q.call s0 2 (omega arith) p).pins argument.slot la)

    nonfair_at : region s1 nonfair ≡ region s0 nonfair
    nonfair_at = ap has_state (stays p.pins nonfair.slot ln)

    whole : (ls : List rules.Layer) → join_layers ls ≡ region s0 nonfair
        → either (region s1 nonfair) (region s1 list) ≡ either (join_layers ls) (join_layers (map layer_of (map (map_layer (region s0)) layers)))
    whole ls same = ap (λ F. either F (region s1 list)) (nonfair_at ∙ sym same) ∙ ap (either (join_layers ls)) (list_is ∙ sym (layers_joined (region s0) layers))

pub er_call : (s0 s1 s2 : Sets) (list : Pin) (r : Result Pin SetRefusal) → IsCall 2 {T = Pin} s0 s1 (list.slot ∷ []) (Ok list) → IsReplacing s1 s2 list r → IsCall 2 s0 s2 (pin_slots r) r
er_call s0 s1 s2 list r p k = k.call s0 2 (omega arith) p

pub er_set : (s0 s1 s2 : Sets) (inside list : Pin) (reach : List (List StateSet)) (untils : List Pin) (r : Result Pin SetRefusal) → IsLive s0 inside.slot
    → IsCall 2 {T = Pin} s0 s1 (list.slot ∷ []) (Ok list) → region s1 list ≡ join (regions s0 untils)
    → IfOk r (λ pin. region s2 pin ≡ either (region s1 inside) (region s1 list))
    → (entry : claims.Entry) → entry ≡ claims.Entry.ER (region s0 inside) reach (map (region s0) untils) → (F g : StateSet)
    → IfOk r (λ pin. (ls : List rules.Layer) → join_layers ls ≡ F → region s2 pin ≡ entry_set ls entry g)
er_set s0 s1 s2 inside list reach untils r live p list_is set entry entry_is F g =
    if_ok r (λ pin is ls same.
    is ∙ ap (λ F. either F (region s1 list)) (ap has_state (stays p.pins inside.slot live)) ∙ ap (either (region s0 inside)) list_is ∙ ap (λ e. entry_set ls e g) (sym entry_is)) set

pub ar_set : (s0 s1 : Sets) (set nonfair : Pin) (r : Result Pin SetRefusal) → IfOk r (λ pin. Stands s1 pin.slot (λ s. In s0 set.slot s ⊎ In s0 nonfair.slot s))
    → (entry : claims.Entry) → entry ≡ claims.Entry.AR (region s0 set) → (g : StateSet)
    → IfOk r (λ pin. (ls : List rules.Layer) → join_layers ls ≡ region s0 nonfair → region s1 pin ≡ entry_set ls entry g)
ar_set s0 s1 set nonfair r h entry entry_is g =
    if_ok r (λ pin is ls same. is ∙ ap (either (region s0 set)) (sym same) ∙ ap (λ e. entry_set ls e g) (sym entry_is)) (set_joined s0 s1 set.slot nonfair.slot r h)

pub one_set_is : (s0 s1 : Sets) (set : Pin) (r : Result Pin SetRefusal) → IfOk r (λ pin. Stands s1 pin.slot (λ s. In s0 set.slot s))
    → (entry : claims.Entry) → ((ls : List rules.Layer) (g : StateSet) → entry_set ls entry g ≡ region s0 set) → (F g : StateSet)
    → IfOk r (λ pin. (ls : List rules.Layer) → join_layers ls ≡ F → region s1 pin ≡ entry_set ls entry g)
one_set_is s0 s1 set r h entry entry_is F g = if_ok r (λ pin is ls same. is ∙ sym (entry_is ls g)) (set_copied s0 s1 set.slot r h)

-- the pins of a fair set and of the sets that lead on
pub fair_live : (now : Sets) (fair : FairPart Pin) (untils : List Pin) → AreLive now (slots (fair_sets fair ++ untils)) → IsLive now fair.inside.slot × AreLive now (slots untils)
fair_live now fair untils h = (
  h fair.inside.slot (is_one_of-first fair.inside.slot (slots (flat_map (λ sets. sets) fair.reach ++ untils))),
  λ k e. h k (subst (λ ks. is_one_of k ks ≡ true) (sym (slots-append (fair_sets fair) untils)) (is_one_of-right k (slots (fair_sets fair)) (slots untils) e)),
)
