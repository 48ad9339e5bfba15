-- The pins of entries, one of which is changed.
use Rattle.std.proofs.Common.{◌≡◌, ℕ, zero, suc, ◌<◌, List, [], ◌∷◌, ◌++◌, get_or, set, length, refl, sym, ◌∙◌, subst, ap, arith, append_assoc, append-nil}
use Rattle.std.specs.Prelude.{flat_map}
use Rattle.std.specs.Global.{Vec}
use Rattle.std.proofs.lemmas.List.{map-append}
use Rattle.region_sets.specs.declared.pins.Pin.{Pin}
use Rattle.region_sets.specs.Sets.{Sets, Adds}
use Rattle.region_sets.specs.Ranks.{lists_slots, slots}
use Rattle.proof_form.specs.Form.{Entry, Layer, entries_sets, layer_sets, rule_sets}
use Rattle.proof_cases.specs.LetGo.{HasPins, Lessens}
use Rattle.proof_form.specs.Filling.{lists_of}
use Rattle.proof_form.proofs.Ended.{lists_are}
use Rattle.proof_cases.proofs.Lessened.{alone, beside, part, then_less, released}

abbrev of_entry : Entry Pin → List ℕ
of_entry e = slots (rule_sets e.rule)

abbrev own : List (Entry Pin) → List ℕ
own es = slots (entries_sets es)

slots-append : (xs ys : List Pin) → slots (xs ++ ys) ≡ slots xs ++ slots ys
slots-append xs ys = map-append (λ (pin : Pin). pin.slot) xs ys

-- around the pins of an entry are those of the others
parts_at : (es : List (Entry Pin)) (k : ℕ) (e : Entry Pin) → k < length es → e ≡ get_or es k e
    → (ps : List ℕ) × (qs : List ℕ) × (own es ≡ ps ++ (of_entry e ++ qs)) × ((f : Entry Pin) → own (set es k f) ≡ ps ++ (of_entry f ++ qs))
parts_at [] k e lt is = absurd (omega (arith, lt))
parts_at (x ∷ es) zero e lt is =
    ([], own es, slots-append (rule_sets x.rule) (entries_sets es) ∙ ap (λ (y : Entry Pin). of_entry y ++ own es) (sym is), λ f. slots-append (rule_sets f.rule) (entries_sets es))
parts_at (x ∷ es) (suc k) e lt is =
    let r = parts_at es k e (omega (arith, lt)) is in
    let more : (l : List ℕ) → of_entry x ++ (r.0 ++ l) ≡ (of_entry x ++ r.0) ++ l = λ l. sym (append_assoc (of_entry x) r.0 l) in (
      of_entry x ++ r.0,
      r.1,
      slots-append (rule_sets x.rule) (entries_sets es) ∙ ap (λ l. of_entry x ++ l) r.2 ∙ more (of_entry e ++ r.1),
      λ f. slots-append (rule_sets x.rule) (entries_sets (set es k f)) ∙ ap (λ l. of_entry x ++ l) (r.3 f) ∙ more (of_entry f ++ r.1),
    )

-- the pins of an entry
pub pins_at : (a : Sets) (es : List (Entry Pin)) (k : ℕ) (e : Entry Pin) → k < length es → e ≡ get_or es k e → HasPins a (slots (entries_sets es)) → HasPins a (slots (rule_sets e.rule))
pins_at a es k e lt is h = let r = parts_at es k e lt is in part a r.0 (of_entry e) r.1 (subst (HasPins a) r.2 h)

-- where pins of an entry are let go, they are those of its list
pub less_at : (a b : Sets) (es : List (Entry Pin)) (k : ℕ) (e f : Entry Pin) → k < length es → e ≡ get_or es k e → Lessens a b (slots (rule_sets e.rule)) (slots (rule_sets f.rule))
    → Lessens a b (slots (entries_sets es)) (slots (entries_sets (set es k f)))
less_at a b es k e f lt is p =
    let r = parts_at es k e lt is in
    subst (λ old. Lessens a b old (own (set es k f))) (sym r.2)
    (subst (λ new. Lessens a b (r.0 ++ (of_entry e ++ r.1)) new) (sym (r.3 f)) (beside (of_entry e) (of_entry f) r.0 r.1 p))

-- a proof's pins: of its free part, of its layers, of its fair part, of its entries
pub four : (p l f e : List Pin) → slots (p ++ (l ++ (f ++ e))) ≡ slots p ++ (slots l ++ (slots f ++ slots e))
four p l f e = slots-append p (l ++ (f ++ e)) ∙ ap (λ x. slots p ++ x) (slots-append l (f ++ e) ∙ ap (λ x. slots l ++ x) (slots-append f e))

-- the layers and the entries' pins are let go
pub proof_less : {a b c : Sets} (p l f e g : List Pin) → Adds b a (slots l) → Lessens b c (slots e) (slots g) → Lessens a c (slots (p ++ (l ++ (f ++ e)))) (slots (p ++ ([] ++ (f ++ g))))
proof_less {a} {b} {c} p l f e g gone less =
    let front = slots p ++ slots f in
    let last : Lessens b c (front ++ (slots e ++ [])) (front ++ (slots g ++ [])) = beside (slots e) (slots g) front [] less in
    let first : Lessens a b (slots p ++ (slots l ++ (slots f ++ slots e))) (slots p ++ ([] ++ (slots f ++ slots e))) = beside (slots l) [] (slots p) (slots f ++ slots e) (released (slots l) gone) in
    let at : (x : List ℕ) → front ++ (x ++ []) ≡ slots p ++ ([] ++ (slots f ++ x)) = λ x. ap (λ y. front ++ y) (append-nil x) ∙ append_assoc (slots p) (slots f) x in
    subst (λ old. Lessens a c old (slots (p ++ ([] ++ (f ++ g))))) (sym (four p l f e))
    (subst (λ new. Lessens a c (slots p ++ (slots l ++ (slots f ++ slots e))) new) (sym (four p [] f g))
    (then_less first (subst (λ new. Lessens b c (slots p ++ ([] ++ (slots f ++ slots e))) new) (at (slots g)) (subst (λ old. Lessens b c old (front ++ (slots g ++ []))) (at (slots e)) last))))

pub layers_held : (a : Sets) (p l f e : List Pin) → HasPins a (slots (p ++ (l ++ (f ++ e)))) → HasPins a (slots l)
layers_held a p l f e h = part a (slots p) (slots l) (slots f ++ slots e) (subst (HasPins a) (four p l f e) h)

pub entries_held : {a b : Sets} (p l f e : List Pin) → HasPins a (slots (p ++ (l ++ (f ++ e)))) → Adds b a (slots l) → HasPins b (slots e)
entries_held {a} {b} p l f e h gone =
    let left : HasPins b (slots p ++ ([] ++ (slots f ++ slots e))) = (released (slots l) gone).held (slots p) (slots f ++ slots e) (subst (HasPins a) (four p l f e) h) in
    let at : (slots p ++ slots f) ++ (slots e ++ []) ≡ slots p ++ ([] ++ (slots f ++ slots e)) = ap (λ y. (slots p ++ slots f) ++ y) (append-nil (slots e)) ∙ append_assoc (slots p) (slots f) (slots e) in
    part b (slots p ++ slots f) (slots e) [] (subst (HasPins b) (sym at) left)

-- a free part's pins are let go, and the pins of the other parts are as before
pub free_less : {a b : Sets} (p q l m f g e h : List Pin) → m ≡ l → g ≡ f → h ≡ e → Lessens a b (slots p) (slots q) → Lessens a b (slots (p ++ (l ++ (f ++ e)))) (slots (q ++ (m ++ (g ++ h))))
free_less {a} {b} p q l m f g e h layers fair entries less =
    let rest : List Pin = l ++ (f ++ e) in
    let one : Lessens a b (slots p ++ slots rest) (slots q ++ slots rest) = beside (slots p) (slots q) [] (slots rest) less in
    let same : q ++ rest ≡ q ++ (m ++ (g ++ h)) = rw (layers, fair, entries) refl in
    subst (λ (x : List Pin). Lessens a b (slots (p ++ rest)) (slots x)) same
    (subst (λ old. Lessens a b old (slots (q ++ rest))) (sym (slots-append p rest))
    (subst (λ new. Lessens a b (slots p ++ slots rest) new) (sym (slots-append q rest)) one))

pub free_held : (a : Sets) (p rest : List Pin) → HasPins a (slots (p ++ rest)) → HasPins a (slots p)
free_held a p rest h = part a [] (slots p) (slots rest) (subst (HasPins a) (slots-append p rest) h)

-- where an entry's sets stay, those of its list do
pub same_at : (es : List (Entry Pin)) (k : ℕ) (e f : Entry Pin) → k < length es → e ≡ get_or es k e → rule_sets f.rule ≡ rule_sets e.rule → entries_sets (set es k f) ≡ entries_sets es
same_at [] k e f lt is same = absurd (omega (arith, lt))
same_at (x ∷ es) zero e f lt is same = ap (λ ys. ys ++ entries_sets es) (same ∙ ap (λ (y : Entry Pin). rule_sets y.rule) is)
same_at (x ∷ es) (suc k) e f lt is same = ap (λ ys. rule_sets x.rule ++ ys) (same_at es k e f (omega (arith, lt)) is same)

pub same_layer_at : (ls : List (Layer Pin)) (k : ℕ) (l m : Layer Pin) → k < length ls → l ≡ get_or ls k l → m.set ≡ l.set → layer_sets (set ls k m) ≡ layer_sets ls
same_layer_at [] k l m lt is same = absurd (omega (arith, lt))
same_layer_at (x ∷ ls) zero l m lt is same = ap (λ pin. pin ∷ layer_sets ls) (same ∙ ap (λ (y : Layer Pin). y.set) is)
same_layer_at (x ∷ ls) (suc k) l m lt is same = ap (λ pins. x.set ∷ pins) (same_layer_at ls k l m (omega (arith, lt)) is same)

-- ---- a free part's pins are let go, and then pins of the fair part

module _ {a b : Sets} (p q l f e : List Pin) (free : Lessens a b (slots p) (slots q)) where
  behind_free : Lessens a b (slots (p ++ (l ++ (f ++ e)))) (slots (q ++ (l ++ (f ++ e))))
  behind_free = free_less p q l l f f e e refl refl refl free

  around : (x : List Pin) → slots (q ++ (l ++ (x ++ e))) ≡ (slots q ++ slots l) ++ (slots x ++ slots e)
  around x = four q l x e ∙ sym (append_assoc (slots q) (slots l) (slots x ++ slots e))

  pub fair_held : HasPins a (slots (p ++ (l ++ (f ++ e)))) → HasPins b (slots f)
  fair_held h = part b (slots q ++ slots l) (slots f) (slots e) (subst (HasPins b) (around f) (alone behind_free h))

  pub changed_less : {c : Sets} (m g h : List Pin) → m ≡ l → h ≡ e → Lessens b c (slots f) (slots g)
      → Lessens a c (slots (p ++ (l ++ (f ++ e)))) (slots (q ++ (m ++ (g ++ h))))
  changed_less {c} m g h layers entries fair =
      let inner : Lessens b c (slots (q ++ (l ++ (f ++ e)))) (slots (q ++ (l ++ (g ++ e)))) =
      subst (λ old. Lessens b c old (slots (q ++ (l ++ (g ++ e))))) (sym (around f))
      (subst (λ new. Lessens b c ((slots q ++ slots l) ++ (slots f ++ slots e)) new) (sym (around g)) (beside (slots f) (slots g) (slots q ++ slots l) (slots e) fair)) in
      let same : q ++ (l ++ (g ++ e)) ≡ q ++ (m ++ (g ++ h)) = rw (layers, entries) refl in
      subst (λ (x : List Pin). Lessens a c (slots (p ++ (l ++ (f ++ e)))) (slots x)) same (then_less behind_free inner)

-- ---- the lists of a fair part are let go

module _ (inside : Pin) (reach : List (Vec Pin)) where
  fair_slots : slots (inside ∷ flat_map (λ sets. sets) (lists_of reach)) ≡ (inside.slot ∷ []) ++ (lists_slots reach ++ [])
  fair_slots = ap (λ ks. inside.slot ∷ ks) (lists_are reach ∙ sym (append-nil (lists_slots reach)))

  pub lists_held : (a : Sets) → HasPins a (slots (inside ∷ flat_map (λ sets. sets) (lists_of reach))) → HasPins a (lists_slots reach)
  lists_held a h = part a (inside.slot ∷ []) (lists_slots reach) [] (subst (HasPins a) fair_slots h)

  pub lists_less : {a b : Sets} → Adds b a (lists_slots reach) → Lessens a b (slots (inside ∷ flat_map (λ sets. sets) (lists_of reach))) (inside.slot ∷ [])
  lists_less {a} {b} gone = subst (λ old. Lessens a b old (inside.slot ∷ [])) (sym fair_slots) (beside (lists_slots reach) [] (inside.slot ∷ []) [] (released (lists_slots reach) gone))
