-- A model has one first fault at most.
use Rattle.std.proofs.Common.{◌≡◌, ◌⊎◌, inl, inr, ℕ, zero, suc, ◌<◌, ◌≤◌, true, List, [], ◌∷◌, length, get_or, cond, Option, Some, None, refl, sym, ◌∙◌, ap, subst, arith}
use Rattle.std.specs.Prelude.{Contains}
use Rattle.std.specs.List.{slice_index_or, slice_get, position_or_len}
use Rattle.std.proofs.lemmas.Bool.{cases_lt, cases_order, both_ways, lt-ltb}
use Rattle.std.proofs.lemmas.List.Sums.{fails_before_first}
use Rattle.std.proofs.lemmas.List.Quantifiers.{position-Some}
use Rattle.std.proofs.lemmas.Option.{none-some, same_Some, slice_get_within, get_or_from_slice_get}
use Rattle.kripke_model.specs.declared.expressions.FaultKind.{FaultKind}
use Rattle.kripke_model.specs.declared.expressions.Value.{Value}
use Rattle.kripke_model.specs.Term.{Term}
use Rattle.kripke_model.specs.System.{System, State, Variable, value_in}
use Rattle.kripke_model.specs.Step.{IsState}
use Rattle.kripke_model.specs.Order.{place_in, IsEarlier, IsBefore}
use Rattle.kripke_model.specs.Evaluation.{same}
use Rattle.kripke_model.specs.Faults.{items, item_fault, IsFaultless}
use Rattle.kripke_model.proofs.ValueLemmas.{same-true, same_self}
use Rattle.item_faults.specs.FirstFault.{line_of, term_in, IsLeastFault, IsFirstFault}

-- ---- states are ordered

-- a value of the type has a place there
placed : (x : Variable) (v : Value) → Contains x.values v → (i : ℕ) × (place_in x v ≡ Some i)
placed x v (k, inside, at) =
    let passes : same v (get_or x.values k v) ≡ true = subst (λ u. same v u ≡ true) (sym at) (same_self v) in
    let first : position_or_len (same v) x.values ≤ k = elim (cases_lt k (position_or_len (same v) x.values)) [
      | inl before ↦ absurd (both_ways (same v (get_or x.values k v)) (fails_before_first (same v) x.values k v before) passes)
      | inr ge ↦ ge
    ] in
    (position_or_len (same v) x.values, ap (λ b. cond b (Some (position_or_len (same v) x.values)) None) (lt-ltb (position_or_len (same v) x.values) (length x.values) (omega (arith, first, inside))))

-- one place has one value
same_value : (x : Variable) (v w : Value) (i : ℕ) → place_in x v ≡ Some i → place_in x w ≡ Some i → v ≡ w
same_value x v w i p q =
    same-true v (get_or x.values i v) (position-Some (same v) x.values i v p).1 ∙ sym (same-true w (get_or x.values i v) (position-Some (same w) x.values i v q).1)

earlier : (x : Variable) (v w : Value) (i j : ℕ) → place_in x v ≡ Some i → place_in x w ≡ Some j → i < j → IsEarlier (place_in x v) (place_in x w)
earlier x v w i j p q less = subst (λ o. IsEarlier o (place_in x w)) (sym p) (subst (λ o. IsEarlier (Some i) o) (sym q) less)

values_ordered : (x : Variable) (v w : Value) → Contains x.values v → Contains x.values w → (v ≡ w) ⊎ (IsEarlier (place_in x v) (place_in x w) ⊎ IsEarlier (place_in x w) (place_in x v))
values_ordered x v w has_v has_w =
    let p = placed x v has_v in
    let q = placed x w has_w in
    elim (cases_order p.0 q.0) [
      | inl e ↦ inl (same_value x v w p.0 p.1 (q.1 ∙ ap Some (sym e)))
      | inr (inl less) ↦ inr (inl (earlier x v w p.0 q.0 p.1 q.1 less))
      | inr (inr more) ↦ inr (inr (earlier x w v q.0 p.0 q.1 p.1 more))
    ]

-- the list gives each variable a value of its type
abbrev AreTyped : List Variable → State → Type 0
AreTyped xs s = (length s ≡ length xs) × ((x : ℕ) (v : Variable) → x < length xs → Contains (slice_index_or xs x v).values (value_in s x))

typed_rest : (x : Variable) (xs : List Variable) (v : Value) (s : State) → AreTyped (x ∷ xs) (v ∷ s) → AreTyped xs s
typed_rest x xs v s (each, typed) = (omega (arith, each), λ i d inside. typed (suc i) d (omega (arith, inside)))

typed_first : (x : Variable) (xs : List Variable) (v : Value) (s : State) → AreTyped (x ∷ xs) (v ∷ s) → Contains x.values v
typed_first x xs v s (each, typed) = typed zero x (omega arith)

lists_ordered : (xs : List Variable) (s t : State) → AreTyped xs s → AreTyped xs t → (s ≡ t) ⊎ (IsBefore xs s t ⊎ IsBefore xs t s)
lists_ordered [] [] [] p q = inl refl
lists_ordered [] [] (w ∷ t) p q = let e = q.0 in absurd (omega (arith, e))
lists_ordered [] (v ∷ s) t p q = let e = p.0 in absurd (omega (arith, e))
lists_ordered (x ∷ xs) [] t p q = let e = p.0 in absurd (omega (arith, e))
lists_ordered (x ∷ xs) (v ∷ s) [] p q = let e = q.0 in absurd (omega (arith, e))
lists_ordered (x ∷ xs) (v ∷ s) (w ∷ t) p q = elim (values_ordered x v w (typed_first x xs v s p) (typed_first x xs w t q)) [
  | inr (inl less) ↦ inr (inl (inl less))
  | inr (inr more) ↦ inr (inr (inl more))
  | inl e ↦ elim (lists_ordered xs s t (typed_rest x xs v s p) (typed_rest x xs w t q)) [
    | inl f ↦ inl (λ i. e i ∷ f i)
    | inr (inl less) ↦ inr (inl (inr (e, less)))
    | inr (inr more) ↦ inr (inr (inr (sym e, more)))
  ]
]

-- two states of a model are equal, or one comes before the other
pub states_ordered : (m : System) (s t : State) → IsState m s → IsState m t → (s ≡ t) ⊎ (IsBefore m.vars s t ⊎ IsBefore m.vars t s)
states_ordered m s t p q = lists_ordered m.vars s t (p.each, p.typed) (q.each, q.typed)

-- states of which neither comes before the other are equal
neither_before : (m : System) (s t : State) → IsState m s → IsState m t → (IsBefore m.vars s t → ⊥) → (IsBefore m.vars t s → ⊥) → s ≡ t
neither_before m s t p q first second = elim (states_ordered m s t p q) [ inl e ↦ e | inr (inl less) ↦ absurd (first less) | inr (inr more) ↦ absurd (second more) ]

-- ---- an item has one least pair at most

module _ (m : System) (fault_at : State → State → Option FaultKind) (e : Term) (kind other : FaultKind) (here h : State) (after a : Option State) (p : IsLeastFault m fault_at e kind here after) (q : IsLeastFault m fault_at e other h a) where
  one_here : here ≡ h
  one_here = neither_before m here h p.is_here q.is_here (q.least_here here p.next kind p.is_here p.is_next p.fault) (p.least_here h q.next other q.is_here q.is_next q.fault)

  one_pair : (p.next ≡ q.next) × (after ≡ a)
  one_pair = elim p.told [
    | inl (some, shown) ↦ elim q.told [
      | inl (also, seen) ↦
          let same_next : p.next ≡ q.next = neither_before m p.next q.next p.is_next q.is_next
          (q.least_next some p.next kind p.is_next (subst (λ s. fault_at s p.next ≡ Some kind) one_here p.fault))
          (p.least_next some q.next other q.is_next (subst (λ s. fault_at s q.next ≡ Some other) (sym one_here) q.fault)) in
          (same_next, shown ∙ ap Some same_next ∙ sym seen)
      | inr (none, seen, still) ↦ absurd (none some)
    ]
    | inr (none, shown, still) ↦ elim q.told [
      | inl (some, seen) ↦ absurd (none some)
      | inr (also, seen, stays) ↦ (still ∙ one_here ∙ sym stays, shown ∙ sym seen)
    ]
  ]

  one_kind : kind ≡ other
  one_kind = same_Some kind other (sym p.fault ∙ ap (λ s. fault_at s p.next) one_here ∙ ap (fault_at h) one_pair.0 ∙ q.fault)

-- ---- a model has one first fault at most

none_earlier : (m : System) (kind other : FaultKind) (line l : ℕ) (here h : State) (after a : Option State) (f : IsFirstFault m kind line here after) (g : IsFirstFault m other l h a) → f.place < g.place → ⊥
none_earlier m kind other line l here h after a f g less =
    let p = f.least in
    none-some kind (sym (g.none_before f.place f.item here p.next less f.at p.is_here p.is_next) ∙ p.fault)

pub one_fault : (m : System) (kind other : FaultKind) (line l : ℕ) (here h : State) (after a : Option State)
    → IsFirstFault m kind line here after → IsFirstFault m other l h a
    → (kind ≡ other) × (line ≡ l) × (here ≡ h) × (after ≡ a)
one_fault m kind other line l here h after a f g =
    let place : f.place ≡ g.place = elim (cases_order f.place g.place) [
      | inl e ↦ e
      | inr (inl less) ↦ absurd (none_earlier m kind other line l here h after a f g less)
      | inr (inr more) ↦ absurd (none_earlier m other kind l line h here a after g f more)
    ] in
    let item : f.item ≡ g.item = same_Some f.item g.item (sym f.at ∙ ap (slice_get (items m)) place ∙ g.at) in
    let least : IsLeastFault m (item_fault m f.item) (term_in f.item) other h a = subst (λ i. IsLeastFault m (item_fault m i) (term_in i) other h a) (sym item) g.least in (
      one_kind m (item_fault m f.item) (term_in f.item) kind other here h after a f.least least,
      f.line_is ∙ ap line_of item ∙ sym g.line_is,
      one_here m (item_fault m f.item) (term_in f.item) kind other here h after a f.least least,
      (one_pair m (item_fault m f.item) (term_in f.item) kind other here h after a f.least least).1,
    )

-- a model with a first fault is not faultless
pub faultless_or_fault : (m : System) (kind : FaultKind) (line : ℕ) (here : State) (after : Option State) → IsFirstFault m kind line here after → IsFaultless m → ⊥
faultless_or_fault m kind line here after f safe =
    let p = f.least in
    let item : get_or (items m) f.place f.item ≡ f.item = get_or_from_slice_get (items m) f.place f.item f.item f.at in
    let none : item_fault m f.item here p.next ≡ None = subst (λ i. item_fault m i here p.next ≡ None) item (safe f.place f.item (slice_get_within (items m) f.place f.item f.at) here p.next p.is_here p.is_next) in
    none-some kind (sym none ∙ p.fault)
