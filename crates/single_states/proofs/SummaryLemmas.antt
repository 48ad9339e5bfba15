-- What a summary says of a list of values.
use Rattle.std.proofs.Common.{◌≡◌, List, [], ◌∷◌, Bool, true, false, cond, not, ◌||◌, refl, sym, ◌∙◌, ap}
use Rattle.std.specs.Prelude.{filter, Ok, Err}
use Rattle.std.specs.List.{list_any}
use Rattle.std.proofs.lemmas.Bool.{false≢true}
use Rattle.std.proofs.lemmas.Map.Views.{any-filter_same}
use Rattle.kripke_model.specs.declared.expressions.Value.{Value}
use Rattle.kripke_model.specs.declared.expressions.FaultKind.{FaultKind}
use Rattle.kripke_model.specs.Evaluation.{same, distinct, single}
use Rattle.kripke_model.proofs.ValueLemmas.{same-true, same_self}
use Rattle.single_states.specs.Summary.{summary, only}

-- ---- tests of the distinct values

kept : (p : Value → Bool) (x : Value) → p x ≡ false → (w : Value) → p w ≡ true → (b : Bool) → same x w ≡ b → not b ≡ true
kept p x fails w passes true e = absurd (false≢true (sym fails ∙ ap p (same-true x w e) ∙ passes))
kept p x fails w passes false e = refl

any-filter : (p : Value → Bool) (x : Value) → p x ≡ false → (vs : List Value) → list_any p (filter (λ w. not (same x w)) vs) ≡ list_any p vs
any-filter p x fails vs = any-filter_same p (λ w. not (same x w)) true (λ w passes. kept p x fails w passes (same x w) refl) vs

any-first : (p : Value → Bool) (v : Value) (vs ws : List Value) → (p v ≡ false → list_any p vs ≡ list_any p ws) → (b : Bool) → p v ≡ b → (b || list_any p vs) ≡ (b || list_any p ws)
any-first p v vs ws h true e = refl
any-first p v vs ws h false e = h e

pub any-distinct : (p : Value → Bool) (vs : List Value) → list_any p (distinct vs) ≡ list_any p vs
any-distinct p [] = refl
any-distinct p (v ∷ vs) =
    any-first p v (filter (λ w. not (same v w)) (distinct vs)) vs (λ fails. any-filter p v fails (distinct vs) ∙ any-distinct p vs) (p v) refl

-- ---- the one value

-- another value than the first one
abbrev pub differs : Value → Value → Bool
differs v w = not (same v w)

single-filter : (v : Value) (vs : List Value) → single (v ∷ filter (differs v) vs) ≡ cond (list_any (differs v) vs) (Err FaultKind.ManyValues) (Ok v)
single-filter v [] = refl
single-filter v (w ∷ ws) = by (differs v w) (single-filter v ws)
  where
    by : (b : Bool) → single (v ∷ filter (differs v) ws) ≡ cond (list_any (differs v) ws) (Err FaultKind.ManyValues) (Ok v) → single (v ∷ cond b (w ∷ filter (differs v) ws) (filter (differs v) ws)) ≡ cond (b || list_any (differs v) ws) (Err FaultKind.ManyValues) (Ok v)
    by true rest = refl
    by false rest = rest

pub single-distinct : (v : Value) (vs : List Value) → single (distinct (v ∷ vs)) ≡ only (summary (v ∷ vs))
single-distinct v vs = single-filter v (distinct vs) ∙ ap (λ b. cond b (Err FaultKind.ManyValues) (Ok v)) (any-distinct (differs v) vs)

self_differs : (v : Value) → differs v v ≡ false
self_differs v = ap not (same_self v)

pub summary-distinct : (v : Value) (vs : List Value) → summary (distinct (v ∷ vs)) ≡ summary (v ∷ vs)
summary-distinct v vs =
    ap (λ b. record { first = v; many = b }) (any-filter (differs v) v (self_differs v) (distinct vs) ∙ any-distinct (differs v) vs)
