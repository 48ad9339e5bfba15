-- Tests joined.
use Rattle.std.proofs.Common.{◌≡◌, Bool, true, false, ◌||◌, Result, Ok, Err, IfOk, refl, ap, ◌∙◌}

-- a longer disjunction
pub or_more : (f a x now new : Bool) → now ≡ (f || a) → new ≡ (now || x) → new ≡ (f || (a || x))
or_more f a x now new e g = g ∙ ap (λ t. t || x) e ∙ by f a x
  where
    by : (f a x : Bool) → ((f || a) || x) ≡ (f || (a || x))
    by true a x = refl
    by false a x = refl

pub if_ok2 : {T E : Type 0} {P Q R : T → Type 0} (r : Result T E) → IfOk r P → IfOk r Q → ((t : T) → P t → Q t → R t) → IfOk r R
if_ok2 (Ok t) h k f = f t h k
if_ok2 (Err e) h k f = tt
