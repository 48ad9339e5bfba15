-- Each name once, at its first place.
use Rattle.std.proofs.Common.{◌≡◌, refl, sym, ◌∙◌, ap, List, [], ◌∷◌, ◌++◌, Bool, true, false, cond, not, ◌||◌, append-nil}
use Rattle.std.specs.Prelude.{filter}
use Rattle.std.specs.List.{list_any}
use Rattle.std.specs.Str.{bytes_eq}
use Rattle.std.proofs.lemmas.Bool.{false≢true}
use Rattle.std.proofs.lemmas.Slice.Eq.{bytes_eq-Decides}
use Rattle.std.proofs.lemmas.List.Elements.{filter-append}
use Rattle.std.proofs.lemmas.Map.Views.{any-filter_same}
use Rattle.smv_instances.specs.Program.{Name}
use Rattle.smv_instances.specs.Instances.{distinct_names}
use Rattle.smv_instances.proofs.TableLemmas.{bytes_eq_sym}

kept : (p : Name → Bool) (x : Name) → p x ≡ false → (w : Name) → p w ≡ true → (b : Bool) → bytes_eq x w ≡ b → not b ≡ true
kept p x fails w passes true e = absurd (false≢true (sym fails ∙ ap p ((bytes_eq-Decides x w).0 e) ∙ passes))
kept p x fails w passes false e = refl

any-first : (p : Name → Bool) (v : Name) (vs ws : List Name) → (p v ≡ false → list_any p vs ≡ list_any p ws) → (b : Bool) → p v ≡ b → (b || list_any p vs) ≡ (b || list_any p ws)
any-first p v vs ws h true e = refl
any-first p v vs ws h false e = h e

pub any-distinct_names : (p : Name → Bool) (vs : List Name) → list_any p (distinct_names vs) ≡ list_any p vs
any-distinct_names p [] = refl
any-distinct_names p (v ∷ vs) =
    any-first p v (filter (λ w. not (bytes_eq v w)) (distinct_names vs)) vs
    (λ fails. any-filter_same p (λ w. not (bytes_eq v w)) true (λ w passes. kept p v fails w passes (bytes_eq v w) refl) (distinct_names vs) ∙ any-distinct_names p vs) (p v) refl

-- one name more is new, or is there
pub distinct_names-push : (vs : List Name) (x : Name) → distinct_names (vs ++ (x ∷ [])) ≡ cond (list_any (bytes_eq x) vs) (distinct_names vs) (distinct_names vs ++ (x ∷ []))
distinct_names-push [] x = refl
distinct_names-push (v ∷ vs) x =
    ap (λ ws. v ∷ filter (λ w. not (bytes_eq v w)) ws) (distinct_names-push vs x) ∙ by (list_any (bytes_eq x) vs) (bytes_eq x v) (bytes_eq v x) refl (bytes_eq_sym v x)
  where
    stays : (c : Bool) → bytes_eq v x ≡ c → filter (λ w. not (bytes_eq v w)) (distinct_names vs ++ (x ∷ [])) ≡ filter (λ w. not (bytes_eq v w)) (distinct_names vs) ++ cond (not c) (x ∷ []) []
    stays c p = filter-append (λ w. not (bytes_eq v w)) (distinct_names vs) (x ∷ []) ∙ ap (λ b. filter (λ w. not (bytes_eq v w)) (distinct_names vs) ++ cond (not b) (x ∷ []) []) p

    by : (later back c : Bool) → bytes_eq v x ≡ c → c ≡ back → (v ∷ filter (λ w. not (bytes_eq v w)) (cond later (distinct_names vs) (distinct_names vs ++ (x ∷ [])))) ≡ cond (back || later) (distinct_names (v ∷ vs)) (distinct_names (v ∷ vs) ++ (x ∷ []))
    by true true c p e = refl
    by true false c p e = refl
    by false true true p e = ap (λ ws. v ∷ ws) (stays true p ∙ append-nil (filter (λ w. not (bytes_eq v w)) (distinct_names vs)))
    by false false false p e = ap (λ ws. v ∷ ws) (stays false p)
    by false true false p e = absurd cc
    by false false true p e = absurd cc

-- a name that is added to the names of a list
pub names_step : (seen : List Name) (x : Name) (old new : List Name) (is_new : Bool) → old ≡ distinct_names seen → is_new ≡ not (list_any (bytes_eq x) old) → new ≡ cond is_new (old ++ (x ∷ [])) old → new ≡ distinct_names (seen ++ (x ∷ []))
names_step seen x old new is_new so_far is e =
    e ∙ turn is_new (list_any (bytes_eq x) old) is
    ∙ ap (λ ns. cond (list_any (bytes_eq x) ns) ns (ns ++ (x ∷ []))) so_far
    ∙ ap (λ b. cond b (distinct_names seen) (distinct_names seen ++ (x ∷ []))) (any-distinct_names (bytes_eq x) seen)
    ∙ sym (distinct_names-push seen x)
  where
    turn : (a b : Bool) → a ≡ not b → cond a (old ++ (x ∷ [])) old ≡ cond b old (old ++ (x ∷ []))
    turn true true e = absurd cc
    turn true false e = refl
    turn false true e = refl
    turn false false e = absurd cc
