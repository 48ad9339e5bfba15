-- Pushing the values that are not there yet gives each value once.
use Rattle.std.proofs.Common.{◌≡◌, List, [], ◌∷◌, ◌++◌, Bool, true, false, cond, not, ◌||◌, refl, sym, ◌∙◌, ap, append-nil}
use Rattle.std.specs.Prelude.{filter}
use Rattle.std.proofs.lemmas.List.Elements.{filter-append}
use Rattle.kripke_model.specs.declared.expressions.Value.{Value}
use Rattle.kripke_model.specs.Evaluation.{same, among, distinct}
use Rattle.kripke_model.proofs.ValueLemmas.{same-true, same_self}
use Rattle.single_states.proofs.SummaryLemmas.{differs, any-distinct}

same_sym_from : (v w : Value) (b : Bool) → same v w ≡ b → (c : Bool) → same w v ≡ c → b ≡ c
same_sym_from v w true p true q = refl
same_sym_from v w false p false q = refl
same_sym_from v w true p false q = sym (same_self w) ∙ ap (same w) (sym (same-true v w p)) ∙ q
same_sym_from v w false p true q = sym p ∙ ap (same v) (same-true w v q) ∙ same_self v

same_sym : (v w : Value) → same v w ≡ same w v
same_sym v w = same_sym_from v w (same v w) refl (same w v) refl

pub distinct-push : (vs : List Value) (x : Value) → distinct (vs ++ (x ∷ [])) ≡ cond (among x vs) (distinct vs) (distinct vs ++ (x ∷ []))
distinct-push [] x = refl
distinct-push (v ∷ vs) x =
    ap (λ ws. v ∷ filter (differs v) ws) (distinct-push vs x) ∙ by (among x vs) (same x v) (same v x) refl (same_sym v x)
  where
    kept : (c : Bool) → same v x ≡ c → filter (differs v) (distinct vs ++ (x ∷ [])) ≡ filter (differs v) (distinct vs) ++ cond (not c) (x ∷ []) []
    kept c p = filter-append (differs v) (distinct vs) (x ∷ []) ∙ ap (λ b. filter (differs v) (distinct vs) ++ cond (not b) (x ∷ []) []) p

    by : (later back c : Bool) → same v x ≡ c → c ≡ back → (v ∷ filter (differs v) (cond later (distinct vs) (distinct vs ++ (x ∷ [])))) ≡ cond (back || later) (distinct (v ∷ vs)) (distinct (v ∷ vs) ++ (x ∷ []))
    by true true c p e = refl
    by true false c p e = refl
    by false true true p e = ap (λ ws. v ∷ ws) (kept true p ∙ append-nil (filter (differs v) (distinct vs)))
    by false false false p e = ap (λ ws. v ∷ ws) (kept false p)
    by false true false p e = absurd cc
    by false false true p e = absurd cc

pub among-distinct : (x : Value) (vs : List Value) → among x (distinct vs) ≡ among x vs
among-distinct x vs = any-distinct (same x) vs
