-- Pushing the values that are not there yet.
use Rattle.std.proofs.Common.{◌≡◌, List, [], ◌∷◌, ◌++◌, Bool, true, false, cond, not, ◌||◌, refl, sym, ◌∙◌, ap, append-nil, append_assoc}
use Rattle.std.specs.Prelude.{filter}
use Rattle.std.proofs.lemmas.List.Folds.{list_any-append}
use Rattle.kripke_model.specs.declared.expressions.Value.{Value}
use Rattle.kripke_model.specs.Evaluation.{same, among, distinct}
use Rattle.kripke_model.proofs.ValueLemmas.{same-true, same_self}
use Rattle.single_states.specs.Outcomes.{pushed, pushed_all}
use Rattle.single_states.proofs.SummaryLemmas.{differs}
use Rattle.single_states.proofs.DistinctLemmas.{distinct-push, among-distinct}

pub pushed_all-append : (vs ws us : List Value) → pushed_all vs (ws ++ us) ≡ pushed_all (pushed_all vs ws) us
pushed_all-append vs [] us = refl
pushed_all-append vs (w ∷ ws) us = pushed_all-append (pushed w vs) ws us

-- ---- what is there stays there, and what is pushed is there

or_true : (b : Bool) → (b || true) ≡ true
or_true true = refl
or_true false = refl

among-pushed : (v x : Value) (vs : List Value) → among v vs ≡ true → among v (pushed x vs) ≡ true
among-pushed v x vs h = by (among x vs)
  where
    by : (b : Bool) → among v (cond b vs (vs ++ (x ∷ []))) ≡ true
    by true = h
    by false = list_any-append (same v) vs (x ∷ []) ∙ ap (λ b. b || (same v x || false)) h

pub among-pushed_self : (x : Value) (vs : List Value) → among x (pushed x vs) ≡ true
among-pushed_self x vs = by (among x vs) refl
  where
    by : (b : Bool) → among x vs ≡ b → among x (cond b vs (vs ++ (x ∷ []))) ≡ true
    by true p = p
    by false p = list_any-append (same x) vs (x ∷ []) ∙ ap (λ b. among x vs || (b || false)) (same_self x) ∙ or_true (among x vs)

pushed-there : (v x : Value) (vs : List Value) → among v vs ≡ true → same v x ≡ true → pushed x vs ≡ vs
pushed-there v x vs h p = ap (λ u. pushed u vs) (sym (same-true v x p)) ∙ ap (λ b. cond b vs (vs ++ (v ∷ []))) h

-- ---- values that are pushed twice

skipped : (v : Value) (vs : List Value) → among v vs ≡ true → (xs : List Value) → pushed_all vs (filter (differs v) xs) ≡ pushed_all vs xs
skipped v vs h [] = refl
skipped v vs h (x ∷ xs) = by (same v x) refl (skipped v vs h xs) (skipped v (pushed x vs) (among-pushed v x vs h) xs)
  where
    by : (b : Bool) → same v x ≡ b → pushed_all vs (filter (differs v) xs) ≡ pushed_all vs xs → pushed_all (pushed x vs) (filter (differs v) xs) ≡ pushed_all (pushed x vs) xs → pushed_all vs (cond (not b) (x ∷ filter (differs v) xs) (filter (differs v) xs)) ≡ pushed_all (pushed x vs) xs
    by true p rest more = rest ∙ ap (λ us. pushed_all us xs) (sym (pushed-there v x vs h p))
    by false p rest more = more

pub pushed_all-distinct : (vs ws : List Value) → pushed_all vs (distinct ws) ≡ pushed_all vs ws
pushed_all-distinct vs [] = refl
pushed_all-distinct vs (w ∷ ws) = skipped w (pushed w vs) (among-pushed_self w vs) (distinct ws) ∙ pushed_all-distinct (pushed w vs) ws

-- ---- pushing all values gives each once

pushed_all-from : (ws us : List Value) → pushed_all (distinct ws) us ≡ distinct (ws ++ us)
pushed_all-from ws [] = ap distinct (sym (append-nil ws))
pushed_all-from ws (u ∷ us) =
    ap (λ (xs : List Value). pushed_all xs us) (ap (λ b. cond b (distinct ws) (distinct ws ++ (u ∷ []))) (among-distinct u ws) ∙ sym (distinct-push ws u))
    ∙ pushed_all-from (ws ++ (u ∷ [])) us
    ∙ ap distinct (append_assoc ws (u ∷ []) us)

pub pushed_all-nil : (ws : List Value) → pushed_all [] ws ≡ distinct ws
pushed_all-nil ws = pushed_all-from [] ws

pub distinct-distinct : (ws : List Value) → distinct (distinct ws) ≡ distinct ws
distinct-distinct ws = sym (pushed_all-nil (distinct ws)) ∙ pushed_all-distinct [] ws ∙ pushed_all-nil ws
