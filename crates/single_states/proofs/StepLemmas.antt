-- What the tests of an expression say of its values.
use Rattle.std.proofs.Common.{◌≡◌, zero, suc, List, [], ◌∷◌, Bool, true, false, ◌||◌, refl, sym, ◌∙◌, ap, arith, Contains}
use Rattle.std.specs.Prelude.{Ok, Err}
use Rattle.kripke_model.specs.declared.expressions.Value.{Value}
use Rattle.kripke_model.specs.declared.expressions.FaultKind.{FaultKind}
use Rattle.kripke_model.specs.Evaluation.{Checked, ◌>>=◌, single, same, among}
use Rattle.single_states.specs.Summary.{summarized, single_of, found}
use Rattle.std.specs.Result.{result_unwrap_or}
use Rattle.kripke_model.proofs.ValueLemmas.{same-true, same_self}
use Rattle.single_states.proofs.EvalLemmas.{IfGood, tested_single}

single_ok : (c : Checked (List Value)) (v : Value) → (c >>= single) ≡ Ok v → c ≡ Ok (v ∷ [])
single_ok (Ok (w ∷ [])) v p = let e : w ≡ v = cc in ap (λ u. Ok (u ∷ [])) e
single_ok (Ok []) v p = absurd cc
single_ok (Ok (w ∷ (x ∷ ws))) v p = absurd cc
single_ok (Err kind) v p = absurd cc

-- the one value, as the test reads it
pub one_value : (c : Checked (List Value)) → IfGood c → (v : Value) → single_of (summarized c) ≡ Ok v → c ≡ Ok (v ∷ [])
one_value c h v p = single_ok c v (tested_single c h ∙ p)

pub no_value : (c : Checked (List Value)) → IfGood c → (kind : FaultKind) → single_of (summarized c) ≡ Err kind → (v : Value) → c ≡ Ok (v ∷ []) → ⊥
no_value c h kind p v e =
    let q : (c >>= single) ≡ Ok v = ap (λ (d : Checked (List Value)). d >>= single) e in
    let r : (c >>= single) ≡ Err kind = tested_single c h ∙ p in
    cc

Contains-among : (v : Value) (vs : List Value) → Contains vs v → among v vs ≡ true
Contains-among v [] (k, h, e) = absurd (omega arith)
Contains-among v (w ∷ ws) (zero, h, e) = ap (λ b. b || among v ws) (ap (same v) e ∙ same_self v)
Contains-among v (w ∷ ws) (suc k, h, e) = ap (λ b. same v w || b) (Contains-among v ws (k, omega arith, e)) ∙ or_true (same v w)
  where
    or_true : (b : Bool) → (b || true) ≡ true
    or_true true = refl
    or_true false = refl

among-Contains : (v : Value) (vs : List Value) → among v vs ≡ true → Contains vs v
among-Contains v [] p = absurd cc
among-Contains v (w ∷ ws) p = by (same v w) refl p (among-Contains v ws)
  where
    by : (b : Bool) → same v w ≡ b → (b || among v ws) ≡ true → (among v ws ≡ true → Contains ws v) → Contains (w ∷ ws) v
    by true e q rest = (0, omega arith, sym (same-true v w e))
    by false e q rest = let r = rest q in (suc r.0, omega (arith, r.1), r.2)

pub found_true : (c : Checked (List Value)) (v : Value) → found v c ≡ Ok true → Contains (result_unwrap_or c []) v
found_true (Ok vs) v p = let e : among v vs ≡ true = cc in among-Contains v vs e
found_true (Err kind) v p = absurd cc

pub true_found : (c : Checked (List Value)) (v : Value) → Contains (result_unwrap_or c []) v → found v c ≡ Ok true
true_found (Ok vs) v h = ap Ok (Contains-among v vs h)
true_found (Err kind) v (k, h, e) = absurd (omega arith)

pub same_value_at : (v w : Value) → (let c : Checked (List Value) = Ok (v ∷ []) in c ≡ Ok (w ∷ [])) → v ≡ w
same_value_at v w p = cc
