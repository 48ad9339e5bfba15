-- The values of an expression, added to a list.
use Rattle.std.proofs.Common.{◌≡◌, ℕ, suc, ◌<◌, List, [], ◌∷◌, ◌++◌, length, get_or, drop, refl, sym, ◌∙◌, ap, subst}
use Rattle.std.specs.Prelude.{Ok, Err}
use Rattle.kripke_model.specs.declared.expressions.Value.{Value}
use Rattle.kripke_model.specs.declared.expressions.Expr.{Expr}
use Rattle.kripke_model.specs.declared.expressions.BinOp.{BinOp}
use Rattle.kripke_model.specs.declared.expressions.FaultKind.{FaultKind}
use Rattle.kripke_model.specs.System.{System, State}
use Rattle.kripke_model.specs.Term.{Term}
use Rattle.kripke_model.specs.Reading.{term_of}
use Rattle.kripke_model.specs.Evaluation.{Checked, ◌>>=◌, distinct, binary, eval}
use Rattle.single_states.specs.Summary.{summary, summarized}
use Rattle.single_states.specs.Outcomes.{pushed, pushed_all, added, first_added}
use Rattle.single_states.proofs.EvalLemmas.{IfGood, IfOne}
use Rattle.single_states.proofs.PushLemmas.{pushed_all-append, pushed_all-distinct, pushed_all-nil, distinct-distinct}
use Rattle.single_states.proofs.ValuationLemmas.{elements, elements_at}

-- added to no values, the values of an expression are themselves
pub added_to_none : (c : Checked (List Value)) → IfGood c → added [] c ≡ c
added_to_none (Ok vs) h = ap Ok (pushed_all-nil vs ∙ ap distinct h.2 ∙ distinct-distinct (h.0 ∷ h.1) ∙ sym h.2)
added_to_none (Err kind) h = refl

same_list : (vs ws : List Value) → (let c : Checked (List Value) = Ok vs in c ≡ Ok ws) → vs ≡ ws
same_list vs ws p = cc

-- the values of x have led from now to new; those of y follow
module _ (now new : List Value) where
  append_added : (x y : Checked (List Value)) → added now x ≡ Ok new → added now (x >>= λ vs. y >>= λ ws. Ok (vs ++ ws)) ≡ added new y
  append_added (Ok vs) (Ok ws) p = ap Ok (pushed_all-append now vs ws ∙ ap (λ us. pushed_all us ws) (same_list (pushed_all now vs) new p))
  append_added (Ok vs) (Err kind) p = refl
  append_added (Err kind) y p = absurd cc

  pub union_added : (x y : Checked (List Value)) → added now x ≡ Ok new → added now (binary BinOp.Union x y) ≡ added new y
  union_added (Ok vs) (Ok ws) p = ap Ok (pushed_all-distinct now (vs ++ ws) ∙ pushed_all-append now vs ws ∙ ap (λ us. pushed_all us ws) (same_list (pushed_all now vs) new p))
  union_added (Ok vs) (Err kind) p = refl
  union_added (Err kind) y p = absurd cc

append_fails : (now : List Value) (x y : Checked (List Value)) (kind : FaultKind) → added now x ≡ Err kind → added now (x >>= λ vs. y >>= λ ws. Ok (vs ++ ws)) ≡ Err kind
append_fails now (Ok vs) y kind p = absurd cc
append_fails now (Err k) y kind p = p

pub braces_added : (now : List Value) (c : Checked (List Value)) → added now (c >>= λ vs. Ok (distinct vs)) ≡ added now c
braces_added now (Ok vs) = ap Ok (pushed_all-distinct now vs)
braces_added now (Err kind) = refl

one_added : (now : List Value) (c : Checked (List Value)) → IfOne c → first_added now (summarized c) ≡ added now c
one_added now (Ok vs) h = ap (λ us. Ok (pushed (summary us).first now)) h.1 ∙ sym (ap (λ us. Ok (pushed_all now us)) h.1)
one_added now (Err kind) h = refl

-- an expression that is read as e, with one value
pub one_added_at : (m : System) (s t : State) (now : List Value) (z e : Term) → z ≡ e → IfOne (eval m e s t) → first_added now (summarized (eval m z s t)) ≡ added now (eval m z s t)
one_added_at m s t now z e p h = one_added now (eval m z s t) (subst (λ x. IfOne (eval m x s t)) (sym p) h)

-- ---- the elements before i have led from old to now

module _ (m : System) (s t : State) (es : List Expr) (old now : List Value) (i : ℕ) where
  abbrev pub AddedSoFar : Type 0
  AddedSoFar = added old (elements m s t es) ≡ added now (elements m s t (drop i es))

  module _ (d : Expr) (lt : i < length es) (so_far : AddedSoFar) where
    pub element_added : (new : List Value) → added now (eval m (term_of (get_or es i d)) s t) ≡ Ok new → added old (elements m s t es) ≡ added new (elements m s t (drop (suc i) es))
    element_added new p =
        so_far ∙ ap (added now) (elements_at m s t es i d lt)
        ∙ append_added now new (eval m (term_of (get_or es i d)) s t) (elements m s t (drop (suc i) es)) p

    pub added_fails : (kind : FaultKind) → added now (eval m (term_of (get_or es i d)) s t) ≡ Err kind → added old (elements m s t es) ≡ Err kind
    added_fails kind p =
        so_far ∙ ap (added now) (elements_at m s t es i d lt)
        ∙ append_fails now (eval m (term_of (get_or es i d)) s t) (elements m s t (drop (suc i) es)) kind p
