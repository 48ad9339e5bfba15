-- A small program is not refused.
use Rattle.std.proofs.Common.{◌≡◌, refl, ap, subst, arith, List, [], ◌∷◌, true, false, Any, ⊎_elim}
use Rattle.std.specs.Prelude.{cond, sum_by}
use Rattle.kripke_model.specs.Refusing.{Silent}
use Rattle.kripke_model.specs.declared.expressions.PathOp.{PathOp}
use Rattle.kripke_model.specs.Term.{Term}
use Rattle.kripke_model.specs.Size.{term_nodes, nesting}
use Rattle.kripke_model.proofs.FirstLemmas.{silent_refuse, silent_then}
use Rattle.smv_instances.specs.Program.{Expr, Path, Plain, Program}
use Rattle.smv_instances.specs.Instances.{Scope, main_scope}
use Rattle.smv_names.specs.Denotes.{Target, Denotes, Finds}
use Rattle.smv_names.specs.Expands.{Expands, Selects, AreIndexes}
use Rattle.smv_instantiate.specs.Flattens.{Placed, all_items}
use Rattle.smv_instantiate.specs.Refuses.{Refuses, AreTerms}
use Rattle.smv_names.proofs.Once.{expands_one}
use Rattle.smv_instantiate.proofs.OneAnswer.{matches_one}
use Rattle.smv_instantiate.proofs.Samples.{accepted, name_x}

not_true : false ≡ true → ⊥
not_true e = subst (λ b. cond b ⊥ (Unit {0})) e tt

none_before : {A : Type 0} {P : A → Type 0} → Any P [] → ⊥
none_before h = omega arith

abbrev main_of : List Scope → Scope
main_of [] = Scope.Main (record { name = []; line = 0; formals = []; sections = [] })
main_of (s ∷ ss) = s

abbrev body : Scope
body = main_of (main_scope accepted)

terms_one : (p : Program) (items : List Placed) (ts us : List Term) → AreTerms p items ts → AreTerms p items us → ts ≡ us
terms_one p items ts us h k = matches_one (λ (i : Placed) (t u : Term) a b. expands_one a b) items ts us h k

x_denotes : Denotes accepted body (Path.Here 1 name_x) (Target.Stored body name_x Plain.Boolean [])
x_denotes = Denotes.here (Finds.direct refl)

expands : Expands accepted body (Expr.Quant PathOp.AG (Expr.At (Path.Here 1 name_x))) (Term.Quant PathOp.AG (Term.Var 0))
expands = Expands.quantified (Expands.variable (Selects.cell x_denotes refl AreIndexes.last_index))

not_refused : Silent (Refuses accepted)
not_refused =
    silent_then (silent_then (silent_then (silent_refuse not_true) (λ r h. h))
    (silent_then (silent_refuse (λ h. h _ refl refl))
    (silent_then (silent_then (silent_then (silent_then (silent_refuse (⊎_elim none_before (λ h. not_true h.0)))
    (silent_then (silent_refuse not_true) (silent_then (silent_refuse (λ h. omega arith)) (silent_refuse (λ h. omega arith))))) (λ r h. h)) (λ r h. h))
    (silent_then (silent_refuse not_true) (λ r h. h)))))
    (silent_then (silent_then (λ r h. h) (λ r h. h))
    (silent_then
    (silent_then (silent_then (silent_then (silent_refuse (λ h. h _ x_denotes refl)) (λ r h. h)) (silent_then (silent_refuse (λ h. h)) (λ r h. h)))
    (silent_then (silent_refuse (λ h. omega arith))
    (silent_then
    (silent_refuse (λ h. let same : h.0 ≡ Term.Quant PathOp.AG (Term.Var 0) ∷ [] = terms_one accepted (all_items accepted) h.0 _ h.1 (expands, tt) in
    let few : sum_by term_nodes h.0 ≡ 2 = ap (sum_by term_nodes) same in omega (arith, few, h.2)))
    (silent_refuse (λ h. let low : nesting h.0 ≡ 2 = ap nesting (expands_one h.1 expands) in omega (arith, low, h.2))))))
    (λ r h. h)))
