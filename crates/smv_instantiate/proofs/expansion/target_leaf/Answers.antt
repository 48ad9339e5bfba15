use Rattle.std.proofs.Common.{◌<◌, ◌≤◌, length, ◌∙◌, ap, subst, arith, ℕ, Option, Some, inl, inr}
use Rattle.kripke_model.specs.declared.expressions.Value.TheVariants.{Symbol}
use Rattle.kripke_model.specs.Term.{Term}
use Rattle.smv_instances.specs.Instances.{instances, place_of, symbols}
use Rattle.smv_names.specs.declared.targets.Target.{Target}
use Rattle.smv_names.specs.Expands.{Expands}
use Rattle.smv_names.specs.Targets.{Resolves}
use Rattle.smv_names.proofs.Once.{expands_one}
use Rattle.smv_instantiate.specs.Expansion.{IsSelected}
use Rattle.smv_instantiate.proofs.Members.{slice_in}
use Rattle.smv_instantiate.proofs.DeclaredLemmas.{few_symbols}
use Rattle.smv_instantiate.proofs.TargetLemmas.{good_target, symbol_below}
use Rattle.smv_instantiate.proofs.ExpandLemmas.{are_instances, is_kept, leaf_term}
use Rattle.smv_instantiate.proofs.PathSteps.{constant_at, constant_or_other, not_constant}
use Rattle.smv_instantiate.proofs.expansion.target_leaf.Goals as goal

pub overflow_cast-result : goal.overflow_cast-result
overflow_cast-result c =
    let h = c.requires in
    let k = constant_at h.0 h.1 h.2 c.in-Constant.place (subst (λ (t : Target). Resolves h.0 h.1 h.2 (Some t)) c.in-Constant.is h.7) in
    let below : place_of (symbols h.0) k.0 < length (symbols h.0) = symbol_below h.0 (is_kept h.0 h.5) k.0 (good_target h.0 (is_kept h.0 h.5) k.2 (slice_in (instances h.0) h.3 h.1 h.6)) in
    let few : length (symbols h.0) ≤ 262144 = few_symbols h.0 (are_instances h.0 h.5).silent h.5.written in
    omega (arith, below, few, k.1)

pub returns-in-Constant : goal.returns-in-Constant
returns-in-Constant c = λ p s q i t can at r x none.
    let k = constant_at p s q c.in-Constant.place (subst (λ (t : Target). Resolves p s q (Some t)) c.in-Constant.is r) in
    ap (λ z. Term.Const (Symbol z)) k.1 ∙ expands_one (Expands.constant k.2) x

pub unreachable-requires : goal.unreachable-requires
unreachable-requires c =
    let h = c.requires in
    let none = subst (λ (o : Option ℕ). IsSelected h.0 h.1 h.2 o) c.in-None.is (c.in_ok-x.ensures h.0 h.1 h.2 h.3 h.5 h.6 h.7) in
    elim (leaf_term h.2 h.8 h.9) [
      | inl k ↦ none k.0 k.1
      | inr k ↦ not_constant h.0 h.1 h.2 c.args.target.now k.0 (constant_or_other c.args.target.now (λ place is. c.in_default.not-Constant place is)) h.7 k.1
    ]

pub returns : goal.returns
returns c = λ p s q i t can at r x none.
    expands_one (Expands.variable (subst (λ (o : Option ℕ). IsSelected p s q o) c.in-Some.is (c.in_ok-x.ensures p s q i can at r))) x
