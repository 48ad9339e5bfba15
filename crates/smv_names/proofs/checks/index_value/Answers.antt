use Rattle.std.proofs.lemmas.Int.{ints}
use Rattle.std.proofs.Common.{rules, arith, SFits, w64, to_z, of_z, ◌≡◌, ◌≤◌, ℕ, subst, None, pos}
use Rattle.std.specs.Prelude.{IfSome, IfNone}
use Rattle.smv_instances.specs.Plain.{plain_expr}
use Rattle.smv_names.specs.Values.{HasNumber, IsNumber}
use Rattle.smv_names.proofs.CheckLemmas.{bracket_number, no_bracket_number, number_in_bounds, no_number_no_index}
use Rattle.smv_names.proofs.checks.index_value.Goals as goal

pub returns-in-Some : goal.returns-in-Some
returns-in-Some c = λ p b targets numbers is.
    let e = plain_expr c.args.bracket.now.index.now in
    let n = c.in-Some.n in
    let has : HasNumber p b.scope e n = subst (λ z. IsNumber p b.scope e z) c.in-Some.is (c.in_ok-n.ensures p b.scope targets is.scope_is (λ v a at named. numbers v a at)) in
    let fits : SFits w64 n = search rules in
    let same : to_z w64 (of_z w64 n) ≡ n = omega (arith, ints) in
    number_in_bounds p c.args.bracket.now b n c.within.result is (bracket_number p b n is.index_is has)
    (subst (λ z. IfSome c.within.result (λ k. (z ≡ pos k) × (c.args.bracket.now.low ≤ k) × (k ≤ c.args.bracket.now.high))) same c.within.ensures.some)
    (subst (λ z. IfNone c.within.result ((k : ℕ) → z ≡ pos k → c.args.bracket.now.low ≤ k → k ≤ c.args.bracket.now.high → ⊥)) same c.within.ensures.none)

pub returns-in-None : goal.returns-in-None
returns-in-None c = λ p b targets numbers is.
    let e = plain_expr c.args.bracket.now.index.now in
    let none : IsNumber p b.scope e None = subst (λ z. IsNumber p b.scope e z) c.in-None.is (c.in_ok-n.ensures p b.scope targets is.scope_is (λ v a at named. numbers v a at)) in
    no_number_no_index p b (no_bracket_number p b is.index_is none)
