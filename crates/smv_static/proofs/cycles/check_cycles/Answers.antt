use Rattle.std.proofs.Common.{◌≡◌, ℕ, ◌<◌, inr, List, length, get_or, ◌∙◌, ap, arith}
use Rattle.kripke_model.specs.declared.refusals.StaticRefusal.{StaticRefusal}
use Rattle.kripke_model.specs.System.{System, Assignment}
use Rattle.kripke_model.specs.Refusing.{refuse, RefusalRule}
use Rattle.kripke_model.specs.Static.{IsOnCycle}
use Rattle.kripke_model.proofs.FirstLemmas.{silent_refuse, silent_list, first_in_list}
use Rattle.smv_static.proofs.cycles.check_cycles.Goals as goal

-- the rule of one assignment
abbrev rule : System → Assignment → RefusalRule StaticRefusal
rule m a = refuse (StaticRefusal.CircularAssignment a.line) (IsOnCycle m a)

pub returns-then-least-assigns-clause-err : goal.returns-then-least-assigns-clause-err
returns-then-least-assigns-clause-err c =
    let m : System = c.args.flat.now in
    let k : ℕ = c.in_ok-least.least in
    let item : Assignment = c.index-assigns-least.result in
    let same : c.assigns_of-assigns.result.now ≡ m.assigns = c.assigns_of-assigns.ensures in
    let below : k < length m.assigns = let e : length c.assigns_of-assigns.result.now ≡ length m.assigns = ap (λ (xs : List Assignment). length xs) same in omega (arith, e, c.if-least-assigns.true) in
    let is : item ≡ get_or m.assigns k item = c.index-assigns-least.is ∙ ap (λ (xs : List Assignment). get_or xs k item) same in
    inr (first_in_list (rule m) m.assigns k item _ below (λ j d under. silent_refuse (c.in_ok-least.ensures.none j under d))
    (ap StaticRefusal.CircularAssignment (c.line_of_assign.ensures ∙ ap (λ (a : Assignment). a.line) is), c.in_ok-least.ensures.holds below item))

pub returns-clause-ok : goal.returns-clause-ok
returns-clause-ok c =
    let m : System = c.args.flat.now in
    let e : length c.assigns_of-assigns.result.now ≡ length m.assigns = ap (λ (xs : List Assignment). length xs) c.assigns_of-assigns.ensures in
    silent_list (rule m) m.assigns (λ k d below. silent_refuse (c.in_ok-least.ensures.none k (omega (arith, below, e, c.if-least-assigns.false)) d))
