use Rattle.std.proofs.Common.{refl, sym, subst, [], inl, inr, ⊎_elim}
use Rattle.std.proofs.lemmas.Result.{err_from_is_err_and}
use Rattle.kripke_model.specs.Refusing.{Silent, First}
use Rattle.smv_instances.specs.Instances.{Scope}
use Rattle.smv_instances.specs.Declarations.{body}
use Rattle.smv_instances.specs.Walk.{AreLinked, HasWalked}
use Rattle.smv_instances.proofs.BuildLemmas.{instances_main}
use Rattle.smv_instances.proofs.instances.walk_of.Goals as goal

pub visit_body-requires : goal.visit_body-requires
visit_body-requires c =
    let starts = c.requires.1 in
    (c.requires.0, [], Scope.Main starts.m, record { mods = starts.mods; reaches = c.in_ok-walk.ensures c.args.modules.now starts.m starts.stands; numbered = refl; deep = refl })

pub returns-in_err-visit_body : goal.returns-in_err-visit_body
returns-in_err-visit_body c = λ p starts.
    let q = err_from_is_err_and c.from_residual-in_err-visit_body.result c.from_residual-in_err-visit_body.ensures.1 in
    let answer = c.in_err-visit_body.ensures p [] (Scope.Main starts.m) (record { mods = starts.mods; reaches = c.in_ok-walk.ensures c.args.modules.now starts.m starts.stands; numbered = refl; deep = refl }) in
    rw (q.1, q.2) (⊎_elim (λ memory. inl memory) (λ refused. inr (subst (λ xs. First (body p) [] xs c.in_err-visit_body.field-0.0) (sym (instances_main p starts.m starts.is)) refused)) answer)

pub returns : goal.returns
returns c = λ p starts.
    let visited = c.in_ok-visit_body.ensures p [] (Scope.Main starts.m) (record { mods = starts.mods; reaches = c.in_ok-walk.ensures c.args.modules.now starts.m starts.stands; numbered = refl; deep = refl }) in
    let all = sym (instances_main p starts.m starts.is) in (
      subst (λ xs. HasWalked c.args.modules.now c.visit_body.new.walk xs xs) all visited.reaches,
      subst (λ xs. AreLinked p c.visit_body.new.walk.rows.items xs 0) all visited.linked,
      subst (λ xs. Silent (First (body p) [] xs)) all visited.silent,
    )
