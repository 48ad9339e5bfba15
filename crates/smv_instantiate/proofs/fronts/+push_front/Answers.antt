use Rattle.std.proofs.Common.{sym, ◌∙◌, ap, subst, ◌<◌, arith, ◌∷◌, [], ◌++◌, append-nil}
use Rattle.std.specs.Prelude.{string_bytes}
use Rattle.smv_instances.specs.Walk.{IsStep}
use Rattle.smv_instances.proofs.RowLemmas.{row_at, scope_of}
use Rattle.smv_instantiate.specs.Bodies.{front}
use Rattle.smv_instantiate.proofs.NameLemmas.{spelled_front}
use Rattle.smv_instantiate.proofs.FrontSteps.{main_front, inner_step, front_added}
use Rattle.smv_instantiate.proofs.fronts.+push_front.Goals as goal

pub push_front-requires : goal.push_front-requires
push_front-requires t c =
    let h = c.requires in
    let scope = scope_of h.0 c.args.rows.now h.1.0 c.args.number h.1.1 h.1.2 in
    let row = row_at h.0 c.args.rows.now h.1.0 c.args.number c.index-rows-number.result scope.0 h.1.1 h.1.2 c.index-rows-number.is scope.1 in
    let inner = inner_step h.1.0 c.args.number c.in-Some.step scope.0 (subst (λ o. IsStep h.1.0 c.args.number o scope.0) c.in-Some.is row.step) in
    let earlier : c.in-Some.step.around < c.args.number = inner.earlier in
    (omega (arith, earlier, c.decreases), (h.0, (h.1.0, h.1.1, omega (arith, earlier, h.1.2))))

pub returns-in-None : goal.returns-in-None
returns-in-None t c = λ ms done s are at.
    let row = row_at ms c.args.rows.now done c.args.number c.index-rows-number.result s are c.requires.1.2 c.index-rows-number.is at in
    sym (append-nil (string_bytes c.args.text.now)) ∙ ap (λ f. string_bytes c.args.text.now ++ f) (sym (main_front done c.args.number s (subst (λ o. IsStep done c.args.number o s) c.in-None.is row.step)))

pub returns-in_ok-push_str-in-Some-2 : goal.returns-in_ok-push_str-in-Some-2
returns-in_ok-push_str-in-Some-2 t c = λ ms done s are at.
    let row = row_at ms c.args.rows.now done c.args.number c.index-rows-number.result s are c.requires.1.2 c.index-rows-number.is at in
    let inner = inner_step done c.args.number c.in-Some.step s (subst (λ o. IsStep done c.args.number o s) c.in-Some.is row.step) in
    let name = c.in-Some.step.name.now in
    front_added (string_bytes c.args.text.now) (string_bytes c.push_front.new.text) (string_bytes c.push_str.new.self) (string_bytes c.push_str-in-Some.new.self) (front inner.around) name
    (c.in_ok-push_front-in-Some.ensures ms done inner.around are inner.numbered)
    (c.in_ok-push_str-in-Some.ensures.bytes ∙ ap (λ z. string_bytes c.push_front.new.text ++ z) c.as_str.ensures)
    c.in_ok-push_str-in-Some-2.ensures.bytes
    ∙ ap (λ z. string_bytes c.args.text.now ++ z) (ap (λ z. z ++ (46 ∷ [])) (sym (spelled_front inner.around name)) ∙ sym inner.front_is)
