use Rattle.std.proofs.Common.{◌≡◌, sym, ◌∙◌, ap, ◌+◌, arith, [], ◌∷◌, ◌++◌, map, take, append_assoc, append-nil}
use Rattle.std.specs.List.{cons_option, filter_map}
use Rattle.std.proofs.lemmas.List.Elements.{filter_map-append}
use Rattle.smv_instances.specs.Plain.{plain_constant}
use Rattle.smv_instances.specs.Instances.{atom, distinct_names}
use Rattle.smv_instances.proofs.ListSteps.{take_map, take_whole}
use Rattle.smv_instances.proofs.constants.add_constants.Goals as goal

pub loop-constant-init : goal.loop-constant-init
loop-constant-init c = λ seen e. e ∙ ap distinct_names (sym (append-nil seen))

pub loop-constant-preserved : goal.loop-constant-preserved
loop-constant-preserved c = λ seen e.
    let cs = c.args.constants.now in
    let i = c.loop-constant.constant-index in
    let d = c.constant-item.result in
    let front = filter_map atom (map plain_constant (take i cs)) in
    let more : filter_map atom (map plain_constant (take (i + 1) cs)) ≡ front ++ cons_option (atom (plain_constant d)) [] = ap (filter_map atom) (take_map plain_constant cs i d (omega arith) c.constant-item.is) ∙ filter_map-append atom (map plain_constant (take i cs)) (plain_constant d ∷ []) in
    c.in_ok-add_constant.ensures (seen ++ front) (c.loop-constant.invariant seen e) ∙ ap distinct_names (append_assoc seen front (cons_option (atom (plain_constant d)) []) ∙ ap (λ ns. seen ++ ns) (sym more))

pub returns : goal.returns
returns c = λ seen e. c.loop-constant.invariant seen e ∙ ap (λ xs. distinct_names (seen ++ filter_map atom (map plain_constant xs))) (take_whole c.args.constants.now c.loop-constant.constant-index (omega arith))
