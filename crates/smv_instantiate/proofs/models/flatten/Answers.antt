use Rattle.std.proofs.Common.{◌∙◌}
use Rattle.std.proofs.lemmas.Result.{err_from_is_err_and}
use Rattle.smv_parser.specs.Program as parsed
use Rattle.smv_instances.specs.Abstract.{program}
use Rattle.smv_instances.specs.Plain.{plain_program}
use Rattle.smv_instantiate.specs.Parsed.{IsParsed}
use Rattle.smv_instantiate.specs.Written.{IsWritten}
use Rattle.smv_instantiate.proofs.FlatLemmas.{is_flat}
use Rattle.smv_instantiate.proofs.ModelLemmas.{declarations_refused, definitions_refused, items_refused, not_refused}
use Rattle.smv_instantiate.proofs.WrittenLemmas.{written}
use Rattle.smv_instantiate.proofs.models.flatten.Goals as goal

is_written : (p : parsed.Program) → IsParsed p → IsWritten (program p)
is_written p h = written h.bytes h.tokens p h.lexed h.derived

pub flat_variables-requires : goal.flat_variables-requires
flat_variables-requires c = (plain_program c.args.program.now, c.in_ok-instances.ensures.built, is_written _ c.requires)

pub checked_parts-requires : goal.checked_parts-requires
checked_parts-requires c =
    let p = plain_program c.args.program.now in
    let built = c.in_ok-instances.ensures.built in
    let w = is_written _ c.requires in
    (p, built, c.in_ok-paths.ensures.paths p built, w, c.deref.ensures.value ∙ c.in_ok-variables.ensures p built w)

pub model_of-requires : goal.model_of-requires
model_of-requires c = (plain_program c.args.program.now, c.in_ok-instances.ensures.built)

pub returns-in_err-instances-clause-refused : goal.returns-in_err-instances-clause-refused
returns-in_err-instances-clause-refused c =
    let q = err_from_is_err_and c.from_residual.result c.from_residual.ensures.1 in
    rw (q.1, q.2) (declarations_refused (plain_program c.args.program.now) _ c.in_err-instances.ensures.answers)

pub returns-in_err-paths-clause-refused : goal.returns-in_err-paths-clause-refused
returns-in_err-paths-clause-refused c =
    let p = plain_program c.args.program.now in
    let q = err_from_is_err_and c.from_residual-in_err-paths.result c.from_residual-in_err-paths.ensures.1 in
    rw (q.1, q.2) (definitions_refused p _ c.in_ok-instances.ensures.answers (c.in_err-paths.ensures.refused p c.in_ok-instances.ensures.built))

pub returns-in_err-parts-clause-refused : goal.returns-in_err-parts-clause-refused
returns-in_err-parts-clause-refused c =
    let p = plain_program c.args.program.now in
    let built = c.in_ok-instances.ensures.built in
    let w = is_written _ c.requires in
    let q = err_from_is_err_and c.from_residual-in_err-parts.result c.from_residual-in_err-parts.ensures.1 in
    rw (q.1, q.2) (items_refused p _ c.in_ok-instances.ensures.answers (c.in_ok-paths.ensures.silent p built)
    (c.in_err-parts.ensures p built (c.in_ok-paths.ensures.paths p built) w (c.deref.ensures.value ∙ c.in_ok-variables.ensures p built w)))

pub returns-clause-ok : goal.returns-clause-ok
returns-clause-ok c =
    let p = plain_program c.args.program.now in
    let built = c.in_ok-instances.ensures.built in
    let w = is_written _ c.requires in
    let parts = c.in_ok-parts.ensures p built (c.in_ok-paths.ensures.paths p built) w (c.deref.ensures.value ∙ c.in_ok-variables.ensures p built w) in
    not_refused p c.in_ok-instances.ensures.answers (c.in_ok-paths.ensures.silent p built) parts.1

pub returns-clause-flat : goal.returns-clause-flat
returns-clause-flat c =
    let p = plain_program c.args.program.now in
    let built = c.in_ok-instances.ensures.built in
    let w = is_written _ c.requires in
    let variables = c.in_ok-variables.ensures p built w in
    let parts = c.in_ok-parts.ensures p built (c.in_ok-paths.ensures.paths p built) w (c.deref.ensures.value ∙ variables) in
    let silent = not_refused p c.in_ok-instances.ensures.answers (c.in_ok-paths.ensures.silent p built) parts.1 in
    let flat = c.in_ok-model.ensures p built variables parts.0 in
    (flat, is_flat p silent w c.in_ok-model.model flat)
