use Rattle.std.proofs.Common.{◌≡◌, ◌++◌, ◌∙◌, ap, map, flat_map}
use Rattle.smv_instances.specs.Plain.{plain_expr}
use Rattle.smv_names.specs.Abbreviations.{actual_mentions}
use Rattle.smv_names.specs.Mentions.{plain_mention}
use Rattle.smv_names.proofs.DefinitionLemmas.{gathered}
use Rattle.smv_names.proofs.definitions.check_actuals.Goals as goal

pub returns : goal.returns
returns c = λ p s targets at numbers.
    let ms = flat_map actual_mentions (map plain_expr c.args.actuals.now) in
    let all : map plain_mention c.deref.result.now ≡ ms = ap (map plain_mention) c.deref.ensures.value ∙ c.in_ok-push_actuals.ensures ∙ ap (λ z. map plain_mention z ++ ms) c.clear.ensures.items in
    gathered p s (map plain_mention c.deref.result.now) ms c.check_paths.result all (c.check_paths.ensures.sound p s targets at numbers) (c.check_paths.ensures.refused p s targets at numbers)
