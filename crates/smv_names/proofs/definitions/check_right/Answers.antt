use Rattle.std.proofs.Common.{◌≡◌, ◌++◌, ◌∙◌, ap, map}
use Rattle.smv_instances.specs.Plain.{plain_expr}
use Rattle.smv_names.specs.Abbreviations.{mentions}
use Rattle.smv_names.specs.Mentions.{plain_mention}
use Rattle.smv_names.proofs.DefinitionLemmas.{gathered}
use Rattle.smv_names.proofs.definitions.check_right.Goals as goal

pub returns : goal.returns
returns c = λ p s targets at numbers.
    let ms = mentions (plain_expr c.args.right.now) in
    let all : map plain_mention c.deref.result.now ≡ ms = ap (map plain_mention) c.deref.ensures.value ∙ c.in_ok-push_mentions.ensures ∙ ap (λ z. map plain_mention z ++ ms) c.clear.ensures.items in
    gathered p s (map plain_mention c.deref.result.now) ms c.check_paths.result all (c.check_paths.ensures.sound p s targets at numbers) (c.check_paths.ensures.refused p s targets at numbers)
