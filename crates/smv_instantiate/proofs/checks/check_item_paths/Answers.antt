use Rattle.std.proofs.Common.{sym, ◌∙◌, ap, subst, List, length, map}
use Rattle.std.specs.Prelude.{MatchResult}
use Rattle.kripke_model.specs.Refusing.{Silent}
use Rattle.smv_instances.specs.Answers.{Refused}
use Rattle.smv_names.specs.Abbreviations.{Mention, path_rows}
use Rattle.smv_names.specs.Known.{AreNumbers}
use Rattle.smv_names.specs.Mentions.{plain_mention}
use Rattle.smv_names.specs.Sound.{AreSound}
use Rattle.smv_instantiate.proofs.PassLemmas.{paths_checked, scope_below}
use Rattle.smv_instantiate.proofs.checks.check_item_paths.Goals as goal

pub check_paths-requires : goal.check_paths-requires
check_paths-requires c =
    let r = c.requires in let paths = r.2.expands.paths_are in
    (r.0, paths.targets_are, scope_below r.0 c.args.i r.1 r.3, ap length c.deref.ensures.value ∙ paths.number_count)

pub returns : goal.returns
returns c = λ p s tables at.
    let paths = tables.expands.paths_are in
    let numbers = subst (λ ns. AreNumbers p ns) (sym c.deref.ensures.value) paths.numbers_are in
    subst (λ (ms : List Mention). MatchResult c.check_paths.result (λ _. AreSound p s ms × Silent (path_rows p s ms)) (Refused (path_rows p s ms)))
    (ap (map plain_mention) c.deref-2.ensures.value ∙ c.in_ok-mentions.ensures)
    (paths_checked (AreSound p s (map plain_mention c.deref-2.result.now)) (Silent (path_rows p s (map plain_mention c.deref-2.result.now))) (Refused (path_rows p s (map plain_mention c.deref-2.result.now))) c.check_paths.result (c.check_paths.ensures.sound p s paths.targets_are at numbers) (c.check_paths.ensures.silent p s paths.targets_are at numbers) (c.check_paths.ensures.refused p s paths.targets_are at numbers))
