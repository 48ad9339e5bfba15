use Rattle.std.proofs.Common.{◌++◌, map, sym, ◌∙◌, ap}
use Rattle.std.proofs.lemmas.Result.{on_ok_weaker}
use Rattle.smv_instances.specs.Plain.{plain_expr}
use Rattle.smv_names.specs.Written.{plain_path}
use Rattle.smv_names.specs.Abbreviations.{index_mentions}
use Rattle.smv_names.specs.Mentions.{plain_mention}
use Rattle.smv_names.proofs.MentionLemmas.{path_added, actual_path, actual_other}
use Rattle.smv_names.proofs.mentions.push_actual.Goals as goal

pub returns-in_ok-push-in-Some : goal.returns-in_ok-push-in-Some
returns-in_ok-push-in-Some c = on_ok_weaker c.push_index_mentions.result
    (λ e. path_added c.args.mentions.now.items c.push.new.self.items _ _ (index_mentions (plain_path c.in-Some.path.now)) c.in_ok-push-in-Some.ensures.items e
    ∙ ap (λ z. map plain_mention c.args.mentions.now.items ++ z) (sym (actual_path (plain_expr c.args.actual.now) (plain_path c.in-Some.path.now) (sym c.bare_of-inner.ensures ∙ c.in-Some.ensures.some))))
    c.push_index_mentions.ensures

pub returns-in-None : goal.returns-in-None
returns-in-None c = on_ok_weaker c.push_mentions.result
    (λ e. e ∙ ap (λ z. map plain_mention c.args.mentions.now.items ++ z) (actual_other (plain_expr c.args.actual.now) (plain_expr c.bare_of-inner.result.now) c.bare_of-inner.ensures c.in-None.ensures.none))
    c.push_mentions.ensures
