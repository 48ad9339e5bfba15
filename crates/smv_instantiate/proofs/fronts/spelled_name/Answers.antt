use Rattle.std.proofs.Common.{sym, ◌∙◌, ap, ◌++◌}
use Rattle.smv_instantiate.specs.Bodies.{front}
use Rattle.smv_instantiate.proofs.NameLemmas.{spelled_front}
use Rattle.smv_instantiate.proofs.fronts.spelled_name.Goals as goal

pub returns : goal.returns
returns c = λ ms done s are at.
    c.new.ensures ∙ c.in_ok-push_str.ensures.bytes
    ∙ ap (λ z. z ++ c.as_str.result.now) (c.in_ok-push_front.ensures ms done s are at ∙ ap (λ z. z ++ front s) c.new-text.ensures.bytes)
    ∙ ap (λ z. front s ++ z) c.as_str.ensures
    ∙ sym (spelled_front s c.args.name.now)
