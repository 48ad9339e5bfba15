use Rattle.std.proofs.Common.{sym, ap, subst, List, map, take}
use Rattle.smv_instances.proofs.ListSteps.{take_map, take_whole}
use Rattle.smv_names.specs.Abbreviations.{Mention}
use Rattle.smv_names.specs.Mentions.{plain_mention}
use Rattle.smv_names.specs.Uses.{AreNamed}
use Rattle.smv_names.proofs.uses.push_named.Goals as goal

pub loop-mention-preserved : goal.loop-mention-preserved
loop-mention-preserved c p s are at =
    let items = c.args.mentions.now in
    let k = c.loop-mention.mention-index in
    subst (λ (ms : List Mention). AreNamed p s ms c.push_fronts.new.numbers.items) (sym (take_map plain_mention items k c.mention-item.result c.loop-mention-test.true c.mention-item.is))
    (c.in_ok-push_fronts.ensures p s (map plain_mention (take k items)) are at (c.loop-mention.invariant p s are at))

pub returns : goal.returns
returns c p s are at =
    let items = c.args.mentions.now in
    subst (λ (ms : List Mention). AreNamed p s ms c.loop-mention.numbers.items) (ap (map plain_mention) (take_whole items c.loop-mention.mention-index c.loop-mention-test.false)) (c.loop-mention.invariant p s are at)
