use Rattle.std.proofs.Common.{◌≡◌, ◌<◌, sym, ◌∙◌, ap, subst, arith, length, get_or, map}
use Rattle.std.proofs.lemmas.List.{length-map}
use Rattle.smv_instances.proofs.TableLemmas.{get_or-map}
use Rattle.smv_names.specs.Mentions.{plain_mention}
use Rattle.smv_names.specs.Known.{IsKnown, KnownBy}
use Rattle.smv_names.proofs.CheckLemmas.{all_have, first_unknown, line_written, one_more}
use Rattle.smv_names.proofs.checks.check_known.Goals as goal

pub returns-then-not-branch : goal.returns-then-not-branch
returns-then-not-branch c = λ p s targets at.
    let ms = map plain_mention c.args.mentions.now in
    let k = c.loop-mention.mention-index in
    let item = c.mention-item.result in
    let m = plain_mention item in
    let lt : k < length ms = omega (arith, c.loop-mention-test.true, length-map c.args.mentions.now plain_mention) in
    let here : m ≡ get_or ms k m = sym (get_or-map plain_mention c.args.mentions.now k item m c.loop-mention-test.true ∙ ap plain_mention (sym c.mention-item.is)) in
    first_unknown p s ms k m item.path.now.line lt here (c.loop-mention.invariant p s targets at) (sym (line_written item.path.now.line item.path.now.first item.path.now.parts.items))
    (subst (λ b. KnownBy p s m b) c.if-not-branch.true (c.in_ok-is_known.ensures p s targets at))

pub loop-mention-preserved : goal.loop-mention-preserved
loop-mention-preserved c = λ p s targets at.
    let ms = map plain_mention c.args.mentions.now in
    let k = c.loop-mention.mention-index in
    let item = c.mention-item.result in
    let m = plain_mention item in
    let lt : k < length ms = omega (arith, c.loop-mention-test.true, length-map c.args.mentions.now plain_mention) in
    let here : m ≡ get_or ms k m = sym (get_or-map plain_mention c.args.mentions.now k item m c.loop-mention-test.true ∙ ap plain_mention (sym c.mention-item.is)) in
    one_more (IsKnown p s) ms k m lt here (c.loop-mention.invariant p s targets at) (subst (λ b. KnownBy p s m b) c.if-not-branch.false (c.in_ok-is_known.ensures p s targets at))

pub returns : goal.returns
returns c = λ p s targets at.
    let ms = map plain_mention c.args.mentions.now in
    all_have (IsKnown p s) ms c.loop-mention.mention-index (omega (arith, c.loop-mention-test.false, length-map c.args.mentions.now plain_mention)) (c.loop-mention.invariant p s targets at)
