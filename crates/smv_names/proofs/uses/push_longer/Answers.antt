use Rattle.std.proofs.Common.{◌≡◌, ◌<◌, ◌+◌, ◌++◌, ◌∷◌, [], sym, ◌∙◌, ap, subst, arith, length, get_or, take, List}
use Rattle.smv_parser.specs.declared.expressions.PathPart.{PathPart}
use Rattle.smv_instances.specs.Program.{Path}
use Rattle.smv_instances.specs.Instances.{instances}
use Rattle.smv_instances.proofs.ListSteps.{take_whole}
use Rattle.smv_names.specs.Written.{extended, followed}
use Rattle.smv_names.specs.Passed.{Walking}
use Rattle.smv_names.specs.Uses.{AreNamed}
use Rattle.smv_names.proofs.WaitLemmas.{member_at}
use Rattle.smv_names.proofs.WrittenLemmas.{followed_next}
use Rattle.smv_names.proofs.UseLemmas.{named_more}
use Rattle.smv_names.proofs.uses.push_longer.Goals as goal

pub loop-part-init : goal.loop-part-init
loop-part-init c =
    let path = c.args.mention.now.path.now in
    record {
      walks = λ p s are at. c.in_ok-front.ensures p s path.line are.started at;
      named = λ p s ms are at before. before;
    }

pub named_next-requires : goal.named_next-requires
named_next-requires c =
    let path = c.args.mention.now.path.now in
    let s = member_at (instances c.requires.0) c.args.i c.requires.2 in
    (c.requires.0, s.0, followed (Path.Here path.line path.first) (take c.loop-part.part-index path.parts.items), c.requires.1, c.loop-part.invariant.walks c.requires.0 s.0 c.requires.1 s.1)

pub follow-requires : goal.follow-requires
follow-requires c =
    let path = c.args.mention.now.path.now in
    let s = member_at (instances c.requires.0) c.args.i c.requires.2 in
    (c.requires.0, s.0, followed (Path.Here path.line path.first) (take c.loop-part.part-index path.parts.items), c.requires.1.started, s.1, c.loop-part.invariant.walks c.requires.0 s.0 c.requires.1 s.1)

pub loop-part-preserved : goal.loop-part-preserved
loop-part-preserved c =
    let path = c.args.mention.now.path.now in
    let k = c.loop-part.part-index in
    let here : Path = Path.Here path.line path.first in
    let q : Path = followed here (take k path.parts.items) in
    let h : k < length path.parts.items = omega (arith, c.loop-part-test.true, ap (λ z. length z) c.deref-part-items.ensures.value) in
    let is : c.part-item.result ≡ get_or path.parts.items k c.part-item.result = c.part-item.is ∙ ap (λ z. get_or z k c.part-item.result) c.deref-part-items.ensures.value in
    let next : followed here (take (k + 1) path.parts.items) ≡ extended q c.part-item.result = followed_next here path.parts.items k c.part-item.result h is in
    record {
      walks = λ p s are at. subst (λ z. Walking p c.args.targets.now.states s z c.in_ok-front-2.front) (sym next) (c.in_ok-front-2.ensures p s q are.started at (c.loop-part.invariant.walks p s are at));
      named = λ p s ms are at before. subst (λ z. AreNamed p s (ms ++ record { path = z; wanted = c.args.mention.now.wanted } ∷ []) c.push_number.new.numbers.items) (sym next)
          (named_more p s ms c.args.mention.now.wanted q c.part-item.result c.named_next.result c.loop-part.numbers.items c.push_number.new.numbers.items (c.loop-part.invariant.named p s ms are at before)
          (c.named_next.ensures p s q are (c.loop-part.invariant.walks p s are at)) c.in_ok-push_number.ensures);
    }

pub returns : goal.returns
returns c p s ms are at before =
    let path = c.args.mention.now.path.now in
    let whole : take c.loop-part.part-index path.parts.items ≡ path.parts.items = take_whole path.parts.items c.loop-part.part-index (omega (arith, c.loop-part-test.false, ap (λ z. length z) c.deref-part-items.ensures.value)) in
    subst (λ (parts : List PathPart). AreNamed p s (ms ++ record { path = followed (Path.Here path.line path.first) parts; wanted = c.args.mention.now.wanted } ∷ []) c.loop-part.numbers.items) whole (c.loop-part.invariant.named p s ms are at before)
