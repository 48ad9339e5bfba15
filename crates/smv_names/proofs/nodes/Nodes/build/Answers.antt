use Rattle.std.proofs.Common.{◌≡◌, ◌+◌, ◌<◌, sym, ◌∙◌, ap, subst, arith, length, List, ℕ}
use Rattle.std.proofs.lemmas.List.{length-map}
use Rattle.smv_instances.specs.Entries.{entries}
use Rattle.smv_instances.specs.Instances.{instances, module_of}
use Rattle.smv_instances.specs.Numbered.{plain_entry}
use Rattle.smv_names.proofs.NodeLemmas.{AreNumbered, numbered_more}
use Rattle.smv_names.proofs.WaitLemmas.{member_at}
use Rattle.smv_names.proofs.nodes.Nodes.build.Goals as goal

pub loop-i-preserved : goal.loop-i-preserved
loop-i-preserved c p are =
    let within : c.loop-i.i < length (instances p) = omega (arith, c.loop-i-test.true, c.len-i-end.ensures p are) in
    let s = member_at (instances p) c.loop-i.i within in
    let sized : length c.entries-size.result.now ≡ length (entries (module_of s.0)) = sym (length-map c.entries-size.result.now plain_entry) ∙ ap (λ xs. length xs) (c.entries-size.ensures p s.0 are s.1) in
    subst (λ (xs : List ℕ). AreNumbered p xs c.in-Some.more (c.loop-i.i + 1)) (sym c.in_ok-push.ensures.items)
    (numbered_more p c.loop-i.firsts.items c.loop-i.count c.loop-i.i c.in-Some.more (length c.entries-size.result.now) s.0 (c.loop-i.invariant p are) s.1 sized (omega (arith, c.in-Some.ensures)))
