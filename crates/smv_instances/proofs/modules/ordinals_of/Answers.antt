use Rattle.std.proofs.Common.{◌≡◌, sym, ◌∙◌, ap, ◌+◌, ◌<◌, arith, [], ◌∷◌, ◌++◌, length, map, take, get_or}
use Rattle.std.proofs.lemmas.List.{length-map, take_more}
use Rattle.smv_instances.specs.Declarations.{instances_in, is_instance, one_if}
use Rattle.smv_instances.specs.Numbered.{plain_entry}
use Rattle.smv_instances.specs.Tables.{counts_from}
use Rattle.smv_instances.proofs.ListSteps.{take_whole}
use Rattle.smv_instances.proofs.CountLemmas.{sum_push}
use Rattle.smv_instances.proofs.TableLemmas.{get_or-map, counts_push}
use Rattle.smv_instances.proofs.modules.ordinals_of.Goals as goal

pub loop-entry-preserved : goal.loop-entry-preserved
loop-entry-preserved c =
    let es = map plain_entry c.args.entries.now in
    let i = c.loop-entry.entry-index in
    let e = plain_entry c.entry-item.result in
    let known = c.loop-entry.invariant in
    let lt : i < length es = omega (arith, length-map c.args.entries.now plain_entry) in
    let here : get_or es i e ≡ e = get_or-map plain_entry c.args.entries.now i c.entry-item.result e (omega arith) ∙ ap plain_entry (sym c.entry-item.is) in
    let more : take (i + 1) es ≡ take i es ++ (e ∷ []) = take_more es i e lt ∙ ap (λ d. take i es ++ (d ∷ [])) here in
    let counted : instances_in (take (i + 1) es) ≡ instances_in (take i es) + one_if (is_instance e.entity) = ap instances_in more ∙ sum_push (λ d. one_if (is_instance d.entity)) (take i es) e in
    record {
      few = omega (arith, known.few, c.instance_count-count.ensures.bound);
      counted = omega (arith, known.counted, counted, c.instance_count-count.ensures.count);
      made = c.in_ok-push.ensures.items ∙ ap (λ ks. ks ++ (c.loop-entry.count ∷ [])) known.made ∙ ap (λ k. counts_from 0 (take i es) ++ (k ∷ [])) (omega (arith, known.counted)) ∙ sym (ap (counts_from 0) more ∙ counts_push 0 (take i es) e);
    }

pub returns : goal.returns
returns c = c.loop-entry.invariant.made ∙ ap (counts_from 0) (take_whole (map plain_entry c.args.entries.now) c.loop-entry.entry-index (omega (arith, length-map c.args.entries.now plain_entry)))
