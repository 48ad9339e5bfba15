use Rattle.std.proofs.Common.{◌∙◌, ap, ◌++◌}
use Rattle.std.specs.Prelude.{flat_map}
use Rattle.std.proofs.lemmas.Result.{on_ok_weaker}
use Rattle.proof_text.specs.Lines.{text_of, nonfair_lines, fair_lines, free_entry_lines}
use Rattle.proof_text.proofs.WrittenLines.{free_is}
use Rattle.proof_text.proofs.writing.push_free_part.Goals as goal

pub returns : goal.returns
returns c =
    let second = c.in_ok-push_nonfair.ensures ∙ ap (λ ls. c.push_word.new.text ++ text_of (nonfair_lines ls)) (c.deref.ensures.value ∙ (λ i. (c.part.view_is i).nonfair)) in
    let third = c.in_ok-push_fair.ensures ∙ ap (λ p. c.push_nonfair.new.text ++ text_of (fair_lines p)) (λ i. (c.part.view_is i).fair) in
    on_ok_weaker c.push_free_entries.result
    (λ last. free_is c.args.part.now _ _ _ _ _ c.in_ok-push_word.ensures second third
    (last ∙ ap (λ es. c.push_fair.new.text ++ text_of (flat_map free_entry_lines es)) (c.deref-2.ensures.value ∙ (λ i. (c.part.view_is i).entries)))) c.push_free_entries.ensures
