use Rattle.std.proofs.Common.{◌++◌, not, subst, ap, ◌∙◌, rules}
use Rattle.std.specs.List.Sorted.{IsPermutation}
use Rattle.std.proofs.lemmas.List.Sorted.{answers_always}
use Rattle.value_tables.specs.declared.orders.Mark.{Mark}
use Rattle.value_tables.specs.Orders.{marks_in}
use Rattle.value_tables.proofs.orders.marks_of.Goals as goal

pub returns : goal.returns
returns c = record {
  moved = subst (λ ms. IsPermutation ms c.sort_unstable_by_key.new.self.items) (c.in_ok-add_marks-2.ensures ∙ ap (λ ms. ms ++ marks_in (not c.args.strict) c.args.greater.now) (c.in_ok-add_marks.ensures ∙ ap (λ ms. ms ++ marks_in c.args.strict c.args.lesser.now) c.new-marks.ensures.items)) c.sort_unstable_by_key.ensures.permutation;
  sorted = c.sort_unstable_by_key.ensures.sorted (λ (m : Mark). (m.number, m.late)) (answers_always _ _ _ (λ f a r q k. search rules));
}
