use Rattle.std.proofs.Common.{◌∙◌, ap, length, replicate, rules, sym, subst, None}
use Rattle.smv_instances.specs.Instances.{all_entries}
use Rattle.smv_names.specs.Works.{Works}
use Rattle.smv_names.specs.Known.{NumberOf, SizeOf, leaf}
use Rattle.smv_names.specs.Ends.{EndOf, no_end}
use Rattle.smv_names.proofs.FillLemmas.{leaf_only}
use Rattle.smv_names.proofs.WorkLemmas.{works_begin}
use Rattle.smv_names.proofs.tables.blank.Goals as goal

pub returns : goal.returns
returns c = λ p order count. record {
  numbers = subst (λ xs. Works None (NumberOf p) p order xs 0) (sym (c.in_ok-vec.ensures.items_if_clones_equal (search rules) ∙ ap (λ k. replicate k None) count)) works_begin;
  sizes = subst (λ xs. Works leaf (SizeOf p) p order xs 0) (sym (c.in_ok-vec-2.ensures.items_if_clones_equal (search rules) ∙ ap (λ k. replicate k c.leaf.result) count ∙ ap (λ z. replicate (length (all_entries p)) z) (leaf_only c.leaf.result c.leaf.ensures))) works_begin;
  ends = subst (λ xs. Works (no_end p) (EndOf p) p order xs 0) (sym (c.in_ok-vec-3.ensures.items_if_clones_equal (search rules) ∙ ap (λ k. replicate k k) count)) works_begin;
}
