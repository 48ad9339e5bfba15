use Rattle.std.proofs.Common.{◌≡◌, ◌<◌, ◌∙◌, get_or, length, false, sym, subst, true, Some, None}
use Rattle.std.proofs.lemmas.List.{get_or_default}
use Rattle.smv_names.specs.Abbreviations.{Abbreviation}
use Rattle.smv_names.specs.Nodes.{abbreviation_at}
use Rattle.smv_names.specs.Works.{HasUsed}
use Rattle.smv_names.specs.Known.{NumberOf, SizeOf, leaf}
use Rattle.smv_names.specs.Ends.{EndOf, no_end}
use Rattle.smv_names.specs.Filling.{RowOf}
use Rattle.smv_names.proofs.EndLemmas.{bare_end, stuck_end}
use Rattle.smv_names.proofs.FillLemmas.{bare_number, bare_size_of, fill_circular, fill_straight, flag_is, leaf_is, stuck_number, stuck_size, used_known}
use Rattle.smv_names.proofs.tables.fill_at.Goals as goal

pub returns-then-index : goal.returns-then-index
returns-then-index c = λ p targets ordered filled.
    let order = c.args.order.now.order.items in
    let node = c.index-node.result.now in
    let below : c.args.k < length order = c.requires.4 in
    let is : node ≡ get_or order c.args.k 0 = c.index-node.ensures ∙ get_or_default order c.args.k node 0 below in
    let flag : get_or c.args.order.now.circular.items node false ≡ true = flag_is ordered below is c.index.ensures c.if-index.true in
    record {
      numbers = fill_circular ordered (λ a at. stuck_number p a) filled.numbers below is flag;
      sizes = fill_circular ordered (λ a at. stuck_size p a) filled.sizes below is flag;
      ends = fill_circular ordered (stuck_end p node) filled.ends below is flag;
    }

pub returns : goal.returns
returns c = λ p targets ordered filled.
    let order = c.args.order.now.order.items in
    let node = c.index-node.result.now in
    let below : c.args.k < length order = c.requires.4 in
    let is : node ≡ get_or order c.args.k 0 = c.index-node.ensures ∙ get_or_default order c.args.k node 0 below in
    let flag : get_or c.args.order.now.circular.items node false ≡ false = flag_is ordered below is c.index.ensures c.if-index.false in
    let row : (a : Abbreviation) → abbreviation_at p node ≡ Some a → RowOf p a c.in_ok-row.row = λ a at.
    c.in_ok-row.ensures p a targets at
    (subst (λ xs. HasUsed None (NumberOf p) p a xs) (sym c.deref.ensures.value) (used_known ordered (bare_number p) filled.numbers below is flag a at))
    (subst (λ xs. HasUsed leaf (SizeOf p) p a xs) (sym c.deref-2.ensures.value) (used_known ordered (λ b none. bare_size_of p b leaf leaf_is none) filled.sizes below is flag a at))
    (subst (λ xs. HasUsed (no_end p) (EndOf p) p a xs) (sym c.deref-3.ensures.value) (used_known ordered (λ b none. bare_end p b (no_end p) none) filled.ends below is flag a at)) in
    record {
      numbers = fill_straight ordered (bare_number p) filled.numbers below is flag (λ a at known. (row a at).number);
      sizes = fill_straight ordered (λ b none. bare_size_of p b leaf leaf_is none) filled.sizes below is flag (λ a at known. (row a at).size);
      ends = fill_straight ordered (λ b none. bare_end p b (no_end p) none) filled.ends below is flag (λ a at known. (row a at).end);
    }
