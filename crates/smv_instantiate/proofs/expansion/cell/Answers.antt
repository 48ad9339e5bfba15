use Rattle.std.proofs.Common.{◌≡◌, ◌+◌, ◌≤◌, reverse, sym, ◌∙◌, ap, subst, arith, Some}
use Rattle.std.specs.Prelude.{MatchOption}
use Rattle.std.specs.List.{AllZip}
use Rattle.smv_instances.specs.Instances.{instances}
use Rattle.smv_names.specs.declared.targets.Target.{Target}
use Rattle.smv_names.specs.Expands.{AreIndexes, Selects}
use Rattle.smv_names.specs.Known.{AreNumbers, SomeBad}
use Rattle.smv_names.specs.Targets.{AreBrackets, Resolves}
use Rattle.smv_names.proofs.PairLemmas.{bad_not_indexes}
use Rattle.smv_instantiate.specs.Firsts.{IsWithin, offset}
use Rattle.smv_instantiate.proofs.Members.{slice_in}
use Rattle.smv_instantiate.proofs.ExpandLemmas.{are_instances}
use Rattle.smv_instantiate.proofs.FirstLemmas.{cell_at}
use Rattle.smv_instantiate.proofs.PathSteps.{array_selects, other_selects, stored_at, stored_or_other, unvalued_selects}
use Rattle.smv_instantiate.proofs.expansion.cell.Goals as goal

pub returns-in_default : goal.returns-in_default
returns-in_default c = λ p s q i can at r. other_selects p s q c.args.target.now (stored_or_other c.args.target.now (λ home name plain indexes is. c.in_default.not-Stored home name plain indexes is)) r

pub returns-then-is_array : goal.returns-then-is_array
returns-then-is_array c = λ p s q i can at r.
    let stored = stored_at p s q c.in-Stored.home c.in-Stored.name c.in-Stored.plain c.in-Stored.indexes (subst (λ (t : Target). Resolves p s q (Some t)) c.in-Stored.is r) in
    array_selects p s q _ _ _ _ stored (sym c.is_array.ensures ∙ c.if-is_array.true)

pub returns-in-None : goal.returns-in-None
returns-in-None c = λ p s q i can at r.
    let stored = stored_at p s q c.in-Stored.home c.in-Stored.name c.in-Stored.plain c.in-Stored.indexes (subst (λ (t : Target). Resolves p s q (Some t)) c.in-Stored.is r) in
    let numbers = subst (AreNumbers p) (sym c.deref.ensures.value) can.paths_are.numbers_are in
    let brackets = subst (λ z. AreBrackets p z stored.brackets) (sym c.deref-2.ensures.value) stored.are in
    let bad : SomeBad p stored.brackets =
    subst (λ o. MatchOption o (SomeBad p stored.brackets) (λ vs. AreIndexes p stored.brackets (reverse vs.items))) c.in-None.is (c.in_ok-index_values.ensures p stored.brackets can.paths_are.targets_are numbers brackets) in
    unvalued_selects p s q _ _ _ _ stored (λ ns values. bad_not_indexes p stored.brackets ns bad values)

pub first_at-first-requires : goal.first_at-first-requires
first_at-first-requires c =
    let h = c.requires in
    let stored = stored_at h.0 h.1 h.2 c.in-Stored.home c.in-Stored.name c.in-Stored.plain c.in-Stored.indexes (subst (λ (t : Target). Resolves h.0 h.1 h.2 (Some t)) c.in-Stored.is h.6) in
    let numbers = subst (AreNumbers h.0) (sym c.deref.ensures.value) h.4.paths_are.numbers_are in
    let brackets = subst (λ z. AreBrackets h.0 z stored.brackets) (sym c.deref-2.ensures.value) stored.are in
    let values : AreIndexes h.0 stored.brackets (reverse c.in-Some.values.items) =
    subst (λ o. MatchOption o (SomeBad h.0 stored.brackets) (λ vs. AreIndexes h.0 stored.brackets (reverse vs.items))) c.in-Some.is (c.in_ok-index_values.ensures h.0 stored.brackets h.4.paths_are.targets_are numbers brackets) in
    let cell = cell_at h.0 (are_instances h.0 h.4).silent h.4.written h.1 h.2 _ _ _ _ stored c.in-Some.values.items (slice_in (instances h.0) h.3 h.1 h.5) (sym c.is_array.ensures ∙ c.if-is_array.false) values in
    (h.0, cell.scope, cell.root, h.4.paths_are.targets_are, h.4.firsts_are, cell.placed, cell.declared)

pub offset-requires-clause-within : goal.offset-requires-clause-within
offset-requires-clause-within c =
    let h = c.requires in
    let stored = stored_at h.0 h.1 h.2 c.in-Stored.home c.in-Stored.name c.in-Stored.plain c.in-Stored.indexes (subst (λ (t : Target). Resolves h.0 h.1 h.2 (Some t)) c.in-Stored.is h.6) in
    let numbers = subst (AreNumbers h.0) (sym c.deref.ensures.value) h.4.paths_are.numbers_are in
    let brackets = subst (λ z. AreBrackets h.0 z stored.brackets) (sym c.deref-2.ensures.value) stored.are in
    let values : AreIndexes h.0 stored.brackets (reverse c.in-Some.values.items) =
    subst (λ o. MatchOption o (SomeBad h.0 stored.brackets) (λ vs. AreIndexes h.0 stored.brackets (reverse vs.items))) c.in-Some.is (c.in_ok-index_values.ensures h.0 stored.brackets h.4.paths_are.targets_are numbers brackets) in
    let cell = cell_at h.0 (are_instances h.0 h.4).silent h.4.written h.1 h.2 _ _ _ _ stored c.in-Some.values.items (slice_in (instances h.0) h.3 h.1 h.5) (sym c.is_array.ensures ∙ c.if-is_array.false) values in
    subst (λ hs. AllZip IsWithin hs c.deref-in-Some-2.result.now) (sym c.deref-in-Some.ensures.value) (subst (AllZip IsWithin c.in-Stored.indexes.items) (sym c.deref-in-Some-2.ensures.value) cell.counted.within)

pub offset-requires-clause-few : goal.offset-requires-clause-few
offset-requires-clause-few c =
    let h = c.requires in
    let stored = stored_at h.0 h.1 h.2 c.in-Stored.home c.in-Stored.name c.in-Stored.plain c.in-Stored.indexes (subst (λ (t : Target). Resolves h.0 h.1 h.2 (Some t)) c.in-Stored.is h.6) in
    let numbers = subst (AreNumbers h.0) (sym c.deref.ensures.value) h.4.paths_are.numbers_are in
    let brackets = subst (λ z. AreBrackets h.0 z stored.brackets) (sym c.deref-2.ensures.value) stored.are in
    let values : AreIndexes h.0 stored.brackets (reverse c.in-Some.values.items) =
    subst (λ o. MatchOption o (SomeBad h.0 stored.brackets) (λ vs. AreIndexes h.0 stored.brackets (reverse vs.items))) c.in-Some.is (c.in_ok-index_values.ensures h.0 stored.brackets h.4.paths_are.targets_are numbers brackets) in
    let cell = cell_at h.0 (are_instances h.0 h.4).silent h.4.written h.1 h.2 _ _ _ _ stored c.in-Some.values.items (slice_in (instances h.0) h.3 h.1 h.5) (sym c.is_array.ensures ∙ c.if-is_array.false) values in
    let few : offset (reverse c.in-Stored.indexes.items) (reverse c.in-Some.values.items) ≤ 255 = omega (arith, cell.counted.place, cell.counted.few) in
    subst (λ hs. offset (reverse hs) (reverse c.deref-in-Some-2.result.now) ≤ 255) (sym c.deref-in-Some.ensures.value) (subst (λ vs. offset (reverse c.in-Stored.indexes.items) (reverse vs) ≤ 255) (sym c.deref-in-Some-2.ensures.value) few)

pub overflow_add-result : goal.overflow_add-result
overflow_add-result c =
    let h = c.requires in
    let stored = stored_at h.0 h.1 h.2 c.in-Stored.home c.in-Stored.name c.in-Stored.plain c.in-Stored.indexes (subst (λ (t : Target). Resolves h.0 h.1 h.2 (Some t)) c.in-Stored.is h.6) in
    let numbers = subst (AreNumbers h.0) (sym c.deref.ensures.value) h.4.paths_are.numbers_are in
    let brackets = subst (λ z. AreBrackets h.0 z stored.brackets) (sym c.deref-2.ensures.value) stored.are in
    let values : AreIndexes h.0 stored.brackets (reverse c.in-Some.values.items) =
    subst (λ o. MatchOption o (SomeBad h.0 stored.brackets) (λ vs. AreIndexes h.0 stored.brackets (reverse vs.items))) c.in-Some.is (c.in_ok-index_values.ensures h.0 stored.brackets h.4.paths_are.targets_are numbers brackets) in
    let cell = cell_at h.0 (are_instances h.0 h.4).silent h.4.written h.1 h.2 _ _ _ _ stored c.in-Some.values.items (slice_in (instances h.0) h.3 h.1 h.5) (sym c.is_array.ensures ∙ c.if-is_array.false) values in
    let first = c.first_at-first.ensures h.0 cell.scope cell.root h.4.paths_are.targets_are h.4.firsts_are cell.placed cell.declared in
    let count : c.offset.result ≡ offset (reverse c.in-Stored.indexes.items) (reverse c.in-Some.values.items) =
    c.offset.ensures ∙ ap (λ hs. offset (reverse hs) (reverse c.deref-in-Some-2.result.now)) c.deref-in-Some.ensures.value ∙ ap (λ vs. offset (reverse c.in-Stored.indexes.items) (reverse vs)) c.deref-in-Some-2.ensures.value in
    omega (arith, first, count, cell.counted.place, cell.counted.few)

pub returns-in-Some : goal.returns-in-Some
returns-in-Some c = λ p s q i can at r.
    let stored = stored_at p s q c.in-Stored.home c.in-Stored.name c.in-Stored.plain c.in-Stored.indexes (subst (λ (t : Target). Resolves p s q (Some t)) c.in-Stored.is r) in
    let numbers = subst (AreNumbers p) (sym c.deref.ensures.value) can.paths_are.numbers_are in
    let brackets = subst (λ z. AreBrackets p z stored.brackets) (sym c.deref-2.ensures.value) stored.are in
    let values : AreIndexes p stored.brackets (reverse c.in-Some.values.items) =
    subst (λ o. MatchOption o (SomeBad p stored.brackets) (λ vs. AreIndexes p stored.brackets (reverse vs.items))) c.in-Some.is (c.in_ok-index_values.ensures p stored.brackets can.paths_are.targets_are numbers brackets) in
    let cell = cell_at p (are_instances p can).silent can.written s q _ _ _ _ stored c.in-Some.values.items (slice_in (instances p) i s at) (sym c.is_array.ensures ∙ c.if-is_array.false) values in
    let first = c.first_at-first.ensures p cell.scope cell.root can.paths_are.targets_are can.firsts_are cell.placed cell.declared in
    let count : c.offset.result ≡ offset (reverse c.in-Stored.indexes.items) (reverse c.in-Some.values.items) =
    c.offset.ensures ∙ ap (λ hs. offset (reverse hs) (reverse c.deref-in-Some-2.result.now)) c.deref-in-Some.ensures.value ∙ ap (λ vs. offset (reverse c.in-Stored.indexes.items) (reverse vs)) c.deref-in-Some-2.ensures.value in
    subst (Selects p s q) (cell.counted.place ∙ sym (ap (λ n. n + offset (reverse c.in-Stored.indexes.items) (reverse c.in-Some.values.items)) first) ∙ sym (ap (λ n. c.first_at-first.result + n) count)) cell.selects
