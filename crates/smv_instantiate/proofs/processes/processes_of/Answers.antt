use Rattle.std.proofs.Common.{◌≡◌, sym, ◌∙◌, ap, ◌≤◌, arith, [], ◌∷◌, ◌++◌, length, map, take, Some, true}
use Rattle.std.specs.Prelude.{filter, slice_get}
use Rattle.std.proofs.lemmas.Option.{slice_get_within}
use Rattle.smv_instances.specs.Instances.{is_process, process_name}
use Rattle.smv_instances.proofs.TableLemmas.{length_pairs}
use Rattle.smv_instantiate.proofs.Members.{in_filter_back, map-append, slice_in}
use Rattle.smv_instantiate.proofs.TypeSteps.{taken_all}
use Rattle.smv_instantiate.proofs.ProcessSteps.{pairs_right, take_at, read_at}
use Rattle.smv_instantiate.proofs.processes.processes_of.Goals as goal

pub process_name-requires : goal.process_name-requires
process_name-requires c =
    let h = c.requires in
    let r = pairs_right (λ n d. slice_get h.1 n ≡ Some d) c.args.numbers.now (filter is_process h.1) c.loop-number.number-index _ h.3 (read_at c.args.numbers.now c.loop-number.number-index 0 c.loop-number-test.true) in
    let lt = slice_get_within h.1 _ r.0 r.2 in
    (h.0, (h.1, h.2, omega (arith, lt, h.2.lengths)))

pub loop-number-preserved : goal.loop-number-preserved
loop-number-preserved c = λ ms done are pairs.
    let i = c.loop-number.number-index in
    let all = filter is_process done in
    let r = pairs_right (λ n d. slice_get done n ≡ Some d) c.args.numbers.now all i _ pairs (read_at c.args.numbers.now i 0 c.loop-number-test.true) in
    let process : is_process r.0 ≡ true = (in_filter_back is_process done (slice_in all i r.0 r.1)).1 in
    c.in_ok-push.ensures.items
    ∙ ap (λ x. c.loop-number.names.items ++ (x ∷ [])) (c.in_ok-process_name.ensures ms done r.0 are r.2 process)
    ∙ ap (λ xs. xs ++ (process_name r.0 ∷ [])) (c.loop-number.invariant ms done are pairs)
    ∙ sym (ap (map process_name) (take_at all i r.0 r.1) ∙ map-append process_name (take i all) (r.0 ∷ []))

pub returns : goal.returns
returns c = λ ms done are pairs.
    let all = filter is_process done in
    let count : length c.args.numbers.now ≡ length all = length_pairs (λ n d. slice_get done n ≡ Some d) c.args.numbers.now all pairs in
    let past : length all ≤ c.loop-number.number-index = omega (arith, count, c.loop-number-test.false) in
    c.loop-number.invariant ms done are pairs ∙ ap (map process_name) (taken_all all c.loop-number.number-index past)
