use Rattle.std.proofs.Common.{◌≡◌, ◌&&◌, ◌||◌, Bool, not, true, false, Ok, pos, sym, ap, ◌∙◌, rules, arith}
use Rattle.bdd_nodes.specs.Store.{value_of}
use Rattle.kripke_model.specs.declared.expressions.Value.TheVariants.{Number}
use Rattle.kripke_model.specs.System.{value_in}
use Rattle.kripke_model.specs.Evaluation.{same, truth, runs, truth_value}
use Rattle.value_tables.specs.Cells.{shows, any_of, same_reading}
use Rattle.value_tables.specs.States.{state_shown}
use Rattle.value_tables.proofs.WeightLemmas.{Spends-more}
use Rattle.value_tables.proofs.RegionLemmas.{keeps_join, keeps_engine, Spends-then}
use Rattle.value_tables.proofs.BinaryLemmas.{one_truth}
use Rattle.value_tables.proofs.SelectorLemmas.{two_truths}
use Rattle.value_tables.proofs.variables.running.Goals as goal

pub returns-in_err-add-clause-call : goal.returns-in_err-add-clause-call
returns-in_err-add-clause-call g c = record { keeps = keeps_join (keeps_join (keeps_engine c.args.steps.now c.selected.ensures.call.keeps.engine) c.outside.ensures.call.keeps) c.add.ensures.call.keeps; held = search rules }

pub returns-in_err-add-2-clause-call : goal.returns-in_err-add-2-clause-call
returns-in_err-add-2-clause-call g c = record { keeps = keeps_join (keeps_join (keeps_join (keeps_engine c.args.steps.now c.selected.ensures.call.keeps.engine) c.outside.ensures.call.keeps) c.add.ensures.call.keeps) c.add-2.ensures.call.keeps; held = search rules }

pub returns-clause-call : goal.returns-clause-call
returns-clause-call g c = record { keeps = keeps_join (keeps_join (keeps_join (keeps_engine c.args.steps.now c.selected.ensures.call.keeps.engine) c.outside.ensures.call.keeps) c.add.ensures.call.keeps) c.add-2.ensures.call.keeps; held = search rules }

pub returns-clause-table : goal.returns-clause-table
returns-clause-table g c =
    let a = c.selected.new.engine.store in
    let b = c.outside.new.engine.store in
    let d = c.add.new.engine.store in
    let lay = c.args.layout.now in
    let here = c.in_ok-here.here in
    let elsewhere = c.in_ok-elsewhere.elsewhere in
    let there : c.args.model.now.selector ≡ true = search rules in
    record {
      regions = c.in_ok-add-2.ensures.cells;
      reads = λ bits.
          let named : Bool = same (value_in (state_shown lay c.args.next bits) 0) (Number (pos c.args.p)) in
          let at : value_of a here bits ≡ named = c.in_ok-here.ensures.region.value bits in
          let still : value_of b here bits ≡ named = c.outside.ensures.call.keeps.engine.grows.value here c.in_ok-here.ensures.region.has bits ∙ at in
          let rest : value_of d elsewhere bits ≡ not named = c.add.ensures.call.keeps.engine.grows.value elsewhere c.in_ok-elsewhere.ensures.region.has bits ∙ c.in_ok-elsewhere.ensures.region.value bits ∙ ap not at in
          record {
            each = λ k.
                c.in_ok-add-2.ensures.shows bits k
                ∙ (λ j. c.in_ok-add.ensures.shows bits k j || (same_reading k (Ok (c.truth-3.ensures j)) && rest j))
                ∙ (λ j. (shows (λ r. value_of b r bits) (c.new-cells.ensures.items j) k || (same_reading k (Ok (c.truth-2.ensures j)) && still j)) || (same_reading k (Ok (truth_value false)) && not named))
                ∙ two_truths k named
                ∙ (λ j. any_of (same_reading k) (Ok (truth (not (sym there j) || named))));
          };
      at_most_one = λ e bits. one_truth (runs c.args.model.now (state_shown lay c.args.next bits) c.args.p);
    }

pub returns-in_err-elsewhere-clause-call : goal.returns-in_err-elsewhere-clause-call
returns-in_err-elsewhere-clause-call g c = record { keeps = keeps_join (keeps_engine c.args.steps.now c.selected.ensures.call.keeps.engine) c.outside.ensures.call.keeps; held = search rules }

pub returns-in_err-here-clause-spends : goal.returns-in_err-here-clause-spends
returns-in_err-here-clause-spends g c = Spends-more c.args.engine.now.store c.selected.new.engine.store 1 4 (omega arith) c.selected.ensures.spends

pub returns-in_err-elsewhere-clause-spends : goal.returns-in_err-elsewhere-clause-spends
returns-in_err-elsewhere-clause-spends g c = Spends-then c.args.engine.now.store c.selected.new.engine.store c.outside.new.engine.store 1 1 4 c.selected.ensures.call.keeps.engine.grows.levels (omega arith) c.selected.ensures.spends c.outside.ensures.spends

pub returns-in_err-add-clause-spends : goal.returns-in_err-add-clause-spends
returns-in_err-add-clause-spends g c =
    let s = c.args.engine.now.store in
    let a = c.selected.new.engine.store in
    let b = c.outside.new.engine.store in
    let first = c.selected.ensures.call.keeps.engine.grows.levels in
    Spends-then s b c.add.new.engine.store 2 1 4 (c.outside.ensures.call.keeps.engine.grows.levels ∙ first) (omega arith) (Spends-then s a b 1 1 2 first (omega arith) c.selected.ensures.spends c.outside.ensures.spends) c.add.ensures.spends

pub returns-in_err-add-2-clause-spends : goal.returns-in_err-add-2-clause-spends
returns-in_err-add-2-clause-spends g c =
    let s = c.args.engine.now.store in
    let a = c.selected.new.engine.store in
    let b = c.outside.new.engine.store in
    let d = c.add.new.engine.store in
    let first = c.selected.ensures.call.keeps.engine.grows.levels in
    let second = c.outside.ensures.call.keeps.engine.grows.levels ∙ first in
    Spends-then s d c.add-2.new.engine.store 3 1 4 (c.add.ensures.call.keeps.engine.grows.levels ∙ second) (omega arith)
    (Spends-then s b d 2 1 3 second (omega arith) (Spends-then s a b 1 1 2 first (omega arith) c.selected.ensures.spends c.outside.ensures.spends) c.add.ensures.spends) c.add-2.ensures.spends

pub returns-clause-spends : goal.returns-clause-spends
returns-clause-spends g c =
    let s = c.args.engine.now.store in
    let a = c.selected.new.engine.store in
    let b = c.outside.new.engine.store in
    let d = c.add.new.engine.store in
    let first = c.selected.ensures.call.keeps.engine.grows.levels in
    let second = c.outside.ensures.call.keeps.engine.grows.levels ∙ first in
    Spends-then s d c.add-2.new.engine.store 3 1 4 (c.add.ensures.call.keeps.engine.grows.levels ∙ second) (omega arith)
    (Spends-then s b d 2 1 3 second (omega arith) (Spends-then s a b 1 1 2 first (omega arith) c.selected.ensures.spends c.outside.ensures.spends) c.add.ensures.spends) c.add-2.ensures.spends
