use Rattle.std.proofs.Common.{◌+◌, ◌*◌, length, ◌∙◌, arith, rules}
use Rattle.bdd_nodes.specs.Store.{value_of}
use Rattle.value_tables.proofs.WeightLemmas.{Spends-more}
use Rattle.value_tables.proofs.RegionLemmas.{keeps_join, Spends-then}
use Rattle.value_tables.proofs.StepLemmas.{if_ok}
use Rattle.value_tables.proofs.ResultLemmas.{judged_shows}
use Rattle.value_tables.proofs.operators.settled.Goals as goal

pub returns-clause-reads : goal.returns-clause-reads
returns-clause-reads g c =
    let s = c.args.engine.now.store in
    let f = c.faults_of.new.engine.store in
    if_ok c.decided.result c.decided.ensures.shows (λ t shown bits r q x y. record {
      each = λ k. shown bits k ∙ judged_shows r q k _ _ (value_of f c.args.hit bits) (value_of s c.args.hit bits)
          (c.in_ok-faults.ensures.shows bits r q x y k) (c.in_ok-faults.ensures.value bits r q x y)
          (c.faults_of.ensures.call.keeps.engine.grows.value c.args.hit c.requires.hit bits);
    })

pub returns-clause-call : goal.returns-clause-call
returns-clause-call g c = record { keeps = keeps_join c.faults_of.ensures.call.keeps c.decided.ensures.call.keeps; held = search rules }

pub returns-in_err-faults-clause-spends : goal.returns-in_err-faults-clause-spends
returns-in_err-faults-clause-spends g c =
    let l = length c.args.left.now in
    let r = length c.args.right.now in
    Spends-more c.args.engine.now.store c.faults_of.new.engine.store (3 * l + 3 * r + 2) (3 * l + 3 * r + 8) (omega arith) c.faults_of.ensures.spends

pub returns-clause-spends : goal.returns-clause-spends
returns-clause-spends g c =
    let l = length c.args.left.now in
    let r = length c.args.right.now in
    Spends-then c.args.engine.now.store c.faults_of.new.engine.store c.decided.new.engine.store (3 * l + 3 * r + 2) 6 (3 * l + 3 * r + 8) c.faults_of.ensures.call.keeps.engine.grows.levels
    (omega arith) c.faults_of.ensures.spends c.decided.ensures.spends
