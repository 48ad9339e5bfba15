use Rattle.std.proofs.Common.{◌∙◌, ◌+◌, ◌*◌, ◌^◌, ◌||◌, length, arith, rules}
use Rattle.bdd_nodes.specs.Store.{levels_of, value_of}
use Rattle.value_tables.specs.Tables.{alone}
use Rattle.value_tables.proofs.RegionLemmas.{has-grows, pairs-grows, keeps_join}
use Rattle.value_tables.proofs.WeightLemmas.{Spends-more}
use Rattle.value_tables.proofs.GrowthLemmas.{pairs_spend}
use Rattle.value_tables.proofs.OperatorLemmas.{paired_shows}
use Rattle.value_tables.proofs.pairs.calculated.Goals as goal

pub pair_up-requires-clause-left : goal.pair_up-requires-clause-left
pair_up-requires-clause-left g c = has-grows c.args.engine.now.store c.faults_of.new.engine.store c.faults_of.ensures.call.keeps.engine.grows c.args.left.now c.requires.left.has

pub pair_up-requires-clause-right : goal.pair_up-requires-clause-right
pair_up-requires-clause-right g c = has-grows c.args.engine.now.store c.faults_of.new.engine.store c.faults_of.ensures.call.keeps.engine.grows c.args.right.now c.requires.right.has

pub returns-clause-reads : goal.returns-clause-reads
returns-clause-reads g c =
    let s = c.args.engine.now.store in
    let f = c.faults_of.new.engine.store in
    let left = c.args.left.now in
    let right = c.args.right.now in
    λ bits a b x y. record {
      each = λ k. c.in_ok-pair_up.ensures.shows bits k
          ∙ (λ i. c.in_ok-faults.ensures.shows bits (alone a) (alone b) x y k i || pairs-grows s f c.faults_of.ensures.call.keeps.engine.grows left right c.requires.left.has c.requires.right.has bits c.args.op k i)
          ∙ paired_shows (λ q. value_of s q bits) c.args.op left right a b x y k;
    }

pub returns-clause-spends : goal.returns-clause-spends
returns-clause-spends g c =
    let s = c.args.engine.now.store in
    pairs_spend s c.faults_of.new.engine.store c.pair_up.new.engine.store c.faults_of.ensures.call.keeps.engine.grows c.args.left.now c.args.right.now c.requires.left.has c.requires.right.has
    (3 * length c.args.left.now + 3 * length c.args.right.now + 2) (3 * length c.args.left.now + 3 * length c.args.right.now + 3 + 2 * 2 ^ levels_of s) (omega arith) c.faults_of.ensures.spends c.pair_up.ensures.frugal

pub returns-in_err-pair_up-clause-spends : goal.returns-in_err-pair_up-clause-spends
returns-in_err-pair_up-clause-spends g c =
    let s = c.args.engine.now.store in
    pairs_spend s c.faults_of.new.engine.store c.pair_up.new.engine.store c.faults_of.ensures.call.keeps.engine.grows c.args.left.now c.args.right.now c.requires.left.has c.requires.right.has
    (3 * length c.args.left.now + 3 * length c.args.right.now + 2) (3 * length c.args.left.now + 3 * length c.args.right.now + 3 + 2 * 2 ^ levels_of s) (omega arith) c.faults_of.ensures.spends c.pair_up.ensures.frugal

pub returns-in_err-faults-clause-spends : goal.returns-in_err-faults-clause-spends
returns-in_err-faults-clause-spends g c =
    let s = c.args.engine.now.store in
    λ left right. Spends-more s c.faults_of.new.engine.store (3 * length c.args.left.now + 3 * length c.args.right.now + 2) (3 * length c.args.left.now + 3 * length c.args.right.now + 3 + 2 * 2 ^ levels_of s) (omega arith) c.faults_of.ensures.spends

pub returns-in_err-pair_up-clause-call : goal.returns-in_err-pair_up-clause-call
returns-in_err-pair_up-clause-call g c = record { keeps = keeps_join c.faults_of.ensures.call.keeps c.pair_up.ensures.call.keeps; held = search rules }

pub returns-clause-call : goal.returns-clause-call
returns-clause-call g c = record { keeps = keeps_join c.faults_of.ensures.call.keeps c.pair_up.ensures.call.keeps; held = search rules }
