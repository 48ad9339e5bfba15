use Rattle.std.proofs.Common.{◌∙◌, ◌+◌, ◌*◌, length, arith, rules}
use Rattle.bdd_nodes.specs.Store.{value_of}
use Rattle.bdd_nodes.proofs.Tables.{Grows-then}
use Rattle.value_tables.specs.declared.pick.Pick.{Pick}
use Rattle.value_tables.specs.Cells.{same_reading}
use Rattle.value_tables.specs.Pick.{becomes}
use Rattle.value_tables.proofs.WeightLemmas.{Spends-more}
use Rattle.value_tables.proofs.RegionLemmas.{any_cell-grows, has-grows, AreCells-grows, keeps_join, Spends-then}
use Rattle.value_tables.proofs.OperatorLemmas.{united_each}
use Rattle.value_tables.proofs.sets.united.Goals as goal

pub spread-requires-clause-cells : goal.spread-requires-clause-cells
spread-requires-clause-cells g c =
    let s = c.args.engine.now.store in
    let f = c.faults_of.new.engine.store in
    let o = c.outside.new.engine.store in
    has-grows s o (Grows-then s f o c.faults_of.ensures.call.keeps.engine.grows c.outside.ensures.call.keeps.engine.grows) c.args.left.now c.requires.left.has

pub spread-requires-clause-out : goal.spread-requires-clause-out
spread-requires-clause-out g c = AreCells-grows c.faults_of.new.engine.store c.outside.new.engine.store c.outside.ensures.call.keeps.engine.grows _ c.in_ok-faults.ensures.cells

pub spread-requires-2-clause-cells : goal.spread-requires-2-clause-cells
spread-requires-2-clause-cells g c =
    let s = c.args.engine.now.store in
    let f = c.faults_of.new.engine.store in
    let o = c.outside.new.engine.store in
    let p = c.spread.new.engine.store in
    has-grows s p (Grows-then s o p (Grows-then s f o c.faults_of.ensures.call.keeps.engine.grows c.outside.ensures.call.keeps.engine.grows) c.spread.ensures.call.keeps.engine.grows) c.args.right.now c.requires.right.has

pub returns-in_err-spread-clause-call : goal.returns-in_err-spread-clause-call
returns-in_err-spread-clause-call g c = record { keeps = keeps_join (keeps_join c.faults_of.ensures.call.keeps c.outside.ensures.call.keeps) c.spread.ensures.call.keeps; held = search rules }

pub returns-in_err-spread-2-clause-call : goal.returns-in_err-spread-2-clause-call
returns-in_err-spread-2-clause-call g c = record { keeps = keeps_join (keeps_join (keeps_join c.faults_of.ensures.call.keeps c.outside.ensures.call.keeps) c.spread.ensures.call.keeps) c.spread-2.ensures.call.keeps; held = search rules }

pub returns-clause-call : goal.returns-clause-call
returns-clause-call g c = record { keeps = keeps_join (keeps_join (keeps_join c.faults_of.ensures.call.keeps c.outside.ensures.call.keeps) c.spread.ensures.call.keeps) c.spread-2.ensures.call.keeps; held = search rules }

pub returns-clause-reads : goal.returns-clause-reads
returns-clause-reads g c =
    let s = c.args.engine.now.store in
    let f = c.faults_of.new.engine.store in
    let o = c.outside.new.engine.store in
    let p = c.spread.new.engine.store in
    let s_o = Grows-then s f o c.faults_of.ensures.call.keeps.engine.grows c.outside.ensures.call.keeps.engine.grows in
    let s_p = Grows-then s o p s_o c.spread.ensures.call.keeps.engine.grows in
    let left = c.args.left.now in
    let right = c.args.right.now in
    λ bits r q x y. record {
      each = λ k. united_each (λ n. value_of s n bits) left right r q x y k _ _ _ _ _ _ _ _
          (c.in_ok-spread-2.ensures.shows bits k)
          (c.in_ok-spread.ensures.shows bits k)
          (any_cell-grows f o c.outside.ensures.call.keeps.engine.grows _ c.in_ok-faults.ensures.cells.has bits (same_reading k) ∙ c.in_ok-faults.ensures.shows bits r q x y k)
          (any_cell-grows s o s_o left c.requires.left.has bits (becomes Pick.Values k))
          (any_cell-grows s p s_p right c.requires.right.has bits (becomes Pick.Values k))
          (c.spread.ensures.call.keeps.engine.grows.value _ c.in_ok-sound.ensures.region.has bits)
          (c.in_ok-sound.ensures.region.value bits)
          (c.in_ok-faults.ensures.value bits r q x y);
    }

pub returns-in_err-sound-clause-call : goal.returns-in_err-sound-clause-call
returns-in_err-sound-clause-call g c = record { keeps = keeps_join c.faults_of.ensures.call.keeps c.outside.ensures.call.keeps; held = search rules }

pub returns-in_err-faults-clause-spends : goal.returns-in_err-faults-clause-spends
returns-in_err-faults-clause-spends g c =
    let l = length c.args.left.now in
    let r = length c.args.right.now in
    Spends-more c.args.engine.now.store c.faults_of.new.engine.store (3 * l + 3 * r + 2) (5 * l + 5 * r + 3) (omega arith) c.faults_of.ensures.spends

pub returns-in_err-sound-clause-spends : goal.returns-in_err-sound-clause-spends
returns-in_err-sound-clause-spends g c =
    let l = length c.args.left.now in
    let r = length c.args.right.now in
    Spends-then c.args.engine.now.store c.faults_of.new.engine.store c.outside.new.engine.store (3 * l + 3 * r + 2) 1 (5 * l + 5 * r + 3) c.faults_of.ensures.call.keeps.engine.grows.levels (omega arith) c.faults_of.ensures.spends c.outside.ensures.spends

pub returns-in_err-spread-clause-spends : goal.returns-in_err-spread-clause-spends
returns-in_err-spread-clause-spends g c =
    let s = c.args.engine.now.store in
    let f = c.faults_of.new.engine.store in
    let o = c.outside.new.engine.store in
    let l = length c.args.left.now in
    let r = length c.args.right.now in
    let first = c.faults_of.ensures.call.keeps.engine.grows.levels in
    Spends-then s o c.spread.new.engine.store (3 * l + 3 * r + 3) (2 * l) (5 * l + 5 * r + 3) (c.outside.ensures.call.keeps.engine.grows.levels ∙ first) (omega arith)
    (Spends-then s f o (3 * l + 3 * r + 2) 1 (3 * l + 3 * r + 3) first (omega arith) c.faults_of.ensures.spends c.outside.ensures.spends) c.spread.ensures.spends

pub returns-in_err-spread-2-clause-spends : goal.returns-in_err-spread-2-clause-spends
returns-in_err-spread-2-clause-spends g c =
    let s = c.args.engine.now.store in
    let f = c.faults_of.new.engine.store in
    let o = c.outside.new.engine.store in
    let p = c.spread.new.engine.store in
    let l = length c.args.left.now in
    let r = length c.args.right.now in
    let first = c.faults_of.ensures.call.keeps.engine.grows.levels in
    let second = c.outside.ensures.call.keeps.engine.grows.levels ∙ first in
    Spends-then s p c.spread-2.new.engine.store (5 * l + 3 * r + 3) (2 * r) (5 * l + 5 * r + 3) (c.spread.ensures.call.keeps.engine.grows.levels ∙ second) (omega arith)
    (Spends-then s o p (3 * l + 3 * r + 3) (2 * l) (5 * l + 3 * r + 3) second (omega arith)
    (Spends-then s f o (3 * l + 3 * r + 2) 1 (3 * l + 3 * r + 3) first (omega arith) c.faults_of.ensures.spends c.outside.ensures.spends) c.spread.ensures.spends) c.spread-2.ensures.spends

pub returns-clause-spends : goal.returns-clause-spends
returns-clause-spends g c =
    let s = c.args.engine.now.store in
    let f = c.faults_of.new.engine.store in
    let o = c.outside.new.engine.store in
    let p = c.spread.new.engine.store in
    let l = length c.args.left.now in
    let r = length c.args.right.now in
    let first = c.faults_of.ensures.call.keeps.engine.grows.levels in
    let second = c.outside.ensures.call.keeps.engine.grows.levels ∙ first in
    Spends-then s p c.spread-2.new.engine.store (5 * l + 3 * r + 3) (2 * r) (5 * l + 5 * r + 3) (c.spread.ensures.call.keeps.engine.grows.levels ∙ second) (omega arith)
    (Spends-then s o p (3 * l + 3 * r + 3) (2 * l) (5 * l + 3 * r + 3) second (omega arith)
    (Spends-then s f o (3 * l + 3 * r + 2) 1 (3 * l + 3 * r + 3) first (omega arith) c.faults_of.ensures.spends c.outside.ensures.spends) c.spread.ensures.spends) c.spread-2.ensures.spends
