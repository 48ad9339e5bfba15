use Rattle.std.proofs.Common.{rules, arith, ◌≡◌, ◌≢◌, ◌+◌, ◌++◌, ◌∷◌, [], Some, Ok, refl, sym, ap, subst, ◌∙◌}
use Rattle.bdd_nodes.specs.declared.triple.Triple.{Triple}
use Rattle.bdd_nodes.specs.Store.{triple}
use Rattle.bdd_nodes.specs.Table.{node_of, IsGrowth}
use Rattle.bdd_nodes.proofs.Tables.{Grows-table}
use Rattle.bdd_nodes.proofs.Inserts.{IsGood-insert_answer, IsGrowth-insert, IsNodeOf-at, absent-node, same_by_fields, found-node, stored-node, insert-there, insert-absent, never-equal}
use Rattle.bdd_nodes.proofs.store.Store.make.Goals as goal

pub invariant_of-self-then-len-self-clause-good : goal.invariant_of-self-then-len-self-clause-good
invariant_of-self-then-len-self-clause-good c =
    let t : Triple = c.decision-triple.result in
    let f = c.if-eq.false in
    let q = c.requires in
    let e = c.decision-triple.ensures in
    let ne : c.args.low ≢ c.args.high = search rules in
    IsGood-insert_answer c.args.self.now.levels c.args.self.now.nodes.keys t c.args.self.now.good (rw e.level q.level) (rw e.low q.low) (rw e.high q.high) (rw (e.level, e.low) q.low_deeper) (rw (e.level, e.high) q.high_deeper) (rw (e.low, e.high) ne)
    c.insert_full.result c.insert_full.new.self.keys c.insert_full.ensures.keys c.insert_full.ensures.err

pub returns-in-Ok-clause-node : goal.returns-in-Ok-clause-node
returns-in-Ok-clause-node c =
    let f = c.if-eq.false in
    let e = c.decision-triple.ensures in
    let ne : c.args.low ≢ c.args.high = search rules in
    IsNodeOf-at _ c.args.level c.args.low c.args.high _ c.in-Ok.place c.decision-triple.result e.level e.low e.high ne c.at_place.ensures (stored-node c.insert_full.new.self.keys _ c.in-Ok.place c.in-Ok.ensures.stored)

pub returns-in-Some-clause-node : goal.returns-in-Some-clause-node
returns-in-Some-clause-node c =
    let f = c.if-eq.false in
    let e = c.decision-triple.ensures in
    let ne : c.args.low ≢ c.args.high = search rules in
    IsNodeOf-at _ c.args.level c.args.low c.args.high _ c.in-Some.place c.decision-triple.result e.level e.low e.high ne c.at_place-else-len-self.ensures (found-node c.args.self.now.nodes.keys _ c.in-Some.place c.in-Some.ensures.index)

pub returns-in-Some-clause-full : goal.returns-in-Some-clause-full
returns-in-Some-clause-full c =
    let f = c.if-eq.false in
    let e = c.decision-triple.ensures in
    let ne : c.args.low ≢ c.args.high = search rules in
    let at = IsNodeOf-at c.args.self.now c.args.level c.args.low c.args.high _ c.in-Some.place c.decision-triple.result e.level e.low e.high ne c.at_place-else-len-self.ensures (found-node c.args.self.now.nodes.keys _ c.in-Some.place c.in-Some.ensures.index) in
    (λ h. absurd h, λ full. full.absent c.at_place-else-len-self.result (at.node ne))

pub returns-in_default-get_index_of-clause-full : goal.returns-in_default-get_index_of-clause-full
returns-in_default-get_index_of-clause-full c =
    let f = c.if-eq.false in
    let e = c.decision-triple.ensures in
    let ne : c.args.low ≢ c.args.high = search rules in
    let t : Triple = record { level = c.args.level; low = c.args.low; high = c.args.high } in (
      λ _. record {
        different = ne;
        absent = λ r at. absent-node c.args.self.now.nodes.keys c.decision-triple.result (sym c.in_default-get_index_of.ensures.found) r (at ∙ ap Some (sym (same_by_fields c.decision-triple.result t e.level e.low e.high)));
        held = omega (arith, c.len.ensures.len, c.args.self.now.within_limit);
      },
      λ _. tt,
    )

pub returns-then-eq-clause-there : goal.returns-then-eq-clause-there
returns-then-eq-clause-there c =
    let same : c.args.low ≡ c.args.high = search rules in
    λ r at. absurd (never-equal c.args.self.now.levels c.args.self.now.nodes.keys c.args.self.now.good r _ at same)

pub returns-in_default-clause-there : goal.returns-in_default-clause-there
returns-in_default-clause-there c =
    let e = c.decision-triple.ensures in
    let t : Triple = triple c.args.level c.args.low c.args.high in
    λ r at. absurd (absent-node c.args.self.now.nodes.keys c.decision-triple.result c.in_default.ensures.absent r (at ∙ ap Some (sym (same_by_fields c.decision-triple.result t e.level e.low e.high))))

pub returns-in_default-get_index_of-clause-there : goal.returns-in_default-get_index_of-clause-there
returns-in_default-get_index_of-clause-there c =
    let e = c.decision-triple.ensures in
    let t : Triple = triple c.args.level c.args.low c.args.high in
    λ r at. absurd (absent-node c.args.self.now.nodes.keys c.decision-triple.result (sym c.in_default-get_index_of.ensures.found) r (at ∙ ap Some (sym (same_by_fields c.decision-triple.result t e.level e.low e.high))))

pub returns-in-Ok-clause-there : goal.returns-in-Ok-clause-there
returns-in-Ok-clause-there c =
    let e = c.decision-triple.ensures in
    let keys = c.args.self.now.nodes.keys in
    let t : Triple = triple c.args.level c.args.low c.args.high in
    let same : c.decision-triple.result ≡ t = same_by_fields c.decision-triple.result t e.level e.low e.high in
    λ r at.
    let there = at ∙ ap Some (sym same) in
    let stays = c.in-Ok.ensures.keys ∙ insert-there keys c.decision-triple.result r there in
    let found = subst (λ ks. node_of ks (c.in-Ok.place + 2) ≡ Some c.decision-triple.result) stays (stored-node c.insert_full.new.self.keys c.decision-triple.result c.in-Ok.place c.in-Ok.ensures.stored) in
    ap Ok (c.at_place.ensures ∙ c.args.self.now.good.once (c.in-Ok.place + 2) r c.decision-triple.result found there)

pub returns-in-Ok-clause-there_stays : goal.returns-in-Ok-clause-there_stays
returns-in-Ok-clause-there_stays c =
    let e = c.decision-triple.ensures in
    let keys = c.args.self.now.nodes.keys in
    let t : Triple = triple c.args.level c.args.low c.args.high in
    let same : c.decision-triple.result ≡ t = same_by_fields c.decision-triple.result t e.level e.low e.high in
    λ r at. c.in-Ok.ensures.keys ∙ insert-there keys c.decision-triple.result r (at ∙ ap Some (sym same))

pub returns-in-Ok-clause-added : goal.returns-in-Ok-clause-added
returns-in-Ok-clause-added c =
    let e = c.decision-triple.ensures in
    let keys = c.args.self.now.nodes.keys in
    let t : Triple = triple c.args.level c.args.low c.args.high in
    let same : c.decision-triple.result ≡ t = same_by_fields c.decision-triple.result t e.level e.low e.high in
    λ ne absent. c.in-Ok.ensures.keys ∙ insert-absent keys c.decision-triple.result (λ r at. absent r (at ∙ ap Some same)) ∙ ap (λ u. keys ++ u ∷ []) same

pub returns-in-Ok-clause-grows : goal.returns-in-Ok-clause-grows
returns-in-Ok-clause-grows c =
    Grows-table c.args.self.now _ refl refl (omega (arith, c.raise.ensures)) (subst (IsGrowth c.args.self.now.nodes.keys) (sym c.in-Ok.ensures.keys) (IsGrowth-insert c.args.self.now.nodes.keys c.decision-triple.result))

pub returns-in-Some-clause-there : goal.returns-in-Some-clause-there
returns-in-Some-clause-there c =
    let e = c.decision-triple.ensures in
    let t : Triple = triple c.args.level c.args.low c.args.high in
    let same : c.decision-triple.result ≡ t = same_by_fields c.decision-triple.result t e.level e.low e.high in
    λ r at.
    let found = found-node c.args.self.now.nodes.keys c.decision-triple.result c.in-Some.place c.in-Some.ensures.index in
    ap Ok (c.at_place-else-len-self.ensures ∙ c.args.self.now.good.once (c.in-Some.place + 2) r c.decision-triple.result found (at ∙ ap Some (sym same)))

pub returns-in-Some-clause-added : goal.returns-in-Some-clause-added
returns-in-Some-clause-added c =
    let e = c.decision-triple.ensures in
    let t : Triple = triple c.args.level c.args.low c.args.high in
    let same : c.decision-triple.result ≡ t = same_by_fields c.decision-triple.result t e.level e.low e.high in
    λ ne absent. absurd (absent (c.in-Some.place + 2) (found-node c.args.self.now.nodes.keys c.decision-triple.result c.in-Some.place c.in-Some.ensures.index ∙ ap Some same))
