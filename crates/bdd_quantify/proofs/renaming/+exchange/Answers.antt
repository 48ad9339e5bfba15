use Rattle.std.proofs.Common.{◌≡◌, ℕ, ◌%◌, ◌<◌, ◌+◌, Bool, true, false, cond, Some, length, sym, ap, subst, ◌∙◌, arith, rules}
use Rattle.bdd_nodes.specs.declared.triple.Triple.{Triple}
use Rattle.bdd_nodes.specs.Store.{triples, levels_of, level_of, node_of, triple, Grows, IsNodeOf}
use Rattle.bdd_nodes.proofs.Tables.{Grows-then}
use Rattle.bdd_ops.specs.Engine.{lists_of}
use Rattle.bdd_ops.specs.Answer.{IsAnswer}
use Rattle.bdd_ops.specs.declared.key.Key.TheVariants.{Rename}
use Rattle.bdd_ops.specs.Kept.{KeepsEngine}
use Rattle.bdd_ops.proofs.Kept.{KeepsEngine-store, KeepsEngine-made, KeepsEngine-then}
use Rattle.bdd_ops.proofs.AnswerLemmas.{IsAnswer-grows}
use Rattle.bdd_ops.proofs.Apply.{false-stays}
use Rattle.bdd_ops.specs.Independence.{DependsOnParity}
use Rattle.bdd_quantify.specs.declared.node.Node.{Node}
use Rattle.bdd_quantify.specs.Exchange.{neighbour_of}
use Rattle.bdd_quantify.proofs.Exchange.{IsMoved, neighbour-inside, neighbour-some, child, IsChild-grows, deeper-answer, IsAnswer-constant, IsAnswer-whole, IsWithin, low-within, both-within}
use Rattle.bdd_quantify.proofs.renaming.+exchange.Goals.{After-recall, After-exchange-2, After-make, In_default-recall, In_ok-low, In_ok-high, In_ok-made}
use Rattle.bdd_quantify.proofs.renaming.+exchange.Goals as goal

abbrev triple_of : Node → Triple
triple_of n = triple n.level n.low n.high

-- the node's triple is to be moved, in the store that the recursion begins with
moved : (g : _) (t : _) (c : In_default-recall g t) → IsMoved c.recall.new.self.store c.args.to_next c.args.f (triple_of c.in-Some.node)
moved g t c = record {
  pairs = subst (λ x. levels_of x % 2 ≡ 0) (sym c.recall.ensures.store) c.requires.pairs;
  node = subst (λ x. node_of x c.args.f ≡ Some (triple_of c.in-Some.node)) (c.store.ensures ∙ sym c.recall.ensures.store) c.in-Some.ensures.some;
  parity = subst (λ x. DependsOnParity x c.args.to_next c.args.f) (sym c.recall.ensures.store) c.requires.parity;
}

-- both answers, in the store that the second call leaves
record AreAnswered (g : _) (t : _) (c : In_ok-high g t) : Type 0 where
  grows : Grows c.recall.new.self.store c.exchange-2.new.engine.store
  low : IsAnswer c.exchange-2.new.engine.store (lists_of c.exchange-2.new.engine) (Rename c.in-Some.node.low c.args.to_next) c.in_ok-low.low
  there : neighbour_of c.args.to_next c.in-Some.node.level < levels_of c.exchange-2.new.engine.store

answered : (g : _) (t : _) (c : In_ok-high g t) → IsMoved c.recall.new.self.store c.args.to_next c.args.f (triple_of c.in-Some.node) → AreAnswered g t c
answered g t c a =
    let s = c.recall.new.self.store in
    let t1 = c.exchange.new.engine.store in
    let t2 = c.exchange-2.new.engine.store in
    let key = Rename c.in-Some.node.low c.args.to_next in
    let grows = Grows-then s t1 t2 c.in_ok-low.ensures.call.keeps.grows c.in_ok-high.ensures.call.keeps.grows in
    record {
      grows = grows;
      low = IsAnswer-grows t1 t2 c.in_ok-high.ensures.call.keeps.grows (lists_of c.exchange-2.new.engine) key c.in_ok-low.low
          (subst (λ l. IsAnswer t1 l key c.in_ok-low.low) (sym c.in_ok-high.ensures.call.keeps.lists) c.in_ok-low.ensures.answer);
      there = omega (arith, neighbour-inside s c.args.to_next c.args.f (triple_of c.in-Some.node) a, grows.levels);
    }

-- the made diagram is the answer
whole : (g : _) (t : _) (c : In_ok-made g t) → IsMoved c.recall.new.self.store c.args.to_next c.args.f (triple_of c.in-Some.node) → IsAnswer c.make.new.self.store (lists_of c.make.new.self) (Rename c.args.f c.args.to_next) c.in_ok-made.made
whole g t c a =
    let s = c.recall.new.self.store in
    let t1 = c.exchange.new.engine.store in
    let t2 = c.exchange-2.new.engine.store in
    let t3 = c.make.new.self.store in
    let n = c.in-Some.node in
    let even = c.args.to_next in
    let low = c.in_ok-low.low in
    let high = c.in_ok-high.high in
    let made = c.in_ok-made.made in
    let last = lists_of c.make.new.self in
    let later = Grows-then t1 t2 t3 c.in_ok-high.ensures.call.keeps.grows c.in_ok-made.ensures.grows in
    let low_last = IsAnswer-grows t1 t3 later last (Rename n.low even) low
    (subst (λ l. IsAnswer t1 l (Rename n.low even) low) (sym (c.make.ensures.lists ∙ c.in_ok-high.ensures.call.keeps.lists)) c.in_ok-low.ensures.answer) in
    let high_last = IsAnswer-grows t2 t3 c.in_ok-made.ensures.grows last (Rename n.high even) high
    (subst (λ l. IsAnswer t2 l (Rename n.high even) high) (sym c.make.ensures.lists) c.in_ok-high.ensures.answer) in
    let node = subst (λ l. IsNodeOf t3 l low high made) c.neighbour.ensures c.in_ok-made.ensures.node in
    IsAnswer-whole s t3 (Grows-then s t1 t3 c.in_ok-low.ensures.call.keeps.grows later) last even c.args.f (triple_of n) a low high made low_last high_last c.in_ok-made.ensures.has node

pub returns-in_default-clause-answer : goal.returns-in_default-clause-answer
returns-in_default-clause-answer g t c = IsAnswer-constant c.args.engine.now.store (lists_of c.args.engine.now) c.args.to_next c.args.f c.requires.has c.requires.parity c.in_default.ensures.none

pub exchange-requires : goal.exchange-requires
exchange-requires g t c =
    let a = moved g t (goal.at.exchange-requires g t c).In_default-recall in
    let low = child c.recall.new.self.store c.args.to_next c.args.f (triple_of c.in-Some.node) a false in
    search (rules, low.smaller, low.has, a.pairs, low.parity)

pub returns-in_err-low-clause-count : goal.returns-in_err-low-clause-count
returns-in_err-low-clause-count g t c =
    let a = moved g t (goal.at.returns-in_err-low-clause-count g t c).In_default-recall in
    let n = length (triples c.exchange.new.engine.store) in
    subst (IsWithin c.args.f (n + 1)) c.recall.ensures.store (low-within c.recall.new.self.store c.args.to_next c.args.f (triple_of c.in-Some.node) a n c.in_err-low.ensures.count)

pub exchange-requires-2 : goal.exchange-requires-2
exchange-requires-2 g t c =
    let s = c.recall.new.self.store in
    let t1 = c.exchange.new.engine.store in
    let a = moved g t (goal.at.exchange-requires-2 g t c).In_default-recall in
    let high = IsChild-grows s t1 c.in_ok-low.ensures.call.keeps.grows c.args.to_next c.args.f c.in-Some.node.level c.in-Some.node.high (child s c.args.to_next c.args.f (triple_of c.in-Some.node) a true) in
    let pairs : levels_of t1 % 2 ≡ 0 = ap (λ l. l % 2) c.in_ok-low.ensures.call.keeps.grows.levels ∙ a.pairs in
    search (rules, high.smaller, high.has, pairs, high.parity)

-- what both calls added leaves room for one more triple
room : (g : _) (t : _) (c : In_ok-low g t) → IsMoved c.recall.new.self.store c.args.to_next c.args.f (triple_of c.in-Some.node) → (n : ℕ) → IsWithin c.in-Some.node.high (n + 1) c.exchange.new.engine.store → IsWithin c.args.f (n + 2) c.args.engine.now.store
room g t c a n h =
    subst (IsWithin c.args.f (n + 2)) c.recall.ensures.store
    (both-within c.recall.new.self.store c.exchange.new.engine.store c.in_ok-low.ensures.call.keeps.grows c.args.to_next c.args.f (triple_of c.in-Some.node) a n c.in_ok-low.ensures.count h)

pub returns-in_err-high-clause-count : goal.returns-in_err-high-clause-count
returns-in_err-high-clause-count g t c =
    let at = goal.at.returns-in_err-high-clause-count g t c in
    omega (arith, room g t at.In_ok-low (moved g t at.In_default-recall) (length (triples c.exchange-2.new.engine.store)) c.in_err-high.ensures.count)

pub neighbour-requires-clause-next : goal.neighbour-requires-clause-next
neighbour-requires-clause-next g t c =
    let s = c.recall.new.self.store in
    let a = moved g t (goal.at.neighbour-requires-clause-next g t c).In_default-recall in
    omega (arith, (s.good.each c.args.f (triple_of c.in-Some.node) a.node).inside, s.few_levels)

pub neighbour-requires-clause-earlier : goal.neighbour-requires-clause-earlier
neighbour-requires-clause-earlier g t c =
    neighbour-some c.recall.new.self.store c.args.to_next c.args.f (triple_of c.in-Some.node) (moved g t (goal.at.neighbour-requires-clause-earlier g t c).In_default-recall)

pub make-requires-clause-level : goal.make-requires-clause-level
make-requires-clause-level g t c =
    let at = goal.at.make-requires-clause-level g t c in
    omega (arith, (answered g t at.In_ok-high (moved g t at.In_default-recall)).there, c.neighbour.ensures)

-- the answer of a child lies deeper than the neighbour
deeper : (g : _) (t : _) (c : In_ok-high g t) → IsMoved c.recall.new.self.store c.args.to_next c.args.f (triple_of c.in-Some.node) → (bit : Bool) (r : ℕ) → IsAnswer c.exchange-2.new.engine.store (lists_of c.exchange-2.new.engine) (Rename (cond bit c.in-Some.node.high c.in-Some.node.low) c.args.to_next) r
    → neighbour_of c.args.to_next c.in-Some.node.level < level_of c.exchange-2.new.engine.store r
deeper g t c m bit r h =
    let s = c.recall.new.self.store in
    let t2 = c.exchange-2.new.engine.store in
    let n = c.in-Some.node in
    let f = cond bit n.high n.low in
    let a = answered g t c m in
    deeper-answer t2 (lists_of c.exchange-2.new.engine) c.args.to_next c.args.f n.level f r a.there (neighbour-some s c.args.to_next c.args.f (triple_of n) m)
    (IsChild-grows s t2 a.grows c.args.to_next c.args.f n.level f (child s c.args.to_next c.args.f (triple_of n) m bit)) h

pub make-requires-clause-low_deeper : goal.make-requires-clause-low_deeper
make-requires-clause-low_deeper g t c =
    let at = goal.at.make-requires-clause-low_deeper g t c in
    let m = moved g t at.In_default-recall in
    omega (arith, c.neighbour.ensures, deeper g t at.In_ok-high m false c.in_ok-low.low (answered g t at.In_ok-high m).low)

pub make-requires-clause-high_deeper : goal.make-requires-clause-high_deeper
make-requires-clause-high_deeper g t c =
    let at = goal.at.make-requires-clause-high_deeper g t c in
    omega (arith, c.neighbour.ensures, deeper g t at.In_ok-high (moved g t at.In_default-recall) true c.in_ok-high.high c.in_ok-high.ensures.answer)

pub returns-in_err-made-clause-count : goal.returns-in_err-made-clause-count
returns-in_err-made-clause-count g t c =
    let at = goal.at.returns-in_err-made-clause-count g t c in
    omega (arith, room g t at.In_ok-low (moved g t at.In_default-recall) (length (triples c.exchange-2.new.engine.store)) c.in_ok-high.ensures.count, c.in_err-made.ensures.one_more)

pub remember-requires : goal.remember-requires
remember-requires g t c = let at = goal.at.remember-requires g t c in whole g t at.In_ok-made (moved g t at.In_default-recall)

pub returns-clause-answer : goal.returns-clause-answer
returns-clause-answer g t c =
    let at = goal.at.returns-clause-answer g t c in
    let key = Rename c.args.f c.args.to_next in
    subst (λ x. IsAnswer x (lists_of c.remember.new.self) key c.in_ok-made.made) (sym c.remember.ensures.store)
    (subst (λ l. IsAnswer c.make.new.self.store l key c.in_ok-made.made) (sym c.remember.ensures.lists) (whole g t at.In_ok-made (moved g t at.In_default-recall)))

pub returns-clause-false_stays : goal.returns-clause-false_stays
returns-clause-false_stays g t c = λ e.
    let zero = false-stays c.make.new.self.store c.neighbour.result c.in_ok-low.low c.in_ok-high.high c.in_ok-made.made c.in_ok-made.ensures.node e in
    ap triples c.remember.ensures.store ∙ c.in_ok-made.ensures.equal_stays (zero.0 ∙ sym zero.1) ∙ c.in_ok-high.ensures.false_stays zero.1 ∙ c.in_ok-low.ensures.false_stays zero.0 ∙ ap triples c.recall.ensures.store

pub returns-clause-count : goal.returns-clause-count
returns-clause-count g t c =
    let at = goal.at.returns-clause-count g t c in
    omega (arith, room g t at.In_ok-low (moved g t at.In_default-recall) (length (triples c.exchange-2.new.engine.store)) c.in_ok-high.ensures.count, c.in_ok-made.ensures.one_more, ap (λ x. length (triples x)) c.remember.ensures.store)

-- what the engine kept before and after each call
recall_keeps : (g : _) (t : _) (c : After-recall g t) → KeepsEngine c.args.engine.now c.recall.new.self
recall_keeps g t c = KeepsEngine-store _ _ c.recall.ensures.store c.recall.ensures.lists c.recall.ensures.capacity (omega (arith, c.recall.ensures.refused))

sides_keep : (g : _) (t : _) (c : After-exchange-2 g t) → KeepsEngine c.args.engine.now c.recall.new.self → KeepsEngine c.args.engine.now c.exchange-2.new.engine
sides_keep g t c first = KeepsEngine-then _ _ _ (KeepsEngine-then _ _ _ first c.exchange.ensures.call.keeps) c.exchange-2.ensures.call.keeps

made_keeps : (g : _) (t : _) (c : After-make g t) → KeepsEngine c.args.engine.now c.exchange-2.new.engine → KeepsEngine c.args.engine.now c.make.new.self
made_keeps g t c both = KeepsEngine-then _ _ _ both (KeepsEngine-made _ _ c.make.ensures.grows c.make.ensures.lists c.make.ensures.cache c.make.ensures.refused)

pub returns-in-Some-recall-clause-call : goal.returns-in-Some-recall-clause-call
returns-in-Some-recall-clause-call g t c = record { keeps = recall_keeps g t (goal.at.returns-in-Some-recall-clause-call g t c).After-recall; held = search rules }

pub returns-in_err-low-clause-call : goal.returns-in_err-low-clause-call
returns-in_err-low-clause-call g t c = record { keeps = KeepsEngine-then _ _ _ (recall_keeps g t (goal.at.returns-in_err-low-clause-call g t c).After-recall) c.exchange.ensures.call.keeps; held = search rules }

pub returns-in_err-high-clause-call : goal.returns-in_err-high-clause-call
returns-in_err-high-clause-call g t c = record {
  keeps = let at = goal.at.returns-in_err-high-clause-call g t c in
      sides_keep g t at.After-exchange-2 (recall_keeps g t at.After-recall);
  held = search rules;
}

pub returns-in_err-made-clause-call : goal.returns-in_err-made-clause-call
returns-in_err-made-clause-call g t c = record {
  keeps = let at = goal.at.returns-in_err-made-clause-call g t c in
      made_keeps g t at.After-make (sides_keep g t at.After-exchange-2 (recall_keeps g t at.After-recall));
  held = search rules;
}

pub returns-clause-call : goal.returns-clause-call
returns-clause-call g t c = record {
  keeps = let at = goal.at.returns-clause-call g t c in
      KeepsEngine-then _ _ _ (made_keeps g t at.After-make (sides_keep g t at.After-exchange-2 (recall_keeps g t at.After-recall)))
      (KeepsEngine-store _ _ c.remember.ensures.store c.remember.ensures.lists c.remember.ensures.capacity c.remember.ensures.refused);
  held = search rules;
}
