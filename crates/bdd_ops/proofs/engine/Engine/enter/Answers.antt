use Rattle.std.proofs.Common.{ℕ, inl, inr, [], ◌∷◌, refl, rules}
use Rattle.std.proofs.lemmas.List.Elements.{Contains-append_left, Contains-append_right}
use Rattle.std.proofs.lemmas.List.Sorted.{Contains-permutation}
use Rattle.answer_memo.specs.Memo.{entries_in}
use Rattle.answer_memo.proofs.Fits.{absent-within}
use Rattle.bdd_ops.specs.declared.key.Key.{Key}
use Rattle.bdd_ops.specs.Answer.{IsAnswer}
use Rattle.bdd_ops.specs.Engine.{lists_of, entries_of}
use Rattle.bdd_ops.proofs.Memo.{same_key, entries-put, found-new, fresh-comes}
use Rattle.bdd_ops.proofs.engine.Engine.enter.Goals as goal

pub invariant_of-self-clause-true_entries : goal.invariant_of-self-clause-true_entries
invariant_of-self-clause-true_entries c =
    let s = c.args.self.now in
    entries-put (IsAnswer s.store (lists_of s)) (entries_of s) (entries_in c.insert.new.self) c.args.key c.args.answer c.insert.ensures.others s.true_entries c.requires.answer

pub invariant_of-self-in-Err-clause-true_entries : goal.invariant_of-self-in-Err-clause-true_entries
invariant_of-self-in-Err-clause-true_entries c =
    let s = c.args.self.now in
    entries-put (IsAnswer s.store (lists_of s)) (entries_of s) (entries_in c.insert.new.self) c.args.key c.args.answer c.insert.ensures.others s.true_entries c.requires.answer

pub returns-in-Ok : goal.returns-in-Ok
returns-in-Ok c =
    let s = c.args.self.now in
    let m = c.insert.new.self in
    let e : Key × ℕ = (c.args.key, c.args.answer) in
    let here = fresh-comes s.memo.fresh m.fresh s.memo.cap e c.in-Ok.ensures.fresh c.in-Ok.ensures.full in
    record {
      remembered = record {
        outcome = inl (found-new (entries_of s) (entries_in m) c.args.key c.args.answer (Contains-append_left m.fresh m.old e here) c.insert.ensures.others c.requires.absent, refl);
        others = c.insert.ensures.others;
        kept = λ less k r held. Contains-permutation (e ∷ s.memo.fresh) m.fresh (k, r) (c.in-Ok.ensures.fresh less) (Contains-append_right (e ∷ []) s.memo.fresh (k, r) held);
        refused = search rules;
        store = refl;
        lists = refl;
        capacity = c.insert.ensures.capacity;
      };
      fresh = λ same last less. c.in-Ok.ensures.fresh less;
    }

pub returns-in-Err : goal.returns-in-Err
returns-in-Err c =
    let s = c.args.self.now in
    record {
      remembered = record {
        outcome = inr (absent-within (same_key c.args.key) (entries_in c.insert.new.self) (entries_of s) c.in-Err.ensures.err_within c.requires.absent, search rules);
        others = c.insert.ensures.others;
        kept = search rules;
        refused = search rules;
        store = refl;
        lists = refl;
        capacity = c.insert.ensures.capacity;
      };
      fresh = search rules;
    }
