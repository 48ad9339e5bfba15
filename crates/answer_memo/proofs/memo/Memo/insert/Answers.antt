use Rattle.std.proofs.Common.{false, sym, refl, ◌∙◌, ap, subst, ◌≡◌, ◌<◌, ◌+◌, inr, ◌∷◌, ◌++◌, length, slice_set, if◌then◌else◌, Contains, Result, Ok, Err, OnErr, arith}
use Rattle.std.specs.List.Sorted.{IsPermutation}
use Rattle.std.proofs.lemmas.Option.{slice_get_read}
use Rattle.answer_memo.specs.declared.memo.Held.{Held}
use Rattle.answer_memo.specs.declared.memo.Slot.TheVariants.{Full}
use Rattle.answer_memo.specs.Memo.{entries_in}
use Rattle.answer_memo.specs.Place.{place}
use Rattle.answer_memo.specs.Slots.{is_full, IsFit, of_round, of_others}
use Rattle.answer_memo.proofs.Slots.{no-slots}
use Rattle.answer_memo.proofs.Fits.{IsFit-length, absent-within}
use Rattle.answer_memo.proofs.Inserts.{rest-absent, slot-apart, rest-others, others-then, insert-permutation, insert-others, IsFit-insert, IsFit-rest}
use Rattle.answer_memo.proofs.memo.Memo.insert.Goals as goal

-- a fact holds on an error whatever the result is
on_err : {A E : Type 0} (Q : Type 0) (r : Result A E) → Q → OnErr r Q
on_err Q (Ok x) h = tt
on_err Q (Err e) h = h

pub set_aside-requires-clause-apart : goal.set_aside-requires-clause-apart
set_aside-requires-clause-apart g c =
    let s = c.self.inside in
    let eq = g.K.PartialEq.eq in
    let input = g.K.Hash.hash_input in
    let new : Held g.row.K.Denot g.row.V.Denot = record { key = c.args.key; value = c.args.value; round = s.round; shared = false } in
    let sub = λ (k : g.row.K.Denot) (v : g.row.V.Denot) (m : Contains (of_round s.round s.slots.items ++ s.rest.entries ++ of_others s.round s.slots.items) (k, v)). c.renew.ensures.within k v (c.make_room.ensures.within k v (subst (λ x. Contains (entries_in x) (k, v)) c.self.view_is m)) in
    let absent = absent-within (eq c.args.key) (of_round s.round s.slots.items ++ s.rest.entries ++ of_others s.round s.slots.items) (entries_in c.args.self.now) sub c.requires in
    rest-absent (eq c.args.key) s.round s.slots.items s.rest.entries absent

pub returns-in_err-set_aside-clause-others : goal.returns-in_err-set_aside-clause-others
returns-in_err-set_aside-clause-others g c =
    let s = c.self.inside in
    let eq = g.K.PartialEq.eq in
    let input = g.K.Hash.hash_input in
    let new : Held g.row.K.Denot g.row.V.Denot = record { key = c.args.key; value = c.args.value; round = s.round; shared = false } in
    let sub = λ (k : g.row.K.Denot) (v : g.row.V.Denot) (m : Contains (of_round s.round s.slots.items ++ s.rest.entries ++ of_others s.round s.slots.items) (k, v)). c.renew.ensures.within k v (c.make_room.ensures.within k v (subst (λ x. Contains (entries_in x) (k, v)) c.self.view_is m)) in
    λ k v m. inr (sub k v (subst (λ r. Contains (of_round s.round s.slots.items ++ r.entries ++ of_others s.round s.slots.items) (k, v)) c.in_err-set_aside.ensures.err m))

pub returns-in_err-set_aside-clause-err_within : goal.returns-in_err-set_aside-clause-err_within
returns-in_err-set_aside-clause-err_within g c =
    let s = c.self.inside in
    let eq = g.K.PartialEq.eq in
    let input = g.K.Hash.hash_input in
    let new : Held g.row.K.Denot g.row.V.Denot = record { key = c.args.key; value = c.args.value; round = s.round; shared = false } in
    let sub = λ (k : g.row.K.Denot) (v : g.row.V.Denot) (m : Contains (of_round s.round s.slots.items ++ s.rest.entries ++ of_others s.round s.slots.items) (k, v)). c.renew.ensures.within k v (c.make_room.ensures.within k v (subst (λ x. Contains (entries_in x) (k, v)) c.self.view_is m)) in
    let within : (k : g.row.K.Denot) (v : g.row.V.Denot) → Contains (of_round s.round s.slots.items ++ c.set_aside.new.rest.entries ++ of_others s.round s.slots.items) (k, v) → Contains (entries_in c.args.self.now) (k, v) = λ k v m. sub k v (subst (λ r. Contains (of_round s.round s.slots.items ++ r.entries ++ of_others s.round s.slots.items) (k, v)) c.in_err-set_aside.ensures.err m) in
    on_err _ _ within

pub returns-in_err-newly-clause-err_within : goal.returns-in_err-newly-clause-err_within
returns-in_err-newly-clause-err_within g c =
    let s = c.self.inside in
    let eq = g.K.PartialEq.eq in
    let input = g.K.Hash.hash_input in
    let new : Held g.row.K.Denot g.row.V.Denot = record { key = c.args.key; value = c.args.value; round = s.round; shared = false } in
    let sub = λ (k : g.row.K.Denot) (v : g.row.V.Denot) (m : Contains (of_round s.round s.slots.items ++ s.rest.entries ++ of_others s.round s.slots.items) (k, v)). c.renew.ensures.within k v (c.make_room.ensures.within k v (subst (λ x. Contains (entries_in x) (k, v)) c.self.view_is m)) in
    let within : (k : g.row.K.Denot) (v : g.row.V.Denot) → Contains (of_round s.round s.slots.items ++ c.settle.new.rest.entries ++ of_others s.round s.slots.items) (k, v) → Contains (entries_in c.args.self.now) (k, v) = λ k v m. sub k v (subst (λ r. Contains (of_round s.round s.slots.items ++ r.entries ++ of_others s.round s.slots.items) (k, v)) c.in_err-newly.ensures.err m) in
    on_err _ _ within

pub invariant_of-self-then-at-len : goal.invariant_of-self-then-at-len
invariant_of-self-then-at-len g c =
    let s = c.self.inside in
    let eq = g.K.PartialEq.eq in
    let input = g.K.Hash.hash_input in
    let new : Held g.row.K.Denot g.row.V.Denot = record { key = c.args.key; value = c.args.value; round = s.round; shared = false } in
    let sub = λ (k : g.row.K.Denot) (v : g.row.V.Denot) (m : Contains (of_round s.round s.slots.items ++ s.rest.entries ++ of_others s.round s.slots.items) (k, v)). c.renew.ensures.within k v (c.make_room.ensures.within k v (subst (λ x. Contains (entries_in x) (k, v)) c.self.view_is m)) in
    let absent = absent-within (eq c.args.key) (of_round s.round s.slots.items ++ s.rest.entries ++ of_others s.round s.slots.items) (entries_in c.args.self.now) sub c.requires in
    let room : s.filled + length s.rest.entries < s.capacity = omega (arith, IsFit-length eq input s.slots.items s.filled s.rest s.round s.fresh s.capacity c.self.invariant, c.make_room.ensures.room, ap (λ m. length (entries_in m)) c.self.view_is, ap (λ m. m.cap) c.self.view_is) in
    let none : length s.slots.items ≡ 0 = omega (arith, no-slots c.len.result c.place_of-at.result c.place_of-at.ensures.within (omega (arith, c.if-at-len.true, c.len.ensures, c.len-2.ensures)), c.len.ensures, s.slots.ok) in
    subst (λ r. IsFit eq input s.slots.items s.filled r s.round (s.fresh + 1) s.capacity) (sym c.in_ok-set_aside.ensures.ok)
    (IsFit-rest eq input s.slots.items s.filled s.rest s.round s.fresh s.capacity c.self.invariant g.met.K.Eq.laws g.met.K.Hash.respects_eq new refl absent room none)

pub returns-then-at-len-clause-others : goal.returns-then-at-len-clause-others
returns-then-at-len-clause-others g c =
    let s = c.self.inside in
    let eq = g.K.PartialEq.eq in
    let input = g.K.Hash.hash_input in
    let new : Held g.row.K.Denot g.row.V.Denot = record { key = c.args.key; value = c.args.value; round = s.round; shared = false } in
    let sub = λ (k : g.row.K.Denot) (v : g.row.V.Denot) (m : Contains (of_round s.round s.slots.items ++ s.rest.entries ++ of_others s.round s.slots.items) (k, v)). c.renew.ensures.within k v (c.make_room.ensures.within k v (subst (λ x. Contains (entries_in x) (k, v)) c.self.view_is m)) in
    λ k v m. others-then k c.args.key v c.args.value (of_round s.round s.slots.items ++ s.rest.entries ++ of_others s.round s.slots.items) (entries_in c.args.self.now) (sub k v) (rest-others s.slots.items c.args.key c.args.value s.round s.rest.entries k v (subst (λ r. Contains (of_round s.round s.slots.items ++ r.entries ++ of_others s.round s.slots.items) (k, v)) c.in_ok-set_aside.ensures.ok m))

pub settle-requires-clause-apart : goal.settle-requires-clause-apart
settle-requires-clause-apart g c =
    let s = c.self.inside in
    let eq = g.K.PartialEq.eq in
    let input = g.K.Hash.hash_input in
    let inside : c.place_of-at.result < length s.slots.items = omega (arith, c.if-at-len.false, c.len-2.ensures, s.slots.ok) in
    let here = slice_get_read s.slots.items (length s.slots.items) c.place_of-at.result c.index-slot.result.now refl inside c.index-slot.ensures in
    slot-apart eq input s.slots.items s.filled s.rest s.round s.fresh s.capacity c.self.invariant c.place_of-at.result c.index-slot.result.now here

pub returns-in_err-newly-clause-others : goal.returns-in_err-newly-clause-others
returns-in_err-newly-clause-others g c =
    let s = c.self.inside in
    let eq = g.K.PartialEq.eq in
    let input = g.K.Hash.hash_input in
    let new : Held g.row.K.Denot g.row.V.Denot = record { key = c.args.key; value = c.args.value; round = s.round; shared = false } in
    let sub = λ (k : g.row.K.Denot) (v : g.row.V.Denot) (m : Contains (of_round s.round s.slots.items ++ s.rest.entries ++ of_others s.round s.slots.items) (k, v)). c.renew.ensures.within k v (c.make_room.ensures.within k v (subst (λ x. Contains (entries_in x) (k, v)) c.self.view_is m)) in
    λ k v m. inr (sub k v (subst (λ r. Contains (of_round s.round s.slots.items ++ r.entries ++ of_others s.round s.slots.items) (k, v)) c.in_err-newly.ensures.err m))

pub invariant_of-self-2 : goal.invariant_of-self-2
invariant_of-self-2 g c =
    let s = c.self.inside in
    let eq = g.K.PartialEq.eq in
    let input = g.K.Hash.hash_input in
    let new : Held g.row.K.Denot g.row.V.Denot = record { key = c.args.key; value = c.args.value; round = s.round; shared = c.is_of.result } in
    let sub = λ (k : g.row.K.Denot) (v : g.row.V.Denot) (m : Contains (of_round s.round s.slots.items ++ s.rest.entries ++ of_others s.round s.slots.items) (k, v)). c.renew.ensures.within k v (c.make_room.ensures.within k v (subst (λ x. Contains (entries_in x) (k, v)) c.self.view_is m)) in
    let absent = absent-within (eq c.args.key) (of_round s.round s.slots.items ++ s.rest.entries ++ of_others s.round s.slots.items) (entries_in c.args.self.now) sub c.requires in
    let room : s.filled + length s.rest.entries < s.capacity = omega (arith, IsFit-length eq input s.slots.items s.filled s.rest s.round s.fresh s.capacity c.self.invariant, c.make_room.ensures.room, ap (λ m. length (entries_in m)) c.self.view_is, ap (λ m. m.cap) c.self.view_is) in
    let at : c.place_of-at.result ≡ place (input c.args.key) (length s.slots.items) = c.place_of-at.ensures.place ∙ ap (place (input c.args.key)) (c.len.ensures ∙ s.slots.ok.0) in
    let inside : c.place_of-at.result < length s.slots.items = omega (arith, c.if-at-len.false, c.len-2.ensures, s.slots.ok) in
    let here = slice_get_read s.slots.items (length s.slots.items) c.place_of-at.result c.index-slot.result.now refl inside c.index-slot.ensures in
    let fit = subst (λ n. IsFit eq input (slice_set s.slots.items c.place_of-at.result (Full new)) (s.filled + n) c.settle.new.rest s.round (s.fresh + 1) s.capacity) (sym c.in_ok-newly.ensures.empty)
    (subst (λ r. IsFit eq input (slice_set s.slots.items c.place_of-at.result (Full new)) (s.filled + (if is_full c.index-slot.result.now then 0 else 1)) r s.round (s.fresh + 1) s.capacity) (sym c.in_ok-newly.ensures.rest)
    (IsFit-insert eq input s.slots.items s.filled s.rest s.round s.fresh s.capacity c.self.invariant g.met.K.Eq.laws g.met.K.Hash.respects_eq new refl absent room c.place_of-at.result at c.index-slot.result.now here c.is_of.ensures)) in
    fit

pub returns-clause-fresh : goal.returns-clause-fresh
returns-clause-fresh g c =
    let s = c.self.inside in
    let eq = g.K.PartialEq.eq in
    let input = g.K.Hash.hash_input in
    let new : Held g.row.K.Denot g.row.V.Denot = record { key = c.args.key; value = c.args.value; round = s.round; shared = c.is_of.result } in
    let sub = λ (k : g.row.K.Denot) (v : g.row.V.Denot) (m : Contains (of_round s.round s.slots.items ++ s.rest.entries ++ of_others s.round s.slots.items) (k, v)). c.renew.ensures.within k v (c.make_room.ensures.within k v (subst (λ x. Contains (entries_in x) (k, v)) c.self.view_is m)) in
    let at : c.place_of-at.result ≡ place (input c.args.key) (length s.slots.items) = c.place_of-at.ensures.place ∙ ap (place (input c.args.key)) (c.len.ensures ∙ s.slots.ok.0) in
    let inside : c.place_of-at.result < length s.slots.items = omega (arith, c.if-at-len.false, c.len-2.ensures, s.slots.ok) in
    let here = slice_get_read s.slots.items (length s.slots.items) c.place_of-at.result c.index-slot.result.now refl inside c.index-slot.ensures in
    let moved = insert-permutation s.slots.items c.place_of-at.result c.index-slot.result.now new s.round s.rest.entries here refl in
    let whole = subst (λ r. IsPermutation ((c.args.key, c.args.value) ∷ (of_round s.round s.slots.items ++ s.rest.entries)) (of_round s.round (slice_set s.slots.items c.place_of-at.result (Full new)) ++ r.entries)) (sym c.in_ok-newly.ensures.rest) moved in
    λ less. subst (λ es. IsPermutation ((c.args.key, c.args.value) ∷ es) (of_round s.round (slice_set s.slots.items c.place_of-at.result (Full new)) ++ c.settle.new.rest.entries)) (ap (λ m. m.fresh) c.self.view_is ∙ c.make_room.ensures.fresh ∙ ap (λ m. m.fresh) (c.renew.ensures.kept less)) whole

pub returns-clause-full : goal.returns-clause-full
returns-clause-full g c =
    let s = c.self.inside in
    let eq = g.K.PartialEq.eq in
    let input = g.K.Hash.hash_input in
    let new : Held g.row.K.Denot g.row.V.Denot = record { key = c.args.key; value = c.args.value; round = s.round; shared = c.is_of.result } in
    let sub = λ (k : g.row.K.Denot) (v : g.row.V.Denot) (m : Contains (of_round s.round s.slots.items ++ s.rest.entries ++ of_others s.round s.slots.items) (k, v)). c.renew.ensures.within k v (c.make_room.ensures.within k v (subst (λ x. Contains (entries_in x) (k, v)) c.self.view_is m)) in
    let at : c.place_of-at.result ≡ place (input c.args.key) (length s.slots.items) = c.place_of-at.ensures.place ∙ ap (place (input c.args.key)) (c.len.ensures ∙ s.slots.ok.0) in
    let inside : c.place_of-at.result < length s.slots.items = omega (arith, c.if-at-len.false, c.len-2.ensures, s.slots.ok) in
    let here = slice_get_read s.slots.items (length s.slots.items) c.place_of-at.result c.index-slot.result.now refl inside c.index-slot.ensures in
    let moved = insert-permutation s.slots.items c.place_of-at.result c.index-slot.result.now new s.round s.rest.entries here refl in
    let whole = subst (λ r. IsPermutation ((c.args.key, c.args.value) ∷ (of_round s.round s.slots.items ++ s.rest.entries)) (of_round s.round (slice_set s.slots.items c.place_of-at.result (Full new)) ++ r.entries)) (sym c.in_ok-newly.ensures.rest) moved in
    λ full. subst (λ es. IsPermutation ((c.args.key, c.args.value) ∷ es) (of_round s.round (slice_set s.slots.items c.place_of-at.result (Full new)) ++ c.settle.new.rest.entries)) (ap (λ m. m.fresh) c.self.view_is ∙ c.make_room.ensures.fresh ∙ c.renew.ensures.full full) whole

pub returns-clause-others : goal.returns-clause-others
returns-clause-others g c =
    let s = c.self.inside in
    let eq = g.K.PartialEq.eq in
    let input = g.K.Hash.hash_input in
    let new : Held g.row.K.Denot g.row.V.Denot = record { key = c.args.key; value = c.args.value; round = s.round; shared = c.is_of.result } in
    let sub = λ (k : g.row.K.Denot) (v : g.row.V.Denot) (m : Contains (of_round s.round s.slots.items ++ s.rest.entries ++ of_others s.round s.slots.items) (k, v)). c.renew.ensures.within k v (c.make_room.ensures.within k v (subst (λ x. Contains (entries_in x) (k, v)) c.self.view_is m)) in
    let at : c.place_of-at.result ≡ place (input c.args.key) (length s.slots.items) = c.place_of-at.ensures.place ∙ ap (place (input c.args.key)) (c.len.ensures ∙ s.slots.ok.0) in
    let inside : c.place_of-at.result < length s.slots.items = omega (arith, c.if-at-len.false, c.len-2.ensures, s.slots.ok) in
    let here = slice_get_read s.slots.items (length s.slots.items) c.place_of-at.result c.index-slot.result.now refl inside c.index-slot.ensures in
    λ k v m. others-then k c.args.key v c.args.value (of_round s.round s.slots.items ++ s.rest.entries ++ of_others s.round s.slots.items) (entries_in c.args.self.now) (sub k v) (insert-others s.slots.items c.place_of-at.result c.index-slot.result.now new s.round s.rest.entries here k v (subst (λ r. Contains (of_round s.round (slice_set s.slots.items c.place_of-at.result (Full new)) ++ r.entries ++ of_others s.round (slice_set s.slots.items c.place_of-at.result (Full new))) (k, v)) c.in_ok-newly.ensures.rest m))

pub returns-clause-few : goal.returns-clause-few
returns-clause-few g c =
    let s = c.self.inside in
    let eq = g.K.PartialEq.eq in
    let input = g.K.Hash.hash_input in
    let new : Held g.row.K.Denot g.row.V.Denot = record { key = c.args.key; value = c.args.value; round = s.round; shared = c.is_of.result } in
    let sub = λ (k : g.row.K.Denot) (v : g.row.V.Denot) (m : Contains (of_round s.round s.slots.items ++ s.rest.entries ++ of_others s.round s.slots.items) (k, v)). c.renew.ensures.within k v (c.make_room.ensures.within k v (subst (λ x. Contains (entries_in x) (k, v)) c.self.view_is m)) in
    let absent = absent-within (eq c.args.key) (of_round s.round s.slots.items ++ s.rest.entries ++ of_others s.round s.slots.items) (entries_in c.args.self.now) sub c.requires in
    let room : s.filled + length s.rest.entries < s.capacity = omega (arith, IsFit-length eq input s.slots.items s.filled s.rest s.round s.fresh s.capacity c.self.invariant, c.make_room.ensures.room, ap (λ m. length (entries_in m)) c.self.view_is, ap (λ m. m.cap) c.self.view_is) in
    let at : c.place_of-at.result ≡ place (input c.args.key) (length s.slots.items) = c.place_of-at.ensures.place ∙ ap (place (input c.args.key)) (c.len.ensures ∙ s.slots.ok.0) in
    let inside : c.place_of-at.result < length s.slots.items = omega (arith, c.if-at-len.false, c.len-2.ensures, s.slots.ok) in
    let here = slice_get_read s.slots.items (length s.slots.items) c.place_of-at.result c.index-slot.result.now refl inside c.index-slot.ensures in
    let fit = subst (λ n. IsFit eq input (slice_set s.slots.items c.place_of-at.result (Full new)) (s.filled + n) c.settle.new.rest s.round (s.fresh + 1) s.capacity) (sym c.in_ok-newly.ensures.empty)
    (subst (λ r. IsFit eq input (slice_set s.slots.items c.place_of-at.result (Full new)) (s.filled + (if is_full c.index-slot.result.now then 0 else 1)) r s.round (s.fresh + 1) s.capacity) (sym c.in_ok-newly.ensures.rest)
    (IsFit-insert eq input s.slots.items s.filled s.rest s.round s.fresh s.capacity c.self.invariant g.met.K.Eq.laws g.met.K.Hash.respects_eq new refl absent room c.place_of-at.result at c.index-slot.result.now here c.is_of.ensures)) in
    omega (arith, fit.room, IsFit-length eq input (slice_set s.slots.items c.place_of-at.result (Full new)) (s.filled + c.in_ok-newly.newly) c.settle.new.rest s.round (s.fresh + 1) s.capacity fit)
