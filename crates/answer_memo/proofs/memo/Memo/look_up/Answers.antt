use Rattle.std.proofs.Common.{false, sym, ◌∙◌, ap, length, ◌≡◌, slice_get}
use Rattle.std.specs.Map.{lookup}
use Rattle.std.proofs.lemmas.Bool.{eqb-true}
use Rattle.std.proofs.lemmas.List.{nil_from_length}
use Rattle.answer_memo.specs.Memo.{entries_in}
use Rattle.answer_memo.specs.Slots.{slot_value, may_rest}
use Rattle.answer_memo.specs.Place.{place}
use Rattle.answer_memo.proofs.Fits.{found-slot, found-rest, found-none}
use Rattle.answer_memo.proofs.memo.Memo.look_up.Goals as goal

pub returns-in-Some : goal.returns-in-Some
returns-in-Some g c =
    let s = c.self.inside in
    let eq = g.K.PartialEq.eq in
    let at : c.place_of-at.result ≡ place (g.K.Hash.hash_input c.args.key.now) (length s.slots.items) = c.place_of-at.ensures.place ∙ ap (place (g.K.Hash.hash_input c.args.key.now)) (c.len.ensures ∙ s.slots.ok.0) in
    let here = sym (c.value_at.ensures ∙ ap (λ xs. slot_value (eq c.args.key.now) (slice_get xs c.place_of-at.result)) c.as_slice.ensures.value) ∙ c.in-Some.is in
    sym (found-slot eq g.K.Hash.hash_input s.slots.items s.filled s.rest s.round s.fresh s.capacity c.self.invariant g.met.K.Eq.laws g.met.K.Hash.respects_eq c.args.key.now c.place_of-at.result at c.in-Some.value here)
    ∙ ap (λ m. lookup (eq c.args.key.now) (entries_in m)) c.self.view_is

pub returns-then-not-is_shared : goal.returns-then-not-is_shared
returns-then-not-is_shared g c =
    let s = c.self.inside in
    let eq = g.K.PartialEq.eq in
    let at : c.place_of-at.result ≡ place (g.K.Hash.hash_input c.args.key.now) (length s.slots.items) = c.place_of-at.ensures.place ∙ ap (place (g.K.Hash.hash_input c.args.key.now)) (c.len.ensures ∙ s.slots.ok.0) in
    let here = sym (c.value_at.ensures ∙ ap (λ xs. slot_value (eq c.args.key.now) (slice_get xs c.place_of-at.result)) c.as_slice.ensures.value) ∙ c.in_default.is in
    let told : may_rest (slice_get s.slots.items c.place_of-at.result) ≡ false = sym (c.is_shared.ensures ∙ ap (λ xs. may_rest (slice_get xs c.place_of-at.result)) c.as_slice-2.ensures.value) ∙ c.if-not-is_shared.true in
    sym (found-rest eq g.K.Hash.hash_input s.slots.items s.filled s.rest s.round s.fresh s.capacity c.self.invariant g.met.K.Eq.laws g.met.K.Hash.respects_eq c.args.key.now c.place_of-at.result at here
    ∙ found-none eq g.K.Hash.hash_input s.slots.items s.filled s.rest s.round s.fresh s.capacity c.self.invariant g.met.K.Eq.laws g.met.K.Hash.respects_eq c.args.key.now c.place_of-at.result at told)
    ∙ ap (λ m. lookup (eq c.args.key.now) (entries_in m)) c.self.view_is

pub returns-then-is_empty : goal.returns-then-is_empty
returns-then-is_empty g c =
    let s = c.self.inside in
    let eq = g.K.PartialEq.eq in
    let at : c.place_of-at.result ≡ place (g.K.Hash.hash_input c.args.key.now) (length s.slots.items) = c.place_of-at.ensures.place ∙ ap (place (g.K.Hash.hash_input c.args.key.now)) (c.len.ensures ∙ s.slots.ok.0) in
    let here = sym (c.value_at.ensures ∙ ap (λ xs. slot_value (eq c.args.key.now) (slice_get xs c.place_of-at.result)) c.as_slice.ensures.value) ∙ c.in_default.is in
    let empty = nil_from_length s.rest.entries (eqb-true (length s.rest.entries) 0 (sym c.is_empty.ensures ∙ c.if-is_empty.true)) in
    sym (found-rest eq g.K.Hash.hash_input s.slots.items s.filled s.rest s.round s.fresh s.capacity c.self.invariant g.met.K.Eq.laws g.met.K.Hash.respects_eq c.args.key.now c.place_of-at.result at here ∙ ap (lookup (eq c.args.key.now)) empty)
    ∙ ap (λ m. lookup (eq c.args.key.now) (entries_in m)) c.self.view_is

pub returns : goal.returns
returns g c =
    let s = c.self.inside in
    let eq = g.K.PartialEq.eq in
    let at : c.place_of-at.result ≡ place (g.K.Hash.hash_input c.args.key.now) (length s.slots.items) = c.place_of-at.ensures.place ∙ ap (place (g.K.Hash.hash_input c.args.key.now)) (c.len.ensures ∙ s.slots.ok.0) in
    let here = sym (c.value_at.ensures ∙ ap (λ xs. slot_value (eq c.args.key.now) (slice_get xs c.place_of-at.result)) c.as_slice.ensures.value) ∙ c.in_default.is in
    c.copied.ensures ∙ c.peek.ensures ∙ sym (found-rest eq g.K.Hash.hash_input s.slots.items s.filled s.rest s.round s.fresh s.capacity c.self.invariant g.met.K.Eq.laws g.met.K.Hash.respects_eq c.args.key.now c.place_of-at.result at here)
    ∙ ap (λ m. lookup (eq c.args.key.now) (entries_in m)) c.self.view_is
