use Rattle.std.proofs.Common.{◌≡◌, [], ◌∷◌, ◌++◌, refl, sym, ◌∙◌, ap, append-nil, append_assoc}
use Rattle.region_sets.proofs.Slots.{is_one_of-right, is_one_of-first}
use Rattle.region_sets.proofs.Changes.{adds_nothing, adds_after}
use Rattle.region_sets.proofs.Released.{still_live}
use Rattle.strong_fair.specs.Pinned.{row_slots}
use Rattle.strong_fair.proofs.RowLists.{rows_append}
use Rattle.strong_fair.proofs.certificate.release_rows.Goals as goal

pub loop-row-init : goal.loop-row-init
loop-row-init g c = ([], sym (append-nil (row_slots c.args.rows.items)), adds_nothing _, refl)

pub release-requires : goal.release-requires
release-requires g c =
    let i = c.loop-row.invariant in
    let popped : row_slots c.loop-row.rows.items ≡ row_slots c.pop.new.self.items ++ (c.in-Some.row.set.slot ∷ []) = ap row_slots c.in-Some.ensures.items ∙ rows_append _ _ in
    still_live _ _ _ _ _ _ c.requires.live c.requires.once (i.1 ∙ ap (λ ks. ks ++ i.0) popped) i.2 (is_one_of-right _ (row_slots c.pop.new.self.items) _ (is_one_of-first _ []))

pub loop-row-preserved : goal.loop-row-preserved
loop-row-preserved g c =
    let i = c.loop-row.invariant in
    let popped : row_slots c.loop-row.rows.items ≡ row_slots c.pop.new.self.items ++ (c.in-Some.row.set.slot ∷ []) = ap row_slots c.in-Some.ensures.items ∙ rows_append _ _ in (
      c.in-Some.row.set.slot ∷ i.0,
      i.1 ∙ ap (λ ks. ks ++ i.0) popped ∙ append_assoc (row_slots c.pop.new.self.items) (c.in-Some.row.set.slot ∷ []) i.0,
      adds_after c.release.ensures.pins i.2,
      c.release.ensures.fulls ∙ i.3,
    )
