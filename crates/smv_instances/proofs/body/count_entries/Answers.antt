use Rattle.std.proofs.Common.{◌≡◌, refl, sym, ◌∙◌, ap, subst, ◌<◌, arith, [], ◌∷◌, ◌++◌, Bool, false, length, map, take, get_or, append_assoc, append-nil, inl, inr, ⊎_elim, IsTrue}
use Rattle.std.proofs.lemmas.Result.{err_from_is_err_and}
use Rattle.kripke_model.specs.Refusing.{Silent, First}
use Rattle.std.proofs.lemmas.List.{length-map, take_more}
use Rattle.smv_instances.specs.Declarations.{IsSecondMain, declaration, entries_of}
use Rattle.smv_instances.specs.Counting.{IsCounts}
use Rattle.smv_instances.specs.Numbered.{plain_entry}
use Rattle.smv_instances.proofs.ListSteps.{take_whole}
use Rattle.smv_instances.proofs.TableLemmas.{get_or-map}
use Rattle.smv_instances.proofs.RowLemmas.{row_at}
use Rattle.smv_instances.proofs.BodyLemmas.{not_again, silent_entry, silent_more, refused_at, refused_entry}
use Rattle.smv_instances.proofs.body.count_entries.Goals as goal

not_held : (b : Bool) → b ≡ false → IsTrue b → ⊥
not_held b f t = cc

pub loop-entry-init : goal.loop-entry-init
loop-entry-init c = λ p done before s mods rows at counts fresh.
    (subst (λ es. IsCounts c.args.counts.now es) (sym (append-nil (entries_of before))) counts, λ r h. h)

pub returns-then-is_second_main : goal.returns-then-is_second_main
returns-then-is_second_main c = λ p done before s mods rows at counts fresh.
    let es = map plain_entry c.args.entries.now in
    let i = c.loop-entry.entry-index in
    let e = plain_entry c.entry-item.result in
    let lt : i < length es = omega (arith, length-map c.args.entries.now plain_entry) in
    let here : get_or es i e ≡ e = get_or-map plain_entry c.args.entries.now i c.entry-item.result e (omega arith) ∙ ap plain_entry (sym c.entry-item.is) in
    let row = row_at c.args.modules.now c.args.rows.now done c.args.number c.index-rows-number.result s rows c.requires.inside.2 c.index-rows-number.is at in
    let known = c.loop-entry.invariant p done before s mods rows at counts fresh in
    inr (refused_at p before s es i e _ lt here known.1 (inl (refl, inr ((c.is_second_main.ensures done c.args.number s row.step).0 c.if-is_second_main.true))))

pub returns-in_err-so_far : goal.returns-in_err-so_far
returns-in_err-so_far c = λ p done before s mods rows at counts fresh.
    let es = map plain_entry c.args.entries.now in
    let i = c.loop-entry.entry-index in
    let e = plain_entry c.entry-item.result in
    let lt : i < length es = omega (arith, length-map c.args.entries.now plain_entry) in
    let here : get_or es i e ≡ e = get_or-map plain_entry c.args.entries.now i c.entry-item.result e (omega arith) ∙ ap plain_entry (sym c.entry-item.is) in
    let row = row_at c.args.modules.now c.args.rows.now done c.args.number c.index-rows-number.result s rows c.requires.inside.2 c.index-rows-number.is at in
    let known = c.loop-entry.invariant p done before s mods rows at counts fresh in
    let other : IsSecondMain s e → ⊥ = λ h. not_held _ c.if-is_second_main.false ((c.is_second_main.ensures done c.args.number s row.step).1 h) in
    let q = err_from_is_err_and c.from_residual.result c.from_residual.ensures.1 in
    rw (q.1, q.2)
    (⊎_elim (λ memory. inl memory) (λ refused. inr (refused_at p before s es i e _ lt here known.1 (refused_entry p before s (take i es) e _ (not_again es i e fresh lt here) other refused))) (c.in_err-so_far.ensures p done s (entries_of before ++ take i es) mods rows at known.0))

pub loop-entry-preserved : goal.loop-entry-preserved
loop-entry-preserved c = λ p done before s mods rows at counts fresh.
    let es = map plain_entry c.args.entries.now in
    let i = c.loop-entry.entry-index in
    let e = plain_entry c.entry-item.result in
    let lt : i < length es = omega (arith, length-map c.args.entries.now plain_entry) in
    let here : get_or es i e ≡ e = get_or-map plain_entry c.args.entries.now i c.entry-item.result e (omega arith) ∙ ap plain_entry (sym c.entry-item.is) in
    let row = row_at c.args.modules.now c.args.rows.now done c.args.number c.index-rows-number.result s rows c.requires.inside.2 c.index-rows-number.is at in
    let known = c.loop-entry.invariant p done before s mods rows at counts fresh in
    let other : IsSecondMain s e → ⊥ = λ h. not_held _ c.if-is_second_main.false ((c.is_second_main.ensures done c.args.number s row.step).1 h) in
    let counted = c.in_ok-so_far.ensures p done s (entries_of before ++ take i es) mods rows at known.0 in (
      subst (λ ds. IsCounts c.in_ok-so_far.so_far ds) (append_assoc (entries_of before) (take i es) (e ∷ []) ∙ ap (λ ds. entries_of before ++ ds) (sym (take_more es i e lt ∙ ap (λ d. take i es ++ (d ∷ [])) here))) counted.0,
      silent_more p before s es i e lt here known.1 (silent_entry p before s (take i es) e (not_again es i e fresh lt here) other counted.1),
    )

pub returns : goal.returns
returns c = λ p done before s mods rows at counts fresh.
    let es = map plain_entry c.args.entries.now in
    let i = c.loop-entry.entry-index in
    let known = c.loop-entry.invariant p done before s mods rows at counts fresh in
    let whole : take i es ≡ es = take_whole es i (omega (arith, length-map c.args.entries.now plain_entry)) in
    (subst (λ ds. IsCounts c.loop-entry.so_far (entries_of before ++ ds)) whole known.0, subst (λ ds. Silent (First (declaration p before s) [] ds)) whole known.1)
