use Rattle.std.proofs.Common.{◌≡◌, ℕ, refl, sym, ◌∙◌, ap, subst, ◌<◌, ◌≤◌, arith, List, [], ◌++◌, true, length, map, take, drop, get_or, inl, inr, ⊎_elim}
use Rattle.std.specs.List.{list_any}
use Rattle.std.specs.Str.{bytes_eq}
use Rattle.std.proofs.lemmas.List.{length-map, take-append-drop}
use Rattle.std.proofs.lemmas.Result.{err_from_is_err_and}
use Rattle.kripke_model.specs.Refusing.{Silent, First}
use Rattle.smv_instances.specs.Entries.{Entry, entries}
use Rattle.smv_instances.specs.Instances.{module_of}
use Rattle.smv_instances.specs.Declarations.{declaration, entries_of}
use Rattle.smv_instances.specs.Counting.{IsCounts}
use Rattle.smv_instances.specs.Numbered.{plain_entry}
use Rattle.smv_instances.specs.Tables.{IsFresh}
use Rattle.smv_instances.proofs.ListSteps.{take_whole}
use Rattle.smv_instances.proofs.FirstSteps.{first_front}
use Rattle.smv_instances.proofs.TableLemmas.{get_or-map, map-take, length_take, front_short}
use Rattle.smv_instances.proofs.RowLemmas.{row_at, scope_of, within_tables, table_at}
use Rattle.smv_instances.proofs.BodyLemmas.{test_again, refused_at, entries_push}
use Rattle.smv_instances.proofs.body.check_body.Goals as goal

pub index-table-requires : goal.index-table-requires
index-table-requires c =
    let r = c.requires.inside in
    let scope = scope_of c.args.modules.now c.args.rows.now r.0 c.args.number r.1 r.2 in
    let row = row_at c.args.modules.now c.args.rows.now r.0 c.args.number c.index-rows-number.result scope.0 r.1 r.2 c.index-rows-number.is scope.1 in
    let within : c.index-rows-number.result.table < length c.args.modules.now.tables.items = within_tables _ _ _ row.table in
    omega (arith, within, c.args.modules.now.tables.ok.0)

pub slice_bounds-count_entries-end : goal.slice_bounds-count_entries-end
slice_bounds-count_entries-end c =
    let r = c.requires.inside in
    let scope = scope_of c.args.modules.now c.args.rows.now r.0 c.args.number r.1 r.2 in
    let row = row_at c.args.modules.now c.args.rows.now r.0 c.args.number c.index-rows-number.result scope.0 r.1 r.2 c.index-rows-number.is scope.1 in
    let table = table_at _ _ _ c.index-table.result.now row.table c.index-table.ensures in
    let es = entries (module_of scope.0) in
    let short : length c.index-table.result.now.names ≤ length (map (λ (e : Entry). e.name) es) = front_short _ _ table.front in
    let size : length c.deref.result.now ≡ length es = ap length c.deref.ensures.value ∙ sym (length-map c.index-table.result.now.entries.items plain_entry) ∙ ap length table.declares in
    sym (length_take c.len-fresh.result c.deref.result.now (omega (arith, short, size, c.len-fresh.ensures, length-map es (λ (e : Entry). e.name))))

prefix_names : (es : List Entry) (n : ℕ) → map (λ (e : Entry). e.name) (take n es) ≡ take n (map (λ (e : Entry). e.name) es)
prefix_names es n = sym (map-take (λ (e : Entry). e.name) n es)

pub returns-in_err-counts : goal.returns-in_err-counts
returns-in_err-counts c = λ p done before s mods rows at counts.
    let row = row_at c.args.modules.now c.args.rows.now done c.args.number c.index-rows-number.result s rows c.requires.inside.2 c.index-rows-number.is at in
    let table = table_at _ _ _ c.index-table.result.now row.table c.index-table.ensures in
    let es = entries (module_of s) in
    let n = c.len-fresh.result in
    let prefix : map plain_entry (take n c.deref.result.now) ≡ take n es = sym (map-take plain_entry n c.deref.result.now) ∙ ap (λ xs. take n (map plain_entry xs)) c.deref.ensures.value ∙ ap (take n) table.declares in
    let fresh : IsFresh (map (λ (e : Entry). e.name) (map plain_entry (take n c.deref.result.now))) = subst IsFresh (table.front.begins ∙ ap (λ k. take k (map (λ (e : Entry). e.name) es)) (sym c.len-fresh.ensures) ∙ sym (prefix_names es n) ∙ ap (map (λ (e : Entry). e.name)) (sym prefix)) table.front.distinct in
    let q = err_from_is_err_and c.from_residual.result c.from_residual.ensures.1 in
    rw (q.1, q.2)
    (⊎_elim (λ memory. inl memory) (λ refused. inr (subst (λ xs. First (declaration p before s) [] xs c.in_err-counts.field-0.0) (ap (λ xs. xs ++ drop n es) prefix ∙ take-append-drop n es) (first_front (declaration p before s) [] (map plain_entry (take n c.deref.result.now)) (drop n es) _ refused))) (c.in_err-counts.ensures p done before s mods rows at counts fresh))

pub returns-in-Some : goal.returns-in-Some
returns-in-Some c = λ p done before s mods rows at counts.
    let row = row_at c.args.modules.now c.args.rows.now done c.args.number c.index-rows-number.result s rows c.requires.inside.2 c.index-rows-number.is at in
    let table = table_at _ _ _ c.index-table.result.now row.table c.index-table.ensures in
    let es = entries (module_of s) in
    let items = c.index-table.result.now.entries.items in
    let n = c.len-fresh.result in
    let prefix : map plain_entry (take n c.deref.result.now) ≡ take n es = sym (map-take plain_entry n c.deref.result.now) ∙ ap (λ xs. take n (map plain_entry xs)) c.deref.ensures.value ∙ ap (take n) table.declares in
    let fresh : IsFresh (map (λ (e : Entry). e.name) (map plain_entry (take n c.deref.result.now))) = subst IsFresh (table.front.begins ∙ ap (λ k. take k (map (λ (e : Entry). e.name) es)) (sym c.len-fresh.ensures) ∙ sym (prefix_names es n) ∙ ap (map (λ (e : Entry). e.name)) (sym prefix)) table.front.distinct in
    let known = c.in_ok-counts.ensures p done before s mods rows at counts fresh in
    let entry = c.in-Some.entry.now in
    let e = plain_entry entry in
    let lt : n < length items = omega (arith, c.in-Some.ensures.lookup.3.0, ap length c.deref-2.ensures.value) in
    let below : n < length es = omega (arith, lt, length-map items plain_entry, ap length table.declares) in
    let is : entry ≡ get_or items n entry = c.in-Some.ensures.lookup.1 ∙ ap (λ xs. get_or xs n entry) c.deref-2.ensures.value in
    let here : get_or es n e ≡ e = ap (λ xs. get_or xs n e) (sym table.declares) ∙ get_or-map plain_entry items n entry e lt ∙ ap plain_entry (sym is) in
    let front : c.index-table.result.now.names ≡ map (λ (e : Entry). e.name) (take n es) = table.front.begins ∙ ap (λ k. take k (map (λ (e : Entry). e.name) es)) (sym c.len-fresh.ensures) ∙ sym (prefix_names es n) in
    let again : list_any (bytes_eq e.name) (map (λ (e : Entry). e.name) (take n es)) ≡ true =
    ap (list_any (bytes_eq e.name)) (sym front)
    ∙ ap (λ x. list_any (bytes_eq x) c.index-table.result.now.names) (sym (ap (λ k. get_or (map (λ (e : Entry). e.name) es) k e.name) (sym c.len-fresh.ensures) ∙ get_or-map (λ (e : Entry). e.name) es n e e.name below ∙ ap (λ (e : Entry). e.name) here))
    ∙ table.front.ends e.name (omega (arith, below, c.len-fresh.ensures, length-map es (λ (e : Entry). e.name))) in
    inr (refused_at p before s es n e _ below here (subst (λ ds. Silent (First (declaration p before s) [] ds)) prefix known.1) (inl (refl, inl (test_again (take n es) e again))))

pub returns-in-None : goal.returns-in-None
returns-in-None c = λ p done before s mods rows at counts.
    let row = row_at c.args.modules.now c.args.rows.now done c.args.number c.index-rows-number.result s rows c.requires.inside.2 c.index-rows-number.is at in
    let table = table_at _ _ _ c.index-table.result.now row.table c.index-table.ensures in
    let es = entries (module_of s) in
    let items = c.index-table.result.now.entries.items in
    let n = c.len-fresh.result in
    let prefix : map plain_entry (take n c.deref.result.now) ≡ take n es = sym (map-take plain_entry n c.deref.result.now) ∙ ap (λ xs. take n (map plain_entry xs)) c.deref.ensures.value ∙ ap (take n) table.declares in
    let fresh : IsFresh (map (λ (e : Entry). e.name) (map plain_entry (take n c.deref.result.now))) = subst IsFresh (table.front.begins ∙ ap (λ k. take k (map (λ (e : Entry). e.name) es)) (sym c.len-fresh.ensures) ∙ sym (prefix_names es n) ∙ ap (map (λ (e : Entry). e.name)) (sym prefix)) table.front.distinct in
    let known = c.in_ok-counts.ensures p done before s mods rows at counts fresh in
    let whole : map plain_entry (take n c.deref.result.now) ≡ es = prefix ∙ take_whole es n (omega (arith, c.in-None.ensures.lookup.3, ap length c.deref-2.ensures.value, length-map items plain_entry, ap length table.declares)) in (
      subst (λ ds. IsCounts c.in_ok-counts.counts ds) (ap (λ ds. entries_of before ++ ds) whole ∙ sym (entries_push before s)) known.0,
      subst (λ ds. Silent (First (declaration p before s) [] ds)) whole known.1,
    )
