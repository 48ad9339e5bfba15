use Rattle.std.proofs.Common.{◌≡◌, refl, sym, ◌∙◌, ap, subst, ℕ, ◌+◌, ◌<◌, ◌≤◌, arith, List, [], ◌∷◌, ◌++◌, length, map, flat_map, get_or, append-nil, Some}
use Rattle.std.specs.Prelude.{slice_get, IfOk}
use Rattle.std.specs.List.{cons_option}
use Rattle.std.proofs.lemmas.Option.{slice_get_read, slice_get_within, same_Some, get_or_from_slice_get}
use Rattle.std.proofs.lemmas.List.{length-map}
use Rattle.smv_instances.specs.Program.{Program}
use Rattle.smv_instances.specs.Plain.{plain_type}
use Rattle.smv_instances.specs.Entries.{Entry, entries}
use Rattle.smv_instances.specs.Instances.{Scope, module_of, instances, symbols, entry_variables}
use Rattle.smv_instances.specs.Numbered.{plain_entity, plain_entry}
use Rattle.smv_instances.proofs.RowLemmas.{row_at, table_at, within_tables}
use Rattle.smv_instantiate.specs.Bodies.{IsEntry, inner_variables}
use Rattle.smv_instantiate.specs.Types.{AreNamed}
use Rattle.smv_instantiate.proofs.BodyLemmas.{variables_of_body}
use Rattle.smv_instantiate.proofs.DeclaredLemmas.{few_symbols}
use Rattle.smv_instantiate.proofs.TypeSteps.{taken_all}
use Rattle.smv_instantiate.proofs.Members.{slice_in}
use Rattle.smv_instantiate.proofs.BodySteps.{read_mapped, type_written, type_named, child_there, child_noted, child_front, stored_variables, declared_variables, inner_more, entry_more, count_more}
use Rattle.smv_instantiate.proofs.bodies.+bodies.Goals as goal

-- ---- a body

pub push_body-index-table-requires : goal.push_body-index-table-requires
push_body-index-table-requires t c =
    let b = c.requires.2 in
    let at = slice_get_within (instances c.requires.0) c.args.number c.requires.1 c.requires.3 in
    let within : c.args.number < length c.args.rows.now = omega (arith, at, b.are.lengths) in
    let row = row_at c.args.modules.now c.args.rows.now (instances c.requires.0) c.args.number c.index-rows-number.result c.requires.1 b.are within c.index-rows-number.is c.requires.3 in
    let below : c.index-rows-number.result.table < length c.args.modules.now.tables.items = within_tables _ _ _ row.table in
    omega (arith, below, c.args.modules.now.tables.ok.0)

pub push_body-loop-entry-init : goal.push_body-loop-entry-init
push_body-loop-entry-init t c = λ p s b at.
    let lt = slice_get_within (instances p) c.args.number s at in
    let within : c.args.number < length c.args.rows.now = omega (arith, lt, b.are.lengths) in
    let row = row_at c.args.modules.now c.args.rows.now (instances p) c.args.number c.index-rows-number.result s b.are within c.index-rows-number.is at in
    let table = table_at _ _ _ c.index-table.result.now row.table c.index-table.ensures in (
      ap (map plain_entry) c.deref-entry-items.ensures.value ∙ table.declares,
      refl,
      λ e. sym (append-nil c.args.variables.now.items),
    )

pub push_body-push_entry-requires : goal.push_body-push_entry-requires
push_body-push_entry-requires t c =
    let p = c.requires.0 in let s = c.requires.1 in let b = c.requires.2 in
    let known = c.loop-entry.invariant p s b c.requires.3 in
    let lt = slice_get_within (instances p) c.args.number s c.requires.3 in
    let within : c.args.number < length c.args.rows.now = omega (arith, lt, b.are.lengths) in (
      omega (arith, c.decreases),
      (
        within,
        (
          p,
          s,
          b,
          c.requires.3,
          record {
            k = c.loop-entry.entry-index;
            stands = read_mapped plain_entry c.deref-entry-items.result.now (entries (module_of s)) c.loop-entry.entry-index c.entry-item.result known.0 c.loop-entry-test.true c.entry-item.is;
            after = known.1;
          },
        ),
      ),
    )

-- the entry that the loop has come to
next_entry : (p : Program) (s : Scope) (items : List Entry) (k : ℕ) (e : Entry) → items ≡ entries (module_of s) → slice_get (entries (module_of s)) k ≡ Some e → (k < length (entries (module_of s))) × (get_or (entries (module_of s)) k e ≡ e)
next_entry p s items k e is at = (slice_get_within (entries (module_of s)) k e at, get_or_from_slice_get (entries (module_of s)) k e e at)

pub push_body-loop-entry-preserved : goal.push_body-loop-entry-preserved
push_body-loop-entry-preserved t c = λ p s b at.
    let known = c.loop-entry.invariant p s b at in
    let e = plain_entry c.entry-item.result in
    let k = c.loop-entry.entry-index in
    let stands = read_mapped plain_entry c.deref-entry-items.result.now (entries (module_of s)) k c.entry-item.result known.0 c.loop-entry-test.true c.entry-item.is in
    let next = next_entry p s (map plain_entry c.deref-entry-items.result.now) k e known.0 stands in
    let entry : IsEntry p s e c.loop-entry.before = record { k = k; stands = stands; after = known.1 } in (
      known.0,
      count_more p s k e c.loop-entry.before c.in_ok-before.before next.0 next.1 known.1 (c.in_ok-before.ensures.count p s b at entry),
      λ is. entry_more p c.args.left s k e c.args.variables.now.items c.loop-entry.variables.items c.push_entry.new.variables.items next.0 next.1 (known.2 is) (c.in_ok-before.ensures.added p s b at entry is),
    )

pub push_body-returns : goal.push_body-returns
push_body-returns t c = λ p s b at is.
    let known = c.loop-entry.invariant p s b at in
    let all : length (entries (module_of s)) ≤ c.loop-entry.entry-index = omega (arith, c.loop-entry-test.false, ap length known.0, length-map c.deref-entry-items.result.now plain_entry) in
    known.2 is
    ∙ ap (λ es. c.args.variables.now.items ++ flat_map (entry_variables p (inner_variables p c.args.left) s) es) (taken_all (entries (module_of s)) c.loop-entry.entry-index all)
    ∙ ap (λ vs. c.args.variables.now.items ++ vs) (sym (variables_of_body p c.args.left s))

-- ---- an entry

pub push_entry-push_variables-requires-clause-written : goal.push_entry-push_variables-requires-clause-written
push_entry-push_variables-requires-clause-written t c =
    let h = c.requires.entry in
    type_written h.0 h.2.silent h.2.written h.1 (slice_in _ _ _ h.3) (plain_entry c.args.entry.now) (slice_in _ h.4.k _ h.4.stands) (plain_type c.in-Stored.plain.now) (ap plain_entity c.in-Stored.is)

pub push_entry-push_variables-requires-clause-named : goal.push_entry-push_variables-requires-clause-named
push_entry-push_variables-requires-clause-named t c =
    let h = c.requires.entry in
    subst (λ names. AreNamed names (plain_type c.in-Stored.plain.now)) (sym h.2.named)
    (type_named h.0 h.2.silent h.2.written h.1 (slice_in _ _ _ h.3) (plain_entry c.args.entry.now) (slice_in _ h.4.k _ h.4.stands) (plain_type c.in-Stored.plain.now) (ap plain_entity c.in-Stored.is))

pub push_entry-push_variables-requires-clause-few : goal.push_entry-push_variables-requires-clause-few
push_entry-push_variables-requires-clause-few t c =
    let h = c.requires.entry in
    let few : length (symbols h.0) ≤ 262144 = few_symbols h.0 h.2.silent h.2.written in
    let same : length c.args.symbols.now ≡ length (symbols h.0) = ap length h.2.named in
    omega (arith, few, same)

-- the instance that the entry declares
pub push_entry-index-inside-requires : goal.push_entry-index-inside-requires
push_entry-index-inside-requires t c =
    let h = c.requires.entry in
    let d = child_there h.0 h.2.silent h.2.written h.1 (slice_in _ _ _ h.3) (plain_entry c.args.entry.now) (slice_in _ h.4.k _ h.4.stands) _ _ _ (ap plain_entity c.in-Instance.is) in
    let r = child_noted h.0 c.args.rows.now c.args.number c.index-rows-number.result h.1 (plain_entry c.args.entry.now) c.args.before d.0 h.2.linked (slice_get_read c.args.rows.now _ c.args.number _ refl c.requires.within c.index-rows-number.is) h.3 h.4 d.1 in
    let within : c.args.before < length c.index-rows-number.result.children.items = slice_get_within _ _ _ r.1 in
    omega (arith, within, c.index-rows-number.result.children.ok.0)

pub push_entry-push_inside-requires : goal.push_entry-push_inside-requires
push_entry-push_inside-requires t c =
    let h = c.requires.entry in
    let d = child_there h.0 h.2.silent h.2.written h.1 (slice_in _ _ _ h.3) (plain_entry c.args.entry.now) (slice_in _ h.4.k _ h.4.stands) _ _ _ (ap plain_entity c.in-Instance.is) in
    let r = child_noted h.0 c.args.rows.now c.args.number c.index-rows-number.result h.1 (plain_entry c.args.entry.now) c.args.before d.0 h.2.linked (slice_get_read c.args.rows.now _ c.args.number _ refl c.requires.within c.index-rows-number.is) h.3 h.4 d.1 in
    let within : c.args.before < length c.index-rows-number.result.children.items = slice_get_within _ _ _ r.1 in
    let same : r.0 ≡ c.index-inside.result.now = same_Some _ _ (sym r.1 ∙ slice_get_read c.index-rows-number.result.children.items _ c.args.before _ refl within c.index-inside.ensures) in
    (omega (arith, c.decreases), (h.0, d.0, h.2, subst (λ n. slice_get (instances h.0) n ≡ Some d.0) same r.2))

pub push_entry-overflow_add-result : goal.push_entry-overflow_add-result
push_entry-overflow_add-result t c =
    let h = c.requires.entry in
    let d = child_there h.0 h.2.silent h.2.written h.1 (slice_in _ _ _ h.3) (plain_entry c.args.entry.now) (slice_in _ h.4.k _ h.4.stands) _ _ _ (ap plain_entity c.in-Instance.is) in
    let r = child_noted h.0 c.args.rows.now c.args.number c.index-rows-number.result h.1 (plain_entry c.args.entry.now) c.args.before d.0 h.2.linked (slice_get_read c.args.rows.now _ c.args.number _ refl c.requires.within c.index-rows-number.is) h.3 h.4 d.1 in
    let within : c.args.before < length c.index-rows-number.result.children.items = slice_get_within _ _ _ r.1 in
    omega (arith, within, c.index-rows-number.result.children.ok.0, c.index-rows-number.result.children.small)

pub push_entry-returns-in_ok-push_variables-in-Stored-clause-added : goal.push_entry-returns-in_ok-push_variables-in-Stored-clause-added
push_entry-returns-in_ok-push_variables-in-Stored-clause-added t c = λ p s b at entry is.
    let old = c.args.variables.now.items in
    let inner = inner_variables p c.args.left in
    let e = c.args.entry.now in
    let type = plain_type c.in-Stored.plain.now in
    c.in_ok-push_variables-in-Stored.ensures
    ∙ ap (λ vs. old ++ vs) (stored_variables p inner s e.name.now e.line type c.args.symbols.now _ c.args.front.now b.named is (c.in_ok-name-in-Stored.ensures ∙ ap (λ z. z ++ e.name.now) c.as_str.ensures)
    ∙ ap (λ z. entry_variables p inner s (record { name = e.name.now; line = e.line; entity = z })) (sym (ap plain_entity c.in-Stored.is)))

pub push_entry-returns-in_ok-push_inside-in-Instance-clause-count : goal.push_entry-returns-in_ok-push_inside-in-Instance-clause-count
push_entry-returns-in_ok-push_inside-in-Instance-clause-count t c = λ p s b at entry.
    let d = child_there p b.silent b.written s (slice_in _ _ _ at) (plain_entry c.args.entry.now) (slice_in _ entry.k _ entry.stands) _ _ _ (ap plain_entity c.in-Instance.is) in
    ap (λ o. c.args.before + length (cons_option o [])) (sym d.1)

pub push_entry-returns-in_ok-push_inside-in-Instance-clause-added : goal.push_entry-returns-in_ok-push_inside-in-Instance-clause-added
push_entry-returns-in_ok-push_inside-in-Instance-clause-added t c = λ p s b at entry is.
    let d = child_there p b.silent b.written s (slice_in _ _ _ at) (plain_entry c.args.entry.now) (slice_in _ entry.k _ entry.stands) _ _ _ (ap plain_entity c.in-Instance.is) in
    let r = child_noted p c.args.rows.now c.args.number c.index-rows-number.result s (plain_entry c.args.entry.now) c.args.before d.0 b.linked (slice_get_read c.args.rows.now _ c.args.number _ refl c.requires.within c.index-rows-number.is) at entry d.1 in
    let within : c.args.before < length c.index-rows-number.result.children.items = slice_get_within _ _ _ r.1 in
    let same : r.0 ≡ c.index-inside.result.now = same_Some _ _ (sym r.1 ∙ slice_get_read c.index-rows-number.result.children.items _ c.args.before _ refl within c.index-inside.ensures) in
    c.in_ok-push_inside-in-Instance.ensures p d.0 b (subst (λ n. slice_get (instances p) n ≡ Some d.0) same r.2) (child_front p s (plain_entry c.args.entry.now) d.0 c.args.front.now d.1 is)
    ∙ ap (λ vs. c.args.variables.now.items ++ vs) (declared_variables p (inner_variables p c.args.left) s (plain_entry c.args.entry.now) _ _ _ d.0 (ap plain_entity c.in-Instance.is) d.1)

-- ---- an instance inside

pub push_inside-returns : goal.push_inside-returns
push_inside-returns t c = λ p s b at is.
    let begins = c.new-inner.ensures ∙ c.in_ok-inner_front.ensures ∙ ap (λ z. z ++ c.args.name.now ++ (46 ∷ [])) c.as_str.ensures ∙ sym is in
    subst (λ vs. IfOk c.push_body.result (λ x. c.push_body.new.variables.items ≡ c.args.variables.now.items ++ vs)) (inner_more p c.args.left s (omega arith)) (c.push_body.ensures p s b at begins)
