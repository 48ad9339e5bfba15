use Rattle.std.proofs.Common.{◌≡◌, refl, sym, ◌∙◌, ap, subst, ℕ, ◌+◌, ◌-◌, ◌<◌, arith, List, [], ◌∷◌, ◌++◌, length, map, flat_map, take, get_or, length-append, append_assoc, Some, inl, inr, ⊎_elim}
use Rattle.std.specs.Prelude.{slice_get}
use Rattle.std.specs.List.{filter_map, AllZip}
use Rattle.std.proofs.lemmas.Result.{err_from_is_err_and}
use Rattle.std.proofs.lemmas.Option.{slice_get_within}
use Rattle.std.proofs.lemmas.List.{length-map, take-append-le}
use Rattle.kripke_model.specs.Refusing.{Silent, First}
use Rattle.smv_instances.specs.declared.counts.Counts.{Counts}
use Rattle.smv_instances.specs.declared.modules.Modules.{Modules}
use Rattle.smv_instances.specs.declared.rows.Row.{Row}
use Rattle.smv_instances.specs.declared.rows.Walk.{Walk}
use Rattle.smv_instances.specs.Program.{Program}
use Rattle.smv_instances.specs.Plain.{plain_expr}
use Rattle.smv_instances.specs.declared.rows.Step.{Step}
use Rattle.smv_instances.specs.Entries.{Entry, entries}
use Rattle.smv_instances.specs.Instances.{Scope, module_of, depth, child, children, instances_from}
use Rattle.smv_instances.specs.Declarations.{body, entries_of}
use Rattle.smv_instances.specs.Counting.{IsCounts}
use Rattle.smv_instances.specs.Numbered.{plain_entry}
use Rattle.smv_instances.specs.Walk.{AreRows, Begins, Enters, Goes, Leads, Visited, inside}
use Rattle.smv_instances.proofs.ListSteps.{take_whole}
use Rattle.smv_instances.proofs.TableLemmas.{get_or-map}
use Rattle.smv_instances.proofs.RowLemmas.{slice_get_seam, slice_get_left, row_at, table_at, within_tables}
use Rattle.smv_instances.proofs.WalkLemmas.{instances_inside}
use Rattle.smv_instances.proofs.InsideLemmas.{front_children, front_same, front_child, inside_at, inside_none, visited_none, visited_body, visited_child, refused_child, bottom_children}
use Rattle.smv_instances.proofs.walk.+walk.Goals as goal
use Rattle.smv_instances.proofs.walk.+walk.Goals.{visit_inside-in-Some+in_ok-child+in_ok-push, visit_inside-in_default}

seam_at : (before : List Scope) (s : Scope) (number : ℕ) → number ≡ length before → slice_get (before ++ (s ∷ [])) number ≡ Some s
seam_at before s number e = ap (slice_get (before ++ (s ∷ []))) e ∙ slice_get_seam before [] s

pub visit_body-returns-in_err-walk : goal.visit_body-returns-in_err-walk
visit_body-returns-in_err-walk t c = λ p before s begins.
    let q = err_from_is_err_and c.from_residual.result c.from_residual.ensures.1 in
    let answer = c.in_err-walk.ensures p (before ++ (s ∷ [])) before s begins.mods (subst (λ rs. AreRows c.args.modules.now rs (before ++ (s ∷ []))) (sym c.deref.ensures.value) begins.reaches.rows) (seam_at before s c.args.number begins.numbered) begins.reaches.counts in
    rw (q.1, q.2) (⊎_elim (λ memory. inl memory) (λ refused. inr (subst (λ xs. First (body p) before xs c.in_err-walk.field-0.0) (sym (instances_inside c.args.modules.now p c.args.left s)) (inl refused))) answer)

-- the body of s is counted, and those inside it come next
module _ (ms : Modules) (p : Program) (w : Walk) (before : List Scope) (s : Scope) (number left : ℕ) (begins : Begins ms p w before s number left) (counts : Counts) (counted : IsCounts counts (entries_of (before ++ (s ∷ [])))) (silent : Silent (body p before s)) where
  goes_on : Goes ms p (record w { counts = counts }) (before ++ (s ∷ [])) s number left
  goes_on = record {
    mods = begins.mods;
    reaches = record { rows = begins.reaches.rows; processes = begins.reaches.processes; counts = counted };
    numbered = seam_at before s number begins.numbered;
    deep = begins.deep;
    bottom = λ none. bottom_children p before s silent (omega (arith, begins.deep, none));
  }

pub visit_body-visit_inside-requires : goal.visit_body-visit_inside-requires
visit_body-visit_inside-requires t c =
    let p = c.requires.0 in let before = c.requires.1 in let s = c.requires.2 in let begins = c.requires.3 in
    let checked = c.in_ok-walk.ensures p (before ++ (s ∷ [])) before s begins.mods (subst (λ rs. AreRows c.args.modules.now rs (before ++ (s ∷ []))) (sym c.deref.ensures.value) begins.reaches.rows) (seam_at before s c.args.number begins.numbered) begins.reaches.counts in
    (omega (arith, c.decreases), (p, before ++ (s ∷ []), s, goes_on c.args.modules.now p c.args.walk.now before s c.args.number c.args.left begins c.in_ok-walk.field-0 checked.0 checked.1))

pub visit_body-returns-in_err-children : goal.visit_body-returns-in_err-children
visit_body-returns-in_err-children t c = λ p before s begins.
    let checked = c.in_ok-walk.ensures p (before ++ (s ∷ [])) before s begins.mods (subst (λ rs. AreRows c.args.modules.now rs (before ++ (s ∷ []))) (sym c.deref.ensures.value) begins.reaches.rows) (seam_at before s c.args.number begins.numbered) begins.reaches.counts in
    let goes = goes_on c.args.modules.now p c.args.walk.now before s c.args.number c.args.left begins c.in_ok-walk.field-0 checked.0 checked.1 in
    let q = err_from_is_err_and c.from_residual-in_err-children.result c.from_residual-in_err-children.ensures.1 in
    rw (q.1, q.2) (⊎_elim (λ memory. inl memory) (λ refused. inr (subst (λ xs. First (body p) before xs c.in_err-children.field-0.0) (sym (instances_inside c.args.modules.now p c.args.left s)) (inr (checked.1, refused)))) (c.in_err-children.ensures p (before ++ (s ∷ [])) s goes))

pub visit_body-set_children-requires : goal.visit_body-set_children-requires
visit_body-set_children-requires t c =
    let p = c.requires.0 in let before = c.requires.1 in let s = c.requires.2 in let begins = c.requires.3 in
    let checked = c.in_ok-walk.ensures p (before ++ (s ∷ [])) before s begins.mods (subst (λ rs. AreRows c.args.modules.now rs (before ++ (s ∷ []))) (sym c.deref.ensures.value) begins.reaches.rows) (seam_at before s c.args.number begins.numbered) begins.reaches.counts in
    let goes = goes_on c.args.modules.now p c.args.walk.now before s c.args.number c.args.left begins c.in_ok-walk.field-0 checked.0 checked.1 in
    let visited = c.in_ok-children.ensures p (before ++ (s ∷ [])) s goes in
    omega (arith, begins.numbered, visited.0.reaches.rows.lengths, length-append (before ++ (s ∷ [])) (inside p c.args.left s), length-append before (s ∷ []))

pub visit_body-returns : goal.visit_body-returns
visit_body-returns t c = λ p before s begins.
    let checked = c.in_ok-walk.ensures p (before ++ (s ∷ [])) before s begins.mods (subst (λ rs. AreRows c.args.modules.now rs (before ++ (s ∷ []))) (sym c.deref.ensures.value) begins.reaches.rows) (seam_at before s c.args.number begins.numbered) begins.reaches.counts in
    let goes = goes_on c.args.modules.now p c.args.walk.now before s c.args.number c.args.left begins c.in_ok-walk.field-0 checked.0 checked.1 in
    let visited = c.in_ok-children.ensures p (before ++ (s ∷ [])) s goes in
    let added = inside p c.args.left s in
    let mid : Walk = record { rows = c.args.walk.now.rows; processes = c.args.walk.now.processes; counts = c.in_ok-walk.field-0 } in
    let new : Walk = record { rows = c.set_children.new.rows; processes = c.visit_inside.new.walk.processes; counts = c.visit_inside.new.walk.counts } in
    subst (λ xs. Visited c.args.modules.now p c.args.walk.now new before xs (length before)) (sym (instances_inside c.args.modules.now p c.args.left s))
    (visited_body c.args.modules.now p c.args.walk.now mid c.visit_inside.new.walk new before added s c.args.number (λ (row : Row). record row { children = c.in_ok-children.children })
    (λ k row u is. record { table = is.table; depth_is = is.depth_is; process_is = is.process_is; step = is.step })
    (λ row. subst (λ xs. AllZip (λ n d. slice_get xs n ≡ Some d) c.in_ok-children.children.items (children p s)) (append_assoc before (s ∷ []) added) visited.1)
    begins.numbered refl checked.1 visited.0 c.set_children.ensures refl refl)

pub visit_child-visit_body-requires : goal.visit_child-visit_body-requires
visit_child-visit_body-requires t c =
    let p = c.requires.0 in let done = c.requires.1 in let s = c.requires.2 in let m = c.requires.3 in let enters = c.requires.4 in
    let deep : 32 - c.args.left ≡ depth s + 1 = omega (arith, enters.deep) in
    let adds = c.in_ok-number.ensures c.args.modules.now done done s m enters.reaches enters.numbered enters.stands deep in
    (omega (arith, c.decreases), (p, done, Scope.Inside s c.args.step.name.now c.args.step.process (map plain_expr c.args.step.actuals.now) m, record { mods = enters.mods; reaches = adds.reaches; numbered = adds.numbered; deep = enters.deep }))

pub visit_child-returns-in_err-visit_body : goal.visit_child-returns-in_err-visit_body
visit_child-returns-in_err-visit_body t c = λ p done s m enters.
    let deep : 32 - c.args.left ≡ depth s + 1 = omega (arith, enters.deep) in
    let adds = c.in_ok-number.ensures c.args.modules.now done done s m enters.reaches enters.numbered enters.stands deep in
    let q = err_from_is_err_and c.from_residual-in_err-visit_body.result c.from_residual-in_err-visit_body.ensures.1 in
    rw (q.1, q.2) (c.in_err-visit_body.ensures p done (Scope.Inside s c.args.step.name.now c.args.step.process (map plain_expr c.args.step.actuals.now) m) (record { mods = enters.mods; reaches = adds.reaches; numbered = adds.numbered; deep = enters.deep }))

pub visit_child-returns : goal.visit_child-returns
visit_child-returns t c = λ p done s m enters.
    let deep : 32 - c.args.left ≡ depth s + 1 = omega (arith, enters.deep) in
    let adds = c.in_ok-number.ensures c.args.modules.now done done s m enters.reaches enters.numbered enters.stands deep in
    let visited = c.in_ok-visit_body.ensures p done (Scope.Inside s c.args.step.name.now c.args.step.process (map plain_expr c.args.step.actuals.now) m) (record { mods = enters.mods; reaches = adds.reaches; numbered = adds.numbered; deep = enters.deep }) in
    let kept : take (length done) c.push_child.new.walk.rows.items ≡ take (length done) c.args.walk.now.rows.items = ap (take (length done)) adds.kept ∙ take-append-le (length done) c.args.walk.now.rows.items (adds.row ∷ []) (omega (arith, enters.reaches.rows.lengths)) in
    (adds.numbered, record { reaches = visited.reaches; linked = visited.linked; kept = visited.kept ∙ kept; silent = visited.silent })

pub visit_inside-returns-then-left-eq0 : goal.visit_inside-returns-then-left-eq0
visit_inside-returns-then-left-eq0 t c = λ p done s goes. (
  subst (λ xs. Visited c.args.modules.now p c.args.walk.now c.args.walk.now done xs (length done)) (sym (inside_none p c.args.left s c.if-left-eq0.true)) (visited_none c.args.modules.now p c.args.walk.now done goes.reaches),
  subst (λ ks. AllZip (λ n d. slice_get (done ++ inside p c.args.left s) n ≡ Some d) ks (children p s)) (sym c.new-children.ensures.items) (subst (λ cs. AllZip (λ n d. slice_get (done ++ inside p c.args.left s) n ≡ Some d) [] cs) (sym (goes.bottom c.if-left-eq0.true)) tt),
)

pub visit_inside-index-requires : goal.visit_inside-index-requires
visit_inside-index-requires t c =
    let goes = c.requires.3 in
    let within : c.args.number < length c.requires.1 = slice_get_within c.requires.1 c.args.number c.requires.2 goes.numbered in
    omega (arith, within, goes.reaches.rows.lengths, c.args.walk.now.rows.ok.0)

pub visit_inside-index-requires-2 : goal.visit_inside-index-requires-2
visit_inside-index-requires-2 t c =
    let goes = c.requires.3 in
    let within : c.args.number < length c.requires.1 = slice_get_within c.requires.1 c.args.number c.requires.2 goes.numbered in
    let row = row_at c.args.modules.now c.args.walk.now.rows.items c.requires.1 c.args.number c.index.result.now c.requires.2 goes.reaches.rows (omega (arith, within, goes.reaches.rows.lengths)) c.index.ensures goes.numbered in
    let below : c.index.result.now.table < length c.args.modules.now.tables.items = within_tables _ _ _ row.table in
    omega (arith, below, c.args.modules.now.tables.ok.0)

pub visit_inside-loop-entry-init : goal.visit_inside-loop-entry-init
visit_inside-loop-entry-init t c = λ p done s goes.
    let within : c.args.number < length done = slice_get_within done c.args.number s goes.numbered in
    let row = row_at c.args.modules.now c.args.walk.now.rows.items done c.args.number c.index.result.now s goes.reaches.rows (omega (arith, within, goes.reaches.rows.lengths)) c.index.ensures goes.numbered in
    let table = table_at _ _ _ c.index-2.result.now row.table c.index-2.ensures in (
      ap (map plain_entry) c.deref-entry-items.ensures.value ∙ table.declares,
      visited_none c.args.modules.now p c.args.walk.now done goes.reaches,
      subst (λ ks. AllZip (λ n d. slice_get (done ++ []) n ≡ Some d) ks []) (sym c.new-children.ensures.items) tt,
    )

-- an instance that s declares comes next
entering : (ms : Modules) (p : Program) (old w : Walk) (done added : List Scope) (s : Scope) (number left : ℕ) (e : Entry) (step : Step) (table : ℕ) → Goes ms p old done s number left → Visited ms p old w done added (length done) → (leads : Leads ms p s e number step table) → 0 < left → Enters ms p w (done ++ added) s leads.m step.around table (left - 1)
entering ms p old w done added s number left e step table goes visited leads some = record {
  mods = goes.mods;
  reaches = visited.reaches;
  numbered = ap (slice_get (done ++ added)) leads.from ∙ slice_get_left done added number s goes.numbered;
  stands = leads.stands;
  deep = omega (arith, goes.deep, some);
}

pub visit_inside-visit_child-requires : goal.visit_inside-visit_child-requires
visit_inside-visit_child-requires t c =
    let p = c.requires.0 in let done = c.requires.1 in let s = c.requires.2 in let goes = c.requires.3 in
    let known = c.loop-entry.invariant p done s goes in
    let leads = c.in-Some.ensures.some p s goes.mods in
    let added = flat_map (instances_from p (c.args.left - 1)) (front_children p s c.loop-entry.entry-index) in
    let some : 0 < c.args.left = omega arith in
    (omega (arith, c.decreases, some), (p, done ++ added, s, leads.m, entering _ p c.args.walk.now c.loop-entry.walk done added s c.args.number c.args.left (plain_entry c.entry-item.result) c.in-Some.step c.in-Some.table goes known.1 leads some))

pub visit_inside-returns-in_err-child : goal.visit_inside-returns-in_err-child
visit_inside-returns-in_err-child t c = λ p done s goes.
    let known = c.loop-entry.invariant p done s goes in
    let leads = c.in-Some.ensures.some p s goes.mods in
    let es = entries (module_of s) in
    let i = c.loop-entry.entry-index in
    let n = c.args.left - 1 in
    let e = plain_entry c.entry-item.result in
    let added = flat_map (instances_from p n) (front_children p s i) in
    let some : 0 < c.args.left = omega arith in
    let lt : i < length es = omega (arith, ap length known.0, length-map c.deref-entry-items.result.now plain_entry) in
    let here : get_or es i e ≡ e = ap (λ xs. get_or xs i e) (sym known.0) ∙ get_or-map plain_entry c.deref-entry-items.result.now i c.entry-item.result e (omega arith) ∙ ap plain_entry (sym c.entry-item.is) in
    let step = c.in-Some.step in
    let next = Scope.Inside s step.name.now step.process (map plain_expr step.actuals.now) leads.m in
    let enters = entering c.args.modules.now p c.args.walk.now c.loop-entry.walk done added s c.args.number c.args.left e c.in-Some.step c.in-Some.table goes known.1 leads some in
    let q = err_from_is_err_and c.from_residual.result c.from_residual.ensures.1 in
    rw (q.1, q.2) (⊎_elim (λ memory. inl memory)
    (λ refused. inr (subst (λ xs. First (body p) done xs c.in_err-child.field-0.0) (sym (inside_at p c.args.left s some)) (refused_child c.args.modules.now p done n s i next c.in_err-child.field-0.0 lt (front_child p s i e next lt here leads.is) known.1.silent refused)))
    (c.in_err-child.ensures p (done ++ added) s leads.m enters))

pub visit_inside-loop-entry-preserved : goal.visit_inside-loop-entry-preserved
visit_inside-loop-entry-preserved t c =
    elim c.match-child_step.branch [
      | visit_inside-in-Some+in_ok-child+in_ok-push w ↦ λ p done s goes.
          let known = c.loop-entry.invariant p done s goes in
          let leads = w.in-Some.ensures.some p s goes.mods in
          let es = entries (module_of s) in
          let i = c.loop-entry.entry-index in
          let n = c.args.left - 1 in
          let e = plain_entry c.entry-item.result in
          let cs = front_children p s i in
          let added = flat_map (instances_from p n) cs in
          let some : 0 < c.args.left = omega arith in
          let lt : i < length es = omega (arith, ap length known.0, length-map c.deref-entry-items.result.now plain_entry) in
          let here : get_or es i e ≡ e = ap (λ xs. get_or xs i e) (sym known.0) ∙ get_or-map plain_entry c.deref-entry-items.result.now i c.entry-item.result e (omega arith) ∙ ap plain_entry (sym c.entry-item.is) in
          let step = w.in-Some.step in
          let next = Scope.Inside s step.name.now step.process (map plain_expr step.actuals.now) leads.m in
          let enters = entering c.args.modules.now p c.args.walk.now c.loop-entry.walk done added s c.args.number c.args.left e w.in-Some.step w.in-Some.table goes known.1 leads some in
          let visited = w.in_ok-child.ensures p (done ++ added) s leads.m enters in
          let more = visited_child c.args.modules.now p c.args.walk.now c.loop-entry.walk w.visit_child.new.walk done n cs next c.loop-entry.children.items w.in_ok-child.child known.1 known.2 visited.0 visited.1 in
          let all : cs ++ (next ∷ []) ≡ front_children p s (i + 1) = sym (front_child p s i e next lt here leads.is) in
          let children : w.push.new.self.items ≡ c.loop-entry.children.items ++ (w.in_ok-child.child ∷ []) = w.in_ok-push.ensures.items in (
            known.0,
            subst (λ (v : Walk). Visited c.args.modules.now p c.args.walk.now v done (flat_map (instances_from p n) (front_children p s (i + 1))) (length done)) (sym w.walk-is) (subst (λ ds. Visited c.args.modules.now p c.args.walk.now w.visit_child.new.walk done (flat_map (instances_from p n) ds) (length done)) all more.0),
            rw w.children-is (subst (λ ks. AllZip (λ k d. slice_get (done ++ flat_map (instances_from p n) (front_children p s (i + 1))) k ≡ Some d) ks (front_children p s (i + 1))) (sym children) (subst (λ ds. AllZip (λ k d. slice_get (done ++ flat_map (instances_from p n) ds) k ≡ Some d) (c.loop-entry.children.items ++ (w.in_ok-child.child ∷ [])) ds) all more.1)),
          )
      | visit_inside-in_default w ↦ λ p done s goes.
          let known = c.loop-entry.invariant p done s goes in
          let none = w.in_default.ensures.none p s goes.mods in
          let es = entries (module_of s) in
          let i = c.loop-entry.entry-index in
          let n = c.args.left - 1 in
          let e = plain_entry c.entry-item.result in
          let lt : i < length es = omega (arith, ap length known.0, length-map c.deref-entry-items.result.now plain_entry) in
          let here : get_or es i e ≡ e = ap (λ xs. get_or xs i e) (sym known.0) ∙ get_or-map plain_entry c.deref-entry-items.result.now i c.entry-item.result e (omega arith) ∙ ap plain_entry (sym c.entry-item.is) in
          let all : front_children p s i ≡ front_children p s (i + 1) = sym (front_same p s i e lt here none) in (
            known.0,
            subst (λ (v : Walk). Visited c.args.modules.now p c.args.walk.now v done (flat_map (instances_from p n) (front_children p s (i + 1))) (length done)) (sym w.walk-is) (subst (λ ds. Visited c.args.modules.now p c.args.walk.now c.loop-entry.walk done (flat_map (instances_from p n) ds) (length done)) all known.1),
            rw w.children-is (subst (λ ds. AllZip (λ k d. slice_get (done ++ flat_map (instances_from p n) ds) k ≡ Some d) c.loop-entry.children.items ds) all known.2),
          )
    ]

pub visit_inside-returns : goal.visit_inside-returns
visit_inside-returns t c = λ p done s goes.
    let known = c.loop-entry.invariant p done s goes in
    let es = entries (module_of s) in
    let n = c.args.left - 1 in
    let left : 0 < c.args.left = omega arith in
    let whole : front_children p s c.loop-entry.entry-index ≡ children p s = ap (filter_map (child p s)) (take_whole es c.loop-entry.entry-index (omega (arith, ap length known.0, length-map c.deref-entry-items.result.now plain_entry))) in
    let all : flat_map (instances_from p n) (front_children p s c.loop-entry.entry-index) ≡ inside p c.args.left s = ap (flat_map (instances_from p n)) whole ∙ sym (inside_at p c.args.left s left) in (
      subst (λ xs. Visited c.args.modules.now p c.args.walk.now c.loop-entry.walk done xs (length done)) all known.1,
      subst (λ cs. AllZip (λ k d. slice_get (done ++ inside p c.args.left s) k ≡ Some d) c.loop-entry.children.items cs) whole (subst (λ xs. AllZip (λ k d. slice_get (done ++ xs) k ≡ Some d) c.loop-entry.children.items (front_children p s c.loop-entry.entry-index)) all known.2),
    )
