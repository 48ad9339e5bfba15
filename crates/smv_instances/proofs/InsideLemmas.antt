-- The instances inside one, declaration by declaration.
use Rattle.std.proofs.Common.{◌≡◌, refl, sym, ◌∙◌, ap, subst, ℕ, zero, suc, ◌+◌, ◌-◌, ◌<◌, ◌≤◌, arith, List, [], ◌∷◌, ◌++◌, length, flat_map, take, get_or, append_assoc, append-nil, length-append, Some, None, ◌⊎◌, inl, inr, ⊎_elim}
use Rattle.std.specs.Prelude.{slice_get, filter}
use Rattle.std.specs.List.{filter_map, cons_option, AllZip}
use Rattle.std.proofs.lemmas.List.{take_more}
use Rattle.std.proofs.lemmas.List.Elements.{filter_map-append}
use Rattle.std.proofs.lemmas.Grind.{flat_map-append}
use Rattle.std.proofs.lemmas.Option.{same_Some, slice_get_within}
use Rattle.kripke_model.specs.Refusing.{Silent, First, RefusalRule, ◌then◌}
use Rattle.kripke_model.proofs.FirstLemmas.{silent_then}
use Rattle.smv_instances.specs.declared.modules.Modules.{Modules}
use Rattle.smv_instances.specs.declared.rows.Row.{Row}
use Rattle.smv_instances.specs.declared.rows.Walk.{Walk}
use Rattle.kripke_model.specs.declared.refusals.FlatRefusal.{FlatRefusal}
use Rattle.smv_instances.specs.Program.{Name, Program}
use Rattle.smv_instances.specs.Entries.{Entity, Entry, entries}
use Rattle.smv_instances.specs.Instances.{Scope, module_of, depth, is_process, child, children, instances_from}
use Rattle.smv_instances.specs.Declarations.{body, declaration, entries_of}
use Rattle.smv_instances.specs.Counting.{IsCounts}
use Rattle.smv_instances.specs.Walk.{AreRows, IsRow, HasWalked, Visited, updated, inside}
use Rattle.smv_instances.proofs.RowLemmas.{slice_get_left, slice_get_seam}
use Rattle.smv_instances.proofs.WalkLemmas.{below_or, pairs_weaken, instances_inside, visited_more, updated_get, updated_at, updated_past, take-updated, length-updated, kept_less}
use Rattle.smv_instances.proofs.FirstSteps.{first_append, first_front}
use Rattle.smv_instances.proofs.TableLemmas.{pairs_push}

-- the children that the first i entries of s declare
abbrev pub front_children : Program → Scope → ℕ → List Scope
front_children p s i = filter_map (child p s) (take i (entries (module_of s)))

pub front_more : (p : Program) (s : Scope) (i : ℕ) (e : Entry) → i < length (entries (module_of s)) → get_or (entries (module_of s)) i e ≡ e → front_children p s (i + 1) ≡ front_children p s i ++ cons_option (child p s e) []
front_more p s i e lt at =
    ap (filter_map (child p s)) (take_more (entries (module_of s)) i e lt ∙ ap (λ d. take i (entries (module_of s)) ++ (d ∷ [])) at)
    ∙ filter_map-append (child p s) (take i (entries (module_of s))) (e ∷ [])

pub front_same : (p : Program) (s : Scope) (i : ℕ) (e : Entry) → i < length (entries (module_of s)) → get_or (entries (module_of s)) i e ≡ e → child p s e ≡ None → front_children p s (i + 1) ≡ front_children p s i
front_same p s i e lt at none = front_more p s i e lt at ∙ ap (λ o. front_children p s i ++ cons_option o []) none ∙ append-nil (front_children p s i)

pub front_child : (p : Program) (s : Scope) (i : ℕ) (e : Entry) (c : Scope) → i < length (entries (module_of s)) → get_or (entries (module_of s)) i e ≡ e → child p s e ≡ Some c → front_children p s (i + 1) ≡ front_children p s i ++ (c ∷ [])
front_child p s i e c lt at some = front_more p s i e lt at ∙ ap (λ o. front_children p s i ++ cons_option o []) some

pub flat_push : (p : Program) (n : ℕ) (cs : List Scope) (c : Scope) → flat_map (instances_from p n) (cs ++ (c ∷ [])) ≡ flat_map (instances_from p n) cs ++ instances_from p n c
flat_push p n cs c = flat_map-append (instances_from p n) cs (c ∷ []) ∙ ap (λ xs. flat_map (instances_from p n) cs ++ xs) (append-nil (instances_from p n c))

pub inside_at : (p : Program) (left : ℕ) (s : Scope) → 0 < left → inside p left s ≡ flat_map (instances_from p (left - 1)) (children p s)
inside_at p zero s lt = absurd (omega arith)
inside_at p (suc n) s lt = let e : n ≡ suc n - 1 = omega arith in ap (λ k. flat_map (instances_from p k) (children p s)) e

pub inside_none : (p : Program) (left : ℕ) (s : Scope) → left ≡ 0 → inside p left s ≡ []
inside_none p left s e = ap (λ k. inside p k s) e

-- the children after the first i entries
pub front_rest : (p : Program) (s : Scope) (i : ℕ) → i ≤ length (entries (module_of s)) → (rest : List Scope) × (children p s ≡ front_children p s i ++ rest)
front_rest p s i le =
    let split = cut (entries (module_of s)) i in
    (filter_map (child p s) split.0, ap (filter_map (child p s)) split.1 ∙ filter_map-append (child p s) (take i (entries (module_of s))) split.0)
  where
    cut : (xs : List Entry) (k : ℕ) → (rest : List Entry) × (xs ≡ take k xs ++ rest)
    cut xs zero = (xs, refl)
    cut [] (suc k) = ([], refl)
    cut (x ∷ xs) (suc k) = let later = cut xs k in (later.0, ap (λ ys. x ∷ ys) later.1)

-- ---- the walk

module _ (ms : Modules) (p : Program) where
  pub visited_none : (w : Walk) (done : List Scope) → HasWalked ms w done done → Visited ms p w w done [] (length done)
  visited_none w done reaches = record {
    reaches = subst (λ xs. HasWalked ms w xs xs) (sym (append-nil done)) reaches;
    linked = λ k row s from at_row at_s. absurd (past k s from (ap (λ xs. slice_get xs k) (sym (append-nil done)) ∙ at_s));
    kept = refl;
    silent = λ r h. h;
  }
    where
      past : (k : ℕ) (s : Scope) → length done ≤ k → slice_get done k ≡ Some s → ⊥
      past k s from at = let within : k < length done = slice_get_within done k s at in omega arith

  -- the row changes in its children alone
  rows_updated : (rows : List Row) (numbering : List Scope) (n : ℕ) (f : Row → Row) → ((k : ℕ) (row : Row) (s : Scope) → IsRow ms numbering k row s → IsRow ms numbering k (f row) s) → AreRows ms rows numbering → AreRows ms (updated rows n f) numbering
  rows_updated rows numbering n f keeps are = record {
    lengths = length-updated rows n f ∙ are.lengths;
    each = λ k row s at_row at_s.
        let found = updated_get rows n f k row at_row in
        ⊎_elim
        (λ h. subst (λ r. IsRow ms numbering k r s) (sym h.1) (keeps k found.old s (are.each k found.old s found.stood at_s)))
        (λ same. subst (λ r. IsRow ms numbering k r s) (sym same) (are.each k found.old s found.stood at_s))
        found.is;
  }

  -- the body of s is silent, those inside it were walked over, and its children are noted
  pub visited_body : (old mid after new : Walk) (before added : List Scope) (s : Scope) (number : ℕ) (f : Row → Row) → ((k : ℕ) (row : Row) (t : Scope) → IsRow ms (before ++ (s ∷ added)) k row t → IsRow ms (before ++ (s ∷ added)) k (f row) t)
      → ((row : Row) → AllZip (λ n c. slice_get (before ++ (s ∷ added)) n ≡ Some c) (f row).children.items (children p s))
      → number ≡ length before → mid.rows.items ≡ old.rows.items → Silent (body p before s)
      → Visited ms p mid after (before ++ (s ∷ [])) added (length (before ++ (s ∷ [])))
      → new.rows.items ≡ updated after.rows.items number f → new.processes.items ≡ after.processes.items → new.counts ≡ after.counts
      → Visited ms p old new before (s ∷ added) (length before)
  visited_body old mid after new before added s number f keeps noted numbered same silent went rows processes counts =
      let assoc : (before ++ (s ∷ [])) ++ added ≡ before ++ (s ∷ added) = append_assoc before (s ∷ []) added in
      let reached : HasWalked ms after (before ++ (s ∷ added)) (before ++ (s ∷ added)) = subst (λ xs. HasWalked ms after xs xs) assoc went.reaches in
      record {
        reaches = record {
          rows = subst (λ rs. AreRows ms rs (before ++ (s ∷ added))) (sym rows) (rows_updated after.rows.items (before ++ (s ∷ added)) number f keeps reached.rows);
          processes = subst (λ ns. AllZip (λ n c. slice_get (before ++ (s ∷ added)) n ≡ Some c) ns (filter is_process (before ++ (s ∷ added)))) (sym processes) reached.processes;
          counts = subst (λ k. IsCounts k (entries_of (before ++ (s ∷ added)))) (sym counts) reached.counts;
        };
        linked = λ k row t from at_row at_t. link k row t from (ap (λ rs. slice_get rs k) (sym rows) ∙ at_row) at_t (below_or k (length before + 1));
        kept = ap (take (length before)) rows
            ∙ ap (λ n. take n (updated after.rows.items number f)) (sym numbered)
            ∙ take-updated after.rows.items number f
            ∙ ap (λ n. take n after.rows.items) numbered
            ∙ kept_less (length before) (length (before ++ (s ∷ []))) after.rows.items mid.rows.items (omega (arith, length-append before (s ∷ []))) went.kept
            ∙ ap (take (length before)) same;
        silent = silent_then {a = body p before s} silent went.silent;
      }
    where
      link : (k : ℕ) (row : Row) (t : Scope) → length before ≤ k → slice_get (updated after.rows.items number f) k ≡ Some row → slice_get (before ++ (s ∷ added)) k ≡ Some t → (k < length before + 1) ⊎ (length before + 1 ≤ k) → AllZip (λ n c. slice_get (before ++ (s ∷ added)) n ≡ Some c) row.children.items (children p t)
      link k row t from at_row at_t (inl lt) =
          let here : k ≡ length before = omega arith in
          let changed = updated_at after.rows.items number f row (ap (slice_get (updated after.rows.items number f)) (numbered ∙ sym here) ∙ at_row) in
          let same_scope : s ≡ t = same_Some _ _ (sym (slice_get_seam before added s) ∙ ap (slice_get (before ++ (s ∷ added))) (sym here) ∙ at_t) in
          subst (λ u. AllZip (λ n c. slice_get (before ++ (s ∷ added)) n ≡ Some c) row.children.items (children p u)) same_scope
          (subst (λ (r : Row). AllZip (λ n c. slice_get (before ++ (s ∷ added)) n ≡ Some c) r.children.items (children p s)) (sym changed.2) (noted changed.0))
      link k row t from at_row at_t (inr ge) =
          let past : number < k = omega (arith, numbered) in
          let assoc : (before ++ (s ∷ [])) ++ added ≡ before ++ (s ∷ added) = append_assoc before (s ∷ []) added in
          pairs_weaken (λ n c. slice_get ((before ++ (s ∷ [])) ++ added) n ≡ Some c) (λ n c. slice_get (before ++ (s ∷ added)) n ≡ Some c) (λ n c e. ap (λ xs. slice_get xs n) (sym assoc) ∙ e) row.children.items (children p t)
          (went.linked k row t (omega (arith, length-append before (s ∷ []))) (sym (updated_past after.rows.items number f k past) ∙ at_row) (ap (λ xs. slice_get xs k) assoc ∙ at_t))

  -- one more declared instance was walked over
  pub visited_child : (old mid new : Walk) (done : List Scope) (n : ℕ) (cs : List Scope) (c : Scope) (ks : List ℕ) (number : ℕ)
      → Visited ms p old mid done (flat_map (instances_from p n) cs) (length done) → AllZip (λ k t. slice_get (done ++ flat_map (instances_from p n) cs) k ≡ Some t) ks cs
      → number ≡ length (done ++ flat_map (instances_from p n) cs) → Visited ms p mid new (done ++ flat_map (instances_from p n) cs) (instances_from p n c) (length (done ++ flat_map (instances_from p n) cs))
      → Visited ms p old new done (flat_map (instances_from p n) (cs ++ (c ∷ []))) (length done) × AllZip (λ k t. slice_get (done ++ flat_map (instances_from p n) (cs ++ (c ∷ []))) k ≡ Some t) (ks ++ (number ∷ [])) (cs ++ (c ∷ []))
  visited_child old mid new done n cs c ks number first pairs numbered second =
      let before = flat_map (instances_from p n) cs in
      let all : flat_map (instances_from p n) (cs ++ (c ∷ [])) ≡ before ++ instances_from p n c = flat_push p n cs c in
      let assoc : done ++ (before ++ instances_from p n c) ≡ (done ++ before) ++ instances_from p n c = sym (append_assoc done before (instances_from p n c)) in
      let head : instances_from p n c ≡ c ∷ inside p n c = instances_inside ms p n c in (
        subst (λ xs. Visited ms p old new done xs (length done)) (sym all) (visited_more ms p old mid new done before (instances_from p n c) first second),
        subst (λ xs. AllZip (λ k t. slice_get (done ++ xs) k ≡ Some t) (ks ++ (number ∷ [])) (cs ++ (c ∷ []))) (sym all)
            (pairs_push (λ k t. slice_get (done ++ (before ++ instances_from p n c)) k ≡ Some t) ks cs number c
            (pairs_weaken (λ k t. slice_get (done ++ before) k ≡ Some t) (λ k t. slice_get (done ++ (before ++ instances_from p n c)) k ≡ Some t) (λ k t e. ap (λ xs. slice_get xs k) assoc ∙ slice_get_left (done ++ before) (instances_from p n c) k t e) ks cs pairs)
            (ap (λ xs. slice_get xs number) assoc ∙ ap (λ xs. slice_get ((done ++ before) ++ xs) number) head ∙ ap (slice_get ((done ++ before) ++ (c ∷ inside p n c))) numbered ∙ slice_get_seam (done ++ before) (inside p n c) c)),
      )

  -- why the walk over what s declares stops
  pub refused_child : (done : List Scope) (n : ℕ) (s : Scope) (i : ℕ) (c : Scope) (r : FlatRefusal) → i < length (entries (module_of s)) → front_children p s (i + 1) ≡ front_children p s i ++ (c ∷ [])
      → Silent (First (body p) done (flat_map (instances_from p n) (front_children p s i))) → First (body p) (done ++ flat_map (instances_from p n) (front_children p s i)) (instances_from p n c) r
      → First (body p) done (flat_map (instances_from p n) (children p s)) r
  refused_child done n s i c r lt more silent h =
      let rest = front_rest p s (i + 1) (omega arith) in
      let before = flat_map (instances_from p n) (front_children p s i) in
      let all : flat_map (instances_from p n) (children p s) ≡ (before ++ instances_from p n c) ++ flat_map (instances_from p n) rest.0 =
      ap (flat_map (instances_from p n)) (rest.1 ∙ ap (λ cs. cs ++ rest.0) more) ∙ flat_map-append (instances_from p n) (front_children p s i ++ (c ∷ [])) rest.0 ∙ ap (λ xs. xs ++ flat_map (instances_from p n) rest.0) (flat_push p n (front_children p s i) c) in
      subst (λ xs. First (body p) done xs r) (sym all)
      (first_front (body p) done (before ++ instances_from p n c) (flat_map (instances_from p n) rest.0) r (first_append (body p) done before (instances_from p n c) r silent h))

-- ---- no instance is too deep

then_parts : {R : Type 0} {a b : RefusalRule R} → Silent (a then b) → Silent a × Silent b
then_parts {a} silent = (λ r h. silent r (inl h), λ r h. silent r (inr (λ q k. silent q (inl k), h)))

no_child : (p : Program) (before : List Scope) (s : Scope) (earlier : List Entry) (name : Name) (line : ℕ) (e : Entity) → Silent (declaration p before s earlier (record { name = name; line = line; entity = e })) → 32 ≤ depth s → child p s (record { name = name; line = line; entity = e }) ≡ None
no_child p before s earlier name line Entity.Parameter silent deep = refl
no_child p before s earlier name line (Entity.Stored type) silent deep = refl
no_child p before s earlier name line (Entity.Defined right) silent deep = refl
no_child p before s earlier name line (Entity.Instance process module_name actuals) silent deep =
    absurd ((then_parts (then_parts (then_parts (then_parts (then_parts (then_parts silent).1).1).1).1).1).1 _ (refl, omega arith))

no_children : (p : Program) (before : List Scope) (s : Scope) (earlier es : List Entry) → Silent (First (declaration p before s) earlier es) → 32 ≤ depth s → filter_map (child p s) es ≡ []
no_children p before s earlier [] silent deep = refl
no_children p before s earlier (e ∷ es) silent deep =
    ap (λ o. cons_option o (filter_map (child p s) es)) (no_child p before s earlier e.name e.line e.entity (λ r h. silent r (inl h)) deep)
    ∙ no_children p before s (earlier ++ (e ∷ [])) es (λ r h. silent r (inr (λ q k. silent q (inl k), h))) deep

-- a body of the greatest depth that is not refused declares no instance
pub bottom_children : (p : Program) (before : List Scope) (s : Scope) → Silent (body p before s) → 32 ≤ depth s → children p s ≡ []
bottom_children p before s silent deep = no_children p before s [] (entries (module_of s)) silent deep
