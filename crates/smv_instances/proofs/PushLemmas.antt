-- One instance more at the end of the rows.
use Rattle.std.proofs.Common.{◌≡◌, refl, sym, ◌∙◌, ap, subst, ℕ, zero, suc, ◌+◌, ◌<◌, ◌≤◌, arith, List, [], ◌∷◌, ◌++◌, Bool, true, false, length, map, length-append, append-nil, Option, Some, None, ⊎_elim}
use Rattle.std.specs.Prelude.{slice_get, filter}
use Rattle.std.proofs.lemmas.Option.{same_Some, slice_get_within}
use Rattle.std.proofs.lemmas.List.Elements.{filter-append}
use Rattle.smv_instances.specs.declared.modules.Modules.{Modules}
use Rattle.smv_instances.specs.declared.rows.Step.{Step}
use Rattle.smv_instances.specs.declared.rows.Row.{Row}
use Rattle.smv_instances.specs.Program.{Name, Expr, Module}
use Rattle.smv_instances.specs.Plain.{plain_expr}
use Rattle.smv_instances.specs.Instances.{Scope, depth, is_process, process_of}
use Rattle.std.specs.List.{AllZip}
use Rattle.smv_instances.specs.Walk.{Stands, IsStep, IsRow, AreRows}
use Rattle.smv_instances.proofs.TableLemmas.{pairs_push, length_pairs}
use Rattle.smv_instances.proofs.RowLemmas.{slice_get_left, slice_get_seam}
use Rattle.smv_instances.proofs.WalkLemmas.{below_or, front_get, pairs_weaken}

-- what a row says holds as the numbering grows
step_more : (numbering more : List Scope) (k : ℕ) (o : Option Step) (s : Scope) → IsStep numbering k o s → IsStep (numbering ++ more) k o s
step_more numbering more k None (Scope.Main m) h = tt
step_more numbering more k None (Scope.Inside around name process actuals m) h = absurd h
step_more numbering more k (Some step) (Scope.Main m) h = absurd h
step_more numbering more k (Some step) (Scope.Inside around name process actuals m) h = record {
  earlier = h.earlier;
  numbered = slice_get_left numbering more step.around around h.numbered;
  named = h.named;
  process_is = h.process_is;
  actuals_are = h.actuals_are;
}

pub row_more : (ms : Modules) (numbering more : List Scope) (k : ℕ) (row : Row) (s : Scope) → IsRow ms numbering k row s → IsRow ms (numbering ++ more) k row s
row_more ms numbering more k row s is = record {
  table = is.table;
  depth_is = is.depth_is;
  process_is = ap (λ xs. slice_get xs row.process) (filter-append is_process numbering more) ∙ slice_get_left (filter is_process numbering) (filter is_process more) row.process (process_of s) is.process_is;
  step = step_more numbering more k row.step s is.step;
}

last_get : {A : Type 0} (xs : List A) (x y : A) (k : ℕ) → slice_get (xs ++ (x ∷ [])) k ≡ Some y → length xs ≤ k → (x ≡ y) × (k ≡ length xs)
last_get [] x y zero e le = (same_Some _ _ e, refl)
last_get [] x y (suc k) e le = absurd (let none : None ≡ Some y = e in cc)
last_get (z ∷ xs) x y zero e le = absurd (omega arith)
last_get (z ∷ xs) x y (suc k) e le = let later = last_get xs x y k e (omega arith) in (later.0, ap suc later.1)

pub rows_push : (ms : Modules) (rows : List Row) (done : List Scope) (row : Row) (c : Scope) → AreRows ms rows done → IsRow ms (done ++ (c ∷ [])) (length done) row c → AreRows ms (rows ++ (row ∷ [])) (done ++ (c ∷ []))
rows_push ms rows done row c are is = record {
  lengths = omega (arith, length-append rows (row ∷ []), length-append done (c ∷ []), are.lengths);
  each = λ k other s at_row at_s. ⊎_elim
      (λ (lt : k < length rows). row_more ms done (c ∷ []) k other s (are.each k other s (front_get rows (row ∷ []) k other lt at_row) (front_get done (c ∷ []) k s (omega (arith, lt, are.lengths)) at_s)))
      (λ (ge : length rows ≤ k).
      let one = last_get rows row other k at_row ge in
      let two = last_get done c s k at_s (omega (arith, ge, are.lengths)) in
      subst (λ n. IsRow ms (done ++ (c ∷ [])) n other s) (sym two.1) (subst (λ r. IsRow ms (done ++ (c ∷ [])) (length done) r s) one.0 (subst (λ t. IsRow ms (done ++ (c ∷ [])) (length done) row t) two.0 is)))
      (below_or k (length rows));
}

-- ---- the process of the instance

pub record Entered (done : List Scope) (c : Scope) (processes : List ℕ) (k : ℕ) : Type 0 where
  pub pairs : AllZip (λ n t. slice_get (done ++ (c ∷ [])) n ≡ Some t) processes (filter is_process (done ++ (c ∷ [])))
  pub place : slice_get (filter is_process (done ++ (c ∷ []))) k ≡ Some (process_of c)

module _ (done : List Scope) (s : Scope) (name : Name) (actuals : List Expr) (m : Module) where
  abbrev Numbered : List Scope → ℕ → Scope → Type 0
  Numbered numbering n t = slice_get numbering n ≡ Some t

  entered_process : (old new : List ℕ) (k : ℕ) → AllZip (Numbered done) old (filter is_process done) → k ≡ length old → new ≡ old ++ (length done ∷ []) → Entered done (Scope.Inside s name true actuals m) new k
  entered_process old new k pairs at is =
      let c = Scope.Inside s name true actuals m in
      record {
        pairs = subst (λ ns. AllZip (Numbered (done ++ (c ∷ []))) ns (filter is_process (done ++ (c ∷ [])))) (sym is)
            (subst (λ xs. AllZip (Numbered (done ++ (c ∷ []))) (old ++ (length done ∷ [])) xs) (sym (filter-append is_process done (c ∷ [])))
            (pairs_push (Numbered (done ++ (c ∷ []))) old (filter is_process done) (length done) c
            (pairs_weaken (Numbered done) (Numbered (done ++ (c ∷ []))) (λ n t e. slice_get_left done (c ∷ []) n t e) old (filter is_process done) pairs)
            (slice_get_seam done [] c)));
        place = ap (λ xs. slice_get xs k) (filter-append is_process done (c ∷ []))
            ∙ ap (slice_get (filter is_process done ++ (c ∷ []))) (at ∙ length_pairs (Numbered done) old (filter is_process done) pairs)
            ∙ slice_get_seam (filter is_process done) [] c;
      }

  entered_plain : (old new : List ℕ) (k : ℕ) → AllZip (Numbered done) old (filter is_process done) → slice_get (filter is_process done) k ≡ Some (process_of s) → new ≡ old → Entered done (Scope.Inside s name false actuals m) new k
  entered_plain old new k pairs at is =
      let c = Scope.Inside s name false actuals m in
      let same : filter is_process (done ++ (c ∷ [])) ≡ filter is_process done = filter-append is_process done (c ∷ []) ∙ append-nil (filter is_process done) in
      record {
        pairs = subst (λ ns. AllZip (Numbered (done ++ (c ∷ []))) ns (filter is_process (done ++ (c ∷ [])))) (sym is)
            (subst (λ xs. AllZip (Numbered (done ++ (c ∷ []))) old xs) (sym same)
            (pairs_weaken (Numbered done) (Numbered (done ++ (c ∷ []))) (λ n t e. slice_get_left done (c ∷ []) n t e) old (filter is_process done) pairs));
        place = ap (λ xs. slice_get xs k) same ∙ at;
      }

  pub entered : (b : Bool) (old new : List ℕ) (k : ℕ) → AllZip (Numbered done) old (filter is_process done)
      → (b ≡ true → (k ≡ length old) × (new ≡ old ++ (length done ∷ []))) → (b ≡ false → (slice_get (filter is_process done) k ≡ Some (process_of s)) × (new ≡ old))
      → Entered done (Scope.Inside s name b actuals m) new k
  entered true old new k pairs process plain = entered_process old new k pairs (process refl).0 (process refl).1
  entered false old new k pairs process plain = entered_plain old new k pairs (plain refl).0 (plain refl).1

-- the row of an instance that s declares
pub child_row : (ms : Modules) (done : List Scope) (s : Scope) (m : Module) (step : Step) (row : Row) (processes : List ℕ) → slice_get done step.around ≡ Some s → Stands ms row.table m → row.step ≡ Some step → row.depth ≡ depth s + 1
    → Entered done (Scope.Inside s step.name.now step.process (map plain_expr step.actuals.now) m) processes row.process
    → IsRow ms (done ++ (Scope.Inside s step.name.now step.process (map plain_expr step.actuals.now) m ∷ [])) (length done) row (Scope.Inside s step.name.now step.process (map plain_expr step.actuals.now) m)
child_row ms done s m step row processes numbered stands is deep process =
    let c = Scope.Inside s step.name.now step.process (map plain_expr step.actuals.now) m in
    record {
      table = stands;
      depth_is = deep;
      process_is = process.place;
      step = subst (λ o. IsStep (done ++ (c ∷ [])) (length done) o c) (sym is) (record {
        earlier = slice_get_within done step.around s numbered;
        numbered = slice_get_left done (c ∷ []) step.around s numbered;
        named = refl;
        process_is = refl;
        actuals_are = refl;
      });
    }
