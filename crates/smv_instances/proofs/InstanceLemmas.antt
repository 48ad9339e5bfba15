-- The instances that are kept, and those of the program.
use Rattle.std.proofs.Common.{◌≡◌, refl, sym, ◌∙◌, ap, subst, ℕ, zero, suc, ◌+◌, ◌<◌, arith, List, [], ◌∷◌, ◌++◌, Bool, true, false, not, cond, ◌||◌, length, map, flat_map, take, get_or, Option, Some, None}
use Rattle.std.specs.Prelude.{slice_get, option_map, IfSome, IfNone}
use Rattle.std.specs.List.{list_any, AllZip}
use Rattle.std.specs.Str.{bytes_eq}
use Rattle.std.proofs.lemmas.List.{length-map}
use Rattle.std.proofs.lemmas.List.Folds.{list_any-append}
use Rattle.std.proofs.lemmas.List.Sums.{passes_at_first}
use Rattle.std.proofs.lemmas.Option.{same_Some, slice_get_read, slice_get_within}
use Rattle.std.proofs.lemmas.Slice.Eq.{bytes_eq-Decides}
use Rattle.kripke_model.specs.Refusing.{Silent}
use Rattle.smv_instances.specs.declared.instances.Instances.{Instances}
use Rattle.smv_instances.specs.declared.modules.Table.{Table}
use Rattle.smv_instances.specs.declared.entries.Entry.{Entry as Line}
use Rattle.smv_instances.specs.declared.rows.Row.{Row}
use Rattle.smv_instances.specs.declared.rows.Step.{Step}
use Rattle.smv_parser.specs.declared.expressions.Expr.{Expr as Read}
use Rattle.smv_instances.specs.Plain.{plain_expr}
use Rattle.smv_instances.specs.Program.{Name, Expr, Module, Program}
use Rattle.smv_instances.specs.Entries.{Entity, Entry, entries, entity_in, module_named}
use Rattle.smv_instances.specs.Instances.{Scope, module_of, child, children, declares_process, has_selector, instances, main_name, main_scope, place_of, symbols}
use Rattle.smv_instances.specs.Declarations.{declaration, declarations, entries_of, instances_in, named_constant, refused_declarations}
use Rattle.smv_instances.specs.Numbered.{IsActual, actuals_of, plain_entry, scope_at}
use Rattle.smv_instances.specs.Tables.{IsTable, IsFresh}
use Rattle.smv_instances.specs.Walk.{IsRow, IsStep}
use Rattle.smv_instances.specs.Built.{AreInstances, IsEntryOf}
use Rattle.smv_instances.proofs.NameLemmas.{any_map}
use Rattle.smv_instances.proofs.TableLemmas.{bytes_eq_self, get_or-map, length_take, counts_get, length-counts_from}
use Rattle.smv_instances.proofs.RowLemmas.{some_at, pairs_get}
use Rattle.smv_instances.proofs.BuildLemmas.{constants_of, main_entries}
use Rattle.smv_instances.proofs.FindLemmas.{silent_body, silent_member, counted, IsCounted, nth_child, then_parts, front_whole, entity_at, entity_absent}

-- ---- answers

pub some_both : {A : Type 0} (P Q R : A → Type 0) (r : Option A) → IfSome r P → IfSome r Q → ((x : A) → P x → Q x → R x) → IfSome r R
some_both P Q R None h k f = tt
some_both P Q R (Some x) h k f = f x h k

pub none_map : {A : Type 0} (P Q : Type 0) (r : Option A) → IfNone r P → (P → Q) → IfNone r Q
none_map P Q None h f = f h
none_map P Q (Some x) h f = tt

-- ---- rows

pub row_of : (p : Program) (all : Instances) (i : ℕ) (s : Scope) → AreInstances p all → scope_at p i ≡ Some s → (row : Row) × (slice_get all.rows.items i ≡ Some row) × IsRow all.modules (instances p) i row s
row_of p all i s are at =
    let found = some_at all.rows.items i (omega (arith, slice_get_within (instances p) i s at, are.are.lengths)) in
    (found.0, found.1, are.are.each i found.0 s found.1 at)

pub read_row : (p : Program) (all : Instances) (i : ℕ) (row : Row) (s : Scope) → AreInstances p all → row ≡ get_or all.rows.items i row → scope_at p i ≡ Some s → slice_get all.rows.items i ≡ Some row
read_row p all i row s are read at = slice_get_read all.rows.items _ i row refl (omega (arith, slice_get_within (instances p) i s at, are.are.lengths)) read

pub is_row : (p : Program) (all : Instances) (i : ℕ) (row : Row) (s : Scope) → AreInstances p all → row ≡ get_or all.rows.items i row → scope_at p i ≡ Some s → IsRow all.modules (instances p) i row s
is_row p all i row s are read at = are.are.each i row s (read_row p all i row s are read at) at

pub children_of_row : (p : Program) (all : Instances) (i : ℕ) (row : Row) (s : Scope) → AreInstances p all → row ≡ get_or all.rows.items i row → scope_at p i ≡ Some s → AllZip (λ n c. slice_get (instances p) n ≡ Some c) row.children.items (children p s)
children_of_row p all i row s are read at = are.linked i row s (omega arith) (read_row p all i row s are read at) at

-- ---- names

pub bodies_silent : (p : Program) → Silent (refused_declarations p) → Silent (declarations p)
bodies_silent p silent = (then_parts _ _ (then_parts _ _ (then_parts _ _ silent).1).1).0

pub names_whole : (p : Program) (all : Instances) (i : ℕ) (s : Scope) (t : Table) → AreInstances p all → scope_at p i ≡ Some s → IsTable t (module_of s) → t.names ≡ map (λ e. e.name) (entries (module_of s))
names_whole p all i s t are at table =
    let own = silent_body p i s (bodies_silent p are.silent) at in
    front_whole p own.0 s t.names table.front own.1

pub entry_found : (p : Program) (all : Instances) (i : ℕ) (s : Scope) (t : Table) (x : Name) (k : ℕ) → AreInstances p all → scope_at p i ≡ Some s → IsTable t (module_of s) → k ≡ place_of t.names x → k < length t.names → IsEntryOf (module_of s) x k
entry_found p all i s t x k are at table is lt =
    let es = entries (module_of s) in
    let names = map (λ (e : Entry). e.name) es in
    let whole : t.names ≡ names = names_whole p all i s t are at table in
    let here : k ≡ place_of names x = is ∙ ap (λ ns. place_of ns x) whole in
    let within : k < length es = omega (arith, lt, ap length whole, length-map es (λ (e : Entry). e.name)) in
    let e = some_at es k within in
    let read : e.0 ≡ get_or es k e.0 = read_back es k e.0 e.1 in
    let passes : bytes_eq x (get_or names (place_of names x) x) ≡ true = passes_at_first (bytes_eq x) names x (subst (λ n. n < length names) here (omega (arith, within, length-map es (λ (e : Entry). e.name)))) in
    let same : x ≡ get_or names k x = (bytes_eq-Decides _ _).0 passes ∙ ap (λ n. get_or names n x) (sym here) in
    record {
      entry = e.0;
      stands = e.1;
      named = ap (λ (d : Entry). d.name) read ∙ sym (get_or-map (λ (d : Entry). d.name) es k e.0 x within) ∙ sym same;
      declared = entity_at (module_of s) x k e.0 here e.1;
    }
  where
    read_back : (xs : List Entry) (n : ℕ) (d : Entry) → slice_get xs n ≡ Some d → d ≡ get_or xs n d
    read_back [] n d e = absurd (let none : None ≡ Some d = e in cc)
    read_back (y ∷ xs) zero d e = sym (same_Some _ _ e)
    read_back (y ∷ xs) (suc n) d e = read_back xs n d e

pub entry_absent : (p : Program) (all : Instances) (i : ℕ) (s : Scope) (t : Table) (x : Name) → AreInstances p all → scope_at p i ≡ Some s → IsTable t (module_of s) → list_any (bytes_eq x) t.names ≡ false → entity_in (module_of s) x ≡ None
entry_absent p all i s t x are at table none = entity_absent (module_of s) x (ap (list_any (bytes_eq x)) (sym (names_whole p all i s t are at table)) ∙ none)

-- a name stands where it first stood
place_seam : (front rest : List Name) (x : Name) → list_any (bytes_eq x) front ≡ false → place_of (front ++ (x ∷ rest)) x ≡ length front
place_seam [] rest x none = ap (λ b. cond (not b) (1 + place_of rest x) 0) (bytes_eq_self x)
place_seam (y ∷ front) rest x none = go (bytes_eq x y) refl (λ later. place_seam front rest x later)
  where
    go : (b : Bool) → bytes_eq x y ≡ b → (list_any (bytes_eq x) front ≡ false → place_of (front ++ (x ∷ rest)) x ≡ length front) → cond (not (bytes_eq x y)) (1 + place_of (front ++ (x ∷ rest)) x) 0 ≡ suc (length front)
    go true q more = absurd (let e : true ≡ false = ap (λ b. b || list_any (bytes_eq x) front) (sym q) ∙ none in cc)
    go false q more = let later : list_any (bytes_eq x) front ≡ false = ap (λ b. b || list_any (bytes_eq x) front) (sym q) ∙ none in
        let size : place_of (front ++ (x ∷ rest)) x ≡ length front = more later in
        ap (λ b. cond (not b) (1 + place_of (front ++ (x ∷ rest)) x) 0) q ∙ omega (arith, size)

place_fresh : (names : List Name) (k : ℕ) (x : Name) → IsFresh names → k < length names → get_or names k x ≡ x → place_of names x ≡ k
place_fresh names k x fresh lt at =
    let rest = split names k lt in
    ap (λ ns. place_of ns x) (rest.1 ∙ ap (λ y. take k names ++ (y ∷ rest.0)) at)
    ∙ place_seam (take k names) rest.0 x (ap (λ y. list_any (bytes_eq y) (take k names)) (sym at) ∙ fresh k x lt)
    ∙ length_take k names (omega arith)
  where
    split : (xs : List Name) (n : ℕ) → n < length xs → (rest : List Name) × (xs ≡ take n xs ++ (get_or xs n x ∷ rest))
    split [] n below = absurd (omega arith)
    split (y ∷ xs) zero below = (xs, refl)
    split (y ∷ xs) (suc n) below = let later = split xs n (omega arith) in (later.0, ap (λ ys. y ∷ ys) later.1)

get_back : (xs : List Entry) (k : ℕ) (e : Entry) → slice_get xs k ≡ Some e → get_or xs k e ≡ e
get_back [] k e at = absurd (let none : None ≡ Some e = at in cc)
get_back (x ∷ xs) zero e at = same_Some _ _ at
get_back (x ∷ xs) (suc k) e at = get_back xs k e at

-- an entry stands where its name does
pub entry_place : (p : Program) (all : Instances) (i : ℕ) (s : Scope) (t : Table) (k : ℕ) (e : Entry) → AreInstances p all → scope_at p i ≡ Some s → IsTable t (module_of s) → slice_get (entries (module_of s)) k ≡ Some e → k ≡ place_of (map (λ d. d.name) (entries (module_of s))) e.name
entry_place p all i s t k e are at table stands =
    let es = entries (module_of s) in
    let names = map (λ (d : Entry). d.name) es in
    let lt : k < length es = slice_get_within es k e stands in
    let fresh : IsFresh names = subst IsFresh (names_whole p all i s t are at table) table.front.distinct in
    sym (place_fresh names k e.name fresh (omega (arith, lt, length-map es (λ (d : Entry). d.name))) (get_or-map (λ (d : Entry). d.name) es k e e.name lt ∙ ap (λ (d : Entry). d.name) (get_back es k e stands)))

pub entry_declared : (p : Program) (all : Instances) (i : ℕ) (s : Scope) (t : Table) (k : ℕ) (e : Entry) → AreInstances p all → scope_at p i ≡ Some s → IsTable t (module_of s) → slice_get (entries (module_of s)) k ≡ Some e → entity_in (module_of s) e.name ≡ Some e.entity
entry_declared p all i s t k e are at table stands = entity_at (module_of s) e.name k e (entry_place p all i s t k e are at table stands) stands

-- ---- what a table holds

slice_get-map : {A B : Type 0} (f : A → B) (xs : List A) (k : ℕ) → slice_get (map f xs) k ≡ option_map f (slice_get xs k)
slice_get-map f [] k = refl
slice_get-map f (x ∷ xs) zero = refl
slice_get-map f (x ∷ xs) (suc k) = slice_get-map f xs k

pub get_value : {A : Type 0} (xs : List A) (k : ℕ) (x : A) → slice_get xs k ≡ Some x → (d : A) → get_or xs k d ≡ x
get_value [] k x at d = absurd (let none : None ≡ Some x = at in cc)
get_value (y ∷ xs) zero x at d = same_Some _ _ at
get_value (y ∷ xs) (suc k) x at d = get_value xs k x at d

pub length_entries : (t : Table) (m : Module) → IsTable t m → length t.entries.items ≡ length (entries m)
length_entries t m table = sym (length-map t.entries.items plain_entry) ∙ ap length table.declares

pub length_ordinals : (t : Table) (m : Module) → IsTable t m → length t.ordinals.items ≡ length (entries m)
length_ordinals t m table = ap length table.ordered ∙ length-counts_from 0 (entries m)

pub entry_read : (t : Table) (m : Module) (k : ℕ) (line : Line) (e : Entry) → IsTable t m → line ≡ get_or t.entries.items k line → slice_get (entries m) k ≡ Some e → e ≡ plain_entry line
entry_read t m k line e table read stands =
    let lt : k < length (entries m) = slice_get_within (entries m) k e stands in
    let there : slice_get t.entries.items k ≡ Some line = slice_get_read t.entries.items _ k line refl (omega (arith, lt, length_entries t m table)) read in
    same_Some _ _ (sym stands ∙ ap (λ es. slice_get es k) (sym table.declares) ∙ slice_get-map plain_entry t.entries.items k ∙ ap (option_map plain_entry) there)

-- ---- the number of a child

pub record Numbers (p : Program) (s : Scope) (row : Row) (t : Table) (k : ℕ) (e : Entry) : Type 0 where
  pub ordinal : ℕ
  pub counted : slice_get t.ordinals.items k ≡ Some ordinal
  pub number : ℕ
  pub kept : slice_get row.children.items ordinal ≡ Some number
  pub c : Scope
  pub is : child p s e ≡ Some c
  pub numbered : scope_at p number ≡ Some c

pub child_number : (p : Program) (all : Instances) (i : ℕ) (s : Scope) (row : Row) (t : Table) (k : ℕ) (e : Entry) → AreInstances p all → scope_at p i ≡ Some s → row ≡ get_or all.rows.items i row → IsTable t (module_of s) → slice_get (entries (module_of s)) k ≡ Some e → (c : Scope) → child p s e ≡ Some c → Numbers p s row t k e
child_number p all i s row t k e are at read table stands c is =
    let es = entries (module_of s) in
    let own = silent_body p i s (bodies_silent p are.silent) at in
    let nth = nth_child p own.0 s [] es k e c own.1 stands is in
    let pair = pairs_get (λ n d. slice_get (instances p) n ≡ Some d) row.children.items (children p s) (instances_in (take k es)) c (children_of_row p all i row s are read at) nth in
    record {
      ordinal = instances_in (take k es);
      counted = ap (λ ns. slice_get ns k) table.ordered ∙ counts_get 0 es k (slice_get_within es k e stands) ∙ ap Some (omega arith);
      number = pair.0;
      kept = pair.1;
      c = c;
      is = is;
      numbered = pair.2;
    }

-- an instance that is declared leads to a child
pub declared_child : (p : Program) (all : Instances) (i : ℕ) (s : Scope) (k : ℕ) (e : Entry) (process : Bool) (module_name : Name) (actuals : List Expr) → AreInstances p all → scope_at p i ≡ Some s → slice_get (entries (module_of s)) k ≡ Some e → e.entity ≡ Entity.Instance process module_name actuals → (m : Module) × (module_named p module_name ≡ Some m) × (child p s e ≡ Some (Scope.Inside s e.name process actuals m))
declared_child p all i s k e process module_name actuals are at stands is =
    let own = silent_body p i s (bodies_silent p are.silent) at in
    let member = silent_member (declaration p own.0 s) [] (entries (module_of s)) k e own.1 stands in
    let e' : Entry = record { name = e.name; line = e.line; entity = Entity.Instance process module_name actuals } in
    let same : e ≡ e' = ap (λ x. let d : Entry = record { name = e.name; line = e.line; entity = x } in d) is in
    let one = go (module_named p module_name) refl (counted p own.0 s member.0 e.name e.line (Entity.Instance process module_name actuals) (subst (λ d. Silent (declaration p own.0 s member.0 d)) same member.1)) in
    (one.0, one.1, ap (child p s) same ∙ one.2)
  where
    go : (o : Option Module) → module_named p module_name ≡ o → IsCounted p s (record { name = e.name; line = e.line; entity = Entity.Instance process module_name actuals })
        → (m : Module) × (module_named p module_name ≡ Some m) × (child p s (record { name = e.name; line = e.line; entity = Entity.Instance process module_name actuals }) ≡ Some (Scope.Inside s e.name process actuals m))
    go (Some m) found is_counted = (m, found, ap (option_map (Scope.Inside s e.name process actuals)) found)
    go None found (IsCounted.one c leads h) = absurd (let none : None ≡ Some c = sym (ap (option_map (Scope.Inside s e.name process actuals)) found) ∙ leads in cc)
    go None found (IsCounted.other none h) = absurd (let no : true ≡ false = h in cc)

-- ---- the selector

pub selector_bodies : (p : Program) → has_selector p ≡ list_any (λ e. declares_process e.entity) (entries_of (instances p))
selector_bodies p = bodies (instances p)
  where
    bodies : (xs : List Scope) → list_any (λ (e : Scope × Entry). declares_process e.1.entity) (flat_map (λ s. map (λ e. (s, e)) (entries (module_of s))) xs) ≡ list_any (λ e. declares_process e.entity) (entries_of xs)
    bodies [] = refl
    bodies (s ∷ xs) =
        list_any-append (λ (e : Scope × Entry). declares_process e.1.entity) (map (λ e. (s, e)) (entries (module_of s))) (flat_map (λ t. map (λ e. (t, e)) (entries (module_of t))) xs)
        ∙ ap (λ b. b || list_any (λ (e : Scope × Entry). declares_process e.1.entity) (flat_map (λ t. map (λ e. (t, e)) (entries (module_of t))) xs)) (any_map (λ (e : Scope × Entry). declares_process e.1.entity) (λ e. (s, e)) (entries (module_of s)))
        ∙ ap (λ b. list_any (λ e. declares_process e.entity) (entries (module_of s)) || b) (bodies xs)
        ∙ sym (list_any-append (λ (e : Entry). declares_process e.entity) (entries (module_of s)) (entries_of xs))

-- ---- the way to an instance

pub no_step : (numbering : List Scope) (k place : ℕ) (s : Scope) → IsStep numbering k None s → slice_get (actuals_of s) place ≡ None
no_step numbering k place (Scope.Main m) h = refl
no_step numbering k place (Scope.Inside around name process actuals m) h = absurd h

pub step_actuals : (numbering : List Scope) (k : ℕ) (step : Step) (s : Scope) → IsStep numbering k (Some step) s → map plain_expr step.actuals.now ≡ actuals_of s
step_actuals numbering k step (Scope.Main m) h = absurd h
step_actuals numbering k step (Scope.Inside around name process actuals m) h = h.actuals_are

pub step_absent : (numbering : List Scope) (k : ℕ) (step : Step) (s : Scope) (place : ℕ) → IsStep numbering k (Some step) s → slice_get step.actuals.now place ≡ None → slice_get (actuals_of s) place ≡ None
step_absent numbering k step s place h none = ap (λ xs. slice_get xs place) (sym (step_actuals numbering k step s h)) ∙ slice_get-map plain_expr step.actuals.now place ∙ ap (option_map plain_expr) none

pub step_actual : (p : Program) (k : ℕ) (step : Step) (s : Scope) (place : ℕ) (e : Read) → IsStep (instances p) k (Some step) s → slice_get step.actuals.now place ≡ Some e → IsActual p s place step.around (plain_expr e)
step_actual p k step (Scope.Main m) place e h at = absurd h
step_actual p k step (Scope.Inside around name process actuals m) place e h at = record {
  around = around;
  name = name;
  process = process;
  actuals = actuals;
  m = m;
  is = refl;
  numbered = h.numbered;
  stands = ap (λ xs. slice_get xs place) (sym h.actuals_are) ∙ slice_get-map plain_expr step.actuals.now place ∙ ap (option_map plain_expr) at;
}

-- ---- the names of `main`

pub constants_main : (p : Program) (m : Module) (es : List Entry) (names : List Name) → module_named p main_name ≡ Some m → es ≡ entries m → names ≡ symbols p → constants_of es names ≡ named_constant p
constants_main p m es names is same all = ap (λ ds. constants_of ds names) (same ∙ sym (main_entries p m is)) ∙ ap (constants_of (flat_map (λ s. entries (module_of s)) (main_scope p))) all
