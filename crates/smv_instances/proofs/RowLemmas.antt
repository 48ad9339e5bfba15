-- Rows of instances, and the instances that they are of.
use Rattle.std.proofs.Common.{not, cond, ◌≡◌, refl, sym, ◌∙◌, ap, subst, ℕ, zero, suc, ◌+◌, ◌<◌, arith, List, [], ◌∷◌, ◌++◌, Bool, true, false, length, map, get_or, Option, Some, None}
use Rattle.std.specs.Prelude.{slice_get, is_some, Contains}
use Rattle.std.specs.List.{list_any, position_or_len, AllZip}
use Rattle.std.specs.Str.{bytes_eq}
use Rattle.std.proofs.lemmas.Option.{slice_get_read, slice_get_within, same_Some}
use Rattle.std.proofs.lemmas.Slice.Eq.{bytes_eq-Decides}
use Rattle.std.proofs.lemmas.List.Folds.{Any-from_list_any, list_any_at, find_at}
use Rattle.std.proofs.lemmas.List.{length-map}
use Rattle.smv_instances.specs.declared.modules.Table.{Table}
use Rattle.smv_instances.specs.declared.modules.Modules.{Modules}
use Rattle.smv_instances.specs.declared.rows.Step.{Step}
use Rattle.smv_instances.specs.declared.rows.Row.{Row}
use Rattle.smv_instances.specs.Program.{Name, Module, Program}
use Rattle.smv_parser.specs.ProgramView as programs
use Rattle.smv_instances.specs.Abstract as plain
use Rattle.smv_instances.specs.Entries.{module_named}
use Rattle.smv_instances.specs.Instances.{Scope, module_of, modules_to, place_of}
use Rattle.smv_instances.specs.Tables.{IsTable, AreModules}
use Rattle.smv_instances.specs.Walk.{Stands, IsStep, IsRow, AreRows}
use Rattle.smv_instances.proofs.NameLemmas.{place_map}
use Rattle.smv_instances.proofs.TableLemmas.{bytes_eq_sym, is_some-module_named, length_pairs}

-- ---- members of lists

pub some_at : {A : Type 0} (xs : List A) (k : ℕ) → k < length xs → (x : A) × (slice_get xs k ≡ Some x)
some_at [] k lt = absurd (omega arith)
some_at (x ∷ xs) zero lt = (x, refl)
some_at (x ∷ xs) (suc k) lt = some_at xs k (omega arith)

pub slice_get_left : {A : Type 0} (xs ys : List A) (k : ℕ) (x : A) → slice_get xs k ≡ Some x → slice_get (xs ++ ys) k ≡ Some x
slice_get_left [] ys k x e = cc
slice_get_left (y ∷ xs) ys zero x e = e
slice_get_left (y ∷ xs) ys (suc k) x e = slice_get_left xs ys k x e

pub slice_get_seam : {A : Type 0} (xs ys : List A) (x : A) → slice_get (xs ++ (x ∷ ys)) (length xs) ≡ Some x
slice_get_seam [] ys x = refl
slice_get_seam (y ∷ xs) ys x = slice_get_seam xs ys x

-- ---- rows

pub row_at : (ms : Modules) (rows : List Row) (done : List Scope) (number : ℕ) (row : Row) (s : Scope) → AreRows ms rows done → number < length rows → row ≡ get_or rows number row → slice_get done number ≡ Some s → IsRow ms done number row s
row_at ms rows done number row s are lt at e = are.each number row s (slice_get_read rows _ number row refl lt at) e

pub scope_of : (ms : Modules) (rows : List Row) (done : List Scope) (number : ℕ) → AreRows ms rows done → number < length rows → (s : Scope) × (slice_get done number ≡ Some s)
scope_of ms rows done number are lt = some_at done number (omega (arith, are.lengths))

-- ---- tables

pub within_tables : (ms : Modules) (place : ℕ) (m : Module) → Stands ms place m → place < length ms.tables.items
within_tables ms place m stands = slice_get_within ms.tables.items place stands.table stands.at_place

pub table_at : (ms : Modules) (place : ℕ) (m : Module) (t : Table) → Stands ms place m → t ≡ get_or ms.tables.items place t → IsTable t m
table_at ms place m t stands at =
    subst (λ u. IsTable u m) (same_Some _ _ (sym stands.at_place ∙ slice_get_read ms.tables.items _ place t refl (within_tables ms place m stands) at)) stands.is_table

-- the module of a name stands at the name's place
pub pairs_get : {A B : Type 0} (R : A → B → Type 0) (xs : List A) (ys : List B) (k : ℕ) (y : B) → AllZip R xs ys → slice_get ys k ≡ Some y → (x : A) × (slice_get xs k ≡ Some x) × R x y
pairs_get R [] [] k y h e = absurd (let f : None ≡ Some y = e in cc)
pairs_get R [] (z ∷ zs) k y h e = absurd h
pairs_get R (w ∷ ws) [] k y h e = absurd h
pairs_get R (w ∷ ws) (z ∷ zs) zero y h e = (w, refl, subst (R w) (same_Some _ _ e) h.0)
pairs_get R (w ∷ ws) (z ∷ zs) (suc k) y h e = pairs_get R ws zs k y h.1 e

-- ---- the way from `main`

pub name_first : (s : Scope) → (rest : List Name) × (modules_to s ≡ (module_of s).name ∷ rest)
name_first (Scope.Main m) = ([], refl)
name_first (Scope.Inside around name process actuals m) = (modules_to around, refl)

pub main_way : (numbering : List Scope) (k : ℕ) (s : Scope) → IsStep numbering k None s → modules_to s ≡ (module_of s).name ∷ []
main_way numbering k (Scope.Main m) h = refl
main_way numbering k (Scope.Inside around name process actuals m) h = absurd h

pub record IsAround (numbering : List Scope) (k : ℕ) (step : Step) (s : Scope) : Type 0 where
  pub around : Scope
  pub earlier : step.around < k
  pub numbered : slice_get numbering step.around ≡ Some around
  pub way : modules_to s ≡ (module_of s).name ∷ modules_to around

pub around_of : (numbering : List Scope) (k : ℕ) (step : Step) (s : Scope) → IsStep numbering k (Some step) s → IsAround numbering k step s
around_of numbering k step (Scope.Main m) h = absurd h
around_of numbering k step (Scope.Inside around name process actuals m) h = record { around = around; earlier = h.earlier; numbered = h.numbered; way = refl }

-- ---- names among names

pub contains_name : (xs : List Name) (x : Name) → list_any (bytes_eq x) xs ≡ true → Contains xs x
contains_name xs x e =
    let found = Any-from_list_any (bytes_eq x) xs e in
    let same : x ≡ found.1 = (bytes_eq-Decides x found.1).0 found.4 in
    (found.0, found.2, subst (λ y. get_or xs found.0 y ≡ y) (sym same) found.3)

pub name_contained : (xs : List Name) (x : Name) → Contains xs x → list_any (bytes_eq x) xs ≡ true
name_contained xs x h = list_any_at (bytes_eq x) xs h.0 x h.1 ((bytes_eq-Decides x _).1 (sym h.2))

-- ---- modules by their names

pub place_tests : {A : Type 0} (p q : A → Bool) → ((x : A) → p x ≡ q x) → (xs : List A) → position_or_len p xs ≡ position_or_len q xs
place_tests p q e [] = refl
place_tests p q e (x ∷ xs) = ap (λ b. cond (not b) (1 + position_or_len p xs) 0) (e x) ∙ ap (λ n. cond (not (q x)) (1 + n) 0) (place_tests p q e xs)

pub none_of : {A : Type 0} (o : Option A) → is_some o ≡ false → o ≡ None
none_of None e = refl
none_of (Some x) e = absurd (let f : true ≡ false = e in cc)

pub module_absent : (ms : Modules) (p : Program) (x : Name) → AreModules ms p → list_any (bytes_eq x) ms.names ≡ false → module_named p x ≡ None
module_absent ms p x are e = none_of (module_named p x) (is_some-module_named p x ∙ ap (list_any (bytes_eq x)) (sym are.named) ∙ e)

pub length_modules : (ms : Modules) (p : Program) → AreModules ms p → length ms.names ≡ length ms.tables.items
length_modules ms p are = ap length are.named ∙ length-map p (λ m. m.name) ∙ sym (length_pairs IsTable ms.tables.items p are.each)

-- the module that a name leads to
pub record Named (ms : Modules) (p : Program) (x : Name) (place : ℕ) : Type 0 where
  pub m : Module
  pub is : module_named p x ≡ Some m
  pub stands : Stands ms place m

pub module_present : (ms : Modules) (p : Program) (x : Name) (place : ℕ) → AreModules ms p → place ≡ place_of ms.names x → place < length ms.names → Named ms p x place
module_present ms p x place are e lt =
    let there : place ≡ position_or_len (λ (m : Module). bytes_eq m.name x) p =
    e ∙ ap (λ ns. place_of ns x) are.named ∙ place_map (bytes_eq x) (λ (m : Module). m.name) p ∙ place_tests (λ (m : Module). bytes_eq x m.name) (λ (m : Module). bytes_eq m.name x) (λ m. bytes_eq_sym x m.name) p in
    let within : place < length p = omega (arith, length_modules ms p are, length_pairs IsTable ms.tables.items p are.each) in
    let found = some_at p place within in
    let paired = pairs_get IsTable ms.tables.items p place found.0 are.each found.1 in
    record {
      m = found.0;
      is = find_at (λ (m : Module). bytes_eq m.name x) p ∙ ap (slice_get p) (sym there) ∙ found.1;
      stands = record { table = paired.0; at_place = paired.1; is_table = paired.2 };
    }

pub present_is_found : (ms : Modules) (p : Program) (x : Name) (place : ℕ) → Named ms p x place → module_named p x ≡ None → ⊥
present_is_found ms p x place named none = let e : Some named.m ≡ None = sym named.is ∙ none in cc

pub table_formals : (t : Table) (m : Module) → IsTable t m → length m.formals ≡ length t.source.now.formals.items
table_formals t m is =
    ap (λ (n : Module). length n.formals) (sym is.read) ∙ length-map (map programs.formal t.source.now.formals.items) plain.formal ∙ length-map t.source.now.formals.items programs.formal
