-- The flat variables of bodies, entry by entry.
use Rattle.std.proofs.Common.{◌≡◌, refl, sym, ◌∙◌, ap, subst, ℕ, zero, suc, ◌+◌, ◌-◌, ◌<◌, arith, List, [], ◌∷◌, ◌++◌, length, take, get_or, Bool, true, false, Some, None, Option, append-nil, append_assoc, length-append}
use Rattle.std.specs.Prelude.{slice_get, map, flat_map, ◌||◌, option_map, pos}
use Rattle.std.specs.List.{filter_map, cons_option, list_any}
use Rattle.std.specs.Str.{bytes_eq}
use Rattle.std.proofs.lemmas.Bool.{false≢true}
use Rattle.std.proofs.lemmas.Option.{slice_get-map, slice_get_read}
use Rattle.std.proofs.lemmas.List.{take_more}
use Rattle.std.proofs.lemmas.List.Elements.{filter_map-append}
use Rattle.std.proofs.lemmas.Grind.{flat_map-append}
use Rattle.kripke_model.specs.System.{Variable}
use Rattle.smv_instances.specs.Program.{Name, Expr, Constant, Plain, Module, Program}
use Rattle.smv_instances.specs.Entries.{Entity, Entry, entries, module_named}
use Rattle.smv_instances.specs.Instances.{Scope, module_of, instances, symbols, child, children, entry_variables, variables_from, element_names, type_values, main_name, greatest_depth, variables, selector_variables, processes, process_entries, selector_name, rising}
use Rattle.kripke_model.specs.declared.expressions.Value.TheVariants.{Number}
use Rattle.smv_instances.specs.declared.rows.Row.{Row}
use Rattle.smv_instances.specs.Walk.{AreLinked}
use Rattle.smv_instances.proofs.RowLemmas.{pairs_get}
use Rattle.kripke_model.specs.declared.refusals.FlatRefusal.{FlatRefusal}
use Rattle.smv_instances.specs.Declarations.{refused_declarations, declaration}
use Rattle.kripke_model.specs.Refusing.{Silent}
use Rattle.smv_instantiate.specs.Written.{IsWrittenType, IsWritten}
use Rattle.smv_instantiate.specs.Types.{IsNamed, AreNamed, variables_named}
use Rattle.smv_instantiate.specs.Bodies.{IsEntry, front, inner_variables}
use Rattle.smv_instantiate.proofs.Members.{In, all_from, not_some, some_same}
use Rattle.smv_instantiate.proofs.NameLemmas.{bytes_same, spelled_front}
use Rattle.smv_instantiate.proofs.TreeLemmas.{declares, instances_are}
use Rattle.smv_instantiate.proofs.TypeSteps.{map-map}
use Rattle.smv_instantiate.proofs.BodyLemmas.{IsWrittenEntity, tree_is}
use Rattle.smv_instantiate.proofs.TypeLemmas.{HasAtom, constants_of}
use Rattle.smv_instantiate.proofs.TargetLemmas.{entry_written}
use Rattle.smv_instantiate.proofs.DeclaredLemmas.{kept, placed_silent, constant_there}
use Rattle.smv_instantiate.proofs.Silence.{silent_first, silent_second}

-- ---- members by their places

counted_option : {B : Type 0} (o : Option B) (ys zs : List B) (c : B) → slice_get zs (length ys) ≡ Some c → slice_get (cons_option o zs) (length (cons_option o ys)) ≡ Some c
counted_option None ys zs c h = h
counted_option (Some d) ys zs c h = h

first_option : {B : Type 0} (o : Option B) (zs : List B) (c : B) → o ≡ Some c → slice_get (cons_option o zs) 0 ≡ Some c
first_option None zs c e = absurd (not_some e)
first_option (Some d) zs c e = e

-- what the member at k gives stands after what those before it give
pub given_at : {A B : Type 0} (f : A → Option B) (xs : List A) (k : ℕ) (x : A) (c : B) → slice_get xs k ≡ Some x → f x ≡ Some c → slice_get (filter_map f xs) (length (filter_map f (take k xs))) ≡ Some c
given_at f [] k x c at is = absurd (not_some at)
given_at f (y ∷ ys) zero x c at is = first_option (f y) (filter_map f ys) c (ap f (some_same at) ∙ is)
given_at f (y ∷ ys) (suc k) x c at is = counted_option (f y) (filter_map f (take k ys)) (filter_map f ys) c (given_at f ys k x c at is)

pub slice_mapped : {A B : Type 0} (f : A → B) (xs : List A) (k : ℕ) (x : A) → slice_get xs k ≡ Some x → slice_get (map f xs) k ≡ Some (f x)
slice_mapped f xs k x e = slice_get-map f xs k ∙ ap (option_map f) e

pub read_mapped : {A B : Type 0} (f : A → B) (xs : List A) (ys : List B) (k : ℕ) (x : A) → map f xs ≡ ys → k < length xs → x ≡ get_or xs k x → slice_get ys k ≡ Some (f x)
read_mapped f xs ys k x e lt at = ap (λ zs. slice_get zs k) (sym e) ∙ slice_mapped f xs k x (slice_get_read xs _ k x refl lt at)

-- ---- named types

or_first : (a b : Bool) → a ≡ true → (a || b) ≡ true
or_first true b e = refl
or_first false b e = absurd (false≢true e)

or_second : (a b : Bool) → b ≡ true → (a || b) ≡ true
or_second true b e = refl
or_second false b e = e

pub name_among : (x : Name) (names : List Name) → In x names → list_any (bytes_eq x) names ≡ true
name_among x [] i = elim i [ ]
name_among x (y ∷ ys) In.first = or_first (bytes_eq x x) (list_any (bytes_eq x) ys) (bytes_same x)
name_among x (y ∷ ys) (In.later i) = or_second (bytes_eq x y) (list_any (bytes_eq x) ys) (name_among x ys i)

named_constant : (names : List Name) (c : Constant) → HasAtom names c → IsNamed names c
named_constant names (Constant.Atom x) i = name_among x names i
named_constant names (Constant.Digits n) i = tt
named_constant names (Constant.Truth b) i = tt

named_type : (names : List Name) (type : Plain) → ((c : Constant) → In c (constants_of type) → HasAtom names c) → AreNamed names type
named_type names Plain.Boolean has = tt
named_type names (Plain.Enumeration constants) has = all_from (IsNamed names) constants (λ c i. named_constant names c (has c i))
named_type names (Plain.Range low high) has = tt
named_type names (Plain.Array low high element) has = named_type names element has

-- ---- what a declaration gives

module _ (p : Program) (silent : Silent (refused_declarations p)) (written : IsWritten p) (s : Scope) (i : In s (instances p)) where
  pub type_written : (e : Entry) → In e (entries (module_of s)) → (type : Plain) → e.entity ≡ Entity.Stored type → IsWrittenType type
  type_written e j type is = subst IsWrittenEntity is (entry_written p (kept p silent written) s i e j).entity

  pub type_named : (e : Entry) → In e (entries (module_of s)) → (type : Plain) → e.entity ≡ Entity.Stored type → AreNamed (symbols p) type
  type_named e j type is = named_type (symbols p) type (constant_there p silent written s e type i j is)

  -- the module of an instance is there
  pub child_there : (e : Entry) → In e (entries (module_of s)) → (process : Bool) (x : Name) (actuals : List Expr) → e.entity ≡ Entity.Instance process x actuals → (c : Scope) × (child p s e ≡ Some c)
  child_there e j process x actuals is =
      let h = placed_silent p silent written s e i j in
      let r = by h.0 h.1 e.name e.line (module_named p x) refl (subst (λ z. Silent (declaration p h.0 s h.1 (record { name = e.name; line = e.line; entity = z }))) is h.2) in
      (r.0, ap (λ z. child p s (record { name = e.name; line = e.line; entity = z })) is ∙ r.1)
    where
      by : (bodies : List Scope) (b : List Entry) (name : Name) (line : ℕ) (o : Option Module) → module_named p x ≡ o → Silent (declaration p bodies s b (record { name = name; line = line; entity = Entity.Instance process x actuals }))
          → (c : Scope) × (child p s (record { name = name; line = line; entity = Entity.Instance process x actuals }) ≡ Some c)
      by bodies b name line None none h = absurd (silent_first (silent_second h) (FlatRefusal.UnknownName line) (refl, none))
      by bodies b name line (Some m) found h = (Scope.Inside s name process actuals m, ap (option_map (Scope.Inside s name process actuals)) found)

-- the child's number is noted in the row
pub child_noted : (p : Program) (rows : List Row) (i : ℕ) (row : Row) (s : Scope) (e : Entry) (before : ℕ) (c : Scope) → AreLinked p rows (instances p) 0 → slice_get rows i ≡ Some row → slice_get (instances p) i ≡ Some s → IsEntry p s e before → child p s e ≡ Some c
    → (number : ℕ) × (slice_get row.children.items before ≡ Some number) × (slice_get (instances p) number ≡ Some c)
child_noted p rows i row s e before c linked at_row at_s entry given =
    let there : slice_get (children p s) before ≡ Some c = ap (slice_get (children p s)) entry.after ∙ given_at (child p s) (entries (module_of s)) entry.k e c entry.stands given in
    pairs_get (λ n d. slice_get (instances p) n ≡ Some d) row.children.items (children p s) before c (linked i row s (omega arith) at_row at_s) there

pub child_front : (p : Program) (s : Scope) (e : Entry) (c : Scope) (f : Name) → child p s e ≡ Some c → f ≡ front s → front c ≡ f ++ e.name ++ (46 ∷ [])
child_front p s e c f given is = let d = declares p s e c given in
    ap front d.is ∙ ap (λ z. z ++ (46 ∷ [])) (spelled_front s e.name ∙ ap (λ z. z ++ e.name) (sym is))

-- ---- what an entry adds

pub stored_variables : (p : Program) (inner : Scope → List Variable) (s : Scope) (name : Name) (line : ℕ) (type : Plain) (names : List Name) (flat before : Name) → names ≡ symbols p → before ≡ front s → flat ≡ before ++ name
    → variables_named (element_names type flat) (type_values names type) line ≡ entry_variables p inner s (record { name = name; line = line; entity = Entity.Stored type })
stored_variables p inner s name line type names flat before named is spells =
    ap (λ z. variables_named (element_names type flat) (type_values z type) line) named
    ∙ ap (λ z. variables_named (element_names type z) (type_values (symbols p) type) line) (spells ∙ ap (λ z. z ++ name) is ∙ sym (spelled_front s name))

instance_variables : (p : Program) (inner : Scope → List Variable) (s : Scope) (name : Name) (line : ℕ) (process : Bool) (x : Name) (actuals : List Expr) (c : Scope)
    → child p s (record { name = name; line = line; entity = Entity.Instance process x actuals }) ≡ Some c → inner c ≡ entry_variables p inner s (record { name = name; line = line; entity = Entity.Instance process x actuals })
instance_variables p inner s name line process x actuals c given = sym (append-nil (inner c)) ∙ ap (λ o. flat_map inner (cons_option o [])) (sym given)

pub declared_variables : (p : Program) (inner : Scope → List Variable) (s : Scope) (e : Entry) (process : Bool) (x : Name) (actuals : List Expr) (c : Scope) → e.entity ≡ Entity.Instance process x actuals → child p s e ≡ Some c → inner c ≡ entry_variables p inner s e
declared_variables p inner s e process x actuals c is given =
    instance_variables p inner s e.name e.line process x actuals c (ap (λ z. child p s (record { name = e.name; line = e.line; entity = z })) (sym is) ∙ given)
    ∙ ap (λ z. entry_variables p inner s (record { name = e.name; line = e.line; entity = z })) (sym is)

pub inner_more : (p : Program) (left : ℕ) (c : Scope) → 0 < left → variables_from p (left - 1) c ≡ inner_variables p left c
inner_more p zero c some = absurd (omega arith)
inner_more p (suc n) c some = let e : suc n - 1 ≡ n = omega arith in ap (λ k. variables_from p k c) e

-- ---- one entry more

pub entry_more : (p : Program) (n : ℕ) (s : Scope) (k : ℕ) (e : Entry) (first old new : List Variable) → k < length (entries (module_of s)) → get_or (entries (module_of s)) k e ≡ e
    → old ≡ first ++ flat_map (entry_variables p (inner_variables p n) s) (take k (entries (module_of s))) → new ≡ old ++ entry_variables p (inner_variables p n) s e
    → new ≡ first ++ flat_map (entry_variables p (inner_variables p n) s) (take (k + 1) (entries (module_of s)))
entry_more p n s k e first old new lt at so_far added =
    let es = entries (module_of s) in
    let f = entry_variables p (inner_variables p n) s in
    let all : take (k + 1) es ≡ take k es ++ (e ∷ []) = take_more es k e lt ∙ ap (λ d. take k es ++ (d ∷ [])) at in
    added ∙ ap (λ vs. vs ++ f e) so_far ∙ append_assoc first (flat_map f (take k es)) (f e)
    ∙ ap (λ vs. first ++ (flat_map f (take k es) ++ vs)) (sym (append-nil (f e)))
    ∙ ap (λ vs. first ++ vs) (sym (flat_map-append f (take k es) (e ∷ [])))
    ∙ ap (λ es. first ++ flat_map f es) (sym all)

pub count_more : (p : Program) (s : Scope) (k : ℕ) (e : Entry) (before after : ℕ) → k < length (entries (module_of s)) → get_or (entries (module_of s)) k e ≡ e
    → before ≡ length (filter_map (child p s) (take k (entries (module_of s)))) → after ≡ before + length (cons_option (child p s e) [])
    → after ≡ length (filter_map (child p s) (take (k + 1) (entries (module_of s))))
count_more p s k e before after lt at so_far added =
    let es = entries (module_of s) in
    let all : take (k + 1) es ≡ take k es ++ (e ∷ []) = take_more es k e lt ∙ ap (λ d. take k es ++ (d ∷ [])) at in
    added ∙ ap (λ n. n + length (cons_option (child p s e) [])) so_far
    ∙ sym (length-append (filter_map (child p s) (take k es)) (cons_option (child p s e) []))
    ∙ ap length (sym (filter_map-append (child p s) (take k es) (e ∷ [])))
    ∙ ap (λ es. length (filter_map (child p s) es)) (sym all)

-- ---- the whole program

pub variables_root : (p : Program) (m : Module) → module_named p main_name ≡ Some m → variables p ≡ selector_variables p ++ variables_from p greatest_depth (Scope.Main m)
variables_root p m found = ap (λ vs. selector_variables p ++ vs) (ap (λ o. flat_map (variables_from p greatest_depth) (cons_option (option_map Scope.Main o) [])) found ∙ append-nil (variables_from p greatest_depth (Scope.Main m)))

pub root_first : (p : Program) (m : Module) → module_named p main_name ≡ Some m → slice_get (instances p) 0 ≡ Some (Scope.Main m)
root_first p m found = ap (λ ss. slice_get ss 0) (instances_are p m found ∙ tree_is p greatest_depth (Scope.Main m))

pub selectors_are : (p : Program) (n : ℕ) (found : Option ℕ) → n ≡ length (processes p) → cons_option found [] ≡ map (λ e. e.1.line) (take 1 (process_entries p))
    → map (λ l. record { name = selector_name; values = map (λ k. Number (pos k)) (rising 0 n); line = l }) (cons_option found []) ≡ selector_variables p
selectors_are p n found count lines =
    ap (λ m. map (λ l. record { name = selector_name; values = map (λ k. Number (pos k)) (rising 0 m); line = l }) (cons_option found [])) count
    ∙ ap (map (λ l. record { name = selector_name; values = map (λ k. Number (pos k)) (rising 0 (length (processes p))); line = l })) lines
    ∙ map-map (λ l. record { name = selector_name; values = map (λ k. Number (pos k)) (rising 0 (length (processes p))); line = l }) (λ e. e.1.line) (take 1 (process_entries p))
