-- What paths denote lies in the program's instances, and what expressions stand for names something of the model.
use Rattle.std.proofs.Common.{◌≡◌, refl, sym, ◌∙◌, ap, subst, ℕ, zero, suc, ◌<◌, ◌+◌, ◌-◌, arith, List, [], ◌∷◌, length, Bool, true, false, Some, None, Option, ◌⊎◌, inl, inr, append-nil}
use Rattle.std.specs.Prelude.{flat_map, filter, find, zip, option_map, option_and_then, All, IsTrue, IsFalse, ◌||◌}
use Rattle.std.specs.List.{cons_option, list_any}
use Rattle.std.specs.Str.{bytes_eq}
use Rattle.std.proofs.lemmas.Bool.{false≢true}
use Rattle.kripke_model.specs.Term.{Term, Terms, Arms}
use Rattle.kripke_model.specs.System.{System, Variable}
use Rattle.kripke_model.specs.Evaluable.{IsKnown}
use Rattle.kripke_model.specs.Flat.{IsSound, AreSound, AreSoundArms}
use Rattle.smv_instances.specs.Program.{Name, Expr, Exprs, Path, Plain, Module, Formal, Program}
use Rattle.smv_instances.specs.Program
use Rattle.smv_instances.specs.Entries.{Entity, Entry, entries, entity_in, module_named}
use Rattle.smv_instances.specs.Instances.{Scope, module_of, child, children, instances_from, instances, main_name, spelled, indexed, between, element_names, entry_variables, variables_from, variable_names, selector_variables, main_scope, greatest_depth, processes, process_name, is_process, place_of, symbols, is_symbol}
use Rattle.kripke_model.specs.Evaluation.{truth_value}
use Rattle.smv_names.specs.Denotes.{Bracket, Target, Meaning, bare, passed, actual_of, meaning_of, meaning, Finds, Denotes}
use Rattle.smv_names.specs.Expands.{is_array, element_name, Expands, ExpandElements, ExpandArms, Selects, IsIndex, AreIndexes}
use Rattle.smv_instantiate.specs.Written.{IsWrittenExpr, AreWritten, AreWrittenArms, IsWrittenModule, IsWritten}
use Rattle.smv_instantiate.proofs.Members.{In, all_in, in_map, in_flat, in_flat_back, in_filter, in_filter_map_back, IsBlock, block_itself, block_right, block_flat, in_block, find_in, not_some, some_same, map-append, map-flat_map}
use Rattle.smv_instantiate.proofs.TreeLemmas.{declares, HasParent, tree_parent, instances_are}
use Rattle.smv_instantiate.proofs.NameLemmas.{names_same, rising_has}
use Rattle.smv_instantiate.specs.Bodies.{inner_variables}
use Rattle.smv_instantiate.proofs.BodyLemmas.{IsWrittenEntry, IsWrittenEntity, written_entry, names_of, name_of, stored_names, variables_of_body}
use Rattle.smv_instantiate.proofs.TypeLemmas.{place_below}

-- ---- variables of an entry

-- the bound variable's type, after the indexes
abbrev pub Peels : Plain → List Bracket → Plain → Type 0
Peels root [] type = root ≡ type
Peels root (i ∷ is) type = Peels root is (Plain.Array i.low i.high type)

one_element : (type : Plain) (z : Name) → IsFalse (is_array type) → In z (element_names type z)
one_element Plain.Boolean z flat = In.first
one_element (Plain.Enumeration constants) z flat = In.first
one_element (Plain.Range low high) z flat = In.first
one_element (Plain.Array low high element) z flat = absurd (false≢true (sym flat))

-- the indexes select one of the elements
selected : (p : Program) (root type : Plain) (z w : Name) (indexes : List Bracket) (ns : List ℕ) → Peels root indexes type → AreIndexes p indexes ns → In w (element_names type (element_name z ns)) → In w (element_names root z)
selected p root type z w [] [] peeled values i = subst (λ t. In w (element_names t z)) (sym peeled) i
selected p root type z w (b ∷ bs) (n ∷ ns) peeled (AreIndexes.index (IsIndex.value expands arithmetic has from upto) rest) i =
    selected p root (Plain.Array b.low b.high type) z w bs ns peeled rest
    (in_flat (λ j. element_names type (indexed (element_name z ns) j)) (between b.low b.high) (rising_has b.low (b.high + 1 - b.low) n from (omega (arith, upto))) i)
selected p root type z w [] (n ∷ ns) peeled values i = elim values [ ]
selected p root type z w (b ∷ bs) [] peeled values i = elim values [ ]

stored_in_entry : (p : Program) (inner : Scope → List Variable) (s : Scope) (e : Entry) (root : Plain) → e.entity ≡ Entity.Stored root → IsBlock (element_names root (spelled s e.name)) (names_of (entry_variables p inner s e))
stored_in_entry p inner s e root is = by e.name e.line e.entity is
  where
    by : (name : Name) (line : ℕ) (entity : Entity) → entity ≡ Entity.Stored root → IsBlock (element_names root (spelled s name)) (names_of (entry_variables p inner s (record { name = name; line = line; entity = entity })))
    by name line entity f = subst (λ z. IsBlock (element_names root (spelled s name)) (names_of (entry_variables p inner s (record { name = name; line = line; entity = z })))) (sym f)
        (subst (IsBlock (element_names root (spelled s name))) (sym (stored_names p line root (element_names root (spelled s name)))) (block_itself (element_names root (spelled s name))))

inner_in_entry : (p : Program) (inner : Scope → List Variable) (s : Scope) (e : Entry) (c : Scope) (xs : List Name) → child p s e ≡ Some c → IsBlock xs (names_of (inner c)) → IsBlock xs (names_of (entry_variables p inner s e))
inner_in_entry p inner s e c xs given b = by e.name e.line e.entity given
  where
    by : (name : Name) (line : ℕ) (entity : Entity) → child p s (record { name = name; line = line; entity = entity }) ≡ Some c → IsBlock xs (names_of (entry_variables p inner s (record { name = name; line = line; entity = entity })))
    by name line (Entity.Instance process x actuals) f =
        subst (λ o. IsBlock xs (names_of (flat_map inner (cons_option o [])))) (sym f) (subst (λ vs. IsBlock xs (names_of vs)) (sym (append-nil (inner c))) b)
    by name line Entity.Parameter f = absurd (not_some f)
    by name line (Entity.Stored type) f = absurd (not_some f)
    by name line (Entity.Defined body) f = absurd (not_some f)

in_body : (p : Program) (n : ℕ) (s : Scope) (e : Entry) (xs : List Name) → In e (entries (module_of s)) → IsBlock xs (names_of (entry_variables p (inner_variables p n) s e)) → IsBlock xs (names_of (variables_from p n s))
in_body p n s e xs i b = subst (λ vs. IsBlock xs (names_of vs)) (sym (variables_of_body p n s))
    (subst (IsBlock xs) (sym (map-flat_map name_of (entry_variables p (inner_variables p n) s) (entries (module_of s)))) (block_flat (λ f. names_of (entry_variables p (inner_variables p n) s f)) (entries (module_of s)) i b))

-- the elements of a variable or an array stand next to one another
stored_in_tree : (p : Program) (n : ℕ) (r home : Scope) (e : Entry) (root : Plain) → In home (instances_from p n r) → In e (entries (module_of home)) → e.entity ≡ Entity.Stored root → IsBlock (element_names root (spelled home e.name)) (names_of (variables_from p n r))
stored_in_tree p zero r home e root In.first i is = in_body p zero home e (element_names root (spelled home e.name)) i (stored_in_entry p (inner_variables p zero) home e root is)
stored_in_tree p zero r home e root (In.later there) i is = elim there [ ]
stored_in_tree p (suc n) r home e root In.first i is = in_body p (suc n) home e (element_names root (spelled home e.name)) i (stored_in_entry p (inner_variables p (suc n)) home e root is)
stored_in_tree p (suc n) r home e root (In.later there) i is =
    let b = in_flat_back (instances_from p n) (children p r) there in
    let f = in_filter_map_back (child p r) (entries (module_of r)) b.1 in
    in_body p (suc n) r f.0 (element_names root (spelled home e.name)) f.1 (inner_in_entry p (variables_from p n) r f.0 b.0 (element_names root (spelled home e.name)) f.2 (stored_in_tree p n b.0 home e root b.2 i is))

-- ---- the program

-- what silence about the declarations, and the parser, give
pub record IsKept (p : Program) : Type 0 where
  pub root : Module
  pub found : module_named p main_name ≡ Some root
  pub written : IsWritten p
  -- every declared instance is one of the program's
  pub closed : (s : Scope) (e : Entry) (c : Scope) → In s (instances p) → In e (entries (module_of s)) → child p s e ≡ Some c → In c (instances p)

module _ (p : Program) (kept : IsKept p) where
  main_is : instances p ≡ instances_from p greatest_depth (Scope.Main kept.root)
  main_is = instances_are p kept.root kept.found

  pub parent_of : (t : Scope) → In t (instances p) → (t ≡ Scope.Main kept.root) ⊎ HasParent p greatest_depth (Scope.Main kept.root) t
  parent_of t i = tree_parent p greatest_depth (Scope.Main kept.root) t (subst (In t) main_is i)

  pub parent_there : (t : Scope) → In t (instances_from p greatest_depth (Scope.Main kept.root)) → In t (instances p)
  parent_there t i = subst (In t) (sym main_is) i

  pub module_written : (s : Scope) → In s (instances p) → IsWrittenModule (module_of s)
  module_written s i = by (parent_of s i)
    where
      by : (s ≡ Scope.Main kept.root) ⊎ HasParent p greatest_depth (Scope.Main kept.root) s → IsWrittenModule (module_of s)
      by (inl same) = subst (λ t. IsWrittenModule (module_of t)) (sym same) (all_in IsWrittenModule p kept.written (find_in (λ m. bytes_eq m.name main_name) p kept.found).0)
      by (inr h) = let d = declares p h.around h.entry s h.given in
          subst (λ t. IsWrittenModule (module_of t)) (sym d.is) (all_in IsWrittenModule p kept.written (find_in (λ m. bytes_eq m.name d.module_name) p d.found).0)

  pub entry_written : (s : Scope) → In s (instances p) → (e : Entry) → In e (entries (module_of s)) → IsWrittenEntry e
  entry_written s i e j = written_entry (module_of s) (module_written s i) e j

  -- ---- targets

  pub record IsStored (home : Scope) (x : Name) (type : Plain) (indexes : List Bracket) : Type 0 where
    pub entry : Entry
    pub listed : In entry (entries (module_of home))
    pub named : entry.name ≡ x
    pub root : Plain
    pub entity : entry.entity ≡ Entity.Stored root
    pub declared : entity_in (module_of home) x ≡ Some (Entity.Stored root)
    pub peeled : Peels root indexes type

  abbrev pub IsGood : Target → Type 0
  IsGood (Target.Stored home x type indexes) = In home (instances p) × IsStored home x type indexes
  IsGood (Target.Reading home e) = In home (instances p) × IsWrittenExpr e
  IsGood (Target.Instance i) = In i (instances p)
  IsGood (Target.Constant x) = IsTrue (is_symbol p x)

  abbrev pub IsGoodMeaning : Meaning → Type 0
  IsGoodMeaning (Meaning.Direct t) = IsGood t
  IsGoodMeaning (Meaning.Passed around q) = In around (instances p)

  written_bare : (e : Expr) → IsWrittenExpr e → IsWrittenExpr (bare e)
  written_bare (Expr.Parens e) w = written_bare e w
  written_bare (Expr.Number n) w = w
  written_bare (Expr.Truth b) w = w
  written_bare Expr.Running w = w
  written_bare (Expr.At q) w = w
  written_bare (Expr.Next e) w = w
  written_bare (Expr.Braces es) w = w
  written_bare (Expr.Case arms) w = w
  written_bare (Expr.Not e) w = w
  written_bare (Expr.Binary op a b) w = w
  written_bare (Expr.Quant op e) w = w
  written_bare (Expr.Until all a b) w = w

  good_passed : (around : Scope) (e : Expr) → In around (instances p) → IsWrittenExpr e → IsGoodMeaning (passed around e)
  good_passed around (Expr.At q) i w = i
  good_passed around (Expr.Parens e) i w = (i, w)
  good_passed around (Expr.Number n) i w = (i, w)
  good_passed around (Expr.Truth b) i w = (i, w)
  good_passed around Expr.Running i w = (i, w)
  good_passed around (Expr.Next e) i w = (i, w)
  good_passed around (Expr.Braces es) i w = (i, w)
  good_passed around (Expr.Case arms) i w = (i, w)
  good_passed around (Expr.Not e) i w = (i, w)
  good_passed around (Expr.Binary op a b) i w = (i, w)
  good_passed around (Expr.Quant op e) i w = (i, w)
  good_passed around (Expr.Until all a b) i w = (i, w)

  zipped : (fs : List Formal) (es : List Expr) (pair : Formal × Expr) → In pair (zip fs es) → In pair.1 es
  zipped [] es pair i = elim i [ ]
  zipped (f ∷ fs) [] pair i = elim i [ ]
  zipped (f ∷ fs) (e ∷ es) pair In.first = In.first
  zipped (f ∷ fs) (e ∷ es) pair (In.later i) = In.later (zipped fs es pair i)

  -- the actuals that were passed to an instance are written, in the instance around it
  abbrev around_or : Scope → Scope → Scope
  around_or s (Scope.Main m) = s
  around_or s (Scope.Inside around name process actuals m) = around

  abbrev actuals_or : List Expr → Scope → List Expr
  actuals_or es (Scope.Main m) = es
  actuals_or es (Scope.Inside around name process actuals m) = actuals

  abbrev is_main : Scope → Bool
  is_main (Scope.Main m) = true
  is_main (Scope.Inside around name process actuals m) = false

  pub passed_actuals : (around : Scope) (name : Name) (process : Bool) (actuals : List Expr) (m : Module) → In (Scope.Inside around name process actuals m) (instances p) → In around (instances p) × All IsWrittenExpr actuals
  passed_actuals around name process actuals m i = by (parent_of (Scope.Inside around name process actuals m) i)
    where
      by : (Scope.Inside around name process actuals m ≡ Scope.Main kept.root) ⊎ HasParent p greatest_depth (Scope.Main kept.root) (Scope.Inside around name process actuals m) → In around (instances p) × All IsWrittenExpr actuals
      by (inl same) = absurd (false≢true (ap is_main same))
      by (inr h) =
          let d = declares p h.around h.entry (Scope.Inside around name process actuals m) h.given in
          let there : In h.around (instances p) = parent_there h.around h.there in
          let w = entry_written h.around there h.entry h.listed in
          let a : around ≡ h.around = ap (around_or around) d.is in
          let b : actuals ≡ d.actuals = ap (actuals_or actuals) d.is in
          (subst (λ s. In s (instances p)) (sym a) there, subst (λ es. All IsWrittenExpr es) (sym b) (subst IsWrittenEntity d.entity w.entity))

  good_actual : (s : Scope) (x : Name) (M : Meaning) → In s (instances p) → option_map (λ (r : Scope × Expr). passed r.0 r.1) (actual_of s x) ≡ Some M → IsGoodMeaning M
  good_actual (Scope.Main m) x M i e = absurd (not_some e)
  good_actual (Scope.Inside around name process actuals m) x M i e = by (find (λ (pair : Formal × Expr). bytes_eq pair.0.name x) (zip m.formals actuals)) refl e
    where
      by : (o : Option (Formal × Expr)) → find (λ (pair : Formal × Expr). bytes_eq pair.0.name x) (zip m.formals actuals) ≡ o → option_map (λ (r : Scope × Expr). passed r.0 r.1) (option_map (λ (pair : Formal × Expr). (around, bare pair.1)) o) ≡ Some M → IsGoodMeaning M
      by None found f = absurd (not_some f)
      by (Some pair) found f =
          let h = passed_actuals around name process actuals m i in
          let w : IsWrittenExpr pair.1 = all_in IsWrittenExpr actuals h.1 (zipped m.formals actuals pair (find_in (λ (pair : Formal × Expr). bytes_eq pair.0.name x) (zip m.formals actuals) found).0) in
          subst IsGoodMeaning (some_same f) (good_passed around (bare pair.1) h.0 (written_bare pair.1 w))

  good_entity : (s : Scope) (x : Name) (e : Entry) (M : Meaning) (entity : Entity) → In s (instances p) → In e (entries (module_of s)) → e.name ≡ x → entity_in (module_of s) x ≡ Some e.entity → e.entity ≡ entity → meaning_of p s x entity ≡ Some M → IsGoodMeaning M
  good_entity s x e M Entity.Parameter i j named declared is given = good_actual s x M i given
  good_entity s x e M (Entity.Stored type) i j named declared is given =
      subst IsGoodMeaning (some_same given) (i, record { entry = e; listed = j; named = named; root = type; entity = is; declared = declared ∙ ap Some is; peeled = refl })
  good_entity s x e M (Entity.Defined body) i j named declared is given = subst IsGoodMeaning (some_same given) (i, subst IsWrittenEntity is (entry_written s i e j).entity)
  good_entity s x e M (Entity.Instance process y actuals) i j named declared is given = by (module_named p y) refl given
    where
      child_is : (m : Module) → module_named p y ≡ Some m → child p s e ≡ Some (Scope.Inside s e.name process actuals m)
      child_is m found = ap (λ z. child p s (record { name = e.name; line = e.line; entity = z })) is ∙ ap (option_map (Scope.Inside s e.name process actuals)) found

      by : (o : Option Module) → module_named p y ≡ o → option_map (λ m. Meaning.Direct (Target.Instance (Scope.Inside s x process actuals m))) o ≡ Some M → IsGoodMeaning M
      by None found f = absurd (not_some f)
      by (Some m) found f = subst IsGoodMeaning (some_same f) (subst (λ z. In (Scope.Inside s z process actuals m) (instances p)) named (kept.closed s e (Scope.Inside s e.name process actuals m) i j (child_is m found)))

  pub good_meaning : (s : Scope) (x : Name) (M : Meaning) → In s (instances p) → meaning p s x ≡ Some M → IsGoodMeaning M
  good_meaning s x M i given = by (find (λ e. bytes_eq e.name x) (entries (module_of s))) refl given
    where
      by : (o : Option Entry) → find (λ e. bytes_eq e.name x) (entries (module_of s)) ≡ o → option_and_then (meaning_of p s x) (option_map (λ e. e.entity) o) ≡ Some M → IsGoodMeaning M
      by None found f = absurd (not_some f)
      by (Some e) found f = let r = find_in (λ e. bytes_eq e.name x) (entries (module_of s)) found in good_entity s x e M e.entity i r.0 (names_same e.name x r.1) (ap (option_map (λ (d : Entry). d.entity)) found) refl f

  mutual
    good_find : {s : Scope} {x : Name} {t : Target} → Finds p s x t → In s (instances p) → IsGood t
    good_find (Finds.direct e) i = good_meaning _ _ _ i e
    good_find (Finds.passed_on e d) i = good_target d (good_meaning _ _ _ i e)

    pub good_target : {s : Scope} {q : Path} {t : Target} → Denotes p s q t → In s (instances p) → IsGood t
    good_target (Denotes.here f) i = good_find f i
    good_target (Denotes.constant none symbol) i = symbol
    good_target (Denotes.field d f) i = good_find f (good_target d i)
    good_target (Denotes.index d) i = let g = good_target d i in
        (g.0, record { entry = g.1.entry; listed = g.1.listed; named = g.1.named; root = g.1.root; entity = g.1.entity; declared = g.1.declared; peeled = g.1.peeled })

  -- ---- numbers

  pub stored_block : (home : Scope) (e : Entry) (root : Plain) → In home (instances p) → In e (entries (module_of home)) → e.entity ≡ Entity.Stored root → IsBlock (element_names root (spelled home e.name)) (variable_names p)
  stored_block home e root i j is = subst (IsBlock (element_names root (spelled home e.name))) (sym (map-append name_of (selector_variables p) (flat_map (variables_from p greatest_depth) (main_scope p))))
      (block_right (names_of (selector_variables p)) (names_of (flat_map (variables_from p greatest_depth) (main_scope p)))
      (subst (λ vs. IsBlock (element_names root (spelled home e.name)) (names_of vs)) (sym body) (stored_in_tree p greatest_depth (Scope.Main kept.root) home e root (subst (In home) main_is i) j is)))
    where
      body : flat_map (variables_from p greatest_depth) (main_scope p) ≡ variables_from p greatest_depth (Scope.Main kept.root)
      body = ap (λ o. flat_map (variables_from p greatest_depth) (cons_option (option_map Scope.Main o) [])) kept.found ∙ append-nil (variables_from p greatest_depth (Scope.Main kept.root))

  pub selected_below : {s : Scope} {q : Path} {k : ℕ} → Selects p s q k → In s (instances p) → k < length (variable_names p)
  selected_below (Selects.cell {home} {x} {type} {indexes} {ns} d flat values) i =
      let g = good_target d i in
      let e = g.1 in
      let z : In (element_name (spelled home x) ns) (element_names e.root (spelled home x)) = selected p e.root type (spelled home x) (element_name (spelled home x) ns) indexes ns e.peeled values (one_element type (element_name (spelled home x) ns) flat) in
      place_below (element_name (spelled home x) ns) (variable_names p)
      (in_block (stored_block home e.entry e.root g.0 e.listed e.entity) (subst (λ y. In (element_name (spelled home x) ns) (element_names e.root (spelled home y))) (sym e.named) z))

  in_processes : (s : Scope) → In s (instances p) → is_process s ≡ true → In (process_name s) (processes p)
  in_processes s i its = in_map process_name (filter is_process (instances p)) (in_filter is_process (instances p) i its)

  pub has_process : (s : Scope) → In s (instances p) → In (process_name s) (processes p)
  has_process (Scope.Main m) i = in_processes (Scope.Main m) i refl
  has_process (Scope.Inside around name true actuals m) i = in_processes (Scope.Inside around name true actuals m) i refl
  has_process (Scope.Inside around name false actuals m) i = has_process around (passed_actuals around name false actuals m i).0

  pub process_below : (s : Scope) → In s (instances p) → place_of (processes p) (process_name s) < length (processes p)
  process_below s i = place_below (process_name s) (processes p) (has_process s i)

  symbol_there : (x : Name) (names : List Name) → list_any (bytes_eq x) names ≡ true → In x names
  symbol_there x [] e = absurd (false≢true e)
  symbol_there x (y ∷ ys) e = by (bytes_eq x y) refl e (λ f. symbol_there x ys f)
    where
      by : (b : Bool) → bytes_eq x y ≡ b → (b || list_any (bytes_eq x) ys) ≡ true → (list_any (bytes_eq x) ys ≡ true → In x ys) → In x (y ∷ ys)
      by true f g rest = subst (λ z. In x (z ∷ ys)) (names_same x y f) In.first
      by false f g rest = In.later (rest g)

  pub symbol_below : (x : Name) → IsTrue (is_symbol p x) → place_of (symbols p) x < length (symbols p)
  symbol_below x e = place_below x (symbols p) (symbol_there x (symbols p) e)

  -- ---- expressions

  -- a system of as many names
  pub record HasNames (m : System) : Type 0 where
    pub vars : length m.vars ≡ length (variable_names p)
    pub processes : length m.processes ≡ length (processes p)
    pub symbols : length m.symbols ≡ length (symbols p)

  truth_known : (m : System) (b : Bool) → IsKnown m (truth_value b)
  truth_known m true = tt
  truth_known m false = tt

  mutual
    pub sound : (m : System) → HasNames m → {s : Scope} {e : Expr} {t : Term} → Expands p s e t → In s (instances p) → IsWrittenExpr e → IsSound m t
    sound m h Expands.number i w = tt
    sound m h (Expands.truth {b}) i w = truth_known m b
    sound m h (Expands.running {s}) i w = subst (λ n. place_of (processes p) (process_name s) < n) (sym h.processes) (process_below s i)
    sound m h (Expands.variable {x} selects) i w = subst (λ n. x < n) (sym h.vars) (selected_below selects i)
    sound m h (Expands.constant {x} d) i w = subst (λ n. place_of (symbols p) x < n) (sym h.symbols) (symbol_below x (good_target d i))
    sound m h (Expands.read d x) i w = let g = good_target d i in sound m h x g.0 g.1
    sound m h (Expands.next x) i w = sound m h x i w
    sound m h (Expands.parens x) i w = sound m h x i w
    sound m h (Expands.braces ExpandElements.last_element) i w = absurd w
    sound m h (Expands.braces (ExpandElements.element x xs)) i w = (sound m h x i w.0, all_sound m h xs i w.1)
    sound m h (Expands.cases ExpandArms.last_arm) i w = absurd w
    sound m h (Expands.cases (ExpandArms.arm x y xs)) i w = (sound m h x i w.0, sound m h y i w.1, arms_sound m h xs i w.2)
    sound m h (Expands.negation x) i w = sound m h x i w
    sound m h (Expands.binary x y) i w = (sound m h x i w.0, sound m h y i w.1)
    sound m h (Expands.quantified x) i w = sound m h x i w
    sound m h (Expands.until x y) i w = (sound m h x i w.0, sound m h y i w.1)

    all_sound : (m : System) → HasNames m → {s : Scope} {es : Exprs} {ts : Terms} → ExpandElements p s es ts → In s (instances p) → AreWritten es → AreSound m ts
    all_sound m h ExpandElements.last_element i w = tt
    all_sound m h (ExpandElements.element x xs) i w = (sound m h x i w.0, all_sound m h xs i w.1)

    arms_sound : (m : System) → HasNames m → {s : Scope} {arms : Program.Arms} {ts : Arms} → ExpandArms p s arms ts → In s (instances p) → AreWrittenArms arms → AreSoundArms m ts
    arms_sound m h ExpandArms.last_arm i w = tt
    arms_sound m h (ExpandArms.arm x y xs) i w = (sound m h x i w.0, sound m h y i w.1, arms_sound m h xs i w.2)
