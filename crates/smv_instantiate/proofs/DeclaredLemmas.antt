-- What silence about the declarations of a written program gives: distinct names of the right form, and few of them.
use Rattle.std.proofs.Common.{◌≡◌, refl, sym, ◌∙◌, ap, subst, ℕ, zero, suc, ◌<◌, ◌≤◌, ◌+◌, ◌*◌, arith, List, [], ◌∷◌, ◌++◌, length, take, drop, Bool, true, false, cond, Some, None, Option, ◌⊎◌, inl, inr, append-nil}
use Rattle.std.specs.Prelude.{map, flat_map, filter, option_map, All, ℤ, pos, ◌+ℤ◌, sum_by, ◌||◌, not}
use Rattle.std.specs.List.{cons_option, list_any}
use Rattle.std.proofs.lemmas.Bool.{false≢true, cases_lt}
use Rattle.kripke_model.specs.declared.expressions.Value.{Value}
use Rattle.kripke_model.specs.declared.expressions.Value.TheVariants.{Number}
use Rattle.kripke_model.specs.Refusing.{Silent}
use Rattle.kripke_model.specs.Names.{IsAtom, IsVariableName, IsProcessName}
use Rattle.kripke_model.specs.System.{System, Variable}
use Rattle.kripke_model.specs.Evaluable.{IsKnown}
use Rattle.kripke_model.specs.Evaluation.{same, distinct}
use Rattle.kripke_model.specs.declared.refusals.FlatRefusal.{FlatRefusal}
use Rattle.kripke_model.specs.declared.refusals.Which.{Which}
use Rattle.smv_instances.specs.Program.{Name, Expr, Constant, Plain, Module, Program}
use Rattle.smv_instances.specs.Entries.{Entity, Entry, entries, module_named}
use Rattle.smv_instances.specs.Instances.{Scope, module_of, depth, child, children, instances_from, instances, main_name, greatest_depth, all_entries, spelled, processes, process_name, is_process, process_entries, has_selector, declares_process, selector_name, selector_variables, variables, variables_from, symbols, atoms_of, atoms_in, atom, rising, integer_count, element_names, entry_variables, type_values, place_of, value_of}
use Rattle.smv_instances.specs.Declarations.{refused_declarations, PlacedEntry, entries_of, declaration, body, variables_in, instances_in, one_if, is_reversed, value_count}
use Rattle.smv_instantiate.specs.Bodies.{front}
use Rattle.smv_instantiate.specs.Written.{IsWrittenType, IsWrittenConstant, IsWritten}
use Rattle.smv_instantiate.proofs.Members.{In, all_from, all_of_each, each_from, each_in, each_append, all_in, in_left, in_right, in_map, in_map_back, in_flat, in_flat_back, in_filter_back, in_filter_map, in_filter_map_back, any_in, Distinct, distinct_append, map-append, not_some, some_same}
use Rattle.smv_instantiate.proofs.Silence.{silent_first, silent_second, EachAfter, silent_each, after_in, after_earlier}
use Rattle.smv_instantiate.proofs.TreeLemmas.{declares, HasParent, tree_child, tree_parent, instances_are}
use Rattle.smv_instantiate.proofs.NameLemmas.{IsMark, IsClear, Ends, tail_clear, atom_clear, not_selector, atom_named, process_named, variable_named, elements_named, elements_continue}
use Rattle.smv_instantiate.proofs.BodyLemmas.{IsGoodBody, IsWrittenEntity, names_of, name_of, AreBelow, variable_names_below, paths_below, path_of, paths_of, below, tree_is}
use Rattle.smv_instantiate.proofs.TypeLemmas.{HasAtom, atom_in_type, constants_of, type_distinct, type_count, some_value, in_distinct_names, place_below, length_rising, length_map, numbers_distinct}
use Rattle.smv_instantiate.proofs.CountLemmas.{total, sum_is_total, total_one, weight, body_weight, body_instances, variables_total, instances_total, variables_counted, instances_counted, few_variables, few_instances, same_selector, selector_count}
use Rattle.smv_instantiate.proofs.TargetLemmas.{IsKept, parent_of, parent_there, entry_written}
use Rattle.smv_instantiate.proofs.SymbolLemmas.{IsKeptEntry, symbols_few}

-- ---- lists

map_same : {A B : Type 0} (f g : A → B) (xs : List A) → ((x : A) → In x xs → f x ≡ g x) → map f xs ≡ map g xs
map_same f g [] e = refl
map_same f g (x ∷ xs) e = ap (λ y. y ∷ map f xs) (e x In.first) ∙ ap (λ ys. g x ∷ ys) (map_same f g xs (λ y i. e y (In.later i)))

length_append : {A : Type 0} (xs ys : List A) → length (xs ++ ys) ≡ length xs + length ys
length_append [] ys = omega arith
length_append (x ∷ xs) ys = let e : length (xs ++ ys) ≡ length xs + length ys = length_append xs ys in omega (arith, e)

filtered_kept : {A B : Type 0} (f : A → B) (b : Bool) (x : A) (ys : List A) → (In (f x) (map f ys) → ⊥) → Distinct (map f ys) → Distinct (map f (cond b (x ∷ ys) ys))
filtered_kept f true x ys new h = (new, h)
filtered_kept f false x ys new h = h

distinct_filtered : {A B : Type 0} (f : A → B) (t : A → Bool) (xs : List A) → Distinct (map f xs) → Distinct (map f (filter t xs))
distinct_filtered f t [] h = tt
distinct_filtered f t (x ∷ xs) h = filtered_kept f (t x) x (filter t xs)
    (λ i. let b = in_map_back f (filter t xs) i in h.0 (subst (λ y. In y (map f xs)) (sym b.2) (in_map f xs (in_filter_back t xs b.1).0))) (distinct_filtered f t xs h.1)

none_kept : {A : Type 0} (b : Bool) (x : A) (ys : List A) → (b ≡ true → ⊥) → ys ≡ [] → cond b (x ∷ ys) ys ≡ []
none_kept true x ys never e = absurd (never refl)
none_kept false x ys never e = e

filter_none : {A : Type 0} (t : A → Bool) (xs : List A) → ((x : A) → In x xs → t x ≡ true → ⊥) → filter t xs ≡ []
filter_none t [] never = refl
filter_none t (x ∷ xs) never = none_kept (t x) x (filter t xs) (never x In.first) (filter_none t xs (λ y i. never y (In.later i)))

fewer_kept : {A : Type 0} (b : Bool) (x : A) (ys : List A) (n : ℕ) → length ys ≤ n → length (cond b (x ∷ ys) ys) ≤ suc n
fewer_kept true x ys n h = omega (arith, h)
fewer_kept false x ys n h = omega (arith, h)

pub filter_fewer : {A : Type 0} (t : A → Bool) (xs : List A) → length (filter t xs) ≤ length xs
filter_fewer t [] = omega arith
filter_fewer t (x ∷ xs) = fewer_kept (t x) x (filter t xs) (length xs) (filter_fewer t xs)

or_first : (a b : Bool) → a ≡ true → (a || b) ≡ true
or_first true b e = refl
or_first false b e = absurd (false≢true e)

or_second : (a b : Bool) → b ≡ true → (a || b) ≡ true
or_second true b e = refl
or_second false b e = e

any_test : {A : Type 0} (t : A → Bool) {x : A} (xs : List A) → In x xs → t x ≡ true → list_any t xs ≡ true
any_test t [] i e = elim i [ ]
any_test t (y ∷ ys) In.first e = or_first (t y) (list_any t ys) e
any_test t (y ∷ ys) (In.later i) e = or_second (t y) (list_any t ys) (any_test t ys i e)

pub drop_first : {A : Type 0} (xs ys : List A) → length xs ≡ 1 → drop 1 (xs ++ ys) ≡ ys
drop_first [] ys e = absurd (omega (arith, e))
drop_first (x ∷ []) ys e = refl
drop_first (x ∷ (z ∷ zs)) ys e = absurd (omega (arith, e))

pub drop_none : {A : Type 0} (xs ys : List A) → length xs ≡ 0 → drop 0 (xs ++ ys) ≡ ys
drop_none [] ys e = refl
drop_none (x ∷ xs) ys e = absurd (omega (arith, e))

-- ---- instances

abbrev around_or : Scope → Scope → Scope
around_or s (Scope.Main m) = s
around_or s (Scope.Inside around name process actuals m) = around

abbrev name_or : Name → Scope → Name
name_or x (Scope.Main m) = x
name_or x (Scope.Inside around name process actuals m) = name

abbrev process_or : Bool → Scope → Bool
process_or b (Scope.Main m) = b
process_or b (Scope.Inside around name process actuals m) = process

abbrev is_inside : Scope → Bool
is_inside (Scope.Main m) = false
is_inside (Scope.Inside around name process actuals m) = true

child_inside : (p : Program) (s : Scope) (e : Entry) (c : Scope) → child p s e ≡ Some c → is_inside c ≡ true
child_inside p s e c given = ap is_inside (declares p s e c given).is

tree_inside : (p : Program) (n : ℕ) (c t : Scope) → is_inside c ≡ true → In t (instances_from p n c) → is_inside t ≡ true
tree_inside p n c t inside i = by (tree_parent p n c t i)
  where
    by : (t ≡ c) ⊎ HasParent p n c t → is_inside t ≡ true
    by (inl same) = ap is_inside same ∙ inside
    by (inr h) = child_inside p h.around h.entry t h.given

inside_below : (p : Program) (n : ℕ) (s t : Scope) → In t (below p n s) → is_inside t ≡ true
inside_below p zero s t i = elim i [ ]
inside_below p (suc n) s t i =
    let b = in_flat_back (instances_from p n) (children p s) i in
    let f = in_filter_map_back (child p s) (entries (module_of s)) b.1 in
    tree_inside p n b.0 t (child_inside p s f.0 b.0 f.2) b.2

-- ---- variables

abbrev selector_variable : Program → Scope × Entry → Variable
selector_variable p e = record { name = selector_name; values = map (λ k. Number (pos k)) (rising 0 (length (processes p))); line = e.1.line }

distinct_one : {A : Type 0} (f : A → Variable) (xs : List A) → Distinct (names_of (map f (take 1 xs)))
distinct_one f [] = tt
distinct_one f (x ∷ xs) = (λ i. elim i [ ], tt)

-- the declaration that a variable comes from
record Origin (p : Program) (n : ℕ) (r : Scope) (v : Variable) : Type 0 where
  home : Scope
  entry : Entry
  type : Plain
  there : In home (instances_from p n r)
  listed : In entry (entries (module_of home))
  entity : entry.entity ≡ Entity.Stored type
  name : In v.name (element_names type (spelled home entry.name))
  values : v.values ≡ type_values (symbols p) type

-- of one entry: its own, or those of the instance that it declares
data FromEntry (p : Program) (inner : Scope → List Variable) (s : Scope) (e : Entry) (v : Variable) : Type 0 where
  own : (type : Plain) → e.entity ≡ Entity.Stored type → In v.name (element_names type (spelled s e.name)) → v.values ≡ type_values (symbols p) type → FromEntry p inner s e v
  deeper : (c : Scope) → child p s e ≡ Some c → In v (inner c) → FromEntry p inner s e v

in_option : {A : Type 0} {x : A} (o : Option A) → In x (cons_option o []) → o ≡ Some x
in_option None i = elim i [ ]
in_option (Some y) In.first = refl
in_option (Some y) (In.later i) = elim i [ ]

from_entry : (p : Program) (inner : Scope → List Variable) (s : Scope) (name : Name) (line : ℕ) (entity : Entity) (v : Variable) → In v (entry_variables p inner s (record { name = name; line = line; entity = entity })) → FromEntry p inner s (record { name = name; line = line; entity = entity }) v
from_entry p inner s name line Entity.Parameter v i = elim i [ ]
from_entry p inner s name line (Entity.Defined body) v i = elim i [ ]
from_entry p inner s name line (Entity.Stored type) v i =
    let b = in_map_back (λ x. record { name = x; values = type_values (symbols p) type; line = line }) (element_names type (spelled s name)) i in
    FromEntry.own type refl (subst (λ x. In x (element_names type (spelled s name))) (sym (ap (λ w. w.name) b.2)) b.1) (ap (λ w. w.values) b.2)
from_entry p inner s name line (Entity.Instance process x actuals) v i =
    let b = in_flat_back inner (cons_option (child p s (record { name = name; line = line; entity = Entity.Instance process x actuals })) []) i in
    FromEntry.deeper b.0 (in_option (child p s (record { name = name; line = line; entity = Entity.Instance process x actuals })) b.1) b.2

origin : (p : Program) (n : ℕ) (r : Scope) (v : Variable) → In v (variables_from p n r) → Origin p n r v
origin p zero r v i =
    let b = in_flat_back (entry_variables p (λ c. []) r) (entries (module_of r)) i in
    by b.0 b.1 (from_entry p (λ c. []) r b.0.name b.0.line b.0.entity v b.2)
  where
    by : (e : Entry) → In e (entries (module_of r)) → FromEntry p (λ c. []) r e v → Origin p zero r v
    by e j (FromEntry.own type is name values) = record { home = r; entry = e; type = type; there = In.first; listed = j; entity = is; name = name; values = values }
    by e j (FromEntry.deeper c given k) = elim k [ ]
origin p (suc n) r v i =
    let b = in_flat_back (entry_variables p (variables_from p n) r) (entries (module_of r)) i in
    by b.0 b.1 (from_entry p (variables_from p n) r b.0.name b.0.line b.0.entity v b.2) (λ c j. origin p n c v j)
  where
    by : (e : Entry) → In e (entries (module_of r)) → FromEntry p (variables_from p n) r e v → ((c : Scope) → In v (variables_from p n c) → Origin p n c v) → Origin p (suc n) r v
    by e j (FromEntry.own type is name values) rest = record { home = r; entry = e; type = type; there = In.first; listed = j; entity = is; name = name; values = values }
    by e j (FromEntry.deeper c given k) rest = let o = rest c k in record {
      home = o.home;
      entry = o.entry;
      type = o.type;
      there = In.later (in_flat (instances_from p n) (children p r) (in_filter_map (child p r) (entries (module_of r)) j given) o.there);
      listed = o.listed;
      entity = o.entity;
      name = o.name;
      values = o.values;
    }

-- ---- types

constant_known : (m : System) (names : List Name) (c : Constant) → length names ≡ length m.symbols → HasAtom names c → IsKnown m (value_of names c)
constant_known m names (Constant.Atom x) same i = subst (λ n. place_of names x < n) same (place_below x names i)
constant_known m names (Constant.Digits n) same i = tt
constant_known m names (Constant.Truth true) same i = tt
constant_known m names (Constant.Truth false) same i = tt

in_values : (v : Value) (vs : List Value) → In v (distinct vs) → In v vs
in_values v [] i = i
in_values v (w ∷ ws) In.first = In.first
in_values v (w ∷ ws) (In.later i) = In.later (in_values v ws (in_filter_back (λ u. not (same w u)) (distinct ws) i).0)

numbers_known : (m : System) (f : ℕ → ℤ) (low n : ℕ) → All (IsKnown m) (map (λ k. Number (f k)) (rising low n))
numbers_known m f low n = all_from (IsKnown m) (map (λ k. Number (f k)) (rising low n)) (λ w j. let b = in_map_back (λ k. Number (f k)) (rising low n) j in subst (IsKnown m) (sym b.2) tt)

type_known : (m : System) (names : List Name) (type : Plain) → length names ≡ length m.symbols → ((c : Constant) → In c (constants_of type) → HasAtom names c) → All (IsKnown m) (type_values names type)
type_known m names Plain.Boolean same has = numbers_known m pos 0 2
type_known m names (Plain.Enumeration constants) same has = all_from (IsKnown m) (distinct (map (value_of names) constants))
    (λ v i. let b = in_map_back (value_of names) constants (in_values v (map (value_of names) constants) i) in subst (IsKnown m) (sym b.2) (constant_known m names b.0 same (has b.0 b.1)))
type_known m names (Plain.Range low high) same has = numbers_known m (λ k. low +ℤ pos k) 0 (integer_count low high)
type_known m names (Plain.Array low high element) same has = type_known m names element same has

atom_written : (c : Constant) (x : Name) → IsWrittenConstant c → atom c ≡ Some x → IsAtom x
atom_written (Constant.Atom y) x w e = subst IsAtom (some_same e) w
atom_written (Constant.Digits n) x w e = absurd (not_some e)
atom_written (Constant.Truth b) x w e = absurd (not_some e)

type_atoms : (type : Plain) (x : Name) → IsWrittenType type → In x (atoms_in type) → IsAtom x
type_atoms Plain.Boolean x w i = elim i [ ]
type_atoms (Plain.Enumeration constants) x w i = let b = in_filter_map_back atom constants i in atom_written b.0 x (all_in IsWrittenConstant constants w.1 b.1) b.2
type_atoms (Plain.Range low high) x w i = elim i [ ]
type_atoms (Plain.Array low high element) x w i = type_atoms element x w.2 i

pub atoms_written : (e : Entity) (x : Name) → IsWrittenEntity e → In x (atoms_of e) → IsAtom x
atoms_written (Entity.Stored type) x w i = type_atoms type x w i
atoms_written Entity.Parameter x w i = elim i [ ]
atoms_written (Entity.Instance process y actuals) x w i = elim i [ ]
atoms_written (Entity.Defined body) x w i = elim i [ ]

-- ---- what silence gives

module _ (p : Program) (silent : Silent (refused_declarations p)) (written : IsWritten p) where
  declared_silent : EachAfter (λ b s. Silent (body p b s)) [] (instances p)
  declared_silent = silent_each (body p) [] (instances p) (silent_first (silent_second (silent_second silent)))

  some_main : (o : Option Module) → module_named p main_name ≡ o → (m : Module) × (module_named p main_name ≡ Some m)
  some_main None e = absurd (silent_first (silent_second silent) FlatRefusal.NoMain (refl, λ m found none. not_some (sym e ∙ found)))
  some_main (Some m) e = (m, e)

  pub root_module : (m : Module) × (module_named p main_name ≡ Some m)
  root_module = some_main (module_named p main_name) refl

  pub placed_silent : (s : Scope) (e : Entry) → In s (instances p) → In e (entries (module_of s)) → (bodies : List Scope) × (b : List Entry) × Silent (declaration p bodies s b e)
  placed_silent s e i j =
      let h = after_in (λ b t. Silent (body p b t)) [] (instances p) declared_silent i in
      let r = after_in (λ b x. Silent (declaration p h.0 s b x)) [] (entries (module_of s)) (silent_each (declaration p h.0 s) [] (entries (module_of s)) h.1) j in
      (h.0, r.0, r.1)

  -- a child of an instance lies no deeper than 32
  child_within : (s : Scope) (e : Entry) (c : Scope) → In s (instances p) → In e (entries (module_of s)) → child p s e ≡ Some c → depth s < 32
  child_within s e c i j given =
      let d = declares p s e c given in
      let h = placed_silent s e i j in
      within h.0 h.1 d.process d.module_name d.actuals (subst (λ z. Silent (declaration p h.0 s h.1 (record { name = e.name; line = e.line; entity = z }))) d.entity h.2)
    where
      within : (bodies : List Scope) (b : List Entry) (process : Bool) (x : Name) (actuals : List Expr) → Silent (declaration p bodies s b (record { name = e.name; line = e.line; entity = Entity.Instance process x actuals })) → depth s < 32
      within bodies b process x actuals h = elim (cases_lt (depth s) 32) [ inl few ↦ few | inr more ↦ absurd (silent_second (silent_second (silent_second (silent_second (silent_second (silent_second h))))) (FlatRefusal.Limit e.line Which.Depth 33) (refl, omega (arith, more))) ]

  pub kept : IsKept p
  kept = record {
    root = root_module.0;
    found = root_module.1;
    written = written;
    closed = λ s e c i j given. closed s e c i j given;
  }
    where
      closed : (s : Scope) (e : Entry) (c : Scope) → In s (instances p) → In e (entries (module_of s)) → child p s e ≡ Some c → In c (instances p)
      closed s e c i j given = subst (In c) (sym (instances_are p root_module.0 root_module.1))
          (tree_child p greatest_depth (Scope.Main root_module.0) s e c (subst (In s) (instances_are p root_module.0 root_module.1) i) j given (omega (arith, child_within s e c i j given)))

  root : Scope
  root = Scope.Main kept.root

  pub tree : instances p ≡ instances_from p greatest_depth (Scope.Main kept.root)
  tree = instances_are p kept.root kept.found

  -- ---- bodies

  names_once : (bodies : List Scope) (s : Scope) (b es : List Entry) → EachAfter (λ c x. Silent (declaration p bodies s c x)) b es → Distinct (map (λ e. e.name) es)
  names_once bodies s b [] h = tt
  names_once bodies s b (e ∷ es) h = (
    λ i. let f = in_map_back (λ e. e.name) es i in
        let r = after_earlier (λ c x. Silent (declaration p bodies s c x)) (b ++ (e ∷ [])) es h.1 (in_right b (e ∷ []) In.first) f.1 in
        silent_first r.2 (FlatRefusal.DuplicateName f.0.line) (refl, inl (any_in (λ (other : Entry). other.name ≡ f.0.name) r.0 r.1 f.2)),
    names_once bodies s (b ++ (e ∷ [])) es h.1,
  )

  good_body : (s : Scope) → In s (instances p) → IsGoodBody (module_of s)
  good_body s i = record {
    written = λ e j. entry_written p kept s i e j;
    distinct = let r = after_in (λ b t. Silent (body p b t)) [] (instances p) declared_silent i in
        names_once r.0 s [] (entries (module_of s)) (silent_each (declaration p r.0 s) [] (entries (module_of s)) r.1);
  }

  good_tree : (t : Scope) → In t (instances_from p greatest_depth (Scope.Main kept.root)) → IsGoodBody (module_of t)
  good_tree t i = good_body t (subst (In t) (sym tree) i)

  -- ---- the way to an instance

  record IsListed (around : Scope) (name : Name) (process : Bool) : Type 0 where
    around_there : In around (instances p)
    entry : Entry
    there : In entry (entries (module_of around))
    named : entry.name ≡ name
    is : declares_process entry.entity ≡ process

  listed : (around : Scope) (name : Name) (process : Bool) (actuals : List Expr) (m : Module) → In (Scope.Inside around name process actuals m) (instances p) → IsListed around name process
  listed around name process actuals m i = by (parent_of p kept (Scope.Inside around name process actuals m) i)
    where
      by : (Scope.Inside around name process actuals m ≡ Scope.Main kept.root) ⊎ HasParent p greatest_depth (Scope.Main kept.root) (Scope.Inside around name process actuals m) → IsListed around name process
      by (inl same) = absurd (false≢true (sym (ap is_inside same)))
      by (inr h) =
          let d = declares p h.around h.entry (Scope.Inside around name process actuals m) h.given in
          let a : around ≡ h.around = ap (around_or around) d.is in
          record {
            around_there = subst (λ s. In s (instances p)) (sym a) (parent_there p kept h.around h.there);
            entry = h.entry;
            there = subst (λ s. In h.entry (entries (module_of s))) (sym a) h.listed;
            named = sym (ap (name_or name) d.is);
            is = ap declares_process d.entity ∙ sym (ap (process_or process) d.is);
          }

  -- ---- names of the right form

  instance_named : (s : Scope) → In s (instances p) → (x : Name) → IsAtom x → IsProcessName (spelled s x)
  instance_named (Scope.Main m) i x atom = atom_named x atom
  instance_named (Scope.Inside around name process actuals m) i x atom =
      let l = listed around name process actuals m i in
      process_named (spelled around name) x (instance_named around l.around_there name (subst IsAtom l.named (entry_written p kept around l.around_there l.entry l.there).name)) atom

  path_named : (s : Scope) → In s (instances p) → is_inside s ≡ true → IsProcessName (path_of s)
  path_named (Scope.Main m) i inside = absurd (false≢true inside)
  path_named (Scope.Inside around name process actuals m) i inside =
      let l = listed around name process actuals m i in
      instance_named around l.around_there name (subst IsAtom l.named (entry_written p kept around l.around_there l.entry l.there).name)

  -- ---- processes

  inner : List Scope
  unfolding root
  inner = below p greatest_depth root

  all_instances : instances p ≡ root ∷ inner
  unfolding root inner
  all_instances = tree ∙ tree_is p greatest_depth root

  inner_there : (s : Scope) → In s inner → In s (instances p)
  inner_there s i = subst (In s) (sym all_instances) (In.later i)

  inner_inside : (s : Scope) → In s inner → is_inside s ≡ true
  unfolding root inner
  inner_inside s i = inside_below p greatest_depth root s i

  inner_paths : AreBelow (front root) (paths_of inner)
  unfolding root inner
  inner_paths = paths_below p greatest_depth root good_tree

  processes_are : processes p ≡ main_name ∷ map process_name (filter is_process inner)
  unfolding root
  processes_are = ap (λ ss. map process_name (filter is_process ss)) all_instances

  path_is : (s : Scope) → is_inside s ≡ true → is_process s ≡ true → process_name s ≡ path_of s
  path_is (Scope.Main m) inside process = absurd (false≢true inside)
  path_is (Scope.Inside around name true actuals m) inside process = refl
  path_is (Scope.Inside around name false actuals m) inside process = absurd (false≢true process)

  inner_processes : map process_name (filter is_process inner) ≡ map path_of (filter is_process inner)
  inner_processes = map_same process_name path_of (filter is_process inner) (λ s i. let r = in_filter_back is_process inner i in path_is s (inner_inside s r.0) r.1)

  no_second_main : (s : Scope) → In s (instances p) → is_inside s ≡ true → is_process s ≡ true → main_name ≡ path_of s → ⊥
  no_second_main (Scope.Main m) i inside process same = false≢true inside
  no_second_main (Scope.Inside (Scope.Main n) name process actuals m) i inside is same =
      let l = listed (Scope.Main n) name process actuals m i in
      let h = placed_silent (Scope.Main n) l.entry l.around_there l.there in
      silent_first h.2 (FlatRefusal.DuplicateName l.entry.line) (refl, inr (l.is ∙ is, l.named ∙ sym same))
  no_second_main (Scope.Inside (Scope.Inside around y q us n) name process actuals m) i inside is same =
      each_in (λ b. IsMark b → ⊥) main_name (atom_clear main_name refl) (subst (In 46) (sym same) (in_right (spelled around y) (46 ∷ name) In.first)) IsMark.dot

  pub processes_distinct : Distinct (processes p)
  processes_distinct = subst Distinct (sym processes_are) (
    λ i. let b = in_map_back process_name (filter is_process inner) i in
        let r = in_filter_back is_process inner b.1 in
        no_second_main b.0 (inner_there b.0 r.0) (inner_inside b.0 r.0) r.1 (b.2 ∙ path_is b.0 (inner_inside b.0 r.0) r.1),
    subst Distinct (sym inner_processes) (distinct_filtered path_of is_process inner inner_paths.distinct),
  )

  pub processes_named : All IsProcessName (drop 1 (processes p))
  processes_named = subst (λ ns. All IsProcessName (drop 1 ns)) (sym processes_are) (all_from IsProcessName (map process_name (filter is_process inner))
      (λ x i. let b = in_map_back process_name (filter is_process inner) i in
      let r = in_filter_back is_process inner b.1 in
      subst IsProcessName (sym (b.2 ∙ path_is b.0 (inner_inside b.0 r.0) r.1)) (path_named b.0 (inner_there b.0 r.0) (inner_inside b.0 r.0))))

  pub main_first : take 1 (processes p) ≡ main_name ∷ []
  main_first = ap (take 1) processes_are

  -- a process instance is declared by an entry
  process_declared : (s : Scope) → In s (instances p) → is_inside s ≡ true → is_process s ≡ true → has_selector p ≡ true
  process_declared (Scope.Main m) i inside process = absurd (false≢true inside)
  process_declared (Scope.Inside around name process actuals m) i inside is =
      let l = listed around name process actuals m i in
      any_test (λ (e : PlacedEntry). declares_process e.1.entity) (all_entries p)
      (in_flat (λ t. map (λ f. (t, f)) (entries (module_of t))) (instances p) l.around_there (in_map (λ f. (around, f)) (entries (module_of around)) l.there)) (l.is ∙ is)

  pub only_main : has_selector p ≡ false → length (processes p) ≡ 1
  only_main none = ap length processes_are ∙ ap (λ ss. suc (length (map process_name ss))) (filter_none is_process inner (λ s i is. false≢true (sym none ∙ process_declared s (inner_there s i) (inner_inside s i) is)))

  pub instance_count : length (instances p) ≤ 1024
  instance_count =
      let few : instances_in (entries_of (instances p)) ≤ 1023 = few_instances p (instances p) declared_silent in
      let same : instances_in (entries_of (instances p)) ≡ total body_instances (instances p) = instances_counted (instances p) in
      let most : length (instances p) ≤ 1 + total body_instances (instances p) = subst (λ ss. length ss ≤ 1 + total body_instances ss) (sym tree) (instances_total p greatest_depth (Scope.Main kept.root)) in
      omega (arith, few, same, most)

  pub process_count : length (processes p) ≤ 1024
  process_count = let a : length (processes p) ≡ length (filter is_process (instances p)) = length_map process_name (filter is_process (instances p)) in
      let b : length (filter is_process (instances p)) ≤ length (instances p) = filter_fewer is_process (instances p) in
      omega (arith, a, b, instance_count)

  -- ---- variables

  pub body_variables : List Variable
  body_variables = variables_from p greatest_depth (Scope.Main kept.root)

  pub variables_are : variables p ≡ selector_variables p ++ body_variables
  unfolding body_variables
  variables_are = ap (λ vs. selector_variables p ++ vs) (ap (λ o. flat_map (variables_from p greatest_depth) (cons_option (option_map Scope.Main o) [])) kept.found ∙ append-nil (variables_from p greatest_depth (Scope.Main kept.root)))

  pub selector_length : length (selector_variables p) ≡ one_if (has_selector p)
  selector_length = length_map (selector_variable p) (take 1 (process_entries p)) ∙ selector_count (λ (e : PlacedEntry). declares_process e.1.entity) (all_entries p)

  pub variable_count : length (variables p) ≤ 256
  unfolding body_variables
  variable_count =
      let few : variables_in (entries_of (instances p)) ≤ 256 = few_variables p (instances p) declared_silent in
      let own : length body_variables ≡ total body_weight (instances p) = sym (total_one body_variables) ∙ variables_total p greatest_depth (Scope.Main kept.root) ∙ ap (total body_weight) (sym tree) in
      let sums : sum_by weight (entries_of (instances p)) ≡ total body_weight (instances p) = variables_counted (instances p) in
      let parts : length (variables p) ≡ length (selector_variables p) + length body_variables = ap length variables_are ∙ length_append (selector_variables p) body_variables in
      let first : length (selector_variables p) ≡ one_if (list_any (λ (e : Entry). declares_process e.entity) (entries_of (instances p))) = selector_length ∙ ap one_if (same_selector (instances p)) in
      omega (arith, few, own, sums, parts, first)

  -- an atom of a declared type is a symbol
  pub constant_there : (s : Scope) (e : Entry) (type : Plain) → In s (instances p) → In e (entries (module_of s)) → e.entity ≡ Entity.Stored type → (c : Constant) → In c (constants_of type) → HasAtom (symbols p) c
  constant_there s e type i j is (Constant.Digits n) k = tt
  constant_there s e type i j is (Constant.Truth b) k = tt
  constant_there s e type i j is (Constant.Atom x) k =
      in_distinct_names x (flat_map (λ (f : PlacedEntry). atoms_of f.1.entity) (all_entries p))
      (in_flat (λ (f : PlacedEntry). atoms_of f.1.entity) (all_entries p) (in_flat (λ t. map (λ f. (t, f)) (entries (module_of t))) (instances p) i (in_map (λ f. (s, f)) (entries (module_of s)) j))
      (subst (λ z. In x (atoms_of z)) (sym is) (atom_in_type type x k)))

  silent_type : (bodies : List Scope) (s : Scope) (b : List Entry) (e : Entry) (type : Plain) → e.entity ≡ Entity.Stored type → Silent (declaration p bodies s b e) → (is_reversed type ≡ true → ⊥) × (value_count type ≤ 1024)
  silent_type bodies s b e type is h = by (subst (λ z. Silent (declaration p bodies s b (record { name = e.name; line = e.line; entity = z }))) is h)
    where
      by : Silent (declaration p bodies s b (record { name = e.name; line = e.line; entity = Entity.Stored type })) → (is_reversed type ≡ true → ⊥) × (value_count type ≤ 1024)
      by k = (
        λ r. silent_first (silent_second k) (FlatRefusal.BadType e.line) (refl, r),
        elim (cases_lt 1024 (value_count type)) [ inl more ↦ absurd (silent_first (silent_second (silent_second k)) (FlatRefusal.Limit e.line Which.Values (value_count type)) (refl, more)) | inr few ↦ few ],
      )

  pub not_reversed : (s : Scope) (e : Entry) (type : Plain) → In s (instances p) → In e (entries (module_of s)) → e.entity ≡ Entity.Stored type → is_reversed type ≡ true → ⊥
  not_reversed s e type i j is = let h = placed_silent s e i j in (silent_type h.0 s h.1 e type is h.2).0

  -- ---- symbols

  kept_entry : (bodies : List Scope) (s : Scope) (b : List Entry) (name : Name) (line : ℕ) (entity : Entity) → Silent (declaration p bodies s b (record { name = name; line = line; entity = entity })) → IsKeptEntry entity
  kept_entry bodies s b name line (Entity.Stored type) h = silent_type bodies s b (record { name = name; line = line; entity = Entity.Stored type }) type refl h
  kept_entry bodies s b name line Entity.Parameter h = tt
  kept_entry bodies s b name line (Entity.Instance process x actuals) h = tt
  kept_entry bodies s b name line (Entity.Defined body) h = tt

  atom_from : (x : Name) → In x (flat_map (λ (e : PlacedEntry). atoms_of e.1.entity) (all_entries p)) → (e : Entry) × In e (entries_of (instances p)) × In x (atoms_of e.entity)
  atom_from x i =
      let b = in_flat_back (λ (e : PlacedEntry). atoms_of e.1.entity) (all_entries p) i in
      let c = in_flat_back (λ s. map (λ e. (s, e)) (entries (module_of s))) (instances p) b.1 in
      let d = in_map_back (λ e. (c.0, e)) (entries (module_of c.0)) c.2 in
      let same : b.0.1 ≡ d.0 = ap (λ (y : PlacedEntry). y.1) d.2 in
      (d.0, in_flat (λ s. entries (module_of s)) (instances p) c.1 d.1, subst (λ e. In x (atoms_of e.entity)) same b.2)

  pub few_symbols : length (symbols p) ≤ 262144
  few_symbols =
      let few : variables_in (entries_of (instances p)) ≤ 256 = few_variables p (instances p) declared_silent in
      let sums : sum_by weight (entries_of (instances p)) ≡ total weight (entries_of (instances p)) = sum_is_total weight (entries_of (instances p)) in
      let most : length (symbols p) ≤ 1024 * total weight (entries_of (instances p)) = symbols_few (flat_map (λ (e : PlacedEntry). atoms_of e.1.entity) (all_entries p)) (entries_of (instances p)) atom_from
      (λ e i. let b = in_flat_back (λ s. entries (module_of s)) (instances p) i in let h = placed_silent b.0 e b.1 b.2 in kept_entry h.0 b.0 h.1 e.name e.line e.entity h.2) in
      omega (arith, few, sums, most)

  origin_of : (v : Variable) → In v body_variables → Origin p greatest_depth (Scope.Main kept.root) v
  unfolding body_variables
  origin_of v i = origin p greatest_depth (Scope.Main kept.root) v i

  pub record IsFineVariable (v : Variable) : Type 0 where
    pub named : IsVariableName v.name
    pub other : v.name ≡ selector_name → ⊥
    pub few : length v.values ≤ 1024
    pub some : 0 < length v.values
    pub distinct : Distinct v.values
    pub known : (m : System) → length (symbols p) ≡ length m.symbols → All (IsKnown m) v.values

  selector_clear : IsClear IsMark selector_name
  selector_clear = tail_clear selector_name refl

  no_selector : (s : Scope) (x rest : Name) → IsAtom x → Ends IsMark rest → spelled s x ++ rest ≡ selector_name → ⊥
  no_selector (Scope.Inside around y process actuals m) x rest atom ends same =
      each_in (λ b. IsMark b → ⊥) selector_name selector_clear (subst (In 46) same (in_left (spelled around y ++ (46 ∷ x)) rest (in_right (spelled around y) (46 ∷ x) In.first))) IsMark.dot
  no_selector (Scope.Main m) x [] atom ends same = not_selector x atom (sym (append-nil x) ∙ same)
  no_selector (Scope.Main m) x (b ∷ rest) atom ends same =
      each_in (λ c. IsMark c → ⊥) selector_name selector_clear (subst (In b) same (in_right x (b ∷ rest) In.first)) ends

  pub fine_variable : (v : Variable) → In v body_variables → IsFineVariable v
  fine_variable v i =
      let o = origin_of v i in
      let there : In o.home (instances p) = parent_there p kept o.home o.there in
      let w = entry_written p kept o.home there o.entry o.listed in
      let written_type : IsWrittenType o.type = subst IsWrittenEntity o.entity w.entity in
      let h = placed_silent o.home o.entry there o.listed in
      let k = silent_type h.0 o.home h.1 o.entry o.type o.entity h.2 in
      let count : length (type_values (symbols p) o.type) ≡ value_count o.type = type_count (symbols p) o.type (constant_there o.home o.entry o.type there o.listed o.entity) in
      let c = elements_continue o.type (spelled o.home o.entry.name) v.name o.name in
      record {
        named = elements_named o.type (spelled o.home o.entry.name) v.name (variable_named (spelled o.home o.entry.name) (instance_named o.home there o.entry.name w.name)) o.name;
        other = λ same. no_selector o.home o.entry.name c.rest w.name c.ends (sym c.is ∙ same);
        few = subst (λ n. n ≤ 1024) (sym (ap length o.values ∙ count)) k.1;
        some = subst (λ vs. 0 < length vs) (sym o.values) (some_value (symbols p) o.type written_type k.0);
        distinct = subst Distinct (sym o.values) (type_distinct (symbols p) o.type);
        known = λ m same. subst (All (IsKnown m)) (sym o.values) (type_known m (symbols p) o.type same (constant_there o.home o.entry o.type there o.listed o.entity));
      }

  -- ---- the selector

  abbrev selectors : List Variable
  selectors = selector_variables p

  pub selector_is : (v : Variable) → In v (selector_variables p) → (v.name ≡ selector_name) × (v.values ≡ map (λ k. Number (pos k)) (rising 0 (length (processes p))))
  selector_is v i = let b = in_map_back (selector_variable p) (take 1 (process_entries p)) i in (ap (λ w. w.name) b.2, ap (λ w. w.values) b.2)

  pub fine_selector : (v : Variable) → In v (selector_variables p) → (m : System) → (length v.values ≤ 1024) × (0 < length v.values) × Distinct v.values × All (IsKnown m) v.values
  fine_selector v i m =
      let s = selector_is v i in
      let n : length v.values ≡ length (processes p) = ap length s.1 ∙ length_map (λ k. Number (pos k)) (rising 0 (length (processes p))) ∙ length_rising 0 (length (processes p)) in
      let one : length (processes p) ≡ suc (length (map process_name (filter is_process inner))) = ap length processes_are in (
        omega (arith, n, process_count),
        omega (arith, n, one),
        subst Distinct (sym s.1) (numbers_distinct 0 (length (processes p))),
        subst (All (IsKnown m)) (sym s.1) (numbers_known m pos 0 (length (processes p))),
      )

  body_names : Distinct (names_of body_variables)
  unfolding body_variables
  body_names = (variable_names_below p greatest_depth (Scope.Main kept.root) good_tree).distinct

  pub names_distinct : Distinct (names_of (variables p))
  names_distinct = subst (λ vs. Distinct (names_of vs)) (sym variables_are) (subst Distinct (sym (map-append name_of (selector_variables p) body_variables))
      (distinct_append (names_of (selector_variables p)) (names_of body_variables) (distinct_one (selector_variable p) (process_entries p)) body_names
      (λ x i j. let a = in_map_back name_of (selector_variables p) i in let b = in_map_back name_of body_variables j in
      (fine_variable b.0 b.1).other (sym b.2 ∙ a.2 ∙ (selector_is a.0 a.1).0))))

  pub each_variable : (Q : Variable → Type 0) → ((v : Variable) → In v (selector_variables p) → Q v) → ((v : Variable) → In v body_variables → Q v) → All Q (variables p)
  each_variable Q f g = subst (All Q) (sym variables_are) (all_of_each Q (selector_variables p ++ body_variables) (each_append Q (selector_variables p) body_variables (each_from Q (selector_variables p) f) (each_from Q body_variables g)))
