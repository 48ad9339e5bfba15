-- The bodies of an instance's modules: written entries, and names that differ.
use Rattle.std.proofs.Common.{◌≡◌, refl, sym, ◌∙◌, ap, subst, ℕ, zero, suc, List, [], ◌∷◌, ◌++◌, Bool, Some, None, Option, ◌⊎◌, inl, inr, append_assoc, append-nil}
use Rattle.std.specs.Prelude.{map, flat_map, option_map, All}
use Rattle.std.specs.List.{cons_option}
use Rattle.std.proofs.lemmas.List.{append_cancel_left}
use Rattle.kripke_model.specs.Names.{IsAtom}
use Rattle.kripke_model.specs.System.{Variable}
use Rattle.smv_instances.specs.Program.{Name, Expr, Plain, Form, Section, Module, Program}
use Rattle.smv_instances.specs.Entries.{Entity, Entry, entries, of_formal, of_declaration, of_definition, of_section, entity_of_form, module_named}
use Rattle.smv_instances.specs.Instances.{Scope, module_of, spelled, child, children, instances_from, element_names, entry_variables, variables_from, type_values, symbols}
use Rattle.smv_instantiate.specs.Bodies.{front, inner_variables}
use Rattle.smv_instantiate.specs.Written.{IsWrittenExpr, IsWrittenType, IsWrittenForm, IsWrittenDeclaration, IsWrittenDefinition, IsWrittenSection, IsWrittenModule}
use Rattle.smv_instantiate.proofs.Members.{In, all_in, in_split, in_map, in_map_back, in_flat, in_flat_back, in_filter_map, Distinct, Apart, distinct_flat, map-flat_map, flat_map-filter_map}
use Rattle.smv_instantiate.proofs.NameLemmas.{IsMark, Ends, first_part, atom_clear, spelled_front, elements_continue, elements_distinct}

-- ---- written entries

abbrev pub IsWrittenEntity : Entity → Type 0
IsWrittenEntity Entity.Parameter = Unit {0}
IsWrittenEntity (Entity.Stored type) = IsWrittenType type
IsWrittenEntity (Entity.Instance process module_name actuals) = All IsWrittenExpr actuals
IsWrittenEntity (Entity.Defined body) = IsWrittenExpr body

pub record IsWrittenEntry (e : Entry) : Type 0 where
  pub name : IsAtom e.name
  pub entity : IsWrittenEntity e.entity

written_form : (f : Form) → IsWrittenForm f → IsWrittenEntity (entity_of_form f)
written_form (Form.Stored type) w = w
written_form (Form.Instance process module_name actuals) w = w.1

written_in_section : (s : Section) → IsWrittenSection s → (e : Entry) → In e (of_section s) → IsWrittenEntry e
written_in_section (Section.Vars ds) w e i =
    let b = in_map_back of_declaration ds i in
    let d : IsWrittenDeclaration b.0 = all_in IsWrittenDeclaration ds w b.1 in
    subst IsWrittenEntry (sym b.2) (record { name = d.name; entity = written_form b.0.form d.form })
written_in_section (Section.Defines ds) w e i =
    let b = in_map_back of_definition ds i in
    let d : IsWrittenDefinition b.0 = all_in IsWrittenDefinition ds w b.1 in
    subst IsWrittenEntry (sym b.2) (record { name = d.name; entity = d.body })
written_in_section (Section.Assigns items) w e i = elim i [ ]
written_in_section (Section.States item) w e i = elim i [ ]

pub written_entry : (m : Module) → IsWrittenModule m → (e : Entry) → In e (entries m) → IsWrittenEntry e
written_entry m w e i = by (in_split (map of_formal m.formals) (flat_map of_section m.sections) i)
  where
    by : In e (map of_formal m.formals) ⊎ In e (flat_map of_section m.sections) → IsWrittenEntry e
    by (inl j) = let b = in_map_back of_formal m.formals j in subst IsWrittenEntry (sym b.2) (record { name = all_in (λ f. IsAtom f.name) m.formals w.formals b.1; entity = tt })
    by (inr j) = let b = in_flat_back of_section m.sections j in written_in_section b.0 (all_in IsWrittenSection m.sections w.sections b.1) e b.2

-- the entries are written, and no name stands twice
pub record IsGoodBody (m : Module) : Type 0 where
  pub written : (e : Entry) → In e (entries m) → IsWrittenEntry e
  pub distinct : Distinct (map (λ e. e.name) (entries m))

-- ---- names of entries

-- z is the front, then x, then nothing or a mark and more
pub record IsUnder (before x z : Name) : Type 0 where
  pub rest : Name
  pub ends : Ends IsMark rest
  pub is : z ≡ before ++ (x ++ rest)

under_same : (before x y z : Name) → IsAtom x → IsAtom y → IsUnder before x z → IsUnder before y z → x ≡ y
under_same before x y z ax ay h k =
    first_part IsMark x y h.rest k.rest (atom_clear x ax) (atom_clear y ay) h.ends k.ends (append_cancel_left before _ _ (sym h.is ∙ k.is))

module _ (before : Name) (names_at : Entry → List Name) where
  apart_entries : (es : List Entry) → ((e : Entry) → In e es → IsAtom e.name) → ((e : Entry) → In e es → (z : Name) → In z (names_at e) → IsUnder before e.name z) → Distinct (map (λ e. e.name) es) → Apart names_at es
  apart_entries [] atoms under h = tt
  apart_entries (e ∷ es) atoms under h = (
    λ f there z i j. let same : e.name ≡ f.name = under_same before e.name f.name z (atoms e In.first) (atoms f (In.later there)) (under e In.first z i) (under f (In.later there) z j) in
        h.0 (subst (λ x. In x (map (λ e. e.name) es)) (sym same) (in_map (λ e. e.name) es there)),
    apart_entries es (λ f i. atoms f (In.later i)) (λ f i. under f (In.later i)) h.1,
  )

  distinct_entries : (es : List Entry) → ((e : Entry) → In e es → IsAtom e.name) → ((e : Entry) → In e es → Distinct (names_at e))
      → ((e : Entry) → In e es → (z : Name) → In z (names_at e) → IsUnder before e.name z) → Distinct (map (λ e. e.name) es) → Distinct (flat_map names_at es)
  distinct_entries es atoms each under h = distinct_flat names_at es each (apart_entries es atoms under h)

-- ---- names of a tree

-- no name twice, and each begins with the front
pub record AreBelow (before : Name) (names : List Name) : Type 0 where
  pub distinct : Distinct names
  pub below : (z : Name) → In z names → (w : Name) × (z ≡ before ++ w)

-- what one entry gives
record AreUnder (before x : Name) (names : List Name) : Type 0 where
  distinct : Distinct names
  under : (z : Name) → In z names → IsUnder before x z

body_names : (before : Name) (names_at : Entry → List Name) (m : Module) → IsGoodBody m → ((e : Entry) → In e (entries m) → AreUnder before e.name (names_at e)) → AreBelow before (flat_map names_at (entries m))
body_names before names_at m good each = record {
  distinct = distinct_entries before names_at (entries m) (λ e i. (good.written e i).name) (λ e i. (each e i).distinct) (λ e i. (each e i).under) good.distinct;
  below = λ z i. let b = in_flat_back names_at (entries m) i in let u = (each b.0 b.1).under z b.2 in (b.0.name ++ u.rest, u.is);
}

-- names below a child are under the entry that declares it
child_name : (s : Scope) (x : Name) (process : Bool) (actuals : List Expr) (m : Module) (z w : Name) → z ≡ front (Scope.Inside s x process actuals m) ++ w → IsUnder (front s) x z
child_name s x process actuals m z w is = record {
  rest = 46 ∷ w;
  ends = IsMark.dot;
  is = is ∙ append_assoc (spelled s x) (46 ∷ []) w ∙ ap (λ y. y ++ (46 ∷ w)) (spelled_front s x) ∙ append_assoc (front s) x (46 ∷ w);
}

-- ---- flat variables

abbrev pub name_of : Variable → Name
name_of v = v.name

abbrev pub names_of : List Variable → List Name
names_of vs = map name_of vs

pub stored_names : (p : Program) (line : ℕ) (type : Plain) (xs : List Name) → names_of (map (λ x. record { name = x; values = type_values (symbols p) type; line = line }) xs) ≡ xs
stored_names p line type [] = refl
stored_names p line type (x ∷ xs) = ap (λ ys. x ∷ ys) (stored_names p line type xs)

pub variables_of_body : (p : Program) (n : ℕ) (s : Scope) → variables_from p n s ≡ flat_map (entry_variables p (inner_variables p n) s) (entries (module_of s))
variables_of_body p zero s = refl
variables_of_body p (suc n) s = refl

one_entry : (p : Program) (inner : Scope → List Variable) (s : Scope) (name : Name) (line : ℕ) (entity : Entity) → IsWrittenEntity entity
    → ((c : Scope) → child p s (record { name = name; line = line; entity = entity }) ≡ Some c → AreBelow (front c) (names_of (inner c)))
    → AreUnder (front s) name (names_of (entry_variables p inner s (record { name = name; line = line; entity = entity })))
one_entry p inner s name line Entity.Parameter w below = record { distinct = tt; under = λ z i. elim i [ ] }
one_entry p inner s name line (Entity.Defined body) w below = record { distinct = tt; under = λ z i. elim i [ ] }
one_entry p inner s name line (Entity.Stored type) w below = subst (AreUnder (front s) name) (sym (stored_names p line type (element_names type (spelled s name)))) (record {
  distinct = elements_distinct type (spelled s name) w;
  under = λ z i. let c = elements_continue type (spelled s name) z i in
      record { rest = c.rest; ends = c.ends; is = c.is ∙ ap (λ y. y ++ c.rest) (spelled_front s name) ∙ append_assoc (front s) name c.rest };
})
one_entry p inner s name line (Entity.Instance process x actuals) w below = by (module_named p x) below
  where
    by : (o : Option Module) → ((c : Scope) → option_map (Scope.Inside s name process actuals) o ≡ Some c → AreBelow (front c) (names_of (inner c)))
        → AreUnder (front s) name (names_of (flat_map inner (cons_option (option_map (Scope.Inside s name process actuals) o) [])))
    by None h = record { distinct = tt; under = λ z i. elim i [ ] }
    by (Some m) h =
        let b = h (Scope.Inside s name process actuals m) refl in
        subst (λ vs. AreUnder (front s) name (names_of vs)) (sym (append-nil (inner (Scope.Inside s name process actuals m))))
        (record { distinct = b.distinct; under = λ z i. let r = b.below z i in child_name s name process actuals m z r.0 r.1 })

in_child_tree : (p : Program) (n : ℕ) (s c t : Scope) (e : Entry) → In e (entries (module_of s)) → child p s e ≡ Some c → In t (instances_from p n c) → In t (instances_from p (suc n) s)
in_child_tree p n s c t e i given j = In.later (in_flat (instances_from p n) (children p s) (in_filter_map (child p s) (entries (module_of s)) i given) j)

-- the names of the variables of an instance and of those inside it
pub variable_names_below : (p : Program) (n : ℕ) (s : Scope) → ((t : Scope) → In t (instances_from p n s) → IsGoodBody (module_of t)) → AreBelow (front s) (names_of (variables_from p n s))
variable_names_below p zero s good =
    subst (AreBelow (front s)) (sym (map-flat_map name_of (entry_variables p (λ c. []) s) (entries (module_of s))))
    (body_names (front s) (λ e. names_of (entry_variables p (λ c. []) s e)) (module_of s) (good s In.first)
    (λ e i. one_entry p (λ c. []) s e.name e.line e.entity ((good s In.first).written e i).entity (λ c given. record { distinct = tt; below = λ z j. elim j [ ] })))
variable_names_below p (suc n) s good =
    subst (AreBelow (front s)) (sym (map-flat_map name_of (entry_variables p (variables_from p n) s) (entries (module_of s))))
    (body_names (front s) (λ e. names_of (entry_variables p (variables_from p n) s e)) (module_of s) (good s In.first)
    (λ e i. one_entry p (variables_from p n) s e.name e.line e.entity ((good s In.first).written e i).entity
    (λ c given. variable_names_below p n c (λ t j. good t (in_child_tree p n s c t e i given j)))))

-- ---- names of instances

-- the path of the instance
abbrev pub path_of : Scope → Name
path_of (Scope.Main m) = []
path_of (Scope.Inside around name process actuals m) = spelled around name

abbrev pub paths_of : List Scope → List Name
paths_of ss = map path_of ss

-- the path of a child, then those below it
child_paths : (s : Scope) (x : Name) (process : Bool) (actuals : List Expr) (m : Module) (names : List Name) → IsAtom x → AreBelow (front (Scope.Inside s x process actuals m)) names
    → AreUnder (front s) x (spelled s x ∷ names)
child_paths s x process actuals m names atom b = record {
  distinct = (λ i. let r = b.below (spelled s x) i in no_more (append_cancel_left (spelled s x) [] (46 ∷ r.0) (append-nil (spelled s x) ∙ r.1 ∙ append_assoc (spelled s x) (46 ∷ []) r.0)), b.distinct);
  under = λ z i. first_or_below z i;
}
  where
    no_more : {w : Name} → [] ≡ 46 ∷ w → ⊥
    no_more e = cc

    first_or_below : (z : Name) → In z (spelled s x ∷ names) → IsUnder (front s) x z
    first_or_below z In.first = record { rest = []; ends = tt; is = spelled_front s x ∙ ap (λ y. front s ++ y) (sym (append-nil x)) }
    first_or_below z (In.later i) = let r = b.below z i in child_name s x process actuals m z r.0 r.1

abbrev pub below : Program → ℕ → Scope → List Scope
below p zero s = []
below p (suc n) s = flat_map (instances_from p n) (children p s)

pub tree_is : (p : Program) (n : ℕ) (s : Scope) → instances_from p n s ≡ s ∷ below p n s
tree_is p zero s = refl
tree_is p (suc n) s = refl

one_path : (p : Program) (n : ℕ) (s : Scope) (name : Name) (line : ℕ) (entity : Entity) → IsAtom name
    → ((c : Scope) → child p s (record { name = name; line = line; entity = entity }) ≡ Some c → AreBelow (front c) (paths_of (below p n c)))
    → AreUnder (front s) name (paths_of (flat_map (instances_from p n) (cons_option (child p s (record { name = name; line = line; entity = entity })) [])))
one_path p n s name line Entity.Parameter atom h = record { distinct = tt; under = λ z i. elim i [ ] }
one_path p n s name line (Entity.Defined body) atom h = record { distinct = tt; under = λ z i. elim i [ ] }
one_path p n s name line (Entity.Stored type) atom h = record { distinct = tt; under = λ z i. elim i [ ] }
one_path p n s name line (Entity.Instance process x actuals) atom h = by (module_named p x) h
  where
    by : (o : Option Module) → ((c : Scope) → option_map (Scope.Inside s name process actuals) o ≡ Some c → AreBelow (front c) (paths_of (below p n c)))
        → AreUnder (front s) name (paths_of (flat_map (instances_from p n) (cons_option (option_map (Scope.Inside s name process actuals) o) [])))
    by None k = record { distinct = tt; under = λ z i. elim i [ ] }
    by (Some m) k =
        subst (λ ss. AreUnder (front s) name (paths_of ss)) (sym (append-nil (instances_from p n (Scope.Inside s name process actuals m)) ∙ tree_is p n (Scope.Inside s name process actuals m)))
        (child_paths s name process actuals m (paths_of (below p n (Scope.Inside s name process actuals m))) atom (k (Scope.Inside s name process actuals m) refl))

-- the paths of the instances inside an instance
pub paths_below : (p : Program) (n : ℕ) (s : Scope) → ((t : Scope) → In t (instances_from p n s) → IsGoodBody (module_of t)) → AreBelow (front s) (paths_of (below p n s))
paths_below p zero s good = record { distinct = tt; below = λ z i. elim i [ ] }
paths_below p (suc n) s good =
    subst (AreBelow (front s)) (sym (ap paths_of (flat_map-filter_map (instances_from p n) (child p s) (entries (module_of s))) ∙ map-flat_map path_of (λ e. flat_map (instances_from p n) (cons_option (child p s e) [])) (entries (module_of s))))
    (body_names (front s) (λ e. paths_of (flat_map (instances_from p n) (cons_option (child p s e) []))) (module_of s) (good s In.first)
    (λ e i. one_path p n s e.name e.line e.entity ((good s In.first).written e i).name
    (λ c given. paths_below p n c (λ t j. good t (in_child_tree p n s c t e i given j)))))
