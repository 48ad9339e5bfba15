-- What a name stands for in an instance, by its place among the entries.
use Rattle.std.proofs.Common.{◌≡◌, refl, sym, ◌∙◌, ap, subst, ℕ, zero, suc, ◌+◌, ◌<◌, ◌≤◌, arith, List, [], ◌∷◌, ◌++◌, Bool, true, false, not, cond, ◌||◌, length, map, flat_map, take, drop, get_or, Option, Some, None, ◌⊎◌, inl, inr, ⊎_elim}
use Rattle.std.specs.Prelude.{find, is_some, option_map, slice_get}
use Rattle.std.specs.List.{cons_option, filter_map, list_any, position_or_len}
use Rattle.std.specs.Str.{bytes_eq}
use Rattle.std.proofs.lemmas.List.{length-map, map-append, take-append-drop}
use Rattle.std.proofs.lemmas.List.Folds.{find_at}
use Rattle.std.proofs.lemmas.Option.{same_Some, slice_get_within}
use Rattle.kripke_model.specs.Refusing.{RefusalRule, Silent, First}
use Rattle.kripke_model.specs.declared.refusals.FlatRefusal.{FlatRefusal}
use Rattle.smv_instances.specs.Program.{Name, Form, Formal, Declaration, Definition, Section, Module, Program}
use Rattle.smv_instances.specs.Entries.{Entity, Entry, entries, entity_in, entity_of_form, module_named, of_declaration, of_definition, of_formal, of_section}
use Rattle.smv_instances.specs.Instances.{Scope, module_of, child, instances, place_of}
use Rattle.smv_instances.specs.Declarations.{declaration, body, declarations, instances_in, is_instance, one_if}
use Rattle.smv_instances.specs.Numbered.{IsFormal}
use Rattle.smv_instances.specs.Tables.{IsFront}
use Rattle.smv_instances.proofs.FirstSteps.{first_front}
use Rattle.smv_instances.proofs.NameLemmas.{place_map}
use Rattle.smv_instances.proofs.TableLemmas.{bytes_eq_sym, get_or-map, map-take, instances_cons}
use Rattle.smv_instances.proofs.RowLemmas.{place_tests, none_of}
use Rattle.smv_instances.proofs.BodyLemmas.{test_again, refused_at}
use Rattle.smv_instances.proofs.ListSteps.{map_map, take_whole}

-- ---- the body of an instance is not refused

pub silent_member : {R A : Type 0} (rule : List A → A → RefusalRule R) (before xs : List A) (k : ℕ) (x : A) → Silent (First rule before xs) → slice_get xs k ≡ Some x → (earlier : List A) × Silent (rule earlier x)
silent_member rule before [] k x silent at = absurd (let none : None ≡ Some x = at in cc)
silent_member rule before (y ∷ ys) zero x silent at = (before, subst (λ z. Silent (rule before z)) (same_Some _ _ at) (λ r h. silent r (inl h)))
silent_member rule before (y ∷ ys) (suc k) x silent at = silent_member rule (before ++ (y ∷ [])) ys k x (λ r h. silent r (inr (λ q g. silent q (inl g), h))) at

pub silent_body : (p : Program) (k : ℕ) (s : Scope) → Silent (declarations p) → slice_get (instances p) k ≡ Some s → (before : List Scope) × Silent (body p before s)
silent_body p k s silent at = silent_member (body p) [] (instances p) k s silent at

silent_front : (p : Program) (before : List Scope) (s : Scope) (i : ℕ) → Silent (body p before s) → Silent (First (declaration p before s) [] (take i (entries (module_of s))))
silent_front p before s i silent r h =
    silent r (subst (λ xs. First (declaration p before s) [] xs r) (take-append-drop i (entries (module_of s))) (first_front (declaration p before s) [] (take i (entries (module_of s))) (drop i (entries (module_of s))) r h))

-- ---- names that are declared once

-- the names up to the first that stood before are all names
pub front_whole : (p : Program) (before : List Scope) (s : Scope) (front : List Name) → IsFront (map (λ e. e.name) (entries (module_of s))) front → Silent (body p before s) → front ≡ map (λ e. e.name) (entries (module_of s))
front_whole p before s front is silent =
    let names = map (λ (e : Entry). e.name) (entries (module_of s)) in
    is.begins ∙ take_whole names (length front) (whole names is refl)
  where
    no_less : (n : ℕ) → n < length (entries (module_of s)) → n ≡ length front → ⊥
    no_less n lt size =
        let es = entries (module_of s) in
        let e = member es n lt in
        let names = map (λ (d : Entry). d.name) es in
        let front_is : front ≡ map (λ (d : Entry). d.name) (take n es) = is.begins ∙ ap (λ k. take k names) (sym size) ∙ map-take (λ (d : Entry). d.name) n es in
        let named : get_or names (length front) e.0.name ≡ e.0.name = ap (λ k. get_or names k e.0.name) (sym size) ∙ get_or-map (λ (d : Entry). d.name) es n e.0 e.0.name lt ∙ ap (λ (d : Entry). d.name) e.1 in
        let again : list_any (bytes_eq e.0.name) (map (λ (d : Entry). d.name) (take n es)) ≡ true =
        ap (list_any (bytes_eq e.0.name)) (sym front_is) ∙ ap (λ x. list_any (bytes_eq x) front) (sym named) ∙ is.ends e.0.name (omega (arith, lt, size, length-map es (λ (d : Entry). d.name))) in
        silent _ (refused_at p before s es n e.0 (FlatRefusal.DuplicateName e.0.line) lt e.1 (silent_front p before s n silent) (inl (refl, inl (test_again (take n es) e.0 again))))
      where
        member : (xs : List Entry) (k : ℕ) → k < length xs → (d : Entry) × (get_or xs k d ≡ d)
        member [] k below = absurd (omega arith)
        member (x ∷ xs) zero below = (x, refl)
        member (x ∷ xs) (suc k) below = member xs k (omega arith)

    whole : (names : List Name) → IsFront names front → names ≡ map (λ (d : Entry). d.name) (entries (module_of s)) → length names ≤ length front
    whole names of same = at_least (length names) (length front) (λ lt. no_less (length front) (omega (arith, lt, ap length same, length-map (entries (module_of s)) (λ (d : Entry). d.name))) refl)
      where
        at_least : (a b : ℕ) → (b < a → ⊥) → a ≤ b
        at_least zero b never = omega arith
        at_least (suc a) zero never = absurd (never (omega arith))
        at_least (suc a) (suc b) never = let below : a ≤ b = at_least a b (λ lt. never (omega arith)) in omega arith

-- ---- an entry by its name

tests : (x : Name) (es : List Entry) → position_or_len (λ (e : Entry). bytes_eq e.name x) es ≡ place_of (map (λ e. e.name) es) x
tests x es = place_tests (λ (e : Entry). bytes_eq e.name x) (λ (e : Entry). bytes_eq x e.name) (λ e. bytes_eq_sym e.name x) es ∙ sym (place_map (bytes_eq x) (λ (e : Entry). e.name) es)

pub entity_at : (m : Module) (x : Name) (place : ℕ) (e : Entry) → place ≡ place_of (map (λ d. d.name) (entries m)) x → slice_get (entries m) place ≡ Some e → entity_in m x ≡ Some e.entity
entity_at m x place e is at =
    ap (option_map (λ (d : Entry). d.entity)) (find_at (λ (d : Entry). bytes_eq d.name x) (entries m) ∙ ap (slice_get (entries m)) (tests x (entries m) ∙ sym is) ∙ at)

is_some-find : (x : Name) (es : List Entry) → is_some (find (λ (e : Entry). bytes_eq e.name x) es) ≡ list_any (bytes_eq x) (map (λ e. e.name) es)
is_some-find x [] = refl
is_some-find x (e ∷ es) = step (bytes_eq e.name x) (bytes_eq x e.name) (bytes_eq_sym e.name x) ∙ ap (λ b. bytes_eq x e.name || b) (is_some-find x es)
  where
    step : (b c : Bool) → b ≡ c → is_some (cond b (Some e) (find (λ (d : Entry). bytes_eq d.name x) es)) ≡ (c || is_some (find (λ (d : Entry). bytes_eq d.name x) es))
    step true true q = refl
    step false false q = refl
    step true false q = absurd cc
    step false true q = absurd cc

pub entity_absent : (m : Module) (x : Name) → list_any (bytes_eq x) (map (λ e. e.name) (entries m)) ≡ false → entity_in m x ≡ None
entity_absent m x none = ap (option_map (λ (d : Entry). d.entity)) (none_of (find (λ (d : Entry). bytes_eq d.name x) (entries m)) (is_some-find x (entries m) ∙ none))

-- ---- the number of a child

pub then_parts : {R : Type 0} (a b : RefusalRule R) → Silent (λ r. a r ⊎ (Silent a × b r)) → Silent a × Silent b
then_parts a b silent = (λ r h. silent r (inl h), λ r h. silent r (inr (λ q k. silent q (inl k), h)))

-- an entry that is not refused is an instance exactly where it leads to a child
pub data IsCounted (p : Program) (s : Scope) (e : Entry) : Type 0 where
  other : child p s e ≡ None → is_instance e.entity ≡ false → IsCounted p s e
  one : (c : Scope) → child p s e ≡ Some c → is_instance e.entity ≡ true → IsCounted p s e

pub counted : (p : Program) (before : List Scope) (s : Scope) (earlier : List Entry) (name : Name) (line : ℕ) (e : Entity) → Silent (declaration p before s earlier (record { name = name; line = line; entity = e })) → IsCounted p s (record { name = name; line = line; entity = e })
counted p before s earlier name line Entity.Parameter silent = IsCounted.other refl refl
counted p before s earlier name line (Entity.Stored type) silent = IsCounted.other refl refl
counted p before s earlier name line (Entity.Defined right) silent = IsCounted.other refl refl
counted p before s earlier name line (Entity.Instance process module_name actuals) silent = go (module_named p module_name) refl
  where
    go : (o : Option Module) → module_named p module_name ≡ o → IsCounted p s (record { name = name; line = line; entity = Entity.Instance process module_name actuals })
    go None e = absurd ((then_parts _ _ (then_parts _ _ silent).1).0 _ (refl, e))
    go (Some m) e = IsCounted.one (Scope.Inside s name process actuals m) (ap (option_map (Scope.Inside s name process actuals)) e) refl

pub nth_child : (p : Program) (before : List Scope) (s : Scope) (earlier es : List Entry) (k : ℕ) (e : Entry) (c : Scope) → Silent (First (declaration p before s) earlier es) → slice_get es k ≡ Some e → child p s e ≡ Some c → slice_get (filter_map (child p s) es) (instances_in (take k es)) ≡ Some c
nth_child p before s earlier [] k e c silent at leads = absurd (let none : None ≡ Some e = at in cc)
nth_child p before s earlier (d ∷ es) zero e c silent at leads = ap (λ o. slice_get (cons_option o (filter_map (child p s) es)) 0) (ap (child p s) (same_Some _ _ at) ∙ leads)
nth_child p before s earlier (d ∷ es) (suc k) e c silent at leads =
    ap (slice_get (cons_option (child p s d) (filter_map (child p s) es))) (instances_cons d (take k es)) ∙ step (counted p before s earlier d.name d.line d.entity (λ r h. silent r (inl h))) (nth_child p before s (earlier ++ (d ∷ [])) es k e c (λ r h. silent r (inr (λ q g. silent q (inl g), h))) at leads)
  where
    step : IsCounted p s d → slice_get (filter_map (child p s) es) (instances_in (take k es)) ≡ Some c → slice_get (cons_option (child p s d) (filter_map (child p s) es)) (one_if (is_instance d.entity) + instances_in (take k es)) ≡ Some c
    step (IsCounted.other none no_instance) later =
        let none_more : one_if (is_instance d.entity) + instances_in (take k es) ≡ instances_in (take k es) = omega (arith, ap one_if no_instance) in
        ap (λ o. slice_get (cons_option o (filter_map (child p s) es)) (one_if (is_instance d.entity) + instances_in (take k es))) none ∙ ap (slice_get (filter_map (child p s) es)) none_more ∙ later
    step (IsCounted.one x some is) later =
        let one_more : one_if (is_instance d.entity) + instances_in (take k es) ≡ suc (instances_in (take k es)) = omega (arith, ap one_if is) in
        ap (λ o. slice_get (cons_option o (filter_map (child p s) es)) (one_if (is_instance d.entity) + instances_in (take k es))) some ∙ ap (slice_get (x ∷ filter_map (child p s) es)) one_more ∙ later

-- ---- the place of a formal parameter

abbrev is_formal : Entity → Bool
is_formal Entity.Parameter = true
is_formal (Entity.Stored type) = false
is_formal (Entity.Instance process module_name actuals) = false
is_formal (Entity.Defined right) = false

place_prefix : (p : Name → Bool) (xs ys : List Name) → position_or_len p (xs ++ ys) < length xs → position_or_len p xs ≡ position_or_len p (xs ++ ys)
place_prefix p [] ys lt = absurd (omega arith)
place_prefix p (x ∷ xs) ys lt = go (p x) refl (λ fails. place_prefix p xs ys (later fails))
  where
    later : p x ≡ false → position_or_len p (xs ++ ys) < length xs
    later fails = let less : cond (not false) (1 + position_or_len p (xs ++ ys)) 0 < length (x ∷ xs) = subst (λ b. cond (not b) (1 + position_or_len p (xs ++ ys)) 0 < length (x ∷ xs)) fails lt in omega (arith, less)

    go : (b : Bool) → p x ≡ b → (p x ≡ false → position_or_len p xs ≡ position_or_len p (xs ++ ys)) → cond (not (p x)) (1 + position_or_len p xs) 0 ≡ cond (not (p x)) (1 + position_or_len p (xs ++ ys)) 0
    go true q rest = ap (λ b. cond (not b) (1 + position_or_len p xs) 0) q ∙ sym (ap (λ b. cond (not b) (1 + position_or_len p (xs ++ ys)) 0) q)
    go false q rest = ap (λ n. cond (not (p x)) (1 + n) 0) (rest q)

-- no declaration and no definition is a formal parameter
section_other : (s : Section) (k : ℕ) (e : Entry) → slice_get (of_section s) k ≡ Some e → is_formal e.entity ≡ false
section_other (Section.Vars ds) k e at = declared ds k at
  where
    form : (f : Form) → is_formal (entity_of_form f) ≡ false
    form (Form.Stored type) = refl
    form (Form.Instance process module_name actuals) = refl

    declared : (xs : List Declaration) (j : ℕ) → slice_get (map of_declaration xs) j ≡ Some e → is_formal e.entity ≡ false
    declared [] j found = absurd (let none : None ≡ Some e = found in cc)
    declared (d ∷ xs) zero found = ap (λ (x : Entry). is_formal x.entity) (sym (same_Some _ _ found)) ∙ form d.form
    declared (d ∷ xs) (suc j) found = declared xs j found
section_other (Section.Defines ds) k e at = defined ds k at
  where
    defined : (xs : List Definition) (j : ℕ) → slice_get (map of_definition xs) j ≡ Some e → is_formal e.entity ≡ false
    defined [] j found = absurd (let none : None ≡ Some e = found in cc)
    defined (d ∷ xs) zero found = ap (λ (x : Entry). is_formal x.entity) (sym (same_Some _ _ found))
    defined (d ∷ xs) (suc j) found = defined xs j found
section_other (Section.Assigns items) k e at = absurd (let none : None ≡ Some e = at in cc)
section_other (Section.States item) k e at = absurd (let none : None ≡ Some e = at in cc)

-- a member of two lists one after the other
parted : (xs ys : List Entry) (k : ℕ) (e : Entry) → slice_get (xs ++ ys) k ≡ Some e → (slice_get xs k ≡ Some e) ⊎ ((j : ℕ) × (slice_get ys j ≡ Some e))
parted [] ys k e at = inr (k, at)
parted (x ∷ xs) ys zero e at = inl at
parted (x ∷ xs) ys (suc k) e at = parted xs ys k e at

sections_other : (ss : List Section) (k : ℕ) (e : Entry) → slice_get (flat_map of_section ss) k ≡ Some e → is_formal e.entity ≡ false
sections_other [] k e at = absurd (let none : None ≡ Some e = at in cc)
sections_other (s ∷ ss) k e at = ⊎_elim (λ here. section_other s k e here) (λ later. sections_other ss later.0 e later.1) (parted (of_section s) (flat_map of_section ss) k e at)

clash : (b : Bool) → b ≡ true → b ≡ false → ⊥
clash b t f = cc

-- an entry that is a formal parameter stands at the parameter's place
pub formal_at : (m : Module) (x : Name) (place : ℕ) (e : Entry) → place ≡ place_of (map (λ d. d.name) (entries m)) x → slice_get (entries m) place ≡ Some e → e.entity ≡ Entity.Parameter → IsFormal m.formals x place
formal_at m x place e is at parameter =
    ⊎_elim
    (λ here.
    let within : place < length (map of_formal m.formals) = slice_get_within _ place e here in
    let names : map (λ (d : Entry). d.name) (entries m) ≡ map (λ (d : Entry). d.name) (map of_formal m.formals) ++ map (λ (d : Entry). d.name) (flat_map of_section m.sections) = map-append (λ (d : Entry). d.name) (map of_formal m.formals) (flat_map of_section m.sections) in
    let formals : map (λ (d : Entry). d.name) (map of_formal m.formals) ≡ map (λ (f : Formal). f.name) m.formals = map_map (λ (d : Entry). d.name) of_formal m.formals in
    let all : place ≡ place_of (map (λ (f : Formal). f.name) m.formals ++ map (λ (d : Entry). d.name) (flat_map of_section m.sections)) x = is ∙ ap (λ ns. place_of ns x) (names ∙ ap (λ ns. ns ++ map (λ (d : Entry). d.name) (flat_map of_section m.sections)) formals) in
    let below : place < length m.formals = omega (arith, within, length-map m.formals of_formal) in
    (below, place_prefix (bytes_eq x) (map (λ (f : Formal). f.name) m.formals) (map (λ (d : Entry). d.name) (flat_map of_section m.sections)) (omega (arith, sym all, below, length-map m.formals (λ (f : Formal). f.name))) ∙ sym all))
    (λ later. absurd (clash _ (ap is_formal parameter) (sections_other m.sections later.0 e later.1)))
    (parted (map of_formal m.formals) (flat_map of_section m.sections) place e at)
