-- How many variables, instances and processes there are, against the counts of the declarations.
use Rattle.std.proofs.Common.{◌≡◌, refl, sym, ◌∙◌, ap, subst, ℕ, zero, suc, ◌<◌, ◌≤◌, ◌+◌, ◌-◌, ◌*◌, arith, List, [], ◌∷◌, ◌++◌, length, Bool, true, false, cond, Some, None, Option, inl, inr, append-nil, append_assoc}
use Rattle.std.specs.Prelude.{map, flat_map, filter, option_map, sum_by, take, ◌||◌}
use Rattle.std.specs.List.{cons_option, list_any}
use Rattle.std.proofs.lemmas.List.Sums.{sum_by-cons, sum_by-append}
use Rattle.std.proofs.lemmas.List.Folds.{list_any-append}
use Rattle.std.proofs.lemmas.List.Concat.{flat_map-append}
use Rattle.std.proofs.lemmas.Bool.{cases_lt, false≢true}
use Rattle.kripke_model.specs.System.{Variable}
use Rattle.kripke_model.specs.Refusing.{Silent}
use Rattle.kripke_model.specs.declared.refusals.FlatRefusal.{FlatRefusal}
use Rattle.kripke_model.specs.declared.refusals.Which.{Which}
use Rattle.smv_instances.specs.Program.{Name, Plain, Module, Program}
use Rattle.smv_instances.specs.Entries.{Entity, Entry, entries, module_named}
use Rattle.smv_instances.specs.Instances.{Scope, module_of, child, children, instances_from, indexed, between, element_names, entry_variables, variables_from, spelled, type_values, symbols, declares_process}
use Rattle.smv_instances.specs.Declarations.{variable_count, entry_variable_count, is_instance, one_if, variables_in, instances_in, entries_of, declaration, body}
use Rattle.smv_instantiate.proofs.Members.{flat_map-filter_map}
use Rattle.smv_instantiate.proofs.Silence.{silent_first, silent_second, EachAfter, silent_each, after_all}
use Rattle.smv_instantiate.specs.Bodies.{inner_variables}
use Rattle.smv_instantiate.proofs.BodyLemmas.{variables_of_body}
use Rattle.smv_instantiate.proofs.TypeLemmas.{length_rising}

-- ---- sums

abbrev pub total : {A : Type 0} → (A → ℕ) → List A → ℕ
total f [] = 0
total f (x ∷ xs) = f x + total f xs

pub sum_is_total : {A : Type 0} (f : A → ℕ) (xs : List A) → sum_by f xs ≡ total f xs
sum_is_total f [] = refl
sum_is_total f (x ∷ xs) = sum_by-cons f x xs ∙ ap (λ n. f x + n) (sum_is_total f xs)

pub total-append : {A : Type 0} (f : A → ℕ) (xs ys : List A) → total f (xs ++ ys) ≡ total f xs + total f ys
total-append f [] ys = omega arith
total-append f (x ∷ xs) ys = let e : total f (xs ++ ys) ≡ total f xs + total f ys = total-append f xs ys in omega (arith, e)

pub total-flat_map : {A B : Type 0} (f : B → ℕ) (g : A → List B) (xs : List A) → total f (flat_map g xs) ≡ total (λ x. total f (g x)) xs
total-flat_map f g [] = refl
total-flat_map f g (x ∷ xs) = total-append f (g x) (flat_map g xs) ∙ ap (λ n. total f (g x) + n) (total-flat_map f g xs)

pub total-map : {A B : Type 0} (f : B → ℕ) (g : A → B) (xs : List A) → total f (map g xs) ≡ total (λ x. f (g x)) xs
total-map f g [] = refl
total-map f g (x ∷ xs) = ap (λ n. f (g x) + n) (total-map f g xs)

pub total_one : {A : Type 0} (xs : List A) → total (λ x. 1) xs ≡ length xs
total_one [] = refl
total_one (x ∷ xs) = let e : total (λ y. 1) xs ≡ length xs = total_one xs in omega (arith, e)

total_same : {A : Type 0} (f g : A → ℕ) (xs : List A) → ((x : A) → f x ≡ g x) → total f xs ≡ total g xs
total_same f g [] e = refl
total_same f g (x ∷ xs) e = ap (λ n. n + total f xs) (e x) ∙ ap (λ n. g x + n) (total_same f g xs e)

total_add : {A : Type 0} (f g : A → ℕ) (xs : List A) → total (λ x. f x + g x) xs ≡ total f xs + total g xs
total_add f g [] = refl
total_add f g (x ∷ xs) = let e : total (λ y. f y + g y) xs ≡ total f xs + total g xs = total_add f g xs in omega (arith, e)

total_most : {A : Type 0} (f g : A → ℕ) (xs : List A) → ((x : A) → f x ≤ g x) → total f xs ≤ total g xs
total_most f g [] h = omega arith
total_most f g (x ∷ xs) h = let a : f x ≤ g x = h x in let b : total f xs ≤ total g xs = total_most f g xs h in omega (arith, a, b)

-- ---- variables

none_each : (count : ℕ) → 0 ≡ 0 * count
none_each count = omega arith

pub elements_each : (f : ℕ → List Name) (count : ℕ) (is : List ℕ) → ((i : ℕ) → total (λ x. 1) (f i) ≡ count) → total (λ x. 1) (flat_map f is) ≡ length is * count
elements_each f count [] e = none_each count
elements_each f count (i ∷ is) e =
    let rest : total (λ x. 1) (flat_map f is) ≡ length is * count = elements_each f count is e in
    let here : total (λ x. 1) (f i) ≡ count = e i in
    total-append (λ x. 1) (f i) (flat_map f is) ∙ ap (λ n. n + total (λ x. 1) (flat_map f is)) here ∙ ap (λ n. count + n) rest ∙ one_more count (length is)
  where
    one_more : (a b : ℕ) → a + b * a ≡ suc b * a
    one_more a b = grind arith

pub elements_count : (type : Plain) (x : Name) → total (λ y. 1) (element_names type x) ≡ variable_count type
elements_count Plain.Boolean x = refl
elements_count (Plain.Enumeration constants) x = refl
elements_count (Plain.Range low high) x = refl
elements_count (Plain.Array low high element) x =
    elements_each (λ i. element_names element (indexed x i)) (variable_count element) (between low high) (λ i. elements_count element (indexed x i))
    ∙ ap (λ n. n * variable_count element) (length_rising low (high + 1 - low))

abbrev pub weight : Entry → ℕ
weight e = entry_variable_count e.entity

-- the variables that the body itself declares
abbrev pub body_weight : Scope → ℕ
body_weight s = total weight (entries (module_of s))

abbrev inner_total : Program → (Scope → ℕ) → Scope → Entry → ℕ
inner_total p f s e = total f (cons_option (child p s e) [])

entry_total : (p : Program) (inner : Scope → List Variable) (s : Scope) (name : Name) (line : ℕ) (entity : Entity)
    → total (λ v. 1) (entry_variables p inner s (record { name = name; line = line; entity = entity })) ≡ entry_variable_count entity + inner_total p (λ c. total (λ v. 1) (inner c)) s (record { name = name; line = line; entity = entity })
entry_total p inner s name line Entity.Parameter = refl
entry_total p inner s name line (Entity.Defined body) = refl
entry_total p inner s name line (Entity.Stored type) =
    total-map (λ v. 1) (λ x. record { name = x; values = type_values (symbols p) type; line = line }) (element_names type (spelled s name)) ∙ elements_count type (spelled s name) ∙ omega arith
entry_total p inner s name line (Entity.Instance process x actuals) = total-flat_map (λ v. 1) inner (cons_option (option_map (Scope.Inside s name process actuals) (module_named p x)) []) ∙ omega arith

children_total : (p : Program) (n : ℕ) (f : Scope → ℕ) (s : Scope) → total f (flat_map (instances_from p n) (children p s)) ≡ total (inner_total p (λ c. total f (instances_from p n c)) s) (entries (module_of s))
children_total p n f s =
    ap (total f) (flat_map-filter_map (instances_from p n) (child p s) (entries (module_of s)))
    ∙ total-flat_map f (λ e. flat_map (instances_from p n) (cons_option (child p s e) [])) (entries (module_of s))
    ∙ total_same (λ e. total f (flat_map (instances_from p n) (cons_option (child p s e) []))) (inner_total p (λ c. total f (instances_from p n c)) s) (entries (module_of s))
    (λ e. total-flat_map f (instances_from p n) (cons_option (child p s e) []))

body_total : (p : Program) (n : ℕ) (s : Scope) → total (λ v. 1) (variables_from p n s) ≡ body_weight s + total (inner_total p (λ c. total (λ v. 1) (inner_variables p n c)) s) (entries (module_of s))
body_total p n s =
    ap (total (λ v. 1)) (variables_of_body p n s)
    ∙ total-flat_map (λ v. 1) (entry_variables p (inner_variables p n) s) (entries (module_of s))
    ∙ total_same (λ e. total (λ v. 1) (entry_variables p (inner_variables p n) s e)) (λ e. weight e + inner_total p (λ c. total (λ v. 1) (inner_variables p n c)) s e) (entries (module_of s))
    (λ e. entry_total p (inner_variables p n) s e.name e.line e.entity)
    ∙ total_add weight (inner_total p (λ c. total (λ v. 1) (inner_variables p n c)) s) (entries (module_of s))

none_inside : (p : Program) (s : Scope) (es : List Entry) → total (inner_total p (λ c. 0) s) es ≡ 0
none_inside p s [] = refl
none_inside p s (e ∷ es) = both_none (child p s e) (none_inside p s es)
  where
    both_none : (o : Option Scope) {n : ℕ} → n ≡ 0 → total (λ (c : Scope). 0) (cons_option o []) + n ≡ 0
    both_none None e = omega (arith, e)
    both_none (Some c) e = omega (arith, e)

pub variables_total : (p : Program) (n : ℕ) (s : Scope) → total (λ v. 1) (variables_from p n s) ≡ total body_weight (instances_from p n s)
variables_total p zero s = body_total p zero s ∙ ap (λ k. body_weight s + k) (none_inside p s (entries (module_of s)))
variables_total p (suc n) s =
    body_total p (suc n) s
    ∙ ap (λ k. body_weight s + k) (total_same (inner_total p (λ c. total (λ v. 1) (variables_from p n c)) s) (inner_total p (λ c. total body_weight (instances_from p n c)) s) (entries (module_of s))
    (λ e. total_same (λ c. total (λ v. 1) (variables_from p n c)) (λ c. total body_weight (instances_from p n c)) (cons_option (child p s e) []) (λ c. variables_total p n c))
    ∙ sym (children_total p n body_weight s))

-- ---- instances

abbrev pub declares_one : Entry → ℕ
declares_one e = one_if (is_instance e.entity)

abbrev pub body_instances : Scope → ℕ
body_instances s = total declares_one (entries (module_of s))

one_child : (p : Program) (f : Scope → ℕ) (s : Scope) (name : Name) (line : ℕ) (entity : Entity) → inner_total p (λ c. 1 + f c) s (record { name = name; line = line; entity = entity }) ≤ one_if (is_instance entity) + inner_total p f s (record { name = name; line = line; entity = entity })
one_child p f s name line Entity.Parameter = omega arith
one_child p f s name line (Entity.Defined body) = omega arith
one_child p f s name line (Entity.Stored type) = omega arith
one_child p f s name line (Entity.Instance process x actuals) = by (module_named p x)
  where
    by : (o : Option Module) → total (λ c. 1 + f c) (cons_option (option_map (Scope.Inside s name process actuals) o) []) ≤ 1 + total f (cons_option (option_map (Scope.Inside s name process actuals) o) [])
    by None = omega arith
    by (Some m) = omega arith

pub instances_total : (p : Program) (n : ℕ) (s : Scope) → length (instances_from p n s) ≤ 1 + total body_instances (instances_from p n s)
instances_total p zero s = omega arith
instances_total p (suc n) s =
    let all : length (flat_map (instances_from p n) (children p s)) ≡ total (inner_total p (λ c. length (instances_from p n c)) s) (entries (module_of s)) =
    sym (total_one (flat_map (instances_from p n) (children p s))) ∙ children_total p n (λ x. 1) s
    ∙ total_same (inner_total p (λ c. total (λ x. 1) (instances_from p n c)) s) (inner_total p (λ c. length (instances_from p n c)) s) (entries (module_of s))
    (λ e. total_same (λ c. total (λ x. 1) (instances_from p n c)) (λ c. length (instances_from p n c)) (cons_option (child p s e) []) (λ c. total_one (instances_from p n c))) in
    let some : total (inner_total p (λ c. length (instances_from p n c)) s) (entries (module_of s)) ≤ total (λ e. declares_one e + inner_total p (λ c. total body_instances (instances_from p n c)) s e) (entries (module_of s)) =
    total_most (inner_total p (λ c. length (instances_from p n c)) s) (λ e. declares_one e + inner_total p (λ c. total body_instances (instances_from p n c)) s e) (entries (module_of s))
    (λ e. bounded (child p s e) (instances_total p n) (one_child p (λ c. total body_instances (instances_from p n c)) s e.name e.line e.entity)) in
    let sums : total (λ e. declares_one e + inner_total p (λ c. total body_instances (instances_from p n c)) s e) (entries (module_of s)) ≡ body_instances s + total body_instances (flat_map (instances_from p n) (children p s)) =
    total_add declares_one (inner_total p (λ c. total body_instances (instances_from p n c)) s) (entries (module_of s)) ∙ ap (λ k. body_instances s + k) (sym (children_total p n body_instances s)) in
    omega (arith, all, some, sums)
  where
    bounded : (o : Option Scope) {k : ℕ} → ((c : Scope) → length (instances_from p n c) ≤ 1 + total body_instances (instances_from p n c))
        → total (λ c. 1 + total body_instances (instances_from p n c)) (cons_option o []) ≤ k → total (λ c. length (instances_from p n c)) (cons_option o []) ≤ k
    bounded None h within = within
    bounded (Some c) h within = let l : length (instances_from p n c) ≤ 1 + total body_instances (instances_from p n c) = h c in omega (arith, l, within)

-- ---- the counts of the declarations

pub variables_counted : (ss : List Scope) → sum_by (λ (e : Entry). entry_variable_count e.entity) (entries_of ss) ≡ total body_weight ss
variables_counted ss = sum_is_total _ _ ∙ total-flat_map weight (λ s. entries (module_of s)) ss

pub instances_counted : (ss : List Scope) → instances_in (entries_of ss) ≡ total body_instances ss
instances_counted ss = sum_is_total _ _ ∙ total-flat_map declares_one (λ s. entries (module_of s)) ss

not_above : (n most : ℕ) → (most < n → ⊥) → n ≤ most
not_above n most h = elim (cases_lt most n) [ inl more ↦ absurd (h more) | inr within ↦ within ]

instances_of_entry : (b : List Entry) (e : Entry) → instances_in (b ++ (e ∷ [])) ≡ instances_in b + one_if (is_instance e.entity)
instances_of_entry b e = sum_by-append (λ (x : Entry). one_if (is_instance x.entity)) b (e ∷ []) ∙ omega arith

or_false : (a b : Bool) → b ≡ false → (a || (b || false)) ≡ a
or_false true b e = refl
or_false false true e = absurd (false≢true (sym e))
or_false false false e = refl

variables_of_entry : (b : List Entry) (e : Entry) → declares_process e.entity ≡ false → entry_variable_count e.entity ≡ 0 → variables_in (b ++ (e ∷ [])) ≡ variables_in b
variables_of_entry b e plain none =
    let sums : sum_by (λ (x : Entry). entry_variable_count x.entity) (b ++ (e ∷ [])) ≡ sum_by (λ (x : Entry). entry_variable_count x.entity) b =
    sum_by-append (λ (x : Entry). entry_variable_count x.entity) b (e ∷ []) ∙ ap (λ k. sum_by (λ (x : Entry). entry_variable_count x.entity) b + (0 + k)) none ∙ omega arith in
    let same : list_any (λ (x : Entry). declares_process x.entity) (b ++ (e ∷ [])) ≡ list_any (λ (x : Entry). declares_process x.entity) b =
    list_any-append (λ (x : Entry). declares_process x.entity) b (e ∷ []) ∙ or_false (list_any (λ (x : Entry). declares_process x.entity) b) (declares_process e.entity) plain in
    ap (λ k. one_if k + sum_by (λ (x : Entry). entry_variable_count x.entity) (b ++ (e ∷ []))) same ∙ ap (λ k. one_if (list_any (λ (x : Entry). declares_process x.entity) b) + k) sums

-- within the limits after each entry
variables_kept : (p : Program) (bodies : List Scope) (s : Scope) (earlier : List Entry) (name : Name) (line : ℕ) (entity : Entity) → Silent (declaration p bodies s earlier (record { name = name; line = line; entity = entity }))
    → variables_in (entries_of bodies ++ earlier) ≤ 256 → variables_in (entries_of bodies ++ earlier ++ (record { name = name; line = line; entity = entity } ∷ [])) ≤ 256
variables_kept p bodies s earlier name line Entity.Parameter h few = subst (λ n. n ≤ 256) (sym (variables_of_entry (entries_of bodies ++ earlier) (record { name = name; line = line; entity = Entity.Parameter }) refl refl)) few
variables_kept p bodies s earlier name line (Entity.Defined body) h few = subst (λ n. n ≤ 256) (sym (variables_of_entry (entries_of bodies ++ earlier) (record { name = name; line = line; entity = Entity.Defined body }) refl refl)) few
variables_kept p bodies s earlier name line (Entity.Stored type) h few = not_above _ _ (λ more. silent_second (silent_second (silent_second h)) (FlatRefusal.Limit line Which.Variables 257) (refl, more))
variables_kept p bodies s earlier name line (Entity.Instance process y actuals) h few =
    not_above _ _ (λ more. silent_first (silent_second (silent_second (silent_second (silent_second h)))) (FlatRefusal.Limit line Which.Variables 257) (refl, more))

instances_kept : (p : Program) (bodies : List Scope) (s : Scope) (earlier : List Entry) (name : Name) (line : ℕ) (entity : Entity) → Silent (declaration p bodies s earlier (record { name = name; line = line; entity = entity }))
    → instances_in (entries_of bodies ++ earlier) ≤ 1023 → instances_in (entries_of bodies ++ earlier ++ (record { name = name; line = line; entity = entity } ∷ [])) ≤ 1023
instances_kept p bodies s earlier name line Entity.Parameter h few = subst (λ n. n ≤ 1023) (sym (instances_of_entry (entries_of bodies ++ earlier) (record { name = name; line = line; entity = Entity.Parameter }))) (omega (arith, few))
instances_kept p bodies s earlier name line (Entity.Defined body) h few = subst (λ n. n ≤ 1023) (sym (instances_of_entry (entries_of bodies ++ earlier) (record { name = name; line = line; entity = Entity.Defined body }))) (omega (arith, few))
instances_kept p bodies s earlier name line (Entity.Stored type) h few = subst (λ n. n ≤ 1023) (sym (instances_of_entry (entries_of bodies ++ earlier) (record { name = name; line = line; entity = Entity.Stored type }))) (omega (arith, few))
instances_kept p bodies s earlier name line (Entity.Instance process y actuals) h few =
    not_above _ _ (λ more. silent_first (silent_second (silent_second (silent_second (silent_second (silent_second h))))) (FlatRefusal.Limit line Which.Instances 1024) (refl, more))

-- what holds of no entry, and stays with one more, holds of all bodies' entries
module _ (p : Program) (Q : List Entry → Type 0) (step : (bodies : List Scope) (s : Scope) (earlier : List Entry) (e : Entry) → Silent (declaration p bodies s earlier e) → Q (entries_of bodies ++ earlier) → Q (entries_of bodies ++ earlier ++ (e ∷ []))) where
  body_keeps : (bodies : List Scope) (s : Scope) → Silent (body p bodies s) → Q (entries_of bodies) → Q (entries_of (bodies ++ (s ∷ [])))
  body_keeps bodies s h q =
      subst Q (ap (λ es. entries_of bodies ++ es) (sym (append-nil (entries (module_of s)))) ∙ sym (flat_map-append (λ t. entries (module_of t)) bodies (s ∷ [])))
      (after_all (λ b e. Silent (declaration p bodies s b e)) (λ b. Q (entries_of bodies ++ b))
      (λ b e silent k. subst Q (append_assoc (entries_of bodies) b (e ∷ [])) (step bodies s b e silent k)) [] (entries (module_of s))
      (silent_each (declaration p bodies s) [] (entries (module_of s)) h) (subst Q (sym (append-nil (entries_of bodies))) q))

  bodies_keep : (ss : List Scope) → EachAfter (λ b s. Silent (body p b s)) [] ss → Q [] → Q (entries_of ss)
  bodies_keep ss h q = after_all (λ b s. Silent (body p b s)) (λ b. Q (entries_of b)) body_keeps [] ss h q

pub few_variables : (p : Program) (ss : List Scope) → EachAfter (λ b s. Silent (body p b s)) [] ss → variables_in (entries_of ss) ≤ 256
few_variables p ss h = bodies_keep p (λ es. variables_in es ≤ 256) (λ bodies s b e silent k. variables_kept p bodies s b e.name e.line e.entity silent k) ss h (omega arith)

pub few_instances : (p : Program) (ss : List Scope) → EachAfter (λ b s. Silent (body p b s)) [] ss → instances_in (entries_of ss) ≤ 1023
few_instances p ss h = bodies_keep p (λ es. instances_in es ≤ 1023) (λ bodies s b e silent k. instances_kept p bodies s b e.name e.line e.entity silent k) ss h (omega arith)

any_placed : (s : Scope) (es : List Entry) → list_any (λ (e : Scope × Entry). declares_process e.1.entity) (map (λ e. (s, e)) es) ≡ list_any (λ (e : Entry). declares_process e.entity) es
any_placed s [] = refl
any_placed s (e ∷ es) = ap (λ b. declares_process e.entity || b) (any_placed s es)

-- the processes among the entries, with their instances or without
pub same_selector : (ss : List Scope) → list_any (λ (e : Scope × Entry). declares_process e.1.entity) (flat_map (λ s. map (λ e. (s, e)) (entries (module_of s))) ss) ≡ list_any (λ (e : Entry). declares_process e.entity) (entries_of ss)
same_selector [] = refl
same_selector (s ∷ ss) =
    list_any-append (λ (e : Scope × Entry). declares_process e.1.entity) (map (λ e. (s, e)) (entries (module_of s))) (flat_map (λ t. map (λ e. (t, e)) (entries (module_of t))) ss)
    ∙ ap (λ b. b || list_any (λ (e : Scope × Entry). declares_process e.1.entity) (flat_map (λ t. map (λ e. (t, e)) (entries (module_of t))) ss)) (any_placed s (entries (module_of s)))
    ∙ ap (λ b. list_any (λ (e : Entry). declares_process e.entity) (entries (module_of s)) || b) (same_selector ss)
    ∙ sym (list_any-append (λ (e : Entry). declares_process e.entity) (entries (module_of s)) (entries_of ss))

-- ---- the selector

pub selector_count : {A : Type 0} (t : A → Bool) (xs : List A) → length (take 1 (filter t xs)) ≡ one_if (list_any t xs)
selector_count t [] = refl
selector_count t (x ∷ xs) = by (t x) (selector_count t xs)
  where
    by : (b : Bool) → length (take 1 (filter t xs)) ≡ one_if (list_any t xs) → length (take 1 (cond b (x ∷ filter t xs) (filter t xs))) ≡ one_if (b || list_any t xs)
    by true e = refl
    by false e = e
