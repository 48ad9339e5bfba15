-- Different numbers are those of different abbreviations.
use Rattle.std.proofs.Common.{◌≡◌, refl, sym, ◌∙◌, ap, subst, ℕ, zero, suc, ◌+◌, ◌≤◌, arith, List, [], ◌∷◌, ◌++◌, length, length-append, take, flat_map, append-nil, Bool, Option, Some, None, ◌⊎◌, inl, inr}
use Rattle.std.specs.Prelude.{filter_map, option_map, slice_get}
use Rattle.std.specs.List.{cons_option}
use Rattle.std.proofs.lemmas.Option.{same_Some, slice_get-map}
use Rattle.smv_instances.specs.declared.instances.Instances.{Instances}
use Rattle.smv_instances.specs.Program.{Name, Expr, Module, Program}
use Rattle.smv_instances.specs.Entries.{Entity, Entry, entries, module_named}
use Rattle.smv_instances.specs.Instances.{Scope, module_of, depth, child, children, instances_from, instances, main_name, greatest_depth, all_entries, place_of}
use Rattle.smv_instances.specs.Built.{AreInstances}
use Rattle.smv_instances.proofs.InstanceLemmas.{row_of, entry_place}
use Rattle.smv_names.specs.Abbreviations.{Abbreviation}
use Rattle.smv_names.specs.Nodes.{abbreviation_at, placed_entries, entries_before}
use Rattle.smv_names.proofs.NodeLemmas.{flat_get}

-- each member stands at one place alone
abbrev Once : {A : Type 0} → List A → Type 0
Once {A} xs = (j k : ℕ) (x : A) → slice_get xs j ≡ Some x → slice_get xs k ≡ Some x → j ≡ k

not_there : {A : Type 0} {x : A} → None ≡ Some x → ⊥
not_there e = cc

-- ---- lists one after the other

-- y stands at n in the lists of the members, at k in the one of x
record IsPart {A B : Type 0} (f : A → List B) (xs : List A) (n : ℕ) (y : B) : Type 0 where
  i : ℕ
  k : ℕ
  x : A
  outer : slice_get xs i ≡ Some x
  inner : slice_get (f x) k ≡ Some y
  place : n ≡ length (flat_map f (take i xs)) + k

parted : {A : Type 0} (xs ys : List A) (n : ℕ) (y : A) → slice_get (xs ++ ys) n ≡ Some y → (slice_get xs n ≡ Some y) ⊎ ((m : ℕ) × (n ≡ length xs + m) × (slice_get ys m ≡ Some y))
parted [] ys n y at = inr (n, omega arith, at)
parted (x ∷ xs) ys zero y at = inl at
parted (x ∷ xs) ys (suc n) y at = elim (parted xs ys n y at) [ inl h ↦ inl h | inr r ↦ inr (r.0, omega (arith, r.1), r.2) ]

part_step : {A B : Type 0} (f : A → List B) (x : A) (xs : List A) (n : ℕ) (y : B) → ((m : ℕ) → slice_get (flat_map f xs) m ≡ Some y → IsPart f xs m y)
    → (slice_get (f x) n ≡ Some y) ⊎ ((m : ℕ) × (n ≡ length (f x) + m) × (slice_get (flat_map f xs) m ≡ Some y)) → IsPart f (x ∷ xs) n y
part_step f x xs n y rest (inl here) = let e : n ≡ 0 + n = omega arith in record { i = 0; k = n; x = x; outer = refl; inner = here; place = e }
part_step f x xs n y rest (inr r) =
    let q = rest r.0 r.2 in
    let e : n ≡ length (f x ++ flat_map f (take q.i xs)) + q.k = omega (arith, r.1, q.place, length-append (f x) (flat_map f (take q.i xs))) in
    record { i = suc q.i; k = q.k; x = q.x; outer = q.outer; inner = q.inner; place = e }

flat_part : {A B : Type 0} (f : A → List B) (xs : List A) (n : ℕ) (y : B) → slice_get (flat_map f xs) n ≡ Some y → IsPart f xs n y
flat_part f [] n y at = absurd (not_there at)
flat_part f (x ∷ xs) n y at = part_step f x xs n y (λ m h. flat_part f xs m y h) (parted (f x) (flat_map f xs) n y at)

once_flat : {A B : Type 0} (f : A → List B) (xs : List A) → Once xs → ((i : ℕ) (x : A) → slice_get xs i ≡ Some x → Once (f x))
    → ((i j : ℕ) (x z : A) → slice_get xs i ≡ Some x → slice_get xs j ≡ Some z → (k m : ℕ) (y : B) → slice_get (f x) k ≡ Some y → slice_get (f z) m ≡ Some y → x ≡ z) → Once (flat_map f xs)
once_flat f xs outer inner apart n m y at_n at_m =
    let a = flat_part f xs n y at_n in
    let b = flat_part f xs m y at_m in
    let same : a.x ≡ b.x = apart a.i b.i a.x b.x a.outer b.outer a.k b.k y a.inner b.inner in
    let i : a.i ≡ b.i = outer a.i b.i b.x (a.outer ∙ ap Some same) b.outer in
    let k : a.k ≡ b.k = inner b.i b.x b.outer a.k b.k y (ap (λ z. slice_get (f z) a.k) (sym same) ∙ a.inner) b.inner in
    a.place ∙ ap (λ j. length (flat_map f (take j xs)) + a.k) i ∙ ap (λ j. length (flat_map f (take b.i xs)) + j) k ∙ sym b.place

-- ---- what a partial function gives

record IsGiven {A B : Type 0} (h : A → Option B) (xs : List A) (n : ℕ) (y : B) : Type 0 where
  i : ℕ
  x : A
  stands : slice_get xs i ≡ Some x
  gives : h x ≡ Some y
  place : n ≡ length (filter_map h (take i xs))

given_step : {A B : Type 0} (h : A → Option B) (x : A) (xs : List A) (o : Option B) (n : ℕ) (y : B) → h x ≡ o → ((m : ℕ) → slice_get (filter_map h xs) m ≡ Some y → IsGiven h xs m y)
    → slice_get (cons_option o (filter_map h xs)) n ≡ Some y → IsGiven h (x ∷ xs) n y
given_step h x xs None n y is rest at =
    let q = rest n at in
    record { i = suc q.i; x = q.x; stands = q.stands; gives = q.gives; place = q.place ∙ ap (λ o. length (cons_option o (filter_map h (take q.i xs)))) (sym is) }
given_step h x xs (Some b) zero y is rest at = record { i = 0; x = x; stands = refl; gives = is ∙ at; place = refl }
given_step h x xs (Some b) (suc n) y is rest at =
    let q = rest n at in
    let more : suc n ≡ length (b ∷ filter_map h (take q.i xs)) = omega (arith, q.place) in
    record { i = suc q.i; x = q.x; stands = q.stands; gives = q.gives; place = more ∙ ap (λ o. length (cons_option o (filter_map h (take q.i xs)))) (sym is) }

given_at : {A B : Type 0} (h : A → Option B) (xs : List A) (n : ℕ) (y : B) → slice_get (filter_map h xs) n ≡ Some y → IsGiven h xs n y
given_at h [] n y at = absurd (not_there at)
given_at h (x ∷ xs) n y at = given_step h x xs (h x) n y refl (λ m g. given_at h xs m y g) at

once_given : {A B : Type 0} (h : A → Option B) (xs : List A) → ((i j : ℕ) (x z : A) (y : B) → slice_get xs i ≡ Some x → slice_get xs j ≡ Some z → h x ≡ Some y → h z ≡ Some y → i ≡ j) → Once (filter_map h xs)
once_given h xs one n m y at_n at_m =
    let a = given_at h xs n y at_n in
    let b = given_at h xs m y at_m in
    a.place ∙ ap (λ j. length (filter_map h (take j xs))) (one a.i b.i a.x b.x y a.stands b.stands a.gives b.gives) ∙ sym b.place

-- ---- the instances below an instance

-- the second is the first, or lies inside it
data Under (c : Scope) : Scope → Type 0 where
  here : Under c c
  inside : {around : Scope} {name : Name} {process : Bool} {actuals : List Expr} {m : Module} → Under c around → Under c (Scope.Inside around name process actuals m)

under_trans : {a b c : Scope} → Under a b → Under b c → Under a c
under_trans u Under.here = u
under_trans u (Under.inside v) = Under.inside (under_trans u v)

under_depth : {c t : Scope} → Under c t → depth c ≤ depth t
under_depth Under.here = omega arith
under_depth (Under.inside {around = around} u) = omega (arith, under_depth u)

-- of two at one depth, one alone is around it
under_one : {c d t : Scope} → Under c t → Under d t → depth c ≡ depth d → c ≡ d
under_one Under.here Under.here same = refl
under_one Under.here (Under.inside v) same = absurd (omega (arith, same, under_depth v))
under_one (Under.inside u) Under.here same = absurd (omega (arith, same, under_depth u))
under_one (Under.inside u) (Under.inside v) same = under_one u v same

-- what an entry that declares an instance gives
record IsDeclared (s : Scope) (name : Name) (c : Scope) : Type 0 where
  process : Bool
  actuals : List Expr
  m : Module
  is : c ≡ Scope.Inside s name process actuals m

declared : (p : Program) (s : Scope) (name : Name) (line : ℕ) (entity : Entity) (c : Scope) → child p s (record { name = name; line = line; entity = entity }) ≡ Some c → IsDeclared s name c
declared p s name line (Entity.Instance process x actuals) c given = by (module_named p x) given
  where
    by : (o : Option Module) → option_map (Scope.Inside s name process actuals) o ≡ Some c → IsDeclared s name c
    by None e = absurd (not_there e)
    by (Some m) e = record { process = process; actuals = actuals; m = m; is = sym (same_Some _ _ e) }
declared p s name line Entity.Parameter c given = absurd (not_there given)
declared p s name line (Entity.Stored type) c given = absurd (not_there given)
declared p s name line (Entity.Defined body) c given = absurd (not_there given)

declared_by : (p : Program) (s : Scope) (e : Entry) (c : Scope) → child p s e ≡ Some c → IsDeclared s e.name c
declared_by p s e c given = declared p s e.name e.line e.entity c given

declared_depth : {s c : Scope} {name : Name} → IsDeclared s name c → depth c ≡ depth s + 1
declared_depth d = ap depth d.is

declared_under : {s c : Scope} {name : Name} → IsDeclared s name c → Under s c
declared_under {s} d = subst (Under s) (sym d.is) (Under.inside Under.here)

abbrev name_or : Name → Scope → Name
name_or x (Scope.Main m) = x
name_or x (Scope.Inside around name process actuals m) = name

-- the instance declares no name twice
abbrev NamedOnce : Scope → Type 0
NamedOnce s = (i j : ℕ) (d e : Entry) → slice_get (entries (module_of s)) i ≡ Some d → slice_get (entries (module_of s)) j ≡ Some e → d.name ≡ e.name → i ≡ j

once_children : (p : Program) (s : Scope) → NamedOnce s → Once (children p s)
once_children p s named = once_given (child p s) (entries (module_of s)) (λ i j d e c at_i at_j gives_d gives_e.
    named i j d e at_i at_j (sym (ap (name_or d.name) (declared_by p s d c gives_d).is) ∙ ap (name_or d.name) (declared_by p s e c gives_e).is))

tree_under : (p : Program) (n : ℕ) (s t : Scope) (k : ℕ) → slice_get (instances_from p n s) k ≡ Some t → Under s t
tree_under p zero s t zero at = subst (Under s) (same_Some _ _ at) Under.here
tree_under p zero s t (suc k) at = absurd (not_there at)
tree_under p (suc n) s t zero at = subst (Under s) (same_Some _ _ at) Under.here
tree_under p (suc n) s t (suc k) at =
    let q = flat_part (instances_from p n) (children p s) k t at in
    let g = given_at (child p s) (entries (module_of s)) q.i q.x q.outer in
    under_trans (declared_under (declared_by p s g.x q.x g.gives)) (tree_under p n q.x t q.k q.inner)

children_depth : (p : Program) (s c : Scope) (i : ℕ) → slice_get (children p s) i ≡ Some c → depth c ≡ depth s + 1
children_depth p s c i at = let g = given_at (child p s) (entries (module_of s)) i c at in declared_depth (declared_by p s g.x c g.gives)

-- the root stands nowhere below itself
root_apart : (p : Program) (n : ℕ) (s : Scope) (k : ℕ) → slice_get (flat_map (instances_from p n) (children p s)) k ≡ Some s → ⊥
root_apart p n s k at =
    let q = flat_part (instances_from p n) (children p s) k s at in
    omega (arith, under_depth (tree_under p n q.x s q.k q.inner), children_depth p s q.x q.i q.outer)

once_more : {A : Type 0} (x : A) (xs : List A) → ((k : ℕ) → slice_get xs k ≡ Some x → ⊥) → Once xs → Once (x ∷ xs)
once_more x xs new once zero zero y at_j at_k = refl
once_more x xs new once zero (suc k) y at_j at_k = absurd (new k (at_k ∙ sym at_j))
once_more x xs new once (suc j) zero y at_j at_k = absurd (new j (at_j ∙ sym at_k))
once_more x xs new once (suc j) (suc k) y at_j at_k = ap suc (once j k y at_j at_k)

once_one : {A : Type 0} (x : A) → Once (x ∷ [])
once_one x = once_more x [] (λ k at. not_there at) (λ j k y at_j at_k. absurd (not_there at_j))

once_tree : (p : Program) (n : ℕ) (s : Scope) → ((k : ℕ) (t : Scope) → slice_get (instances_from p n s) k ≡ Some t → NamedOnce t) → Once (instances_from p n s)
once_tree p zero s named = once_one s
once_tree p (suc n) s named = once_more s (flat_map (instances_from p n) (children p s)) (root_apart p n s)
    (once_flat (instances_from p n) (children p s) (once_children p s (named 0 s refl))
    (λ i c at. once_tree p n c (λ k t at_t. named (suc (length (flat_map (instances_from p n) (take i (children p s))) + k)) t (flat_get (instances_from p n) (children p s) i k c t at at_t)))
    (λ i j c d at_c at_d k m t in_c in_d. under_one (tree_under p n c t k in_c) (tree_under p n d t m in_d) (children_depth p s c i at_c ∙ sym (children_depth p s d j at_d))))

-- ---- all instances, and all entries

once_main : (p : Program) (o : Option Module) → ((k : ℕ) (t : Scope) → slice_get (flat_map (instances_from p greatest_depth) (cons_option (option_map Scope.Main o) [])) k ≡ Some t → NamedOnce t)
    → Once (flat_map (instances_from p greatest_depth) (cons_option (option_map Scope.Main o) []))
once_main p None named = λ j k y at_j at_k. absurd (not_there at_j)
once_main p (Some m) named =
    let whole = append-nil (instances_from p greatest_depth (Scope.Main m)) in
    subst Once (sym whole) (once_tree p greatest_depth (Scope.Main m) (λ k t at. named k t (ap (λ xs. slice_get xs k) whole ∙ at)))

mapped : {A B : Type 0} (f : A → B) (o : Option A) (y : B) → option_map f o ≡ Some y → (x : A) × (o ≡ Some x) × (f x ≡ y)
mapped f None y e = absurd (not_there e)
mapped f (Some x) y e = (x, refl, same_Some _ _ e)

-- where the entry of an abbreviation stands
record IsNumbered (p : Program) (v : ℕ) (a : Abbreviation) : Type 0 where
  i : ℕ
  k : ℕ
  entry : Entry
  outer : slice_get (instances p) i ≡ Some a.scope
  inner : slice_get (entries (module_of a.scope)) k ≡ Some entry
  named : entry.name ≡ a.name
  place : v ≡ entries_before p i + k

numbered_at : (p : Program) (v : ℕ) (a : Abbreviation) → abbreviation_at p v ≡ Some a → IsNumbered p v a
numbered_at p v a at =
    let r = mapped (λ (e : Scope × Entry). let b : Abbreviation = record { scope = e.0; name = e.1.name } in b) (slice_get (all_entries p) v) a at in
    let q = flat_part placed_entries (instances p) v r.0 r.1 in
    let g = mapped (λ (e : Entry). (q.x, e)) (slice_get (entries (module_of q.x)) q.k) r.0 (sym (slice_get-map (λ (e : Entry). (q.x, e)) (entries (module_of q.x)) q.k) ∙ q.inner) in
    let scopes : q.x ≡ a.scope = ap (λ (z : Scope × Entry). z.0) g.2 ∙ ap (λ (b : Abbreviation). b.scope) r.2 in
    record {
      i = q.i;
      k = q.k;
      entry = g.0;
      outer = q.outer ∙ ap Some scopes;
      inner = ap (λ s. slice_get (entries (module_of s)) q.k) (sym scopes) ∙ g.1;
      named = ap (λ (z : Scope × Entry). z.1.name) g.2 ∙ ap (λ (b : Abbreviation). b.name) r.2;
      place = q.place;
    }

module _ (p : Program) (all : Instances) (are : AreInstances p all) where
  named_once : (i : ℕ) (s : Scope) → slice_get (instances p) i ≡ Some s → NamedOnce s
  named_once i s at j k d e at_j at_k same =
      let row = row_of p all i s are at in
      let table = row.2.table.is_table in
      entry_place p all i s row.2.table.table j d are at table at_j
      ∙ ap (place_of _) same
      ∙ sym (entry_place p all i s row.2.table.table k e are at table at_k)

  -- no instance has two numbers
  pub once_instances : Once (instances p)
  once_instances = once_main p (module_named p main_name) (λ k t at. named_once k t at)

  -- no abbreviation has two numbers
  pub numbered_once : (v w : ℕ) (a : Abbreviation) → abbreviation_at p v ≡ Some a → abbreviation_at p w ≡ Some a → v ≡ w
  numbered_once v w a at_v at_w =
      let x = numbered_at p v a at_v in
      let y = numbered_at p w a at_w in
      let i : x.i ≡ y.i = once_instances x.i y.i a.scope x.outer y.outer in
      let k : x.k ≡ y.k = named_once y.i a.scope y.outer x.k y.k x.entry y.entry x.inner y.inner (x.named ∙ sym y.named) in
      x.place ∙ ap (λ j. entries_before p j + x.k) i ∙ ap (λ j. entries_before p y.i + j) k ∙ sym y.place
