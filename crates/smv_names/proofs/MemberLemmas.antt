-- Members of lists that are put together, and of the tree of instances.
use Rattle.std.proofs.Common.{◌≡◌, refl, sym, ◌∙◌, ap, subst, ℕ, zero, suc, List, [], ◌∷◌, ◌++◌, map, flat_map, Option, Some, None, ◌⊎◌, inl, inr, Bool, true, false}
use Rattle.std.specs.Prelude.{slice_get, option_map, find, zip, cond}
use Rattle.std.specs.List.{cons_option, filter_map}
use Rattle.std.proofs.lemmas.Option.{same_Some}
use Rattle.smv_instances.specs.Program.{Name, Expr, Module, Program}
use Rattle.smv_instances.specs.Entries.{Entity, Entry, entries, module_named}
use Rattle.smv_instances.specs.Instances.{Scope, module_of, child, children, instances, instances_from, main_name, main_scope, greatest_depth, all_entries}
use Rattle.smv_names.specs.Nodes.{placed_entries}

-- x is a member
abbrev pub Has : {A : Type 0} → List A → A → Type 0
Has xs x = (k : ℕ) × (slice_get xs k ≡ Some x)

parted : {A : Type 0} (xs ys : List A) (k : ℕ) (x : A) → slice_get (xs ++ ys) k ≡ Some x → Has xs x ⊎ Has ys x
parted [] ys k x at = inr (k, at)
parted (z ∷ xs) ys zero x at = inl (0, at)
parted (z ∷ xs) ys (suc k) x at = elim (parted xs ys k x at) [ inl h ↦ inl (suc h.0, h.1) | inr h ↦ inr h ]

has_left : {A : Type 0} (xs ys : List A) (k : ℕ) (x : A) → slice_get xs k ≡ Some x → Has (xs ++ ys) x
has_left [] ys k x at = absurd (let none : None ≡ Some x = at in cc)
has_left (z ∷ xs) ys zero x at = (0, at)
has_left (z ∷ xs) ys (suc k) x at = let h = has_left xs ys k x at in (suc h.0, h.1)

has_right : {A : Type 0} (xs ys : List A) (x : A) → Has ys x → Has (xs ++ ys) x
has_right [] ys x h = h
has_right (z ∷ xs) ys x h = let r = has_right xs ys x h in (suc r.0, r.1)

-- a member of the lists one after the other is one of some list
pub flat_has : {A B : Type 0} (f : A → List B) (xs : List A) (y : B) → Has (flat_map f xs) y → (x : A) × Has xs x × Has (f x) y
flat_has f [] y h = absurd (let none : None ≡ Some y = h.1 in cc)
flat_has {A = A} f (x ∷ xs) y h = elim (parted (f x) (flat_map f xs) h.0 y h.1) [ inl k ↦ (x, (0, refl), k) | inr k ↦ later (flat_has f xs y k) ]
  where
    later : (z : A) × Has xs z × Has (f z) y → (z : A) × Has (x ∷ xs) z × Has (f z) y
    later (z, k, l) = (z, (suc k.0, k.1), l)

pub has_flat : {A B : Type 0} (f : A → List B) (xs : List A) (x : A) (y : B) → Has xs x → Has (f x) y → Has (flat_map f xs) y
has_flat f [] x y (k, at) h = absurd (let none : None ≡ Some x = at in cc)
has_flat f (z ∷ xs) x y (zero, at) h = has_left (f z) (flat_map f xs) h.0 y (ap (λ w. slice_get (f w) h.0) (same_Some _ _ at) ∙ h.1)
has_flat f (z ∷ xs) x y (suc k, at) h = has_right (f z) (flat_map f xs) y (has_flat f xs x y (k, at) h)

pub map_has : {A B : Type 0} (f : A → B) (xs : List A) (y : B) → Has (map f xs) y → (x : A) × Has xs x × (f x ≡ y)
map_has f [] y h = absurd (let none : None ≡ Some y = h.1 in cc)
map_has f (x ∷ xs) y (zero, at) = (x, (0, refl), same_Some _ _ at)
map_has f (x ∷ xs) y (suc k, at) = let r = map_has f xs y (k, at) in (r.0, (suc r.1.0, r.1.1), r.2)

filter_has : {A B : Type 0} (f : A → Option B) (xs : List A) (y : B) → Has (filter_map f xs) y → (x : A) × Has xs x × (f x ≡ Some y)
filter_has f [] y h = absurd (let none : None ≡ Some y = h.1 in cc)
filter_has {A = A} {B = B} f (x ∷ xs) y h = go (λ k. filter_has f xs y k) (f x) refl h
  where
    later : ((z : A) × Has xs z × (f z ≡ Some y)) → (z : A) × Has (x ∷ xs) z × (f z ≡ Some y)
    later r = (r.0, (suc r.1.0, r.1.1), r.2)

    go : (Has (filter_map f xs) y → (z : A) × Has xs z × (f z ≡ Some y)) → (o : Option B) → f x ≡ o → Has (cons_option o (filter_map f xs)) y → (z : A) × Has (x ∷ xs) z × (f z ≡ Some y)
    go more None is k = later (more k)
    go more (Some b) is (zero, at) = (x, (0, refl), is ∙ at)
    go more (Some b) is (suc k, at) = later (more (k, at))

-- ---- the tree of instances

-- s is an instance of another one
pub record IsBelow (p : Program) (xs : List Scope) (c : Scope) : Type 0 where
  pub around : Scope
  pub known : Has xs around
  pub entry : Entry
  pub declared : Has (entries (module_of around)) entry
  pub leads : child p around entry ≡ Some c

below_child : (p : Program) (xs : List Scope) (around c : Scope) → Has xs around → Has (children p around) c → IsBelow p xs c
below_child p xs around c known h = let e = filter_has (child p around) (entries (module_of around)) c h in record { around = around; known = known; entry = e.0; declared = e.1; leads = e.2 }

below_from : (p : Program) (n : ℕ) (s c : Scope) → Has (instances_from p n s) c → (c ≡ s) ⊎ IsBelow p (instances_from p n s) c
below_from p zero s c (zero, at) = inl (sym (same_Some _ _ at))
below_from p zero s c (suc k, at) = absurd (let none : None ≡ Some c = at in cc)
below_from p (suc n) s c (zero, at) = inl (sym (same_Some _ _ at))
below_from p (suc n) s c (suc k, at) = inr (deeper (λ d h. below_from p n d c h) (flat_has (instances_from p n) (children p s) c (k, at)))
  where
    deeper : ((d : Scope) → Has (instances_from p n d) c → (c ≡ d) ⊎ IsBelow p (instances_from p n d) c) → (d : Scope) × Has (children p s) d × Has (instances_from p n d) c → IsBelow p (s ∷ flat_map (instances_from p n) (children p s)) c
    deeper below (d, is_child, inside) = go (below d inside)
      where
        lifted : (e : Scope) → Has (children p s) e → IsBelow p (instances_from p n e) c → IsBelow p (s ∷ flat_map (instances_from p n) (children p s)) c
        lifted e child_is b =
            let there = has_flat (instances_from p n) (children p s) e b.around child_is b.known in
            record { around = b.around; known = (suc there.0, there.1); entry = b.entry; declared = b.declared; leads = b.leads }

        go : (c ≡ d) ⊎ IsBelow p (instances_from p n d) c → IsBelow p (s ∷ flat_map (instances_from p n) (children p s)) c
        go (inl same) = below_child p (s ∷ flat_map (instances_from p n) (children p s)) s c (0, refl) (subst (λ z. Has (children p s) z) (sym same) is_child)
        go (inr further) = lifted d is_child further

main_is : (p : Program) (o : Option Module) (d : Scope) → Has (cons_option (option_map Scope.Main o) []) d → (m : Module) × (d ≡ Scope.Main m)
main_is p None d h = absurd (let none : None ≡ Some d = h.1 in cc)
main_is p (Some m) d (zero, at) = (m, sym (same_Some _ _ at))
main_is p (Some m) d (suc k, at) = absurd (let none : None ≡ Some d = at in cc)

-- an instance is that of `main`, or stands below another one
pub main_or_below : (p : Program) (c : Scope) → Has (instances p) c → ((m : Module) × (c ≡ Scope.Main m)) ⊎ IsBelow p (instances p) c
main_or_below p c h = go (flat_has (instances_from p greatest_depth) (main_scope p) c h)
  where
    go : (d : Scope) × Has (main_scope p) d × Has (instances_from p greatest_depth d) c → ((m : Module) × (c ≡ Scope.Main m)) ⊎ IsBelow p (instances p) c
    go (d, top, inside) = elim (below_from p greatest_depth d c inside) [ inl same ↦ inl (let m = main_is p (module_named p main_name) d top in (m.0, same ∙ m.1)) | inr below ↦ inr (lifted below) ]
      where
        lifted : IsBelow p (instances_from p greatest_depth d) c → IsBelow p (instances p) c
        lifted b = record { around = b.around; known = has_flat (instances_from p greatest_depth) (main_scope p) d b.around top b.known; entry = b.entry; declared = b.declared; leads = b.leads }

-- an entry stands in an instance
pub placed_in : (p : Program) (s : Scope) (e : Entry) → Has (all_entries p) (s, e) → Has (instances p) s × Has (entries (module_of s)) e
placed_in p s e h = go (flat_has placed_entries (instances p) (s, e) h)
  where
    go : (t : Scope) × Has (instances p) t × Has (placed_entries t) (s, e) → Has (instances p) s × Has (entries (module_of s)) e
    go (t, known, inside) =
        let d = map_has (λ (x : Entry). (t, x)) (entries (module_of t)) (s, e) inside in
        let scope : t ≡ s = ap (λ (x : Scope × Entry). x.0) d.2 in
        let entry : d.0 ≡ e = ap (λ (x : Scope × Entry). x.1) d.2 in
        (subst (λ z. Has (instances p) z) scope known, subst (λ z. Has (entries (module_of z)) e) scope (subst (λ z. Has (entries (module_of t)) z) entry d.1))

-- what an entry that leads to an instance declares
pub record IsDeclared (s : Scope) (name : Name) (entity : Entity) (c : Scope) : Type 0 where
  pub process : Bool
  pub module_name : Name
  pub actuals : List Expr
  pub m : Module
  pub entity_is : entity ≡ Entity.Instance process module_name actuals
  pub is : c ≡ Scope.Inside s name process actuals m

pub declared_by : (p : Program) (s : Scope) (name : Name) (line : ℕ) (entity : Entity) (c : Scope) → child p s (record { name = name; line = line; entity = entity }) ≡ Some c → IsDeclared s name entity c
declared_by p s name line Entity.Parameter c leads = absurd (let none : None ≡ Some c = leads in cc)
declared_by p s name line (Entity.Stored type) c leads = absurd (let none : None ≡ Some c = leads in cc)
declared_by p s name line (Entity.Defined body) c leads = absurd (let none : None ≡ Some c = leads in cc)
declared_by p s name line (Entity.Instance process module_name actuals) c leads = go (module_named p module_name) leads
  where
    go : (o : Option Module) → option_map (Scope.Inside s name process actuals) o ≡ Some c → IsDeclared s name (Entity.Instance process module_name actuals) c
    go None none = absurd (let clash : None ≡ Some c = none in cc)
    go (Some m) some = record { process = process; module_name = module_name; actuals = actuals; m = m; entity_is = refl; is = sym (same_Some _ _ some) }

-- what was found in two lists side by side stands in the second one
pub zip_has : {A B : Type 0} (test : A × B → Bool) (xs : List A) (ys : List B) (pair : A × B) → find test (zip xs ys) ≡ Some pair → Has ys pair.1
zip_has test [] ys pair found = absurd (let none : None ≡ Some pair = found in cc)
zip_has test (x ∷ xs) [] pair found = absurd (let none : None ≡ Some pair = found in cc)
zip_has {A = A} {B = B} test (x ∷ xs) (y ∷ ys) pair found = go (λ later. zip_has test xs ys pair later) (test (x, y)) found
  where
    go : (find test (zip xs ys) ≡ Some pair → Has ys pair.1) → (b : Bool) → cond b (Some (x, y)) (find test (zip xs ys)) ≡ Some pair → Has (y ∷ ys) pair.1
    go more true here = (0, ap (λ (o : Option (A × B)). option_map (λ (z : A × B). z.1) o) here)
    go more false later = let r = more later in (suc r.0, r.1)
