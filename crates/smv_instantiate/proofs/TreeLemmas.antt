-- The tree of instances: children, parents, and how deep they lie.
use Rattle.std.proofs.Common.{◌≡◌, refl, sym, ◌∙◌, ap, ℕ, zero, suc, ◌<◌, ◌≤◌, ◌+◌, arith, List, [], Bool, Some, None, Option, ◌⊎◌, inl, inr, append-nil}
use Rattle.std.specs.Prelude.{flat_map, option_map}
use Rattle.std.specs.List.{cons_option}
use Rattle.smv_instances.specs.Program.{Name, Expr, Module, Program}
use Rattle.smv_instances.specs.Entries.{Entity, Entry, entries, module_named}
use Rattle.smv_instances.specs.Instances.{Scope, module_of, depth, child, children, instances_from, instances, main_name, greatest_depth}
use Rattle.smv_instantiate.proofs.Members.{In, in_flat, in_flat_back, in_filter_map, in_filter_map_back, some_same, not_some}

-- what an entry that declares an instance gives
pub record Declares (p : Program) (s : Scope) (e : Entry) (c : Scope) : Type 0 where
  pub process : Bool
  pub module_name : Name
  pub actuals : List Expr
  pub m : Module
  pub entity : e.entity ≡ Entity.Instance process module_name actuals
  pub found : module_named p module_name ≡ Some m
  pub is : c ≡ Scope.Inside s e.name process actuals m

of_module : (p : Program) (s : Scope) (name : Name) (line : ℕ) (process : Bool) (x : Name) (actuals : List Expr) (c : Scope) (o : Option Module) → module_named p x ≡ o
    → option_map (Scope.Inside s name process actuals) o ≡ Some c → Declares p s (record { name = name; line = line; entity = Entity.Instance process x actuals }) c
of_module p s name line process x actuals c None found e = absurd (not_some e)
of_module p s name line process x actuals c (Some m) found e = record { process = process; module_name = x; actuals = actuals; m = m; entity = refl; found = found; is = sym (some_same e) }

pub declares : (p : Program) (s : Scope) (e : Entry) (c : Scope) → child p s e ≡ Some c → Declares p s e c
declares p s e c given = by e.name e.line e.entity given
  where
    by : (name : Name) (line : ℕ) (entity : Entity) → child p s (record { name = name; line = line; entity = entity }) ≡ Some c → Declares p s (record { name = name; line = line; entity = entity }) c
    by name line (Entity.Instance process x actuals) f = of_module p s name line process x actuals c (module_named p x) refl f
    by name line Entity.Parameter f = absurd (not_some f)
    by name line (Entity.Stored type) f = absurd (not_some f)
    by name line (Entity.Defined body) f = absurd (not_some f)

pub child_depth : (p : Program) (s : Scope) (e : Entry) (c : Scope) → child p s e ≡ Some c → depth c ≡ depth s + 1
child_depth p s e c given = ap depth (declares p s e c given).is

-- ---- the tree below an instance

pub tree_root : (p : Program) (n : ℕ) (s : Scope) → In s (instances_from p n s)
tree_root p zero s = In.first
tree_root p (suc n) s = In.first

child_of_root : (p : Program) (n : ℕ) (r : Scope) (e : Entry) (c : Scope) → In e (entries (module_of r)) → child p r e ≡ Some c → In c (flat_map (instances_from p n) (children p r))
child_of_root p n r e c i given = in_flat (instances_from p n) (children p r) (in_filter_map (child p r) (entries (module_of r)) i given) (tree_root p n c)

-- a child of an instance of the tree is one, above its last level
pub tree_child : (p : Program) (n : ℕ) (r s : Scope) (e : Entry) (c : Scope) → In s (instances_from p n r) → In e (entries (module_of s)) → child p s e ≡ Some c → depth s < depth r + n → In c (instances_from p n r)
tree_child p zero r s e c In.first j given above = absurd (omega arith)
tree_child p zero r s e c (In.later i) j given above = elim i [ ]
tree_child p (suc n) r s e c In.first j given above = In.later (child_of_root p n s e c j given)
tree_child p (suc n) r s e c (In.later i) j given above =
    let b = in_flat_back (instances_from p n) (children p r) i in
    let f = in_filter_map_back (child p r) (entries (module_of r)) b.1 in
    let d : depth b.0 ≡ depth r + 1 = child_depth p r f.0 b.0 f.2 in
    In.later (in_flat (instances_from p n) (children p r) b.1 (tree_child p n b.0 s e c b.2 j given (omega (arith, d, above))))

pub record HasParent (p : Program) (n : ℕ) (r t : Scope) : Type 0 where
  pub around : Scope
  pub entry : Entry
  pub there : In around (instances_from p n r)
  pub listed : In entry (entries (module_of around))
  pub given : child p around entry ≡ Some t

pub tree_parent : (p : Program) (n : ℕ) (r t : Scope) → In t (instances_from p n r) → (t ≡ r) ⊎ HasParent p n r t
tree_parent p zero r t In.first = inl refl
tree_parent p zero r t (In.later i) = elim i [ ]
tree_parent p (suc n) r t In.first = inl refl
tree_parent p (suc n) r t (In.later i) =
    let b = in_flat_back (instances_from p n) (children p r) i in
    let f = in_filter_map_back (child p r) (entries (module_of r)) b.1 in
    by b.0 b.1 f.0 f.1 f.2 (tree_parent p n b.0 t b.2)
  where
    by : (c : Scope) → In c (children p r) → (e : Entry) → In e (entries (module_of r)) → child p r e ≡ Some c → (t ≡ c) ⊎ HasParent p n c t → (t ≡ r) ⊎ HasParent p (suc n) r t
    by c j e k given (inl same) = inr (record { around = r; entry = e; there = In.first; listed = k; given = given ∙ ap Some (sym same) })
    by c j e k given (inr h) = inr (record { around = h.around; entry = h.entry; there = In.later (in_flat (instances_from p n) (children p r) j h.there); listed = h.listed; given = h.given })

pub tree_depth : (p : Program) (n : ℕ) (r t : Scope) → In t (instances_from p n r) → depth t ≤ depth r + n
tree_depth p zero r t In.first = omega arith
tree_depth p zero r t (In.later i) = elim i [ ]
tree_depth p (suc n) r t In.first = omega arith
tree_depth p (suc n) r t (In.later i) =
    let b = in_flat_back (instances_from p n) (children p r) i in
    let f = in_filter_map_back (child p r) (entries (module_of r)) b.1 in
    let d : depth b.0 ≡ depth r + 1 = child_depth p r f.0 b.0 f.2 in
    let l : depth t ≤ depth b.0 + n = tree_depth p n b.0 t b.2 in
    omega arith

-- all instances, where `main` is found
pub instances_are : (p : Program) (m : Module) → module_named p main_name ≡ Some m → instances p ≡ instances_from p greatest_depth (Scope.Main m)
instances_are p m found = ap (λ o. flat_map (instances_from p greatest_depth) (cons_option (option_map Scope.Main o) [])) found ∙ append-nil (instances_from p greatest_depth (Scope.Main m))
