-- The nodes of a table: their levels, and which are there.
use Rattle.std.proofs.Common.{◌≡◌, ℕ, zero, suc, ◌+◌, ◌-◌, ◌<◌, ◌≤◌, Bool, true, false, not, ◌&&◌, ◌||◌, ◌==◌, List, [], ◌∷◌, ◌++◌, length, get_or, Option, Some, None, slice_get, refl, sym, ◌∙◌, ap, subst, arith, true≢false, if◌then◌else◌}
use Rattle.std.specs.Prelude.{Contains, MatchBool}
use Rattle.std.specs.List.{list_any}
use Rattle.std.specs.Option.{option_map_or}
use Rattle.std.proofs.lemmas.Bool.{eqb-true}
use Rattle.std.proofs.lemmas.Bool.Decides.{nat_tests}
use Rattle.std.proofs.lemmas.List.Folds.{list_any-from_Any}
use Rattle.std.proofs.lemmas.Option.{slice_get-get_or}
use Rattle.indexmap.specs.IndexSet.{insert_key}
use Rattle.bdd_nodes.specs.declared.triple.Triple.{Triple}
use Rattle.bdd_nodes.specs.Table.{node_of, level_of}

-- ---- levels

abbrev level_in : ℕ → Option Triple → ℕ
level_in levels o = option_map_or (λ (t : Triple). t.level) o levels

constant_node : (nodes : List Triple) (number : ℕ) → number < 2 → node_of nodes number ≡ None
unfolding node_of
constant_node nodes zero few = refl
constant_node nodes (suc zero) few = refl
constant_node nodes (suc (suc i)) few = absurd (omega (arith, few))

node_behind : (nodes : List Triple) (i : ℕ) → node_of nodes (i + 2) ≡ slice_get nodes i
unfolding node_of
node_behind nodes i = let e : i + 2 ≡ suc (suc i) = omega arith in rw e refl

none_past : (nodes : List Triple) (i : ℕ) → length nodes ≤ i → slice_get nodes i ≡ None
none_past [] i past = refl
none_past (t ∷ nodes) zero past = absurd (omega (arith, past))
none_past (t ∷ nodes) (suc i) past = none_past nodes i (omega (arith, past))

pub constant_level : (levels : ℕ) (nodes : List Triple) (number : ℕ) → number < 2 → levels ≡ level_of levels nodes number
constant_level levels nodes number few = sym (ap (level_in levels) (constant_node nodes number few))

at_place : (levels : ℕ) (nodes : List Triple) (number : ℕ) (o : Option Triple) → 2 ≤ number → slice_get nodes (number - 2) ≡ o → level_in levels o ≡ level_of levels nodes number
at_place levels nodes number o least e =
    let same : number - 2 + 2 ≡ number = omega (arith, least) in
    ap (level_in levels) (sym e ∙ sym (node_behind nodes (number - 2))) ∙ ap (λ n. level_of levels nodes n) same

pub found_level : (levels : ℕ) (nodes : List Triple) (number : ℕ) (t : Triple) → 2 ≤ number → number - 2 < length nodes → t ≡ get_or nodes (number - 2) t → t.level ≡ level_of levels nodes number
found_level levels nodes number t least within e = at_place levels nodes number (Some t) least (slice_get-get_or nodes (number - 2) t within ∙ ap Some (sym e))

pub missing_level : (levels : ℕ) (nodes : List Triple) (number : ℕ) → 2 ≤ number → length nodes ≤ number - 2 → levels ≡ level_of levels nodes number
missing_level levels nodes number least past = at_place levels nodes number None least (none_past nodes (number - 2) past)

-- ---- a node that is new or there

-- the derived test of two triples
abbrev same_triple : Triple → Triple → Bool
same_triple t u = (t.level == u.level) && ((t.low == u.low) && (t.high == u.high))

both_true : (x y : Bool) → (x && y) ≡ true → (x ≡ true) × (y ≡ true)
both_true true y e = (refl, e)
both_true false y e = absurd cc

are_same : (t u : Triple) → same_triple t u ≡ true → t ≡ u
are_same t u e =
    let p = both_true (t.level == u.level) ((t.low == u.low) && (t.high == u.high)) e in
    let q = both_true (t.low == u.low) (t.high == u.high) p.1 in
    let level = eqb-true t.level u.level p.0 in
    let low = eqb-true t.low u.low q.0 in
    let high = eqb-true t.high u.high q.1 in
    (λ i. record { level = level i; low = low i; high = high i })

stands_there : (keys : List Triple) (t : Triple) → list_any (same_triple t) keys ≡ true → Contains keys t
stands_there [] t h = absurd cc
stands_there (x ∷ keys) t h = by (same_triple t x) refl h (λ k. stands_there keys t k)
  where
    by : (b : Bool) → same_triple t x ≡ b → (b || list_any (same_triple t) keys) ≡ true → (list_any (same_triple t) keys ≡ true → Contains keys t) → Contains (x ∷ keys) t
    by true e k more = (zero, omega arith, sym (are_same t x e))
    by false e k more = let r = more k in (suc r.0, omega (arith, r.1), r.2)

same_itself : (t : Triple) → same_triple t t ≡ true
same_itself t = grind (arith, nat_tests)

found_there : (keys : List Triple) (t : Triple) → Contains keys t → list_any (same_triple t) keys ≡ true
found_there keys t (k, less, e) = list_any-from_Any (same_triple t) keys (k, t, less, e, same_itself t)

-- an insert adds the node where it is new
pub new_or_there : (keys new : List Triple) (t : Triple) (fresh : Bool) → fresh ≡ not (list_any (same_triple t) keys) → new ≡ insert_key same_triple keys t
    → MatchBool fresh ((new ≡ keys ++ t ∷ []) × (Contains keys t → ⊥)) (Contains keys t)
new_or_there keys new t fresh added e = by (list_any (same_triple t) keys) refl
  where
    by : (b : Bool) → list_any (same_triple t) keys ≡ b → MatchBool fresh ((new ≡ keys ++ t ∷ []) × (Contains keys t → ⊥)) (Contains keys t)
    by true h = subst (λ y. MatchBool y ((new ≡ keys ++ t ∷ []) × (Contains keys t → ⊥)) (Contains keys t)) (sym (added ∙ ap not h)) (stands_there keys t h)
    by false h =
        subst (λ y. MatchBool y ((new ≡ keys ++ t ∷ []) × (Contains keys t → ⊥)) (Contains keys t)) (sym (added ∙ ap not h))
        (e ∙ ap (λ b. if b then keys else keys ++ t ∷ []) h, λ there. true≢false (sym (found_there keys t there) ∙ h))
