-- What an insert into the set of triples leaves.
use Rattle.std.proofs.Common.{◌≡◌, ◌≢◌, ℕ, zero, suc, ◌+◌, ◌<◌, Bool, true, false, ◌==◌, ◌&&◌, ◌||◌, if◌then◌else◌, List, [], ◌∷◌, ◌++◌, Some, Result, Ok, Err, IfOk, OnErr, slice_get, position, refl, sym, ap, subst, ◌∙◌, true≢false, arith}
use Rattle.std.specs.List.{list_any}
use Rattle.std.proofs.lemmas.Bool.{eqb-true}
use Rattle.std.proofs.lemmas.Bool.Decides.{nat_tests}
use Rattle.std.proofs.lemmas.List.Quantifiers.{position-Some}
use Rattle.std.proofs.lemmas.Option.{slice_get-get_or, same_Some}
use Rattle.indexmap.specs.IndexSet.{insert_key}
use Rattle.bdd_nodes.specs.declared.triple.Triple.{Triple}
use Rattle.bdd_nodes.specs.declared.store.Store.{Store}
use Rattle.bdd_nodes.specs.Store.{IsNodeOf}
use Rattle.bdd_nodes.specs.Table.{node_of, level_of, Has, IsGood, IsGrowth}
use Rattle.bdd_nodes.proofs.Tables.{node_of-at, IsGood-push, IsGrowth-same, IsGrowth-push}

-- the derived test of two triples
abbrev pub same_triple : Triple → Triple → Bool
same_triple t u = (t.level == u.level) && ((t.low == u.low) && (t.high == u.high))

pub same_by_fields : (t u : Triple) → t.level ≡ u.level → t.low ≡ u.low → t.high ≡ u.high → t ≡ u
same_by_fields t u a b c = λ j. record { level = a j; low = b j; high = c j }

pub same_triple-true : (t u : Triple) → same_triple t u ≡ true → t ≡ u
same_triple-true t u e = by (t.level == u.level) (t.low == u.low) (t.high == u.high) refl refl refl e
  where
    by : (a b c : Bool) → (t.level == u.level) ≡ a → (t.low == u.low) ≡ b → (t.high == u.high) ≡ c → (a && (b && c)) ≡ true → t ≡ u
    by true true true p q r e = same_by_fields t u (eqb-true t.level u.level p) (eqb-true t.low u.low q) (eqb-true t.high u.high r)
    by true true false p q r e = cc
    by true false c p q r e = cc
    by false b c p q r e = cc

same_triple-self : (t : Triple) → same_triple t t ≡ true
same_triple-self t = grind (arith, nat_tests)

-- a triple that no key equals has no number
pub absent-node : (keys : List Triple) (t : Triple) → list_any (same_triple t) keys ≡ false → (r : ℕ) → node_of keys r ≡ Some t → ⊥
unfolding node_of
absent-node keys t none zero e = cc
absent-node keys t none (suc zero) e = cc
absent-node keys t none (suc (suc i)) e = by keys i none e
  where
    by : (xs : List Triple) (i : ℕ) → list_any (same_triple t) xs ≡ false → slice_get xs i ≡ Some t → ⊥
    by [] i none e = cc
    by (x ∷ xs) zero none e = true≢false (sym (head x e) ∙ first (same_triple t x) none)
      where
        head : (x : Triple) → Some x ≡ Some t → same_triple t x ≡ true
        head x e = subst (λ u. same_triple t u ≡ true) (sym (same_Some x t e)) (same_triple-self t)

        first : (b : Bool) → (b || list_any (same_triple t) xs) ≡ false → b ≡ false
        first true h = h
        first false h = refl
    by (x ∷ xs) (suc i) none e = by xs i (rest (same_triple t x) none) e
      where
        rest : (b : Bool) → (b || list_any (same_triple t) xs) ≡ false → list_any (same_triple t) xs ≡ false
        rest true h = absurd (true≢false h)
        rest false h = h

-- the key that was found has the number of its place
pub found-node : (keys : List Triple) (t : Triple) (place : ℕ) → Some place ≡ position (same_triple t) keys → node_of keys (place + 2) ≡ Some t
found-node keys t place e =
    let p = position-Some (same_triple t) keys place t (sym e) in
    node_of-at keys place ∙ slice_get-get_or keys place t p.0 ∙ ap Some (sym (same_triple-true t _ p.1))

-- the stored key is the triple
pub stored-node : (keys : List Triple) (t : Triple) (place : ℕ) → (k : Triple) × (slice_get keys place ≡ Some k) × (same_triple t k ≡ true) → node_of keys (place + 2) ≡ Some t
stored-node keys t place s = node_of-at keys place ∙ s.1 ∙ ap Some (sym (same_triple-true t s.0 s.2))

module _ (levels : ℕ) (keys : List Triple) (t : Triple) (good : IsGood levels keys)
    (inside : t.level < levels) (low : Has keys t.low) (high : Has keys t.high)
    (low_deeper : t.level < level_of levels keys t.low) (high_deeper : t.level < level_of levels keys t.high) (different : t.low ≢ t.high) where
  pub IsGood-insert : IsGood levels (insert_key same_triple keys t)
  IsGood-insert = by (list_any (same_triple t) keys) refl
    where
      by : (b : Bool) → list_any (same_triple t) keys ≡ b → IsGood levels (if b then keys else keys ++ t ∷ [])
      by true e = good
      by false e = IsGood-push levels keys t good inside low high low_deeper high_deeper different (absent-node keys t e)

  -- whatever the insert answers
  pub IsGood-insert_answer : {A E : Type 0} (r : Result A E) (new : List Triple) → IfOk r (λ _. new ≡ insert_key same_triple keys t) → OnErr r (new ≡ keys) → IsGood levels new
  IsGood-insert_answer (Ok a) new h k = subst (IsGood levels) (sym h) IsGood-insert
  IsGood-insert_answer (Err e) new h k = subst (IsGood levels) (sym k) good

pub IsGrowth-insert : (keys : List Triple) (t : Triple) → IsGrowth keys (insert_key same_triple keys t)
IsGrowth-insert keys t = by (list_any (same_triple t) keys)
  where
    by : (b : Bool) → IsGrowth keys (if b then keys else keys ++ t ∷ [])
    by true = IsGrowth-same keys
    by false = IsGrowth-push keys t

-- a triple that has a number is among the keys
pub there-any : (keys : List Triple) (t : Triple) (r : ℕ) → node_of keys r ≡ Some t → list_any (same_triple t) keys ≡ true
there-any keys t r e = by (list_any (same_triple t) keys) refl
  where
    by : (b : Bool) → list_any (same_triple t) keys ≡ b → b ≡ true
    by true h = refl
    by false h = absurd (absent-node keys t h r e)

-- a triple among the keys has a number
any-there : (keys : List Triple) (t : Triple) → list_any (same_triple t) keys ≡ true → (i : ℕ) × (slice_get keys i ≡ Some t)
any-there [] t h = absurd (true≢false (sym h))
any-there (x ∷ xs) t h = by (same_triple t x) refl h (λ k. any-there xs t k)
  where
    by : (b : Bool) → same_triple t x ≡ b → (b || list_any (same_triple t) xs) ≡ true → (list_any (same_triple t) xs ≡ true → (i : ℕ) × (slice_get xs i ≡ Some t)) → (i : ℕ) × (slice_get (x ∷ xs) i ≡ Some t)
    by true e k more = (zero, ap Some (sym (same_triple-true t x e)))
    by false e k more = let rest = more k in (suc rest.0, rest.1)

pub absent-any : (keys : List Triple) (t : Triple) → ((r : ℕ) → node_of keys r ≢ Some t) → list_any (same_triple t) keys ≡ false
absent-any keys t absent = by (list_any (same_triple t) keys) refl
  where
    by : (b : Bool) → list_any (same_triple t) keys ≡ b → b ≡ false
    by true h = let at = any-there keys t h in absurd (absent (at.0 + 2) (node_of-at keys at.0 ∙ at.1))
    by false h = refl

-- an insert leaves a triple that is there, and adds an absent one at the end
pub insert-there : (keys : List Triple) (t : Triple) (r : ℕ) → node_of keys r ≡ Some t → insert_key same_triple keys t ≡ keys
insert-there keys t r e = ap (λ b. if b then keys else keys ++ t ∷ []) (there-any keys t r e)

pub insert-absent : (keys : List Triple) (t : Triple) → ((r : ℕ) → node_of keys r ≢ Some t) → insert_key same_triple keys t ≡ keys ++ t ∷ []
insert-absent keys t absent = ap (λ b. if b then keys else keys ++ t ∷ []) (absent-any keys t absent)

-- a triple over unequal children is not the one of equal children
pub never-equal : (levels : ℕ) (keys : List Triple) → IsGood levels keys → (r : ℕ) (t : Triple) → node_of keys r ≡ Some t → t.low ≡ t.high → ⊥
never-equal levels keys good r t e same = (good.each r t e).different same

-- the number of the triple that stands at the answered place
pub IsNodeOf-at : (s : Store) (level low high r place : ℕ) (t : Triple) → t.level ≡ level → t.low ≡ low → t.high ≡ high → low ≢ high → r ≡ place + 2
    → node_of s.nodes.keys (place + 2) ≡ Some t → IsNodeOf s level low high r
IsNodeOf-at s level low high r place t a b c different e at = record {
  equal = λ same. absurd (different same);
  node = λ _. rw e (at ∙ ap Some (same_by_fields t (record { level = level; low = low; high = high }) a b c));
}
