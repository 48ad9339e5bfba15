-- Lemmas on what the memo keeps.
use Rattle.std.proofs.Common.{◌≡◌, ℕ, Bool, true, false, ◌==◌, ◌&&◌, ◌⊎◌, inl, inr, ◌<◌, ◌≤◌, List, [], ◌∷◌, length, Contains, Option, None, Some, IfSome, is_some, refl, sym, ap, subst, ◌∙◌, true≢false}
use Rattle.std.proofs.lemmas.Bool.{eq-eqb, eqb-true, cases_lt}
use Rattle.std.specs.Cmp.Derive.{both_true}
use Rattle.std.specs.List.Sorted.{IsPermutation}
use Rattle.std.proofs.lemmas.List.Elements.{Contains-append_left, Contains-push}
use Rattle.std.proofs.lemmas.List.Sorted.{Contains-permutation}
use Rattle.std.specs.Map.{lookup}
use Rattle.std.proofs.lemmas.Map.Views.{Contains-from_lookup}
use Rattle.answer_memo.proofs.Slots.{found-entry}
use Rattle.bdd_nodes.specs.declared.store.Store.{Store}
use Rattle.bdd_nodes.proofs.Canonical.{canonical}
use Rattle.bdd_ops.specs.declared.key.Key.{Key}
use Rattle.bdd_ops.specs.declared.key.Key.TheVariants.{Not, And, Or, Iff, Ite, Exists, AndExists, Rename}
use Rattle.bdd_ops.specs.contracts.key.KeyPartialEq.TheImpl.{eq-value}
use Rattle.bdd_ops.specs.Answer.{IsAnswer}

abbrev pub same_key : Key → Key → Bool
same_key = eq-value.it

both : (a b : Bool) → (a && b) ≡ true → (a ≡ true) × (b ≡ true)
both true b e = (refl, e)
both false b e = cc

pub same_key-true : (a b : Key) → same_key a b ≡ true → a ≡ b
same_key-true (Not f) (Not f') e = ap Not (eqb-true f f' e)
same_key-true (And f g) (And f' g') e = let p = both (f == f') (g == g') e in let a = eqb-true f f' p.0 in let b = eqb-true g g' p.1 in λ j. And (a j) (b j)
same_key-true (Or f g) (Or f' g') e = let p = both (f == f') (g == g') e in let a = eqb-true f f' p.0 in let b = eqb-true g g' p.1 in λ j. Or (a j) (b j)
same_key-true (Iff f g) (Iff f' g') e = let p = both (f == f') (g == g') e in let a = eqb-true f f' p.0 in let b = eqb-true g g' p.1 in λ j. Iff (a j) (b j)
same_key-true (Ite f g h) (Ite f' g' h') e = let p = both (f == f') ((g == g') && (h == h')) e in let q = both (g == g') (h == h') p.1 in let a = eqb-true f f' p.0 in let b = eqb-true g g' q.0 in let c = eqb-true h h' q.1 in λ j. Ite (a j) (b j) (c j)
same_key-true (Exists f p) (Exists f' p') e = let q = both (f == f') (p == p') e in let a = eqb-true f f' q.0 in let b = eqb-true p p' q.1 in λ j. Exists (a j) (b j)
same_key-true (AndExists f g p) (AndExists f' g' p') e = let q = both (f == f') ((g == g') && (p == p')) e in let r = both (g == g') (p == p') q.1 in let a = eqb-true f f' q.0 in let b = eqb-true g g' r.0 in let c = eqb-true p p' r.1 in λ j. AndExists (a j) (b j) (c j)
same_key-true (Rename f true) (Rename f' true) e = ap (λ x. Rename x true) (eqb-true f f' (both (f == f') true e).0)
same_key-true (Rename f false) (Rename f' false) e = ap (λ x. Rename x false) (eqb-true f f' (both (f == f') true e).0)
same_key-true (Rename f true) (Rename f' false) e = absurd (true≢false (sym (both (f == f') false e).1))
same_key-true (Rename f false) (Rename f' true) e = absurd (true≢false (sym (both (f == f') false e).1))
same_key-true a b e = cc

pub same_key-self : (k : Key) → same_key k k ≡ true
same_key-self (Not f) = eq-eqb f f refl
same_key-self (And f g) = both_true (eq-eqb f f refl) (eq-eqb g g refl)
same_key-self (Or f g) = both_true (eq-eqb f f refl) (eq-eqb g g refl)
same_key-self (Iff f g) = both_true (eq-eqb f f refl) (eq-eqb g g refl)
same_key-self (Exists f p) = both_true (eq-eqb f f refl) (eq-eqb p p refl)
same_key-self (AndExists f g p) = both_true (eq-eqb f f refl) (both_true (eq-eqb g g refl) (eq-eqb p p refl))
same_key-self (Rename f true) = both_true (eq-eqb f f refl) refl
same_key-self (Rename f false) = both_true (eq-eqb f f refl) refl
same_key-self (Ite f g h) = both_true (eq-eqb f f refl) (both_true (eq-eqb g g refl) (eq-eqb h h refl))

-- a key whose entry is found, by what is true of each entry
pub entry-found : (P : Key → ℕ → Type 0) (es : List (Key × ℕ)) (k : Key) (o : Option ℕ) → o ≡ lookup (same_key k) es → ((q : Key) (r : ℕ) → Contains es (q, r) → P q r) → IfSome o (P k)
entry-found P es k None e h = tt
entry-found P es k (Some r) e h = h k r (Contains-from_lookup same_key-true k r es (sym e))

-- an entry that comes is found
pub found-new : (es fs : List (Key × ℕ)) (k : Key) (v : ℕ) → Contains fs (k, v) → ((q : Key) (r : ℕ) → Contains fs (q, r) → ((q ≡ k) × (r ≡ v)) ⊎ Contains es (q, r)) → lookup (same_key k) es ≡ None → lookup (same_key k) fs ≡ Some v
found-new es fs k v c h none = by (lookup (same_key k) fs) refl
  where
    by : (o : Option ℕ) → lookup (same_key k) fs ≡ o → lookup (same_key k) fs ≡ Some v
    by None e = absurd (found-entry (same_key k) fs k v c (same_key-self k) e)
    by (Some w) e = elim (h k w (Contains-from_lookup same_key-true k w fs e)) [
      | inl new ↦ e ∙ ap Some new.1
      | inr old ↦ absurd (found-entry (same_key k) es k w old (same_key-self k) none)
    ]

-- what is true of the entries and of one that comes is true of all
pub entries-put : (P : Key → ℕ → Type 0) (es fs : List (Key × ℕ)) (k : Key) (v : ℕ) → ((q : Key) (r : ℕ) → Contains fs (q, r) → ((q ≡ k) × (r ≡ v)) ⊎ Contains es (q, r)) → ((q : Key) (r : ℕ) → Contains es (q, r) → P q r) → P k v → (q : Key) (r : ℕ) → Contains fs (q, r) → P q r
entries-put P es fs k v h old here q r c = elim (h q r c) [
  | inl new ↦ subst (λ x. P x r) (sym new.0) (subst (P k) (sym new.1) here)
  | inr was ↦ old q r was
]

-- a key that is found has the answer, since diagrams are canonical
pub held-answer : (s : Store) (lists : List (List ℕ)) (es : List (Key × ℕ)) (k : Key) (v : ℕ) → ((q : Key) (r : ℕ) → Contains es (q, r) → IsAnswer s lists q r) → IsAnswer s lists k v → (o : Option ℕ) → o ≡ lookup (same_key k) es → is_some o ≡ true → lookup (same_key k) es ≡ Some v
held-answer s lists es k v true_entries a None e n = absurd (true≢false (sym n))
held-answer s lists es k v true_entries a (Some r) e n =
    let b = true_entries k r (Contains-from_lookup same_key-true k r es (sym e)) in
    sym e ∙ ap Some (canonical s.levels s.nodes.keys s.good r v b.has a.has (λ bits len. b.value bits ∙ sym (a.value bits)))

-- an entry that is put is fresh, whether a new round begins before it or not
pub fresh-comes : (old new : List (Key × ℕ)) (cap : ℕ) (e : Key × ℕ) → (length old < cap → IsPermutation (e ∷ old) new) → (cap ≤ length old → IsPermutation (e ∷ []) new) → Contains new e
fresh-comes old new cap e less more = elim (cases_lt (length old) cap) [
  | inl a ↦ Contains-permutation (e ∷ old) new e (less a) (Contains-append_left (e ∷ []) old e (Contains-push [] e))
  | inr b ↦ Contains-permutation (e ∷ []) new e (more b) (Contains-push [] e)
]
