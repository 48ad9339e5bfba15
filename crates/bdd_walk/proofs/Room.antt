-- There is room for each copy.
use Rattle.std.proofs.Common.{◌≡◌, ◌≢◌, ℕ, zero, suc, ◌+◌, ◌<◌, ◌≤◌, ◌⊎◌, inl, inr, Bool, true, false, ◌||◌, List, [], ◌∷◌, ◌++◌, length, Option, Some, None, nat_eq, refl, sym, ap, ◌∙◌, arith, length-append, true≢false}
use Rattle.std.specs.Cmp.{nat_eq_equiv}
use Rattle.std.specs.List.{list_any, range_with_len, IsDistinct}
use Rattle.std.specs.Map.{keys_of, lookup}
use Rattle.std.specs.Prelude.{is_some}
use Rattle.std.proofs.lemmas.Bool.{cases_eq, eq-eqb, eqb-true}
use Rattle.std.proofs.lemmas.List.FromFn.{length-range_with_len}
use Rattle.std.proofs.lemmas.Map.Made.{length-le_from_is_member, is_some-lookup}
use Rattle.std.proofs.lemmas.Map.Keys.{IsDistinct-push}
use Rattle.bdd_nodes.specs.declared.triple.Triple.{Triple}
use Rattle.bdd_nodes.specs.declared.store.Store.{Store}
use Rattle.bdd_nodes.specs.Table.{Has}
use Rattle.bdd_walk.specs.Copy.{AreNoted}
use Rattle.bdd_walk.proofs.Reaches.{or-left, or-right, or-either}

member-range : (a n q : ℕ) → a ≤ q → q < a + n → list_any (nat_eq q) (range_with_len a n) ≡ true
member-range a zero q h k = absurd (omega arith)
member-range a (suc n) q h k = elim (cases_eq q a) [
  | inl same ↦ or-left (nat_eq q a) _ (eq-eqb q a same)
  | inr other ↦ or-right (nat_eq q a) _ (member-range (a + 1) n q (omega arith) (omega arith))
]

member-push : (xs : List ℕ) (r q : ℕ) → list_any (nat_eq q) (xs ++ r ∷ []) ≡ true → (list_any (nat_eq q) xs ≡ true) ⊎ (q ≡ r)
member-push [] r q h = elim (or-either (nat_eq q r) false h) [
  | inl here ↦ inr (eqb-true q r here)
  | inr none ↦ absurd (true≢false (sym none))
]
member-push (x ∷ xs) r q h = elim (or-either (nat_eq q x) _ h) [
  | inl here ↦ inl (or-left (nat_eq q x) _ here)
  | inr there ↦ elim (member-push xs r q there) [
    | inl inside ↦ inl (or-right (nat_eq q x) _ inside)
    | inr last ↦ inr last
  ]
]

-- a number that isn't among those that were copied finds room, since there are fewer of these than triples to be copied
pub room : (t : List Triple) (s : Store) (entries : List (ℕ × ℕ)) (r : ℕ) → AreNoted t s entries → 2 ≤ r → Has t r → lookup (nat_eq r) entries ≡ None → length s.nodes.keys < length t
room t s entries r noted two has none =
    let keys : List ℕ = keys_of entries in
    let absent : list_any (nat_eq r) keys ≡ false = sym (is_some-lookup (nat_eq r) entries) ∙ ap is_some none in
    let distinct : IsDistinct nat_eq (keys ++ r ∷ []) = IsDistinct-push nat_eq_equiv keys r noted.once absent in
    let all : length (keys ++ r ∷ []) ≤ length (range_with_len 2 (length t)) =
    length-le_from_is_member nat_eq_equiv (keys ++ r ∷ []) (range_with_len 2 (length t)) distinct (λ q h. elim (member-push keys r q h) [
      | inl inside ↦ member-range 2 (length t) q (noted.inside q inside).0 (let b = (noted.inside q inside).1 in omega (arith, b))
      | inr same ↦ member-range 2 (length t) q (omega (arith, two, same)) (omega (arith, has, same))
    ]) in
    omega (arith, all, length-append keys (r ∷ []), length-keys entries, length-range_with_len 2 (length t), noted.few)
  where
    length-keys : (es : List (ℕ × ℕ)) → length (keys_of es) ≡ length es
    length-keys [] = refl
    length-keys (e ∷ es) = ap suc (length-keys es)

-- one more triple was copied
pub AreNoted-put : (t : List Triple) (c d : Store) (before after : List (ℕ × ℕ)) (r : ℕ) → AreNoted t c before → 2 ≤ r → Has t r → length d.nodes.keys ≤ length c.nodes.keys + 1 → IsDistinct nat_eq (keys_of after) → length after ≡ length before + 1
    → ((x : ℕ) → x ≢ r → lookup (nat_eq x) after ≡ lookup (nat_eq x) before) → AreNoted t d after
AreNoted-put t c d before after r noted two has one once more away = record {
  once = once;
  inside = λ x h. elim (cases_eq x r) [
    | inl same ↦ (omega (arith, two, same), omega (arith, has, same))
    | inr other ↦ noted.inside x (sym (is_some-lookup (nat_eq x) before) ∙ sym (ap is_some (away x other)) ∙ is_some-lookup (nat_eq x) after ∙ h)
  ];
  few = omega (arith, noted.few, one, more);
}
