-- Lemmas on what an operation costs.
use Rattle.std.proofs.Common.{◌≡◌, ℕ, ◌+◌, ◌*◌, ◌<◌, ◌≤◌, ◌⊎◌, inl, inr, max, Bool, true, false, cond, ◌||◌, List, [], ◌∷◌, ◌++◌, length, Contains, Option, None, Some, refl, sym, ap, subst, ◌∙◌, true≢false, arith}
use Rattle.std.specs.List.{count_by}
use Rattle.std.specs.List.Sorted.{IsPermutation}
use Rattle.std.specs.Map.{lookup}
use Rattle.std.proofs.lemmas.List.Recursion.{is_count_by}
use Rattle.std.proofs.lemmas.List.Sorted.{length_permutation, list_any-IsPermutation, sum_by-IsPermutation}
use Rattle.std.proofs.lemmas.Option.{none-some}
use Rattle.std.proofs.lemmas.Map.Views.{Contains-from_lookup}
use Rattle.answer_memo.proofs.Slots.{found-entry}
use Rattle.bdd_nodes.specs.declared.triple.Triple.{Triple}
use Rattle.bdd_nodes.specs.Table.{IsGrowth}
use Rattle.bdd_nodes.proofs.Tables.{Has-grows}
use Rattle.bdd_ops.specs.declared.key.Key.{Key}
use Rattle.bdd_ops.specs.declared.operation.Operation.{Operation}
use Rattle.bdd_ops.specs.Answer.{key_weight}
use Rattle.bdd_ops.specs.Operation.{highest_of, weight_of, key_of, IsOpen, top_of, with_operands, part_of}
use Rattle.bdd_ops.specs.Cost as cost
use Rattle.bdd_ops.proofs.Parts.{part_of-grows, with_operands-same, top_of-grows}
use Rattle.bdd_ops.proofs.Memo.{same_key, same_key-self, same_key-true}

abbrev pub has : List (Key × ℕ) → Key → Bool
has = cost.has_entry same_key

abbrev pub among : List Key → Key → Bool
among = cost.is_among same_key

pub or-cases : (a b : Bool) → (a || b) ≡ true → (a ≡ true) ⊎ ((a ≡ false) × (b ≡ true))
or-cases true b e = inl refl
or-cases false b e = inr (refl, e)

pub or-right : (a b : Bool) → b ≡ true → (a || b) ≡ true
or-right true b e = refl
or-right false b e = e

pub or-none : (a b : Bool) → (a || b) ≡ false → (a ≡ false) × (b ≡ false)
or-none true b e = absurd (true≢false e)
or-none false b e = (refl, e)

pub cases : (b : Bool) → (b ≡ true) ⊎ (b ≡ false)
cases true = inl refl
cases false = inr refl

-- a key is among those of two parts together where it is among those of one
has-append : (front rest : List (Key × ℕ)) (q : Key) → has (front ++ rest) q ≡ (has front q || has rest q)
has-append [] rest q = refl
has-append (e ∷ front) rest q = ap (λ b. same_key q e.0 || b) (has-append front rest q) ∙ assoc (same_key q e.0) (has front q) (has rest q)
  where
    assoc : (a b c : Bool) → (a || (b || c)) ≡ ((a || b) || c)
    assoc true b c = refl
    assoc false b c = refl

pub has-fresh : (front rest : List (Key × ℕ)) (q : Key) → has (front ++ rest) q ≡ false → has front q ≡ false
has-fresh front rest q e = (or-none (has front q) (has rest q) (sym (has-append front rest q) ∙ e)).0

-- a key with no entry isn't found, and the other way round
pub lookup-absent : (es : List (Key × ℕ)) (k : Key) → has es k ≡ false → lookup (same_key k) es ≡ None
lookup-absent [] k e = refl
lookup-absent (x ∷ es) k e =
    let n = or-none (same_key k x.0) (has es k) e in
    ap (λ b. cond b (Some x.1) (lookup (same_key k) es)) n.0 ∙ lookup-absent es k n.1

pub lookup-none : (es : List (Key × ℕ)) (k : Key) → lookup (same_key k) es ≡ None → has es k ≡ false
lookup-none [] k e = refl
lookup-none (x ∷ es) k e = elim (cases (same_key k x.0)) [
  | inl t ↦ absurd (none-some x.1 (sym e ∙ ap (λ b. cond b (Some x.1) (lookup (same_key k) es)) t))
  | inr f ↦ ap (λ b. b || has es k) f ∙ lookup-none es k (sym (ap (λ b. cond b (Some x.1) (lookup (same_key k) es)) f) ∙ e)
]

-- the keys without the first that is equal to k
abbrev without : Key → List Key → List Key
without k [] = []
without k (x ∷ xs) = cond (same_key k x) xs (x ∷ without k xs)

without-length : (k : Key) (keys : List Key) → among keys k ≡ true → length (without k keys) + 1 ≡ length keys
without-length k [] e = cc
without-length k (x ∷ xs) e = elim (cases (same_key k x)) [
  | inl t ↦ let step : length (cond (same_key k x) xs (x ∷ without k xs)) ≡ length xs = ap (λ b. length (cond b xs (x ∷ without k xs))) t in omega (arith, step)
  | inr f ↦
      let step : length (cond (same_key k x) xs (x ∷ without k xs)) ≡ length (without k xs) + 1 = ap (λ b. length (cond b xs (x ∷ without k xs))) f ∙ omega arith in
      let rest = without-length k xs (sym (ap (λ b. b || among xs k) f) ∙ e) in
      omega (arith, step, rest)
]

without-other : (k q : Key) (keys : List Key) → same_key q k ≡ false → among keys q ≡ true → among (without k keys) q ≡ true
without-other k q [] other e = e
without-other k q (x ∷ xs) other e = elim (cases (same_key k x)) [
  | inl t ↦
      let same : k ≡ x = same_key-true k x t in
      let away : same_key q x ≡ false = ap (same_key q) (sym same) ∙ other in
      ap (λ b. among (cond b xs (x ∷ without k xs)) q) t ∙ sym (ap (λ b. b || among xs q) away) ∙ e
  | inr f ↦ ap (λ b. among (cond b xs (x ∷ without k xs)) q) f ∙ (elim (or-cases (same_key q x) (among xs q) e) [
    | inl here ↦ ap (λ b. b || among (without k xs) q) here
    | inr there ↦ or-right (same_key q x) (among (without k xs) q) (without-other k q xs other there.1)
  ])
]

-- entries with different keys of a list are at most as many as it has
pub IsFront-length : (front : List (Key × ℕ)) (keys : List Key) → cost.IsOnce same_key front → ((q : Key) → has front q ≡ true → among keys q ≡ true) → length front ≤ length keys
IsFront-length [] keys once in' = omega arith
IsFront-length (e ∷ front) keys once in' =
    let here : among keys e.0 ≡ true = in' e.0 (ap (λ b. b || has front e.0) (same_key-self e.0)) in
    let rest : length front ≤ length (without e.0 keys) = IsFront-length front (without e.0 keys) once.1 (λ q h.
    without-other e.0 q keys (differs q h (cases (same_key q e.0))) (in' q (or-right (same_key q e.0) (has front q) h))) in
    omega (arith, rest, without-length e.0 keys here)
  where
    differs : (q : Key) → has front q ≡ true → (same_key q e.0 ≡ true) ⊎ (same_key q e.0 ≡ false) → same_key q e.0 ≡ false
    differs q h (inl t) = absurd (true≢false (sym h ∙ ap (has front) (same_key-true q e.0 t) ∙ once.0))
    differs q h (inr f) = f

-- how many entries have the key
abbrev times : List (Key × ℕ) → Key → ℕ
times [] q = 0
times (e ∷ es) q = cond (same_key q e.0) (1 + times es q) (times es q)

times-count : (q : Key) (es : List (Key × ℕ)) → times es q ≡ count_by (λ e. same_key q e.0) es
times-count q es = is_count_by (λ xs. times xs q) (λ e. same_key q e.0) refl (λ x xs. refl) es

times-more : (e : Key × ℕ) (es : List (Key × ℕ)) (q : Key) → same_key q e.0 ≡ true → times (e ∷ es) q ≡ 1 + times es q
times-more e es q t = ap (λ b. cond b (1 + times es q) (times es q)) t

times-same : (e : Key × ℕ) (es : List (Key × ℕ)) (q : Key) → same_key q e.0 ≡ false → times (e ∷ es) q ≡ times es q
times-same e es q f = ap (λ b. cond b (1 + times es q) (times es q)) f

times-none : (es : List (Key × ℕ)) (q : Key) → has es q ≡ false → times es q ≡ 0
times-none [] q e = refl
times-none (x ∷ es) q e = let n = or-none (same_key q x.0) (has es q) e in times-same x es q n.0 ∙ times-none es q n.1

none-times : (es : List (Key × ℕ)) (q : Key) → times es q ≡ 0 → has es q ≡ false
none-times [] q e = refl
none-times (x ∷ es) q e = elim (cases (same_key q x.0)) [
  | inl t ↦ absurd (omega (arith, times-more x es q t, e))
  | inr f ↦ ap (λ b. b || has es q) f ∙ none-times es q (sym (times-same x es q f) ∙ e)
]

once-times : (es : List (Key × ℕ)) → cost.IsOnce same_key es → (q : Key) → times es q ≤ 1
once-times [] o q = omega arith
once-times (x ∷ es) o q = elim (cases (same_key q x.0)) [
  | inl t ↦ omega (arith, times-more x es q t, times-none es q (ap (has es) (same_key-true q x.0 t) ∙ o.0))
  | inr f ↦ omega (arith, times-same x es q f, once-times es o.1 q)
]

times-once : (es : List (Key × ℕ)) → ((q : Key) → times es q ≤ 1) → cost.IsOnce same_key es
times-once [] h = tt
times-once (x ∷ es) h = (none-times es x.0 (omega (arith, times-more x es x.0 (same_key-self x.0), h x.0)), times-once es (λ q. less q (h q)))
  where
    less : (q : Key) → times (x ∷ es) q ≤ 1 → times es q ≤ 1
    less q l = elim (cases (same_key q x.0)) [ inl t ↦ omega (arith, times-more x es q t, l) | inr f ↦ omega (arith, times-same x es q f, l) ]

-- another order keeps each key once
IsOnce-permutation : (es fs : List (Key × ℕ)) → IsPermutation es fs → cost.IsOnce same_key es → cost.IsOnce same_key fs
IsOnce-permutation es fs p o = times-once fs (λ q. omega (arith, sum_by-IsPermutation (λ e. cond (same_key q e.0) 1 0) es fs p, once-times es o q, times-count q es, times-count q fs))

-- an entry that comes while the cache has room for all keys pays for two steps more
IsPaid-put : (keys : List Key) (earlier before after cap : ℕ) (fresh new : List (Key × ℕ)) (k : Key) (v : ℕ) → cost.IsFront same_key keys fresh
    → after + 2 * earlier ≤ before + 3 + 2 * length fresh → among keys k ≡ true → has fresh k ≡ false → length keys ≤ cap
    → (length fresh < cap → IsPermutation ((k, v) ∷ fresh) new) → cost.IsPaid same_key keys earlier before after new
IsPaid-put keys earlier before after cap fresh new k v is_front paid in' none room put =
    let moved = put (omega (arith, most, room)) in
    record {
      is_front = record {
        among = λ q h. in-front q (list_any-IsPermutation (λ e. same_key q e.0) ((k, v) ∷ fresh) new moved ∙ h);
        once = IsOnce-permutation ((k, v) ∷ fresh) new moved (none, is_front.once);
      };
      cost = omega (arith, paid, length_permutation ((k, v) ∷ fresh) new moved);
    }
  where
    in-front : (q : Key) → has ((k, v) ∷ fresh) q ≡ true → among keys q ≡ true
    in-front q h = elim (or-cases (same_key q k) (has fresh q) h) [ inl here ↦ subst (λ x. among keys x ≡ true) (sym (same_key-true q k here)) in' | inr there ↦ is_front.among q there.1 ]

    most : length fresh + 1 ≤ length keys
    most = omega (arith, IsFront-length ((k, v) ∷ fresh) keys (none, is_front.once) in-front)

-- growth keeps a closed list closed
pub IsClosed-grows : (levels : ℕ) (old new : List Triple) → IsGrowth old new → (keys : List Key) → cost.IsClosed same_key levels old keys → cost.IsClosed same_key levels new keys
IsClosed-grows levels old new g keys a = record {
  operands = λ k h. Has-grows old new g (highest_of k) (a.operands k h);
  closed = λ k h bit unsettled. let same = side k h bit in subst (λ x. among keys (key_of x) ≡ true) same (a.closed k h bit (subst IsOpen (sym same) unsettled));
}
  where
    side : (k : Operation) → among keys (key_of k) ≡ true → (bit : Bool) → with_operands (part_of old (top_of levels old k) bit) k ≡ with_operands (part_of new (top_of levels new k) bit) k
    side k h bit =
        ap (λ l. with_operands (part_of old l bit) k) (sym (top_of-grows levels old new g k (a.operands k h)))
        ∙ with_operands-same (part_of old (top_of levels new k) bit) (part_of new (top_of levels new k) bit) k (λ r le. sym (part_of-grows old new g (top_of levels new k) bit r (omega (arith, a.operands k h))))

-- an answer that the operands show, or an entry, takes one step
pub IsCheap-answered : (levels : ℕ) (table : List Triple) (key : Operation) (cap : ℕ) (old new : List (Key × ℕ)) (before after : ℕ) → after ≡ before + 1 → new ≡ old → cost.IsCheap same_key levels table key cap old before after new
IsCheap-answered levels table key cap old new before after tick same = record {
  paid = λ keys closed in' room is_front. record { is_front = subst (cost.IsFront same_key keys) (sym same) is_front; cost = omega (arith, tick, ap (λ es. length es) same) };
}

-- both sides, and the entry that is put
pub IsCheap-whole : (levels : ℕ) (old grown : List Triple) → IsGrowth old grown → (key low high : Operation) → IsOpen key → (level : ℕ) → level ≡ top_of levels old key
    → low ≡ with_operands (part_of old level false) key → high ≡ with_operands (part_of old level true) key
    → (cap : ℕ) (start first second new : List (Key × ℕ)) (v before middle after : ℕ)
    → cost.IsCheap same_key levels old low cap start (before + 1) middle first → cost.IsCheap same_key levels grown high cap first middle after second
    → has second (key_of key) ≡ false → (length second < cap → IsPermutation ((key_of key, v) ∷ second) new) → cost.IsCheap same_key levels old key cap start before after new
IsCheap-whole levels old grown g key low high unsettled level top e f cap start first second new v before middle after a b absent put = record {
  paid = λ keys closed in' room is_front.
      let here : among keys (key_of key) ≡ true = in' unsettled in
      let low_in : IsOpen low → among keys (key_of low) ≡ true = λ o. side keys closed here false low (e ∙ ap (λ l. with_operands (part_of old l false) key) top) o in
      let high_in : IsOpen high → among keys (key_of high) ≡ true = λ o. side keys closed here true high (f ∙ ap (λ l. with_operands (part_of old l true) key) top) o in
      let p = a.paid keys closed low_in room is_front in
      let q = b.paid keys (IsClosed-grows levels old grown g keys closed) high_in room p.is_front in
      IsPaid-put keys (length start) before after cap second new (key_of key) v q.is_front (omega (arith, p.cost, q.cost)) here absent room put;
}
  where
    side : (keys : List Key) → cost.IsClosed same_key levels old keys → among keys (key_of key) ≡ true → (bit : Bool) (k : Operation) → k ≡ with_operands (part_of old (top_of levels old key) bit) key → IsOpen k → among keys (key_of k) ≡ true
    side keys closed here bit k same unsettled = subst (λ x. among keys (key_of x) ≡ true) (sym same) (closed.closed key here bit (subst IsOpen same unsettled))

-- a call that finds no fresh entry
pub IsBounded-cheap : (levels : ℕ) (table : List Triple) (key : Operation) (cap : ℕ) (old new : List (Key × ℕ)) (before after : ℕ) → old ≡ [] → cost.IsCheap same_key levels table key cap old before after new → cost.IsBounded same_key levels table key cap before after
IsBounded-cheap levels table key cap old new before after none cheap = record {
  bound = λ keys closed in' room.
      let p = cheap.paid keys closed in' room (subst (cost.IsFront same_key keys) (sym none) (record { among = λ q h. absurd (true≢false (sym h)); once = tt })) in
      omega (arith, p.cost, IsFront-length new keys p.is_front.once p.is_front.among);
}

pub IsBounded-frugal : (levels : ℕ) (table : List Triple) (key : Operation) (cap : ℕ) (fresh all : List (Key × ℕ)) (before after : ℕ) → fresh ≡ [] → cost.IsFrugal same_key levels table key cap fresh all before after → cost.IsBounded same_key levels table key cap before after
IsBounded-frugal levels table key cap fresh all before after none frugal = record {
  bound = λ keys closed in' room.
      let p = frugal.spent keys closed in' room (subst (cost.IsFront same_key keys) (sym none) (record { among = λ q h. absurd (true≢false (sym h)); once = tt })) in
      omega (arith, p.cost, IsFront-length p.done keys p.is_front.once p.is_front.among);
}

-- a key with an entry, and an entry's key
has-entry : (es : List (Key × ℕ)) (q : Key) → has es q ≡ true → (r : ℕ) × Contains es (q, r)
has-entry es q h = by (lookup (same_key q) es) refl
  where
    by : (o : Option ℕ) → lookup (same_key q) es ≡ o → (r : ℕ) × Contains es (q, r)
    by None e = absurd (true≢false (sym h ∙ lookup-none es q e))
    by (Some r) e = (r, Contains-from_lookup same_key-true q r es e)

entry-has : (es : List (Key × ℕ)) (q : Key) (r : ℕ) → Contains es (q, r) → has es q ≡ true
entry-has es q r c = elim (cases (has es q)) [ inl t ↦ t | inr f ↦ absurd (found-entry (same_key q) es q r c (same_key-self q) (lookup-absent es q f)) ]

-- what comes to the entries comes to their keys
pub has-others : (es fs : List (Key × ℕ)) (k : Key) (v : ℕ) → ((q : Key) (r : ℕ) → Contains fs (q, r) → ((q ≡ k) × (r ≡ v)) ⊎ Contains es (q, r)) → (q : Key) → has fs q ≡ true → (has es q ≡ true) ⊎ (q ≡ k)
has-others es fs k v h q t =
    let f = has-entry fs q t in
    elim (h q f.0 f.1) [ inl new ↦ inr new.0 | inr old ↦ inl (entry-has es q f.0 old) ]

-- the same with equal parts
pub IsCheap-same : (levels levels' : ℕ) (table : List Triple) (key : Operation) (cap cap' : ℕ) (old old' : List (Key × ℕ)) (before before' after : ℕ) (new : List (Key × ℕ)) → levels ≡ levels' → cap ≡ cap' → old ≡ old' → before ≡ before'
    → cost.IsCheap same_key levels table key cap old before after new → cost.IsCheap same_key levels' table key cap' old' before' after new
IsCheap-same levels levels' table key cap cap' old old' before before' after new a b c d h =
    subst (λ l. cost.IsCheap same_key l table key cap' old' before' after new) a
    (subst (λ x. cost.IsCheap same_key levels table key x old' before' after new) b
    (subst (λ es. cost.IsCheap same_key levels table key cap es before' after new) c
    (subst (λ n. cost.IsCheap same_key levels table key cap old n after new) d h)))

pub IsFrugal-same : (levels levels' : ℕ) (table : List Triple) (key : Operation) (cap cap' : ℕ) (fresh fresh' all all' : List (Key × ℕ)) (before before' after : ℕ) → levels ≡ levels' → cap ≡ cap' → fresh ≡ fresh' → all ≡ all' → before ≡ before'
    → cost.IsFrugal same_key levels table key cap fresh all before after → cost.IsFrugal same_key levels' table key cap' fresh' all' before' after
IsFrugal-same levels levels' table key cap cap' fresh fresh' all all' before before' after a b c d e h =
    subst (λ l. cost.IsFrugal same_key l table key cap' fresh' all' before' after) a
    (subst (λ x. cost.IsFrugal same_key levels table key x fresh' all' before' after) b
    (subst (λ es. cost.IsFrugal same_key levels table key cap es all' before' after) c
    (subst (λ es. cost.IsFrugal same_key levels table key cap fresh es before' after) d
    (subst (λ n. cost.IsFrugal same_key levels table key cap fresh all n after) e h))))

-- the key itself pays for what a refused call took beyond its sides
IsSpent-key : (keys : List Key) (key : Operation) (earlier : ℕ) (old done : List (Key × ℕ)) (side before after : ℕ) → among keys (key_of key) ≡ true → has old (key_of key) ≡ false → side < weight_of key → cost.IsFront same_key keys done
    → ((q : Key) → has done q ≡ true → (has old q ≡ true) ⊎ (key_weight q ≤ side)) → after + 2 * earlier ≤ before + 3 + 2 * length done → cost.IsSpent same_key keys earlier old (weight_of key) before after
IsSpent-key keys key earlier old done side before after here none less is_front bounded paid = record {
  done = (key_of key, 0) ∷ done;
  is_front = record {
    among = λ q h. elim (or-cases (same_key q (key_of key)) (has done q) h) [ inl same ↦ subst (λ x. among keys x ≡ true) (sym (same_key-true q (key_of key) same)) here | inr there ↦ is_front.among q there.1 ];
    once = (absent (cases (has done (key_of key))), is_front.once);
  };
  bounded = λ q h. elim (or-cases (same_key q (key_of key)) (has done q) h) [
    | inl same ↦ inr (omega (arith, ap key_weight (same_key-true q (key_of key) same)))
    | inr there ↦ elim (bounded q there.1) [ inl x ↦ inl x | inr x ↦ inr (omega arith) ]
  ];
  cost = omega (arith, paid);
}
  where
    absent : (has done (key_of key) ≡ true) ⊎ (has done (key_of key) ≡ false) → has done (key_of key) ≡ false
    absent (inr f) = f
    absent (inl t) = elim (bounded (key_of key) t) [ inl x ↦ absurd (true≢false (sym x ∙ none)) | inr x ↦ absurd (omega arith) ]

module _ (levels : ℕ) (old : List Triple) (key : Operation) (cap : ℕ) (fresh start : List (Key × ℕ)) (before after : ℕ) (unsettled : IsOpen key) (none : has start (key_of key) ≡ false) (level : ℕ) (top : level ≡ top_of levels old key) where
  side-in : (keys : List Key) → cost.IsClosed same_key levels old keys → among keys (key_of key) ≡ true → (bit : Bool) (k : Operation) → k ≡ with_operands (part_of old level bit) key → IsOpen k → among keys (key_of k) ≡ true
  side-in keys closed here bit k same some =
      let at : k ≡ with_operands (part_of old (top_of levels old key) bit) key = same ∙ ap (λ l. with_operands (part_of old l bit) key) top in
      subst (λ x. among keys (key_of x) ≡ true) (sym at) (closed.closed key here bit (subst IsOpen at some))

  pub IsFrugal-low : (low : Operation) → low ≡ with_operands (part_of old level false) key → weight_of low < weight_of key → cost.IsFrugal same_key levels old low cap fresh start (before + 1) after
      → cost.IsFrugal same_key levels old key cap fresh start before after
  IsFrugal-low low e less a = record {
    spent = λ keys closed in' room is_front.
        let here = in' unsettled in
        let p = a.spent keys closed (side-in keys closed here false low e) room is_front in
        IsSpent-key keys key (length fresh) start p.done (weight_of low) before after here none less p.is_front p.bounded (omega (arith, p.cost));
  }

  module _ (grown : List Triple) (g : IsGrowth old grown) (low high : Operation) (e : low ≡ with_operands (part_of old level false) key) (f : high ≡ with_operands (part_of old level true) key)
      (low_less : weight_of low < weight_of key) (high_less : weight_of high < weight_of key) (fresh1 first : List (Key × ℕ)) (middle : ℕ)
      (adds : (q : Key) → has first q ≡ true → (has start q ≡ true) ⊎ (key_weight q ≤ weight_of low)) (a : cost.IsCheap same_key levels old low cap fresh (before + 1) middle fresh1) where
    pub IsFrugal-high : cost.IsFrugal same_key levels grown high cap fresh1 first middle after → cost.IsFrugal same_key levels old key cap fresh start before after
    IsFrugal-high b = record {
      spent = λ keys closed in' room is_front.
          let here = in' unsettled in
          let p = a.paid keys closed (side-in keys closed here false low e) room is_front in
          let q = b.spent keys (IsClosed-grows levels old grown g keys closed) (side-in keys closed here true high f) room p.is_front in
          IsSpent-key keys key (length fresh) start q.done (max (weight_of low) (weight_of high)) before after here none (omega arith) q.is_front
          (λ k h. elim (q.bounded k h) [ inl x ↦ elim (adds k x) [ inl y ↦ inl y | inr y ↦ inr (omega arith) ] | inr x ↦ inr (omega arith) ]) (omega (arith, p.cost, q.cost));
    }

    pub IsFrugal-made : (fresh2 older : List (Key × ℕ)) → ((q : Key) → has (fresh2 ++ older) q ≡ true → (has first q ≡ true) ⊎ (key_weight q ≤ weight_of high)) → cost.IsCheap same_key levels grown high cap fresh1 middle after fresh2
        → cost.IsFrugal same_key levels old key cap fresh start before after
    IsFrugal-made fresh2 older more b = record {
      spent = λ keys closed in' room is_front.
          let here = in' unsettled in
          let p = a.paid keys closed (side-in keys closed here false low e) room is_front in
          let q = b.paid keys (IsClosed-grows levels old grown g keys closed) (side-in keys closed here true high f) room p.is_front in
          IsSpent-key keys key (length fresh) start fresh2 (max (weight_of low) (weight_of high)) before after here none (omega arith) q.is_front
          (λ k h. elim (more k (has-append fresh2 older k ∙ ap (λ x. x || has older k) h)) [
            | inl x ↦ elim (adds k x) [ inl y ↦ inl y | inr y ↦ inr (omega arith) ]
            | inr x ↦ inr (omega arith)
          ]) (omega (arith, p.cost, q.cost));
    }
