-- Ways along the edges of a graph, and lists to which a member comes.
use Rattle.std.proofs.Common.{◌≡◌, refl, subst, ℕ, suc, ◌-◌, ◌<◌, ◌≤◌, arith, List, [], ◌∷◌, ◌++◌, length, get_or, take, ◌⊎◌, inl, inr}
use Rattle.std.specs.Prelude.{sum_by}
use Rattle.std.proofs.lemmas.List.Sums.{sum_by-cons}
use Rattle.std.proofs.lemmas.List.{get_or_append_left, get_or_push, length_push, get_or-take, length-take-le}
use Rattle.std.proofs.lemmas.Bool.{cases_lt}
use Rattle.graph_order.specs.Graphs.{HasEdge, LeadsTo, CanReach}

pub reach_trans : {f t : List ℕ} {a b c : ℕ} → CanReach f t a b → CanReach f t b c → CanReach f t a c
reach_trans CanReach.here r = r
reach_trans (CanReach.on e q) r = CanReach.on e (reach_trans q r)

pub reach_edge : {f t : List ℕ} {a b : ℕ} → HasEdge f t a b → CanReach f t a b
reach_edge e = CanReach.on e CanReach.here

pub reach_at : {f t : List ℕ} {a b c d : ℕ} → a ≡ c → b ≡ d → CanReach f t a b → CanReach f t c d
reach_at {f} {t} {b} {c} p q r = subst (λ z. CanReach f t c z) q (subst (λ z. CanReach f t z b) p r)

pub leads_edge : {f t : List ℕ} {a b c : ℕ} → HasEdge f t a b → CanReach f t b c → LeadsTo f t a c
leads_edge e CanReach.here = LeadsTo.one e
leads_edge e (CanReach.on d r) = LeadsTo.more e (leads_edge d r)

-- two nodes that reach one another
pub leads_apart : {f t : List ℕ} {a b : ℕ} → CanReach f t a b → CanReach f t b a → (a ≡ b → ⊥) → LeadsTo f t a a
leads_apart CanReach.here back apart = absurd (apart refl)
leads_apart (CanReach.on e r) back apart = leads_edge e (reach_trans r back)

-- ---- a list to which a member comes

pub push_old : {X : Type 0} (xs : List X) (y : X) (i : ℕ) (d : X) → i < length xs → get_or (xs ++ y ∷ []) i d ≡ get_or xs i d
push_old xs y i d h = get_or_append_left xs (y ∷ []) d i h

pub push_new : {X : Type 0} (xs : List X) (y d : X) → get_or (xs ++ y ∷ []) (length xs) d ≡ y
push_new xs y d = get_or_push xs y d (length xs) refl

-- the index is an old one, or the new one
pub push_index : {X : Type 0} (xs : List X) (y : X) (i : ℕ) → i < length (xs ++ y ∷ []) → (i < length xs) ⊎ (i ≡ length xs)
push_index xs y i h = go (cases_lt i (length xs))
  where
    go : (i < length xs) ⊎ (length xs ≤ i) → (i < length xs) ⊎ (i ≡ length xs)
    go (inl low) = inl low
    go (inr high) = inr (omega (arith, length_push xs y))

pub push_up : {X : Type 0} (xs : List X) (y : X) (i : ℕ) → i < length xs → i < length (xs ++ y ∷ [])
push_up xs y i h = omega (arith, length_push xs y)

pub push_last : {X : Type 0} (xs : List X) (y : X) → length xs < length (xs ++ y ∷ [])
push_last xs y = omega (arith, length_push xs y)

-- ---- a list from which the last member is taken

pub popped_length : (xs : List ℕ) → length (take (length xs - 1) xs) ≡ length xs - 1
popped_length xs = length-take-le (length xs - 1) xs (omega arith)

pub popped_old : (xs : List ℕ) (i : ℕ) → i < length xs - 1 → get_or (take (length xs - 1) xs) i 0 ≡ get_or xs i 0
popped_old xs i h = get_or-take (length xs - 1) xs i 0 h

-- ---- sums

pub sum_same : {X : Type 0} (f : X → ℕ) (d : X) (xs ys : List X) → length xs ≡ length ys → ((i : ℕ) → i < length xs → f (get_or xs i d) ≡ f (get_or ys i d)) → sum_by f xs ≡ sum_by f ys
sum_same f d [] [] l same = refl
sum_same f d [] (y ∷ ys) l same = absurd (omega (arith, l))
sum_same f d (x ∷ xs) [] l same = absurd (omega (arith, l))
sum_same f d (x ∷ xs) (y ∷ ys) l same =
    let tails = sum_same f d xs ys (omega (arith, l)) (λ i h. same (suc i) (omega (arith, h))) in
    let heads : f x ≡ f y = same 0 (omega arith) in
    omega (arith, sum_by-cons f x xs, sum_by-cons f y ys, heads, tails)
