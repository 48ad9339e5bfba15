-- What is added to a list call by call.
use Rattle.std.proofs.Common.{◌≡◌, ℕ, zero, suc, ◌+◌, ◌<◌, ◌≤◌, true, List, [], ◌∷◌, ◌++◌, length, map, take, drop, get_or, flat_map, Result, Ok, Err, refl, sym, ◌∙◌, ap, ap₂, subst, arith, append-nil, append_assoc, length-append}
use Rattle.std.specs.Prelude.{IfOk}
use Rattle.std.proofs.lemmas.List.{map-append}
use Rattle.region_sets.specs.declared.pins.SetRefusal.{SetRefusal}
use Rattle.region_sets.specs.declared.pins.SetRefusal.TheVariants.{Memory}
use Rattle.region_sets.specs.Sets.{Sets, Adds, IsCall, is_one_of}
use Rattle.region_sets.proofs.Slots.{is_one_of-left, is_one_of-right}
use Rattle.region_sets.proofs.Changes.{adds_nothing, stays}
use Rattle.region_sets.proofs.Calls.{then_call, let_go, holds_more}
use Rattle.rank_extract.specs.Made.{total, AreAdded}

-- ---- answers that are handed on

pub to_err : {T U : Type 0} {h : ℕ} {a b : Sets} {xs : List ℕ} (e : SetRefusal) → IsCall h {T = T} a b xs (Err e) → IsCall h {T = U} a b xs (Err e)
to_err e p = record { pins = p.pins; refusal = p.refusal; fulls = p.fulls; spare = p.spare }

pub to_ok : {T U : Type 0} {h : ℕ} {a b : Sets} {xs : List ℕ} {r : Result T SetRefusal} (x : U) → IsCall h a b xs r → IsCall h {T = U} a b xs (Ok x)
to_ok x p = record { pins = p.pins; refusal = tt; fulls = p.fulls; spare = p.spare }

pub to_memory : {T U : Type 0} {h : ℕ} {a b : Sets} {xs : List ℕ} {r : Result T SetRefusal} → IsCall h a b xs r → IsCall h {T = U} a b xs (Err Memory)
to_memory p = record { pins = p.pins; refusal = tt; fulls = p.fulls; spare = p.spare }

pub nothing_called : {T : Type 0} (h : ℕ) (a : Sets) (x : T) → IsCall h a a [] (Ok x)
nothing_called h a x = record { pins = adds_nothing a; refusal = tt; fulls = omega arith; spare = λ room. refl }

pub total-append : {A : Type 0} (size : A → ℕ) (vs ws : List A) → total size (vs ++ ws) ≡ total size vs + total size ws
total-append size [] ws = omega arith
total-append size (v ∷ vs) ws = omega (arith, total-append size vs ws)

pub flat_map-append : {X Y : Type 0} (f : X → List Y) (xs ys : List X) → flat_map f (xs ++ ys) ≡ flat_map f xs ++ flat_map f ys
flat_map-append f [] ys = refl
flat_map-append f (x ∷ xs) ys = ap (λ zs. f x ++ zs) (flat_map-append f xs ys) ∙ sym (append_assoc (f x) (flat_map f xs) (flat_map f ys))

take_suc : {A : Type 0} (vs : List A) (k : ℕ) (d : A) → k < length vs → take (suc k) vs ≡ take k vs ++ (get_or vs k d ∷ [])
take_suc [] k d lt = absurd (omega arith)
take_suc (v ∷ vs) zero d lt = refl
take_suc (v ∷ vs) (suc k) d lt = ap (λ xs. v ∷ xs) (take_suc vs k d (omega arith))

pub take_next : {A : Type 0} (vs : List A) (k : ℕ) (d : A) → k < length vs → take (k + 1) vs ≡ take k vs ++ (get_or vs k d ∷ [])
take_next vs k d lt = let next : k + 1 ≡ suc k = omega arith in ap (λ i. take i vs) next ∙ take_suc vs k d lt

pub cut_at : {A : Type 0} (vs : List A) (k : ℕ) (d : A) → k < length vs → vs ≡ take k vs ++ ((get_or vs k d ∷ []) ++ drop (suc k) vs)
cut_at [] k d lt = absurd (omega arith)
cut_at (v ∷ vs) zero d lt = refl
cut_at (v ∷ vs) (suc k) d lt = ap (λ xs. v ∷ xs) (cut_at vs k d (omega arith))

pub take_all : {A : Type 0} (vs : List A) (k : ℕ) → length vs ≤ k → take k vs ≡ vs
take_all [] zero le = refl
take_all [] (suc k) le = refl
take_all (v ∷ vs) zero le = absurd (omega arith)
take_all (v ∷ vs) (suc k) le = ap (λ xs. v ∷ xs) (take_all vs k (omega arith))

-- ---- kinds of what holds pins

-- as many sets as pins, and it stands for the same where its pins do
pub record IsKind {X A : Type 0} (own : X → List ℕ) (seen : Sets → X → A) (size : A → ℕ) : Type 0 where
  pub sized : (s : Sets) (x : X) → length (own x) ≡ size (seen s x)
  pub stable : (a b : Sets) (x : X) → ((k : ℕ) → is_one_of k (own x) ≡ true → b.pins k ≡ a.pins k) → seen b x ≡ seen a x

module _ {X A : Type 0} {own : X → List ℕ} {seen : Sets → X → A} {size : A → ℕ} (kind : IsKind own seen size) where
  pub list_sized : (s : Sets) (xs : List X) → length (flat_map own xs) ≡ total size (map (seen s) xs)
  list_sized s [] = refl
  list_sized s (x ∷ xs) = omega (arith, length-append (own x) (flat_map own xs), kind.sized s x, list_sized s xs)

  pub list_stable : (a b : Sets) (xs : List X) → ((k : ℕ) → is_one_of k (flat_map own xs) ≡ true → b.pins k ≡ a.pins k) → map (seen b) xs ≡ map (seen a) xs
  list_stable a b [] same = refl
  list_stable a b (x ∷ xs) same =
      ap₂ (λ v vs. v ∷ vs) (kind.stable a b x (λ k e. same k (is_one_of-left k (own x) (flat_map own xs) e)))
      (list_stable a b xs (λ k e. same k (is_one_of-right k (own x) (flat_map own xs) e)))

  pub nothing_added : {T : Type 0} (a : Sets) (old new : List X) (y : T) → new ≡ old → AreAdded own seen size a a [] old new (Ok y)
  nothing_added a old new y same = record { added = []; longer = same ∙ sym (append-nil old); call = nothing_called 0 a y; views = refl }

  pub one_added : {T U : Type 0} {a b : Sets} {v : A} {r : Result U SetRefusal} (x : X) (old new : List X) (y : T)
      → IsCall (size v) a b (own x) r → seen b x ≡ v → new ≡ old ++ (x ∷ []) → AreAdded own seen size a b (v ∷ []) old new (Ok y)
  one_added {T} {U} {a} {b} {v} x old new y call view pushed = record {
    added = x ∷ [];
    longer = pushed;
    call = subst (λ ks. IsCall (size v + 0) a b ks (Ok y)) (sym (append-nil (own x))) (to_ok y (holds_more (size v + 0) (omega arith) call));
    views = ap (λ w. w ∷ []) view;
  }

  pub one_refused : {T U : Type 0} {a b : Sets} {v : A} (e : SetRefusal) (old : List X) → IsCall (size v) {T = U} a b [] (Err e) → AreAdded {T = T} own seen size a b (v ∷ []) old old (Err e)
  one_refused {T} {U} {a} {b} {v} e old call = record { added = []; longer = sym (append-nil old); call = to_err e (holds_more (size v + 0) (omega arith) call); views = tt }

  pub one_released : {T U : Type 0} {a b c : Sets} {v : A} {r : Result U SetRefusal} (x : X) (old new : List X)
      → IsCall (size v) a b (own x) r → Adds c b (own x) → c.fulls ≡ b.fulls → new ≡ old → AreAdded {T = T} own seen size a c (v ∷ []) old new (Err Memory)
  one_released {T} {U} {a} {b} {c} {v} {r} x old new call back fulls same = record {
    added = [];
    longer = same ∙ sym (append-nil old);
    call = to_memory (holds_more (size v + 0) (omega arith) (let_go {xs = own x} {ys = []} (subst (λ ks. IsCall (size v) a b ks r) (sym (append-nil (own x))) call) back fulls));
    views = tt;
  }

  -- ---- one call after another

  views_then : {T : Type 0} (b c : Sets) (vs ws : List A) (us xs : List X) (r : Result T SetRefusal)
      → ((k : ℕ) → is_one_of k (flat_map own us) ≡ true → c.pins k ≡ b.pins k) → map (seen b) us ≡ vs → IfOk r (λ _. map (seen c) xs ≡ ws) → IfOk r (λ _. map (seen c) (us ++ xs) ≡ vs ++ ws)
  views_then b c vs ws us xs (Ok y) kept p q = map-append (seen c) us xs ∙ ap₂ (λ a b. a ++ b) (list_stable b c us kept ∙ p) q
  views_then b c vs ws us xs (Err e) kept p q = tt

  pub then_added : {T U : Type 0} {a b c : Sets} {vs ws : List A} {old mid new : List X} {y : T} {r : Result U SetRefusal}
      → AreAdded own seen size a b vs old mid (Ok y) → AreAdded own seen size b c ws mid new r → AreAdded own seen size a c (vs ++ ws) old new r
  then_added {T} {U} {a} {b} {c} {vs} {ws} {old} {mid} {new} {y} {r} p q = record {
    added = p.added ++ q.added;
    longer = q.longer ∙ ap (λ zs. zs ++ q.added) p.longer ∙ append_assoc old p.added q.added;
    call = subst (λ ks. IsCall (total size (vs ++ ws)) a c ks r) (sym (flat_map-append own p.added q.added))
        (then_call (total size (vs ++ ws)) p.call q.call (omega (arith, total-append size vs ws)) (omega (arith, total-append size vs ws, list_sized b p.added, ap (total size) p.views)));
    views = views_then b c vs ws p.added q.added r (λ k e. stays q.call.pins k (p.call.pins.there k e)) p.views q.views;
  }

  -- a refusal ends a longer call
  pub ends_early : {T U : Type 0} {a b : Sets} {vs : List A} {old new : List X} {e : SetRefusal} (ws : List A) → AreAdded {T = T} own seen size a b vs old new (Err e) → AreAdded {T = U} own seen size a b (vs ++ ws) old new (Err e)
  ends_early {T} {U} {a} {b} {vs} {old} {new} {e} ws p = record {
    added = p.added;
    longer = p.longer;
    call = to_err e (holds_more (total size (vs ++ ws)) (omega (arith, total-append size vs ws)) p.call);
    views = tt;
  }

  -- ---- in a loop over a list

  pub loop_more : {T U : Type 0} {a b c : Sets} {v : A} {old mid new : List X} {y : T} {z : U} (vs : List A) (k : ℕ) (d : A) → k < length vs → v ≡ get_or vs k d
      → AreAdded own seen size a b (take k vs) old mid (Ok y) → AreAdded own seen size b c (v ∷ []) mid new (Ok z) → AreAdded own seen size a c (take (k + 1) vs) old new (Ok z)
  loop_more {T} {U} {a} {b} {c} {v} {old} {mid} {new} {y} {z} vs k d lt is p q =
      subst (λ ws. AreAdded own seen size a c ws old new (Ok z)) (ap (λ w. take k vs ++ (w ∷ [])) is ∙ sym (take_next vs k d lt)) (then_added p q)

  pub loop_refused : {T U V : Type 0} {a b c : Sets} {v : A} {old mid new : List X} {y : T} {e : SetRefusal} (vs : List A) (k : ℕ) (d : A) → k < length vs → v ≡ get_or vs k d
      → AreAdded own seen size a b (take k vs) old mid (Ok y) → AreAdded {T = U} own seen size b c (v ∷ []) mid new (Err e) → AreAdded {T = V} own seen size a c vs old new (Err e)
  loop_refused {T} {U} {V} {a} {b} {c} {v} {old} {mid} {new} {y} {e} vs k d lt is p q =
      subst (λ ws. AreAdded {T = V} own seen size a c ws old new (Err e))
      (append_assoc (take k vs) (v ∷ []) (drop (suc k) vs) ∙ ap (λ w. take k vs ++ ((w ∷ []) ++ drop (suc k) vs)) is ∙ sym (cut_at vs k d lt))
      (ends_early (drop (suc k) vs) (then_added p q))

  pub loop_done : {T U : Type 0} {a b : Sets} {old new : List X} {y : T} (z : U) (vs : List A) (k : ℕ) → length vs ≤ k
      → AreAdded own seen size a b (take k vs) old new (Ok y) → AreAdded own seen size a b vs old new (Ok z)
  loop_done {T} {U} {a} {b} {old} {new} {y} z vs k le p =
      subst (λ ws. AreAdded own seen size a b ws old new (Ok z)) (take_all vs k le) (record { added = p.added; longer = p.longer; call = to_ok z p.call; views = p.views })
