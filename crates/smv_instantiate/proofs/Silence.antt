-- What a silent rule over a list says of each member and of those before it.
use Rattle.std.proofs.Common.{sym, subst, List, [], ◌∷◌, ◌++◌, inl, inr, append_assoc, append-nil}
use Rattle.std.specs.Prelude.{flat_map}
use Rattle.kripke_model.specs.Refusing.{RefusalRule, Silent, ◌then◌, First}
use Rattle.smv_instantiate.proofs.Members.{In, in_left}

pub silent_first : {R : Type 0} {a b : RefusalRule R} → Silent (a then b) → Silent a
silent_first s r h = s r (inl h)

pub silent_second : {R : Type 0} {a b : RefusalRule R} → Silent (a then b) → Silent b
silent_second s r h = s r (inr (silent_first s, h))

-- P holds of each member after those before it
abbrev pub EachAfter : {A : Type 0} → (List A → A → Type 0) → List A → List A → Type 0
EachAfter P before [] = Unit {0}
EachAfter P before (x ∷ xs) = P before x × EachAfter P (before ++ (x ∷ [])) xs

pub silent_each : {R A : Type 0} (rule : List A → A → RefusalRule R) (before xs : List A) → Silent (First rule before xs) → EachAfter (λ b x. Silent (rule b x)) before xs
silent_each rule before [] s = tt
silent_each rule before (x ∷ xs) s = (λ r h. s r (inl h), silent_each rule (before ++ (x ∷ [])) xs (λ r h. s r (inr (λ q k. s q (inl k), h))))

module _ {A : Type 0} (P : List A → A → Type 0) where
  pub after_in : {x : A} (before xs : List A) → EachAfter P before xs → In x xs → (b : List A) × P b x
  after_in before [] e i = elim i [ ]
  after_in before (y ∷ ys) e In.first = (before, e.0)
  after_in before (y ∷ ys) e (In.later i) = after_in (before ++ (y ∷ [])) ys e.1 i

  -- a member that stands before all of them
  pub after_earlier : {x y : A} (before xs : List A) → EachAfter P before xs → In y before → In x xs → (b : List A) × In y b × P b x
  after_earlier before [] e i j = elim j [ ]
  after_earlier before (z ∷ zs) e i In.first = (before, i, e.0)
  after_earlier before (z ∷ zs) e i (In.later j) = after_earlier (before ++ (z ∷ [])) zs e.1 (in_left before (z ∷ []) i) j

  pub after_left : (before xs ys : List A) → EachAfter P before (xs ++ ys) → EachAfter P before xs
  after_left before [] ys e = tt
  after_left before (x ∷ xs) ys e = (e.0, after_left (before ++ (x ∷ [])) xs ys e.1)

  pub after_right : (before xs ys : List A) → EachAfter P before (xs ++ ys) → (b : List A) × EachAfter P b ys
  after_right before [] ys e = (before, e)
  after_right before (x ∷ xs) ys e = after_right (before ++ (x ∷ [])) xs ys e.1

  -- the part of one member
  pub after_flat : {B : Type 0} (f : B → List A) {x : B} (before : List A) (xs : List B) → EachAfter P before (flat_map f xs) → In x xs → (b : List A) × EachAfter P b (f x)
  after_flat f before [] e i = elim i [ ]
  after_flat f before (y ∷ ys) e In.first = (before, after_left before (f y) (flat_map f ys) e)
  after_flat f before (y ∷ ys) e (In.later i) = let r = after_right before (f y) (flat_map f ys) e in after_flat f r.0 ys r.1 i

  -- what holds of the members before, and stays with one more, holds of all
  pub after_all : (Q : List A → Type 0) → ((b : List A) (x : A) → P b x → Q b → Q (b ++ (x ∷ []))) → (before xs : List A) → EachAfter P before xs → Q before → Q (before ++ xs)
  after_all Q step before [] e q = subst Q (sym (append-nil before)) q
  after_all Q step before (x ∷ xs) e q = subst Q (append_assoc before (x ∷ []) xs) (after_all Q step (before ++ (x ∷ [])) xs e.1 (step before x e.0 q))
